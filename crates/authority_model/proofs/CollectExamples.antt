-- What a caller collects of the outputs to a connection.
use Rattle.std.proofs.Common.{◌≡◌, List, [], ◌∷◌, ◌++◌, refl, Some}
use Rattle.std.specs.Prelude.{codes, map, reverse}
use Rattle.std.specs.Fmt.{digits}
use Rattle.authority_model.specs.declared.event.Event.{Event}
use Rattle.authority_model.specs.declared.verdict.Reason.{Reason}
use Rattle.authority_model.specs.declared.journal.Item.{Item}
use Rattle.authority_model.specs.Cookies.{hex}
use Rattle.authority_model.specs.Given.{history_of}
use Rattle.authority_model.specs.Legal.{last_moment}
use Rattle.authority_model.specs.Sent.{batch, collected}
use Rattle.authority_model.proofs.Setup.{Line, Shown, with_grant, event, check, changed_to, yes, yes_granted}

-- the history of lines, the newest first
abbrev items : List Line → List Item
items lines = history_of (map (λ l. l.given) (reverse lines))

-- caller 9 collects the outputs to connection 1
abbrev collect : Line
collect = event 0 9 (Event.Collect 1) []

-- a Collect is answered nothing, and needs no connection
collect_is_answered_nothing : Shown (with_grant ++ collect ∷ [])
unfolding hex digits
collect_is_answered_nothing = refl

-- a first batch has the verdict and Changed
first_batch : batch (items with_grant) 9 1 ≡ yes_granted 1 1 (Some 0) ++ changed_to 1 ∷ []
unfolding hex digits
first_batch = refl

-- what was collected is not handed out again
second_batch : batch (items (with_grant ++ collect ∷ [])) 9 1 ≡ []
unfolding hex digits
second_batch = refl

-- what was sent since is handed out alone
third_batch : batch (items (with_grant ++ collect ∷ check 50 2 (codes "a.self") (yes 1 2 (Reason.Grant 0)) ∷ [])) 9 1 ≡ yes 1 2 (Reason.Grant 0)
unfolding hex digits
third_batch = refl

-- each caller collects for itself, and of each connection by itself
other_collector : collected (items (with_grant ++ collect ∷ [])) 8 1 ≡ 0
unfolding hex digits
other_collector = refl

other_connection : batch (items (with_grant ++ collect ∷ [])) 9 3 ≡ changed_to 3 ∷ []
unfolding hex digits
other_connection = refl

-- a Collect has the moment before it
collect_has_the_moment_before : last_moment (items (with_grant ++ collect ∷ [])) ≡ 50
unfolding hex digits
collect_has_the_moment_before = refl
