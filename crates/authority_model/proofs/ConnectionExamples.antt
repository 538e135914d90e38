-- Who is connected, and calls that are refused whatever they ask.
use Rattle.std.proofs.Common.{ℕ, List, [], ◌∷◌, ◌++◌, refl}
use Rattle.std.specs.Prelude.{codes}
use Rattle.std.specs.Fmt.{digits}
use Rattle.pk_types.specs.declared.values.Subject.{Subject}
use Rattle.pk_types.specs.declared.values.Implicit.{Implicit}
use Rattle.pk_types.specs.declared.values.Category.{Category}
use Rattle.pk_types.specs.declared.values.Pair.{Pair}
use Rattle.authority_model.specs.declared.event.Call.{Call}
use Rattle.authority_model.specs.declared.event.Event.{Event}
use Rattle.authority_model.specs.declared.message.ErrorCause.{ErrorCause}
use Rattle.authority_model.specs.declared.message.Output.{Output}
use Rattle.authority_model.specs.declared.verdict.Reason.{Reason}
use Rattle.authority_model.specs.Words.{Bytes}
use Rattle.authority_model.specs.Cookies.{hex}
use Rattle.authority_model.proofs.Setup.{Line, Shown, peers_of, setup, load_of, annotated, in_s1, other_processes, event, call, load, check, check_of, refused, yes, changed_1_to_4}

-- a second Connect is answered nothing, and the first one's uid stays
second_connect_does_nothing : Shown (peers_of setup
    ++ event 0 1 (Event.Connect 0) []
    ∷ call 0 1 1 Call.Reload (refused 1 1 ErrorCause.NotPrivileged)
    ∷ check 0 2 (codes "a.yes") (yes 1 2 (Reason.Default Category.Active)) ∷ [])
unfolding hex digits
second_connect_does_nothing = refl

-- A caller that never connected is answered nothing. Its Depart does not count, so its first Connect makes it live.
never_connected : Shown (peers_of setup
    ++ check_of 0 7 1 50 7 (codes "a.yes") []
    ∷ call 0 7 2 Call.Reload []
    ∷ event 0 7 Event.Depart []
    ∷ event 0 7 (Event.Connect 1000) []
    ∷ check_of 0 7 3 50 7 (codes "a.yes") (yes 7 3 (Reason.Default Category.Active)) ∷ [])
unfolding hex digits
never_connected = refl

-- who departed does not come back by another Connect
departed_stays_away : Shown (peers_of setup
    ++ event 0 1 Event.Depart []
    ∷ event 0 1 (Event.Connect 1000) []
    ∷ check 0 1 (codes "a.yes") [] ∷ [])
unfolding hex digits
departed_stays_away = refl

-- a call that cannot be read is refused with its cause
wrong_call_is_refused : Shown (peers_of setup
    ++ call 0 1 1 (Call.Wrong ErrorCause.InvalidArgs) (refused 1 1 ErrorCause.InvalidArgs)
    ∷ call 0 2 1 (Call.Wrong ErrorCause.UnknownMethod) (refused 2 1 ErrorCause.UnknownMethod)
    ∷ call 0 7 1 (Call.Wrong ErrorCause.InvalidArgs) [] ∷ [])
unfolding hex digits
wrong_call_is_refused = refl

-- a message that asks for nothing is answered nothing
passed_is_answered_nothing : Shown (peers_of setup ++ event 0 1 Event.Passed [] ∷ check 0 1 (codes "a.yes") (yes 1 1 (Reason.Default Category.Active)) ∷ [])
unfolding hex digits
passed_is_answered_nothing = refl

-- one pair of details
abbrev one_detail : List Pair
one_detail = record { key = codes "k"; value = codes "v" } ∷ []

-- a check of alice's process with a pair of details
abbrev detailed : ℕ → ℕ → Bytes → List Output → Line
detailed c serial name outputs = call 0 c serial (Call.Check (Subject.Process 50 7) name one_detail 0 []) outputs

-- Details want more than the subject's own user: uid 0, or an owner of the action.
details_want_root_or_owner : Shown (peers_of setup
    ++ detailed 1 1 (codes "a.yes") (refused 1 1 ErrorCause.NotTrusted)
    ∷ detailed 2 1 (codes "a.yes") (yes 2 1 (Reason.Default Category.Active))
    ∷ load 0 (load_of (annotated (codes "a.yes") Implicit.Yes Implicit.Yes Implicit.Yes (record { key = codes "org.freedesktop.policykit.owner"; value = codes "unix-user:alice" } ∷ []) ∷ []) [] (in_s1 ∷ other_processes)) changed_1_to_4
    ∷ detailed 1 2 (codes "a.yes") (yes 1 2 (Reason.Default Category.Active))
    ∷ detailed 3 1 (codes "a.yes") (refused 3 1 ErrorCause.NotTrusted) ∷ [])
unfolding hex digits
details_want_root_or_owner = refl
