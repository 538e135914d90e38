-- Which pending challenges a departure, an Unregister and a load end, and what each of them tells.
use Rattle.std.specs.Prelude.{◌≡◌, ℕ, Bool, not, ◌==◌, ◌&&◌, List, [], ◌∷◌, Option, option_to_list, Result, IfOk, flat_map, if◌then◌else◌}
use Rattle.entry_changes.specs.declared.change.ChallengeChange.{ChallengeChange}
use Rattle.authority_model.specs.declared.journal.Item.{Item}
use Rattle.authority_model.specs.declared.message.Output.{Output}
use Rattle.authority_model.specs.declared.pending.Pending.{Pending}
use Rattle.authority_model.specs.Answers.{answer_departed, answer_loaded, reply_agent_gone}
use Rattle.entry_changes.specs.Changes.{close_all, is_between, stays_listed}
use Rattle.authority_model.specs.Keys.{same_key, key_seen}
use Rattle.journal_view.specs.Seen.{Seen, IsSeenOf}
use Rattle.event_answers.specs.declared.ending.Ended.{Ended}
use Rattle.event_answers.specs.declared.ending.Ending.{Ending}

-- whether a challenge ends
abbrev pub is_ended : Ending → Pending → Bool
is_ended (Ending.Departed c) ch = is_between c ch
is_ended (Ending.Unregistered c key) ch = (ch.agent == c) && same_key ch.agent_key (key_seen key)
is_ended (Ending.Loaded world) ch = not (stays_listed world.now ch)

-- what is told of a challenge: nothing if it stays
abbrev pub told_of : Ending → Pending → List Output
told_of (Ending.Departed c) ch = answer_departed c ch
told_of (Ending.Unregistered c key) ch = if (ch.agent == c) && same_key ch.agent_key (key_seen key) then reply_agent_gone ch else []
told_of (Ending.Loaded world) ch = answer_loaded world.now ch

-- the place of the entry that opened a challenge, if it ends
abbrev pub place_if : Ending → Pending → List ℕ
place_if e ch = if is_ended e ch then ch.entry ∷ [] else []

-- the challenges that these entries opened are closed
abbrev pub closing : List ℕ → ChallengeChange
closing [] = ChallengeChange.Keep
closing (e ∷ es) = ChallengeChange.Close (e ∷ es)

-- what is told of a challenge, if there is one
abbrev pub told_among : Ending → Option Pending → List Output
told_among e ch = flat_map (told_of e) (option_to_list ch)

-- the place of its entry, if there is one and it ends
abbrev pub places_among : Ending → Option Pending → List ℕ
places_among e ch = flat_map (place_if e) (option_to_list ch)

-- the end of challenges tells what each history says that a view shows
abbrev pub EndTells : {E : Type 0} → Seen → Result Ended E → (List Item → List Output) → Type 0
EndTells s end outputs = (past : List Item) → IsSeenOf past s → IfOk end (λ e. e.outputs ≡ outputs past)

-- those end that each history says that a view shows
abbrev pub EndCloses : {E : Type 0} → Seen → Result Ended E → (List Item → List Pending) → Type 0
EndCloses s end closed = (past : List Item) → IsSeenOf past s → IfOk end (λ e. closing e.places ≡ close_all (closed past))
