-- A run of lines only adds items, and leaves how the journal is kept.
use Rattle.std.proofs.Common.{◌≡◌, ◌+◌, ◌++◌, [], ◌∷◌, List, ℕ, Option, Some, None, Result, Ok, Err, refl, sym, ◌∙◌, ap, subst, append_assoc}
use Rattle.authority_model.specs.declared.journal.Item.{Item}
use Rattle.authority_model.specs.declared.load.Loaded.{Loaded}
use Rattle.authority_model.specs.Entering.{Fullness, Reached}
use Rattle.authority_model.specs.Given.{Given, next}
use Rattle.scenario_text.specs.declared.fault.LineKind.{LineKind}
use Rattle.scenario_text.specs.declared.step.Step.{Step}
use Rattle.scenario_text.specs.declared.step.Step.TheVariants as step
use Rattle.scenario_text.specs.Faults.{◌>>=◌}
use Rattle.scenario_text.specs.Lines.{step_of}
use Rattle.scenario_run.specs.Drafts.{drafted}
use Rattle.scenario_run.specs.Room.{Keeping, all_entered, full_at, unless_full as unless_no_room}
use Rattle.scenario_run.specs.Scene.{Outcome, Scene, at_moment, given_for, handed_in, load_of, reached, with_draft, run_step, run_line}
use Rattle.replay_run.specs.Replay.{Ran, after_line, unless_full, run, Extends}

pub same_extends : (past : List Item) → Extends past past
same_extends past = ([], refl)

pub more_extends : (a b c : List Item) → Extends b a → Extends c b → Extends c a
more_extends a b c p q = (q.0 ++ p.0, q.1 ∙ ap (λ r. q.0 ++ r) p.1 ∙ sym (append_assoc q.0 p.0 a))

-- A scene comes after another one: it has its items, maybe more, and its journal is kept in the same way.
record Later (s t : Scene) : Type 0 where
  pub items : Extends t.past s.past
  pub keeping : t.keeping ≡ s.keeping

later_more : (s t u : Scene) → Later s t → Later t u → Later s u
later_more s t u p q = record { items = more_extends s.past t.past u.past p.items q.items; keeping = q.keeping ∙ p.keeping }

-- what is handed in only adds items
all_extends : (keeping : Keeping) (past : List Item) (given : List Given) → Extends (all_entered keeping past given).past past
all_extends keeping past [] = same_extends past
all_extends keeping past (g ∷ given) = of (full_at keeping past) (all_extends keeping (next past g ∷ past) given)
  where
    of : (full : Option Fullness) → Extends (all_entered keeping (next past g ∷ past) given).past (next past g ∷ past)
        → Extends (unless_no_room past full (all_entered keeping (next past g ∷ past) given)).past past
    of (Some full) more = same_extends past
    of None more = more_extends past (next past g ∷ past) (all_entered keeping (next past g ∷ past) given).past (next past g ∷ [], refl) more

outcome_later : (s : Scene) (outcome o : Outcome) → Extends outcome.scene.past s.past → outcome.scene.keeping ≡ s.keeping → outcome ≡ o → Later s o.scene
outcome_later s outcome o g l e = subst (λ (t : Outcome). Later s t.scene) e (record { items = g; keeping = l })

-- a change of the draft leaves the items
draft_later : (r : Result Loaded LineKind) (s : Scene) (o : Outcome) → (r >>= (λ draft. Ok (reached (with_draft s draft)))) ≡ Ok o → Later s o.scene
draft_later (Ok draft) s o e = outcome_later s (reached (with_draft s draft)) o (same_extends s.past) refl (cc)
draft_later (Err k) s o e = absurd (cc)

step_later : (s : Scene) (st : Step) (o : Outcome) → run_step s st ≡ Ok o → Later s o.scene
step_later s step.Blank o e = outcome_later s (reached s) o (same_extends s.past) refl (cc)
step_later s (step.At moment) o e = outcome_later s (reached (at_moment s moment)) o (same_extends s.past) refl (cc)
step_later s step.Reload o e = outcome_later s (handed_in s (load_of s ∷ [])) o (all_extends s.keeping s.past (load_of s ∷ [])) refl (cc)
step_later s (step.Act caller event) o e = outcome_later s (handed_in s (given_for s caller event)) o (all_extends s.keeping s.past (given_for s caller event)) refl (cc)
step_later s other o e = draft_later (drafted s.draft other) s o e

bound_later : (r : Result Step LineKind) (s : Scene) (o : Outcome) → (r >>= run_step s) ≡ Ok o → Later s o.scene
bound_later (Ok st) s o e = step_later s st o e
bound_later (Err k) s o e = absurd (cc)

line_later : (s : Scene) (o : Outcome) (line : List ℕ) → run_line s line ≡ Ok o → Later s o.scene
line_later s o line e = bound_later (step_of line) s o e

full_later : (full : Option Fullness) (s next : Scene) (more : Scene → Ran) → Later s next
    → ((t : Scene) → Later t (more t).scene) → Later s (unless_full next full more).scene
full_later None s next more first rest = later_more s next (more next).scene first (rest next)
full_later (Some full) s next more first rest = first

after_later : (r : Result Outcome LineKind) (n : ℕ) (s : Scene) (line : List ℕ) (more : Scene → Ran) → run_line s line ≡ r
    → ((t : Scene) → Later t (more t).scene) → Later s (after_line n s r more).scene
after_later (Ok o) n s line more e rest = full_later o.full s o.scene more (line_later s o line e) rest
after_later (Err k) n s line more e rest = record { items = same_extends s.past; keeping = refl }

run_later : (lines : List (List ℕ)) (n : ℕ) (s : Scene) → Later s (run lines n s).scene
run_later [] n s = record { items = same_extends s.past; keeping = refl }
run_later (line ∷ lines) n s = after_later (run_line s line) n s line (run lines (n + 1)) refl (λ t. run_later lines (n + 1) t)

pub run_extends : (lines : List (List ℕ)) (n : ℕ) (s : Scene) → Extends (run lines n s).scene.past s.past
run_extends lines n s = (run_later lines n s).items

-- a run leaves how the journal is kept
pub run_keeping : (lines : List (List ℕ)) (n : ℕ) (s : Scene) → (run lines n s).scene.keeping ≡ s.keeping
run_keeping lines n s = (run_later lines n s).keeping
