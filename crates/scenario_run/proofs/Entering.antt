-- What is handed in one thing after another.
use Rattle.std.proofs.Common.{◌≡◌, ℕ, false, List, [], ◌∷◌, ◌++◌, Option, Some, None, Result, Ok, Err, OnOk, OnErr, IfErr, refl, sym, ◌∙◌, ap, subst}
use Rattle.authority_model.specs.declared.event.Event.{Event}
use Rattle.authority_model.specs.declared.journal.Item.{Item}
use Rattle.authority_model.specs.declared.load.Loaded.{Loaded}
use Rattle.authority_model.specs.Entering.{Fullness, Reached, counted_bytes, is_full}
use Rattle.authority_model.specs.Given.{Given, event_given, next}
use Rattle.authority_model.specs.Items.{items_of}
use Rattle.authority_model.specs.Legal.{Legal}
use Rattle.authority_core.specs.Journal.{Journal}
use Rattle.authority_core.specs.Refusals.{IsFullAt, IsHalted}
use Rattle.authority_core.specs.declared.halt.Halt.{Halt}
use Rattle.authority_core.specs.declared.halt.Halt.TheVariants as halt
use Rattle.scenario_run.specs.declared.journal.Refused.{Refused}
use Rattle.scenario_run.specs.declared.journal.Refused.TheVariants as refused
use Rattle.scenario_run.specs.Journals.{IsDue}
use Rattle.scenario_run.specs.Refusals.{refused_by}
use Rattle.scenario_run.specs.Room.{IsInSegments, Keeping, all_entered, full_at, unless_full, whole}
use Rattle.scenario_run.specs.Scene.{Outcome, Scene, first_load, given_for, handed_in, reached, with_past}
use Rattle.scenario_run.specs.ScenarioRuns.{IsFilled, IsRefused}
use Rattle.scenario_run.specs.Text.{IsEntered, text_of}

-- the scene of these parts
abbrev pub seen : Keeping → Loaded → ℕ → List Item → Scene
seen keeping draft moment past = record { keeping = keeping; draft = draft; moment = moment; past = past }

-- a refusal
abbrev refused_at : List Item → Fullness → Reached
refused_at past full = record { past = past; full = Some full }

-- what goes on after a list that was entered
then_all : (keeping : Keeping) (past : List Item) (xs ys : List Given) (there : List Item) → all_entered keeping past xs ≡ record { past = there; full = None }
    → all_entered keeping past (xs ++ ys) ≡ all_entered keeping there ys
then_all keeping past [] ys there e = ap (λ (r : Reached). all_entered keeping r.past ys) e
then_all keeping past (x ∷ xs) ys there e = of (full_at keeping past) (then_all keeping (next past x ∷ past) xs ys there) e
  where
    of : (full : Option Fullness) → (all_entered keeping (next past x ∷ past) xs ≡ record { past = there; full = None } → all_entered keeping (next past x ∷ past) (xs ++ ys) ≡ all_entered keeping there ys)
        → unless_full past full (all_entered keeping (next past x ∷ past) xs) ≡ record { past = there; full = None }
        → unless_full past full (all_entered keeping (next past x ∷ past) (xs ++ ys)) ≡ all_entered keeping there ys
    of (Some full) more e = let f : Some full ≡ None = ap (λ (r : Reached). r.full) e in absurd (cc)
    of None more e = more e

-- nothing goes on after a refusal
then_none : (keeping : Keeping) (past : List Item) (xs ys : List Given) (there : List Item) (full : Fullness) → all_entered keeping past xs ≡ refused_at there full → all_entered keeping past (xs ++ ys) ≡ refused_at there full
then_none keeping past [] ys there full e = let f : None ≡ Some full = ap (λ (r : Reached). r.full) e in absurd (cc)
then_none keeping past (x ∷ xs) ys there full e = of (full_at keeping past) (then_none keeping (next past x ∷ past) xs ys there full) e
  where
    of : (found : Option Fullness) → (all_entered keeping (next past x ∷ past) xs ≡ refused_at there full → all_entered keeping (next past x ∷ past) (xs ++ ys) ≡ refused_at there full)
        → unless_full past found (all_entered keeping (next past x ∷ past) xs) ≡ refused_at there full
        → unless_full past found (all_entered keeping (next past x ∷ past) (xs ++ ys)) ≡ refused_at there full
    of (Some found) more e = e
    of None more e = more e

-- the parts of an outcome
items_then : (s : Scene) (given : List Given) (s' : Scene) (full : Option Fullness) → handed_in s given ≡ record { scene = s'; full = full } → all_entered s.keeping s.past given ≡ record { past = s'.past; full = full }
items_then s given s' full e = ap (λ (o : Outcome). record { past = o.scene.past; full = o.full }) e

keeping_then : (s : Scene) (given : List Given) (s' : Scene) (full : Option Fullness) → handed_in s given ≡ record { scene = s'; full = full } → with_past s s'.past ≡ s'
keeping_then s given s' full e = ap (λ (o : Outcome). with_past s o.scene.past) (sym e) ∙ ap (λ (o : Outcome). o.scene) e

-- a second list is handed in after a first one
pub handed_then : (s s' : Scene) (xs ys : List Given) → handed_in s xs ≡ reached s' → handed_in s (xs ++ ys) ≡ handed_in s' ys
handed_then s s' xs ys e =
    ap (λ (r : Reached). record { scene = with_past s r.past; full = r.full }) (then_all s.keeping s.past xs ys s'.past (items_then s xs s' None e))
    ∙ ap (λ (t : Scene). handed_in t ys) (keeping_then s xs s' None e)

-- a second list is not handed in where the first was refused
pub refused_then : (s s' : Scene) (xs ys : List Given) (full : Fullness) → handed_in s xs ≡ record { scene = s'; full = Some full } → handed_in s (xs ++ ys) ≡ record { scene = s'; full = Some full }
refused_then s s' xs ys full e =
    ap (λ (r : Reached). record { scene = with_past s r.past; full = r.full }) (then_none s.keeping s.past xs ys s'.past full (items_then s xs s' (Some full) e))
    ∙ ap (λ (t : Scene). record { scene = t; full = Some full }) (keeping_then s xs s' (Some full) e)

one_entered : (s : Scene) (g : Given) (items : List Item) → full_at s.keeping s.past ≡ None → items ≡ next s.past g ∷ s.past → handed_in s (g ∷ []) ≡ reached (with_past s items)
one_entered s g items room is = rw room (ap (λ (p : List Item). reached (with_past s p)) (sym is))

one_refused : (s : Scene) (g : Given) (full : Fullness) → full_at s.keeping s.past ≡ Some full → handed_in s (g ∷ []) ≡ record { scene = s; full = Some full }
one_refused s g full found = rw found refl

-- the journal entered what was handed in
pub entered_as : (s : Scene) (keeping keeping' : Keeping) (draft : Loaded) (moment : ℕ) (past past' : List Item) (g : Given) → seen keeping draft moment past ≡ s → keeping' ≡ keeping → full_at keeping past ≡ None
    → past' ≡ next past g ∷ past → handed_in s (g ∷ []) ≡ reached (seen keeping' draft moment past')
entered_as s keeping keeping' draft moment past past' g is same room item =
    subst (λ (t : Scene). handed_in t (g ∷ []) ≡ reached (seen keeping' draft moment past')) is
    (one_entered (seen keeping draft moment past) g past' room item ∙ ap (λ (l : Keeping). reached (seen l draft moment past')) (sym same))

-- one more item is on top
pub one_more_entered : (s : Scene) (keeping : Keeping) (draft : Loaded) (moment : ℕ) (past past' : List Item) (g : Given) → seen keeping draft moment past ≡ s → past' ≡ next past g ∷ past → IsEntered s.past past'
one_more_entered s keeping draft moment past past' g is item = subst (λ (t : Scene). IsEntered t.past past') is (record {
  item = next past g;
  past = past;
  whole = item;
  text = refl;
  counts = refl;
})

-- the journal was full
filled_as : (s : Scene) (keeping keeping' : Keeping) (draft : Loaded) (moment : ℕ) (past past' : List Item) (g : Given) (full : Fullness) → seen keeping draft moment past ≡ s → keeping' ≡ keeping → past' ≡ past → Legal past'
    → full_at keeping past ≡ Some full → IsFilled s (seen keeping' draft moment past') full.entries full.bytes (handed_in s (g ∷ []))
filled_as s keeping keeping' draft moment past past' g full is same items legal found = record {
  led = subst (λ (t : Scene). handed_in t (g ∷ []) ≡ record { scene = seen keeping' draft moment past'; full = Some full }) is
      (one_refused (seen keeping draft moment past) g full found
      ∙ ap (λ (l : Keeping). record { scene = seen l draft moment past; full = Some full }) (sym same)
      ∙ ap (λ (p : List Item). record { scene = seen keeping' draft moment p; full = Some full }) (sym items));
  text = ap text_of items ∙ ap (λ (t : Scene). text_of t.past) is;
  legal = legal;
}

-- the journal refused what was handed in
refused_as : (r : Refused) (s : Scene) (keeping keeping' : Keeping) (draft : Loaded) (moment : ℕ) (past past' : List Item) (g : Given) → seen keeping draft moment past ≡ s → keeping' ≡ keeping → past' ≡ past → Legal past'
    → IsDue keeping past r → IsRefused s (seen keeping' draft moment past') (handed_in s (g ∷ [])) r
refused_as (refused.Full full) s keeping keeping' draft moment past past' g is same items legal due =
    filled_as s keeping keeping' draft moment past past' g (record { entries = full.entries; bytes = full.bytes }) is same items legal due
refused_as refused.SegmentFault s keeping keeping' draft moment past past' g is same items legal due = subst (λ (t : Scene). IsInSegments t.keeping) is due
refused_as refused.NoMemory s keeping keeping' draft moment past past' g is same items legal due = tt

-- and so where it answers with a refusal
pub refused_so : (r : Result (Unit {0}) Refused) (s : Scene) (keeping keeping' : Keeping) (draft : Loaded) (moment : ℕ) (past past' : List Item) (g : Given) → seen keeping draft moment past ≡ s → keeping' ≡ keeping
    → OnErr r (past' ≡ past) → Legal past' → IfErr r (IsDue keeping past) → IfErr r (IsRefused s (seen keeping' draft moment past') (handed_in s (g ∷ [])))
refused_so (Ok done) s keeping keeping' draft moment past past' g is same items legal due = tt
refused_so (Err r) s keeping keeping' draft moment past past' g is same items legal due = refused_as r s keeping keeping' draft moment past past' g is same items legal due

-- it entered what was handed in where it answers so
pub entered_so : (r : Result (Unit {0}) Refused) (s : Scene) (keeping keeping' : Keeping) (draft : Loaded) (moment : ℕ) (past past' : List Item) (g : Given) → seen keeping draft moment past ≡ s → keeping' ≡ keeping
    → OnOk r (full_at keeping past ≡ None) → OnOk r (past' ≡ next past g ∷ past) → OnOk r (handed_in s (g ∷ []) ≡ reached (seen keeping' draft moment past'))
entered_so (Ok done) s keeping keeping' draft moment past past' g is same room item = entered_as s keeping keeping' draft moment past past' g is same room item
entered_so (Err r) s keeping keeping' draft moment past past' g is same room item = tt

pub one_more_so : (r : Result (Unit {0}) Refused) (s : Scene) (keeping : Keeping) (draft : Loaded) (moment : ℕ) (past past' : List Item) (g : Given) → seen keeping draft moment past ≡ s
    → OnOk r (past' ≡ next past g ∷ past) → OnOk r (IsEntered s.past past')
one_more_so (Ok done) s keeping draft moment past past' g is item = one_more_entered s keeping draft moment past past' g is item
one_more_so (Err r) s keeping draft moment past past' g is item = tt

-- an event that is handed in after the first load has the same moment
event_then : (s s' : Scene) (caller : ℕ) (event : Event) → handed_in s (first_load s s.past) ≡ reached s' → handed_in s (given_for s caller event) ≡ handed_in s' (event_given caller s'.moment 0 event ∷ [])
event_then s s' caller event e =
    handed_then s s' (first_load s s.past) (event_given caller s.moment 0 event ∷ []) e
    ∙ ap (λ m. handed_in s' (event_given caller m 0 event ∷ [])) (ap (λ (t : Scene). t.moment) (keeping_then s (first_load s s.past) s' None e))

-- the event was entered after the first load
pub event_entered : {E : Type 0} (r : Result (Unit {0}) E) (s s' t : Scene) (caller : ℕ) (event : Event) → handed_in s (first_load s s.past) ≡ reached s'
    → OnOk r (handed_in s' (event_given caller s'.moment 0 event ∷ []) ≡ reached t) → OnOk r (handed_in s (given_for s caller event) ≡ reached t)
event_entered (Ok done) s s' t caller event e entered = event_then s s' caller event e ∙ entered
event_entered (Err k) s s' t caller event e entered = entered

-- the event was refused after the first load
pub event_refused : (r : Result (Unit {0}) Refused) (s s' t : Scene) (caller : ℕ) (event : Event) → handed_in s (first_load s s.past) ≡ reached s' → text_of s'.past ≡ text_of s.past
    → IfErr r (IsRefused s' t (handed_in s' (event_given caller s'.moment 0 event ∷ []))) → IfErr r (IsRefused s t (handed_in s (given_for s caller event)))
event_refused (Ok done) s s' t caller event e text is = is
event_refused (Err (refused.Full full)) s s' t caller event e text is = record { led = event_then s s' caller event e ∙ is.led; text = is.text ∙ text; legal = is.legal }
event_refused (Err refused.SegmentFault) s s' t caller event e text is = subst (λ (x : Scene). IsInSegments x.keeping) (sym (keeping_then s (first_load s s.past) s' None e)) is
event_refused (Err refused.NoMemory) s s' t caller event e text is = tt

-- the first load was refused, and nothing is handed in after it
pub first_refused : (r : Refused) (s s' : Scene) (caller : ℕ) (event : Event) → IsRefused s s' (handed_in s (first_load s s.past)) r → IsRefused s s' (handed_in s (given_for s caller event)) r
first_refused (refused.Full full) s s' caller event is = record {
  led = refused_then s s' (first_load s s.past) (event_given caller s.moment 0 event ∷ []) _ is.led;
  text = is.text;
  legal = is.legal;
}
first_refused refused.SegmentFault s s' caller event is = is
first_refused refused.NoMemory s s' caller event is = tt

-- an authority that is full has no room
pub full_of : (j : Journal) (entries bytes : ℕ) → IsFullAt j entries bytes → full_at (whole j.limits) (items_of j.history) ≡ Some (record { entries = entries; bytes = bytes })
full_of j entries bytes full = rw full.full
    (ap (λ n. Some (record { entries = n; bytes = counted_bytes (items_of j.history) })) (sym full.entries_are) ∙ ap (λ n. Some (record { entries = entries; bytes = n })) (sym full.bytes_are))

-- one that halted refuses so
pub halted_due : (j : Journal) (h : Halt) → IsHalted j h → IsDue (whole j.limits) (items_of j.history) (refused_by h)
halted_due j (halt.Full full) is = full_of j full.entries full.bytes is
halted_due j halt.NoMemory is = tt

-- one that is not has room
pub room_of : (j : Journal) → is_full j.limits (items_of j.history) ≡ false → full_at (whole j.limits) (items_of j.history) ≡ None
room_of j free = rw free refl
