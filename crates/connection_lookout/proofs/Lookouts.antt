-- What a lookout says of one look, and of a meeting.
use Rattle.std.proofs.Common.{◌≡◌, ◌≤◌, ℕ, Bool, true, false, List, [], ◌∷◌, ◌++◌, Option, Some, None, refl, ap, sym, ◌∙◌, subst, append-nil, length, length-append, arith}
use Rattle.std.specs.Prelude.{max, nat_lt, not, if◌then◌else◌}
use Rattle.std.proofs.lemmas.Bool.Decides.{nat_tests}
use mathlib.Core.List.{IsPrefix}
use Rattle.authority_model.specs.declared.journal.Item.{Item}
use Rattle.connection_lookout.specs.Watching.{HasMet, IsOut, Meets, TookOut, TookTurn, Watch, has_ended, has_seen, watch}
use Rattle.history_lock.proofs.Growth.{learned_begins, learned_trans}
use Rattle.history_lock.specs.Calls.{Learned}
use Rattle.history_lock.specs.Causes.{known_or}
use Rattle.history_lock.specs.declared.machine.EndCause.{EndCause}
use Rattle.history_lock.specs.Kinds.{longer_of}
use Rattle.history_lock.specs.Known.{Known}
use Rattle.pk_outside.specs.declared.sights.Sighted.{Sighted}
use Rattle.pk_outside.specs.declared.sights.Sighted.TheVariants as sighted
use Rattle.pk_outside.specs.Causes.{RoseWhere}
use Rattle.pk_outside.specs.Sightings.{GivesSighting, Look, Looked, SightCause}
use Rattle.shared_authority.specs.Journals.{IsJournal, caller_of}

-- one look
pub one_look : (pid start : ℕ) (v w : Watch) (s : Sighted) (unlisted failed : Bool) → GivesSighting v.left w.left s → Looked v.gave w.gave pid s → has_seen s ≡ not failed → TookOut unlisted pid start v.pass w.pass
    → (unlisted ≡ true → has_ended start s ≡ true) → (has_ended start s ≡ true → IsOut v.pass.history pid start w.pass) → TookTurn (pid, start) v w failed
one_look pid start v w s unlisted failed left gave seen out ended gone = record {
  turn = record { pid = pid; start = start; sighted = s; unlisted = unlisted };
  process = refl;
  left = left;
  gave = gave;
  failed_is = seen;
  out = out;
  ended = ended;
  gone = gone;
}

-- a sighter that met a pass once
pub met_once : (p s s1 : Known Item) (left : Option (List Sighted)) (gave : Option (List Look)) → Learned caller_of IsJournal s s1 → p.history ≡ s1.history → p.made ≡ s1.made → p.ended ≡ s1.ended → Meets p (watch s left gave) (watch s1 left gave)
met_once p s s1 left gave learned history made ended = record {
  learned = learned;
  history = sym history;
  made = sym made;
  ended = sym ended;
  left = refl;
  gave = refl;
}

-- a look that shows that a process has ended did not fail
pub ended_seen : (start : ℕ) (s : Sighted) → has_ended start s ≡ true → has_seen s ≡ true
ended_seen start (sighted.Alive seen) is = refl
ended_seen start sighted.Gone is = refl
ended_seen start sighted.Failed is = absurd (cc (is))

-- a look that failed shows no process that has ended
pub failed_not_ended : (start : ℕ) (s : Sighted) → has_seen s ≡ false → has_ended start s ≡ true → ⊥
failed_not_ended start s failed is = other (sym (ended_seen start s is) ∙ failed)
  where
    other : true ≡ false → ⊥
    other e = cc

-- neither does one that shows that it lives
pub living_not_ended : (b : Bool) → b ≡ false → b ≡ true → ⊥
living_not_ended b lives is = other (sym is ∙ lives)
  where
    other : true ≡ false → ⊥
    other e = cc

-- a look that failed was counted, and no other
pub look_cause : (before now : ℕ) (s : Sighted) (failed : Bool) → has_seen s ≡ not failed → SightCause before now s → RoseWhere failed before now
look_cause before now (sighted.Alive seen) true is c = absurd (cc (is))
look_cause before now (sighted.Alive seen) false is c = c
look_cause before now sighted.Gone true is c = absurd (cc (is))
look_cause before now sighted.Gone false is c = c
look_cause before now sighted.Failed true is c = (c.0, let counted = c.1 in omega (arith, counted))
look_cause before now sighted.Failed false is c = absurd (cc (is))

-- of a history and one that it begins the second is the longer one
longer_prefix : (h g : List Item) → IsPrefix h g → longer_of h g ≡ g
longer_prefix h g p = go (nat_lt (length h) (length g)) refl
  where
    same : (r : List Item) → h ++ r ≡ g → nat_lt (length h) (length g) ≡ false → h ≡ g
    same [] e short = sym (append-nil h) ∙ e
    same (x ∷ r) e short =
        let long = sym (ap length e) ∙ length-append h (x ∷ r) in
        let le : length g ≤ length h = grind (arith, nat_tests) in
        absurd (omega (arith, long, le))

    go : (b : Bool) → nat_lt (length h) (length g) ≡ b → longer_of h g ≡ g
    go true is = ap (λ (b : Bool). if b then g else h) is
    go false is = ap (λ (b : Bool). if b then g else h) is ∙ same p.0 p.1 is

known_stays : (a b : Option EndCause) → ((cause : EndCause) → a ≡ Some cause → b ≡ Some cause) → known_or a b ≡ b
known_stays None b so = refl
known_stays (Some cause) b so = sym (so cause refl)

-- a pass that met the sighter, and then learned more, learns nothing where it meets the sighter again
pub meets_again : (p1 s1 p2 p3 c : Known Item) → p1.history ≡ s1.history → p1.made ≡ s1.made → p1.ended ≡ s1.ended → Learned caller_of IsJournal p1 p2 → (p2.history ≡ c.history) × (p2.made ≡ c.made) × (p2.ended ≡ c.ended)
    → p3.history ≡ longer_of s1.history p2.history → p3.made ≡ max p2.made s1.made → p3.ended ≡ known_or s1.ended p2.ended → (p3.history ≡ c.history) × (p3.made ≡ c.made) × (p3.ended ≡ c.ended)
meets_again p1 s1 p2 p3 c history made ended l equal longer most kept = (
  longer ∙ longer_prefix s1.history p2.history (subst (λ (h : List Item). IsPrefix h p2.history) history (learned_begins caller_of IsJournal p1 p2 l)) ∙ equal.0,
  (let more = l.made in let most_is : p3.made ≡ p2.made = omega (arith, most, made, more) in most_is) ∙ equal.1,
  kept ∙ known_stays s1.ended p2.ended (λ cause is. (l.ended cause (ended ∙ is)).0) ∙ equal.2,
)

-- a sighter that met the pass twice
pub sighter_met : (p s s1 s3 : Known Item) (left : Option (List Sighted)) (gave : Option (List Look)) → Learned caller_of IsJournal s s1 → Learned caller_of IsJournal s1 s3 → p.history ≡ s3.history → p.made ≡ s3.made → p.ended ≡ s3.ended
    → HasMet p (Some (watch s left gave)) (Some (watch s3 left gave))
sighter_met p s s1 s3 left gave one two history made ended = met_once p s s3 left gave (learned_trans caller_of IsJournal s s1 s3 one two) history made ended
