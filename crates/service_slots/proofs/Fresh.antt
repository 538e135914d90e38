-- Two passes that were just made may serve a connection.
use Rattle.std.proofs.Common.{◌≡◌, ◌<◌, ℕ, List, sym, subst, arith}
use Rattle.std.specs.Prelude.{◌≢◌}
use Rattle.std.proofs.lemmas.List.Elements.{All-append}
use mathlib.Core.List.{IsPrefix}
use Rattle.history_lock.specs.Known.{Known}
use Rattle.history_lock.specs.declared.refused.AdmitRefused.TheVariants.{Full}
use Rattle.history_lock.specs.Entries.{NoneBy, GrownByOthers}
use Rattle.history_lock.specs.Calls.{Learned, Admitted, NoneAdmitted}
use Rattle.authority_model.specs.declared.journal.Item.{Item}
use Rattle.shared_authority.specs.Journals.{IsJournal, AllAdmitted, caller_of}
use Rattle.connection_serve.specs.Headline.{IsFresh}

-- a history that goes on by others' entries has none by the caller, where it had none
none_again : (n : ℕ) (h more : List Item) → NoneBy caller_of n h → GrownByOthers caller_of n h more → NoneBy caller_of n more
none_again n h more none grown =
    subst (λ (l : List Item). NoneBy caller_of n l) (sym grown.grown) (All-append (λ (i : Item). caller_of i ≢ n) h grown.between none grown.others)

-- two passes that were admitted one after the other and met are fresh
pub fresh_of : (v p1 w1 p2 w2 p c : Known Item) → v.number < v.made → Admitted caller_of IsJournal v p1 w1 → Admitted caller_of IsJournal w1 p2 w2
    → Learned caller_of IsJournal p1 p → Learned caller_of IsJournal p2 c → p.history ≡ c.history → IsFresh p c
fresh_of v p1 w1 p2 w2 p c low a1 a2 l1 l2 same =
    let n1 = a1.number in
    let m1 = a1.made in
    let s1 = a1.same_made in
    let n2 = a2.number in
    let q1 = l1.number in
    let q2 = l2.number in
    record {
      apart = (λ e. absurd (omega (arith, n1, m1, s1, n2, q1, q2, e)));
      pass_above = omega (arith, low, n1, q1);
      collector_above = omega (arith, low, n1, m1, s1, n2, q2);
      none_by_pass = subst (λ (n : ℕ). NoneBy caller_of n p.history) (sym q1) (none_again p1.number p1.history p.history a1.none l1.others);
      none_by_collector = subst (λ (h : List Item). NoneBy caller_of c.number h) (sym same) (subst (λ (n : ℕ). NoneBy caller_of n c.history) (sym q2) (none_again p2.number p2.history c.history a2.none l2.others));
      same = same;
    }

-- what a pass has learned begins with what it knew
pub learned_prefix : (v w : Known Item) → Learned caller_of IsJournal v w → IsPrefix v.history w.history
learned_prefix v w l = (l.others.between, sym l.others.grown)

-- all passes were made, and the old pass knows it
pub all_admitted : (v : Known Item) (admitted : ℕ) (w : Known Item) → NoneAdmitted caller_of IsJournal v (Full admitted) w → AllAdmitted admitted w.made
all_admitted v admitted w none = record { number = none.0; all = none.1 }
