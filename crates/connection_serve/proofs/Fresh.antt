-- Two new passes, the second made at the first.
use Rattle.std.proofs.Common.{◌≢◌, ℕ, ◌<◌, List, sym, subst, arith}
use Rattle.std.proofs.lemmas.List.Elements.{All-append}
use Rattle.authority_model.specs.declared.journal.Item.{Item}
use Rattle.connection_serve.specs.Headline.{IsFresh}
use Rattle.history_lock.specs.Calls.{Admitted, Learned}
use Rattle.history_lock.specs.Entries.{NoneBy}
use Rattle.history_lock.specs.Known.{Known}
use Rattle.shared_authority.specs.Journals.{IsJournal, caller_of}

-- a pass that has no item has none still, where others' items came
none_learned : (v w : Known Item) → Learned caller_of IsJournal v w → NoneBy caller_of v.number v.history → NoneBy caller_of v.number w.history
none_learned v w l none = subst (λ (h : List Item). NoneBy caller_of v.number h) (sym l.others.grown) (All-append (λ (e : Item). caller_of e ≢ v.number) v.history l.others.between none l.others.others)

pub fresh_passes : (v w p p' q : Known Item) → v.number < v.made → Admitted caller_of IsJournal v p w → Admitted caller_of IsJournal p q p' → IsFresh p' q
fresh_passes v w p p' q below first second =
    let number = second.learned.number in
    let above = first.number in
    let one = first.made in
    let next = second.number in
    record {
      apart = (let differs : p'.number ≢ q.number = omega (arith, number, one, next) in differs);
      pass_above = omega (arith, number, above, below);
      collector_above = omega (arith, one, next);
      none_by_pass = subst (λ (n : ℕ). NoneBy caller_of n p'.history) (sym number) (none_learned p p' second.learned first.none);
      none_by_collector = subst (λ (h : List Item). NoneBy caller_of q.number h) (sym second.same_history) second.none;
      same = second.same_history;
    }
