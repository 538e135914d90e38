use Rattle.std.proofs.Common.{◌≡◌, ◌≢◌, ℕ, ◌+◌, List, [], ◌++◌, length, map, take, sym, ap, ◌∙◌, subst, arith, rules}
use Rattle.history_lock.specs.Entries.{entries_by}
use Rattle.history_lock_tests.specs.Tallies.{entry_of}
use Rattle.history_lock_tests.specs.declared.tally.Entry.{Entry}
use Rattle.history_lock_tests.proofs.Wholes.{whole_of_two}
use Rattle.history_lock_tests.proofs.two.added_by_two.Goals as goal

pub returns-clause-each : goal.returns-clause-each
returns-clause-each g c =
    let by = λ (e : Entry). e.caller in
    let b = c.add_beside-by_one.ensures in
    let one = c.admit.new.pass in
    let two = c.in_ok-two.two in
    let h = c.add_beside-by_one.new.one.history in
    let list = c.close-tally.result in
    let m : one.number ≡ c.number-first_number.result = sym (c.number-first_number.ensures.number ∙ b.numbers.0) in
    let n : two.number ≡ c.number-second_number.result = sym (c.number-second_number.ensures.number ∙ b.numbers.1) in
    let apart : one.number ≢ two.number = search rules in
    let before : entries_by by one.number one.history ≡ [] = search rules in
    let before' : entries_by by two.number two.history ≡ [] = search rules in
    let long : length list ≡ length c.args.first.now + length c.args.second.now = search rules in
    let w = whole_of_two h list one.number two.number c.add_beside-by_one.result.0 c.add_beside-by_one.result.1 c.args.first.now c.args.second.now apart c.close-tally.ensures.begins
    (b.first ∙ ap (λ (l : List Entry). l ++ map (entry_of one.number) (take c.add_beside-by_one.result.0 c.args.first.now)) before)
    (ap (entries_by by two.number) b.equal ∙ b.second ∙ ap (λ (l : List Entry). l ++ map (entry_of two.number) (take c.add_beside-by_one.result.1 c.args.second.now)) before')
    (omega arith) (omega arith) long in (
      subst (λ (k : ℕ). entries_by by k list ≡ map (entry_of k) c.args.first.now) m w.0,
      subst (λ (k : ℕ). entries_by by k list ≡ map (entry_of k) c.args.second.now) n w.1,
    )
