use Rattle.std.proofs.Common.{◌≡◌, ◌++◌, map, take}
use Rattle.history_lock.specs.Entries.{entries_by}
use Rattle.history_lock_tests.specs.Tallies.{entry_of}
use Rattle.history_lock_tests.specs.declared.tally.Entry.{Entry}
use Rattle.history_lock_tests.proofs.two.add_all.Given as goal

-- so far as many amounts were added as were read, and they are what the pass's history has more
abbrev pub invariant-loop-amount : goal.invariant-loop-amount
invariant-loop-amount g l =
    record {
      count : l.added ≡ l.amount-index;
      number : l.pass.number ≡ l.initial.pass.number;
      own : entries_by (λ (e : Entry). e.caller) l.initial.pass.number l.pass.history ≡ entries_by (λ (e : Entry). e.caller) l.initial.pass.number l.initial.pass.history ++ map (entry_of l.initial.pass.number) (take l.amount-index l.amounts);
    }
