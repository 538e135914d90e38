use Rattle.std.proofs.Common.{◌≡◌, take}
use Rattle.pkexplain_tool.specs.Accounts.{Tells}
use Rattle.pkexplain_tool.proofs.Writing.{users_cases}
use Rattle.pkexplain_tool.proofs.report.tell_users.Given as goal

-- the users so far were told, and no write failed
abbrev pub invariant-loop-user : goal.invariant-loop-user
invariant-loop-user g l = record {
  told : Tells l.book (users_cases l.book (take l.user-index l.users)) l.initial.account l.account (g.O.Sink.held l.fn.output) (g.O.Sink.held l.output);
  quiet : g.O.Sink.faults l.output ≡ g.O.Sink.faults l.fn.output;
}
