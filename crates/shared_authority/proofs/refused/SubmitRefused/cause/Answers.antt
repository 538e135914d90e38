use Rattle.std.proofs.Common.{ap, sym}
use Rattle.history_lock.specs.declared.machine.EndCause.TheVariants.{JournalFull, NoMemory}
use Rattle.shared_authority.proofs.Causes.{cause_of_submit, submit_fits}
use Rattle.shared_authority.proofs.refused.SubmitRefused.cause.Goals as goal

pub returns-in-JournalFull : goal.returns-in-JournalFull
returns-in-JournalFull c = record { fits = submit_fits c.args.self.now (JournalFull c.in-JournalFull.entries c.in-JournalFull.bytes) (sym (ap cause_of_submit c.in-JournalFull.is)) }

pub returns-in-Ended : goal.returns-in-Ended
returns-in-Ended c = record { fits = submit_fits c.args.self.now c.in-Ended.cause (sym (ap cause_of_submit c.in-Ended.is)) }

pub returns-in-NoMemory : goal.returns-in-NoMemory
returns-in-NoMemory c = record { fits = submit_fits c.args.self.now NoMemory (sym (ap cause_of_submit c.in-NoMemory.is)) }
