use Rattle.std.proofs.Common.{ap}
use Rattle.history_lock.specs.declared.machine.EndCause.TheVariants.{JournalFull, NoMemory}
use Rattle.shared_authority.proofs.Causes.{cause_of_unlist, unlist_fits}
use Rattle.shared_authority.proofs.refused.SubmitUnlistRefused.cause.Goals as goal

pub returns-in-JournalFull-clause-fits : goal.returns-in-JournalFull-clause-fits
returns-in-JournalFull-clause-fits c = unlist_fits c.args.self.now (JournalFull c.in-JournalFull.entries c.in-JournalFull.bytes) (ap cause_of_unlist c.in-JournalFull.is)

pub returns-in-Ended-clause-fits : goal.returns-in-Ended-clause-fits
returns-in-Ended-clause-fits c = unlist_fits c.args.self.now c.in-Ended.cause (ap cause_of_unlist c.in-Ended.is)

pub returns-in-NoMemory-clause-fits : goal.returns-in-NoMemory-clause-fits
returns-in-NoMemory-clause-fits c = unlist_fits c.args.self.now NoMemory (ap cause_of_unlist c.in-NoMemory.is)
