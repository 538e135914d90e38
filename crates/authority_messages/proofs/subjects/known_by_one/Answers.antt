use Rattle.authority_messages.proofs.Building.{one_ok}
use Rattle.authority_messages.proofs.subjects.known_by_one.Goals as goal

pub returns : goal.returns
returns c = record { value = one_ok c.known_by.result c.args.kind.now c.args.key.now c.new-entries.result c.try_push.new.self c.in_ok-entry.entry c.args.value c.new-entries.ensures.empty c.in_ok-try_push.ensures.ok c.in_ok-entry.ensures.entry c.known_by.ensures.value }
