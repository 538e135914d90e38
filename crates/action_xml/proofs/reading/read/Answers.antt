use Rattle.action_xml.proofs.Relation.{file_found, only_these, only_memory}
use Rattle.action_xml.proofs.reading.read.Goals as goal

pub returns-in-Ok-clause-is_file : goal.returns-in-Ok-clause-is_file
returns-in-Ok-clause-is_file c = file_found c.args.bytes.now c.in-Ok.actions c.in-Ok.ensures.read

pub returns-in-Ok-clause-again : goal.returns-in-Ok-clause-again
returns-in-Ok-clause-again c = λ actions file. only_these c.args.bytes.now c.in-Ok.actions actions c.in-Ok.ensures.read file

pub returns-in-Err-clause-again : goal.returns-in-Err-clause-again
returns-in-Err-clause-again c = λ actions file. only_memory c.args.bytes.now actions c.in-Err.fault.kind c.in-Err.fault.at c.in-Err.ensures.read file
