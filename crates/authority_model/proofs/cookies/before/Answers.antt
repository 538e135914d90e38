use Rattle.authority_model.proofs.Endings.{ends_so, ends_else}
use Rattle.authority_model.proofs.cookies.before.Goals as goal

pub returns-then-end-last : goal.returns-then-end-last
returns-then-end-last c = record { front = λ xs. ends_so xs c.args.text.now c.args.last c.in-len1-up.len_at_least c.if-end-last.true }

pub returns-else-end-last : goal.returns-else-end-last
returns-else-end-last c = record { front = λ xs. ends_else xs c.args.text.now c.args.last c.in-len1-up.len_at_least c.if-end-last.false }
