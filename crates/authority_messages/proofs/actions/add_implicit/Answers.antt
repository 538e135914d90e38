use Rattle.std.proofs.Common.{ℕ, OnOk, subst}
use Rattle.authority_messages.specs.Values.{uint32}
use Rattle.authority_messages.specs.Built.{Adds}
use Rattle.authority_messages.proofs.actions.add_implicit.Goals as goal

pub returns : goal.returns
returns c = record { ok = subst (λ (n : ℕ). OnOk c.add_uint32.result (Adds c.args.members.now c.add_uint32.new.values 0 (uint32 n))) c.code.ensures.code c.add_uint32.ensures.ok }
