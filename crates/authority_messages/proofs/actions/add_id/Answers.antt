use Rattle.std.proofs.Common.{List, ℕ, OnOk, subst}
use Rattle.authority_messages.specs.Values.{string}
use Rattle.authority_messages.specs.Built.{Adds}
use Rattle.authority_messages.proofs.actions.add_id.Goals as goal

pub returns : goal.returns
returns c = record { ok = subst (λ (t : List ℕ). OnOk c.add_string.result (Adds c.args.members.now c.add_string.new.values 0 (string t))) c.text.ensures.text c.add_string.ensures.ok }
