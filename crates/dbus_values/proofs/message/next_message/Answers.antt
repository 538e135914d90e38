use Rattle.std.proofs.Common.{arith}
use Rattle.dbus_values.proofs.Streaming.{whole_form, form_whole}
use Rattle.dbus_values.proofs.Prefixes.{told_stays}
use Rattle.dbus_values.proofs.message.next_message.Goals as goal

pub returns-clause-form : goal.returns-clause-form
returns-clause-form c = whole_form _ _ (λ i. omega (arith, c.type_inv.bytes i)) c.front_message.ensures.exact

pub returns-clause-again : goal.returns-clause-again
returns-clause-again c = λ text more seen form same. form_whole _ _ text more seen c.front_message.ensures.exact form same

pub returns-clause-stays : goal.returns-clause-stays
returns-clause-stays c = told_stays _ _ c.front_message.ensures.exact
