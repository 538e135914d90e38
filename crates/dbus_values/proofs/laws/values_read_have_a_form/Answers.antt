use Rattle.std.proofs.Common.{refl, arith}
use Rattle.dbus_values.specs.Walk.{most_parts}
use Rattle.dbus_values.proofs.Finding.{row_found}
use Rattle.dbus_values.proofs.laws.values_read_have_a_form.Goals as goal

pub returns : goal.returns
returns c = record { found = λ d big sig at bytes w fits e. (let r = row_found most_parts d most_parts 0 d big sig at bytes w (omega arith) refl fits e in (r.trees, r.fit, r.sig_is, r.bytes_are)) }
