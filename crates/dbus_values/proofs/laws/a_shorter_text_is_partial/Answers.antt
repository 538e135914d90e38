use Rattle.dbus_values.proofs.Prefixes.{shorter_partial, prefix_partial, partial_short}
use Rattle.dbus_values.proofs.laws.a_shorter_text_is_partial.Goals as goal

pub returns : goal.returns
returns c = record { message = shorter_partial; shorter = prefix_partial; short = partial_short }
