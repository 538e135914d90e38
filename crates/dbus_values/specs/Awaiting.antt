-- How much to await before bytes are looked at again that begin less than a message.
use Rattle.std.specs.Prelude.{ℕ, ◌+◌, List, length, Result, Ok, Err}
use Rattle.dbus_values.specs.declared.fault.Stop.{Stop}
use Rattle.dbus_values.specs.Messages.{Start, total, start_of}

abbrev pub awaited_after : ℕ → Result Start Stop → ℕ
awaited_after there (Ok start) = total start
awaited_after there (Err why) = there + 1

-- the length of the whole message, where its first 16 bytes are there, and otherwise one byte more than there are
abbrev pub awaited : List ℕ → ℕ
awaited bytes = awaited_after (length bytes) (start_of bytes)
