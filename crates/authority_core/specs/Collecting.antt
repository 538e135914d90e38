-- The outputs to a connection by their numbers.
use Rattle.std.specs.Prelude.{ℕ, ◌-◌, ◌==◌, if◌then◌else◌, List, Option, None, slice_get}
use Rattle.authority_model.specs.declared.journal.Item.{Item}
use Rattle.authority_model.specs.declared.message.Output.{Output}
use Rattle.authority_model.specs.Sent.{sent_to}

-- the output that has this number among those to a connection, counted from 1
abbrev pub numbered_output : List Item → ℕ → ℕ → Option Output
numbered_output past c k = if k == 0 then None else slice_get (sent_to past c) (k - 1)
