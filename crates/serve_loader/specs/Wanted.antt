-- What the loader is told by the outputs to connection 0.
use Rattle.std.specs.Prelude.{ℕ, Bool, true, false, List, count_by}
use Rattle.std.specs.List.{before_first, list_any}
use Rattle.authority_model.specs.declared.message.Message.{Message}
use Rattle.authority_model.specs.declared.message.Message.TheVariants.{LoadWanted, StopWanted}
use Rattle.authority_model.specs.declared.message.Output.{Output}

-- whether a message asks for a load
abbrev pub asks_load : Message → Bool
asks_load LoadWanted = true
asks_load _ = false

-- whether a message tells the loader to stop
abbrev pub asks_stop : Message → Bool
asks_stop StopWanted = true
asks_stop _ = false

-- whether an output tells the loader to stop
abbrev pub is_stop_wanted : Output → Bool
is_stop_wanted o = asks_stop o.message

-- how many LoadWanted stand before the first StopWanted
abbrev pub wanted_in : List Output → ℕ
wanted_in outputs = count_by (λ o. asks_load o.message) (before_first is_stop_wanted outputs)

-- whether StopWanted stands among some outputs
abbrev pub wants_stop : List Output → Bool
wants_stop outputs = list_any is_stop_wanted outputs
