-- What an item may output.
use Rattle.std.specs.Prelude.{◌≡◌, ◌≢◌, ◌≤◌, ℕ, true, List}
use Rattle.authority_model.specs.declared.journal.Item.{Item}
use Rattle.authority_model.specs.declared.message.Message.{Message}
use Rattle.authority_model.specs.declared.message.Output.{Output}
use Rattle.authority_model.specs.Lists.{Each}
use Rattle.authority_model.specs.Peers.{live}
use Rattle.authority_model.specs.Answers.{loads}
use Rattle.authority_laws.specs.Batches.{load_in_answer}

-- A message may go to a connection after these items: what the loader is told goes to 0, and all else to a live connection. A reply is to a serial other than 0, and the load that it names came before.
abbrev pub MayGo : List Item → ℕ → Message → Type 0
MayGo past c Message.LoadWanted = c ≡ 0
MayGo past c Message.StopWanted = c ≡ 0
MayGo past c (Message.Reply serial answer) = (live past c ≡ true) × (serial ≢ 0) × (load_in_answer answer ≤ loads past)
MayGo past c _ = live past c ≡ true

-- each of these outputs may go
abbrev pub AllMayGo : List Item → List Output → Type 0
AllMayGo past outputs = Each (λ o. MayGo past o.to o.message) outputs
