use Rattle.std.proofs.Common.{◌%◌, ◌^◌, ◌*◌, arith}
use mir.Syntax.{w128}
use Rattle.std.proofs.lemmas.Nat.Bits.{bit_at_set_same}
use Rattle.history_lock.proofs.Waking.{stays_set}
use Rattle.history_lock.proofs.woken.Woken.with.Goals as goal

pub returns-clause-wakes : goal.returns-clause-wakes
returns-clause-wakes c = bit_at_set_same w128 c.args.self.places (c.args.number % 128) (omega arith)

pub returns-clause-keeps : goal.returns-clause-keeps
returns-clause-keeps c = λ other wakes. stays_set c.args.self.places (1 * 2 ^ (c.args.number % 128) % 340282366920938463463374607431768211456) (other % 128) wakes
