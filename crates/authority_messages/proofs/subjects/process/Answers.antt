use Rattle.std.proofs.Common.{false, refl, arith, [], ◌∷◌}
use Rattle.std.specs.Prelude.{codes}
use Rattle.authority_messages.specs.Values.{uint32, uint64, keyed}
use Rattle.authority_messages.proofs.Building.{known_ok, items_put, no_items, uint32_built, uint64_built}
use Rattle.authority_messages.proofs.Signatures.{u_sig, u_one, t_sig, t_one}
use Rattle.authority_messages.proofs.subjects.process.Goals as goal

pub returns : goal.returns
returns c = record {
  value =
      known_ok c.known_by.result (codes "unix-process") c.try_push-2.new.self (keyed (codes "pid") (uint32 c.args.pid) ∷ keyed (codes "start-time") (uint64 c.args.start) ∷ [])
      (items_put 2 (codes "{sv}") (keyed (codes "pid") (uint32 c.args.pid) ∷ []) (keyed (codes "start-time") (uint64 c.args.start)) c.try_push.new.self c.try_push-2.new.self c.in_ok-start.start
      (items_put 2 (codes "{sv}") [] (keyed (codes "pid") (uint32 c.args.pid)) c.new-entries.result c.try_push.new.self c.in_ok-pid.pid (no_items 2 (codes "{sv}") c.new-entries.result c.new-entries.ensures.empty) (c.in_ok-pid.ensures.entry (uint32 c.args.pid) u_sig u_one (uint32_built false c.args.pid (omega arith))) refl c.in_ok-try_push.ensures.ok)
      (c.in_ok-start.ensures.entry (uint64 c.args.start) t_sig t_one (uint64_built false c.args.start (omega arith))) refl c.in_ok-try_push-2.ensures.ok)
      c.known_by.ensures.value;
}
