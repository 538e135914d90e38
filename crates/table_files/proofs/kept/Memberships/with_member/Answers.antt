-- The gids at the member's place get one more.
use Rattle.std.proofs.Common.{◌<◌, ◌++◌, ◌∷◌, [], length, ap, sym, ◌∙◌, arith}
use Rattle.std.proofs.Math.ListN.{set}
use Rattle.std.proofs.lemmas.List.{get_or_read}
use Rattle.table_files.proofs.Joining.{joined_here}
use Rattle.table_files.proofs.kept.Memberships.with_member.Goals as goal

pub returns-clause-kept : goal.returns-clause-kept
returns-clause-kept c =
    λ name has.
    let lists = c.args.self.gids.items in
    let place = c.in-Some.place in
    let less : place < length lists = omega (arith, c.in-Some.ensures.within, c.args.self.one_each) in
    joined_here c.args.self.names.keys lists (set lists place c.try_push.new.self) c.args.member.now c.args.gid place (sym c.in-Some.ensures.index) less
    (ap (set lists place)
    (c.in_ok-try_push.ensures.ok ∙ ap (λ l. l ++ c.args.gid ∷ []) (get_or_read lists place c.index_mut.result.now less c.index_mut.ensures.value [])))
    name
