use Rattle.std.proofs.Common.{sym, subst, List, ℕ}
use Rattle.peer_book.specs.Rows.{IsLiveOf}
use Rattle.peer_book.proofs.Living.{live_put, live_left}
use Rattle.peer_book.proofs.rows.PeerRows.carry.Goals as goal

pub invariant_of-self : goal.invariant_of-self
invariant_of-self c =
    subst (λ (ns : List ℕ). IsLiveOf c.put_row.new.rows.entries ns) (sym c.take_out.ensures.items)
    (live_left c.self.inside.rows.entries c.put_row.new.rows.entries c.self.inside.live.items c.args.entry.now.caller c.in-Some.next c.if-next.true c.self.invariant c.put_row.ensures.put)

pub returns-then-next-clause-live : goal.returns-then-next-clause-live
returns-then-next-clause-live c = invariant_of-self c

pub invariant_of-self-else-next : goal.invariant_of-self-else-next
invariant_of-self-else-next c =
    subst (λ (ns : List ℕ). IsLiveOf c.put_row.new.rows.entries ns) (sym c.put.ensures.items)
    (live_put c.self.inside.rows.entries c.put_row.new.rows.entries c.self.inside.live.items c.args.entry.now.caller c.in-Some.next c.if-next.false c.self.invariant c.put_row.ensures.put)

pub returns-else-next-clause-live : goal.returns-else-next-clause-live
returns-else-next-clause-live c = invariant_of-self-else-next c
