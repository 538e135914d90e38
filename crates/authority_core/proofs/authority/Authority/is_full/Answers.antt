-- The entries are as many as the items, and the bytes are counted.
use Rattle.authority_core.proofs.Growing.{full_then, full_else}
use Rattle.authority_core.proofs.authority.Authority.is_full.Goals as goal

pub returns-then-self-len : goal.returns-then-self-len
returns-then-self-len c = record { full = full_then c.self.inside.limits c.self.inside.history _ c.len.result c.self.view_is c.len.ensures.length c.if-self-len.true }

pub returns-else-self-len : goal.returns-else-self-len
returns-else-self-len c = record { full = full_else c.self.inside.limits c.self.inside.history c.self.inside.bytes _ c.len.result c.self.view_is c.len.ensures.length c.self.invariant.counted c.if-self-len.false }
