use Rattle.std.proofs.Common.{◌<◌, ◌==◌, not, sym, ap, subst}
use Rattle.authority_model.specs.declared.verdict.GrantRow.{GrantRow}
use Rattle.authority_model.specs.Keys.{same_key}
use Rattle.authority_model.specs.Lists.{Each}
use Rattle.entry_changes.specs.Changes.{unlisted}
use Rattle.key_index.proofs.Keyed.{Each-filter}
use Rattle.grant_store.specs.Store.{change_of}
use Rattle.grant_store.proofs.Listing.{listed_without}
use Rattle.grant_store.proofs.staged.carry.Goals as goal

pub add-requires-clause-fresh : goal.add-requires-clause-fresh
add-requires-clause-fresh c =
    let below = c.requires.fresh c.in-Add.row (ap change_of c.in-Add.is) in
    subst (Each (λ (g : GrantRow). g.id < c.in-Add.row.id)) (sym c.end.ensures.items) (Each-filter (λ (g : GrantRow). g.id < c.in-Add.row.id) (λ (g : GrantRow). not (unlisted c.args.entry.now c.args.world.now g.key)) c.args.rows.now.items below)

pub add-requires-clause-listed : goal.add-requires-clause-listed
add-requires-clause-listed c = listed_without (λ (g : GrantRow). not (unlisted c.args.entry.now c.args.world.now g.key)) c.args.rows.now.items c.end.new.self.items c.args.lists.now.entries c.end.ensures.items c.requires.listed

pub returns-in-Keep-clause-listed : goal.returns-in-Keep-clause-listed
returns-in-Keep-clause-listed c = listed_without (λ (g : GrantRow). not (unlisted c.args.entry.now c.args.world.now g.key)) c.args.rows.now.items c.end.new.self.items c.args.lists.now.entries c.end.ensures.items c.requires.listed

pub returns-in-EndId-clause-listed : goal.returns-in-EndId-clause-listed
returns-in-EndId-clause-listed c =
    let left = listed_without (λ (g : GrantRow). not (unlisted c.args.entry.now c.args.world.now g.key)) c.args.rows.now.items c.end.new.self.items c.args.lists.now.entries c.end.ensures.items c.requires.listed in
    listed_without (λ (g : GrantRow). not (g.id == c.in-EndId.id)) c.end.new.self.items c.end_id.new.self.items c.args.lists.now.entries c.end_id.ensures.items left

pub returns-in-EndKey-clause-listed : goal.returns-in-EndKey-clause-listed
returns-in-EndKey-clause-listed c =
    let left = listed_without (λ (g : GrantRow). not (unlisted c.args.entry.now c.args.world.now g.key)) c.args.rows.now.items c.end.new.self.items c.args.lists.now.entries c.end.ensures.items c.requires.listed in
    listed_without (λ (g : GrantRow). not (same_key g.key c.in-EndKey.key)) c.end.new.self.items c.end_key.new.self.items c.args.lists.now.entries c.end_key.ensures.items left
