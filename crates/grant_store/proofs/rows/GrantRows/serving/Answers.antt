use Rattle.std.proofs.Common.{◌∙◌}
use Rattle.authority_model.specs.Keys.{key_seen}
use Rattle.grant_store.proofs.Listing.{find_under}
use Rattle.grant_store.proofs.rows.GrantRows.serving.Goals as goal

pub returns-else-live-few : goal.returns-else-live-few
returns-else-live-few c = record { row = c.serving_under.ensures.row ∙ find_under (key_seen c.args.key) c.args.action.now c.args.moment c.args.self.now.items c.args.numbers.now c.requires.numbers }
