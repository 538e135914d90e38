use Rattle.std.proofs.Common.{arith}
use Rattle.authority_model.specs.Keys.{key_seen}
use Rattle.authority_model.specs.Deciding.{serves}
use Rattle.grant_store.proofs.Listing.{under_hit, under_miss}
use Rattle.grant_store.proofs.rows.GrantRows.serving_under.Goals as goal

pub loop-number-preserved : goal.loop-number-preserved
loop-number-preserved c =
    under_miss (serves (key_seen c.args.key) c.args.action.now c.args.moment) c.args.self.now.items c.args.numbers.now c.loop-number.number-index (omega arith) c.in-None.ensures.row c.loop-number.invariant

pub returns-in-Some : goal.returns-in-Some
returns-in-Some c = record {
  row = under_hit (serves (key_seen c.args.key) c.args.action.now c.args.moment) c.args.self.now.items c.args.numbers.now c.loop-number.number-index c.in-Some.row.now (omega arith) c.in-Some.ensures.row c.loop-number.invariant;
}
