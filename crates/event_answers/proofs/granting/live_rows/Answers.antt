use Rattle.std.proofs.Common.{◌++◌, [], ap, ◌∙◌, Option, flat_map}
use Rattle.std.specs.Prelude.{option_to_list}
use Rattle.authority_model.specs.declared.verdict.GrantRow.{GrantRow}
use Rattle.authority_model.specs.Keys.{key_seen}
use Rattle.event_answers.specs.Asked.{live_row}
use Rattle.event_answers.proofs.Walking.{one_more}
use Rattle.event_answers.proofs.granting.live_rows.Goals as goal

pub loop-i-preserved : goal.loop-i-preserved
loop-i-preserved g c = record { rows = one_more (live_row (key_seen c.args.key) c.args.moment) _ _ [] _ _ c.loop-i.invariant.rows (c.in_ok-put_live.ensures.put ∙ ap (λ (o : Option GrantRow). c.loop-i.rows ++ flat_map (live_row (key_seen c.args.key) c.args.moment) (option_to_list o)) c.nth_grant.ensures.row) }
