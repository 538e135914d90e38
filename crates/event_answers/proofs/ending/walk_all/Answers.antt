use Rattle.std.proofs.Common.{◌++◌, [], ap, ◌∙◌, Option, flat_map}
use Rattle.std.specs.Prelude.{option_to_list}
use Rattle.authority_model.specs.declared.pending.Pending.{Pending}
use Rattle.event_answers.specs.Endings.{told_of, place_if}
use Rattle.event_answers.proofs.Walking.{one_more}
use Rattle.event_answers.proofs.ending.walk_all.Goals as goal

pub loop-i-preserved : goal.loop-i-preserved
loop-i-preserved g c = record {
  told = one_more (told_of c.args.ending) _ _ [] _ _ c.loop-i.invariant.told (c.in_ok-end.ensures.told ∙ ap (λ (o : Option Pending). c.loop-i.ended.outputs ++ flat_map (told_of c.args.ending) (option_to_list o)) c.nth.ensures.row);
  places = one_more (place_if c.args.ending) _ _ [] _ _ c.loop-i.invariant.places (c.in_ok-end.ensures.closed ∙ ap (λ (o : Option Pending). c.loop-i.ended.places ++ flat_map (place_if c.args.ending) (option_to_list o)) c.nth.ensures.row);
}
