use Rattle.std.proofs.Common.{◌∙◌, ap, sym}
use Rattle.std.specs.Prelude.{option_and_then, slice_get}
use Rattle.std.specs.Option.{option_copied}
use Rattle.authority_model.specs.declared.journal.Entry.{Entry}
use Rattle.authority_model.specs.Items.{items_of}
use Rattle.authority_core.proofs.Batching.{placed_output, numbered}
use Rattle.authority_core.proofs.collecting.output_to.Goals as goal

pub returns : goal.returns
returns c = record {
  output =
      c.get-2.ensures.item
      ∙ ap (option_and_then (λ (e : Entry). slice_get e.outputs c.in_ok-place.output)) c.in_ok-entry.ensures.item
      ∙ sym (placed_output c.args.history.now c.in_ok-place.place c.in_ok-place.output)
      ∙ numbered (items_of c.args.history.now) c.args.peers.now c.args.caller c.args.number (c.in_ok-place.place, c.in_ok-place.output) c.in_ok-place.ensures.place (c.in_ok-place.ensures.output (items_of c.args.history.now) c.requires.peers);
}

pub returns-in_err-entry : goal.returns-in_err-entry
returns-in_err-entry c = record {
  output =
      ap option_copied c.from_residual-in_err-entry.ensures
      ∙ ap (option_and_then (λ (e : Entry). slice_get e.outputs c.in_ok-place.output)) c.in_err-entry.ensures.item
      ∙ sym (placed_output c.args.history.now c.in_ok-place.place c.in_ok-place.output)
      ∙ numbered (items_of c.args.history.now) c.args.peers.now c.args.caller c.args.number (c.in_ok-place.place, c.in_ok-place.output) c.in_ok-place.ensures.place (c.in_ok-place.ensures.output (items_of c.args.history.now) c.requires.peers);
}
