-- The items so far, the one that is open, and those to come are the items of the value.
use Rattle.std.proofs.Common.{refl, sym, ◌∙◌, ap, subst, arith, length, length-append, [], ◌∷◌}
use Rattle.keyfile_text.specs.Bytes.{IsClean}
use Rattle.keyfile_text.proofs.Cleans.{text_is, clean-nil}
use Rattle.keyfile_text.proofs.Decodes.{ItemsSo, so_at_first, item_ends, item_gains, last_item, clean_parts, clean_joined, clean_gained, shorter_parts, not_semicolon}
use Rattle.keyfile_text.proofs.listing.items.Goals as goal

pub loop-plain-init : goal.loop-plain-init
loop-plain-init c =
    let is = text_is c.args.value.now c.bytes-rest.ensures.text in
    let all = c.bytes-rest.ensures.bytes in
    record {
      so = so_at_first _ _ _ _ c.new-items.ensures.empty c.new-item.ensures.items all;
      item_clean = subst IsClean (sym c.new-item.ensures.items) clean-nil;
      clean = subst IsClean (sym all) is.0;
      short = omega (arith, is.1, ap length all, ap length c.new-item.ensures.items);
    }

pub push_item-requires-clause-clean : goal.push_item-requires-clause-clean
push_item-requires-clause-clean c =
    let found = c.in-Some.ensures.found in
    clean_joined _ _ _ _ c.as_slice.ensures.value c.in_ok-extend_from_slice.ensures.items c.loop-plain.invariant.item_clean
    (clean_parts _ _ _ _ found.0 found.2 c.loop-plain.invariant.clean).0

pub loop-plain-preserved-then-special-eq59 : goal.loop-plain-preserved-then-special-eq59
loop-plain-preserved-then-special-eq59 c =
    let found = c.in-Some.ensures.found in
    let before = c.loop-plain.invariant in
    record {
      so = subst (λ i. ItemsSo c.push_item.new.items i c.in-Some.behind.now c.args.value.now) (sym c.clear.ensures.items)
          (item_ends _ c.push_item.new.items c.loop-plain.item.items c.as_slice.result.now c.in-Some.plain.now c.loop-plain.rest.now c.in-Some.behind.now c.args.value.now c.in-Some.special
          before.so found.0 found.1 c.if-special-eq59.true (c.as_slice.ensures.value ∙ c.in_ok-extend_from_slice.ensures.items) c.in_ok-push_item.ensures.ok);
      item_clean = subst IsClean (sym c.clear.ensures.items) clean-nil;
      clean = (clean_parts _ _ _ _ found.0 found.2 before.clean).1;
      short = omega (arith, before.short, shorter_parts _ _ _ _ found.0, ap length c.clear.ensures.items);
    }

pub loop-plain-preserved : goal.loop-plain-preserved
loop-plain-preserved c =
    let found = c.in-Some.ensures.found in
    let before = c.loop-plain.invariant in
    let takes = c.in_ok-rest.ensures.takes in
    let parts = clean_parts _ _ _ _ found.0 found.2 before.clean in
    let extended = c.in_ok-extend_from_slice.ensures.items in
    record {
      so = item_gains _ c.loop-plain.item.items _ _ c.in-Some.plain.now c.loop-plain.rest.now c.in-Some.behind.now c.in_ok-rest.rest.now c.args.value.now c.in-Some.special
          before.so found.0 found.1 (not_semicolon _ found.2 c.if-special-eq59.false) extended takes;
      item_clean = clean_gained _ _ _ _ takes (clean_joined _ _ _ _ refl extended before.item_clean parts.0);
      clean = takes.clean parts.1;
      short = omega (
        arith,
        before.short,
        shorter_parts _ _ _ _ found.0,
        takes.shorter,
        ap length takes.gains,
        ap length extended,
        length-append c.loop-plain.item.items c.in-Some.plain.now,
        length-append c.extend_from_slice.new.self.items (takes.byte ∷ []),
      );
    }

pub push_item-requires-2-clause-clean : goal.push_item-requires-2-clause-clean
push_item-requires-2-clause-clean c =
    clean_joined _ _ _ _ c.as_slice-2.ensures.value c.in_ok-extend_from_slice-2.ensures.items c.loop-plain.invariant.item_clean c.loop-plain.invariant.clean

pub returns : goal.returns
returns c = record {
  items = last_item _ c.push_item-2.new.items c.loop-plain.item.items c.as_slice-2.result.now c.loop-plain.rest.now c.args.value.now c.loop-plain.invariant.so c.in_default.ensures.none
      (c.as_slice-2.ensures.value ∙ c.in_ok-extend_from_slice-2.ensures.items) c.in_ok-push_item-2.ensures.ok;
}
