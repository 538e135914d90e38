use Rattle.std.proofs.Common.{◌≡◌, ℕ, List, ◌++◌, length, sym, ap, ◌∙◌, arith, rules, refl}
use Rattle.dbus_values.specs.declared.codes.TheConstants.{MAX_MESSAGE}
use Rattle.dbus_values.specs.declared.value.Value.{Value, Entry, Variant, the_lemmas}
use Rattle.dbus_values.specs.Trees as trees
use Rattle.dbus_values.specs.Basics.{gap}
use Rattle.dbus_values.specs.Trees.{padding, type_of}
use Rattle.dbus_values.specs.Written.{tree}
use Rattle.dbus_values.proofs.Writing.{on_ok, drop_form, next_short, struct_begin, struct_short, struct_done, array_begin, array_short, array_done, entry_form, key_short, mapped_short, entry_done, variant_form, inner_short}
use Rattle.dbus_values.proofs.write.+put_value.Goals as goal

pub loop-item-init : goal.loop-item-init
loop-item-init t c = record {
  so_far = refl;
  forms = array_begin c.in-Array.of c.in-Array.items c.args.value.now _ c.in-Array.is c.deref-item-items.ensures.value c.requires.form;
  short = array_short c.in-Array.of c.in-Array.items c.args.value.now _ _ _ _ _ _ c.in-Array.is c.deref-item-items.ensures.value c.bytes.ensures.bytes c.in_ok-pad_to-in-Array.ensures.exact c.in_ok-put_u32-in-Array.ensures.exact (c.in_ok-pad_to-in-Array-2.ensures.exact ∙ ap (λ (n : ℕ). c.put_u32.new.out.items ++ padding (gap n (length c.put_u32.new.out.items))) c.item_align.ensures.exact) c.requires.short;
}

pub put_value-requires : goal.put_value-requires
put_value-requires t c = (search (rules, the_lemmas), ((drop_form _ c.loop-item.item-index _ c.loop-item-test.true (sym c.item-item.is) c.loop-item.invariant.forms).0, next_short _ c.loop-item.item-index _ _ _ MAX_MESSAGE c.loop-item-test.true (sym c.item-item.is) c.loop-item.invariant.so_far c.loop-item.invariant.short))

pub loop-member-init : goal.loop-member-init
loop-member-init t c = record {
  so_far = refl;
  forms = struct_begin c.in-Struct.members c.args.value.now _ c.in-Struct.is c.deref-member-items.ensures.value c.requires.form;
  short = struct_short c.in-Struct.members c.args.value.now _ _ _ c.in-Struct.is c.deref-member-items.ensures.value c.in_ok-pad_to-in-Struct.ensures.exact c.requires.short;
}

pub put_value-requires-in-loop-member : goal.put_value-requires-in-loop-member
put_value-requires-in-loop-member t c = (search (rules, the_lemmas), ((drop_form _ c.loop-member.member-index _ c.loop-member-test.true (sym c.member-item.is) c.loop-member.invariant.forms).0, next_short _ c.loop-member.member-index _ _ _ MAX_MESSAGE c.loop-member-test.true (sym c.member-item.is) c.loop-member.invariant.so_far c.loop-member.invariant.short))

pub returns-after-loop-item : goal.returns-after-loop-item
returns-after-loop-item t c = record { exact = array_done c.in-Array.of c.in-Array.items c.args.value.now _ _ c.loop-item.item-index _ _ _ _ _ _ _ _ c.in-Array.is c.deref-item-items.ensures.value c.loop-item-test.false c.bytes.ensures.bytes c.in_ok-pad_to-in-Array.ensures.exact c.in_ok-put_u32-in-Array.ensures.exact (c.in_ok-pad_to-in-Array-2.ensures.exact ∙ ap (λ (n : ℕ). c.put_u32.new.out.items ++ padding (gap n (length c.put_u32.new.out.items))) c.item_align.ensures.exact) c.loop-item.invariant.so_far c.length_of-at.ensures.exact (omega (arith, c.length_of.ensures.exact, c.length_of-start.ensures.exact)) c.patch.ensures.exact }

pub returns-after-loop-member : goal.returns-after-loop-member
returns-after-loop-member t c = record { exact = struct_done c.in-Struct.members c.args.value.now _ c.loop-member.member-index _ _ _ c.in-Struct.is c.deref-member-items.ensures.value c.loop-member-test.false c.in_ok-pad_to-in-Struct.ensures.exact c.loop-member.invariant.so_far }

entry_is : (value : Value) (key mapped : _) (k m : Value) → value ≡ Entry key mapped → k ≡ key.value → m ≡ mapped.value → tree value ≡ trees.Entry (tree k) (tree m)
entry_is value key mapped k m is k-is m-is = ap tree is ∙ ap (λ (x : Value). trees.Entry (tree x) (tree mapped.value)) (sym k-is) ∙ ap (λ (x : Value). trees.Entry (tree k) (tree x)) (sym m-is)

variant_is : (value : Value) (inner : _) (v : Value) → value ≡ Variant inner → v ≡ inner.value → tree value ≡ trees.Variant (tree v)
variant_is value inner v is v-is = ap tree is ∙ ap (λ (x : Value). trees.Variant (tree x)) (sym v-is)

pub put_value-requires-in-Entry : goal.put_value-requires-in-Entry
put_value-requires-in-Entry t c = (search (rules, the_lemmas), ((entry_form c.args.value.now c.deref.result.now c.in-Entry.mapped.value (entry_is _ _ _ _ _ c.in-Entry.is c.deref.ensures refl) c.requires.form).0, key_short c.args.value.now (tree c.deref.result.now) (tree c.in-Entry.mapped.value) _ _ (entry_is _ _ _ _ _ c.in-Entry.is c.deref.ensures refl) c.in_ok-pad_to-in-Entry.ensures.exact c.requires.short))

pub put_value-requires-in-Entry-2 : goal.put_value-requires-in-Entry-2
put_value-requires-in-Entry-2 t c = (search (rules, the_lemmas), ((entry_form c.args.value.now c.deref.result.now c.deref-in-Entry.result.now (entry_is _ _ _ _ _ c.in-Entry.is c.deref.ensures c.deref-in-Entry.ensures) c.requires.form).1, mapped_short c.args.value.now (tree c.deref.result.now) (tree c.deref-in-Entry.result.now) _ _ _ (entry_is _ _ _ _ _ c.in-Entry.is c.deref.ensures c.deref-in-Entry.ensures) c.in_ok-pad_to-in-Entry.ensures.exact c.in_ok-put_value-in-Entry.ensures.exact c.requires.short))

pub returns-in_ok-put_value-in-Entry : goal.returns-in_ok-put_value-in-Entry
returns-in_ok-put_value-in-Entry t c = record { exact = on_ok c.put_value-in-Entry-2.result (λ written. entry_done c.args.value.now (tree c.deref.result.now) (tree c.deref-in-Entry.result.now) _ _ _ _ (entry_is _ _ _ _ _ c.in-Entry.is c.deref.ensures c.deref-in-Entry.ensures) c.in_ok-pad_to-in-Entry.ensures.exact c.in_ok-put_value-in-Entry.ensures.exact written) c.put_value-in-Entry-2.ensures.exact }

pub put_signature-requires : goal.put_signature-requires
put_signature-requires t c =
    let type_is : c.deref-in-Variant-2.result.now ≡ type_of (tree c.deref-in-Variant.result.now) = c.deref-in-Variant-2.ensures.value ∙ c.in_ok-put_type-in-Variant.ensures.exact ∙ ap (λ (x : List ℕ). x ++ type_of (tree c.deref-in-Variant.result.now)) c.new-signature.ensures.items in
    let short = (variant_form c.args.value.now c.deref-in-Variant.result.now (variant_is _ _ _ c.in-Variant.is c.deref-in-Variant.ensures) c.requires.form).1 in
    omega (arith, ap length type_is, short)

pub put_value-requires-in-Variant : goal.put_value-requires-in-Variant
put_value-requires-in-Variant t c =
    let is = variant_is _ _ c.deref-in-Variant-3.result.now c.in-Variant.is c.deref-in-Variant-3.ensures in
    let type_is : c.deref-in-Variant-2.result.now ≡ type_of (tree c.deref-in-Variant-3.result.now) = c.deref-in-Variant-2.ensures.value ∙ c.in_ok-put_type-in-Variant.ensures.exact ∙ ap (λ (x : List ℕ). x ++ type_of (tree c.deref-in-Variant.result.now)) c.new-signature.ensures.items
    ∙ ap (λ (v : Value). type_of (tree v)) (c.deref-in-Variant.ensures ∙ sym c.deref-in-Variant-3.ensures) in
    (search (rules, the_lemmas), ((variant_form c.args.value.now c.deref-in-Variant-3.result.now is c.requires.form).0, inner_short c.args.value.now (tree c.deref-in-Variant-3.result.now) _ _ _ is type_is c.in_ok-put_signature-in-Variant.ensures.exact c.requires.short))
