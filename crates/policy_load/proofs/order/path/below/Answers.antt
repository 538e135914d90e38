-- The bytes of a path are those of a text, unless they are too many.
use Rattle.std.proofs.Common.{◌≡◌, ◌∷◌, [], ◌++◌, ap, subst, ◌∙◌, append_assoc}
use Rattle.pk_types.specs.Text.{TextFaultIs, text_fault_of}
use Rattle.policy_load.specs.Paths.{with_name}
use Rattle.policy_load.proofs.PathTexts.{path_good}
use Rattle.policy_load.proofs.order.path.below.Goals as goal

pub unreachable-requires : goal.unreachable-requires
unreachable-requires c =
    let same : c.as_slice.result.now ≡ with_name c.args.directory.now c.args.name.now =
    c.as_slice.ensures.value
    ∙ c.in_ok-extend_from_slice.ensures.items
    ∙ ap (λ b. b ++ c.args.name.now) (c.in_ok-push.ensures.items ∙ ap (λ b. b ++ 47 ∷ []) (c.in_ok-bytes.ensures.items ∙ c.bytes.ensures.bytes))
    ∙ append_assoc c.args.directory.now (47 ∷ []) c.args.name.now in
    path_good c.args.directory.now c.args.name.now c.as_slice.result.now c.in-Err-BadByte.field-0-0 same c.bytes.ensures.text c.requires
    (subst (λ f. TextFaultIs f (text_fault_of c.as_slice.result.now)) c.in-Err-BadByte.field-0-is c.in-Err-BadByte.ensures.text)
