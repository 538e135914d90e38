use Rattle.std.proofs.Common.{◌≡◌, false, ap, sym, ◌∙◌}
use Rattle.std.specs.Prelude.{◌==◌}
use Rattle.std.specs.List.{before_first}
use Rattle.authority_model.specs.Lists.{any_of}
use Rattle.authority_model.specs.Identities.{is_kind}
use Rattle.authority_model.proofs.Fronts.{no_colon, no_kind}
use Rattle.authority_model.proofs.world.World.identity.Goals as goal

pub returns-then-not-has_colon-clause-identity : goal.returns-then-not-has_colon-clause-identity
returns-then-not-has_colon-clause-identity c =
    let without : any_of (λ b. b == 58) c.args.text.now ≡ false = ap (any_of (λ b. b == 58)) (sym c.bytes-bytes.ensures.bytes) ∙ sym c.has_colon.ensures.colon ∙ c.if-not-has_colon.true in
    sym (no_colon c.args.self.now c.args.text.now without)

pub returns-then-not-is_kind-clause-identity : goal.returns-then-not-is_kind-clause-identity
returns-then-not-is_kind-clause-identity c =
    let other : is_kind (before_first (λ b. b == 58) c.args.text.now) ≡ false =
    ap (λ bs. is_kind (before_first (λ b. b == 58) bs)) (sym c.bytes-bytes.ensures.bytes) ∙ ap is_kind (sym c.before_colon.ensures.before) ∙ sym c.is_kind.ensures.kind ∙ c.if-not-is_kind.true in
    sym (no_kind c.args.self.now c.args.text.now other)
