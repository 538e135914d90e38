-- Texts that begin with a front.
use Rattle.std.proofs.Common.{◌≡◌, ◌≢◌, Bool, true, false, [], ◌∷◌, ◌++◌, Option, Some, None, refl, ap, sym, ◌∙◌, cond}
use Rattle.std.specs.Prelude.{◌==◌, codes, MatchOption, option_and_then}
use Rattle.std.specs.Borrow.{Bor}
use Rattle.std.specs.List.{before_first}
use Rattle.std.specs.Option.{option_copied}
use Rattle.std.proofs.lemmas.Bool.{eqb-true, eq-eqb}
use Rattle.authority_model.specs.declared.world.World.{World}
use Rattle.authority_model.specs.Lists.{any_of, or_else}
use Rattle.authority_model.specs.Words.{Bytes, after_front}
use Rattle.authority_model.specs.Worlds.{identity_of, user_of_word, group_of_word}
use Rattle.authority_model.specs.Identities.{is_kind}

-- what is left of a front with more behind it
pub after_front-append : (front text : Bytes) → after_front front (front ++ text) ≡ Some text
after_front-append [] text = refl
after_front-append (b ∷ front) text = ap (λ t. cond t (after_front front (front ++ text)) None) (eq-eqb b b refl) ∙ after_front-append front text

-- nothing is left of a text that does not begin with the front
pub after_front-other : (front text : Bytes) → ((rest : Bytes) → text ≢ front ++ rest) → after_front front text ≡ None
after_front-other [] text other = absurd (other text refl)
after_front-other (b ∷ front) [] other = refl
after_front-other (b ∷ front) (c ∷ text) other = go (after_front-other front text) (b == c) refl
  where
    go : (((rest : Bytes) → text ≢ front ++ rest) → after_front front text ≡ None) → (t : Bool) → (b == c) ≡ t → cond t (after_front front text) None ≡ None
    go rest true same = rest (λ more is. other more (ap (λ bs. c ∷ bs) is ∙ ap (λ x. x ∷ front ++ more) (sym (eqb-true b c same))))
    go rest false same = refl

-- what `strip_prefix` says of a text
pub after_front-stripped : (front text : Bytes) (r : Option (Bor Bytes)) → MatchOption r ((rest : Bytes) → text ≢ front ++ rest) (λ x. text ≡ front ++ x.now) → option_copied r ≡ after_front front text
after_front-stripped front text None other = sym (after_front-other front text other)
after_front-stripped front text (Some x) is = sym (ap (after_front front) is ∙ after_front-append front x.now)

-- a text that begins with neither front names nobody
pub no_identity : (world : World) (text : Bytes) → ((rest : Bytes) → text ≢ codes "unix-user:" ++ rest) → ((rest : Bytes) → text ≢ codes "unix-group:" ++ rest) → identity_of world text ≡ None
no_identity world text user group =
    ap (λ o. or_else (option_and_then (user_of_word world) o) (option_and_then (group_of_word world) (after_front (codes "unix-group:") text))) (after_front-other (codes "unix-user:") text user)
    ∙ ap (option_and_then (group_of_word world)) (after_front-other (codes "unix-group:") text group)

-- a text without a colon names nobody
pub no_colon : (world : World) (text : Bytes) → any_of (λ b. b == 58) text ≡ false → identity_of world text ≡ None
no_colon world text without =
    no_identity world text
    (λ rest is. let has : any_of (λ b. b == 58) text ≡ true = ap (any_of (λ b. b == 58)) is in cc)
    (λ rest is. let has : any_of (λ b. b == 58) text ≡ true = ap (any_of (λ b. b == 58)) is in cc)

-- a text with another word before its first colon names nobody
pub no_kind : (world : World) (text : Bytes) → is_kind (before_first (λ b. b == 58) text) ≡ false → identity_of world text ≡ None
no_kind world text other =
    no_identity world text
    (λ rest is. let has : is_kind (before_first (λ b. b == 58) text) ≡ true = ap (λ bs. is_kind (before_first (λ b. b == 58) bs)) is in cc)
    (λ rest is. let has : is_kind (before_first (λ b. b == 58) text) ≡ true = ap (λ bs. is_kind (before_first (λ b. b == 58) bs)) is in cc)
