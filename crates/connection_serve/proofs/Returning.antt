-- What a call leaves behind references that come back.
use Rattle.std.proofs.Common.{◌≡◌, sym, subst}

pub both_left : {A B : Type 0} (P : A → B → Type 0) {a a' : A} {b b' : B} → P a b → a ≡ a' → b ≡ b' → P a' b'
both_left P {a = a} {a' = a'} {b = b} {b' = b'} p is also = subst (P a') also (subst (λ x. P x b) is p)

-- the same behind as many as a reader has
pub all_left : {A B C D E F G : Type 0} (P : A → B → C → D → E → F → G → Type 0) (a a' : A) (b b' : B) (c c' : C) (d d' : D) (e e' : E) (f f' : F) (g g' : G)
    → P a b c d e f g → a' ≡ a → b' ≡ b → c' ≡ c → d' ≡ d → e' ≡ e → f' ≡ f → g' ≡ g → P a' b' c' d' e' f' g'
all_left P a a' b b' c c' d d' e e' f f' g g' p ea eb ec ed ee ef eg =
    subst (λ x. P a' b' c' d' e' f' x) (sym eg) (subst (λ x. P a' b' c' d' e' x g) (sym ef) (subst (λ x. P a' b' c' d' x f g) (sym ee) (subst (λ x. P a' b' c' x e f g) (sym ed) (subst (λ x. P a' b' x d e f g) (sym ec) (subst (λ x. P a' x c d e f g) (sym eb) (subst (λ x. P x b c d e f g) (sym ea) p))))))
