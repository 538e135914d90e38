-- The one letter of a class that has one.
use Rattle.std.proofs.Common.{◌≡◌, ℕ, Bool, true, false, cond, eqb, refl}
use Rattle.std.proofs.lemmas.Bool.{eqb-true}
use Rattle.dbus_values.specs.declared.class.Class.{Class}
use Rattle.dbus_values.specs.declared.class.Class.TheVariants as class
use Rattle.dbus_values.specs.Types.{class_of}

skip : (b : Bool) (x y k : Class) → (x ≡ k → ⊥) → cond b x y ≡ k → y ≡ k
skip true x y k ne e = absurd (ne e)
skip false x y k ne e = e

take : (c l : ℕ) (x y k : Class) → (y ≡ k → ⊥) → cond (eqb c l) x y ≡ k → c ≡ l
take c l x y k ne e = go (eqb c l) refl e where
  go : (b : Bool) → eqb c l ≡ b → cond b x y ≡ k → c ≡ l
  go true is h = eqb-true c l is
  go false is h = absurd (ne h)

pub array_letter : (c : ℕ) → class_of c ≡ class.Array → c ≡ 97
array_letter c e =
    take c 97 class.Array _ class.Array (λ h. absurd (none h))
    (skip (eqb c 103) class.Signature _ class.Array (λ h. cc)
    (skip (eqb c 111) class.Path _ class.Array (λ h. cc)
    (skip (eqb c 115) class.Text _ class.Array (λ h. cc)
    (skip _ class.Long _ class.Array (λ h. cc)
    (skip _ class.Word _ class.Array (λ h. cc)
    (skip (eqb c 98) class.Boolean _ class.Array (λ h. cc)
    (skip _ class.Half _ class.Array (λ h. cc)
    (skip (eqb c 121) class.Byte _ class.Array (λ h. cc) e)))))))) where
      none : cond (eqb c 40) class.Struct (cond (eqb c 123) class.Entry (cond (eqb c 118) class.Variant class.Other)) ≡ class.Array → ⊥
      none h = other (skip (eqb c 118) class.Variant class.Other class.Array (λ h. cc) (skip (eqb c 123) class.Entry _ class.Array (λ h. cc) (skip (eqb c 40) class.Struct _ class.Array (λ h. cc) h))) where
        other : class.Other ≡ class.Array → ⊥
        other h = cc

pub struct_letter : (c : ℕ) → class_of c ≡ class.Struct → c ≡ 40
struct_letter c e =
    take c 40 class.Struct _ class.Struct (λ h. absurd (none h))
    (skip (eqb c 97) class.Array _ class.Struct (λ h. cc)
    (skip (eqb c 103) class.Signature _ class.Struct (λ h. cc)
    (skip (eqb c 111) class.Path _ class.Struct (λ h. cc)
    (skip (eqb c 115) class.Text _ class.Struct (λ h. cc)
    (skip _ class.Long _ class.Struct (λ h. cc)
    (skip _ class.Word _ class.Struct (λ h. cc)
    (skip (eqb c 98) class.Boolean _ class.Struct (λ h. cc)
    (skip _ class.Half _ class.Struct (λ h. cc)
    (skip (eqb c 121) class.Byte _ class.Struct (λ h. cc) e))))))))) where
      none : cond (eqb c 123) class.Entry (cond (eqb c 118) class.Variant class.Other) ≡ class.Struct → ⊥
      none h = other (skip (eqb c 118) class.Variant class.Other class.Struct (λ h. cc) (skip (eqb c 123) class.Entry _ class.Struct (λ h. cc) h)) where
        other : class.Other ≡ class.Struct → ⊥
        other h = cc

pub variant_letter : (c : ℕ) → class_of c ≡ class.Variant → c ≡ 118
variant_letter c e =
    take c 118 class.Variant class.Other class.Variant (λ h. cc)
    (skip (eqb c 123) class.Entry _ class.Variant (λ h. cc)
    (skip (eqb c 40) class.Struct _ class.Variant (λ h. cc)
    (skip (eqb c 97) class.Array _ class.Variant (λ h. cc)
    (skip (eqb c 103) class.Signature _ class.Variant (λ h. cc)
    (skip (eqb c 111) class.Path _ class.Variant (λ h. cc)
    (skip (eqb c 115) class.Text _ class.Variant (λ h. cc)
    (skip _ class.Long _ class.Variant (λ h. cc)
    (skip _ class.Word _ class.Variant (λ h. cc)
    (skip (eqb c 98) class.Boolean _ class.Variant (λ h. cc)
    (skip _ class.Half _ class.Variant (λ h. cc)
    (skip (eqb c 121) class.Byte _ class.Variant (λ h. cc) e)))))))))))
