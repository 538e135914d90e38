-- The first of some messages that tells something, where more follow them.
use Rattle.std.proofs.Common.{◌≡◌, ℕ, List, [], ◌∷◌, ◌++◌, Option, Some, None, refl, ap, sym, ◌∙◌}
use Rattle.std.specs.List.{filter_map, cons_option}
use Rattle.std.specs.Option.{option_map}
use Rattle.dbus_values.specs.Next.{Seen}
use Rattle.script_agent.specs.Waits.{first_after, first_of}

-- something is not nothing
pub some_none : {A : Type 0} {x : A} → Some x ≡ None → ⊥
some_none e = cc

pub some_same : {A : Type 0} {x y : A} → Some x ≡ Some y → x ≡ y
some_same e = cc

-- none of those before tells anything
pub first_of-none : {A : Type 0} (tells : Seen → Option A) (messages more : List Seen) → first_of tells messages ≡ None → first_of tells (messages ++ more) ≡ first_of tells more
first_of-none tells [] more none = refl
first_of-none {A = A} tells (m ∷ messages) more none = go (tells m) (first_of-none tells messages more) none
  where
    go : (o : Option A) → (first_of tells messages ≡ None → first_of tells (messages ++ more) ≡ first_of tells more)
        → first_after o messages (first_of tells messages) ≡ None → first_after o (messages ++ more) (first_of tells (messages ++ more)) ≡ first_of tells more
    go (Some told) later e = absurd (some_none e)
    go None later e = later e

-- one of those before does
pub first_of-some : {A : Type 0} (tells : Seen → Option A) (messages more : List Seen) (told : A) (later : List Seen) → first_of tells messages ≡ Some (told, later)
    → first_of tells (messages ++ more) ≡ Some (told, later ++ more)
first_of-some tells [] more told later e = absurd (some_none (sym e))
first_of-some {A = A} tells (m ∷ messages) more told later e = go (tells m) (first_of-some tells messages more told later) e
  where
    go : (o : Option A) → (first_of tells messages ≡ Some (told, later) → first_of tells (messages ++ more) ≡ Some (told, later ++ more))
        → first_after o messages (first_of tells messages) ≡ Some (told, later) → first_after o (messages ++ more) (first_of tells (messages ++ more)) ≡ Some (told, later ++ more)
    go (Some found) behind e = ap (option_map (λ (x : A × List Seen). (x.0, x.1 ++ more))) e
    go None behind e = behind e

-- where the first stands last, it is the only one
pub filter_map-first : {A : Type 0} (tells : Seen → Option A) (messages : List Seen) (told : A) → first_of tells messages ≡ Some (told, []) → filter_map tells messages ≡ told ∷ []
filter_map-first tells [] told e = absurd (some_none (sym e))
filter_map-first {A = A} tells (m ∷ messages) told e = go (tells m) (filter_map-first tells messages told) e
  where
    go : (o : Option A) → (first_of tells messages ≡ Some (told, []) → filter_map tells messages ≡ told ∷ [])
        → first_after o messages (first_of tells messages) ≡ Some (told, []) → cons_option o (filter_map tells messages) ≡ told ∷ []
    go (Some found) behind e =
        ap (λ x. x ∷ filter_map tells messages) (ap (λ (x : A × List Seen). x.0) (some_same e))
        ∙ ap (λ later. told ∷ filter_map tells later) (ap (λ (x : A × List Seen). x.1) (some_same e))
    go None behind e = behind e

-- where there is none, none tells anything
pub filter_map-none : {A : Type 0} (tells : Seen → Option A) (messages : List Seen) → first_of tells messages ≡ None → filter_map tells messages ≡ []
filter_map-none tells [] e = refl
filter_map-none {A = A} tells (m ∷ messages) e = go (tells m) (filter_map-none tells messages) e
  where
    go : (o : Option A) → (first_of tells messages ≡ None → filter_map tells messages ≡ [])
        → first_after o messages (first_of tells messages) ≡ None → cons_option o (filter_map tells messages) ≡ []
    go (Some found) behind e = absurd (some_none e)
    go None behind e = behind e
