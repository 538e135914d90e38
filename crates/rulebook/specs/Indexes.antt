-- What the index of a policy lists.
use Rattle.std.specs.Prelude.{◌≡◌, ℕ, ◌+◌, ◌==◌, Bool, false, not, ◌&&◌, ◌||◌, if◌then◌else◌, List, [], ◌∷◌, ◌++◌, Option, None, Some, nat_lt, unwrap_or, option_map, option_to_list, flat_map, bytes_eq, slice_get, position}
use Rattle.std.specs.List.{list_any}
use Rattle.std.specs.Map.{lookup}
use Rattle.std.specs.declared.alloc.Global.{Global}
use Rattle.std.specs.declared.vec.Vec.{Vec}
use Rattle.pk_types.specs.Text.{IsText}
use Rattle.authority_model.specs.declared.policy.Policy.{Policy}
use Rattle.authority_model.specs.declared.policy.RuleEntry.{RuleEntry}
use Rattle.authority_model.specs.Lists.{any_of, Each}
use Rattle.authority_model.specs.Words.{Bytes}
use Rattle.rulebook.specs.declared.index.RuleIndex.{RuleIndex}

-- a byte that stands for others in a glob: `*` or `?`
abbrev pub is_wild : ℕ → Bool
is_wild b = (b == 42) || (b == 63)

-- an exact glob has neither `*` nor `?`, so it stands for itself alone
abbrev pub is_exact : Bytes → Bool
is_exact glob = not (list_any is_wild glob)

-- whether one of the identity globs of a rule is exact and is this label
abbrev pub names : Bytes → RuleEntry → Bool
names label e = any_of (λ glob. is_exact glob && bytes_eq glob label) e.identities

-- whether one of the identity globs of a rule has a `*` or a `?`
abbrev pub has_pattern : RuleEntry → Bool
has_pattern e = any_of (λ glob. not (is_exact glob)) e.identities

-- the places of the rules that pass the test, rising; the first rule has the place n
abbrev pub places_from : ℕ → (RuleEntry → Bool) → List RuleEntry → List ℕ
places_from n test [] = []
places_from n test (e ∷ es) = if test e then n ∷ places_from (n + 1) test es else places_from (n + 1) test es

-- whether the last of these places is p
abbrev pub ends_with : List ℕ → ℕ → Bool
ends_with [] p = false
ends_with (x ∷ []) p = x == p
ends_with (x ∷ y ∷ xs) p = ends_with (y ∷ xs) p

-- the place goes last, once
abbrev pub add_place : List ℕ → ℕ → List ℕ
add_place places p = if ends_with places p then places else places ++ p ∷ []

-- the place goes last where the test holds
abbrev pub add_where : Bool → List ℕ → ℕ → List ℕ
add_where test places p = if test then add_place places p else places

-- a text as a key, which owns its bytes
abbrev pub TextKey : Type 0
TextKey = Vec ℕ Global

-- the value at a text
abbrev pub at_text : {X : Type 0} → List (TextKey × X) → Bytes → Option X
at_text rows text = lookup (λ k. bytes_eq text k.items) rows

-- the list at a text; where there is none, no place
abbrev pub listed : List (TextKey × List ℕ) → Bytes → List ℕ
listed rows text = unwrap_or (at_text rows text) []

-- the rules at these places, each with its place
abbrev pub rows_at : List RuleEntry → List ℕ → List (ℕ × RuleEntry)
rows_at entries places = flat_map (λ p. option_to_list (option_map (λ e. (p, e)) (slice_get entries p))) places

-- the one with the greater place of two rules that may be there
abbrev pub later : Option (ℕ × RuleEntry) → Option (ℕ × RuleEntry) → Option (ℕ × RuleEntry)
later None b = b
later (Some a) None = Some a
later (Some a) (Some b) = if nat_lt a.0 b.0 then Some b else Some a

-- The index is of this policy: the first place of each action id, the places of the rules with each exact identity glob,
-- and those of the rules with another one.
pub record IsIndexOf (policy : Policy) (index : RuleIndex) : Type 0 where
  pub actions : (id : Bytes) → at_text index.actions.entries id ≡ position (λ a. bytes_eq a.id id) policy.actions
  pub exact : (label : Bytes) → listed index.exact.entries label ≡ places_from 0 (names label) policy.entries
  pub patterns : index.patterns ≡ places_from 0 has_pattern policy.entries
  pub texts : Each (λ e. Each IsText e.identities) policy.entries
