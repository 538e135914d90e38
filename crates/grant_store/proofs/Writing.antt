-- The numbers at each subject, after those at one were written over.
use Rattle.std.proofs.Common.{◌≡◌, ℕ, ◌<◌, Bool, true, false, cond, List, [], Option, Some, None, refl, sym, ap, ◌∙◌, subst, is_some}
use Rattle.std.specs.Prelude.{IsSome}
use Rattle.std.specs.Option.{option_map_or}
use Rattle.std.specs.Map.{lookup}
use Rattle.indexmap.specs.IndexMap.{IndexMap, WritesThrough}
use Rattle.pk_types.specs.Roomy.{Roomy}
use Rattle.authority_model.specs.Keys.{same_key}
use Rattle.key_index.proofs.Comparing.{held_same}
use Rattle.key_index.specs.declared.keys.KeyOf.{KeyOf}
use Rattle.key_index.specs.contracts.keys.KeyOfPartialEq.TheImpl as derived
use Rattle.key_index.specs.contracts.keys.KeyOfEq.TheImpl.Laws.{laws-law}
use Rattle.key_index.specs.Held.{key_held}
use Rattle.grant_store.specs.Listed.{KeyNumbers, numbers_at, KeepsNumbers, HasRoomFor}

-- this row stands at the subject of a key, and at each other what stood there
abbrev pub Writes : KeyOf → Roomy ℕ → KeyNumbers → KeyNumbers → Type 0
Writes key row lists later = (q : KeyOf) → lookup (derived.ghosts.eq q) later ≡ cond (derived.ghosts.eq key q) (Some row) (lookup (derived.ghosts.eq q) lists)

-- what stands at a key stands at each that is the same
same_at : (key q : KeyOf) (lists : KeyNumbers) → derived.ghosts.eq key q ≡ true → lookup (derived.ghosts.eq key) lists ≡ lookup (derived.ghosts.eq q) lists
same_at key q lists same =
    let one : derived.ghosts.eq key ≡ derived.ghosts.eq q = λ j. λ z. laws-law.congr key q z same j in
    ap (λ test. lookup test lists) one

-- each subject has the numbers that it had, but for that of the key, whose numbers changed
pub numbers_written : (change : List ℕ → List ℕ) (key : KeyOf) (row : Roomy ℕ) (lists later : KeyNumbers) → Writes key row lists later → row.items ≡ change (numbers_at lists key) → (q : KeyOf)
    → numbers_at later q ≡ cond (derived.ghosts.eq key q) (change (numbers_at lists q)) (numbers_at lists q)
numbers_written change key row lists later written is q = ap (λ (o : Option (Roomy ℕ)). option_map_or (λ (r : Roomy ℕ). r.items) o []) (written q) ∙ go (derived.ghosts.eq key q) refl
  where
    go : (b : Bool) → derived.ghosts.eq key q ≡ b → option_map_or (λ (r : Roomy ℕ). r.items) (cond b (Some row) (lookup (derived.ghosts.eq q) lists)) [] ≡ cond b (change (numbers_at lists q)) (numbers_at lists q)
    go true same = is ∙ ap (λ (o : Option (Roomy ℕ)). change (option_map_or (λ (r : Roomy ℕ). r.items) o [])) (same_at key q lists same)
    go false other = refl

-- the same where they stay
pub numbers_kept : (key : KeyOf) (row : Roomy ℕ) (lists later : KeyNumbers) → Writes key row lists later → row.items ≡ numbers_at lists key → KeepsNumbers lists later
numbers_kept key row lists later written is q = numbers_written (λ ns. ns) key row lists later written is q ∙ by (derived.ghosts.eq key q) (numbers_at lists q)
  where
    by : (b : Bool) (ns : List ℕ) → cond b ns ns ≡ ns
    by true ns = refl
    by false ns = refl

-- the room that was written is at the subject
pub room_written : (key : KeyOf) (row : Roomy ℕ) (lists later : KeyNumbers) → Writes key row lists later → 0 < row.room → HasRoomFor (key_held key) later
room_written key row lists later written room q is =
    let same : derived.ghosts.eq key q ≡ true = held_same key q ∙ ap (same_key (key_held q)) (sym is) ∙ sym (held_same q q) ∙ laws-law.refl q in
    let there = written q ∙ ap (λ b. cond b (Some row) (lookup (derived.ghosts.eq q) lists)) same in
    subst (λ (o : Option (Roomy ℕ)). 0 < option_map_or (λ (r : Roomy ℕ). r.room) o 0) (sym there) room

-- the numbers of a row that is there
pub numbers_there : (key : KeyOf) (row : Roomy ℕ) (lists : KeyNumbers) → lookup (derived.ghosts.eq key) lists ≡ Some row → row.items ≡ numbers_at lists key
numbers_there key row lists found = sym (ap (λ (o : Option (Roomy ℕ)). option_map_or (λ (r : Roomy ℕ). r.items) o []) found)

-- there are none where no row is
pub no_numbers : (key : KeyOf) (lists : KeyNumbers) → lookup (derived.ghosts.eq key) lists ≡ None → [] ≡ numbers_at lists key
no_numbers key lists none = sym (ap (λ (o : Option (Roomy ℕ)). option_map_or (λ (r : Roomy ℕ). r.items) o []) none)

-- a row that was lent is written
pub lent : {S : Type 0} (m n : IndexMap KeyOf (Roomy ℕ) S) (key : KeyOf) (row w : Roomy ℕ) → lookup (derived.ghosts.eq key) m.entries ≡ Some row → WritesThrough derived.ghosts.eq (derived.ghosts.eq key) m w n → Writes key w m.entries n.entries
lent m n key row w found written = (written.3 (there (lookup (derived.ghosts.eq key) m.entries) found)).0
  where
    there : (o : Option (Roomy ℕ)) → o ≡ Some row → IsSome o
    there None is = absurd (cc)
    there (Some r) is = search

-- a row that is not there is not found
pub none_from : (o : Option (Roomy ℕ)) → is_some o ≡ false → o ≡ None
none_from None is = refl
none_from (Some r) is = absurd (cc)

-- and one that is there is
pub there_from : (o : Option (Roomy ℕ)) → is_some o ≡ true → IsSome o
there_from None is = absurd (cc)
there_from (Some r) is = search
