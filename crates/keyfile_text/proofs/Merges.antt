-- What an insertion in a map is for the groups that it stands for.
use Rattle.std.proofs.Common.{◌≡◌, ℕ, Bool, true, false, ◌&&◌, cond, List, [], ◌∷◌, map, Option, Some, None, Bor, refl, ap, sym, ◌∙◌, eq-eqb}
use Rattle.std.specs.Prelude.{bytes_eq}
use Rattle.std.specs.Map.{lookup}
use Rattle.indexmap.specs.IndexMap.{insert_entry}
use Rattle.pk_types.specs.Text.{IsText}
use Rattle.pk_types.specs.declared.values.Pair.{Pair}
use Rattle.keyfile_text.specs.Merging.{set_key, open_group, set_in}
use Rattle.keyfile_text.specs.Maps.{PairMap, pair_in, pairs_in, group_in, put_group, with_open, open_name, PairsAreTexts, GroupsAreTexts}
use Rattle.keyfile_text.specs.KeyFiles.{Grouped, set_open}
use Rattle.keyfile_text.specs.declared.groups.KeyGroup.{KeyGroup}
use Rattle.keyfile_text.specs.declared.grouping.OpenGroup.{OpenGroup}

-- two slices have the same bytes
abbrev pub same : Bor (List ℕ) → Bor (List ℕ) → Bool
same x y = bytes_eq x.now y.now

pub set_key-insert : (es : List (Bor (List ℕ) × Bor (List ℕ))) (k v : Bor (List ℕ)) → map pair_in (insert_entry same es k v) ≡ set_key k.now v.now (map pair_in es)
set_key-insert [] k v = refl
set_key-insert (e ∷ es) k v = of (bytes_eq k.now e.0.now) (set_key-insert es k v)
  where
    of : (t : Bool) → map pair_in (insert_entry same es k v) ≡ set_key k.now v.now (map pair_in es)
        → map pair_in (cond t ((e.0, v) ∷ es) (e ∷ insert_entry same es k v)) ≡ cond t ((record { key = e.0.now; value = v.now }) ∷ map pair_in es) (pair_in e ∷ set_key k.now v.now (map pair_in es))
    of true ih = refl
    of false ih = ap (λ r. pair_in e ∷ r) ih

pub put_group-insert : (es : List (Bor (List ℕ) × PairMap)) (k : Bor (List ℕ)) (v : PairMap) → map group_in (insert_entry same es k v) ≡ put_group k.now (pairs_in v) (map group_in es)
put_group-insert [] k v = refl
put_group-insert (e ∷ es) k v = of (bytes_eq k.now e.0.now) (put_group-insert es k v)
  where
    of : (t : Bool) → map group_in (insert_entry same es k v) ≡ put_group k.now (pairs_in v) (map group_in es)
        → map group_in (cond t ((e.0, v) ∷ es) (e ∷ insert_entry same es k v)) ≡ cond t ((record { name = e.0.now; pairs = pairs_in v }) ∷ map group_in es) (group_in e ∷ put_group k.now (pairs_in v) (map group_in es))
    of true ih = refl
    of false ih = ap (λ r. group_in e ∷ r) ih

bytes_eq-same : (bytes : List ℕ) → bytes_eq bytes bytes ≡ true
bytes_eq-same [] = refl
bytes_eq-same (b ∷ bytes) = ap (λ t. t && bytes_eq bytes bytes) (eq-eqb b b refl) ∙ bytes_eq-same bytes

pub set_in-put : (name key value : List ℕ) (pairs : List Pair) (groups : List KeyGroup)
    → set_in name key value (put_group name pairs groups) ≡ put_group name (set_key key value pairs) groups
set_in-put name key value pairs [] = ap (λ t. cond t ((record { name = name; pairs = set_key key value pairs }) ∷ []) ((record { name = name; pairs = pairs }) ∷ [])) (bytes_eq-same name)
set_in-put name key value pairs (g ∷ groups) = of (bytes_eq name g.name) refl (set_in-put name key value pairs groups)
  where
    of : (t : Bool) → bytes_eq name g.name ≡ t → set_in name key value (put_group name pairs groups) ≡ put_group name (set_key key value pairs) groups
        → set_in name key value (cond t ((record { name = g.name; pairs = pairs }) ∷ groups) (g ∷ put_group name pairs groups))
        ≡ cond t ((record { name = g.name; pairs = set_key key value pairs }) ∷ groups) (g ∷ put_group name (set_key key value pairs) groups)
    of true is ih = ap (λ t. cond t ((record { name = g.name; pairs = set_key key value pairs }) ∷ groups) ((record { name = g.name; pairs = pairs }) ∷ set_in name key value groups)) is
    of false is ih = ap (λ t. cond t ((record { name = g.name; pairs = set_key key value g.pairs }) ∷ put_group name pairs groups) (g ∷ set_in name key value (put_group name pairs groups))) is ∙ ap (λ r. g ∷ r) ih

some_same : (a b : PairMap) → Some a ≡ Some b → a ≡ b
some_same a b e = cc

-- a group that stands is opened again with its pairs
pub reopened : (es : List (Bor (List ℕ) × PairMap)) (k : Bor (List ℕ)) (fresh m : PairMap) → Some m ≡ lookup (same k) es
    → put_group k.now (pairs_in m) (map group_in (insert_entry same es k fresh)) ≡ open_group k.now (map group_in es)
reopened [] k fresh m e = absurd (cc)
reopened (x ∷ es) k fresh m e = of (bytes_eq k.now x.0.now) refl e (reopened es k fresh m)
  where
    of : (t : Bool) → bytes_eq k.now x.0.now ≡ t → Some m ≡ cond t (Some x.1) (lookup (same k) es)
        → (Some m ≡ lookup (same k) es → put_group k.now (pairs_in m) (map group_in (insert_entry same es k fresh)) ≡ open_group k.now (map group_in es))
        → put_group k.now (pairs_in m) (map group_in (cond t ((x.0, fresh) ∷ es) (x ∷ insert_entry same es k fresh))) ≡ cond t (group_in x ∷ map group_in es) (group_in x ∷ open_group k.now (map group_in es))
    of true is e ih =
        ap (λ t. cond t ((record { name = x.0.now; pairs = pairs_in m }) ∷ map group_in es) ((record { name = x.0.now; pairs = pairs_in fresh }) ∷ put_group k.now (pairs_in m) (map group_in es))) is
        ∙ ap (λ r. (record { name = x.0.now; pairs = pairs_in r }) ∷ map group_in es) (some_same m x.1 e)
    of false is e ih =
        ap (λ t. cond t ((record { name = x.0.now; pairs = pairs_in m }) ∷ map group_in (insert_entry same es k fresh)) (group_in x ∷ put_group k.now (pairs_in m) (map group_in (insert_entry same es k fresh)))) is
        ∙ ap (λ r. group_in x ∷ r) (ih e)

-- and another with none
pub first_opened : (es : List (Bor (List ℕ) × PairMap)) (k : Bor (List ℕ)) (fresh new : PairMap) → pairs_in new ≡ [] → None ≡ lookup (same k) es
    → put_group k.now (pairs_in new) (map group_in (insert_entry same es k fresh)) ≡ open_group k.now (map group_in es)
first_opened [] k fresh new none e =
    ap (λ t. cond t ((record { name = k.now; pairs = pairs_in new }) ∷ []) ((record { name = k.now; pairs = pairs_in fresh }) ∷ put_group k.now (pairs_in new) [])) (bytes_eq-same k.now)
    ∙ ap (λ r. (record { name = k.now; pairs = r }) ∷ []) none
first_opened (x ∷ es) k fresh new none e = of (bytes_eq k.now x.0.now) refl e (first_opened es k fresh new none)
  where
    of : (t : Bool) → bytes_eq k.now x.0.now ≡ t → None ≡ cond t (Some x.1) (lookup (same k) es)
        → (None ≡ lookup (same k) es → put_group k.now (pairs_in new) (map group_in (insert_entry same es k fresh)) ≡ open_group k.now (map group_in es))
        → put_group k.now (pairs_in new) (map group_in (cond t ((x.0, fresh) ∷ es) (x ∷ insert_entry same es k fresh))) ≡ cond t (group_in x ∷ map group_in es) (group_in x ∷ open_group k.now (map group_in es))
    of true is e ih = absurd (cc)
    of false is e ih =
        ap (λ t. cond t ((record { name = x.0.now; pairs = pairs_in new }) ∷ map group_in (insert_entry same es k fresh)) (group_in x ∷ put_group k.now (pairs_in new) (map group_in (insert_entry same es k fresh)))) is
        ∙ ap (λ r. group_in x ∷ r) (ih e)

-- groups of texts stay so
pub texts-set_key : (key value : List ℕ) (pairs : List Pair) → IsText key → IsText value → PairsAreTexts pairs → PairsAreTexts (set_key key value pairs)
texts-set_key key value [] k v texts = (k, v, tt)
texts-set_key key value (p ∷ pairs) k v texts = of (bytes_eq key p.key) (texts-set_key key value pairs k v texts.2)
  where
    of : (t : Bool) → PairsAreTexts (set_key key value pairs) → PairsAreTexts (cond t ((record { key = p.key; value = value }) ∷ pairs) (p ∷ set_key key value pairs))
    of true ih = (texts.0, v, texts.2)
    of false ih = (texts.0, texts.1, ih)

pub texts-open_group : (name : List ℕ) (groups : List KeyGroup) → IsText name → GroupsAreTexts groups → GroupsAreTexts (open_group name groups)
texts-open_group name [] n texts = (n, tt, tt)
texts-open_group name (g ∷ groups) n texts = of (bytes_eq name g.name) (texts-open_group name groups n texts.2)
  where
    of : (t : Bool) → GroupsAreTexts (open_group name groups) → GroupsAreTexts (cond t (g ∷ groups) (g ∷ open_group name groups))
    of true ih = texts
    of false ih = (texts.0, texts.1, ih)

pub texts-set_in : (name key value : List ℕ) (groups : List KeyGroup) → IsText key → IsText value → GroupsAreTexts groups → GroupsAreTexts (set_in name key value groups)
texts-set_in name key value [] k v texts = tt
texts-set_in name key value (g ∷ groups) k v texts = of (bytes_eq name g.name) (texts-set_in name key value groups k v texts.2)
  where
    of : (t : Bool) → GroupsAreTexts (set_in name key value groups)
        → GroupsAreTexts (cond t ((record { name = g.name; pairs = set_key key value g.pairs }) ∷ groups) (g ∷ set_in name key value groups))
    of true ih = (texts.0, texts-set_key key value g.pairs k v texts.1, texts.2)
    of false ih = (texts.0, texts.1, ih)

some_group : (a b : OpenGroup) → Some a ≡ Some b → a ≡ b
some_group a b e = cc

abbrev groupings : Option (List ℕ) → List KeyGroup → Grouped
groupings current groups = record { current = current; groups = groups }

-- the open group with one key more
pub with_key_is : (current : Option OpenGroup) (last new : OpenGroup) (groups : List KeyGroup) (key value : List ℕ) → current ≡ Some last → new.name.now ≡ last.name.now
    → pairs_in new.pairs ≡ set_key key value (pairs_in last.pairs)
    → groupings (open_name (Some new)) (with_open (Some new) groups) ≡ groupings (open_name current) (set_open (open_name current) key value (with_open current groups))
with_key_is None last new groups key value is name set = absurd (cc)
with_key_is (Some other) last new groups key value is name set =
    ap (λ n. groupings (Some n) (put_group n (pairs_in new.pairs) groups)) name
    ∙ ap (λ p. groupings (Some last.name.now) (put_group last.name.now p groups)) set
    ∙ ap (groupings (Some last.name.now)) (sym (set_in-put last.name.now key value (pairs_in last.pairs) groups))
    ∙ ap (λ (o : OpenGroup). groupings (Some o.name.now) (set_in o.name.now key value (put_group o.name.now (pairs_in o.pairs) groups))) (sym (some_group other last is))

-- what a key set in the open group leaves are texts
pub texts-set_open : (current : Option (List ℕ)) (key value : List ℕ) (groups : List KeyGroup) → IsText key → IsText value → GroupsAreTexts groups → GroupsAreTexts (set_open current key value groups)
texts-set_open None key value groups k v texts = texts
texts-set_open (Some name) key value groups k v texts = texts-set_in name key value groups k v texts
