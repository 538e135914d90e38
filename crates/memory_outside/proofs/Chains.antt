-- The items of a chain, by its last place and the places before it.
use Rattle.std.proofs.Common.{◌≡◌, ◌<◌, ◌+◌, ℕ, List, [], ◌∷◌, ◌++◌, Option, Some, length, slice_get, refl, sym, ◌∙◌, arith, length-append}
use Rattle.std.proofs.lemmas.Option.{slice_get_within, slice_get_read, get_or_from_slice_get}
use Rattle.std.proofs.Math.ListN.{get_or-append}
use Rattle.std.proofs.Math.Seq.{get_or-append_seam}
use denote.Hole.Carrier.{out}
use Rattle.std.specs.Prelude.{Box}
use Rattle.std.specs.Option.{option_to_list}
use Rattle.std.specs.declared.alloc.Global.{Global}
use Rattle.memory_outside.specs.Returned.{node_items, chain_items}
use Rattle.memory_outside.specs.declared.seats.Node.{Node, Node', None', Some', out-Node}

-- An item among the first of a list.
slice_get-front : {T : Type 0} (xs ys : List T) (i : ℕ) (x : T) → slice_get xs i ≡ Some x → slice_get (xs ++ ys) i ≡ Some x
slice_get-front xs ys i x e =
    let within : i < length xs = slice_get_within xs i x e in
    let more : length xs + length ys ≡ length (xs ++ ys) = sym (length-append xs ys) in
    slice_get_read (xs ++ ys) (length (xs ++ ys)) i x refl (omega arith) (sym (get_or-append xs ys x i within ∙ get_or_from_slice_get xs i x x e))

-- The item behind all others.
slice_get-last : {T : Type 0} (xs : List T) (x : T) → slice_get (xs ++ x ∷ []) (length xs) ≡ Some x
slice_get-last xs x =
    let more : length (xs ++ x ∷ []) ≡ length xs + 1 = length-append xs (x ∷ []) in
    slice_get_read (xs ++ x ∷ []) (length (xs ++ x ∷ [])) (length xs) x refl (omega arith) (sym (get_or-append_seam xs x [] x))

-- The items up to a place are those before it, and then its own.
node_items-out : {T : Type 0} (n : Node T) → node_items n ≡ chain_items (out-Node T n).before ++ option_to_list (out-Node T n).item
unfolding out-Node out
node_items-out (Node' item None') = refl
node_items-out (Node' item (Some' p node)) = refl

-- What is known of the last place of a chain, of which two copies were looked at.
pub record IsLast {T : Type 0} (last : Option (Box (Node T) Global)) (node : Box (Node T) Global) (n : Node T) : Type 0 where
  pub is : last ≡ Some node
  pub copied : n ≡ node.value

-- An item before the last place.
pub found_before : {T : Type 0} (last : Option (Box (Node T) Global)) (node : Box (Node T) Global) (n : Node T) (place : ℕ) (x : T)
    → IsLast last node n → slice_get (chain_items (out-Node T n).before) place ≡ Some x → slice_get (chain_items last) place ≡ Some x
found_before last node n place x known e =
    rw (known.is, sym known.copied, node_items-out n) (slice_get-front _ (option_to_list (out-Node _ n).item) place x e)

-- The item of the last place.
pub found_last : {T : Type 0} (last : Option (Box (Node T) Global)) (node : Box (Node T) Global) (n : Node T) (place : ℕ) (x : T)
    → IsLast last node n → length (chain_items (out-Node T n).before) ≡ place → (out-Node T n).item ≡ Some x → slice_get (chain_items last) place ≡ Some x
found_last last node n place x known count e =
    rw (known.is, sym known.copied, node_items-out n, e, sym count) (slice_get-last (chain_items (out-Node _ n).before) x)

-- One item more than before the last place.
pub counted_last : {T : Type 0} (last : Option (Box (Node T) Global)) (node : Box (Node T) Global) (n : Node T) (x : T)
    → IsLast last node n → (out-Node T n).item ≡ Some x → length (chain_items last) ≡ length (chain_items (out-Node T n).before) + 1
counted_last last node n x known e = rw (known.is, sym known.copied, node_items-out n, e) (length-append (chain_items (out-Node _ n).before) (x ∷ []))
