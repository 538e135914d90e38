-- Items one after the other, as a loop over a range takes them.
use Rattle.std.proofs.Common.{◌≡◌, ℕ, suc, ◌+◌, ◌-◌, ◌<◌, ◌≤◌, List, [], ◌∷◌, ◌++◌, Bool, true, false, cond, Option, Some, None, refl, ◌∙◌, ap, arith, append_assoc}
use Rattle.std.proofs.lemmas.List.{append-nil}
use Rattle.std.specs.Prelude.{option_to_list, is_some}
use Rattle.std.specs.Str.{bytes_eq}
use Rattle.pk_types.specs.declared.values.Pair.{Pair}
use Rattle.dbus_values.specs.Parts.{Piece}
use Rattle.authority_model.specs.Words.{Bytes}
use Rattle.authority_calls.specs.Arguments.{Reading, go_on, ◌>>=◌, given, out_of_form, chosen, many, part_as, as_enter}
use Rattle.dbus_values.specs.Walk.{most_parts}
use Rattle.authority_calls.specs.Dictionaries.{Keyed, values_of, the_only, one, two, found_with, next_entry, next_pair, pairs}

-- what is done with the items, whether they are read with one more in front or not
another_on : {A B : Type 0} (x : A) (f : List A → Reading B) (g : List A → Reading B) (same : (xs : List A) (rest : List Piece) → f (x ∷ xs) rest ≡ g xs rest) (r : Option (List A × List Piece)) → go_on f (go_on (λ xs. given (x ∷ xs)) r) ≡ go_on g r
another_on x f g same None = refl
another_on x f g same (Some r) = same r.0 r.1

pub many_more : {A B : Type 0} (n i : ℕ) (item : Reading (Option A)) (f g : List A → Reading B) (x : A) (old new : List Piece) → i < n → item old ≡ Some (Some x, new) → ((xs : List A) (rest : List Piece) → f (x ∷ xs) rest ≡ g xs rest) → (many (n - i) item >>= f) old ≡ (many (n - (i + 1)) item >>= g) new
unfolding many
many_more n i item f g x old new lt is same =
    let k : n - i ≡ suc (n - (i + 1)) = omega arith in
    rw (k, is) (another_on x f g same (many (n - (i + 1)) item new))

pub many_end : {A B : Type 0} (n i : ℕ) (item : Reading (Option A)) (f : List A → Reading B) (old new : List Piece) → i < n → item old ≡ Some (None, new) → (many (n - i) item >>= f) old ≡ f [] new
unfolding many
many_end n i item f old new lt is = let k : n - i ≡ suc (n - (i + 1)) = omega arith in rw (k, is) refl

pub many_fault : {A B : Type 0} (n i : ℕ) (item : Reading (Option A)) (f : List A → Reading B) (old : List Piece) → i < n → item old ≡ None → (many (n - i) item >>= f) old ≡ None
unfolding many
many_fault n i item f old lt is = let k : n - i ≡ suc (n - (i + 1)) = omega arith in rw (k, is) refl

pub many_used : {A B : Type 0} (n i : ℕ) (item : Reading (Option A)) (f : List A → Reading B) (old : List Piece) → n ≤ i → (many (n - i) item >>= f) old ≡ None
unfolding many
many_used n i item f old le = let k : n - i ≡ 0 = omega arith in rw k refl

-- what is left of `one`, where a value was found under the key or none
unfoldable pub one_left : ℕ → Option Piece → Bytes → List Piece → Option (Piece × List Piece)
one_left n found key parts = (many n next_entry >>= λ es. chosen (the_only (option_to_list found ++ values_of key es))) parts

pub one_begins : (key : Bytes) (old new : List Piece) → part_as as_enter old ≡ Some (tt, new) → one key old ≡ one_left most_parts None key new
unfolding one_left
one_begins key old new is = rw is refl

pub one_closed : (key : Bytes) (old : List Piece) → part_as as_enter old ≡ None → one key old ≡ None
one_closed key old is = rw is refl

-- one more entry
values_more : (key : Bytes) (e : Keyed) (es : List Keyed) → values_of key (e ∷ es) ≡ cond (bytes_eq e.key key) (e.value ∷ values_of key es) (values_of key es)
values_more key e es = by_test (bytes_eq e.key key) refl
  where
    by_test : (b : Bool) → bytes_eq e.key key ≡ b → values_of key (e ∷ es) ≡ cond (bytes_eq e.key key) (e.value ∷ values_of key es) (values_of key es)
    by_test true is = rw is refl
    by_test false is = rw is refl

only_more_by : (b : Bool) (found next : Option Piece) (v : Piece) (vs : List Piece) → cond b (cond (is_some found) None (Some (Some v))) (Some found) ≡ Some next → the_only (option_to_list found ++ cond b (v ∷ vs) vs) ≡ the_only (option_to_list next ++ vs)
only_more_by true None next v vs is = let same : next ≡ Some v = cc in rw same refl
only_more_by true (Some u) next v vs is = absurd (cc)
only_more_by false found next v vs is = let same : next ≡ found = cc in rw same refl

only_more : (found next : Option Piece) (key : Bytes) (e : Keyed) → found_with found key e ≡ Some next → (es : List Keyed) → the_only (option_to_list found ++ values_of key (e ∷ es)) ≡ the_only (option_to_list next ++ values_of key es)
only_more found next key e is es = rw (values_more key e es) (only_more_by (bytes_eq e.key key) found next e.value (values_of key es) is)

-- a second entry with the key
only_twice_by : (b : Bool) (found : Option Piece) (v : Piece) (vs : List Piece) → cond b (cond (is_some found) None (Some (Some v))) (Some found) ≡ None → the_only (option_to_list found ++ cond b (v ∷ vs) vs) ≡ None
only_twice_by true None v vs is = absurd (cc)
only_twice_by true (Some u) v vs is = refl
only_twice_by false found v vs is = absurd (cc)

only_twice : (found : Option Piece) (key : Bytes) (e : Keyed) → found_with found key e ≡ None → (es : List Keyed) → the_only (option_to_list found ++ values_of key (e ∷ es)) ≡ None
only_twice found key e is es = rw (values_more key e es) (only_twice_by (bytes_eq e.key key) found e.value (values_of key es) is)

only_last : (found : Option Piece) → the_only (option_to_list found ++ []) ≡ found
only_last None = refl
only_last (Some v) = refl

never : {A B : Type 0} (r : Option (List A × List Piece)) → go_on {B = B} (λ xs. out_of_form) r ≡ None
never None = refl
never (Some x) = refl

pub one_more : (n i : ℕ) (found next : Option Piece) (key : Bytes) (e : Keyed) (old new : List Piece) → i < n → next_entry old ≡ Some (Some e, new) → found_with found key e ≡ Some next → one_left (n - i) found key old ≡ one_left (n - (i + 1)) next key new
unfolding one_left
one_more n i found next key e old new lt is more =
    many_more n i next_entry (λ es. chosen (the_only (option_to_list found ++ values_of key es))) (λ es. chosen (the_only (option_to_list next ++ values_of key es))) e old new lt is
    (λ es rest. ap (λ v. chosen v rest) (only_more found next key e more es))

pub one_twice : (n i : ℕ) (found : Option Piece) (key : Bytes) (e : Keyed) (old new : List Piece) → i < n → next_entry old ≡ Some (Some e, new) → found_with found key e ≡ None → one_left (n - i) found key old ≡ None
unfolding one_left
one_twice n i found key e old new lt is twice =
    many_more n i next_entry (λ es. chosen (the_only (option_to_list found ++ values_of key es))) (λ es. out_of_form) e old new lt is
    (λ es rest. ap (λ v. chosen v rest) (only_twice found key e twice es)) ∙ never (many (n - (i + 1)) next_entry new)

pub one_found : (n i : ℕ) (found : Option Piece) (v : Piece) (key : Bytes) (old new : List Piece) → i < n → next_entry old ≡ Some (None, new) → found ≡ Some v → one_left (n - i) found key old ≡ Some (v, new)
unfolding one_left
one_found n i found v key old new lt is there =
    many_end n i next_entry (λ es. chosen (the_only (option_to_list found ++ values_of key es))) old new lt is ∙ ap (λ x. chosen x new) (only_last found ∙ there)

pub one_lacks : (n i : ℕ) (found : Option Piece) (key : Bytes) (old new : List Piece) → i < n → next_entry old ≡ Some (None, new) → found ≡ None → one_left (n - i) found key old ≡ None
unfolding one_left
one_lacks n i found key old new lt is none =
    many_end n i next_entry (λ es. chosen (the_only (option_to_list found ++ values_of key es))) old new lt is ∙ ap (λ x. chosen x new) (only_last found ∙ none)

pub one_fault : (n i : ℕ) (found : Option Piece) (key : Bytes) (old : List Piece) → i < n → next_entry old ≡ None → one_left (n - i) found key old ≡ None
unfolding one_left
one_fault n i found key old lt is = many_fault n i next_entry (λ es. chosen (the_only (option_to_list found ++ values_of key es))) old lt is

pub one_used : (n i : ℕ) (found : Option Piece) (key : Bytes) (old : List Piece) → n ≤ i → one_left (n - i) found key old ≡ None
unfolding one_left
one_used n i found key old le = many_used n i next_entry (λ es. chosen (the_only (option_to_list found ++ values_of key es))) old le

pub ruleset one_rules = (one_begins, one_closed, one_more, one_twice, one_found, one_lacks, one_fault, one_used)

-- the two values that there are
abbrev pick : Option Piece → Option Piece → Reading (Piece × Piece)
pick a b = chosen a >>= λ x. chosen b >>= λ y. given (x, y)

pick_none : (a : Option Piece) (rest : List Piece) → pick a None rest ≡ None
pick_none None rest = refl
pick_none (Some v) rest = refl

abbrev pick_from : Option Piece → Option Piece → Bytes → Bytes → List Keyed → Reading (Piece × Piece)
pick_from a b first second es = pick (the_only (option_to_list a ++ values_of first es)) (the_only (option_to_list b ++ values_of second es))

-- what is left of `two`, where values were found under the keys or not
unfoldable pub two_left : ℕ → Option Piece → Option Piece → Bytes → Bytes → List Piece → Option ((Piece × Piece) × List Piece)
two_left n a b first second parts = (many n next_entry >>= pick_from a b first second) parts

pub two_begins : (first second : Bytes) (old new : List Piece) → part_as as_enter old ≡ Some (tt, new) → two first second old ≡ two_left most_parts None None first second new
unfolding two_left
two_begins first second old new is = rw is refl

pub two_closed : (first second : Bytes) (old : List Piece) → part_as as_enter old ≡ None → two first second old ≡ None
two_closed first second old is = rw is refl

pub two_more : (n i : ℕ) (a b a' b' : Option Piece) (first second : Bytes) (e : Keyed) (old new : List Piece) → i < n → next_entry old ≡ Some (Some e, new) → found_with a first e ≡ Some a' → found_with b second e ≡ Some b' → two_left (n - i) a b first second old ≡ two_left (n - (i + 1)) a' b' first second new
unfolding two_left
two_more n i a b a' b' first second e old new lt is more_a more_b =
    many_more n i next_entry (pick_from a b first second) (pick_from a' b' first second) e old new lt is
    (λ es rest. rw (only_more a a' first e more_a es, only_more b b' second e more_b es) refl)

pub two_twice_first : (n i : ℕ) (a b : Option Piece) (first second : Bytes) (e : Keyed) (old new : List Piece) → i < n → next_entry old ≡ Some (Some e, new) → found_with a first e ≡ None → two_left (n - i) a b first second old ≡ None
unfolding two_left
two_twice_first n i a b first second e old new lt is twice =
    many_more n i next_entry (pick_from a b first second) (λ es. out_of_form) e old new lt is
    (λ es rest. rw (only_twice a first e twice es) refl) ∙ never (many (n - (i + 1)) next_entry new)

pub two_twice_second : (n i : ℕ) (a b : Option Piece) (first second : Bytes) (e : Keyed) (old new : List Piece) → i < n → next_entry old ≡ Some (Some e, new) → found_with b second e ≡ None → two_left (n - i) a b first second old ≡ None
unfolding two_left
two_twice_second n i a b first second e old new lt is twice =
    many_more n i next_entry (pick_from a b first second) (λ es. out_of_form) e old new lt is
    (λ es rest. rw (only_twice b second e twice es) (pick_none (the_only (option_to_list a ++ values_of first (e ∷ es))) rest)) ∙ never (many (n - (i + 1)) next_entry new)

pub two_found : (n i : ℕ) (a b : Option Piece) (v w : Piece) (first second : Bytes) (old new : List Piece) → i < n → next_entry old ≡ Some (None, new) → a ≡ Some v → b ≡ Some w → two_left (n - i) a b first second old ≡ Some ((v, w), new)
unfolding two_left
two_found n i a b v w first second old new lt is there_a there_b =
    many_end n i next_entry (pick_from a b first second) old new lt is ∙ rw (only_last a, only_last b, there_a, there_b) refl

pub two_lacks_first : (n i : ℕ) (a b : Option Piece) (first second : Bytes) (old new : List Piece) → i < n → next_entry old ≡ Some (None, new) → a ≡ None → two_left (n - i) a b first second old ≡ None
unfolding two_left
two_lacks_first n i a b first second old new lt is none =
    many_end n i next_entry (pick_from a b first second) old new lt is ∙ rw (only_last a, none) refl

pub two_lacks_second : (n i : ℕ) (a b : Option Piece) (first second : Bytes) (old new : List Piece) → i < n → next_entry old ≡ Some (None, new) → b ≡ None → two_left (n - i) a b first second old ≡ None
unfolding two_left
two_lacks_second n i a b first second old new lt is none =
    many_end n i next_entry (pick_from a b first second) old new lt is ∙ rw (only_last b, none) (pick_none (the_only (option_to_list a ++ [])) new)

pub two_fault : (n i : ℕ) (a b : Option Piece) (first second : Bytes) (old : List Piece) → i < n → next_entry old ≡ None → two_left (n - i) a b first second old ≡ None
unfolding two_left
two_fault n i a b first second old lt is = many_fault n i next_entry (pick_from a b first second) old lt is

pub two_used : (n i : ℕ) (a b : Option Piece) (first second : Bytes) (old : List Piece) → n ≤ i → two_left (n - i) a b first second old ≡ None
unfolding two_left
two_used n i a b first second old le = many_used n i next_entry (pick_from a b first second) old le

pub ruleset two_rules = (two_begins, two_closed, two_more, two_twice_first, two_twice_second, two_found, two_lacks_first, two_lacks_second, two_fault, two_used)

-- what is left of `pairs`, behind some
unfoldable pub pairs_left : ℕ → List Pair → List Piece → Option (List Pair × List Piece)
pairs_left n kept parts = (many n next_pair >>= λ ps. given (kept ++ ps)) parts

alone : {A : Type 0} (r : Option (List A × List Piece)) → r ≡ go_on (λ xs. given xs) r
alone None = refl
alone (Some x) = refl

pub pairs_begin : (old new : List Piece) → part_as as_enter old ≡ Some (tt, new) → pairs old ≡ pairs_left most_parts [] new
unfolding pairs_left
pairs_begin old new is = rw is (alone (many most_parts next_pair new))

pub pairs_closed : (old : List Piece) → part_as as_enter old ≡ None → pairs old ≡ None
pairs_closed old is = rw is refl

pub pairs_more : (n i : ℕ) (kept longer : List Pair) (p : Pair) (old new : List Piece) → i < n → next_pair old ≡ Some (Some p, new) → longer ≡ kept ++ p ∷ [] → pairs_left (n - i) kept old ≡ pairs_left (n - (i + 1)) longer new
unfolding pairs_left
pairs_more n i kept longer p old new lt is more =
    many_more n i next_pair (λ ps. given (kept ++ ps)) (λ ps. given (longer ++ ps)) p old new lt is
    (λ ps rest. ap (λ x. given x rest) (rw (more, append_assoc) refl))

pub pairs_end : (n i : ℕ) (kept : List Pair) (old new : List Piece) → i < n → next_pair old ≡ Some (None, new) → pairs_left (n - i) kept old ≡ Some (kept, new)
unfolding pairs_left
pairs_end n i kept old new lt is = many_end n i next_pair (λ ps. given (kept ++ ps)) old new lt is ∙ ap (λ x. given x new) (append-nil kept)

pub pairs_fault : (n i : ℕ) (kept : List Pair) (old : List Piece) → i < n → next_pair old ≡ None → pairs_left (n - i) kept old ≡ None
unfolding pairs_left
pairs_fault n i kept old lt is = many_fault n i next_pair (λ ps. given (kept ++ ps)) old lt is

pub pairs_used : (n i : ℕ) (kept : List Pair) (old : List Piece) → n ≤ i → pairs_left (n - i) kept old ≡ None
unfolding pairs_left
pairs_used n i kept old le = many_used n i next_pair (λ ps. given (kept ++ ps)) old le

pub ruleset pair_rules = (pairs_begin, pairs_closed, pairs_more, pairs_end, pairs_fault, pairs_used)
