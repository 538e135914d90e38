-- What is read of values that were written.
use Rattle.std.proofs.Common.{◌≡◌, ℕ, zero, suc, ◌<◌, ◌^◌, List, [], ◌∷◌, ◌++◌, map, length, Bool, true, nat_lt, Option, Some, None, refl, ap, ◌∙◌, arith, append_assoc}
use Rattle.std.proofs.lemmas.Bool.Decides.{nat_tests}
use Rattle.std.specs.Prelude.{if◌then◌else◌, is_none}
use Rattle.pk_types.specs.Text.{IsText}
use Rattle.pk_types.specs.declared.text.TextFault.{TextFault}
use Rattle.pk_types.specs.declared.values.Identity.{Identity}
use Rattle.pk_types.specs.declared.values.Pair.{Pair}
use Rattle.pk_types.specs.declared.values.Subject.{Subject}
use Rattle.dbus_values.specs.Parts.{Piece}
use Rattle.dbus_values.specs.Parts as part
use Rattle.dbus_values.specs.Trees.{pieces, all_pieces}
use Rattle.authority_model.specs.Words.{Bytes}
use Rattle.authority_calls.specs.Arguments.{Reading, go_on, ◌>>=◌, given, chosen, text_of, as_u32, as_leave, part_as, text, uint32, behind, many}
use Rattle.authority_calls.specs.Dictionaries.{pairs, next_pair}
use Rattle.authority_calls.specs.Subjects.{subject, identity}
use Rattle.authority_calls.proofs.Behind.{behind_none}
use Rattle.authority_messages.specs.Values.{row, pair, pairs as pairs_tree, identity as identity_tree}
use Rattle.client_messages.specs.Calls.{subject as subject_tree}
use Rattle.client_messages.specs.Told.{SubjectInRange, IdentityInRange, PairsInRange}

-- what is read first, and then what is read of the rest
pub after : {A B : Type 0} {x : A} {rest : List Piece} {out : Option (B × List Piece)} (more : A → Reading B) (r : Option (A × List Piece)) → r ≡ Some (x, rest) → more x rest ≡ out → go_on more r ≡ out
after more r first next = ap (go_on more) first ∙ next

-- ---- values of basic types

pub text_ok : (t : Bytes) → IsText t → text_of t ≡ Some t
text_ok t is = ap (λ (o : Option TextFault). if is_none o then Some t else None) is

pub text_read : (t : Bytes) (rest : List Piece) → IsText t → text (part.Text 115 t ∷ rest) ≡ Some (t, rest)
text_read t rest is = ap (λ (o : Option Bytes). chosen o rest) (text_ok t is)

is_small : (n : ℕ) → n < 2 ^ 32 → nat_lt n (2 ^ 32) ≡ true
is_small n lt = grind (arith, nat_tests)

u32_ok : (n : ℕ) → n < 2 ^ 32 → as_u32 (part.Number 117 n) ≡ Some n
u32_ok n lt = ap (λ (b : Bool). if b then Some n else None) (is_small n lt)

pub uint32_read : (n : ℕ) (rest : List Piece) → n < 2 ^ 32 → uint32 (part.Number 117 n ∷ rest) ≡ Some (n, rest)
uint32_read n rest lt = ap (λ (o : Option ℕ). chosen o rest) (u32_ok n lt)

-- ---- pairs

abbrev pub inside : List Pair → List Piece
inside ps = all_pieces (row (map pair ps))

pub many_read : (n : ℕ) (ps : List Pair) (rest : List Piece) → length ps < n → PairsInRange ps → many n next_pair (inside ps ++ part.Leave 97 ∷ rest) ≡ Some (ps, rest)
unfolding many
many_read zero ps rest lt range = absurd (omega arith)
many_read (suc n) [] rest lt range = refl
many_read (suc n) (p ∷ ps) rest lt range =
    let key : text_of p.key ≡ Some p.key = text_ok p.key range.0 in
    let value : text_of p.value ≡ Some p.value = text_ok p.value range.1 in
    let others : many n next_pair (inside ps ++ part.Leave 97 ∷ rest) ≡ Some (ps, rest) = many_read n ps rest (omega arith) range.2 in
    rw (key, value, others) refl

pub pairs_read : (ps : List Pair) (rest : List Piece) → length ps < 4294967296 → PairsInRange ps → pairs (pieces (pairs_tree ps) ++ rest) ≡ Some (ps, rest)
pairs_read ps rest lt range =
    ap (λ (parts : List Piece). many 4294967296 next_pair parts) (append_assoc (inside ps) (part.Leave 97 ∷ []) rest) ∙ many_read 4294967296 ps rest lt range

-- pairs are passed over
pub behind_read : (ps : List Pair) (rest : List Piece) → behind 1 (inside ps ++ part.Leave 97 ∷ rest) ≡ Some (tt, rest)
unfolding behind
behind_read [] rest = behind_none rest
behind_read (p ∷ ps) rest = behind_read ps rest

-- ---- subjects and identities

-- a value that is made of what was found, and the end of its structure
abbrev made : {A B : Type 0} → (A → B) → List Piece → Option A → Option (B × List Piece)
made make rest found = go_on (λ value. part_as as_leave >>= λ ends. given value) (go_on (λ x. given (make x)) (chosen found (part.Leave 40 ∷ rest)))

pub subject_read : (s : Subject) (rest : List Piece) → SubjectInRange s → subject (pieces (subject_tree s) ++ rest) ≡ Some (s, rest)
unfolding subject many behind
subject_read (Subject.Process pid start) rest range = ap (made (λ n. Subject.Process n start) rest) (u32_ok pid range)
subject_read (Subject.Session id) rest range = ap (made Subject.Session rest) (text_ok id range)
subject_read (Subject.BusName name) rest range = ap (made Subject.BusName rest) (text_ok name range)

pub identity_read : (i : Identity) (rest : List Piece) → IdentityInRange i → identity (pieces (identity_tree i) ++ rest) ≡ Some (i, rest)
unfolding identity many behind
identity_read (Identity.User uid) rest range = ap (made Identity.User rest) (u32_ok uid range)
identity_read (Identity.Group gid) rest range = ap (made Identity.Group rest) (u32_ok gid range)
