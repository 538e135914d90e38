-- How many bytes the files of turns have at most.
use Rattle.std.proofs.Common.{◌≡◌, ℕ, ◌+◌, ◌-◌, ◌*◌, ◌^◌, ◌≤◌, nat_lt, Bool, true, false, cond, List, [], ◌∷◌, ◌++◌, length, map, min, Option, Some, None, refl, ap, sym, ◌∙◌, append_assoc, arith}
use Rattle.std.specs.Prelude.{if◌then◌else◌}
use Rattle.std.proofs.lemmas.Bool.Decides.{nat_tests}
use Rattle.std.proofs.lemmas.List.Sums.{sum_by-cons}
use Rattle.pk_outside.specs.Trees.{TreeTold, file_at, bytes_within}
use Rattle.pk_outside.specs.declared.tree.FileBytes.{FileBytes}
use Rattle.pk_outside.specs.declared.tree.FileBytes.TheVariants as file
use Rattle.action_xml.specs.declared.reading.TheConstants.{MAX_ACTION_FILE}
use Rattle.policy_load.specs.Paths.{bytes_at}
use Rattle.policy_load.specs.Turns.{limit_of}
use Rattle.policy_load.specs.Findings.{file_of}
use Rattle.policy_load.specs.Kept.{turn_file}
use Rattle.policy_load.specs.declared.files.reading.TurnFile.{TurnFile}
use Rattle.policy_load.specs.Joins.{is_file, file_count, size_of, byte_count}
use Rattle.policy_load.specs.declared.order.turn.FileKind.{FileKind}
use Rattle.policy_load.specs.declared.order.turn.FileKind.TheVariants as kind
use Rattle.policy_load.specs.declared.order.turn.Turn.{Turn}
use Rattle.policy_load.specs.declared.order.turn.Turn.TheVariants as turn

within_limit : (limit : ℕ) (bytes : Option (List ℕ)) → size_of (bytes_within limit bytes) ≤ limit
within_limit limit None = omega arith
within_limit limit (Some bytes) = of (nat_lt limit (length bytes)) refl
  where
    of : (t : Bool) → nat_lt limit (length bytes) ≡ t → size_of (if t then file.TooLong else file.Bytes bytes) ≤ limit
    of true long = omega arith
    of false short = grind (arith, nat_tests)

at_path : (tree : TreeTold) (limit : ℕ) (path : Option (List ℕ)) → size_of (bytes_at tree limit path) ≤ limit
at_path tree limit None = omega arith
at_path tree limit (Some path) = within_limit limit (file_at tree.files path)

greatest_limit : (k : FileKind) → limit_of k ≤ MAX_ACTION_FILE
greatest_limit kind.Actions = omega arith
greatest_limit kind.Admins = omega arith
greatest_limit kind.Entries = omega arith

turn_bound : (tree : TreeTold) (t : Turn) → size_of (file_of tree t) ≤ MAX_ACTION_FILE * cond (is_file t) 1 0
turn_bound tree (turn.Unnamed path count) = omega arith
turn_bound tree (turn.PolicyFile k path) =
    let within : size_of (bytes_at tree (limit_of k) path) ≤ limit_of k = at_path tree (limit_of k) path in
    let most : limit_of k ≤ MAX_ACTION_FILE = greatest_limit k in
    omega (arith, within, most)

bytes_bound : (tree : TreeTold) (turns : List Turn) → byte_count tree turns ≤ MAX_ACTION_FILE * file_count turns
bytes_bound tree [] = omega arith
bytes_bound tree (t ∷ turns) =
    let first : size_of (file_of tree t) ≤ MAX_ACTION_FILE * cond (is_file t) 1 0 = turn_bound tree t in
    let rest : byte_count tree turns ≤ MAX_ACTION_FILE * file_count turns = bytes_bound tree turns in
    let counts : file_count (t ∷ turns) ≡ cond (is_file t) 1 0 + file_count turns = sum_by-cons (λ x. cond (is_file x) 1 0) t turns in
    omega (arith, first, rest, counts)

-- one more file was counted, and the count did not come to its end
pub counted : (tree : TreeTold) (total size more : ℕ) (bytes : FileBytes) (t : Turn) (before rest all : List Turn) → before ≡ t ∷ rest → total + byte_count tree before ≡ byte_count tree all
    → file_count all ≤ 4096 → bytes ≡ file_of tree t → size ≡ size_of bytes → more ≡ min (total + size) (2 ^ 64 - 1)
    → more + byte_count tree rest ≡ byte_count tree all
counted tree total size more bytes t before rest all step so_far few is size_is add =
    let sum : byte_count tree before ≡ size_of (file_of tree t) + byte_count tree rest = ap (byte_count tree) step in
    let here : size ≡ size_of (file_of tree t) = size_is ∙ ap size_of is in
    let most : byte_count tree all ≤ MAX_ACTION_FILE * file_count all = bytes_bound tree all in
    omega (arith, sum, here, most, so_far, few, add)

-- one more file was kept
pub kept_files : (tree : TreeTold) (t : Turn) (bytes : FileBytes) (files more : List TurnFile) (before rest all : List Turn) → before ≡ t ∷ rest → files ++ map (turn_file tree) before ≡ map (turn_file tree) all
    → bytes ≡ file_of tree t → more ≡ files ++ record { turn = t; bytes = bytes } ∷ [] → more ++ map (turn_file tree) rest ≡ map (turn_file tree) all
kept_files tree t bytes files more before rest all step so_far is push =
    ap (λ f. f ++ map (turn_file tree) rest) (push ∙ ap (λ b. files ++ turn_with t b ∷ []) is)
    ∙ append_assoc files (turn_file tree t ∷ []) (map (turn_file tree) rest)
    ∙ ap (λ ts. files ++ map (turn_file tree) ts) (sym step)
    ∙ so_far
  where
    turn_with : Turn → FileBytes → TurnFile
    turn_with t b = record { turn = t; bytes = b }
