-- Answers of a load, put together from those of its parts.
use Rattle.std.proofs.Common.{◌≡◌, ◌≢◌, ℕ, ◌≤◌, ◌<◌, nat_lt, true, false, List, [], ◌∷◌, map, Option, Some, None, Result, Ok, Err, refl, ap, sym, ◌∙◌, subst, arith}
use Rattle.std.specs.Prelude.{IfSome, if◌then◌else◌}
use Rattle.std.proofs.lemmas.Bool.Decides.{nat_tests}
use Rattle.pk_outside.specs.Refusals.{TreeRefusal}
use Rattle.pk_outside.specs.Trees.{TreeTold}
use Rattle.pk_outside.specs.declared.tree.TreeRefused.{TreeRefused}
use Rattle.pk_outside.specs.declared.tree.TreeRefused.TheVariants as tree_refused
use Rattle.authority_model.specs.Words.{Bytes}
use Rattle.authority_model.specs.declared.load.Loaded.{Loaded}
use Rattle.table_files.specs.Faults.{IsDueFault}
use Rattle.table_files.specs.declared.fault.TableFault.{TableFault}
use Rattle.table_files.specs.declared.fault.TableFault.TheVariants as fault
use Rattle.policy_load.specs.Findings.{found_at}
use Rattle.policy_load.specs.Joins.{file_count, byte_count}
use Rattle.policy_load.specs.Kept.{turn_file, found_with}
use Rattle.policy_load.specs.Turns.{all_turns}
use Rattle.policy_load.specs.declared.files.finding.Finding.{Finding}
use Rattle.policy_load.specs.declared.files.reading.TurnFile.{TurnFile}
use Rattle.policy_load.specs.declared.order.turn.Turn.{Turn}
use Rattle.policy_load.specs.Causes.{LoadsAs, FaultCause, IsBadTable, Gathers, refusal_of}
use Rattle.policy_load.specs.Loads.{◌>>=◌, of_table, within, joined, load_joined, load_of}
use Rattle.policy_load.specs.declared.refused.LoadLimit.{LoadLimit}
use Rattle.policy_load.specs.declared.refused.LoadLimit.TheVariants as which
use Rattle.policy_load.specs.declared.refused.LoadRefused.{LoadRefused}
use Rattle.policy_load.specs.declared.refused.LoadRefused.TheVariants as refused

-- # Steps

pub step_err : {A B : Type 0} (due : Result A LoadRefused) (next : A → Result B LoadRefused) (why : LoadRefused) → LoadsAs due (Err why) → LoadsAs (due >>= next) (Err why)
step_err due next (refused.TreeFault count) is = tt
step_err due next (refused.Limit which count) is = ap (λ d. d >>= next) is
step_err due next (refused.BadTable file fault) is = ap (λ d. d >>= next) is
step_err due next refused.NoMemory is = tt

pub step_ok : {A B : Type 0} (due : Result A LoadRefused) (next : A → Result B LoadRefused) (value : A) (answer : Result B LoadRefused) → due ≡ Ok value → LoadsAs (next value) answer → LoadsAs (due >>= next) answer
step_ok due next value answer is then_is = subst (λ d. LoadsAs (d >>= next) answer) (sym is) then_is

-- the same answer is due
pub due_same : {A : Type 0} (due other : Result A LoadRefused) (answer : Result A LoadRefused) → due ≡ other → LoadsAs other answer → LoadsAs due answer
due_same due other answer e is = subst (λ d. LoadsAs d answer) (sym e) is

-- # Tables

due_is : {A : Type 0} (why : TableFault) (due : Result A TableFault) → why ≢ fault.NoMemory → IsDueFault why due → due ≡ Err why
due_is fault.TooLong due other is = is
due_is (fault.Fields line) due other is = is
due_is (fault.Number line) due other is = is
due_is (fault.Repeated line) due other is = is
due_is (fault.Dangling line) due other is = is
due_is (fault.TooMany rows) due other is = is
due_is fault.NoMemory due other is = absurd (other refl)

pub table_err : {A : Type 0} (name : Bytes) (due : Result A TableFault) (why : TableFault) (answer : LoadRefused) → IsDueFault why due → IsBadTable name why answer → LoadsAs (of_table name due) (Err answer)
table_err name due why (refused.BadTable file told) is bad =
    ap (of_table name) (due_is why due bad.2 is) ∙ ap (λ n. Err (refused.BadTable n why)) (sym bad.0) ∙ ap (λ w. Err (refused.BadTable file w)) (sym bad.1)
table_err name due why refused.NoMemory is bad = tt
table_err name due why (refused.TreeFault count) is bad = absurd bad
table_err name due why (refused.Limit which count) is bad = absurd bad

-- # Causes

pub cause_later : (before mid now : ℕ) (why : LoadRefused) → before ≤ mid → FaultCause mid now why → FaultCause before now why
cause_later before mid now (refused.TreeFault count) le cause = (cause.0, omega (arith, le, cause.1))
cause_later before mid now (refused.Limit which count) le cause = tt
cause_later before mid now (refused.BadTable file fault) le cause = tt
cause_later before mid now refused.NoMemory le cause = tt

pub tree_cause : (before mid now : ℕ) (why : TreeRefused) (answer : LoadRefused) → before ≤ mid → TreeRefusal mid now why → answer ≡ refusal_of now why → FaultCause before now answer
tree_cause before mid now why answer le cause is = subst (FaultCause before now) (sym is) (of why cause)
  where
    of : (why : TreeRefused) → TreeRefusal mid now why → FaultCause before now (refusal_of now why)
    of tree_refused.Failed rose = (refl, omega (arith, le, rose))
    of tree_refused.NoMemory free = tt

pub tree_free : {A : Type 0} (due : Result A LoadRefused) (count : ℕ) (why : TreeRefused) (answer : LoadRefused) → answer ≡ refusal_of count why → LoadsAs due (Err answer)
tree_free due count why answer is = subst (λ a. LoadsAs due (Err a)) (sym is) (of why)
  where
    of : (why : TreeRefused) → LoadsAs due (Err (refusal_of count why))
    of tree_refused.Failed = tt
    of tree_refused.NoMemory = tt

-- a table's cause is none of the tree's
pub table_cause : (name : Bytes) (why : TableFault) (before now : ℕ) (answer : LoadRefused) → IsBadTable name why answer → FaultCause before now answer
table_cause name why before now (refused.BadTable file told) bad = tt
table_cause name why before now refused.NoMemory bad = tt
table_cause name why before now (refused.TreeFault count) bad = absurd bad
table_cause name why before now (refused.Limit which count) bad = absurd bad

-- # Limits

pub within_over : {A : Type 0} (limit_name : LoadLimit) (count limit : ℕ) (rest : Result A LoadRefused) → limit < count → within limit_name count limit rest ≡ Err (refused.Limit limit_name count)
within_over limit_name count limit rest over = ap (λ t. if t then Err (refused.Limit limit_name count) else rest) (is_over limit count over)
  where
    is_over : (limit count : ℕ) → limit < count → nat_lt limit count ≡ true
    is_over limit count over = grind (arith, nat_tests)

pub within_under : {A : Type 0} (limit_name : LoadLimit) (count limit : ℕ) (rest : Result A LoadRefused) → count ≤ limit → within limit_name count limit rest ≡ rest
within_under limit_name count limit rest under = ap (λ t. if t then Err (refused.Limit limit_name count) else rest) (is_under limit count under)
  where
    is_under : (limit count : ℕ) → count ≤ limit → nat_lt limit count ≡ false
    is_under limit count under = grind (arith, nat_tests)

-- # What is gathered

found_files : (tree : TreeTold) (turns : List Turn) → map found_with (map (turn_file tree) turns) ≡ map (found_at tree) turns
found_files tree [] = refl
found_files tree (t ∷ turns) = ap (λ fs. found_at tree t ∷ fs) (found_files tree turns)

pub too_many_files : (tree : TreeTold) (root : Bytes) (turns : List Turn) (count : ℕ) → turns ≡ all_turns tree root → count ≡ file_count turns → 4096 < count → load_of tree root ≡ Err (refused.Limit which.Files count)
too_many_files tree root turns count is counted over =
    let same : count ≡ file_count (all_turns tree root) = counted ∙ ap file_count is in
    within_over which.Files (file_count (all_turns tree root)) 4096 _ (omega (arith, same, over)) ∙ ap (λ n. Err (refused.Limit which.Files n)) (sym same)

pub too_many_bytes : (tree : TreeTold) (root : Bytes) (turns : List Turn) (bytes : ℕ) → turns ≡ all_turns tree root → file_count turns ≤ 4096 → bytes ≡ byte_count tree turns → 8388608 < bytes
    → load_of tree root ≡ Err (refused.Limit which.PolicyBytes bytes)
too_many_bytes tree root turns bytes is few counted over =
    let same : bytes ≡ byte_count tree (all_turns tree root) = counted ∙ ap (byte_count tree) is in
    let files : file_count turns ≡ file_count (all_turns tree root) = ap file_count is in
    within_under which.Files (file_count (all_turns tree root)) 4096 _ (omega (arith, files, few))
    ∙ within_over which.PolicyBytes (byte_count tree (all_turns tree root)) 8388608 _ (omega (arith, same, over)) ∙ ap (λ n. Err (refused.Limit which.PolicyBytes n)) (sym same)

pub gathered : (tree : TreeTold) (root : Bytes) (turns : List Turn) (bytes : ℕ) (files : List TurnFile) → turns ≡ all_turns tree root → file_count turns ≤ 4096 → bytes ≡ byte_count tree turns → bytes ≤ 8388608
    → files ≡ map (turn_file tree) turns → load_of tree root ≡ load_joined tree root (joined (map found_with files))
gathered tree root turns bytes files is few counted under read =
    let same : bytes ≡ byte_count tree (all_turns tree root) = counted ∙ ap (byte_count tree) is in
    let count : file_count turns ≡ file_count (all_turns tree root) = ap file_count is in
    within_under which.Files (file_count (all_turns tree root)) 4096 _ (omega (arith, count, few))
    ∙ within_under which.PolicyBytes (byte_count tree (all_turns tree root)) 8388608 _ (omega (arith, same, under))
    ∙ ap (λ fs. load_joined tree root (joined fs)) (sym (found_files tree (all_turns tree root)) ∙ ap (λ ts. map found_with (map (turn_file tree) ts)) (sym is) ∙ ap (map found_with) (sym read))

pub gathers_refused : (tree : TreeTold) (root : Bytes) (count : ℕ) (why : TreeRefused) (answer : LoadRefused) → answer ≡ refusal_of count why → Gathers tree root (Err answer)
gathers_refused tree root count why answer is = subst (λ a. Gathers tree root (Err a)) (sym is) (of why)
  where
    of : (why : TreeRefused) → Gathers tree root (Err (refusal_of count why))
    of tree_refused.Failed = tt
    of tree_refused.NoMemory = tt

pub gathers_err : (tree : TreeTold) (root : Bytes) (why : LoadRefused) → Gathers tree root (Err why) → LoadsAs (load_of tree root) (Err why)
gathers_err tree root (refused.TreeFault count) is = tt
gathers_err tree root (refused.Limit which count) is = is
gathers_err tree root (refused.BadTable file fault) is = is
gathers_err tree root refused.NoMemory is = tt

-- # The load

pub some_told : (told : Option TreeTold) (P : TreeTold → Type 0) → ((tree : TreeTold) → told ≡ Some tree → P tree) → IfSome told P
some_told None P holds = tt
some_told (Some tree) P holds = holds tree refl

pub loads : (tree : TreeTold) (root : Bytes) (files read : List TurnFile) (findings : List Finding) (answer : Result Loaded LoadRefused) → load_of tree root ≡ load_joined tree root (joined (map found_with files))
    → read ≡ files → findings ≡ map found_with read → LoadsAs (load_joined tree root (joined findings)) answer → LoadsAs (load_of tree root) answer
loads tree root files read findings answer due same found is =
    due_same (load_of tree root) (load_joined tree root (joined findings)) answer
    (due ∙ ap (λ fs. load_joined tree root (joined fs)) (ap (map found_with) (sym same) ∙ sym found))
    is
