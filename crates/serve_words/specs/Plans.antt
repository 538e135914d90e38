-- The words behind `serve`: `--root DIR --door UID:PATH {--door UID:PATH} --slots N [--stop-after K] [--entries K] [--live] [--audit]`, in this order.
use Rattle.std.specs.Prelude.{ℕ, ◌≤◌, ◌*◌, ◌==◌, IfSome, ◌&&◌, Bool, true, false, not, List, [], ◌∷◌, ◌++◌, length, Option, Some, None, codes, if◌then◌else◌, nat_eq, nat_le, option_and_then, option_map}
use Rattle.std.specs.List.{ends_with}
use Rattle.std.specs.Str.{bytes_eq}
use Rattle.pk_types.specs.Decimals.{decimal_up_to}
use Rattle.authority_model.specs.declared.journal.TheConstants.{MAX_BYTES, MAX_ENTRIES}
use Rattle.authority_model.specs.Entering.{AreAllowed}
use Rattle.command_line.specs.declared.door.DoorPath.{DoorPath}
use Rattle.command_line.specs.Doors.{door_of}
use Rattle.serve_words.specs.declared.plan.ServePlan.{ServePlan}
use Rattle.serve_words.specs.declared.amounts.Amounts.{Amounts}
use Rattle.serve_words.specs.declared.amounts.Ending.{Ending}
use Rattle.serve_words.specs.declared.amounts.Manner.{Manner}
use Rattle.serve_words.specs.declared.amounts.TheConstants.{MAX_SLOTS, MAX_CONNECTIONS}

-- a number above 0
abbrev pub positive : ℕ → Option ℕ
positive n = if nat_le 1 n then Some n else None

-- a number from 1 to the greatest one
abbrev pub positive_up_to : ℕ → List ℕ → Option ℕ
positive_up_to greatest word = option_and_then positive (decimal_up_to greatest word)

-- the limit of entries that the last words say, or the greatest one
abbrev pub entries_in : List (List ℕ) → Option ℕ
entries_in [] = Some MAX_ENTRIES
entries_in (option ∷ number ∷ []) = if bytes_eq option (codes "--entries") then positive_up_to MAX_ENTRIES number else None
entries_in other = None

-- whether a path may be a root: it is not empty and does not end in `/`
abbrev pub is_root : List ℕ → Bool
is_root path = not (length path == 0) && not (ends_with nat_eq path (codes "/"))

-- the value of the option of this name, and the words behind it, where the words begin with that option
abbrev pub value_of : List ℕ → List (List ℕ) → Option (List ℕ × List (List ℕ))
value_of name (option ∷ value ∷ words) = if bytes_eq option name then Some (value, words) else None
value_of name words = None

-- whether the last words ask for the audit text: `--audit`, or no word
abbrev pub audit_in : List (List ℕ) → Option Bool
audit_in [] = Some false
audit_in (option ∷ []) = if bytes_eq option (codes "--audit") then Some true else None
audit_in other = None

-- the words after `--live`, where the words begin with it
abbrev pub behind_live : List (List ℕ) → Option (List (List ℕ))
behind_live (option ∷ words) = if bytes_eq option (codes "--live") then Some words else None
behind_live [] = None

-- the manner of a service that looks at live processes or does not, if the words of the audit text are right
abbrev pub manner_with : Bool → Option Bool → Option Manner
manner_with live audit = option_map (λ a. record { live = live; audit = a }) audit

-- the manner that the words say, which begin with `--live` or do not
abbrev pub manner_or : List (List ℕ) → Option (List (List ℕ)) → Option Manner
manner_or words None = manner_with false (audit_in words)
manner_or words (Some rest) = manner_with true (audit_in rest)

-- whether a service looks at live processes, and whether it writes the audit text: `[--live] [--audit]`
abbrev pub manner_in : List (List ℕ) → Option Manner
manner_in words = manner_or words (behind_live words)

-- the ending with this limit of entries, if the words after it are right
abbrev pub ending_with : ℕ → Option Manner → Option Ending
ending_with entries manner = option_map (λ m. record { entries = entries; live = m.live; audit = m.audit }) manner

-- the ending of the words, which begin with a limit of entries or do not
abbrev pub ending_or : List (List ℕ) → Option (List ℕ × List (List ℕ)) → Option Ending
ending_or words None = ending_with MAX_ENTRIES (manner_in words)
ending_or words (Some (number, rest)) = option_and_then (λ e. ending_with e (manner_in rest)) (positive_up_to MAX_ENTRIES number)

-- how the words of a service end: `[--entries K] [--live] [--audit]`
abbrev pub ending_in : List (List ℕ) → Option Ending
ending_in words = ending_or words (value_of (codes "--entries") words)

-- the amounts with so many slots and so many connections, if the last words are right
abbrev pub amounts_of : ℕ → Option ℕ → Option Ending → Option Amounts
amounts_of slots stop ending = option_map (λ e. record { slots = slots; stop_after = stop; entries = e.entries; live = e.live; audit = e.audit }) ending

-- the amounts with so many slots, and the number of connections that a word says
abbrev pub stopping : ℕ → List ℕ → List (List ℕ) → Option Amounts
stopping slots number words = option_and_then (λ k. amounts_of slots (Some k) (ending_in words)) (positive_up_to MAX_CONNECTIONS number)

-- the amounts with so many slots that the words say, which begin with a number of connections or do not
abbrev pub stopping_or : ℕ → List (List ℕ) → Option (List ℕ × List (List ℕ)) → Option Amounts
stopping_or slots words None = amounts_of slots None (ending_in words)
stopping_or slots words (Some (number, rest)) = stopping slots number rest

-- the amounts with so many slots that the words behind them say
abbrev pub behind_slots : ℕ → List (List ℕ) → Option Amounts
behind_slots slots words = stopping_or slots words (value_of (codes "--stop-after") words)

-- the amounts that the words behind the doors say
abbrev pub amounts_in : List (List ℕ) → Option Amounts
amounts_in words = option_and_then (λ (number, rest). option_and_then (λ n. behind_slots n rest) (positive_up_to MAX_SLOTS number)) (value_of (codes "--slots") words)

-- the doors that the words name, behind some that were named before, and the words behind them
abbrev pub doors_from : List DoorPath → List (List ℕ) → Option (List DoorPath × List (List ℕ))
doors_from doors (option ∷ door ∷ words) =
    if bytes_eq option (codes "--door") then option_and_then (λ d. doors_from (doors ++ d ∷ []) words) (door_of door)
    else Some (doors, option ∷ door ∷ words)
doors_from doors words = Some (doors, words)

-- the plan of this root, these doors and these amounts: there is a door, and there are at most 64 slots over all doors
abbrev pub planned : List ℕ → List DoorPath → Amounts → Option ServePlan
planned root doors a =
    if not (length doors == 0) && nat_le (a.slots * length doors) MAX_SLOTS
    then Some (record { root = root; doors = doors; slots = a.slots; stop_after = a.stop_after; limits = record { entries = a.entries; bytes = MAX_BYTES }; live = a.live; audit = a.audit })
    else None

-- the plan of this root that the words behind it name
abbrev pub plan_from : List ℕ → List (List ℕ) → Option ServePlan
plan_from root words = option_and_then (λ (doors, rest). option_and_then (planned root doors) (amounts_in rest)) (doors_from [] words)

-- the plan that the words behind `serve` name, where they are in the grammar
abbrev pub plan_in : List (List ℕ) → Option ServePlan
plan_in words = option_and_then (λ (root, rest). if is_root root then plan_from root rest else None) (value_of (codes "--root") words)

-- the amounts are in their ranges
abbrev pub IsInRange : Amounts → Type 0
IsInRange a = (1 ≤ a.slots) × (a.slots ≤ MAX_SLOTS) × IfSome a.stop_after (λ k. (1 ≤ k) × (k ≤ MAX_CONNECTIONS)) × (1 ≤ a.entries) × (a.entries ≤ MAX_ENTRIES)

-- a plan is one that a service takes: it has a door, at most 64 slots over all doors, and limits that a journal may have
pub record IsAllowed (plan : ServePlan) : Type 0 where
  pub door : 1 ≤ length plan.doors
  pub slot : 1 ≤ plan.slots
  pub slots : plan.slots * length plan.doors ≤ MAX_SLOTS
  pub stop : IfSome plan.stop_after (λ k. (1 ≤ k) × (k ≤ MAX_CONNECTIONS))
  pub limits : AreAllowed plan.limits
