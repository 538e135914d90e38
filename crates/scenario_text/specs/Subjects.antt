-- The subjects and identities of lines.
use Rattle.std.specs.Prelude.{ℕ, List, [], ◌∷◌, Option, None, Some, Result, Ok, Err, codes, if◌then◌else◌}
use Rattle.std.specs.Str.{bytes_eq}
use Rattle.pk_types.specs.declared.values.Identity.{Identity}
use Rattle.pk_types.specs.declared.values.Identity.TheVariants as identity
use Rattle.pk_types.specs.declared.values.Subject.{Subject}
use Rattle.pk_types.specs.declared.values.Subject.TheVariants as subject
use Rattle.pk_types.specs.Pieces.{pieces_of}
use Rattle.authority_model.specs.Words.{after_front, bus_name}
use Rattle.scenario_text.specs.declared.fault.LineKind.{LineKind}
use Rattle.scenario_text.specs.declared.fault.LineKind.TheVariants as kind
use Rattle.scenario_text.specs.Faults.{◌>>=◌}
use Rattle.scenario_text.specs.Words.{number_32_in, number_64_in, caller_in, text_in}

-- a process by its pid and its start time
abbrev pub process_subject : List ℕ → List ℕ → Result Subject LineKind
process_subject pid start = do
  p ← number_32_in pid
  s ← number_64_in start
  Ok (subject.Process p s)

-- a connection by its number, of which its bus name is made
abbrev pub bus_subject : List ℕ → Result Subject LineKind
bus_subject caller = do
  c ← caller_in caller
  Ok (subject.BusName (bus_name c))

-- a subject by the parts between its colons: bus:N or process:PID:START
abbrev pub subject_of_parts : List (List ℕ) → Result Subject LineKind
subject_of_parts (word ∷ caller ∷ []) = if bytes_eq word (codes "bus") then bus_subject caller else Err kind.Value
subject_of_parts (word ∷ pid ∷ start ∷ []) = if bytes_eq word (codes "process") then process_subject pid start else Err kind.Value
subject_of_parts other = Err kind.Value

-- a session by what comes after `session:`, and any other subject by its parts
abbrev pub subject_of : Option (List ℕ) → List (List ℕ) → Result Subject LineKind
subject_of (Some id) parts = text_in id >>= (λ text. Ok (subject.Session text))
subject_of None parts = subject_of_parts parts

-- session:ID, where the id may hold colons, bus:N or process:PID:START
unfoldable pub subject_in : List ℕ → Result Subject LineKind
subject_in word = subject_of (after_front (codes "session:") word) (pieces_of 58 word)

-- an identity by the parts between its colons: user:UID
abbrev pub identity_of_parts : List (List ℕ) → Result Identity LineKind
identity_of_parts (word ∷ uid ∷ []) = if bytes_eq word (codes "user") then number_32_in uid >>= (λ u. Ok (identity.User u)) else Err kind.Value
identity_of_parts other = Err kind.Value

-- user:UID
unfoldable pub identity_in : List ℕ → Result Identity LineKind
identity_in word = identity_of_parts (pieces_of 58 word)
