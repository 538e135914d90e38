-- What a generated run writes where memory is refused, and what a command names.
use Rattle.std.proofs.Common.{◌≡◌, ℕ, List, [], Option, Some, None, refl, sym, ap, ◌∙◌}
use Rattle.pk_outside.proofs.Written.{Got-none}
use Rattle.pk_outside.specs.Trees.{TreeTold}
use Rattle.polkit_daemon.specs.Commands.{Beginning, Named, beginning, limits_of}
use Rattle.polkit_daemon.specs.Piped.{Plan}
use Rattle.polkit_daemon.specs.declared.status.Status.TheVariants as status
use Rattle.polkit_daemon.specs.Generate.{Generates, generated_line}

-- memory was refused before anything was written
pub none_written : (checks : ℕ) (held : Option (List ℕ)) → Generates checks held held status.NoMemory
none_written checks held = (generated_line checks, ([], refl, Got-none held))

abbrev checks_of : Option Named → ℕ
checks_of (Some (Named.Load checks)) = checks
checks_of _ = 0

-- a command has one number of checks
pub same_checks : (named : Option Named) (a b : ℕ) → named ≡ Some (Named.Load a) → named ≡ Some (Named.Load b) → a ≡ b
same_checks named a b is_a is_b = ap checks_of (sym is_a ∙ is_b)

-- What a replay in segments is made from: its root, the path of its file, and how many entries a segment has.
pub record Segments : Type 0 where
  pub root : Option (List ℕ)
  pub path : List ℕ
  pub per : ℕ

abbrev pub in_segments : Option (List ℕ) → List ℕ → ℕ → Segments
in_segments root path per = record { root = root; path = path; per = per }

abbrev beginning_of : Option Named → Beginning
beginning_of (Some (Named.Replay root entries)) = beginning root entries
beginning_of (Some (Named.Audit root entries)) = beginning root entries
beginning_of _ = beginning None 0

-- a replay has one root and one limit of entries
pub same_replay : (named : Option Named) (r s : Option (List ℕ)) (a b : ℕ) → named ≡ Some (Named.Replay r a) → named ≡ Some (Named.Replay s b) → beginning r a ≡ beginning s b
same_replay named r s a b is_a is_b = ap beginning_of (sym is_a ∙ is_b)

abbrev segments_of : Option Named → Segments
segments_of (Some (Named.Segments root path per)) = in_segments root path per
segments_of _ = in_segments None [] 0

-- a replay in segments has one root, one path and one number of entries
pub same_segments : (named : Option Named) (r s : Option (List ℕ)) (p q : List ℕ) (a b : ℕ) → named ≡ Some (Named.Segments r p a) → named ≡ Some (Named.Segments s q b) → in_segments r p a ≡ in_segments s q b
same_segments named r s p q a b is_a is_b = ap segments_of (sym is_a ∙ is_b)

-- and so has an audit
pub same_audit : (named : Option Named) (r s : Option (List ℕ)) (a b : ℕ) → named ≡ Some (Named.Audit r a) → named ≡ Some (Named.Audit s b) → beginning r a ≡ beginning s b
same_audit named r s a b is_a is_b = ap beginning_of (sym is_a ∙ is_b)

-- the plan of a pipe of this user, root and limit of entries
abbrev pub plan : Option TreeTold → ℕ → List ℕ → ℕ → Plan
plan told uid root entries = record { uid = uid; root = root; told = told; limits = limits_of entries }

abbrev plan_of : Option TreeTold → Option Named → Plan
plan_of told (Some (Named.Pipe uid root entries)) = plan told uid root entries
plan_of told _ = plan told 0 [] 0

-- a command has one plan of a pipe
pub same_plan : (told : Option TreeTold) (named : Option Named) (u v : ℕ) (r s : List ℕ) (a b : ℕ) → named ≡ Some (Named.Pipe u r a) → named ≡ Some (Named.Pipe v s b) → plan told u r a ≡ plan told v s b
same_plan told named u v r s a b is_a is_b = ap (plan_of told) (sym is_a ∙ is_b)

abbrev words_of : Option Named → List (List ℕ)
words_of (Some (Named.Serve words)) = words
words_of _ = []

-- a command has one list of words that name a plan
pub same_words : (named : Option Named) (a b : List (List ℕ)) → named ≡ Some (Named.Serve a) → named ≡ Some (Named.Serve b) → a ≡ b
same_words named a b is_a is_b = ap words_of (sym is_a ∙ is_b)
