-- The words of the daemon.
use Rattle.std.specs.Prelude.{◌≡◌, ◌≤◌, ◌==◌, ◌&&◌, not, length, is_some, true, List, [], ◌∷◌, Option, Some, None, codes, if◌then◌else◌, option_and_then, option_map, ℕ}
use Rattle.std.specs.Option.{option_copied}
use Rattle.std.specs.Str.{bytes_eq}
use Rattle.pk_types.specs.Decimals.{number_of}
use Rattle.authority_model.specs.declared.journal.Limits.{Limits}
use Rattle.authority_model.specs.declared.journal.TheConstants.{MAX_BYTES, MAX_ENTRIES}
use Rattle.replay_segments.specs.declared.running.TheConstants.{MAX_PER}
use Rattle.serve_words.specs.Plans.{entries_in, is_root, plan_in, positive_up_to}
use Rattle.polkit_daemon.specs.declared.command.Command.{Command}
use Rattle.polkit_daemon.specs.declared.command.Command.TheVariants as command
use Rattle.polkit_daemon.specs.declared.command.Scenario.{Scenario}
use Rattle.polkit_daemon.specs.declared.command.TheConstants.{MAX_CHECKS}

-- A command: a replay or an audit with its root and its limit of entries, a replay with its root over a journal in segments with the path of their file and how many entries each has, a pipe with the user of its connection, its root and its limit of entries, a service by the words that name its plan, or a generated run of so many checks.
pub data Named : Type 0 where
  Replay : Option (List ℕ) → ℕ → Named
  Segments : Option (List ℕ) → List ℕ → ℕ → Named
  Audit : Option (List ℕ) → ℕ → Named
  Pipe : ℕ → List ℕ → ℕ → Named
  Serve : List (List ℕ) → Named
  Load : ℕ → Named

-- the command that the code tells
abbrev pub command_seen : Command → Named
command_seen (command.Replay root entries) = Named.Replay (option_copied root) entries
command_seen (command.Segments root path per) = Named.Segments (option_copied root) path.now per
command_seen (command.Audit root entries) = Named.Audit (option_copied root) entries
command_seen (command.Pipe uid root entries) = Named.Pipe uid root.now entries
command_seen (command.Serve words) = Named.Serve words.now
command_seen (command.Load checks) = Named.Load checks

-- where a scenario begins: the root of its first draft, if there is one, and its limit of entries
pub record Beginning : Type 0 where
  pub root : Option (List ℕ)
  pub entries : ℕ

abbrev pub beginning : Option (List ℕ) → ℕ → Beginning
beginning root entries = record { root = root; entries = entries }

-- a beginning from this root, with a limit of entries
abbrev pub rooted : List ℕ → Option ℕ → Option Beginning
rooted root entries = if is_root root then option_map (beginning (Some root)) entries else None

-- the beginning that the words `[--root DIR] [--entries K]` name
abbrev pub beginning_in : List (List ℕ) → Option Beginning
beginning_in (option ∷ root ∷ words) = if bytes_eq option (codes "--root") then rooted root (entries_in words) else option_map (beginning None) (entries_in (option ∷ root ∷ words))
beginning_in words = option_map (beginning None) (entries_in words)

-- the beginning that the code tells
abbrev pub beginning_seen : Scenario → Beginning
beginning_seen s = beginning (option_copied s.root) s.entries

-- the replay that the words after `replay` name
abbrev pub replay_in : List (List ℕ) → Option Named
replay_in words = option_map (λ b. Named.Replay b.root b.entries) (beginning_in words)

-- the replay in segments that the words `--segments PATH --per K` behind its root name
abbrev pub segments_from : Option (List ℕ) → List (List ℕ) → Option Named
segments_from root (option ∷ path ∷ count ∷ per ∷ []) =
    if bytes_eq option (codes "--segments") && (not (length path == 0) && bytes_eq count (codes "--per")) then option_map (Named.Segments root path) (positive_up_to MAX_PER per) else None
segments_from root words = None

-- the same from this root, if it may be one
abbrev pub segments_rooted : List ℕ → List (List ℕ) → Option Named
segments_rooted root words = if is_root root then segments_from (Some root) words else None

-- the replay in segments that the words after `replay` name
abbrev pub segments_in : List (List ℕ) → Option Named
segments_in (option ∷ root ∷ words) = if bytes_eq option (codes "--root") then segments_rooted root words else segments_from None (option ∷ root ∷ words)
segments_in words = None

-- this command, and the other where there is none
abbrev pub or_else : Option Named → Option Named → Option Named
or_else (Some named) other = Some named
or_else None other = other

-- the replay that the words after `replay` name, of either kind
abbrev pub any_replay_in : List (List ℕ) → Option Named
any_replay_in words = or_else (replay_in words) (segments_in words)

-- the audit that the words after `audit` name
abbrev pub audit_in : List (List ℕ) → Option Named
audit_in words = option_map (λ b. Named.Audit b.root b.entries) (beginning_in words)

-- the pipe of this user from this root, with a limit of entries
abbrev pub pipe_from : List ℕ → ℕ → Option ℕ → Option Named
pipe_from root uid entries = if is_root root then option_map (Named.Pipe uid root) entries else None

-- the pipe that the words after `pipe` name
abbrev pub pipe_in : List (List ℕ) → Option Named
pipe_in (uid ∷ option ∷ root ∷ words) = if bytes_eq option (codes "--root") then option_and_then (λ u. pipe_from root u (entries_in words)) (number_of uid) else None
pipe_in other = None

-- the generated run that the words after `load` name
abbrev pub load_in : List (List ℕ) → Option Named
load_in (number ∷ []) = option_map Named.Load (positive_up_to MAX_CHECKS number)
load_in other = None

-- the service that the words after `serve` name
abbrev pub serve_in : List (List ℕ) → Option Named
serve_in words = if is_some (plan_in words) then Some (Named.Serve words) else None

-- the command that the words name, where they are in the grammar
abbrev pub command_of : List (List ℕ) → Option Named
command_of [] = None
command_of (word ∷ words) =
    if bytes_eq word (codes "replay") then any_replay_in words else
    (if bytes_eq word (codes "audit") then audit_in words else
    (if bytes_eq word (codes "pipe") then pipe_in words else
    (if bytes_eq word (codes "load") then load_in words else
    (if bytes_eq word (codes "serve") then serve_in words else None))))

-- the words name no service
abbrev pub IsNoService : Option Named → Type 0
IsNoService (Some (Named.Serve words)) = ⊥
IsNoService other = Unit {0}

-- the words name nothing by which the station may count a fault: neither a service nor a replay in segments
abbrev pub CountsNoStation : Option Named → Type 0
CountsNoStation (Some (Named.Serve words)) = ⊥
CountsNoStation (Some (Named.Segments root path per)) = ⊥
CountsNoStation other = Unit {0}

-- the words name nothing that asks something of the station: no service, no pipe and no replay in segments
abbrev pub AsksNoStation : Option Named → Type 0
AsksNoStation (Some (Named.Serve words)) = ⊥
AsksNoStation (Some (Named.Pipe uid root entries)) = ⊥
AsksNoStation (Some (Named.Segments root path per)) = ⊥
AsksNoStation other = Unit {0}

-- the words name nothing that loads a root: no command, or a generated run
abbrev pub AsksNoTree : Option Named → Type 0
AsksNoTree None = Unit {0}
AsksNoTree (Some (Named.Load checks)) = Unit {0}
AsksNoTree other = ⊥

-- the numbers of a command are in their ranges, and the words of a service name a plan
abbrev pub IsInRange : Command → Type 0
IsInRange (command.Replay root entries) = (1 ≤ entries) × (entries ≤ MAX_ENTRIES)
IsInRange (command.Segments root path per) = (1 ≤ per) × (per ≤ MAX_PER)
IsInRange (command.Audit root entries) = (1 ≤ entries) × (entries ≤ MAX_ENTRIES)
IsInRange (command.Pipe uid root entries) = (1 ≤ entries) × (entries ≤ MAX_ENTRIES)
IsInRange (command.Serve words) = is_some (plan_in words.now) ≡ true
IsInRange (command.Load checks) = (1 ≤ checks) × (checks ≤ MAX_CHECKS)

-- the limits of a journal of so many entries
abbrev pub limits_of : ℕ → Limits
limits_of entries = record { entries = entries; bytes = MAX_BYTES }
