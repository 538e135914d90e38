-- The lines of a text, and how they go through a buffer to a sink.
use Rattle.std.specs.Prelude.{◌≡◌, ◌<◌, ◌≤◌, ◌+◌, ◌^◌, ℕ, List, [], ◌∷◌, ◌++◌, codes, length, All, Option, Result, Ok, Err}
use Rattle.std.specs.List.{concat, flat_map}
use Rattle.pk_outside.specs.Allowing.{MayFronts}
use Rattle.pk_outside.specs.Causes.{FailsLast}
use Rattle.pk_outside.specs.Streams.{Got, GotFront}
use Rattle.authority_model.specs.declared.journal.History.{History}
use Rattle.authority_model.specs.declared.load.Loaded.{Loaded}
use Rattle.audit_words.specs.Buffers.{Buffered, counted}
use Rattle.audit_words.specs.Escapes.{text}
use Rattle.audit_values.specs.Policies.{action, rule_entry, file_fault}
use Rattle.audit_values.specs.Worlds.{user, group, session, process}
use Rattle.audit_values.specs.Entries.{entry}
use Rattle.audit_text.specs.declared.writing.TheConstants.{PIECE}
use Rattle.audit_text.specs.Audit.{load_head, load_head_of, first_line, history_headed}
use Rattle.audit_text.specs.Lines.{LineCodec, line}

-- ---- the lines of a text, each with its LF

abbrev pub item_lines : {V : Type 0} → LineCodec V → List V → List (List ℕ)
item_lines c vs = flat_map (λ v. c.spell v ∷ []) vs

abbrev pub load_lines : Loaded → List (List ℕ)
load_lines l = (line (codes "load") load_head).spell (load_head_of l)
    ∷ (item_lines (line (codes "action") action) l.policy.actions
    ++ (item_lines (line (codes "rule") rule_entry) l.policy.entries
    ++ (item_lines (line (codes "admin") text) l.policy.admins
    ++ (item_lines (line (codes "user") user) l.world.users
    ++ (item_lines (line (codes "group") group) l.world.groups
    ++ (item_lines (line (codes "session") session) l.world.sessions
    ++ (item_lines (line (codes "process") process) l.world.processes
    ++ item_lines (line (codes "fault") file_fault) l.faults)))))))

abbrev pub history_lines : History → List (List ℕ)
history_lines h = first_line.spell (history_headed.head_of h) ∷ (flat_map load_lines h.loads ++ item_lines (line (codes "entry") entry) h.entries)

-- a line is no longer than this, as far as lines are counted
abbrev pub IsWithin : ℕ → List ℕ → Type 0
IsWithin most bytes = counted 0 (length bytes) ≤ most

-- there is room for a line after bytes that are fewer than a piece
abbrev pub HasRoom : ℕ → List ℕ → Type 0
HasRoom room bytes = PIECE + length bytes ≤ room

-- ---- lines that are written

-- all bytes are kept, and they are fewer than a piece
pub record IsOpen (b : Buffered) : Type 0 where
  pub whole : b.count ≡ length b.kept
  pub few : length b.kept < PIECE
  pub small : b.room < 2 ^ 64

-- the buffer, and the sink to which its bytes go
pub record Desk (S : Type 0) : Type 0 where
  pub buffer : Buffered
  pub output : S

abbrev pub desk : {S : Type 0} → Buffered → S → Desk S
desk buffer output = record { buffer = buffer; output = output }

-- these lines may be written after what the buffer keeps, in any pieces
pub record MayWrite {S : Type 0} (Allowed : List ℕ → Type 0) (held : S → Option (List ℕ)) (at : Desk S) (lines : List (List ℕ)) : Type 0 where
  pub opened : IsOpen at.buffer
  pub room : All (HasRoom at.buffer.room) lines
  pub may : MayFronts Allowed (held at.output) (at.buffer.kept ++ concat lines)

-- these lines stand after what the buffer kept: in the sink, and then in the buffer
pub record Grew {S : Type 0} (held : S → Option (List ℕ)) (faults : S → ℕ) (before now : Desk S) (lines : List (List ℕ)) : Type 0 where
  pub written : List ℕ
  pub got : Got (held before.output) (held now.output) written
  pub rest : before.buffer.kept ++ concat lines ≡ written ++ now.buffer.kept
  pub opened : IsOpen now.buffer
  pub room : now.buffer.room ≡ before.buffer.room
  pub quiet : faults now.output ≡ faults before.output

-- the last write failed, and the sink got a prefix of all
pub record Broke {S : Type 0} (held : S → Option (List ℕ)) (faults : S → ℕ) (before now : Desk S) (lines : List (List ℕ)) : Type 0 where
  pub front : GotFront (held before.output) (held now.output) (before.buffer.kept ++ concat lines)
  pub last : FailsLast held faults before.output now.output
  pub later : faults before.output ≤ faults now.output

abbrev pub Writes : {S T E : Type 0} → (S → Option (List ℕ)) → (S → ℕ) → Desk S → Desk S → Result T E → List (List ℕ) → Type 0
Writes held faults before now (Ok x) lines = Grew held faults before now lines
Writes held faults before now (Err e) lines = Broke held faults before now lines
