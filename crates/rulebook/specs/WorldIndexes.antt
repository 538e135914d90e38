-- What the index of a world lists.
use Rattle.std.specs.Prelude.{◌≡◌, ℕ, ◌==◌, ◌&&◌, List, Option, nat_eq, bytes_eq, position}
use Rattle.std.specs.Map.{lookup}
use Rattle.authority_model.specs.declared.load.Loaded.{Loaded}
use Rattle.authority_model.specs.declared.world.World.{World}
use Rattle.authority_model.specs.Words.{Bytes}
use Rattle.rulebook.specs.declared.index.RuleIndex.{RuleIndex}
use Rattle.rulebook.specs.declared.world_index.WorldIndex.{WorldIndex}
use Rattle.rulebook.specs.Indexes.{at_text, IsIndexOf}

-- the place at a number
abbrev pub at_number : List (ℕ × ℕ) → ℕ → Option ℕ
at_number rows n = lookup (nat_eq n) rows

-- the place at a pid and a start
abbrev pub at_process : List ((ℕ × ℕ) × ℕ) → ℕ → ℕ → Option ℕ
at_process rows pid start = lookup (λ k. (pid == k.0) && (start == k.1)) rows

-- The index is of this world: the first place of each uid, gid, session id, and pid with its start.
pub record IsWorldIndexOf (world : World) (index : WorldIndex) : Type 0 where
  pub users : (uid : ℕ) → at_number index.users.entries uid ≡ position (λ u. u.uid == uid) world.users
  pub groups : (gid : ℕ) → at_number index.groups.entries gid ≡ position (λ g. g.gid == gid) world.groups
  pub sessions : (id : Bytes) → at_text index.sessions.entries id ≡ position (λ s. bytes_eq s.id id) world.sessions
  pub processes : (pid start : ℕ)
      → at_process index.processes.entries pid start ≡ position (λ p. (p.pid == pid) && (p.start == start)) world.processes

-- The two indexes are of this load.
pub record AreIndexesOf (loaded : Loaded) (rules : RuleIndex) (rows : WorldIndex) : Type 0 where
  pub policy : IsIndexOf loaded.policy rules
  pub world : IsWorldIndexOf loaded.world rows
