-- What is known of a subject by its row.
use Rattle.std.specs.Prelude.{ℕ, ◌==◌, ◌&&◌, if◌then◌else◌, Option, Some, None, option_map, option_and_then, option_copied, bytes_eq, find}
use Rattle.pk_types.specs.declared.values.Category.{Category}
use Rattle.authority_model.specs.declared.facts.Facts.{Facts as BorrowedFacts}
use Rattle.authority_model.specs.declared.key.Key.{Key}
use Rattle.authority_model.specs.declared.world.World.{World}
use Rattle.authority_model.specs.declared.world.Session.{Session as SessionRow}
use Rattle.authority_model.specs.declared.world.Process.{Process as ProcessRow}
use Rattle.authority_model.specs.Words.{Bytes}
use Rattle.authority_model.specs.Keys.{key_seen}
use Rattle.authority_model.specs.Worlds.{session_row}

-- What is known of a subject: its user, the category of its session, its key, and the id of its session.
pub record Facts : Type 0 where
  pub uid : ℕ
  pub category : Category
  pub key : Key
  pub session : Option Bytes

-- the category of a session: a local one is active or inactive, and anything else is any
abbrev pub category_of : Option SessionRow → Category
category_of None = Category.Any
category_of (Some s) = if s.local then (if s.active then Category.Active else Category.Inactive) else Category.Any

-- the session that a process names, where it is listed
abbrev pub session_of : World → ProcessRow → Option SessionRow
session_of world p = option_and_then (session_row world) p.session

-- what is known of a process
abbrev pub facts_of_process : World → ProcessRow → Facts
facts_of_process world p = record {
  uid = p.uid;
  category = category_of (session_of world p);
  key = Key.Process p.pid p.start p.uid;
  session = option_map (λ s. s.id) (session_of world p);
}

-- what is known of a session, whose session is itself
abbrev pub facts_of_session : SessionRow → Facts
facts_of_session s = record {
  uid = s.uid;
  category = category_of (Some s);
  key = Key.Session s.id s.uid;
  session = Some s.id;
}

-- what is known of a key: the facts of the row that has all its parts
abbrev pub facts_of_key : World → Key → Option Facts
facts_of_key world (Key.Process pid start uid) = option_map (facts_of_process world) (find (λ p. (p.pid == pid) && (p.start == start) && (p.uid == uid)) world.processes)
facts_of_key world (Key.Session id uid) = option_map facts_of_session (find (λ s. bytes_eq s.id id && (s.uid == uid)) world.sessions)

-- the facts that facts with borrowed texts stand for
abbrev pub facts_seen : BorrowedFacts → Facts
facts_seen f = record { uid = f.uid; category = f.category; key = key_seen f.key; session = option_copied f.session }
