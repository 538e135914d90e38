-- The rows of a world. Where several rows have what is asked for, the first one counts.
use Rattle.std.specs.Prelude.{ℕ, ◌==◌, Bool, ◌&&◌, ◌++◌, Option, option_map, option_and_then, codes, bytes_eq, find}
use Rattle.pk_types.specs.declared.values.Identity.{Identity}
use Rattle.authority_model.specs.declared.key.Key.{Key}
use Rattle.authority_model.specs.declared.world.World.{World}
use Rattle.authority_model.specs.declared.world.User.{User as UserRow}
use Rattle.authority_model.specs.declared.world.Group.{Group as GroupRow}
use Rattle.authority_model.specs.declared.world.Session.{Session as SessionRow}
use Rattle.authority_model.specs.declared.world.Process.{Process as ProcessRow}
use Rattle.authority_model.specs.Lists.{or_else, any_of}
use Rattle.pk_types.specs.Decimals.{number_of}
use Rattle.authority_model.specs.Words.{Bytes, after_front}

-- the process with this pid and start
abbrev pub process_row : World → ℕ → ℕ → Option ProcessRow
process_row world pid start = find (λ p. (p.pid == pid) && (p.start == start)) world.processes

-- the session with this id
abbrev pub session_row : World → Bytes → Option SessionRow
session_row world id = find (λ s. bytes_eq s.id id) world.sessions

-- the user with this uid
abbrev pub user_row : World → ℕ → Option UserRow
user_row world uid = find (λ u. u.uid == uid) world.users

-- the group with this gid
abbrev pub group_row : World → ℕ → Option GroupRow
group_row world gid = find (λ g. g.gid == gid) world.groups

-- the label of a user of this name, which identity globs match
abbrev pub user_label : Bytes → Bytes
user_label name = codes "unix-user:" ++ name

-- the label of a group of this name
abbrev pub group_label : Bytes → Bytes
group_label name = codes "unix-group:" ++ name

-- whether the world lists a key: some row has all its parts
abbrev pub lists_key : World → Key → Bool
lists_key world (Key.Process pid start uid) = any_of (λ p. (p.pid == pid) && (p.start == start) && (p.uid == uid)) world.processes
lists_key world (Key.Session id uid) = any_of (λ s. bytes_eq s.id id && (s.uid == uid)) world.sessions

-- the user that a word names: by its number, or else by its name
abbrev pub user_of_word : World → Bytes → Option Identity
user_of_word world word = option_map Identity.User (or_else (number_of word) (option_map (λ u. u.uid) (find (λ u. bytes_eq u.name word) world.users)))

-- the group that a word names: by its number, or else by its name
abbrev pub group_of_word : World → Bytes → Option Identity
group_of_word world word = option_map Identity.Group (or_else (number_of word) (option_map (λ g. g.gid) (find (λ g. bytes_eq g.name word) world.groups)))

-- the identity that is written `unix-user:` or `unix-group:` and a word
abbrev pub identity_of : World → Bytes → Option Identity
identity_of world text = or_else (option_and_then (user_of_word world) (after_front (codes "unix-user:") text)) (option_and_then (group_of_word world) (after_front (codes "unix-group:") text))
