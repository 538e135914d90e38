-- Keys: a process or a session, with its user.
use Rattle.std.specs.Prelude.{ℕ, ◌==◌, Bool, false, ◌&&◌, bytes_eq}
use Rattle.authority_model.specs.declared.key.Key.{Key}
use Rattle.authority_model.specs.declared.key.KeyRef.{KeyRef}

-- whether two keys are one
abbrev pub same_key : Key → Key → Bool
same_key (Key.Process pid start uid) (Key.Process pid' start' uid') = (pid == pid') && (start == start') && (uid == uid')
same_key (Key.Session id uid) (Key.Session id' uid') = bytes_eq id id' && (uid == uid')
same_key (Key.Process pid start uid) (Key.Session id' uid') = false
same_key (Key.Session id uid) (Key.Process pid' start' uid') = false

-- the uid in a key
abbrev pub uid_of_key : Key → ℕ
uid_of_key (Key.Process pid start uid) = uid
uid_of_key (Key.Session id uid) = uid

-- the key that a key with a borrowed id stands for
abbrev pub key_seen : KeyRef → Key
key_seen (KeyRef.Process pid start uid) = Key.Process pid start uid
key_seen (KeyRef.Session id uid) = Key.Session id.now uid
