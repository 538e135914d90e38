-- The key that a key of an index stands for.
use Rattle.std.specs.Cow.{cow_slice_items}
use Rattle.authority_model.specs.declared.key.Key.{Key}
use Rattle.key_index.specs.declared.keys.KeyOf.{KeyOf}
use Rattle.key_index.specs.declared.keys.KeyOf.TheVariants.{Process, Session}

-- the key that a key of an index stands for
abbrev pub key_held : KeyOf → Key
key_held (Process pid start uid) = Key.Process pid start uid
key_held (Session id uid) = Key.Session (cow_slice_items id) uid
