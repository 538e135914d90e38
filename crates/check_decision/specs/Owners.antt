-- The owners that an annotation names.
use Rattle.std.specs.Prelude.{ℕ, Bool, false}
use Rattle.std.specs.Option.{option_map_or}
use Rattle.authority_model.specs.declared.world.World.{World}
use Rattle.authority_model.specs.Words.{Bytes}
use Rattle.authority_model.specs.Worlds.{identity_of}
use Rattle.authority_model.specs.Trust.{covers}

-- whether the identity that a word names covers a user; a word that names nobody covers nobody
abbrev pub word_covers : World → ℕ → Bytes → Bool
word_covers world uid word = option_map_or (covers world uid) (identity_of world word) false
