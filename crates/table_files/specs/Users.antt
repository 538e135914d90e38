-- The users of a file as passwd(5) has it.
use Rattle.std.specs.Prelude.{ℕ, ◌==◌, Bool, ◌||◌, List, [], ◌∷◌, Result, Ok, Err, if◌then◌else◌, bytes_eq}
use Rattle.pk_types.specs.Pieces.{pieces_of}
use Rattle.authority_model.specs.declared.world.User.{User}
use Rattle.authority_model.specs.Lists.{any_of}
use Rattle.authority_model.specs.Worlds.{user_label}
use Rattle.table_files.specs.declared.fault.TableFault.{TableFault}
use Rattle.table_files.specs.declared.fault.TableFault.TheVariants.{Fields}
use Rattle.table_files.specs.Faults.{◌>>=◌}
use Rattle.table_files.specs.Fields.{is_name, fields_if, number_32}
use Rattle.table_files.specs.Tables.{table_of, with_row}

-- the user of a name, a uid and a gid
abbrev pub user : List ℕ → ℕ → ℕ → User
user name uid gid = record { uid = uid; name = name; label = user_label name; gids = gid ∷ [] }

-- the user of the fields that count
abbrev pub user_of_row : ℕ → List ℕ → List ℕ → List ℕ → Result User TableFault
user_of_row line name uid gid = do
  _ ← fields_if line (is_name name)
  u ← number_32 line uid
  g ← number_32 line gid
  Ok (user name u g)

-- the user of the seven fields of a row
abbrev pub user_of_fields : ℕ → List (List ℕ) → Result User TableFault
user_of_fields line (name ∷ password ∷ uid ∷ gid ∷ gecos ∷ home ∷ shell ∷ []) = user_of_row line name uid gid
user_of_fields line fields = Err (Fields line)

-- whether the uid or the name of a user stands already
abbrev pub user_stands : User → List User → Bool
user_stands u users = any_of (λ v. u.uid == v.uid) users || any_of (λ v. bytes_eq u.name v.name) users

-- the users with one more, who is passed over where the uid or the name stands already
abbrev pub with_user : User → List User → Result (List User) TableFault
with_user u users = if user_stands u users then Ok users else with_row u users

-- the users with that of one more line, whose fields stand between colons (58)
abbrev pub with_user_line : ℕ → List ℕ → List User → Result (List User) TableFault
with_user_line number line users = user_of_fields number (pieces_of 58 line) >>= λ u. with_user u users

-- the users of a file
abbrev pub users_of : List ℕ → Result (List User) TableFault
users_of bytes = table_of with_user_line bytes []
