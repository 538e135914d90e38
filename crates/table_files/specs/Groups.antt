-- The groups of a file as group(5) has it, and the memberships that it adds to users.
use Rattle.std.specs.Prelude.{ℕ, ◌==◌, Bool, ◌||◌, List, [], ◌∷◌, ◌++◌, Result, Ok, Err, if◌then◌else◌, bytes_eq, map, filter, fold}
use Rattle.pk_types.specs.Pieces.{pieces_of}
use Rattle.authority_model.specs.declared.world.User.{User}
use Rattle.authority_model.specs.declared.world.Group.{Group}
use Rattle.authority_model.specs.Lists.{any_of}
use Rattle.authority_model.specs.Worlds.{group_label}
use Rattle.table_files.specs.declared.fault.TableFault.{TableFault}
use Rattle.table_files.specs.declared.fault.TableFault.TheVariants.{Fields}
use Rattle.table_files.specs.Faults.{◌>>=◌}
use Rattle.table_files.specs.Fields.{is_name, fields_if, number_32}
use Rattle.table_files.specs.Tables.{table_of, with_row}

-- a row: a group, and the names of its members
pub record Listing : Type 0 where
  pub group : Group
  pub members : List (List ℕ)

-- the group of a name and a gid
abbrev pub group_named : List ℕ → ℕ → Group
group_named name gid = record { gid = gid; name = name; label = group_label name }

-- the members that a field names, with commas (44) between them; an empty field names none
abbrev pub members_of : List ℕ → List (List ℕ)
members_of [] = []
members_of (byte ∷ field) = pieces_of 44 (byte ∷ field)

-- the row of the fields that count
abbrev pub listing_of_row : ℕ → List ℕ → List ℕ → List ℕ → Result Listing TableFault
listing_of_row line name gid members = do
  _ ← fields_if line (is_name name)
  g ← number_32 line gid
  Ok (record { group = group_named name g; members = members_of members })

-- the row of its four fields
abbrev pub listing_of_fields : ℕ → List (List ℕ) → Result Listing TableFault
listing_of_fields line (name ∷ password ∷ gid ∷ members ∷ []) = listing_of_row line name gid members
listing_of_fields line fields = Err (Fields line)

-- whether the gid or the name of a group stands already
abbrev pub group_stands : Group → List Listing → Bool
group_stands g rows = any_of (λ r. g.gid == r.group.gid) rows || any_of (λ r. bytes_eq g.name r.group.name) rows

-- the rows with one more, which is passed over where the gid or the name stands already
abbrev pub with_listing : Listing → List Listing → Result (List Listing) TableFault
with_listing row rows = if group_stands row.group rows then Ok rows else with_row row rows

-- the rows with that of one more line, whose fields stand between colons (58)
abbrev pub with_group_line : ℕ → List ℕ → List Listing → Result (List Listing) TableFault
with_group_line number line rows = listing_of_fields number (pieces_of 58 line) >>= λ row. with_listing row rows

-- the rows of a file that stand
abbrev pub listings_of : List ℕ → Result (List Listing) TableFault
listings_of bytes = table_of with_group_line bytes []

-- the groups of a file
abbrev pub groups_of : List ℕ → Result (List Group) TableFault
groups_of bytes = listings_of bytes >>= λ rows. Ok (map (λ r. r.group) rows)

-- whether a row names a user
abbrev pub lists_member : List ℕ → Listing → Bool
lists_member name row = any_of (λ member. bytes_eq name member) row.members

-- the gids of the rows that name a user
abbrev pub gids_of_member : List ℕ → List Listing → List ℕ
gids_of_member name rows = map (λ r. r.group.gid) (filter (lists_member name) rows)

-- the gids with one more at the end, unless it is among them yet
abbrev pub with_gid : List ℕ → ℕ → List ℕ
with_gid gids gid = if any_of (λ g. gid == g) gids then gids else gids ++ gid ∷ []

-- the user in the groups of these rows: first its own gids, then those of the rows that name it
abbrev pub member_of : List Listing → User → User
member_of rows user = record user { gids = fold with_gid user.gids (gids_of_member user.name rows) }

-- the users in the groups of the rows that stand
abbrev pub members_in : Result (List Listing) TableFault → List User → List User
members_in (Ok rows) users = map (member_of rows) users
members_in (Err fault) users = users

-- the users with the memberships that a file adds
abbrev pub with_members : List ℕ → List User → List User
with_members bytes users = members_in (listings_of bytes) users
