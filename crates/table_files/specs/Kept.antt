-- What the readers keep while they read.
use Rattle.std.specs.Prelude.{◌≡◌, ℕ, List, [], ◌∷◌, ◌++◌, Option, Some, None, true, bytes_eq, map, filter, position, slice_index_or}
use Rattle.authority_model.specs.declared.world.User.{User}
use Rattle.authority_model.specs.declared.world.Session.{Session}
use Rattle.authority_model.specs.declared.world.Process.{Process}
use Rattle.table_files.specs.declared.users.UserRow.{UserRow}
use Rattle.table_files.specs.declared.sessions.SessionRow.{SessionRow}
use Rattle.table_files.specs.declared.processes.ProcessRow.{ProcessRow}
use Rattle.table_files.specs.declared.kept.GroupRow.{GroupRow}
use Rattle.table_files.specs.declared.kept.Memberships.{Memberships}
use Rattle.table_files.specs.Fields.{is_name}
use Rattle.table_files.specs.Users.{user}
use Rattle.table_files.specs.Processes.{session_in}
use Rattle.table_files.specs.Groups.{Listing, group_named, members_of}

-- a field that may be a name
abbrev pub IsName : List ℕ → Type 0
IsName field = is_name field ≡ true

-- the user of a row
abbrev pub user_in : UserRow → User
user_in row = user row.name.now row.uid row.gid

-- the session of a row
abbrev pub session_at : SessionRow → Session
session_at row = record { id = row.id.now; uid = row.uid; local = row.local; active = row.active }

-- the process of a row
abbrev pub process_at : ProcessRow → Process
process_at row = record { pid = row.pid; start = row.start; uid = row.uid; session = session_in row.session.now }

-- the group and the members of a row
abbrev pub listing_in : GroupRow → Listing
listing_in row = record { group = group_named row.name.now row.gid; members = members_of row.members.now }

-- the gids at a place, where there is one
abbrev pub gids_at : List (List ℕ) → Option ℕ → List ℕ
gids_at lists None = []
gids_at lists (Some i) = slice_index_or lists i []

-- the gids that are kept for a name
abbrev pub kept_gids : Memberships → List ℕ → List ℕ
kept_gids m name = gids_at m.gids.items (position (λ n. bytes_eq name n.now) m.names.keys)

-- the gid once for each member of that name
abbrev pub gid_of_each : List ℕ → ℕ → List (List ℕ) → List ℕ
gid_of_each name gid members = map (λ _. gid) (filter (λ member. bytes_eq name member) members)

-- the gids of the rows, once for each member of that name
abbrev pub gids_of_each : List ℕ → List Listing → List ℕ
gids_of_each name [] = []
gids_of_each name (row ∷ rows) = gid_of_each name row.group.gid row.members ++ gids_of_each name rows
