-- What a tree of files comes to as a load: the value, or why it is refused.
use Rattle.std.specs.Prelude.{ℕ, List, [], Result, Ok, Err, nat_lt, if◌then◌else◌, length, map, codes}
use Rattle.pk_outside.specs.Trees.{TreeTold}
use Rattle.pk_outside.specs.declared.tree.FileBytes.{FileBytes}
use Rattle.pk_outside.specs.declared.tree.FileBytes.TheVariants as file
use Rattle.authority_model.specs.Words.{Bytes}
use Rattle.authority_model.specs.declared.load.Loaded.{Loaded}
use Rattle.authority_model.specs.declared.world.Group.{Group}
use Rattle.authority_model.specs.declared.world.Process.{Process}
use Rattle.authority_model.specs.declared.world.Session.{Session}
use Rattle.authority_model.specs.declared.world.User.{User}
use Rattle.authority_model.specs.declared.world.World.{World}
use Rattle.admin_identities.specs.Configured.{admins_of}
use Rattle.table_files.specs.Groups.{groups_of, with_members}
use Rattle.table_files.specs.Processes.{processes_of}
use Rattle.table_files.specs.Sessions.{sessions_of}
use Rattle.table_files.specs.Users.{users_of}
use Rattle.table_files.specs.declared.fault.TableFault.{TableFault}
use Rattle.table_files.specs.declared.fault.TableFault.TheVariants as fault
use Rattle.table_files.specs.declared.limits.TheConstants.{MAX_FILE}
use Rattle.policy_load.specs.Paths.{below, bytes_at}
use Rattle.policy_load.specs.Turns.{all_turns}
use Rattle.policy_load.specs.Findings.{found_at}
use Rattle.policy_load.specs.Joins.{nothing_joined, with_findings, file_count, byte_count}
use Rattle.policy_load.specs.declared.files.finding.Finding.{Finding}
use Rattle.policy_load.specs.declared.files.joined.Joined.{Joined}
use Rattle.policy_load.specs.declared.files.reading.TheConstants.{MAX_FILES, MAX_POLICY_BYTES}
use Rattle.policy_load.specs.declared.order.turn.Turn.{Turn}
use Rattle.policy_load.specs.declared.refused.LoadLimit.{LoadLimit}
use Rattle.policy_load.specs.declared.refused.LoadLimit.TheVariants as which
use Rattle.policy_load.specs.declared.refused.LoadRefused.{LoadRefused}
use Rattle.policy_load.specs.declared.refused.LoadRefused.TheVariants as refused
use Rattle.policy_load.specs.declared.limits.TheConstants.{MAX_ACTIONS, MAX_RULES}

-- the second step, where the first gave a value
infixl 10 ◌>>=◌
abbrev pub ◌>>=◌ : {A B : Type 0} → Result A LoadRefused → (A → Result B LoadRefused) → Result B LoadRefused
(Ok value) >>= next = next value
(Err why) >>= next = Err why

-- # Tables

-- an absent table is an empty one
abbrev pub table_bytes : FileBytes → Result Bytes TableFault
table_bytes file.Absent = Ok []
table_bytes file.TooLong = Err fault.TooLong
table_bytes (file.Bytes bytes) = Ok bytes

-- a fault of a table is told with its path below the root
abbrev pub of_table : {A : Type 0} → Bytes → Result A TableFault → Result A LoadRefused
of_table name (Ok value) = Ok value
of_table name (Err why) = Err (refused.BadTable name why)

-- the bytes of a table
abbrev pub table : TreeTold → Bytes → Bytes → Result Bytes LoadRefused
table tree root name = of_table name (table_bytes (bytes_at tree MAX_FILE (below root name)))

abbrev pub users_in : TreeTold → Bytes → Result (List User) LoadRefused
users_in tree root = table tree root (codes "etc/passwd") >>= λ bytes. of_table (codes "etc/passwd") (users_of bytes)

-- the groups, and the users with their memberships
abbrev pub groups_in : TreeTold → Bytes → List User → Result (List Group × List User) LoadRefused
groups_in tree root users = do
  bytes ← table tree root (codes "etc/group")
  groups ← of_table (codes "etc/group") (groups_of bytes)
  Ok (groups, with_members bytes users)

abbrev pub sessions_in : TreeTold → Bytes → Result (List Session) LoadRefused
sessions_in tree root = table tree root (codes "tables/sessions") >>= λ bytes. of_table (codes "tables/sessions") (sessions_of bytes)

abbrev pub processes_in : TreeTold → Bytes → List Session → Result (List Process) LoadRefused
processes_in tree root sessions = table tree root (codes "tables/processes") >>= λ bytes. of_table (codes "tables/processes") (processes_of bytes sessions)

-- the world of the four tables, or the first of these faults
abbrev pub world_in : TreeTold → Bytes → Result World LoadRefused
world_in tree root = do
  users ← users_in tree root
  (groups, members) ← groups_in tree root users
  sessions ← sessions_in tree root
  processes ← processes_in tree root sessions
  Ok (record { users = members; groups = groups; sessions = sessions; processes = processes })

-- # The load

-- a count within its limit
abbrev pub within : {A : Type 0} → LoadLimit → ℕ → ℕ → Result A LoadRefused → Result A LoadRefused
within which count limit rest = if nat_lt limit count then Err (refused.Limit which count) else rest

abbrev pub loaded_from : Joined → World → Loaded
loaded_from j world = record { policy = record { actions = j.actions; entries = j.entries; admins = admins_of j.admins }; world = world; faults = j.faults }

-- the load of joined policy files
abbrev pub load_joined : TreeTold → Bytes → Joined → Result Loaded LoadRefused
load_joined tree root j =
    within which.Actions (length j.actions) MAX_ACTIONS
    (within which.Entries (length j.entries) MAX_RULES
    (world_in tree root >>= λ world. Ok (loaded_from j world)))

-- what policy files come to together
abbrev pub joined : List Finding → Joined
joined findings = with_findings findings nothing_joined

-- the load of these turns
abbrev pub load_turns : TreeTold → Bytes → List Turn → Result Loaded LoadRefused
load_turns tree root turns =
    within which.Files (file_count turns) MAX_FILES
    (within which.PolicyBytes (byte_count tree turns) MAX_POLICY_BYTES
    (load_joined tree root (joined (map (found_at tree) turns))))

-- the load of a tree
abbrev pub load_of : TreeTold → Bytes → Result Loaded LoadRefused
load_of tree root = load_turns tree root (all_turns tree root)
