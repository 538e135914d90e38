-- What a load looks at, in the order of its reports.
use Rattle.std.specs.Prelude.{ℕ, ◌==◌, nat_eq, List, [], ◌∷◌, ◌++◌, Option, Some, None, codes, filter, slice_get, option_map, option_and_then, if◌then◌else◌}
use Rattle.std.specs.List.{ends_with, filter_map}
use Rattle.pk_outside.specs.Trees.{TreeTold}
use Rattle.pk_outside.specs.declared.tree.Names.{Names}
use Rattle.pk_outside.specs.declared.tree.Names.TheVariants as names
use Rattle.authority_model.specs.Words.{Bytes}
use Rattle.pkla_files.specs.declared.directories.Root.{Root}
use Rattle.pkla_files.specs.declared.directories.FilePlace.{FilePlace}
use Rattle.policy_load.specs.declared.order.listing.Head.{Head}
use Rattle.policy_load.specs.declared.order.listing.Listing.{Listing}
use Rattle.keyfile_text.specs.declared.reading.TheConstants.{MAX_KEY_FILE}
use Rattle.action_xml.specs.declared.reading.TheConstants.{MAX_ACTION_FILE}
use Rattle.policy_load.specs.declared.order.turn.FileKind.{FileKind}
use Rattle.policy_load.specs.declared.order.turn.FileKind.TheVariants as kind
use Rattle.policy_load.specs.declared.order.turn.Turn.{Turn}
use Rattle.policy_load.specs.declared.order.turn.Turn.TheVariants as turn
use Rattle.policy_load.specs.Paths.{below, names_at}
use Rattle.policy_load.specs.Orders.{file_order}

-- # Where the files stand

abbrev pub action_directory : Bytes → Option Bytes
action_directory root = below root (codes "usr/share/polkit-1/actions")

abbrev pub admin_directory : Bytes → Option Bytes
admin_directory root = below root (codes "etc/polkit-1/localauthority.conf.d")

abbrev pub vendor_directory : Bytes → Option Bytes
vendor_directory root = below root (codes "var/lib/polkit-1/localauthority")

abbrev pub site_directory : Bytes → Option Bytes
site_directory root = below root (codes "etc/polkit-1/localauthority")

-- the ending of the names of the files of a kind
abbrev pub ending_of : FileKind → Bytes
ending_of kind.Actions = codes ".policy"
ending_of kind.Admins = codes ".conf"
ending_of kind.Entries = codes ".pkla"

-- how many bytes a file of the kind may have
abbrev pub limit_of : FileKind → ℕ
limit_of kind.Actions = MAX_ACTION_FILE
limit_of kind.Admins = MAX_KEY_FILE
limit_of kind.Entries = MAX_KEY_FILE

-- # Directories of files of one kind

-- The empty name stands for the report of names that are no text. It comes before all others.
abbrev pub report_name : ℕ → List Bytes
report_name unnamed = if unnamed == 0 then [] else [] ∷ []

-- the names of a directory that count: its report, and the files whose names have the ending
abbrev pub counted_names : FileKind → List Bytes → ℕ → List Bytes
counted_names kind names unnamed = report_name unnamed ++ filter (λ name. ends_with nat_eq name (ending_of kind)) names

-- one more directory of a listing, where it stands at the path
abbrev pub with_names : FileKind → Root → Bytes → Option Bytes → Names → Listing → Listing
with_names kind root name None found listing = listing
with_names kind root name (Some path) names.Absent listing = listing
with_names kind root name (Some path) (names.Listed names unnamed) listing = record {
  dirs = listing.dirs ++ record { root = root; name = name; files = counted_names kind names unnamed } ∷ [];
  heads = listing.heads ++ record { path = path; unnamed = unnamed } ∷ [];
}

abbrev pub with_directory : TreeTold → FileKind → Root → Bytes → Option Bytes → Listing → Listing
with_directory tree kind root name path listing = with_names kind root name path (names_at tree path) listing

abbrev pub no_directories : Listing
no_directories = record { dirs = []; heads = [] }

-- a listing with the directories of these names below another directory
abbrev pub with_subdirectories : TreeTold → Root → Bytes → List Bytes → Listing → Listing
with_subdirectories tree root base [] listing = listing
with_subdirectories tree root base (name ∷ names) listing =
    with_subdirectories tree root base names (with_directory tree kind.Entries root name (below base name) listing)

-- the same with all names of a directory, which need not be there
abbrev pub with_all_below : TreeTold → Root → Option Bytes → Names → Listing → Listing
with_all_below tree root None found listing = listing
with_all_below tree root (Some base) names.Absent listing = listing
with_all_below tree root (Some base) (names.Listed names unnamed) listing = with_subdirectories tree root base names listing

-- all directories of entry files, the vendor's first
abbrev pub entry_listing : TreeTold → Bytes → Listing
entry_listing tree root =
    with_all_below tree Root.Etc (site_directory root) (names_at tree (site_directory root))
    (with_all_below tree Root.VarLib (vendor_directory root) (names_at tree (vendor_directory root)) no_directories)

-- the one directory of files of a kind
abbrev pub single_listing : TreeTold → FileKind → Option Bytes → Listing
single_listing tree kind path = with_directory tree kind Root.Etc [] path no_directories

-- # Turns

-- the turn of a name of a directory
abbrev pub turn_of : FileKind → Head → Bytes → Turn
turn_of kind head [] = turn.Unnamed head.path head.unnamed
turn_of kind head (b ∷ name) = turn.PolicyFile kind (below head.path (b ∷ name))

abbrev pub turn_at : FileKind → Listing → FilePlace → Option Turn
turn_at kind listing place =
    option_and_then
    (λ dir. option_and_then (λ head. option_map (turn_of kind head) (slice_get dir.files place.file)) (slice_get listing.heads place.dir))
    (slice_get listing.dirs place.dir)

-- the reports and files of a listing, in order
abbrev pub turns_of : FileKind → Listing → List Turn
turns_of kind listing = filter_map (turn_at kind listing) (file_order listing.dirs)

-- the report of a directory whose own names are those of directories
abbrev pub reported : Option Bytes → Names → List Turn
reported None found = []
reported (Some path) names.Absent = []
reported (Some path) (names.Listed names unnamed) = if unnamed == 0 then [] else turn.Unnamed path unnamed ∷ []

-- all turns of a load: action files, administrators' files, entry files
abbrev pub all_turns : TreeTold → Bytes → List Turn
all_turns tree root =
    turns_of kind.Actions (single_listing tree kind.Actions (action_directory root))
    ++ (turns_of kind.Admins (single_listing tree kind.Admins (admin_directory root))
    ++ (reported (vendor_directory root) (names_at tree (vendor_directory root))
    ++ (reported (site_directory root) (names_at tree (site_directory root))
    ++ turns_of kind.Entries (entry_listing tree root))))
