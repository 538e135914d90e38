-- What the maps of the reader stand for: the groups so far.
use Rattle.std.specs.Prelude.{◌≡◌, ℕ, List, [], ◌∷◌, map, Option, Some, None, Result, Ok, Err, bytes_eq, if◌then◌else◌}
use Rattle.std.specs.Borrow.{Bor}
use Rattle.std.specs.declared.hash.FoldHasher.{FoldHasher}
use Rattle.std.specs.declared.hash.BuildHasherDefault.{BuildHasherDefault}
use Rattle.indexmap.specs.IndexMap.{IndexMap}
use Rattle.pk_types.specs.declared.values.Pair.{Pair}
use Rattle.pk_types.specs.Text.{IsText}
use Rattle.keyfile_text.specs.Lines.{Line, Blank, Header, Setting, Faulty}
use Rattle.keyfile_text.specs.KeyFiles.{Grouped, IsFirstFault}
use Rattle.keyfile_text.specs.declared.groups.KeyGroup.{KeyGroup}
use Rattle.keyfile_text.specs.declared.fault.KeyFault.{KeyFault}
use Rattle.keyfile_text.specs.declared.fault.KeyFaultKind.{KeyFaultKind}
use Rattle.keyfile_text.specs.declared.line.Said.{Said}
use Rattle.keyfile_text.specs.declared.line.Said.TheVariants as said
use Rattle.keyfile_text.specs.declared.grouping.OpenGroup.{OpenGroup}
use Rattle.keyfile_text.specs.declared.grouping.Grouping.{Grouping}

abbrev pub PairMap : Type 0
PairMap = IndexMap (Bor (List ℕ)) (Bor (List ℕ)) (BuildHasherDefault FoldHasher)

abbrev pub GroupMap : Type 0
GroupMap = IndexMap (Bor (List ℕ)) PairMap (BuildHasherDefault FoldHasher)

abbrev pub pair_in : Bor (List ℕ) × Bor (List ℕ) → Pair
pair_in (key, value) = record { key = key.now; value = value.now }

abbrev pub pairs_in : PairMap → List Pair
pairs_in m = map pair_in m.entries

abbrev pub group_in : Bor (List ℕ) × PairMap → KeyGroup
group_in (name, pairs) = record { name = name.now; pairs = pairs_in pairs }

abbrev pub groups_in : GroupMap → List KeyGroup
groups_in m = map group_in m.entries

-- the group of that name has these pairs; one that stands keeps its place, and another comes last
abbrev pub put_group : List ℕ → List Pair → List KeyGroup → List KeyGroup
put_group name pairs [] = (record { name = name; pairs = pairs }) ∷ []
put_group name pairs (g ∷ groups) = if bytes_eq name g.name then (record { name = g.name; pairs = pairs }) ∷ groups else g ∷ put_group name pairs groups

-- the open group's pairs are kept apart
abbrev pub with_open : Option OpenGroup → List KeyGroup → List KeyGroup
with_open None groups = groups
with_open (Some o) groups = put_group o.name.now (pairs_in o.pairs) groups

abbrev pub open_name : Option OpenGroup → Option (List ℕ)
open_name None = None
open_name (Some o) = Some o.name.now

abbrev pub grouped : Grouping → Grouped
grouped g = record { current = open_name g.current; groups = with_open g.current (groups_in g.groups) }

-- what a line says
abbrev pub line_in : Result Said KeyFaultKind → Line
line_in (Ok said.Blank) = Blank
line_in (Ok (said.Header name)) = Header name.now
line_in (Ok (said.Setting key value)) = Setting key.now value.now
line_in (Err kind) = Faulty kind

-- the names, keys and values are texts
abbrev pub SaysTexts : Said → Type 0
SaysTexts said.Blank = Unit {0}
SaysTexts (said.Header name) = IsText name.now
SaysTexts (said.Setting key value) = IsText key.now × IsText value.now

abbrev pub PairsAreTexts : List Pair → Type 0
PairsAreTexts [] = Unit {0}
PairsAreTexts (p ∷ pairs) = IsText p.key × IsText p.value × PairsAreTexts pairs

abbrev pub GroupsAreTexts : List KeyGroup → Type 0
GroupsAreTexts [] = Unit {0}
GroupsAreTexts (g ∷ groups) = IsText g.name × PairsAreTexts g.pairs × GroupsAreTexts groups

-- what reading gave, with texts, or the fault that it gave first
abbrev pub LinesRead : Result (List KeyGroup) KeyFault → Result GroupMap KeyFault → Type 0
LinesRead due (Ok groups) = (due ≡ Ok (groups_in groups)) × GroupsAreTexts (groups_in groups)
LinesRead due (Err fault) = IsFirstFault fault.kind fault.at due
