-- The lines of one item of a history.
use Rattle.std.specs.Prelude.{ℕ, List, [], ◌++◌, Option, codes}
use Rattle.std.specs.Option.{option_map_or}
use Rattle.authority_model.specs.declared.journal.Item.{Item}
use Rattle.authority_model.specs.declared.load.Loaded.{Loaded}
use Rattle.audit_values.specs.Entries.{entry}
use Rattle.audit_text.specs.Audit.{load}
use Rattle.audit_text.specs.Lines.{line}

-- the lines of a load, where there is one
abbrev pub load_text : Option Loaded → List ℕ
load_text loaded = option_map_or load.spell loaded []

-- the lines of an item's load, where it has one, and then the line of its entry
abbrev pub item_text : Item → List ℕ
item_text i = load_text i.loaded ++ (line (codes "entry") entry).spell i.entry
