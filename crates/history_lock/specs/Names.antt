-- Names of tables.
use Rattle.std.specs.Prelude.{◌≡◌, []}
use Rattle.atomic_table.specs.Seated.{TableId}

-- the name of no table, which `Brand` has where a call picks none
abbrev pub no_table : TableId
no_table = record { words = 0; slots = 0; views_name = 0; atom = 0; block = 0; offset = 0; slot_names = [] }

-- the table has this name, and one word
abbrev pub IsNamed : TableId → TableId → Type 0
IsNamed table name = (table ≡ name) × (table.words ≡ 1)
