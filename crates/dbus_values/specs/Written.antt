-- The message that is written.
use Rattle.std.specs.Prelude.{ℕ, Bool, if◌then◌else◌, List, [], ◌∷◌, ◌++◌, Option, Some, None}
use Rattle.dbus_values.specs.declared.value.Value.{Value, Bool as Truth, U32, U64, Text, Array', Struct', Entry', Variant', Row_of-Value, end_of-Value, more_of-Value}
use Rattle.dbus_values.specs.declared.wire_out.WireOut.{WireOut}
use Rattle.dbus_values.specs.Trees.{Tree, Trees, none, more, types_of, FitsAs, Each, marshalled}
use Rattle.dbus_values.specs.Trees as trees
use Rattle.dbus_values.specs.Form.{Field, Message}

-- the tree that a value is
abbrev mutual
  pub tree : Value → Tree
  tree (Truth b) = trees.Number 98 (if b then 1 else 0)
  tree (U32 n) = trees.Number 117 n
  tree (U64 n) = trees.Number 116 n
  tree (Text t) = trees.Text 115 t
  tree (Array' item shape all) = trees.Array item (all_trees all)
  tree (Struct' shape all) = trees.Struct (all_trees all)
  tree (Entry' p k q v) = trees.Entry (tree k) (tree v)
  tree (Variant' p v) = trees.Variant (tree v)

  pub all_trees : {m : _} → Row_of-Value m → Trees
  all_trees end_of-Value = none
  all_trees (more_of-Value v rest) = more (tree v) (all_trees rest)

abbrev pub list_trees : List Value → Trees
list_trees [] = none
list_trees (v ∷ vs) = more (tree v) (list_trees vs)

-- a value that has a form, as an item of an array or not, to some depth
abbrev pub HasForm : Tree → Type 0
HasForm t = (item : Bool) × (d : ℕ) × FitsAs item d t

abbrev pub AllForm : List Value → Type 0
AllForm [] = Unit {0}
AllForm (v ∷ vs) = HasForm (tree v) × AllForm vs

abbrev pub text_field : ℕ → ℕ → Option (List ℕ) → List Field
text_field code letter None = []
text_field code letter (Some t) = (record { code = code; value = trees.Text letter t }) ∷ []

abbrev pub number_field : Option ℕ → List Field
number_field None = []
number_field (Some n) = (record { code = 5; value = trees.Number 117 n }) ∷ []

-- SIGNATURE, where the body is not empty
abbrev pub signature_field : List ℕ → List Field
signature_field [] = []
signature_field (c ∷ sig) = (record { code = 8; value = trees.Text 103 (c ∷ sig) }) ∷ []

-- the fields by rising code
abbrev pub fields_out : WireOut → List Field
fields_out out = text_field 1 111 out.fields.path ++ (text_field 2 115 out.fields.interface ++ (text_field 3 115 out.fields.member ++ (text_field 4 115 out.fields.error_name ++ (number_field out.fields.reply_serial ++ signature_field (types_of (list_trees out.body.items.items))))))

-- the message that is written under a serial
abbrev pub message_out : WireOut → ℕ → Message
message_out out serial = record { kind = out.kind; flags = out.flags; serial = serial; fields = fields_out out; body = list_trees out.body.items.items }
