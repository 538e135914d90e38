-- What is built: which value, and that it has a form ("Marshaling (Wire Format)").
use Rattle.std.specs.Prelude.{◌≡◌, ℕ, ◌≤◌, Bool, true, List, [], ◌∷◌, ◌++◌, max}
use Rattle.dbus_values.specs.declared.value.Value.{Value}
use Rattle.dbus_values.specs.declared.value.ValueList.{ValueList}
use Rattle.dbus_values.specs.Values.{values_of}
use Rattle.dbus_values.specs.Trees.{Tree, type_of, FitsAs, AllFit, Each}
use Rattle.dbus_values.specs.Written.{tree, list_trees}
use Rattle.authority_model.specs.Words.{Bytes}
use Rattle.authority_messages.specs.Values.{row}

-- The value is this tree, inside which containers stand at most so deep; a dict entry is the item of an array.
pub record Builds (item : Bool) (deep : ℕ) (v : Value) (t : Tree) : Type 0 where
  pub is : tree v ≡ t
  pub fits : (d : ℕ) → deep ≤ d → FitsAs item d t

-- the values of a list are these
pub record Rows (deep : ℕ) (list : ValueList) (ts : List Tree) : Type 0 where
  pub are : list_trees (values_of list) ≡ row ts
  pub fit : (d : ℕ) → deep ≤ d → AllFit d (row ts)

-- the values of a list are these, each an item of an array of this signature
pub record Items (deep : ℕ) (of : Bytes) (list : ValueList) (ts : List Tree) : Type 0 where
  pub are : list_trees (values_of list) ≡ row ts
  pub fit : (d : ℕ) → deep ≤ d → Each (λ t. (type_of t ≡ of) × FitsAs true d t) (row ts)

-- a value was put at the end
abbrev pub Adds : ValueList → ValueList → ℕ → Tree → Type 0
Adds old new deep t = (ts : List Tree) (k : ℕ) → Rows k old ts → Rows (max k deep) new (ts ++ t ∷ [])
