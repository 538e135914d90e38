-- What came back, in order.
use Rattle.std.specs.Prelude.{List, [], ◌++◌, Option, None, Some, Box}
use Rattle.std.specs.Option.{option_to_list}
use Rattle.std.specs.declared.alloc.Global.{Global}
use Rattle.memory_outside.specs.declared.seats.Node.{Node, Node', Held-Node-before, None', Some'}

-- The items up to a place of the chain, the first one first.
abbrev mutual
  pub node_items : {T : Type 0} → Node T → List T
  node_items (Node' item before) = items_before before ++ option_to_list item

  pub items_before : {T : Type 0} → Held-Node-before T → List T
  items_before None' = []
  items_before (Some' p node) = node_items node

-- All items of a chain.
abbrev pub chain_items : {T : Type 0} → Option (Box (Node T) Global) → List T
chain_items None = []
chain_items (Some node) = node_items node.value
