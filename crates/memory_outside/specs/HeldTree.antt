-- What the trees in memory hold.
use Rattle.memory_outside.specs.Memory.{Counted}
use Rattle.pk_outside.specs.Trees.{TreeTold}
use Rattle.memory_outside.specs.declared.tree.ListTree.{ListTree}
use Rattle.memory_outside.specs.declared.tree.SureTree.{SureTree}

-- The files and directories of a tree.
abbrev pub list_told : ListTree → TreeTold
list_told tree = record { files = tree.files; directories = tree.directories }

-- The calls of a tree.
abbrev pub list_calls : ListTree → Counted
list_calls tree = tree.calls

-- The files and directories of a tree that never fails.
abbrev pub sure_told : SureTree → TreeTold
sure_told tree = record { files = tree.files; directories = tree.directories }
