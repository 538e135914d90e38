-- The view at a seat, which has a list of slots beside it.
use Rattle.std.specs.Prelude.{ℕ, List}
use Rattle.atomic_table.specs.Table.{Me}
use Rattle.history_lock.specs.declared.view.View.{View}

-- what a seat knows
abbrev pub view_of : {S I : Type 0} → Me S (View I) → View I
view_of (view, slots) = view

-- the slots that it has
abbrev pub slots_of : {S I : Type 0} → Me S (View I) → List (ℕ × S)
slots_of (view, slots) = slots

-- what a seat has where its view is this one, and its slots stay
abbrev pub with_view : {S I : Type 0} → View I → Me S (View I) → Me S (View I)
with_view view (before, slots) = (view, slots)
