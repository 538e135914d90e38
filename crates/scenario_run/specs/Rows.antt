-- The lists of the draft, in which a line takes the place of the row with its key.
use Rattle.std.specs.Prelude.{ℕ, Bool, ◌&&◌, ◌==◌, nat_le, List, [], ◌∷◌, ◌++◌, Option, None, Some, Result, Ok, Err, is_none, length, position, remove, slice_set, if◌then◌else◌}
use Rattle.std.specs.Str.{bytes_eq}
use Rattle.pk_types.specs.declared.values.Pair.{Pair}
use Rattle.scenario_text.specs.declared.fault.LineKind.{LineKind}
use Rattle.scenario_text.specs.declared.fault.LineKind.TheVariants as kind
use Rattle.authority_model.specs.declared.policy.Action.{Action}
use Rattle.authority_model.specs.declared.world.Group.{Group}
use Rattle.authority_model.specs.declared.world.Process.{Process}
use Rattle.authority_model.specs.declared.world.Session.{Session}
use Rattle.authority_model.specs.declared.world.User.{User}
use Rattle.scenario_run.specs.declared.rows.TheConstants.{MAX_ROWS}

-- the place of the first row with the key of this one
abbrev pub place_of : {A : Type 0} → (A → A → Bool) → List A → A → Option ℕ
place_of same rows row = position (λ x. same x row) rows

-- the row at a place, or last
abbrev pub put_at : {A : Type 0} → List A → A → Option ℕ → List A
put_at rows row (Some place) = slice_set rows place row
put_at rows row None = rows ++ row ∷ []

-- the row in the place of the first with its key, or last
abbrev pub put_by : {A : Type 0} → (A → A → Bool) → List A → A → List A
put_by same rows row = put_at rows row (place_of same rows row)

-- the row's key is new, and the list has as many rows as it may have
abbrev pub is_full_for : {A : Type 0} → (A → A → Bool) → List A → A → Bool
is_full_for same rows row = is_none (place_of same rows row) && nat_le MAX_ROWS (length rows)

-- the rows with this one put in, unless the list is full for it
abbrev pub put_in : {A : Type 0} → (A → A → Bool) → List A → A → Result (List A) LineKind
put_in same rows row = if is_full_for same rows row then Err kind.Value else Ok (put_by same rows row)

-- the rows with this one last, unless the list is full
abbrev pub put_last : {A : Type 0} → List A → A → Result (List A) LineKind
put_last rows row = if nat_le MAX_ROWS (length rows) then Err kind.Value else Ok (rows ++ row ∷ [])

-- the rows without the one at a place
abbrev pub without_at : {A : Type 0} → List A → Option ℕ → List A
without_at rows (Some place) = remove rows place
without_at rows None = rows

-- the rows without the first that passes the test
abbrev pub without_first : {A : Type 0} → (A → Bool) → List A → List A
without_first test rows = without_at rows (position test rows)

-- the key of an action is its id
abbrev pub same_action : Action → Action → Bool
same_action a b = bytes_eq a.id b.id

-- the key of an annotation is its own
abbrev pub same_pair : Pair → Pair → Bool
same_pair a b = bytes_eq a.key b.key

-- the key of a user is the uid
abbrev pub same_user : User → User → Bool
same_user a b = a.uid == b.uid

-- the key of a group is its gid
abbrev pub same_group : Group → Group → Bool
same_group a b = a.gid == b.gid

-- the key of a session is its id
abbrev pub same_session : Session → Session → Bool
same_session a b = bytes_eq a.id b.id

-- the key of a process is its pid
abbrev pub same_process : Process → Process → Bool
same_process a b = a.pid == b.pid
