-- The setup of a generated run: root, eight users with a process each, and an action for each implicit value.
use Rattle.std.specs.Prelude.{ℕ, ◌+◌, zero, suc, List, [], ◌∷◌, ◌++◌, None, codes, decimal, unwrap_or}
use Rattle.pk_types.specs.declared.values.Implicit.{Implicit}
use Rattle.pk_types.specs.Values.{implicit_of_code}
use Rattle.authority_model.specs.declared.load.Loaded.{Loaded}
use Rattle.authority_model.specs.declared.policy.Action.{Action}
use Rattle.authority_model.specs.declared.policy.Policy.{Policy}
use Rattle.authority_model.specs.declared.world.Process.{Process}
use Rattle.authority_model.specs.declared.world.User.{User}
use Rattle.authority_model.specs.declared.world.World.{World}
use Rattle.authority_model.specs.Rules.{plain_action}
use Rattle.authority_model.specs.Words.{Bytes}
use Rattle.authority_model.specs.Worlds.{user_label}

-- what the numbers below a bound give, in their order
unfoldable pub each_below : {A : Type 0} → (ℕ → A) → ℕ → List A
each_below f zero = []
each_below f (suc n) = each_below f n ++ f n ∷ []

-- a user of this name, in these groups
abbrev pub user_named : ℕ → Bytes → List ℕ → User
user_named uid name gids = record { uid = uid; name = name; label = user_label name; gids = gids }

-- the user root, in the group 0
abbrev pub root : User
root = user_named 0 (codes "root") (0 ∷ [])

-- the i-th user, whose name is `u` and i
abbrev pub user : ℕ → User
user i = user_named (1000 + i) (codes "u" ++ decimal i) []

-- its process
abbrev pub process : ℕ → Process
process i = record { pid = 100 + i; start = 1; uid = 1000 + i; session = None }

-- the id of the i-th action: `l.` and i
abbrev pub action_id : ℕ → Bytes
action_id i = codes "l." ++ decimal i

-- the i-th action, whose value has the code i
abbrev pub action : ℕ → Action
action i = let value = unwrap_or (implicit_of_code i) Implicit.No in plain_action (action_id i) value value value

-- the policy: six actions, and no rule
abbrev pub policy : Policy
policy = record { actions = each_below action 6; entries = []; admins = [] }

-- the world: root and eight users, and a process of each of the eight
abbrev pub world : World
world = record { users = root ∷ each_below user 8; groups = []; sessions = []; processes = each_below process 8 }

-- the setup
abbrev pub setup : Loaded
setup = record { policy = policy; world = world; faults = [] }
