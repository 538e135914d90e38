-- The decision: what a check is told, or whether a challenge is due.
use Rattle.std.specs.Prelude.{ℕ, ◌==◌, Bool, false, ◌&&◌, ◌||◌, if◌then◌else◌, List, Option, Some, None, is_some, option_map, option_and_then, unwrap_or, position, bytes_eq, find, filter, map, codes, nat_lt}
use Rattle.std.specs.Option.{option_map_or}
use Rattle.pk_types.specs.declared.values.Subject.{Subject}
use Rattle.pk_types.specs.declared.values.Implicit.{Implicit}
use Rattle.authority_model.specs.declared.key.Key.{Key}
use Rattle.authority_model.specs.declared.policy.Policy.{Policy}
use Rattle.authority_model.specs.declared.verdict.RuleSource.{RuleSource}
use Rattle.authority_model.specs.declared.verdict.GrantRow.{GrantRow}
use Rattle.authority_model.specs.declared.verdict.Decision.{Decision as Told}
use Rattle.authority_model.specs.Words.{Bytes, least_text}
use Rattle.authority_model.specs.Values.{is_auth, is_yes}
use Rattle.authority_model.specs.Keys.{same_key}
use Rattle.authority_model.specs.Facts.{Facts, facts_of_key}
use Rattle.authority_model.specs.Rules.{action_of, annotates}
use Rattle.authority_model.specs.Items.{Item, policy_of, world_of, implicit_for}
use Rattle.authority_model.specs.Subjects.{facts}

-- A decision, in which an action that implies another is named by its id.
pub data Decision : Type 0 where
  Root : Decision
  Yes : RuleSource → Decision
  Granted : ℕ → Decision
  Imply : Bytes → Decision
  Challenge : Implicit → RuleSource → Decision
  No : RuleSource → Decision

-- whether a grant that nothing ended has not expired at a moment
abbrev pub is_live_at : ℕ → GrantRow → Bool
is_live_at t g = nat_lt t g.expires

-- whether a grant is for a key and an action, and has not expired at a moment
abbrev pub serves : Key → Bytes → ℕ → GrantRow → Bool
serves key action t g = same_key g.key key && bytes_eq g.action action && is_live_at t g

-- Below, the grants that the decision looks at stand before the facts: those that nothing ended, by rising number.

-- whether an action is allowed by its own value or by a grant of its own
abbrev pub own : List Item → List GrantRow → Facts → ℕ → Bytes → Bool
own past grants f t b = option_map_or (λ (value, source). is_yes value) (implicit_for past f b) false || is_some (find (serves f.key b t) grants)

-- the annotation by which an action implies others
abbrev pub imply_key : Bytes
imply_key = codes "org.freedesktop.policykit.imply"

-- whether the action of one id lists another in its imply annotation
abbrev pub implies : List Item → Bytes → Bytes → Bool
implies past b a = option_map_or (λ x. annotates x imply_key a) (action_of (policy_of past) b) false

-- the actions that imply another and are allowed by themselves
abbrev pub implying : List Item → List GrantRow → Facts → ℕ → Bytes → List Bytes
implying past grants f t a = filter (λ b. implies past b a && own past grants f t b) (map (λ x. x.id) (policy_of past).actions)

-- the decision by a value alone that is not yes
abbrev pub by_value : Implicit → RuleSource → Decision
by_value value source = if is_auth value then Decision.Challenge value source else Decision.No source

-- yes by an action that implies this one, or else by the value
abbrev pub by_imply : Option Bytes → Implicit → RuleSource → Decision
by_imply (Some b) value source = Decision.Imply b
by_imply None value source = by_value value source

-- yes by a grant, or else by an action that implies this one, or else by the value
abbrev pub by_grant : Option GrantRow → Option Bytes → Implicit → RuleSource → Decision
by_grant (Some g) b value source = Decision.Granted g.id
by_grant None b value source = by_imply b value source

-- The decision on a subject of these facts, where the action has this value: uid 0, a yes of the value, the least live grant, the least action that implies this one, and then the value, in this order.
abbrev pub decided : List Item → List GrantRow → Facts → ℕ → Bytes → Implicit × RuleSource → Decision
decided past grants f t a v =
    let (value, source) = v in
    if f.uid == 0 then Decision.Root
    else (if is_yes value then Decision.Yes source
    else by_grant (find (serves f.key a t) grants) (least_text (implying past grants f t a)) value source)

-- the decision on a subject of these facts; there is none for an unknown action
abbrev pub decision_for : List Item → List GrantRow → Facts → ℕ → Bytes → Option Decision
decision_for past grants f t a = option_map (decided past grants f t a) (implicit_for past f a)

-- the decision on a subject at a moment; there is none for an unknown action or subject
abbrev pub decision : List Item → List GrantRow → ℕ → Subject → Bytes → Option Decision
decision past grants t subject a = option_and_then (λ f. decision_for past grants f t a) (facts past subject)

-- the decision for a key at a moment
abbrev pub decision_of : List Item → List GrantRow → ℕ → Key → Bytes → Option Decision
decision_of past grants t key a = option_and_then (λ f. decision_for past grants f t a) (facts_of_key (world_of past) key)

-- the place of the action of an id
abbrev pub place_of : Policy → Bytes → ℕ
place_of policy id = unwrap_or (position (λ a. bytes_eq a.id id) policy.actions) 0

-- a decision as `Authority::decide` tells it: an action that implies another is named by its place
abbrev pub told_decision : Policy → Decision → Told
told_decision policy Decision.Root = Told.Root
told_decision policy (Decision.Yes source) = Told.Yes source
told_decision policy (Decision.Granted g) = Told.Grant g
told_decision policy (Decision.Imply b) = Told.Imply (place_of policy b)
told_decision policy (Decision.Challenge value source) = Told.Challenge value source
told_decision policy (Decision.No source) = Told.No source
