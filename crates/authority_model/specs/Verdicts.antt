-- The verdicts: on a check that is not asked, and on the return of a challenge.
use Rattle.std.specs.Prelude.{ℕ, Bool, true, false, if◌then◌else◌, List, [], Option, None, slice_get}
use Rattle.std.specs.Option.{option_map_or}
use Rattle.pk_types.specs.declared.values.Pair.{Pair}
use Rattle.pk_types.specs.declared.values.Identity.{Identity}
use Rattle.pk_types.specs.declared.values.Implicit.{Implicit}
use Rattle.authority_model.specs.declared.key.Key.{Key}
use Rattle.authority_model.specs.declared.verdict.GrantRow.{GrantRow}
use Rattle.authority_model.specs.declared.verdict.Reason.{Reason}
use Rattle.authority_model.specs.declared.verdict.RuleSource.{RuleSource}
use Rattle.authority_model.specs.declared.verdict.Verdict.{Verdict}
use Rattle.authority_model.specs.declared.pending.Pending.{Pending}
use Rattle.authority_model.specs.Lists.{any_of, when}
use Rattle.authority_model.specs.Values.{same_identity, is_keep}
use Rattle.authority_model.specs.Keys.{uid_of_key}
use Rattle.authority_model.specs.Admins.{allowed}
use Rattle.authority_model.specs.Items.{Item, world_of, policy_of}
use Rattle.authority_model.specs.Deciding.{Decision, decision_of}

-- yes for this reason, with these pairs
abbrev pub yes_by : Reason → List Pair → Verdict
yes_by reason pairs = record { yes = true; challenge = false; reason = reason; keep = false; grant = None; pairs = pairs }

-- no for this reason
abbrev pub no_by : Reason → Verdict
no_by reason = record { yes = false; challenge = false; reason = reason; keep = false; grant = None; pairs = [] }

-- a challenge, which would make a grant where the last argument says so
abbrev pub challenge_by : Reason → Bool → Verdict
challenge_by reason keep = record { yes = false; challenge = true; reason = reason; keep = keep; grant = None; pairs = [] }

-- yes by a challenge that was answered, with the number of the grant that it made
abbrev pub granted_by : Option ℕ → Verdict
granted_by grant = record { yes = true; challenge = false; reason = Reason.Challenge; keep = false; grant = grant; pairs = [] }

-- what gave a value, as a reason
abbrev pub reason_of : RuleSource → Reason
reason_of (RuleSource.Default category) = Reason.Default category
reason_of (RuleSource.Entry place) = Reason.Entry place

-- the pairs of the rule that gave a value
abbrev pub pairs_of : List Item → RuleSource → List Pair
pairs_of past (RuleSource.Default category) = []
pairs_of past (RuleSource.Entry place) = option_map_or (λ e. e.pairs) (slice_get (policy_of past).entries place) []

-- the verdict of a decision, where nobody is asked
abbrev pub verdict_of : List Item → Decision → Verdict
verdict_of past Decision.Root = yes_by Reason.Root []
verdict_of past (Decision.Yes source) = yes_by (reason_of source) (pairs_of past source)
verdict_of past (Decision.Granted g) = yes_by (Reason.Grant g) []
verdict_of past (Decision.Imply b) = yes_by (Reason.Imply b) []
verdict_of past (Decision.Challenge value source) = challenge_by (reason_of source) (is_keep value)
verdict_of past (Decision.No source) = no_by (reason_of source)

-- whether an identity is among these
abbrev pub offers : List Identity → Identity → Bool
offers offered identity = any_of (same_identity identity) offered

-- whether an identity may answer a challenge of this value for this user
abbrev pub may_answer : List Item → Implicit → ℕ → Identity → Bool
may_answer past value uid identity = offers (allowed (world_of past) (policy_of past).admins value uid) identity

-- The verdict for a key that this identity answered for, by the decision that is taken now: a challenge is yes where the identity may answer it now, and with a keep value it makes the grant of this number; any other decision is told as it is.
abbrev pub redecided : List Item → ℕ → Key → Identity → Decision → Verdict
redecided past n key identity (Decision.Challenge value source) = if may_answer past value (uid_of_key key) identity then granted_by (when (is_keep value) n) else no_by Reason.IdentityGone
redecided past n key identity d = verdict_of past d

-- the verdict on the return of a challenge that this identity answered; the action may have gone
abbrev pub answered_verdict : List Item → List GrantRow → ℕ → ℕ → Pending → Identity → Verdict
answered_verdict past grants n t ch identity = option_map_or (redecided past n ch.key identity) (decision_of past grants t ch.key ch.action) (no_by Reason.ActionGone)

-- The verdict on the return of a challenge at a moment, with these grants; its grant is the one that is made, which has the number n.
abbrev pub return_verdict : List Item → List GrantRow → ℕ → ℕ → Pending → Verdict
return_verdict past grants n t ch = option_map_or (answered_verdict past grants n t ch) ch.answered (no_by Reason.Challenge)
