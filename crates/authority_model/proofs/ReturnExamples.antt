-- The decision is taken again when the agent returns: what changed while the dialogue was up is obeyed.
use Rattle.std.proofs.Common.{List, [], ◌∷◌, ◌++◌, refl, Some}
use Rattle.std.specs.Prelude.{codes}
use Rattle.std.specs.Fmt.{digits}
use Rattle.pk_types.specs.declared.values.Implicit.{Implicit}
use Rattle.pk_types.specs.declared.values.Category.{Category}
use Rattle.pk_types.specs.declared.values.Identity.{Identity}
use Rattle.authority_model.specs.declared.event.Call.{Call}
use Rattle.authority_model.specs.declared.message.Output.{Output}
use Rattle.authority_model.specs.declared.verdict.Reason.{Reason}
use Rattle.authority_model.specs.declared.load.Loaded.{Loaded}
use Rattle.authority_model.specs.declared.policy.Action.{Action}
use Rattle.authority_model.specs.Words.{Bytes}
use Rattle.authority_model.specs.Cookies.{hex}
use Rattle.authority_model.proofs.Setup.{Line, Shown, peers_of, asked_at, call, setup, load_of, other_actions, other_processes, in_s1, a_self, action, register, ask, respond, return, load, cookie_1, cookie_2, begin, alice, done, yes, yes_granted, no, changed_1_to_4}

-- a.self is asked and answered, and before its agent returns these actions are loaded
abbrev reloaded : List Action → List Output → List Line
reloaded actions outputs = peers_of setup ++ asked_at 0 (codes "a.self") ++ load 0 (load_of actions [] (in_s1 ∷ other_processes)) changed_1_to_4 ∷ return 0 2 outputs ∷ []

-- it is forbidden now
forbidden_meanwhile : Shown (reloaded (action (codes "a.self") Implicit.No Implicit.No Implicit.No ∷ other_actions) (no 1 1 (Reason.Default Category.Active)))
unfolding hex digits
forbidden_meanwhile = refl

-- it is allowed now
allowed_meanwhile : Shown (reloaded (action (codes "a.self") Implicit.Yes Implicit.Yes Implicit.Yes ∷ other_actions) (yes 1 1 (Reason.Default Category.Active)))
unfolding hex digits
allowed_meanwhile = refl

-- it is gone
action_gone_meanwhile : Shown (reloaded other_actions (no 1 1 Reason.ActionGone))
unfolding hex digits
action_gone_meanwhile = refl

-- the setup with these administrators
abbrev administered : Bytes → Loaded
administered admin = load_of (a_self ∷ other_actions) (admin ∷ []) (in_s1 ∷ other_processes)

-- who answered is no administrator any more
identity_gone_meanwhile : Shown (peers_of (administered (codes "unix-group:wheel")) ++ asked_at 0 (codes "a.admin")
    ++ load 0 (administered (codes "unix-user:root")) changed_1_to_4
    ∷ return 0 2 (no 1 1 Reason.IdentityGone) ∷ [])
unfolding hex digits
identity_gone_meanwhile = refl

-- two administrators answer one after another, and the first answer stands: when only the second is one any more, the identity that answered is gone
first_answer_stands : Shown (peers_of (load_of (a_self ∷ other_actions) (codes "unix-user:alice" ∷ codes "unix-user:bob" ∷ []) (in_s1 ∷ other_processes))
    ++ register 0
    ∷ ask 0 1 (codes "a.admin") (begin (codes "a.admin") 1 (Identity.User 1000 ∷ Identity.User 1001 ∷ []))
    ∷ respond 0 1 cookie_1 (done 2 1)
    ∷ call 0 2 2 (Call.Respond cookie_1 (Identity.User 1001)) (done 2 2)
    ∷ load 0 (administered (codes "unix-user:bob")) changed_1_to_4
    ∷ return 0 2 (no 1 1 Reason.IdentityGone) ∷ [])
unfolding hex digits
first_answer_stands = refl

-- two challenges for one subject and action are answered: the first return makes a grant, and the second is yes by it
second_return_by_grant : Shown (peers_of setup
    ++ register 0
    ∷ ask 0 1 (codes "a.self") (begin (codes "a.self") 1 alice)
    ∷ ask 0 2 (codes "a.self") (begin (codes "a.self") 2 alice)
    ∷ respond 0 1 cookie_1 (done 2 1)
    ∷ respond 0 2 cookie_2 (done 2 2)
    ∷ return 0 2 (yes_granted 1 1 (Some 0) ++ changed_1_to_4)
    ∷ return 0 3 (yes 1 2 (Reason.Grant 0)) ∷ [])
unfolding hex digits
second_return_by_grant = refl
