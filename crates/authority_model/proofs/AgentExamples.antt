-- Agents: what one is told when it is asked, and what becomes of a check whose agent goes or replies with an error.
use Rattle.std.proofs.Common.{List, [], ◌∷◌, ◌++◌, refl}
use Rattle.std.specs.Prelude.{codes}
use Rattle.std.specs.Fmt.{digits}
use Rattle.pk_types.specs.declared.values.Subject.{Subject}
use Rattle.pk_types.specs.declared.values.Pair.{Pair}
use Rattle.authority_model.specs.declared.event.Call.{Call}
use Rattle.authority_model.specs.declared.event.Event.{Event}
use Rattle.authority_model.specs.declared.message.Message.{Message}
use Rattle.authority_model.specs.declared.verdict.Reason.{Reason}
use Rattle.authority_model.specs.declared.policy.Localized.{Localized}
use Rattle.authority_model.specs.Cookies.{hex}
use Rattle.authority_model.proofs.Setup.{Shown, peers_of, setup, load_of, a_self, in_s1, other_actions, other_processes, event, call, register, respond, return, ask, cookie_1, begin, alice, done, no, keep_challenge}

-- an agent that is unregistered has its pending check answered before it is told that it is done, and its late return does nothing
unregister_with_pending_check : Shown (peers_of setup
    ++ register 0
    ∷ ask 0 1 (codes "a.self") (begin (codes "a.self") 1 alice)
    ∷ call 0 4 2 (Call.Unregister (Subject.Session (codes "s1")) (codes "/agent")) (no 1 1 Reason.AgentGone ++ done 4 2)
    ∷ return 0 2 []
    ∷ ask 0 2 (codes "a.self") (keep_challenge 1 2) ∷ [])
unfolding hex digits
unregister_with_pending_check = refl

-- an asker that is its own agent departs, and nobody is told
own_agent_departs : Shown (peers_of setup
    ++ call 0 1 1 (Call.Register (Subject.Process 50 7) [] (codes "/own")) (done 1 1)
    ∷ ask 0 2 (codes "a.self") (record { to = 1; message = Message.Begin (codes "/own") (codes "a.self") [] [] [] (record { serial = 1; salt = 0 }) alice } ∷ [])
    ∷ event 0 1 Event.Depart [] ∷ [])
unfolding hex digits
own_agent_departs = refl

-- an agent's error is no, although somebody authenticated, and makes no grant
error_after_answer : Shown (peers_of setup
    ++ register 0
    ∷ ask 0 1 (codes "a.self") (begin (codes "a.self") 1 alice)
    ∷ respond 0 1 cookie_1 (done 2 1)
    ∷ event 0 4 (Event.AgentError 2 (codes "org.freedesktop.DBus.Error.Failed")) (no 1 1 Reason.Challenge)
    ∷ ask 0 2 (codes "a.self") (begin (codes "a.self") 2 alice) ∷ [])
unfolding hex digits
error_after_answer = refl

-- the error by which an agent says that its dialogue was dismissed is told as such, also after an answer
dismissed_after_answer : Shown (peers_of setup
    ++ register 0
    ∷ ask 0 1 (codes "a.self") (begin (codes "a.self") 1 alice)
    ∷ respond 0 1 cookie_1 (done 2 1)
    ∷ event 0 4 (Event.AgentError 2 (codes "org.freedesktop.PolicyKit1.Error.Cancelled")) (no 1 1 Reason.Dismissed) ∷ [])
unfolding hex digits
dismissed_after_answer = refl

-- messages in two languages
abbrev messages : List Localized
messages = record { lang = []; text = codes "Authentication is needed" } ∷ record { lang = codes "de"; text = codes "Anmeldung erforderlich" } ∷ []

-- a pair of details
abbrev details : List Pair
details = record { key = codes "k"; value = codes "v" } ∷ []

-- A Begin has the action's message in the agent's language, the action's icon and the details of the check, which uid 0 hands in. Of the flags bit 0 alone counts.
begin_has_message_icon_and_details : Shown (peers_of (load_of (record a_self { messages = messages; icon = codes "lock" } ∷ other_actions) [] (in_s1 ∷ other_processes))
    ++ call 0 4 1 (Call.Register (Subject.Session (codes "s1")) (codes "de_AT.UTF-8") (codes "/agent")) (done 4 1)
    ∷ call 0 2 1 (Call.Check (Subject.Process 50 7) (codes "a.self") details 3 []) (record { to = 4; message = Message.Begin (codes "/agent") (codes "a.self") (codes "Anmeldung erforderlich") (codes "lock") details (record { serial = 1; salt = 0 }) alice } ∷ []) ∷ [])
unfolding hex digits
begin_has_message_icon_and_details = refl
