-- Challenges: how they are asked, cancelled, dismissed and ended.
use Rattle.std.proofs.Common.{ℕ, suc, zero, ◌+◌, List, [], ◌∷◌, ◌++◌, refl, None}
use Rattle.std.specs.Prelude.{codes}
use Rattle.std.specs.Fmt.{digits}
use Rattle.pk_types.specs.declared.values.Subject.{Subject}
use Rattle.pk_types.specs.declared.values.Implicit.{Implicit}
use Rattle.pk_types.specs.declared.values.Category.{Category}
use Rattle.pk_types.specs.declared.values.Identity.{Identity}
use Rattle.authority_model.specs.declared.event.Call.{Call}
use Rattle.authority_model.specs.declared.event.Event.{Event}
use Rattle.authority_model.specs.declared.message.ErrorCause.{ErrorCause}
use Rattle.authority_model.specs.declared.verdict.Reason.{Reason}
use Rattle.authority_model.specs.declared.load.Loaded.{Loaded}
use Rattle.authority_model.specs.declared.world.Process.{Process}
use Rattle.authority_model.specs.Cookies.{hex}
use Rattle.authority_model.proofs.Setup.{Line, Shown, peers_of, setup, load_of, bare, other_actions, other_processes, in_s1, a_self, action, process, event, call, load, register, respond, return, check, ask, ask_as, cookie_1, cookie_2, begin, end, alice, done, refused, challenge, yes_granted, no, keep_challenge, changed_1_to_4}

-- without an agent, and without the flag, a challenge is answered as one
challenge_without_agent : Shown (peers_of setup ++ check 0 1 (codes "a.self") (keep_challenge 1 1) ∷ ask 0 2 (codes "a.self") (keep_challenge 1 2) ∷ [])
unfolding hex digits
challenge_without_agent = refl

-- A cancelled check is answered at once, and its agent and the canceller are told. The agent's late return does nothing.
late_return_after_cancel : Shown (peers_of setup
    ++ register 0
    ∷ ask_as 0 1 1 (codes "a.self") (codes "x") (begin (codes "a.self") 1 alice)
    ∷ respond 0 1 cookie_1 (done 2 1)
    ∷ call 0 1 2 (Call.Cancel (codes "x")) (refused 1 1 ErrorCause.Cancelled ++ end 1 ++ done 1 2)
    ∷ return 0 2 [] ∷ [])
unfolding hex digits
late_return_after_cancel = refl

-- a cancellation id is in use while its check is pending, and free when that was dismissed
cancellation_id_in_use : Shown (peers_of setup
    ++ register 0
    ∷ ask_as 0 1 1 (codes "a.self") (codes "x") (begin (codes "a.self") 1 alice)
    ∷ ask_as 0 1 2 (codes "a.self") (codes "x") (refused 1 2 ErrorCause.IdInUse)
    ∷ event 0 4 (Event.AgentError 2 (codes "org.freedesktop.PolicyKit1.Error.Cancelled")) (no 1 1 Reason.Dismissed)
    ∷ ask_as 0 1 3 (codes "a.self") (codes "x") (begin (codes "a.self") 2 alice) ∷ [])
unfolding hex digits
cancellation_id_in_use = refl

-- two connections ask the agent of caller 4
abbrev both_ask : List Line
both_ask = peers_of setup ++ register 0 ∷ ask 0 1 (codes "a.self") (begin (codes "a.self") 1 alice) ∷ ask_as 0 2 1 (codes "a.self") [] (begin (codes "a.self") 2 alice) ∷ []

-- the asker departs, and then the agent
asker_and_agent_depart : Shown (both_ask ++ event 0 1 Event.Depart (end 1) ∷ event 0 4 Event.Depart (no 2 1 Reason.AgentGone) ∷ [])
unfolding hex digits
asker_and_agent_depart = refl

-- the agent departs, and both checks are answered in the order of opening
agent_departs : Shown (both_ask ++ event 0 4 Event.Depart (no 1 1 Reason.AgentGone ++ no 2 1 Reason.AgentGone) ∷ [])
unfolding hex digits
agent_departs = refl

-- so many checks, from this serial on, each of which asks the agent
abbrev asks_from : ℕ → ℕ → List Line
asks_from serial zero = []
asks_from serial (suc n) = ask 0 serial (codes "a.self") (begin (codes "a.self") serial alice) ∷ asks_from (serial + 1) n

-- a user's connections have at most 64 pending checks
at_most_64_pending : Shown (peers_of setup ++ register 0 ∷ (asks_from 1 64 ++ ask 0 65 (codes "a.self") (refused 1 65 ErrorCause.TooManyPending) ∷ []))
unfolding hex digits
at_most_64_pending = refl

-- Only uid 0 responds, with the cookie of a pending challenge and an identity that was offered. A return without a response is no.
responses_in_order : Shown (peers_of setup
    ++ register 0
    ∷ ask 0 1 (codes "a.self") (begin (codes "a.self") 1 alice)
    ∷ call 0 1 2 (Call.Respond cookie_1 (Identity.User 1000)) (refused 1 2 ErrorCause.NotPrivileged)
    ∷ call 0 2 1 (Call.Respond cookie_2 (Identity.User 1000)) (refused 2 1 ErrorCause.NoSuchCookie)
    ∷ call 0 2 2 (Call.Respond cookie_1 (Identity.User 0)) (refused 2 2 ErrorCause.NotOffered)
    ∷ return 0 2 (no 1 1 Reason.Challenge) ∷ [])
unfolding hex digits
responses_in_order = refl

-- the administrators of a load are asked
administrators_are_offered : Shown (peers_of (load_of (a_self ∷ other_actions) (codes "unix-group:wheel" ∷ []) (in_s1 ∷ other_processes))
    ++ register 0 ∷ ask 0 1 (codes "a.admin") (begin (codes "a.admin") 1 alice) ∷ [])
unfolding hex digits
administrators_are_offered = refl

-- An action that everyone may do as themselves, and these processes.
abbrev plain : List Process → Loaded
plain processes = bare (action (codes "q.self") Implicit.AuthSelf Implicit.AuthSelf Implicit.AuthSelf ∷ []) processes

abbrev plain_processes : List Process
plain_processes = process 1 1 0 None ∷ process 50 7 1000 None ∷ process 60 9 1001 None ∷ []

-- caller 4 registers an agent for a process
abbrev register_process : Line
register_process = call 0 4 1 (Call.Register (Subject.Process 50 7) [] (codes "/agent")) (done 4 1)

-- a challenge that was answered is yes when its agent returns
answered_challenge_is_yes : Shown (peers_of (plain plain_processes)
    ++ register_process
    ∷ ask 0 1 (codes "q.self") (begin (codes "q.self") 1 alice)
    ∷ respond 0 1 cookie_1 (done 2 1)
    ∷ return 0 2 (yes_granted 1 1 None) ∷ [])
unfolding hex digits
answered_challenge_is_yes = refl

-- a load without the subject ends its challenge
subject_gone_by_load : Shown (peers_of (plain plain_processes)
    ++ register_process
    ∷ ask 0 1 (codes "q.self") (begin (codes "q.self") 1 alice)
    ∷ load 0 (plain (process 1 1 0 None ∷ process 60 9 1001 None ∷ [])) (no 1 1 Reason.SubjectGone ++ end 1 ++ changed_1_to_4) ∷ [])
unfolding hex digits
subject_gone_by_load = refl

-- one agent for a subject, which only its caller unregisters, by its path
one_agent_for_a_subject : Shown (peers_of (plain plain_processes)
    ++ register_process
    ∷ call 0 1 1 (Call.Register (Subject.Process 50 7) [] (codes "/b")) (refused 1 1 ErrorCause.AgentExists)
    ∷ call 0 1 2 (Call.Unregister (Subject.Process 50 7) (codes "/b")) (refused 1 2 ErrorCause.NoSuchAgent)
    ∷ call 0 4 2 (Call.Unregister (Subject.Process 50 7) (codes "/agent")) (done 4 2)
    ∷ ask 0 3 (codes "q.self") (challenge 1 3 Category.Any) ∷ [])
unfolding hex digits
one_agent_for_a_subject = refl
