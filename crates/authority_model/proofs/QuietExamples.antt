-- Calls that get no reply: quiet calls, and calls with the serial 0. All else is the same.
use Rattle.std.proofs.Common.{true, List, [], ◌∷◌, ◌++◌, refl}
use Rattle.std.specs.Prelude.{codes}
use Rattle.std.specs.Fmt.{digits}
use Rattle.pk_types.specs.declared.values.Subject.{Subject}
use Rattle.authority_model.specs.declared.event.Call.{Call}
use Rattle.authority_model.specs.declared.event.Event.{Event}
use Rattle.authority_model.specs.declared.message.Message.{Message}
use Rattle.authority_model.specs.declared.message.Output.{Output}
use Rattle.authority_model.specs.declared.verdict.Reason.{Reason}
use Rattle.authority_model.specs.Words.{Bytes}
use Rattle.authority_model.specs.Cookies.{hex}
use Rattle.authority_model.proofs.Setup.{Line, Shown, peers_of, setup, event, call, register, respond, return, check, cookie_1, begin, end, alice, done, yes, changed_1_to_4}

-- a quiet check of alice's process that may be asked, with a cancellation id
abbrev quiet_ask : Bytes → Line
quiet_ask cancel = event 50 1 (Event.Call 9 true (Call.Check (Subject.Process 50 7) (codes "a.self") [] 1 cancel)) (begin (codes "a.self") 1 alice)

-- a quiet check asks the agent and makes a grant, as any check does
quiet_check_makes_grant : Shown (peers_of setup
    ++ register 50
    ∷ quiet_ask []
    ∷ respond 50 1 cookie_1 (done 2 1)
    ∷ return 50 2 changed_1_to_4
    ∷ check 50 3 (codes "a.self") (yes 1 3 (Reason.Grant 0)) ∷ [])
unfolding hex digits
quiet_check_makes_grant = refl

-- a quiet check is cancelled without a reply to it: its agent and the canceller are told
quiet_check_is_cancelled : Shown (peers_of setup
    ++ register 50
    ∷ quiet_ask (codes "x")
    ∷ call 50 1 3 (Call.Cancel (codes "x")) (end 1 ++ done 1 3)
    ∷ return 50 2 [] ∷ [])
unfolding hex digits
quiet_check_is_cancelled = refl

-- a check with the serial 0 gets no reply, and makes a grant all the same
serial_0_gets_no_reply : Shown (peers_of setup
    ++ call 50 1 0 (Call.Check (Subject.Process 50 7) (codes "a.yes") [] 1 []) []
    ∷ register 50
    ∷ call 50 1 0 (Call.Check (Subject.Process 50 7) (codes "a.self") [] 1 []) (begin (codes "a.self") 1 alice)
    ∷ respond 50 1 cookie_1 (done 2 1)
    ∷ return 50 2 changed_1_to_4
    ∷ check 50 3 (codes "a.self") (yes 1 3 (Reason.Grant 0)) ∷ [])
unfolding hex digits
serial_0_gets_no_reply = refl

-- caller 0 is asked to load
abbrev load_wanted : List Output
load_wanted = record { to = 0; message = Message.LoadWanted } ∷ []

-- a quiet Reload asks for a load, and so does one with the serial 0
quiet_reload : Shown (peers_of setup ++ event 0 2 (Event.Call 5 true Call.Reload) load_wanted ∷ call 0 2 0 Call.Reload load_wanted ∷ [])
unfolding hex digits
quiet_reload = refl
