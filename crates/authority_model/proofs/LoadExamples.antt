-- Loads: who may ask for one, one that failed, and one that ends an agent. And the end of the daemon.
use Rattle.std.proofs.Common.{List, [], ◌∷◌, ◌++◌, refl}
use Rattle.std.specs.Prelude.{codes}
use Rattle.std.specs.Fmt.{digits}
use Rattle.pk_types.specs.declared.values.Category.{Category}
use Rattle.authority_model.specs.declared.event.Call.{Call}
use Rattle.authority_model.specs.declared.event.Event.{Event}
use Rattle.authority_model.specs.declared.message.ErrorCause.{ErrorCause}
use Rattle.authority_model.specs.declared.message.Message.{Message}
use Rattle.authority_model.specs.declared.message.Output.{Output}
use Rattle.authority_model.specs.declared.verdict.Reason.{Reason}
use Rattle.authority_model.specs.declared.load.Loaded.{Loaded}
use Rattle.authority_model.specs.Cookies.{hex}
use Rattle.authority_model.proofs.Setup.{Shown, peers_of, setup, event, call, load, register, return, check, ask, begin, alice, done, refused, yes, no, keep_challenge, changed_1_to_4}

-- a message to caller 0, which stands for the daemon
abbrev to_daemon : Message → List Output
to_daemon message = record { to = 0; message = message } ∷ []

-- uid 0 alone asks for a load
reload_is_for_root : Shown (peers_of setup
    ++ call 0 2 1 Call.Reload (done 2 1 ++ to_daemon Message.LoadWanted)
    ∷ call 0 1 1 Call.Reload (refused 1 1 ErrorCause.NotPrivileged)
    ∷ call 0 3 1 Call.Reload (refused 3 1 ErrorCause.NotPrivileged) ∷ [])
unfolding hex digits
reload_is_for_root = refl

-- a load that failed is answered nothing, and the load before it stays in force
failed_load_changes_nothing : Shown (peers_of setup
    ++ event 0 0 (Event.LoadFailed 2) []
    ∷ check 0 1 (codes "a.yes") (yes 1 1 (Reason.Default Category.Active)) ∷ [])
unfolding hex digits
failed_load_changes_nothing = refl

-- a Stop needs no connection
stop_needs_no_connection : Shown (event 0 77 Event.Stop (to_daemon Message.StopWanted) ∷ peers_of setup ++ event 0 0 Event.Stop (to_daemon Message.StopWanted) ∷ [])
unfolding hex digits
stop_needs_no_connection = refl

-- the setup without its session
abbrev without_sessions : Loaded
without_sessions = record setup { world = record setup.world { sessions = [] } }

-- A load without an agent's session ends the agent. Its pending check is answered, and the agent is told nothing. It does not come back with the session.
agent_gone_by_load : Shown (peers_of setup
    ++ register 0
    ∷ ask 0 1 (codes "a.self") (begin (codes "a.self") 1 alice)
    ∷ load 0 without_sessions (no 1 1 Reason.AgentGone ++ changed_1_to_4)
    ∷ return 0 2 []
    ∷ load 0 setup changed_1_to_4
    ∷ ask 0 2 (codes "a.self") (keep_challenge 1 2) ∷ [])
unfolding hex digits
agent_gone_by_load = refl
