-- What a command may write to its output, whether or not it ends.
use Rattle.std.specs.Prelude.{◌≡◌, ⊤, ℕ, List, Option, None, Some}
use Rattle.pk_outside.specs.Allowing.{MayFronts}
use Rattle.pk_outside.specs.Trees.{TreeTold}
use Rattle.authority_service.specs.Promises.{MayPrint}
use Rattle.pipe_run.specs.Promises.{MayPipe}
use Rattle.replay_run.specs.Promises.{MayAudit, MayReplay}
use Rattle.serve_words.specs.declared.plan.ServePlan.{ServePlan}
use Rattle.serve_words.specs.Plans.{plan_in}
use Rattle.polkit_daemon.specs.Commands.{Named}
use Rattle.polkit_daemon.specs.Generate.{generated_line}

-- The service of the plan that these words name may print what it tells.
abbrev pub MayPrintNamed : (List ℕ → Type 0) → Option (List ℕ) → Option TreeTold → List (List ℕ) → Type 0
MayPrintNamed Allowed held told words = (plan : ServePlan) → plan_in words ≡ Some plan → MayPrint Allowed held plan told

-- Each prefix of the text that a command writes may be written: of a replay's answers, of an audit text, of the messages to the connection of a pipe, of the line of a generated run, or of what a service prints.
abbrev pub MayRun : (List ℕ → Type 0) → Option (List ℕ) → Option TreeTold → Option Named → Type 0
MayRun Allowed held told (Some (Named.Replay root entries)) = MayReplay Allowed held told root
MayRun Allowed held told (Some (Named.Segments root path per)) = MayReplay Allowed held told root
MayRun Allowed held told (Some (Named.Audit root entries)) = MayAudit Allowed held
MayRun Allowed held told (Some (Named.Pipe uid root entries)) = MayPipe Allowed held
MayRun Allowed held told (Some (Named.Serve words)) = MayPrintNamed Allowed held told words
MayRun Allowed held told (Some (Named.Load checks)) = MayFronts Allowed held (generated_line checks)
MayRun Allowed held told None = ⊤
