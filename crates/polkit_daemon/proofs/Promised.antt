-- The promise of the command that the words name.
use Rattle.std.proofs.Common.{◌≡◌, ◌∙◌, ℕ, List, Option, None, Some, ap, sym, subst}
use Rattle.std.specs.Prelude.{option_map}
use Rattle.pk_outside.specs.Allowing.{IsFree, MayFronts}
use Rattle.pk_outside.proofs.Going.{may_go_free}
use Rattle.pk_outside.specs.Trees.{TreeTold}
use Rattle.polkit_daemon.specs.Commands.{Named, command_seen}
use Rattle.polkit_daemon.specs.declared.command.Command.{Command}
use Rattle.polkit_daemon.specs.Promises.{MayRun}

-- it is that of the command that was read
pub may_as : (Allowed : List ℕ → Type 0) (held : Option (List ℕ)) (told : Option TreeTold) (read : Option Command) (named : Option Named) (command : Command)
    → option_map command_seen read ≡ named → read ≡ Some command → MayRun Allowed held told named → MayRun Allowed held told (Some (command_seen command))
may_as Allowed held told read named command is_named is may = subst (MayRun Allowed held told) (sym is_named ∙ ap (option_map command_seen) is) may

-- each prefix of any text may be written where any text is allowed
fronts_free : (Allowed : List ℕ → Type 0) (held : Option (List ℕ)) (text : List ℕ) → IsFree Allowed → MayFronts Allowed held text
fronts_free Allowed held text free = λ front is. may_go_free Allowed held front free

-- and so any command may run
pub may_run_free : (Allowed : List ℕ → Type 0) (held : Option (List ℕ)) (told : Option TreeTold) (named : Option Named) → IsFree Allowed → MayRun Allowed held told named
may_run_free Allowed held told None free = tt
may_run_free Allowed held told (Some (Named.Replay root entries)) free = λ first is past legal licensed. fronts_free Allowed held _ free
may_run_free Allowed held told (Some (Named.Segments root path per)) free = λ first is past legal licensed. fronts_free Allowed held _ free
may_run_free Allowed held told (Some (Named.Audit root entries)) free = λ history legal licensed. fronts_free Allowed held _ free
may_run_free Allowed held told (Some (Named.Pipe uid root entries)) free = λ past legal licensed. fronts_free Allowed held _ free
may_run_free Allowed held told (Some (Named.Serve words)) free = λ plan is first is_first. record {
  opening = fronts_free Allowed held _ free;
  all = λ left printable. fronts_free Allowed held _ free;
}
may_run_free Allowed held told (Some (Named.Load checks)) free = fronts_free Allowed held _ free
