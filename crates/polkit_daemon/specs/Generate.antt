-- What a generated run writes.
use Rattle.std.specs.Prelude.{◌≡◌, ℕ, List, Option}
use Rattle.pk_outside.specs.Streams.{Got, GotFront}
use Rattle.authority_model.specs.Legal.{Legal}
use Rattle.authority_model.specs.Licensed.{AllLicensed}
use Rattle.generated_run.specs.Run.{generated}
use Rattle.generated_run.specs.Stops.{IsFullIn}
use Rattle.generated_run.specs.Summaries.{line_of, summary_of}
use Rattle.polkit_daemon.specs.declared.status.Status.{Status}
use Rattle.polkit_daemon.specs.declared.status.Status.TheVariants as status

-- the line of the generated run of so many checks
abbrev pub generated_line : ℕ → List ℕ
generated_line checks = line_of (summary_of (generated checks))

-- What was written of the line of a generated run, by its status; where it is done the run is a legal history, in which each yes is licensed.
abbrev pub Generates : ℕ → Option (List ℕ) → Option (List ℕ) → Status → Type 0
Generates checks before held status.Done = Got before held (generated_line checks) × Legal (generated checks) × AllLicensed (generated checks)
Generates checks before held (status.JournalFull entries bytes) = (held ≡ before) × IsFullIn (generated checks) entries bytes
Generates checks before held status.WriteFault = GotFront before held (generated_line checks)
Generates checks before held status.NoMemory = GotFront before held (generated_line checks)
Generates checks before held other = ⊥
