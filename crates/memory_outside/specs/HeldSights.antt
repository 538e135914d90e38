-- What the looks at processes in memory hold.
use Rattle.std.specs.Prelude.{ℕ, List, drop}
use Rattle.memory_outside.specs.Looks.{looks_in}
use Rattle.pk_outside.specs.Sightings.{Look}
use Rattle.pk_outside.specs.declared.sights.Sighted.{Sighted}
use Rattle.memory_outside.specs.declared.sights.ListSights.{ListSights}

-- The sightings that will be given.
abbrev pub sights_left : ListSights → List Sighted
sights_left sights = drop sights.at sights.sightings

-- The looks that were taken.
abbrev pub sights_gave : ListSights → List Look
sights_gave sights = looks_in sights.looks

-- How many looks failed.
abbrev pub sights_faults : ListSights → ℕ
sights_faults sights = sights.faults
