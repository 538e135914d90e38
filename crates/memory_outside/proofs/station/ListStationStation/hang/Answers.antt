use Rattle.std.proofs.Common.{◌∙◌, List, [], ◌∷◌, ap}
use Rattle.std.specs.Prelude.{map}
use Rattle.std.proofs.lemmas.List.{map-append}
use Rattle.pk_outside.specs.Links.{Hung}
use Rattle.memory_outside.specs.HeldLink.{link_hung}
use Rattle.memory_outside.specs.HeldStation.{station_told}
use Rattle.memory_outside.proofs.station.ListStationStation.hang.Goals as goal

pub returns-clause-hung : goal.returns-clause-hung
returns-clause-hung c = (
  link_hung c.come_back-link.result.0,
  c.come_back-link.ensures.tells,
  ap station_told c.count_fault_where.ensures.others
      ∙ ap (λ (all : List Hung). record (station_told c.args.self.now) { hung = all })
      (ap (map link_hung) c.keep.ensures.items ∙ map-append link_hung c.args.self.now.hung (c.come_back-link.result.0 ∷ [])),
)
