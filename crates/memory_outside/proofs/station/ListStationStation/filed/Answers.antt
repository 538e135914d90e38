use Rattle.std.proofs.Common.{◌∙◌, ◌++◌, List, [], ◌∷◌, ap, refl}
use Rattle.std.specs.Prelude.{map}
use Rattle.std.proofs.lemmas.List.{map-append}
use Rattle.pk_outside.specs.Files.{FileBack}
use Rattle.memory_outside.specs.HeldFile.{file_path, file_held, file_calls, file_back}
use Rattle.memory_outside.specs.HeldStation.{station_told}
use Rattle.memory_outside.proofs.station.ListStationStation.filed.Goals as goal

pub returns-clause-filed : goal.returns-clause-filed
returns-clause-filed c = (
  record { path = file_path c.args.file; written = file_held c.args.file; faults = (file_calls c.args.file).faults },
  record { path = refl; written = refl; count = refl },
  ap station_told c.count_fault_where.ensures.others
      ∙ ap (λ (all : List FileBack). record (station_told c.args.self.now) { filed = all })
      (ap (map file_back) c.keep.ensures.items
      ∙ map-append file_back c.args.self.now.filed (c.come_back-file.result.0 ∷ [])
      ∙ ap (λ (back : FileBack). map file_back c.args.self.now.filed ++ back ∷ []) c.come_back-file.ensures.tells),
)
