use Rattle.journal_scan.proofs.Belonging.{connects_belong, loads_belong, stops_belong}
use Rattle.journal_scan.proofs.laws.items_belong.Goals as goal

pub returns : goal.returns
returns c = record { connects = connects_belong; loads = loads_belong; stops = stops_belong }
