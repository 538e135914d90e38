use Rattle.std.proofs.Common.{◌∙◌, ap, map}
use Rattle.xml_pieces.specs.Views.{pair_in}
use Rattle.xml_pieces.proofs.AttributeMaps.{insert_new}
use Rattle.xml_pieces.proofs.attributes.push.Goals as goal

pub returns : goal.returns
returns c = record { ok = ap (map pair_in) c.in_ok-insert.ensures.entries ∙ insert_new c.args.attributes.now.entries c.args.name c.args.value c.requires.new }
