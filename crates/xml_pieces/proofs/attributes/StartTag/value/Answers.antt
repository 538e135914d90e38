use Rattle.std.proofs.Common.{◌∙◌}
use Rattle.xml_pieces.proofs.AttributeMaps.{lookup_is}
use Rattle.xml_pieces.proofs.attributes.StartTag.value.Goals as goal

pub returns : goal.returns
returns c = record { value = c.get.ensures.value ∙ lookup_is c.args.name.now c.args.self.now.attributes.entries }
