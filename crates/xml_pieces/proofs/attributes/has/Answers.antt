use Rattle.std.proofs.Common.{ap, ◌∙◌}
use Rattle.std.specs.Prelude.{is_some}
use Rattle.xml_pieces.proofs.AttributeMaps.{lookup_is}
use Rattle.xml_pieces.proofs.attributes.has.Goals as goal

pub returns : goal.returns
returns c = record { has = c.contains_key.ensures ∙ ap is_some (lookup_is c.args.name.now c.args.attributes.now.entries) }
