use Rattle.std.proofs.Common.{◌∙◌}
use Rattle.action_xml.proofs.TagsFound.{tag_found, tag_bytes_found}
use Rattle.action_xml.proofs.laws.tags.tags_read_have_a_form.Goals as goal

pub returns : goal.returns
returns c = record { found = λ is_action bytes t e. let f = tag_found is_action bytes t e in (f.attrs, f.white, f.are, f.fine, f.is_white, f.bytes_are ∙ tag_bytes_found f.attrs f.white t.rest t.is_empty, f.pairs) }
