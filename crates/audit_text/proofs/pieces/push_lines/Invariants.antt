use Rattle.std.proofs.Common.{◌≡◌, ◌++◌, drop}
use Rattle.audit_text.specs.Lines.{line, spell_items}
use Rattle.audit_text.proofs.pieces.push_lines.Given as goal

abbrev pub invariant-loop-value : goal.invariant-loop-value
invariant-loop-value g l = l.text.items ++ spell_items (line l.word g.T.Spell.codec) (drop l.value-index l.values) ≡ l.initial.text.items ++ spell_items (line l.word g.T.Spell.codec) l.values
