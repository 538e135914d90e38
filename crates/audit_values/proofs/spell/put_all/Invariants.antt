use Rattle.std.proofs.Common.{◌≡◌, ◌∷◌, take, length}
use Rattle.audit_words.specs.Buffers.{put}
use Rattle.audit_words.specs.Codecs.{Numeral, spell_items}
use Rattle.audit_words.specs.Lines.{written}
use Rattle.audit_values.proofs.spell.put_all.Given as goal

abbrev pub invariant-loop-item : goal.invariant-loop-item
invariant-loop-item g l = l.line ≡ put l.fn.line (written (Numeral (length l.items) ∷ spell_items g.T.Spell.codec (take l.item-index l.items)))
