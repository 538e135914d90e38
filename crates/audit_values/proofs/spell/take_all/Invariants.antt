use Rattle.std.proofs.Common.{◌≡◌, ◌-◌}
use Rattle.audit_words.specs.Codecs.{take_items}
use Rattle.audit_words.proofs.Loops.{with_front}
use Rattle.audit_values.proofs.spell.take_all.Given as goal

abbrev pub invariant-loop : goal.invariant-loop
invariant-loop g l = with_front l.items (take_items g.T.Spell.codec (l.count - l.counter) l.words) ≡ take_items g.T.Spell.codec l.count l.initial.words
