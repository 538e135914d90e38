use Rattle.std.proofs.Common.{◌≡◌, map, take}
use Rattle.client_commands.proofs.words.strings.Given as goal

-- The words so far.
abbrev pub invariant-loop-word : goal.invariant-loop-word
invariant-loop-word l = map (λ s. s.now) l.strings.items ≡ take l.word-index l.words
