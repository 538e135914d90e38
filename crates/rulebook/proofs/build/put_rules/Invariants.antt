use Rattle.std.proofs.Common.{◌≡◌, take}
use Rattle.pk_types.specs.Text.{IsText}
use Rattle.authority_model.specs.Lists.{Each}
use Rattle.authority_model.specs.Words.{Bytes}
use Rattle.rulebook.specs.Indexes.{listed, names, has_pattern, places_from}
use Rattle.rulebook.proofs.build.put_rules.Given as goal

-- the first `i` rules are listed
abbrev pub invariant-loop-i : goal.invariant-loop-i
invariant-loop-i l =
    record {
      exact : (q : Bytes) → listed l.exact.entries q ≡ places_from 0 (names q) (take l.i l.entries);
      patterns : l.patterns ≡ places_from 0 has_pattern (take l.i l.entries);
      texts : Each (λ e. Each IsText e.identities) (take l.i l.entries);
    }
