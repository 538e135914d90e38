use Rattle.std.proofs.Common.{◌≡◌, ◌&&◌, not, take, bytes_eq}
use Rattle.pk_types.specs.Text.{IsText}
use Rattle.authority_model.specs.Lists.{any_of, Each}
use Rattle.authority_model.specs.Words.{Bytes}
use Rattle.rulebook.specs.Indexes.{is_exact, add_where, listed}
use Rattle.rulebook.proofs.build.put_rule.Given as goal

-- the rule is listed under the first `i` of its identity globs
abbrev pub invariant-loop-i : goal.invariant-loop-i
invariant-loop-i l =
    record {
      exact : (q : Bytes) → listed l.exact.entries q ≡ add_where (any_of (λ glob. is_exact glob && bytes_eq glob q) (take l.i l.globs)) (listed l.fn.exact.entries q) l.place;
      patterns : l.patterns ≡ add_where (any_of (λ glob. not (is_exact glob)) (take l.i l.globs)) l.fn.patterns l.place;
      texts : Each IsText (take l.i l.globs);
    }
