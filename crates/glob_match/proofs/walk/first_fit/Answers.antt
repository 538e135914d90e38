-- The first suffix that the pattern fits decides. Where there is no pattern, the last one fits.
use Rattle.std.proofs.Common.{ap, ◌∙◌}
use Rattle.std.specs.Str.{chars}
use Rattle.glob_match.specs.Glob.{glob, some_suffix}
use Rattle.glob_match.proofs.Stars.{first_found, nothing_fits}
use Rattle.glob_match.proofs.walk.first_fit.Goals as goal

pub returns-in_default-clause-fit : goal.returns-in_default-clause-fit
returns-in_default-clause-fit c =
    ap (λ p. some_suffix (glob p) (chars c.args.text.now)) c.in_default.ensures.end ∙ nothing_fits (chars c.args.text.now)

pub returns-in_default-found : goal.returns-in_default-found
returns-in_default-found c = record {
  fit = first_found (chars c.args.pattern.now) (chars c.args.text.now) (chars c.loop-found.from.now) c.fit-found.result c.loop-found.invariant c.fit-found.ensures.fit
      c.in_default-found.not-Differs;
  shorter = c.fit-found.ensures.shorter;
}
