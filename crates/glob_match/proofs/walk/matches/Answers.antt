-- What was found at the end decides.
use Rattle.std.proofs.Common.{◌≡◌, sym, true, false}
use Rattle.std.specs.Str.{chars}
use Rattle.glob_match.specs.Glob.{glob}
use Rattle.glob_match.proofs.Globs.{says_glob}
use Rattle.glob_match.proofs.Stars.{whole_leads, whole_only}
use Rattle.glob_match.proofs.walk.matches.Goals as goal

pub returns-in-Whole : goal.returns-in-Whole
returns-in-Whole c =
    let pattern = chars c.args.pattern.now in
    let text = chars c.args.text.now in
    let test : true ≡ glob pattern text = sym (whole_leads pattern text c.loop-found.found c.loop-found.invariant c.in-Whole.is) in
    record { glob = says_glob true pattern text test; test = test }

pub returns-in_default-matches : goal.returns-in_default-matches
returns-in_default-matches c =
    let pattern = chars c.args.pattern.now in
    let text = chars c.args.text.now in
    let test : false ≡ glob pattern text = sym (whole_only pattern text c.loop-found.found c.loop-found.invariant c.in_default-matches.not-Whole c.in_default.not-Star) in
    record { glob = says_glob false pattern text test; test = test }
