use Rattle.std.proofs.Common.{◌++◌, ◌∙◌}
use Rattle.pk_outside.proofs.Written.{Gave-more}
use Rattle.audit_text.proofs.lines.Lines.close.Goals as goal

pub rest-preserved : goal.rest-preserved
rest-preserved g c =
    let inv = c.rest.invariant in
    let f = c.in-There.ensures.fills in
    record {
      gave = (inv.gave.0 ++ f.0, Gave-more (g.I.Source.left c.args.input.now) (g.I.Source.left c.rest.input) (g.I.Source.left c.fill.new.input) inv.gave.0 f.0 inv.gave.1 f.1);
      quiet = c.in-There.ensures.faults ∙ inv.quiet;
    }
