use Rattle.std.proofs.Common.{◌&&◌, not, refl, ap, ◌∙◌, arith, bytes_eq}
use Rattle.pk_types.specs.Text.{IsText}
use Rattle.rulebook.specs.Indexes.{is_exact, add_where, listed}
use Rattle.rulebook.proofs.Places.{add-take, each-take}
use Rattle.rulebook.proofs.build.put_rule.Goals as goal

pub loop-i-preserved : goal.loop-i-preserved
loop-i-preserved c =
    let glob = c.index-globs-i.result in
    record {
      exact = λ q.
          c.in_ok-put_identity.ensures.exact q
          ∙ ap (λ ps. add_where (is_exact glob && bytes_eq glob q) ps c.args.place) (c.loop-i.invariant.exact q)
          ∙ add-take (λ g. is_exact g && bytes_eq g q) c.as_slice-globs.result.now c.loop-i.i _ glob (listed c.args.exact.now.entries q) c.args.place refl (omega arith) c.index-globs-i.is;
      patterns = c.in_ok-put_identity.ensures.patterns
          ∙ ap (λ ps. add_where (not (is_exact glob)) ps c.args.place) c.loop-i.invariant.patterns
          ∙ add-take (λ g. not (is_exact g)) c.as_slice-globs.result.now c.loop-i.i _ glob c.args.patterns.now c.args.place refl (omega arith) c.index-globs-i.is;
      texts = each-take IsText c.as_slice-globs.result.now c.loop-i.i _ glob refl (omega arith) c.index-globs-i.is c.loop-i.invariant.texts c.in_ok-put_identity.ensures.text;
    }
