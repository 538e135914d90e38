-- The line was counted first, and then there was room for it.
use Rattle.std.proofs.Common.{List, ℕ, ◌++◌, ap, ◌∙◌}
use Rattle.audit_text.proofs.Measures.{kept_exact}
use Rattle.journal_segments.proofs.text.push_close.Goals as goal

pub returns : goal.returns
returns c = record {
  line =
      let is = c.bytes.ensures.bytes ∙ kept_exact c.count.result c.counter-counter.result c.put_close.new.line _ c.put_close-2.new.line _ c.counter-counter.ensures.empty
      c.put_close.ensures.line c.count.ensures.count c.in_ok-buffer.ensures.empty c.put_close-2.ensures.line in
      c.in_ok-extend_from_slice.ensures.items ∙ ap (λ (t : List ℕ). c.args.text.now.items ++ t) is;
}
