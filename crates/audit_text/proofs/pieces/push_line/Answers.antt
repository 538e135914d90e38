use Rattle.std.proofs.Common.{List, ℕ, ◌++◌, ap, ◌∙◌}
use Rattle.audit_text.proofs.Measures.{kept_exact}
use Rattle.audit_text.proofs.pieces.push_line.Goals as goal

pub returns : goal.returns
returns g c = record {
  line =
      let is = c.bytes.ensures.bytes ∙ kept_exact c.count.result c.counter-counter.result c.put_line.new.buffer _ c.put_line-2.new.buffer _ c.counter-counter.ensures.empty
      c.put_line.ensures.line c.count.ensures.count c.in_ok-buffer.ensures.empty c.put_line-2.ensures.line in
      c.in_ok-extend_from_slice.ensures.items ∙ ap (λ (t : List ℕ). c.args.text.now.items ++ t) is;
}
