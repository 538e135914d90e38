use Rattle.std.proofs.Common.{◌<◌, ◌++◌, ◌∷◌, [], List, None, refl, take, length, slice_index_or, sym, subst}
use Rattle.std.proofs.lemmas.List.{take_more}
use Rattle.journal_scan.specs.declared.lines.ConnectionLine.{ConnectionLine}
use Rattle.journal_scan.specs.Standing.{AreMarked}
use Rattle.journal_scan.proofs.Lining.{differ_push, each_push}
use Rattle.journal_scan.proofs.callers.Callers.mark_all.Goals as goal

pub loop-line-preserved : goal.loop-line-preserved
loop-line-preserved c =
    let none : ConnectionLine = record { number = 0; uid = 0; sighter = None } in
    let k = c.loop-line.line-index in
    let size = length c.args.self.now.places.items in
    let lines = c.args.lines.now in
    let line : ConnectionLine = slice_index_or lines k none in
    let old = c.loop-line.invariant in
    let new = c.if-not-mark.ensures.marked refl size (take k lines) old.marked in
    let more : AreMarked size (take k lines ++ line ∷ []) c.mark.new.self = record {
      differ = differ_push (take k lines) line old.differ new.1;
      few = each_push (λ l. l.number < size) (take k lines) line old.few new.0;
      marked = new.2;
    } in
    subst (λ (l : List ConnectionLine). AreMarked size l c.mark.new.self) (sym (take_more lines k none c.loop-line-test.true)) more
