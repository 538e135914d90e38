use Rattle.std.proofs.Common.{◌<◌, ◌≤◌, ◌+◌, ◌∷◌, ◌∙◌, List, refl, ap, sym, subst, length, get_or}
use Rattle.authority_model.specs.declared.journal.Entry.{Entry}
use Rattle.authority_model.specs.declared.journal.Item.{Item}
use Rattle.authority_model.specs.declared.load.Loaded.{Loaded}
use Rattle.authority_model.specs.Items.{before}
use Rattle.authority_model.proofs.Pairing.{before_end, before_next}
use Rattle.journal_scan.specs.Orderly.{EachItem}
use Rattle.journal_scan.specs.Standing.{IsPaired, Stands}
use Rattle.journal_scan.proofs.Pairs.{before_paired}
use Rattle.journal_scan.proofs.scan.Scan.walk.Goals as goal

pub loop-entry-preserved : goal.loop-entry-preserved
loop-entry-preserved c = λ size lines start.
    let history = c.args.history.now in
    let k = c.loop-entry.entry-index in
    let e = c.entry-item.result in
    let same = c.as_slice-entries.ensures.items in
    let inside : k < length history.entries = subst (λ (l : List Entry). k < length l) same c.loop-entry-test.true in
    let next = before_next history k e inside (c.entry-item.is ∙ ap (λ (l : List Entry). get_or l k e) same) in
    let i : Item = record { entry = e; loaded = next.0 } in
    let named = subst (EachItem (IsPaired history.loads)) next.1 (before_paired history (k + 1)) in
    let pairs = subst (λ (l : List Loaded). EachItem (IsPaired l) (i ∷ before history k)) (sym c.as_slice-loads.ensures.items) named in
    let more = c.if-not-enter.ensures.stands refl size lines (before history k) i refl pairs (c.loop-entry.invariant size lines start) in
    subst (λ (l : List Item). Stands size lines l c.enter.new.self) (sym next.1) more

pub returns : goal.returns
returns c = record {
  stands = (λ yes size lines start.
      let history = c.args.history.now in
      let k = c.loop-entry.entry-index in
      let all : length history.entries ≤ k = subst (λ (l : List Entry). length l ≤ k) c.as_slice-entries.ensures.items c.loop-entry-test.false in
      subst (λ (l : List Item). Stands size lines l c.loop-entry.self) (before_end history k all) (c.loop-entry.invariant size lines start));
}
