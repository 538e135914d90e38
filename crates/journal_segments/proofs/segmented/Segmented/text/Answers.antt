-- The segment so far is the newest items of each history.
use Rattle.std.proofs.Common.{◌≡◌, ◌≤◌, ◌<◌, ◌^◌, ◌-◌, List, ℕ, IfOk, ap, arith, length, subst, ◌∙◌}
use Rattle.authority_model.specs.declared.journal.Item.{Item}
use Rattle.authority_desk.specs.declared.counts.DeskCounts.{DeskCounts}
use Rattle.authority_desk.specs.Counts.{counts_of}
use Rattle.authority_desk.specs.Seen.{DeskSeen, IsDeskFor}
use Rattle.journal_segments.specs.declared.segmented.TheConstants.{MAX_ENTRIES}
use Rattle.journal_segments.specs.Segments.{Segments}
use Rattle.journal_segments.specs.Text.{segment_with}
use Rattle.journal_segments.proofs.Entries.{items_short, text_is}
use Rattle.journal_segments.proofs.segmented.Segmented.text.Goals as goal

pub overflow_sub-first : goal.overflow_sub-first
overflow_sub-first c =
    let short = items_short (record { per = c.self.inside.per; written = c.self.inside.written; items = c.self.inside.segment.items; desk = c.self.inside.desk.value }) c.self.invariant in
    let items : length c.items-items.result.now ≡ length c.self.inside.segment.items = ap (λ (xs : List Item). length xs) c.items-items.ensures.items in
    let entries : c.counts-counts.result.entries ≡ c.self.inside.desk.value.peers.entries =
    ap (λ (k : DeskCounts). k.entries) c.counts-counts.ensures.seen ∙ ap (λ (d : DeskSeen). d.peers.entries) c.as_ref.ensures in
    omega (arith, short, items, entries)

pub returns : goal.returns
returns c = record {
  text = λ done is.
      let items : c.items-items.result.now ≡ c.args.self.now.items = c.items-items.ensures.items ∙ ap (λ (s : Segments). s.items) c.self.view_is in
      let desk : c.as_ref.result.now ≡ c.args.self.now.desk = c.as_ref.ensures ∙ ap (λ (s : Segments). s.desk) c.self.view_is in
      subst (λ (x : List ℕ). IfOk c.text_of.result (λ text. text.items ≡ x))
      (ap (λ (xs : List Item). segment_with c.args.number (c.counts-counts.result.entries - length xs) xs c.counts-counts.result) items
      ∙ text_is c.args.number done c.args.self.now c.counts-counts.result is
      (subst (λ (s : Segments). s.desk.peers.entries ≤ MAX_ENTRIES) c.self.view_is c.self.invariant.few)
      (ap (λ (k : DeskCounts). k.entries) c.counts-counts.ensures.seen ∙ ap (λ (d : DeskSeen). d.peers.entries) desk)
      (subst (λ (d : DeskSeen). (past : List Item) → IsDeskFor past d → length past < 2 ^ 32 → c.counts-counts.result ≡ counts_of past) desk c.counts-counts.ensures.counts))
      c.text_of.ensures.text;
}
