use Rattle.std.proofs.Common.{◌≡◌, ◌∷◌, ℕ, List, refl, sym, ap, ◌∙◌, arith}
use Rattle.authority_model.specs.declared.journal.Entry.{Entry}
use Rattle.authority_model.specs.declared.message.Output.{Output}
use Rattle.authority_model.specs.Items.{count_to, sent}
use Rattle.journal_scan.specs.declared.counts.Tally.{Tally}
use Rattle.journal_scan.specs.Counts.{messages_of}
use Rattle.journal_scan.specs.Standing.{with_answers}
use Rattle.journal_scan.proofs.Tables.{table_to}
use Rattle.journal_scan.proofs.counts.Tallies.enter.Goals as goal

pub returns : goal.returns
returns c = record {
  within = (λ yes n beyond. ap (count_to n) (sym c.as_slice.ensures.items) ∙ c.count_outputs.ensures.within yes n (omega (arith, c.if-not-count_event.ensures.sized, beyond)));
  counted = (λ yes size past i same table.
      let f : ℕ → Tally = λ n. record { messages = messages_of (i ∷ past) n; answers = sent past n } in
      let event = c.if-not-count_event.ensures.counted refl size past i (ap (λ (e : Entry). e.caller) same) (ap (λ (e : Entry). e.event) same) table in
      let outputs : c.as_slice.result.now ≡ i.entry.outputs = c.as_slice.ensures.items ∙ ap (λ (e : Entry). e.outputs) (sym same) in
      table_to (c.count_outputs.ensures.counted yes size f event) (λ n tally is. is ∙ ap (λ (l : List Output). with_answers (f n) (count_to n l)) outputs));
}
