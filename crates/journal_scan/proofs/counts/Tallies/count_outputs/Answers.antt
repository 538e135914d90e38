use Rattle.std.proofs.Common.{◌≡◌, ◌+◌, ◌++◌, ◌∷◌, [], ℕ, List, refl, take, sym, ap, ◌∙◌, arith}
use Rattle.std.specs.Prelude.{◌==◌, if◌then◌else◌}
use Rattle.std.proofs.lemmas.List.{take_more, take_all}
use Rattle.authority_model.specs.declared.message.Output.{Output}
use Rattle.authority_model.specs.Items.{count_to}
use Rattle.journal_scan.specs.Standing.{with_answers}
use Rattle.journal_scan.proofs.Counting.{answers_more, answers_none, count_to_push, none_push}
use Rattle.journal_scan.proofs.Tables.{table_to}
use Rattle.journal_scan.proofs.counts.Tallies.count_outputs.Goals as goal

pub loop-output-init : goal.loop-output-init
loop-output-init c = record {
  within = (λ n beyond. refl);
  sized = refl;
  counted = (λ size f table. table_to table (λ n tally is. is ∙ sym (answers_none (f n))));
}

pub loop-output-preserved : goal.loop-output-preserved
loop-output-preserved c =
    let k = c.loop-output.output-index in
    let outputs = c.args.outputs.now in
    let o = c.output-item.result in
    let before = take k outputs in
    let old = c.loop-output.invariant in
    let inside = c.if-not-count_output.ensures.within refl in
    let more : take (k + 1) outputs ≡ before ++ o ∷ [] = take_more outputs k o c.loop-output-test.true ∙ ap (λ (x : Output). before ++ x ∷ []) (sym c.output-item.is) in
    let counted : (n : ℕ) → count_to n (take (k + 1) outputs) ≡ count_to n before + (if o.to == n then 1 else 0) = λ n. ap (count_to n) more ∙ count_to_push n before o in
    record {
      within = (λ n beyond. counted n ∙ none_push n before o (old.within n beyond) (omega (arith, inside, old.sized, beyond)));
      sized = c.if-not-count_output.ensures.sized ∙ old.sized;
      counted = (λ size f table.
          table_to (c.if-not-count_output.ensures.counted refl size (λ n. with_answers (f n) (count_to n before)) (old.counted size f table))
          (λ n tally is. is ∙ answers_more (f n) (count_to n before) (if o.to == n then 1 else 0) (count_to n (take (k + 1) outputs)) (counted n)));
    }

pub returns : goal.returns
returns c =
    let all = take_all c.loop-output.output-index c.args.outputs.now c.loop-output-test.false in
    record {
      within = (λ yes n beyond. ap (count_to n) (sym all) ∙ c.loop-output.invariant.within n beyond);
      counted = (λ yes size f table. table_to (c.loop-output.invariant.counted size f table) (λ n tally is. is ∙ ap (λ (l : List Output). with_answers (f n) (count_to n l)) all));
    }
