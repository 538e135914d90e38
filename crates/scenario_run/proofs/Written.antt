-- What a step leaves in the file.
use Rattle.std.proofs.Common.{◌≡◌, ℕ, ◌+◌, ◌<◌, ◌++◌, Bool, true, false, List, [], ◌∷◌, Option, Some, None, IfSome, suc, refl, ap, sym, subst, ◌∙◌, length, arith, append-nil, length-append}
use Rattle.std.specs.Prelude.{if◌then◌else◌, nat_lt}
use Rattle.std.proofs.lemmas.Bool.Decides.{nat_tests}
use Rattle.pk_outside.specs.Streams.{Got}
use Rattle.authority_model.specs.declared.journal.Item.{Item}
use Rattle.authority_model.specs.Given.{Given, next}
use Rattle.journal_segments.specs.Due.{is_due}
use Rattle.journal_segments.specs.Segments.{IsSegmentedFor, Segments, after_due, done_after, due_text, once_written, rest_text}
use Rattle.journal_segments.specs.Steps.{IsEntered}
use Rattle.journal_segments.specs.Text.{onto, onto_all, segment_text, segments_text}
use Rattle.scenario_run.specs.Cuts.{Cut, cut, cut_text, rest_of, segments_of}
use Rattle.scenario_run.specs.Recorded.{AreWritten, IsFinished}
use Rattle.scenario_run.proofs.Cuts.{cut_due, cut_on, onto_all_more, text_more}

-- a file that held a text and got more holds both
held_more : (held held' : Option (List ℕ)) (text more whole : List ℕ) → IfSome held (λ bytes. bytes ≡ text) → Got held held' more → whole ≡ text ++ more → IfSome held' (λ bytes. bytes ≡ whole)
held_more None None text more whole is got e = tt
held_more None (Some b) text more whole is got e = absurd got
held_more (Some a) None text more whole is got e = absurd got
held_more (Some a) (Some b) text more whole is got e = got ∙ ap (λ t. t ++ more) is ∙ sym e

-- what was written is told of a history by how it is cut
settled : (s : Segments) (done past : List Item) (held : Option (List ℕ)) (faults : ℕ) (c : Cut) → cut s.per past ≡ c → s.items ≡ c.last → s.written ≡ length c.full → done ≡ onto_all [] c.full
    → IfSome held (λ bytes. bytes ≡ segments_text 0 [] c.full) → faults ≡ 0 → AreWritten held faults s done past
settled s done past held faults c is last count before text quiet = record {
  last = last ∙ sym (ap (λ (c : Cut). c.last) is);
  count = count ∙ sym (ap (λ (c : Cut). length c.full) is);
  before = before ∙ sym (ap (λ (c : Cut). onto_all [] c.full) is);
  text = subst (λ (c : Cut). IfSome held (λ bytes. bytes ≡ segments_text 0 [] c.full)) (sym is) text;
  quiet = quiet;
}

-- the text of the segment so far, by how the history is cut
so_far : (s : Segments) (done : List Item) (c : Cut) → s.written ≡ length c.full → done ≡ onto_all [] c.full
    → segments_text 0 [] (c.full ++ s.items ∷ []) ≡ segments_text 0 [] c.full ++ segment_text (s.written + 1) done s.items
so_far s done c count before =
    let same : 0 + length c.full + 1 ≡ s.written + 1 = omega (arith, count) in
    text_more 0 [] c.full s.items
    ∙ ap (λ k. segments_text 0 [] c.full ++ segment_text k (onto_all [] c.full) s.items) same
    ∙ ap (λ d. segments_text 0 [] c.full ++ segment_text (s.written + 1) d s.items) (sym before)

-- an item was entered
pub written_more : (g : Given) (s s' : Segments) (done past : List Item) (held held' : Option (List ℕ)) (faults faults' : ℕ) → AreWritten held faults s done past → onto done s.items ≡ past → IsEntered g done s s'
    → Got held held' (due_text done s) → faults' ≡ faults → AreWritten held' faults' s' (done_after done s) (next past g ∷ past)
written_more g s s' done past held held' faults faults' w whole e got same = of (is_due s.per s.items) refl
  where
    c : Cut
    c = cut s.per past

    of : (b : Bool) → is_due s.per s.items ≡ b → AreWritten held' faults' s' (done_after done s) (next past g ∷ past)
    of true due =
        let at : is_due s.per c.last ≡ true = ap (is_due s.per) (sym w.last) ∙ due in
        let after : after_due s ≡ once_written s = ap (λ b. if b then once_written s else s) due in
        settled s' (done_after done s) (next past g ∷ past) held' faults' (record { full = c.full ++ s.items ∷ []; last = next past g ∷ [] })
        (ap (λ p. cut p (next past g ∷ past)) e.per ∙ cut_due s.per (next past g) c at ∙ ap (λ l. record { full = c.full ++ l ∷ []; last = next past g ∷ [] }) (sym w.last))
        (e.items ∙ ap (λ (t : Segments). t.items ++ next (onto done s.items) g ∷ []) after ∙ ap (λ p. next p g ∷ []) whole)
        (e.written ∙ ap (λ (t : Segments). t.written) after ∙ omega (arith, w.count, length-append c.full (s.items ∷ [])))
        (ap (λ b. if b then onto done s.items else done) due ∙ ap (λ d. onto d s.items) w.before ∙ sym (onto_all_more [] c.full s.items))
        (held_more held held' (segments_text 0 [] c.full) (due_text done s) (segments_text 0 [] (c.full ++ s.items ∷ [])) w.text got
        (so_far s done c w.count w.before ∙ ap (λ t. segments_text 0 [] c.full ++ t) (sym (ap (λ b. if b then segment_text (s.written + 1) done s.items else []) due))))
        (same ∙ w.quiet)
    of false due =
        let at : is_due s.per c.last ≡ false = ap (is_due s.per) (sym w.last) ∙ due in
        let after : after_due s ≡ s = ap (λ b. if b then once_written s else s) due in
        settled s' (done_after done s) (next past g ∷ past) held' faults' (record { full = c.full; last = s.items ++ next past g ∷ [] })
        (ap (λ p. cut p (next past g ∷ past)) e.per ∙ cut_on s.per (next past g) c at ∙ ap (λ l. record { full = c.full; last = l ++ next past g ∷ [] }) (sym w.last))
        (e.items ∙ ap (λ (t : Segments). t.items ++ next (onto done s.items) g ∷ []) after ∙ ap (λ p. s.items ++ next p g ∷ []) whole)
        (e.written ∙ ap (λ (t : Segments). t.written) after ∙ w.count)
        (ap (λ b. if b then onto done s.items else done) due ∙ w.before)
        (held_more held held' (segments_text 0 [] c.full) (due_text done s) (segments_text 0 [] c.full) w.text got
        (sym (append-nil (segments_text 0 [] c.full)) ∙ ap (λ t. segments_text 0 [] c.full ++ t) (sym (ap (λ b. if b then segment_text (s.written + 1) done s.items else []) due))))
        (same ∙ w.quiet)

-- the rest was written
pub rest_written : (s : Segments) (done past : List Item) (held held' : Option (List ℕ)) (faults faults' : ℕ) → AreWritten held faults s done past → Got held held' (rest_text done s) → faults' ≡ faults
    → IsFinished held' faults' s.per past
rest_written s done past held held' faults faults' w got same = record {
  text = held_more held held' (segments_text 0 [] c.full) (rest_text done s) (cut_text s.per past) w.text got (of s.items w.last);
  quiet = same ∙ w.quiet;
}
  where
    c : Cut
    c = cut s.per past

    some : (n : ℕ) → nat_lt 0 (suc n) ≡ true
    some n = grind (arith, nat_tests)

    rest : (items : List Item) → segments_text 0 [] (c.full ++ rest_of items) ≡ segments_text 0 [] c.full ++ (if nat_lt 0 (length items) then segment_text (s.written + 1) done items else [])
    rest [] = ap (segments_text 0 []) (append-nil c.full) ∙ sym (append-nil (segments_text 0 [] c.full))
    rest (i ∷ items) =
        so_far (record { per = s.per; written = s.written; items = i ∷ items; desk = s.desk }) done c w.count w.before
        ∙ ap (λ (b : Bool). segments_text 0 [] c.full ++ (if b then segment_text (s.written + 1) done (i ∷ items) else [])) (sym (some (length items)))

    of : (items : List Item) → items ≡ c.last → cut_text s.per past ≡ segments_text 0 [] c.full ++ (if nat_lt 0 (length items) then segment_text (s.written + 1) done items else [])
    of items e = ap (λ l. segments_text 0 [] (c.full ++ rest_of l)) (sym e) ∙ rest items

-- nothing was entered, and nothing was written
pub none_written : (s : Segments) (held : Option (List ℕ)) (faults : ℕ) → s.items ≡ [] → s.written ≡ 0 → IfSome held (λ bytes. bytes ≡ []) → faults ≡ 0 → AreWritten held faults s [] []
none_written s held faults empty none unwritten sound = record { last = empty; count = none; before = refl; text = unwritten; quiet = sound }
