-- What a run has after one more entry.
use Rattle.std.proofs.Common.{◌≡◌, ℕ, ◌+◌, subst, List, [], ◌∷◌, ◌++◌, Some, refl, ap, sym, ◌∙◌, length, arith, length-append}
use Rattle.std.specs.Prelude.{slice_get, unwrap_or}
use Rattle.std.proofs.lemmas.Option.{slice_get_read}
use Rattle.std.proofs.Math.Seq.{get_or-append_seam}
use Rattle.authority_model.specs.declared.journal.Entry.{Entry}
use Rattle.authority_model.specs.declared.journal.History.{History}
use Rattle.authority_model.specs.declared.journal.Item.{Item}
use Rattle.authority_core.specs.declared.halt.Halt.{Halt}
use Rattle.authority_core.specs.declared.halt.Halt.TheVariants.{Full, NoMemory}
use Rattle.authority_core.specs.Refusals.{IsHalted}
use Rattle.authority_model.specs.declared.journal.Limits.{Limits}
use Rattle.authority_model.specs.Entering.{counted_bytes, is_full}
use Rattle.authority_model.specs.Given.{Given, next, load_given}
use Rattle.authority_model.specs.Items.{items_of}
use Rattle.generated_run.specs.declared.run.Run.{Run}
use Rattle.generated_run.specs.Run.{entered, each_entered, connects, registers, root_connects, set_up, checked, generated}
use Rattle.generated_run.specs.Setup.{setup}
use Rattle.generated_run.specs.Stops.{StopsIn}
use Rattle.generated_run.specs.Kept.{Has}
use Rattle.generated_run.specs.Summaries.{summary_of}
use Rattle.generated_run.proofs.Steps.{entered_is, each_entered_none, each_entered_more, set_up_is, generated_none, generated_more}

-- the entry after others
at_end : (old : List Entry) (e : Entry) → slice_get (old ++ e ∷ []) (length old) ≡ Some e
at_end old e = slice_get_read (old ++ e ∷ []) (length (old ++ e ∷ [])) (length old) e refl (omega (arith, length-append old (e ∷ []))) (sym (get_or-append_seam old e [] e))

some_parts : (a b : Entry) → Some a ≡ Some b → a ≡ b
some_parts a b is = ap (λ o. unwrap_or o a) is

-- the entry that was found at the end is that of the next item
pub newest_is : (past : List Item) (old new : History) (g : Given) (found : Entry) (place : ℕ) → items_of old ≡ past → new.entries ≡ old.entries ++ (next (items_of old) g).entry ∷ []
    → place ≡ length old.entries → Some found ≡ slice_get new.entries place → (next past g).entry ≡ found
newest_is past old new g found place items grows at is =
    ap (λ p. (next p g).entry) (sym items)
    ∙ some_parts (next (items_of old) g).entry found (
    sym (at_end old.entries (next (items_of old) g).entry)
    ∙ ap (slice_get (old.entries ++ (next (items_of old) g).entry ∷ [])) (sym at)
    ∙ ap (λ es. slice_get es place) (sym grows)
    ∙ sym is
    )

-- a run has the next item besides
pub has_next : (past : List Item) (old new : Run) (g : Given) → Has past old → new.authority.limits ≡ old.authority.limits → items_of new.authority.history ≡ next (items_of old.authority.history) g ∷ items_of old.authority.history
    → new.summary ≡ summary_of (next past g ∷ past) → Has (entered past g) new
unfolding entered
has_next past old new g has same grows summary = record { items = grows ∙ ap (λ p. next p g ∷ p) has.items; limits = same ∙ has.limits; summary = summary }

-- no event was entered yet
pub none_entered : (given : ℕ → Given) (past : List Item) (run : Run) → Has past run → Has (each_entered given 0 past) run
none_entered given past run has = subst (λ p. Has p run) (sym (each_entered_none given past)) has

-- one more event was entered
pub one_more_entered : (given : ℕ → Given) (n : ℕ) (past : List Item) (run : Run) → Has (entered (each_entered given n past) (given n)) run → Has (each_entered given (n + 1) past) run
one_more_entered given n past run has = subst (λ p. Has p run) (sym (each_entered_more given n past)) has

-- the run is set up
pub is_set_up : (run : Run) → Has (each_entered registers 8 (entered (each_entered connects 8 (entered [] (load_given 0 0 setup))) root_connects)) run → Has set_up run
is_set_up run has = subst (λ p. Has p run) (sym set_up_is) has

-- no check was generated yet
pub none_generated : (run : Run) → Has set_up run → Has (generated 0) run
none_generated run has = subst (λ p. Has p run) (sym generated_none) has

-- one more check was generated
pub one_more_generated : (k : ℕ) (run : Run) → Has (checked k (generated k)) run → Has (generated (k + 1)) run
one_more_generated k run has = subst (λ p. Has p run) (sym (generated_more k)) has

-- the journal halted before this
pub halted_before : (past : List Item) (run : Run) (g : Given) (halt : Halt) → Has past run → IsHalted run.authority halt → StopsIn (entered past g) halt
halted_before past run g (Full full) has is = record {
  past = past;
  due = record { item = next past g; more = []; whole = entered_is past g };
  full = ap (λ (l : Limits). is_full l past) (sym has.limits) ∙ ap (is_full run.authority.limits) (sym has.items) ∙ is.full;
  entries_are = is.entries_are ∙ ap length has.items;
  bytes_are = is.bytes_are ∙ ap counted_bytes has.items;
}
halted_before past run g NoMemory has is = tt
