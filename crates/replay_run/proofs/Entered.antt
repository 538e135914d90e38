-- What the newest item adds to the text and to the counts.
use Rattle.std.proofs.Common.{◌≡◌, ◌++◌, [], ◌∷◌, ◌+◌, ◌==◌, ℕ, List, Bool, true, false, Option, Result, Ok, Err, OnOk, if◌then◌else◌, refl, sym, ◌∙◌, ap, subst, append-nil, inl, inr, arith}
use Rattle.pk_outside.specs.Streams.{Got, GotFront}
use Rattle.authority_core.specs.declared.halt.Fullness.{Fullness}
use Rattle.authority_model.specs.declared.journal.Item.{Item}
use Rattle.authority_model.specs.declared.message.Output.{Output}
use Rattle.authority_model.specs.Items.{sent, count_to}
use Rattle.authority_model.specs.Legal.{Legal}
use Rattle.scenario_text.specs.declared.fault.LineKind.{LineKind}
use Rattle.scenario_text.specs.declared.fault.LineKind.TheVariants as kind
use Rattle.scenario_text.specs.Faults.{IsFaultOf}
use Rattle.scenario_run.specs.Scene.{Outcome, Scene, reached, run_line}
use Rattle.scenario_run.specs.declared.scenario.LineEffect.{LineEffect}
use Rattle.scenario_run.specs.declared.scenario.LineEffect.TheVariants as taken
use Rattle.scenario_run.specs.declared.scenario.LineStop.{LineStop}
use Rattle.scenario_run.specs.declared.scenario.LineStop.TheVariants as stop
use Rattle.scenario_run.specs.ScenarioRuns.{EffectIs, IsFilledLine, IsStop}
use Rattle.scenario_run.specs.Text.{IsEntered, last_outputs, loads_of, one_more, outputs_text, counts_after, text_of}
use Rattle.replay_run.specs.declared.ends.Stopped.{Stopped}
use Rattle.replay_run.specs.declared.ends.Stopped.TheVariants as stopped
use Rattle.replay_run.specs.Telling.{told, OnlyTold}
use Rattle.replay_run.specs.Lines.{IsLineCutOff, IsLineAnswered, LineDone, LastTold, stop_at, stop_of}
use Rattle.pk_outside.proofs.Written.{Got-none}

none_told : (tells : Bool) (held : Option (List ℕ)) → Got held held (told tells [])
none_told true held = Got-none held
none_told false held = Got-none held

count_one : (b : Bool) (n m : ℕ) → (if b then n + 1 else n) + m ≡ n + ((if b then 1 else 0) + m)
count_one true n m = omega arith
count_one false n m = omega arith

counts_after-at : (counts : ℕ → ℕ) (os : List Output) (c : ℕ) → counts_after counts os c ≡ counts c + count_to c os
counts_after-at counts [] c = omega arith
counts_after-at counts (o ∷ os) c = counts_after-at (one_more counts o.to) os c ∙ count_one (o.to == c) (counts c) (count_to c os)

-- the counts after the outputs of an item
pub counts_after-sent : (i : Item) (past : List Item) → counts_after (sent past) i.entry.outputs ≡ sent (i ∷ past)
counts_after-sent i past = λ k c. counts_after-at (sent past) i.entry.outputs c k

pub text_entered : (old new : List Item) (counts : ℕ → ℕ) → IsEntered old new → counts ≡ sent old → text_of new ≡ text_of old ++ outputs_text (loads_of new) counts (last_outputs new)
text_entered old new counts e is =
    let P : List Item → Type 0 = λ p. text_of p ≡ text_of old ++ outputs_text (loads_of p) counts (last_outputs p) in
    subst P (sym e.whole) (
    ap (λ t. t ++ outputs_text (loads_of (e.item ∷ e.past)) (sent e.past) e.item.entry.outputs) e.text
    ∙ ap (λ (k : ℕ → ℕ). text_of old ++ outputs_text (loads_of (e.item ∷ e.past)) k e.item.entry.outputs) (e.counts ∙ sym is)
    )

pub sent_entered : (old new : List Item) (counts counts' : ℕ → ℕ) → IsEntered old new → counts ≡ sent old → counts' ≡ counts_after counts (last_outputs new) → counts' ≡ sent new
sent_entered old new counts counts' e is after =
    let P : List Item → Type 0 = λ p. counts_after counts (last_outputs p) ≡ sent p in
    after ∙ subst P (sym e.whole) (ap (λ (k : ℕ → ℕ). counts_after k e.item.entry.outputs) (is ∙ sym e.counts) ∙ counts_after-sent e.item e.past)

-- a prefix of the answers of an entry was written
cut_of : (old new : Scene) (line : List ℕ) (before held : Option (List ℕ)) → run_line old line ≡ Ok (reached new) → IsEntered old.past new.past
    → Legal new.past → GotFront before held (outputs_text (loads_of new.past) (sent old.past) (last_outputs new.past)) → IsLineCutOff old line before held
cut_of old new line before held ran e legal front = record {
  next = new;
  added = outputs_text (loads_of new.past) (sent old.past) (last_outputs new.past);
  ran = ran;
  legal = legal;
  text = text_entered old.past new.past (sent old.past) e refl;
  front = front;
}

cut_where : (tells : Bool) (old new : Scene) (line : List ℕ) (before held : Option (List ℕ)) → run_line old line ≡ Ok (reached new) → IsEntered old.past new.past
    → Legal new.past → OnlyTold tells (GotFront before held (outputs_text (loads_of new.past) (sent old.past) (last_outputs new.past))) → OnlyTold tells (IsLineCutOff old line before held)
cut_where true old new line before held ran e legal front = cut_of old new line before held ran e legal front
cut_where false old new line before held ran e legal front = absurd front

-- the answers of an entry were told, or they stopped the run
pub entry_done : (tells : Bool) (Counted : (ℕ → ℕ) → Type 0) (old new : Scene) (line : List ℕ) (before held : Option (List ℕ)) (result : Result (Unit {0}) Stopped) → run_line old line ≡ Ok (reached new)
    → IsEntered old.past new.past → Legal new.past → LastTold tells Counted new.past (sent old.past) before held result → LineDone tells old line new before held result
entry_done tells Counted old new line before held (Ok done) ran e legal written = record {
  added = outputs_text (loads_of new.past) (sent old.past) (last_outputs new.past);
  ran = ran;
  legal = legal;
  text = text_entered old.past new.past (sent old.past) e refl;
  written = written.0;
}
entry_done tells Counted old new line before held (Err (stopped.Fault k)) ran e legal written = absurd written
entry_done tells Counted old new line before held (Err (stopped.Full full)) ran e legal written = absurd written
entry_done tells Counted old new line before held (Err stopped.SegmentFault) ran e legal written = absurd written
entry_done tells Counted old new line before held (Err stopped.WriteFault) ran e legal written = cut_where tells old new line before held ran e legal written
entry_done tells Counted old new line before held (Err stopped.NoMemory) ran e legal written = inr (cut_where tells old new line before held ran e legal written)

-- the line made an entry
pub made_entry : (t : LineEffect) (old new : List Item) → t ≡ taken.Entry → EffectIs t old new → IsEntered old new
made_entry t old new e is = let P : LineEffect → Type 0 = λ x. EffectIs x old new in subst P e is

-- the line made none
pub kept_past : (t : LineEffect) (old new : List Item) → t ≡ taken.Draft → EffectIs t old new → new ≡ old
kept_past t old new e is = let P : LineEffect → Type 0 = λ x. EffectIs x old new in subst P e is

-- the counts after the answers of an entry
pub last_counted : (tells : Bool) (Counted : (ℕ → ℕ) → Type 0) (old new : Scene) (before held : Option (List ℕ)) (result : Result (Unit {0}) Stopped) → IsEntered old.past new.past
    → LastTold tells Counted new.past (sent old.past) before held result → OnOk result (Counted (sent new.past))
last_counted tells Counted old new before held (Ok done) e written = subst Counted (sent_entered old.past new.past (sent old.past) (counts_after (sent old.past) (last_outputs new.past)) e refl refl) written.1
last_counted tells Counted old new before held (Err e') e written = tt

-- a line that made no entry adds no text
pub draft_done : (tells : Bool) (old new : Scene) (line : List ℕ) (held : Option (List ℕ)) → run_line old line ≡ Ok (reached new) → new.past ≡ old.past → Legal old.past → IsLineAnswered tells old line new held held
draft_done tells old new line held ran same legal = record {
  added = [];
  ran = ran;
  legal = subst Legal (sym same) legal;
  text = ap text_of same ∙ sym (append-nil (text_of old.past));
  written = none_told tells held;
}

-- the fault of a line stops the run
fault_done : (tells : Bool) (old new : Scene) (line : List ℕ) (held : Option (List ℕ)) (k : LineKind) → IsFaultOf k (run_line old line) → LineDone tells old line new held held (Err (stop_at k))
fault_done tells old new line held kind.NoMemory fault = inl refl
fault_done tells old new line held kind.TooLong fault = (fault, refl)
fault_done tells old new line held kind.Word fault = (fault, refl)
fault_done tells old new line held kind.Count fault = (fault, refl)
fault_done tells old new line held kind.Number fault = (fault, refl)
fault_done tells old new line held kind.Value fault = (fault, refl)

-- the journal was full at a line
full_done : (tells : Bool) (old new : Scene) (line : List ℕ) (held : Option (List ℕ)) (full : Fullness) (due : Result Outcome LineKind) → run_line old line ≡ due → IsFilledLine old new full.entries full.bytes due
    → LineDone tells old line new held held (Err (stopped.Full full))
full_done tells old new line held full (Ok outcome) e filled = (record { ran = e ∙ ap Ok filled.led; legal = filled.legal; text = filled.text }, refl)
full_done tells old new line held full (Err k) e filled = absurd filled

-- what stopped a line stops the run
pub stop_done : (tells : Bool) (old new : Scene) (line : List ℕ) (held : Option (List ℕ)) (st : LineStop) → IsStop old new (run_line old line) st → LineDone tells old line new held held (Err (stop_of st))
stop_done tells old new line held (stop.Fault fault) is = fault_done tells old new line held fault.kind is
stop_done tells old new line held stop.SegmentFault is = (is, refl)
stop_done tells old new line held (stop.Full full) is = full_done tells old new line held full (run_line old line) refl is
