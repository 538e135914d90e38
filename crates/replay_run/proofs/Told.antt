-- Answers that are told, or not.
use Rattle.std.proofs.Common.{◌≡◌, ℕ, Bool, true, List, [], Option, Result, Ok, Err, OnOk, OnErr, ap, sym, subst}
use Rattle.pk_outside.specs.Streams.{Got, GotFront}
use Rattle.authority_model.specs.declared.journal.Item.{Item}
use Rattle.authority_model.specs.declared.load.Loaded.{Loaded}
use Rattle.authority_model.specs.declared.message.Output.{Output}
use Rattle.scenario_run.specs.Text.{counts_after, last_outputs, loads_of, outputs_text}
use Rattle.replay_run.specs.declared.ends.Stopped.{Stopped}
use Rattle.replay_run.specs.declared.ends.Stopped.TheVariants as stopped
use Rattle.replay_run.specs.declared.written.WriteRefused.{WriteRefused}
use Rattle.replay_run.specs.declared.written.WriteRefused.TheVariants as refused
use Rattle.replay_run.specs.Lines.{LastTold}
use Rattle.replay_run.specs.Counted.{counted}
use Rattle.replay_run.specs.declared.telling.Telling.{Telling}
use Rattle.replay_run.specs.declared.telling.Telling.TheVariants as telling
use Rattle.authority_model.specs.Items.{sent}
use Rattle.replay_run.specs.Telling.{AreTold, HasCounted, OnlyTold, tells}
use Rattle.replay_run.proofs.Texts.{front_none}

-- answers that were written and counted are told
pub written_told : (loads : List Loaded) (counts counted counted' : ℕ → ℕ) (answers : List Output) (before held : Option (List ℕ)) (r : Result (Unit {0}) WriteRefused) → counted ≡ counts
    → OnOk r (Got before held (outputs_text loads counted answers)) → OnOk r (counted' ≡ counts_after counted answers) → OnErr r (GotFront before held (outputs_text loads counted answers))
    → AreTold true (λ (c : ℕ → ℕ). counted' ≡ c) loads counts answers before held r
written_told loads counts counted counted' answers before held (Ok x) is got after front =
    subst (λ (k : ℕ → ℕ). AreTold true (λ (c : ℕ → ℕ). counted' ≡ c) loads k answers before held (Ok x)) is (got, after)
written_told loads counts counted counted' answers before held (Err e) is got after front =
    subst (λ (k : ℕ → ℕ). GotFront before held (outputs_text loads k answers)) is front

-- how a refusal of the answers stops the run
abbrev pub stopped_by : Result (Unit {0}) WriteRefused → Result (Unit {0}) Stopped
stopped_by (Ok x) = Ok x
stopped_by (Err refused.Failed) = Err stopped.WriteFault
stopped_by (Err refused.NoMemory) = Err stopped.NoMemory

-- the newest answers were told, by other names of the loads and the answers
pub last_told : (tells : Bool) (Counted : (ℕ → ℕ) → Type 0) (past : List Item) (loads : List Loaded) (answers : List Output) (counts : ℕ → ℕ) (before held : Option (List ℕ)) (r : Result (Unit {0}) WriteRefused)
    → loads ≡ loads_of past → answers ≡ last_outputs past → AreTold tells Counted loads counts answers before held r → LastTold tells Counted past counts before held (stopped_by r)
last_told tells Counted past loads answers counts before held r same_loads same_answers told =
    of r (subst (λ (l : List Loaded). AreTold tells Counted l counts (last_outputs past) before held r) same_loads
    (subst (λ (a : List Output). AreTold tells Counted loads counts a before held r) same_answers told))
  where
    of : (r : Result (Unit {0}) WriteRefused) → AreTold tells Counted (loads_of past) counts (last_outputs past) before held r → LastTold tells Counted past counts before held (stopped_by r)
    of (Ok x) t = t
    of (Err refused.Failed) t = t
    of (Err refused.NoMemory) t = t

-- nothing was counted at first
pub none_counted : (t : Telling) (counts : List (ℕ × ℕ)) → t ≡ telling.Answers counts → ((c : ℕ) → counted counts c ≡ 0) → HasCounted t (sent [])
none_counted t counts is none = subst (λ (x : Telling). HasCounted x (sent [])) (sym is) (λ k c. none c k)

-- nothing was written of answers that are told
pub none_told : (t : Telling) (counts : List (ℕ × ℕ)) (held : Option (List ℕ)) (text : List ℕ) → t ≡ telling.Answers counts → OnlyTold (tells t) (GotFront held held text)
none_told t counts held text is = subst (λ (b : Bool). OnlyTold b (GotFront held held text)) (sym (ap tells is)) (front_none held text)
