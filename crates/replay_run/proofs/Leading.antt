-- A run behind what was skipped.
use Rattle.std.proofs.Common.{true, ◌++◌, [], List, ℕ, Bool, Option, refl, sym, ◌∙◌, ap, append_assoc, append-nil, inr}
use Rattle.pk_outside.specs.Streams.{Got, GotFront}
use Rattle.pk_outside.proofs.Written.{Gave-none, Got-more, Got-none}
use Rattle.scenario_run.specs.Room.{Keeping}
use Rattle.authority_model.specs.declared.load.Loaded.{Loaded}
use Rattle.scenario_run.specs.Scene.{Scene, start}
use Rattle.scenario_text.specs.Skipped.{skipped_lines}
use Rattle.replay_run.proofs.FirstLoads.{GoesOn}
use Rattle.scenario_run.specs.Text.{text_of}
use Rattle.authority_model.specs.declared.journal.Item.{Item}
use Rattle.replay_run.specs.declared.ends.ReplayEnd.{ReplayEnd}
use Rattle.replay_run.specs.declared.ends.ReplayEnd.TheVariants as end
use Rattle.replay_run.specs.declared.written.WriteRefused.{WriteRefused}
use Rattle.replay_run.specs.declared.written.WriteRefused.TheVariants as refused
use Rattle.replay_run.specs.Lines.{end_of_write}
use Rattle.replay_run.specs.Replay.{IsBegun, IsFront, Played, Replays, Whatever, replay_history}

front_after : (lead written text : List ℕ) → IsFront written text → IsFront (lead ++ written) (lead ++ text)
front_after lead written text f = (f.0, ap (λ t. lead ++ t) f.1 ∙ sym (append_assoc lead written f.0))

-- what a run wrote stands behind the first bytes
replayed_after : (lead : List ℕ) (begin : Scene) (ended : Bool) (read : List ℕ) (past : List Item) (written : List ℕ) (st : ReplayEnd) → Played true [] begin ended read past written st
    → Played true lead begin ended read past (lead ++ written) st
replayed_after lead begin ended read past written end.Done run = (run.0, run.1, run.2, ap (λ t. lead ++ t) run.3)
replayed_after lead begin ended read past written (end.BadLine line why) run = (run.0, ap (λ t. lead ++ t) run.1)
replayed_after lead begin ended read past written (end.Full full) run = (run.0, ap (λ t. lead ++ t) run.1)
replayed_after lead begin ended read past written end.SegmentFault run = (run.0, run.1, ap (λ t. lead ++ t) run.2)
replayed_after lead begin ended read past written end.ReadFault run = (run.0, ap (λ t. lead ++ t) run.1)
replayed_after lead begin ended read past written end.WriteFault run = (run.0, front_after lead written (text_of past) run.1)
replayed_after lead begin ended read past written end.NoMemory run = (run.0, front_after lead written (text_of past) run.1)
replayed_after lead begin ended read past written (end.TreeFault count) run = absurd run
replayed_after lead begin ended read past written (end.LoadRefused refused) run = absurd run

pub run_after : (lead : List ℕ) (begin : Scene) (l0 l : Option (List ℕ)) (ended : Bool) (before mid held : Option (List ℕ)) (st : ReplayEnd) → Got before mid lead → Replays [] begin l0 l ended mid held st
    → Replays lead begin l0 l ended before held st
run_after lead begin l0 l ended before mid held st got r = record {
  read = r.read;
  written = lead ++ r.written;
  past = r.past;
  gave = r.gave;
  got = Got-more before mid held lead r.written got r.got;
  legal = r.legal;
  licensed = r.licensed;
  run = replayed_after lead begin ended r.read r.past r.written st r.run;
}

-- the first bytes were refused, and a prefix of them was written
pub lead_refused : (lead : List ℕ) (begin : Scene) (left : Option (List ℕ)) (ended : Bool) (before held : Option (List ℕ)) (why : WriteRefused) → GotFront before held lead
    → Replays lead begin left left ended before held (end_of_write why)
lead_refused lead begin left ended before held why front = record {
  read = [];
  written = front.1.0;
  past = [];
  gave = Gave-none left;
  got = front.1.2;
  legal = tt;
  licensed = tt;
  run = of why;
}
  where
    stands : Whatever ended (IsBegun begin []) [] × IsFront front.1.0 (lead ++ [])
    stands = (inr (λ more. (replay_history begin more, sym (append-nil (replay_history begin more)))), (front.0, append-nil lead ∙ front.1.1))

    of : (why : WriteRefused) → Played true lead begin ended [] [] front.1.0 (end_of_write why)
    of refused.Failed = stands
    of refused.NoMemory = stands

-- memory was refused once the first bytes were written
pub begin_refused : (lead : List ℕ) (begin : Scene) (left : Option (List ℕ)) (ended : Bool) (before held : Option (List ℕ)) → Got before held lead → Replays lead begin left left ended before held end.NoMemory
begin_refused lead begin left ended before held got = record {
  read = [];
  written = lead;
  past = [];
  gave = Gave-none left;
  got = got;
  legal = tt;
  licensed = tt;
  run = (inr (λ more. (replay_history begin more, sym (append-nil (replay_history begin more)))), ([], refl));
}

-- no replay ends by its first load once it has begun
pub goes_on : (keeping : Keeping) (l0 l : Option (List ℕ)) (ended : Bool) (before held : Option (List ℕ)) → GoesOn (λ (first : Loaded). Replays (skipped_lines first.faults) (start keeping first) l0 l ended before held)
goes_on keeping l0 l ended before held = record {
  no_fault = λ first count r. r.run;
  no_refusal = λ first why r. r.run;
}
