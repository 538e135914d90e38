-- The audit text stands where a run has written nothing.
use Rattle.std.proofs.Common.{◌≡◌, ◌≢◌, ◌++◌, [], List, ℕ, Bool, false, Option, refl, sym, ap, subst, append-nil, inl, inr}
use Rattle.pk_outside.specs.Streams.{Got, GotFront}
use Rattle.pk_outside.proofs.Written.{Gave-none, Got-more, Got-none}
use Rattle.authority_model.specs.declared.journal.History.{History}
use Rattle.authority_model.specs.declared.journal.Item.{Item}
use Rattle.authority_model.specs.declared.journal.Limits.{Limits}
use Rattle.authority_model.specs.declared.load.Loaded.{Loaded}
use Rattle.authority_model.specs.Items.{items_of}
use Rattle.authority_model.specs.Legal.{IsLegal}
use Rattle.authority_laws.proofs.Tracing.{access}
use Rattle.audit_text.specs.Audit.{audit_text}
use Rattle.scenario_run.specs.Room.{whole}
use Rattle.scenario_run.specs.Scene.{Scene, start}
use Rattle.replay_run.specs.declared.ends.ReplayEnd.{ReplayEnd}
use Rattle.replay_run.specs.declared.ends.ReplayEnd.TheVariants as end
use Rattle.replay_run.specs.Audited.{Audits, IsAudited, IsWritten}
use Rattle.replay_run.specs.Replay.{IsRun, Plays, replay_history}
use Rattle.replay_run.proofs.FirstLoads.{GoesOn}

-- a run that stopped before the input ended wrote nothing
pub unwritten : (begin : Scene) (l0 l : Option (List ℕ)) (ended : Bool) (before held : Option (List ℕ)) (st : ReplayEnd) → st ≢ end.Done → Plays false [] begin l0 l ended before held st
    → Audits begin l0 l ended before held st
unwritten begin l0 l ended before held end.Done other r = absurd (other refl)
unwritten begin l0 l ended before held (end.TreeFault count) other r = r
unwritten begin l0 l ended before held (end.LoadRefused why) other r = r
unwritten begin l0 l ended before held end.ReadFault other r = r
unwritten begin l0 l ended before held end.WriteFault other r = absurd r.run
unwritten begin l0 l ended before held (end.Full full) other r = r
unwritten begin l0 l ended before held (end.BadLine line why) other r = r
unwritten begin l0 l ended before held end.SegmentFault other r = r
unwritten begin l0 l ended before held end.NoMemory other r = r

-- memory was refused before the run began
pub unbegun : (begin : Scene) (left : Option (List ℕ)) (ended : Bool) (held : Option (List ℕ)) → Plays false [] begin left left ended held held end.NoMemory
unbegun begin left ended held = record {
  read = [];
  written = [];
  past = [];
  gave = Gave-none left;
  got = Got-none held;
  legal = tt;
  licensed = tt;
  run = (inr (λ more. (replay_history begin more, sym (append-nil (replay_history begin more)))), ([], refl));
}

-- a run of the whole input wrote nothing either
nothing : (begin : Scene) (l0 l : Option (List ℕ)) (ended : Bool) (before held : Option (List ℕ)) → Plays false [] begin l0 l ended before held end.Done → Got before held []
nothing begin l0 l ended before held r = subst (λ (bytes : List ℕ). Got before held bytes) r.run.3 r.got

-- memory was refused for the text, and nothing was written
refused : (begin : Scene) (l0 l : Option (List ℕ)) (ended : Bool) (before mid held : Option (List ℕ)) → Plays false [] begin l0 l ended before mid end.Done → held ≡ mid
    → Plays false [] begin l0 l ended before held end.NoMemory
refused begin l0 l ended before mid held r same = record {
  read = r.read;
  written = r.written;
  past = r.past;
  gave = r.gave;
  got = subst (λ (h : Option (List ℕ)). Got before h r.written) (sym same) r.got;
  legal = r.legal;
  licensed = r.licensed;
  run = (inl (r.run.0, ([], r.run.2)), ([], ap (λ (w : List ℕ). w ++ []) (sym r.run.3)));
}

wrote_whole : (before mid held : Option (List ℕ)) (text : List ℕ) → Got before mid [] → Got mid held text → Got before held text
wrote_whole before mid held text none got = Got-more before mid held [] text none got

front : (before mid held : Option (List ℕ)) (text : List ℕ) → Got before mid [] → GotFront mid held text → GotFront before held text
front before mid held text none f = (f.0, (f.1.0, f.1.1, wrote_whole before mid held f.1.0 none f.1.2))

audited : (begin : Scene) (l0 l : Option (List ℕ)) (ended : Bool) (history : History) (Written : List ℕ → Type 0) → IsLegal history → IsRun begin l0 l ended (items_of history)
    → Written (audit_text history) → IsAudited begin l0 l ended Written
audited begin l0 l ended history Written legal run written = record {
  history = history;
  legal = legal;
  licensed = access (items_of history) legal.items;
  run = run;
  written = written;
}

-- the audit text of the history was written behind a run of the whole input, as far as its end says
pub audited_so : (begin : Scene) (l0 l : Option (List ℕ)) (ended : Bool) (before mid held : Option (List ℕ)) (history : History) (past : List Item) (st : ReplayEnd)
    → Plays false [] begin l0 l ended before mid end.Done → IsRun begin l0 l ended past → items_of history ≡ past → IsLegal history → IsWritten history mid held st
    → Audits begin l0 l ended before held st
audited_so begin l0 l ended before mid held history past st r run items legal written =
    of st (subst (λ (p : List Item). IsRun begin l0 l ended p) (sym items) run) (nothing begin l0 l ended before mid r) written
  where
    of : (st : ReplayEnd) → IsRun begin l0 l ended (items_of history) → Got before mid [] → IsWritten history mid held st → Audits begin l0 l ended before held st
    of end.Done run none w = audited begin l0 l ended history (Got before held) legal run (wrote_whole before mid held (audit_text history) none w)
    of end.WriteFault run none w = audited begin l0 l ended history (GotFront before held) legal run (front before mid held (audit_text history) none w)
    of end.NoMemory run none w = refused begin l0 l ended before mid held r w
    of (end.TreeFault count) run none w = absurd w
    of (end.LoadRefused why) run none w = absurd w
    of end.ReadFault run none w = absurd w
    of (end.Full full) run none w = absurd w
    of (end.BadLine line why) run none w = absurd w
    of end.SegmentFault run none w = absurd w

-- no audit ends by its first load once it has begun
pub goes_on : (limits : Limits) (l0 l : Option (List ℕ)) (ended : Bool) (before held : Option (List ℕ)) → GoesOn (λ (first : Loaded). Audits (start (whole limits) first) l0 l ended before held)
goes_on limits l0 l ended before held = record {
  no_fault = λ first count r. r.run;
  no_refusal = λ first why r. r.run;
}
