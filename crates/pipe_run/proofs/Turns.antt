-- What each of the things that are handed in makes of a stage.
use Rattle.std.proofs.Common.{◌≡◌, ◌⊎◌, ℕ, Bool, true, false, not, List, [], ◌∷◌, ◌++◌, Result, Ok, Err, OnOk, refl, ap, sym, ◌∙◌, subst, append-nil, arith, inl, inr}
use Rattle.std.specs.Prelude.{IfSome}
use Rattle.std.specs.Result.{IsErrAnd}
use Rattle.dbus_values.specs.Next.{Seen}
use Rattle.authority_model.specs.declared.event.Event.{Event}
use Rattle.authority_model.specs.declared.event.Event.TheVariants.{Connect, LoadFailed}
use Rattle.authority_model.specs.declared.journal.Item.{Item}
use Rattle.authority_model.specs.declared.load.Loaded.{Loaded}
use Rattle.authority_model.specs.Given.{Given, event_given, load_given, next}
use Rattle.authority_model.specs.Legal.{Legal}
use Rattle.authority_calls.specs.Events.{event_of}
use Rattle.policy_load.specs.declared.refused.LoadRefused.{LoadRefused}
use Rattle.policy_load.specs.Causes.{LoadCause, LoadsAs}
use Rattle.policy_load.specs.Codes.{code_of}
use Rattle.policy_load.specs.Loads.{load_of}
use Rattle.pipe_run.specs.declared.ends.Stopped.{Stopped}
use Rattle.pipe_run.specs.declared.served.TheConstants.{CONNECTION, LOADER}
use Rattle.pipe_run.specs.Answered.{Answers, IsReady, Service}
use Rattle.pipe_run.specs.Handed.{Opening, Progress, IsAsking, IsDue, IsLoading, IsNext, awaits_load, awaits_message, loading_given, wants_load}
use Rattle.pipe_run.specs.Stages.{Halted, Stage, Standing, Start, Turned}
use Rattle.pipe_run.specs.Supplies.{Took}
use Rattle.pipe_run.proofs.Staging.{handed_in, progress}
use Rattle.pipe_run.proofs.Supplying.{took_none}
use Rattle.pipe_run.proofs.Waiting.{failed_wants, load_wants, waits_after}

-- # When each is due

due_message : (o : Opening) (past : List Item) (before after : Progress) (g : Given) → awaits_message past ≡ true → IsAsking before.messages after.messages g → after.faults ≡ before.faults → IsDue o past before g after
due_message o [] before after g waits asks same = absurd (cc)
due_message o (i ∷ []) before after g waits asks same = absurd (cc)
due_message o (i ∷ j ∷ past) before after g waits asks same = of (wants_load i) waits
  where
    of : (b : Bool) → not b ≡ true → IsNext o b before g after
    of false e = (asks, same)
    of true e = absurd (cc)

due_load : (o : Opening) (past : List Item) (before after : Progress) (g : Given) → awaits_load past ≡ true → IsLoading o before.faults after.faults g → after.messages ≡ before.messages → IsDue o past before g after
due_load o [] before after g waits loads same = absurd (cc)
due_load o (i ∷ []) before after g waits loads same = absurd (cc)
due_load o (i ∷ j ∷ past) before after g waits loads same = of (wants_load i) waits
  where
    of : (b : Bool) → b ≡ true → IsNext o b before g after
    of true e = (loads, same)
    of false e = absurd (cc)

due_first : (o : Opening) (past : List Item) (p : Progress) (moment : ℕ) (first : Loaded) → past ≡ [] → o.first ≡ first → IsDue o past p (load_given LOADER moment first) p
due_first o past p moment first none is = subst (λ (items : List Item). IsDue o items p (load_given LOADER moment first) p) (sym none) (ap (load_given LOADER moment) (sym is), refl)

due_connect : (o : Opening) (past : List Item) (i : Item) (p : Progress) (moment word uid : ℕ) → past ≡ i ∷ [] → o.uid ≡ uid → IsDue o past p (event_given CONNECTION moment word (Connect uid)) p
due_connect o past i p moment word uid one is = subst (λ (items : List Item). IsDue o items p (event_given CONNECTION moment word (Connect uid)) p) (sym one) (ap (λ u. event_given CONNECTION moment word (Connect u)) (sym is), refl)

-- # What each makes of a stage

-- the first load
pub first_handed : (s : Start) (old new : Standing) (first : Loaded) (moment : ℕ) (result : Result (Unit {0}) Stopped) → s.opening.first ≡ first → old.service.past ≡ [] → Took old.clock new.clock (moment ∷ []) → new.salt ≡ old.salt → new.faults ≡ old.faults
    → new.held ≡ old.held → IsReady old.service
    → Stage s old [] → Answers old.service (load_given LOADER moment first) new.service result → Legal new.service.past → Turned s new [] [] result
first_handed s old new first moment result is none took same_salt same_faults same ready st a legal = handed_in s old new [] [] (load_given LOADER moment first) result st (record {
  due = subst (λ f. IsDue s.opening old.service.past (progress [] old.faults) (load_given LOADER moment first) (progress [] f)) (sym same_faults) (due_first s.opening old.service.past (progress [] old.faults) moment first none is);
  moment = took;
  word = subst (λ x. Took old.salt x []) (sym same_salt) (took_none old.salt);
  later = omega (arith, same_faults);
}) same ready a legal

-- the beginning of the connection
pub connect_handed : (s : Start) (old new : Standing) (i : Item) (uid moment word : ℕ) (result : Result (Unit {0}) Stopped) → s.opening.uid ≡ uid → old.service.past ≡ i ∷ [] → Took old.clock new.clock (moment ∷ []) → Took old.salt new.salt (word ∷ [])
    → new.faults ≡ old.faults → new.held ≡ old.held → IsReady old.service → Stage s old [] → Answers old.service (event_given CONNECTION moment word (Connect uid)) new.service result → Legal new.service.past → Turned s new [] [] result
connect_handed s old new i uid moment word result is one took took_word same_faults same ready st a legal = handed_in s old new [] [] (event_given CONNECTION moment word (Connect uid)) result st (record {
  due = subst (λ f. IsDue s.opening old.service.past (progress [] old.faults) (event_given CONNECTION moment word (Connect uid)) (progress [] f)) (sym same_faults) (due_connect s.opening old.service.past i (progress [] old.faults) moment word uid one is);
  moment = took;
  word = took_word;
  later = omega (arith, same_faults);
}) same ready a legal

-- what a message asks
pub message_handed : (s : Start) (old new : Standing) (messages : List Seen) (m : Seen) (moment word : ℕ) (event : Event) (result : Result (Unit {0}) Stopped) → event ≡ event_of m → awaits_message old.service.past ≡ true → Took old.clock new.clock (moment ∷ [])
    → Took old.salt new.salt (word ∷ []) → new.faults ≡ old.faults → new.held ≡ old.held → IsReady old.service → Stage s old messages → Answers old.service (event_given CONNECTION moment word event) new.service result → Legal new.service.past
    → Turned s new messages (messages ++ m ∷ []) result
message_handed s old new messages m moment word event result is waits took took_word same_faults same ready st a legal = handed_in s old new messages (messages ++ m ∷ []) (event_given CONNECTION moment word event) result st (record {
  due = due_message s.opening old.service.past (progress messages old.faults) (progress (messages ++ m ∷ []) new.faults) (event_given CONNECTION moment word event) waits
      (record { message = m; given_is = ap (event_given CONNECTION moment word) is; next = refl }) same_faults;
  moment = took;
  word = took_word;
  later = omega (arith, same_faults);
}) same ready a legal

-- a load that was asked for
load_handed : (s : Start) (old new : Standing) (messages : List Seen) (moment : ℕ) (gave : Result Loaded LoadRefused) (result : Result (Unit {0}) Stopped) → awaits_load old.service.past ≡ true → IfSome s.opening.told (λ tree. LoadsAs (load_of tree s.opening.root) gave)
    → LoadCause old.faults new.faults gave → Took old.clock new.clock (moment ∷ []) → new.salt ≡ old.salt → new.held ≡ old.held → IsReady old.service → Stage s old messages → Answers old.service (loading_given gave moment) new.service result → Legal new.service.past
    → Turned s new messages messages result
load_handed s old new messages moment (Ok loaded) result waits due cause took same_salt same ready st a legal = handed_in s old new messages messages (load_given LOADER moment loaded) result st (record {
  due = due_load s.opening old.service.past (progress messages old.faults) (progress messages new.faults) (load_given LOADER moment loaded) waits (record { gave = Ok loaded; given_is = refl; due = due; cause = cause }) refl;
  moment = took;
  word = subst (λ x. Took old.salt x []) (sym same_salt) (took_none old.salt);
  later = cause.later;
}) same ready a legal
load_handed s old new messages moment (Err refused) result waits due cause took same_salt same ready st a legal = handed_in s old new messages messages (event_given LOADER moment 0 (LoadFailed (code_of refused))) result st (record {
  due = due_load s.opening old.service.past (progress messages old.faults) (progress messages new.faults) (event_given LOADER moment 0 (LoadFailed (code_of refused))) waits (record { gave = Err refused; given_is = refl; due = due; cause = cause }) refl;
  moment = took;
  word = subst (λ x. Took old.salt x []) (sym same_salt) (took_none old.salt);
  later = cause.later;
}) same ready a legal

pub loaded_handed : (s : Start) (old new : Standing) (messages : List Seen) (moment : ℕ) (gave : Result Loaded LoadRefused) (g : Given) (result : Result (Unit {0}) Stopped) → g ≡ loading_given gave moment → awaits_load old.service.past ≡ true
    → IfSome s.opening.told (λ tree. LoadsAs (load_of tree s.opening.root) gave) → LoadCause old.faults new.faults gave → Took old.clock new.clock (moment ∷ []) → new.salt ≡ old.salt → new.held ≡ old.held → IsReady old.service → Stage s old messages
    → Answers old.service g new.service result → Legal new.service.past → Turned s new messages (messages ++ []) result
loaded_handed s old new messages moment gave g result is waits due cause took same_salt same ready st a legal =
    subst (λ (ms : List Seen). Turned s new messages ms result) (sym (append-nil messages))
    (load_handed s old new messages moment gave result waits due cause took same_salt same ready st (subst (λ (x : Given). Answers old.service x new.service result) is a) legal)

loading_wants : (past : List Item) (gave : Result Loaded LoadRefused) (moment : ℕ) → wants_load (next past (loading_given gave moment)) ≡ false
loading_wants past (Ok loaded) moment = load_wants past LOADER moment loaded
loading_wants past (Err refused) moment = failed_wants past LOADER moment (code_of refused)

-- behind a load a message is due
pub loaded_waits : (old new : Service) (moment : ℕ) (gave : Result Loaded LoadRefused) (g : Given) (result : Result (Unit {0}) Stopped) → g ≡ loading_given gave moment → awaits_load old.past ≡ true → Answers old g new result
    → OnOk result (awaits_message new.past ≡ true)
loaded_waits old new moment gave g (Err why) is waits a = tt
loaded_waits old new moment gave g (Ok done) is waits a =
    waits_after old.past new.past (next old.past g) a.0.past waits (subst (λ (x : Given). wants_load (next old.past x) ≡ false) (sym is) (loading_wants old.past gave moment))

-- # Where a call answers by the error of another

pub turned_refused : (s : Start) (now : Standing) (before with_it : List Seen) (result : Result (Unit {0}) Stopped) (why : Stopped) → IsErrAnd result (λ (y : Stopped). y ≡ why) → Halted s now before with_it why → Turned s now before with_it result
turned_refused s now before with_it (Ok done) why is h = absurd is
turned_refused s now before with_it (Err y) why is h = subst (Halted s now before with_it) (sym is) h

-- it was stopped behind the message
pub halted_with : (s : Start) (now : Standing) (before with_it : List Seen) (why : Stopped) → Halted s now with_it (with_it ++ []) why → Halted s now before with_it why
halted_with s now before with_it why h = record {
  halt = h.halt;
  messages = of h.messages;
  legal = h.legal;
  moments = h.moments;
  words = h.words;
  written = h.written;
  by = h.by;
}
  where
    of : (h.halt.progress.messages ≡ with_it) ⊎ (h.halt.progress.messages ≡ with_it ++ []) → (h.halt.progress.messages ≡ before) ⊎ (h.halt.progress.messages ≡ with_it)
    of (inl is) = inr is
    of (inr is) = inr (is ∙ append-nil with_it)

pub stage_with : (s : Start) (now : Standing) (messages : List Seen) → Stage s now (messages ++ []) → Stage s now messages
stage_with s now messages st = subst (Stage s now) (append-nil messages) st
