-- What may be written at each step of a run.
use Rattle.std.proofs.Common.{◌≡◌, ◌∙◌, ◌++◌, ◌∷◌, [], ℕ, List, Option, Result, Ok, Err, OnOk, ap, sym, refl, subst, append-nil, append_assoc}
use Rattle.pk_outside.specs.Allowing.{MayFronts, MayGo}
use Rattle.pk_outside.specs.Streams.{GotUpTo}
use Rattle.pk_outside.proofs.Going.{fronts_rest, may_go_whole}
use Rattle.authority_model.specs.declared.journal.Item.{Item}
use Rattle.authority_model.specs.declared.journal.Limits.{Limits}
use Rattle.authority_model.specs.Given.{Given, next}
use Rattle.authority_model.specs.Legal.{Legal}
use Rattle.authority_laws.proofs.Tracing.{access}
use Rattle.pipe_run.specs.declared.ends.Stopped.{Stopped}
use Rattle.pipe_run.specs.declared.served.TheConstants.{CONNECTION}
use Rattle.pipe_run.specs.Answered.{Answers, IsAdded, IsWrittenOut, Service, fresh}
use Rattle.pipe_run.specs.Bytes.{newest_bytes, sent_bytes}
use Rattle.pipe_run.specs.Promises.{MayGoOn, MayPipe}
use Rattle.pipe_run.proofs.Staging.{sent_more}

-- what is kept may be written
pub may_now : (Allowed : List ℕ → Type 0) (held : Option (List ℕ)) (s : Service) → MayGoOn Allowed held s → MayGo Allowed held s.unsent
may_now Allowed held s m =
    subst (MayGo Allowed held) (append-nil s.unsent)
    (may_go_whole Allowed held (s.unsent ++ []) (m.may s.past [] m.legal (access s.past m.legal) (sym (append-nil (sent_bytes CONNECTION s.past)))))

-- where a run begins
pub may_fresh : (Allowed : List ℕ → Type 0) (held : Option (List ℕ)) (s : Service) (limits : Limits) → s ≡ fresh limits → MayPipe Allowed held → MayGoOn Allowed held s
may_fresh Allowed held s limits is may = subst (MayGoOn Allowed held) (sym is) (record {
  legal = tt;
  may = λ past more goes licensed all. subst (MayFronts Allowed held) all (may past goes licensed);
})

-- once the first of what was kept was written
pub may_out : (Allowed : List ℕ → Type 0) (held held_after : Option (List ℕ)) (old new : Service) → IsWrittenOut old held new held_after → MayGoOn Allowed held old → MayGoOn Allowed held_after new
may_out Allowed held held_after old new w m = record {
  legal = subst Legal (sym w.past) m.legal;
  may = λ past more goes licensed is. fronts_rest Allowed held held_after old.unsent new.unsent more
      (m.may past more goes licensed (is ∙ ap (λ (p : List Item). sent_bytes CONNECTION p ++ more) w.past)) w.out;
}

-- once something was entered, and what it sends is kept
pub may_answer : (Allowed : List ℕ → Type 0) (held : Option (List ℕ)) (old new : Service) (g : Given) → Answers old g new (Ok tt) → Legal new.past → MayGoOn Allowed held old → MayGoOn Allowed held new
may_answer Allowed held old new g a legal m = record {
  legal = legal;
  may = λ past more goes licensed is. subst (MayFronts Allowed held) (sym (append_assoc old.unsent (newest_bytes CONNECTION new.past) more) ∙ ap (λ (t : List ℕ). t ++ more) (sym a.2))
      (m.may past (newest_bytes CONNECTION new.past ++ more) goes licensed
      (is ∙ ap (λ (t : List ℕ). t ++ more) (sent_more new.past old.past (next old.past g) a.0.past) ∙ append_assoc (sent_bytes CONNECTION old.past) (newest_bytes CONNECTION new.past) more));
}

-- the same, whatever came of it
pub may_answered : (Allowed : List ℕ → Type 0) (held : Option (List ℕ)) (old new : Service) (g : Given) (result : Result (Unit {0}) Stopped) → Answers old g new result → Legal new.past → MayGoOn Allowed held old → OnOk result (MayGoOn Allowed held new)
may_answered Allowed held old new g (Ok done) a legal m = may_answer Allowed held old new g a legal m
may_answered Allowed held old new g (Err why) a legal m = tt
