-- From what was told to the status.
use Rattle.std.proofs.Common.{◌≡◌, ◌⊎◌, ℕ, Bool, true, false, List, [], ◌++◌, Option, Some, None, refl, sym, ap, ◌∙◌, inl, inr, append-nil, cond}
use Rattle.pk_types.specs.declared.values.Pair.{Pair}
use Rattle.pk_outside.specs.Allowing.{IsFront}
use Rattle.client_commands.specs.declared.check.reading.CheckPlan.{CheckPlan}
use Rattle.client_commands.specs.CheckPlans.{plan_of}
use Rattle.pkcheck_tool.specs.declared.reply.Reply.{Reply}
use Rattle.pkcheck_tool.specs.declared.reply.Reply.TheVariants as reply
use Rattle.pkcheck_tool.specs.declared.reply.TheConstants.{DISMISSED}
use Rattle.pkcheck_tool.specs.declared.status.CheckStatus.{CheckStatus}
use Rattle.pkcheck_tool.specs.declared.status.CheckStatus.TheVariants as status
use Rattle.pkcheck_tool.specs.Asking.{sent_bytes}
use Rattle.pkcheck_tool.specs.Checks.{Answered, Checked, Checks, IsSilent, IsTold, Outside, Tells, Unanswered, Visited}
use Rattle.pkcheck_tool.specs.Replies.{has_key, status_of}

-- whether a status is that of a reply
is_told : CheckStatus → Bool
is_told status.Yes = true
is_told status.No = true
is_told status.Challenge = true
is_told status.Dismissed = true
is_told status.Error = true
is_told other = false

told_where : (dismissed : Bool) → is_told (cond dismissed status.Dismissed status.No) ≡ true
unfolding is_told
told_where true = refl
told_where false = refl

told_status : (r : Reply) → is_told (status_of r) ≡ true
unfolding is_told
told_status (reply.Verdict true challenge details) = refl
told_status (reply.Verdict false true details) = refl
told_status (reply.Verdict false false details) = told_where (has_key DISMISSED.now details)
told_status (reply.Error name) = refl

no_reply : (r : Reply) (s : CheckStatus) → is_told s ≡ false → s ≡ status_of r → ⊥
no_reply r s not_told e = no (sym not_told ∙ ap is_told e ∙ told_status r)
  where
    no : false ≡ true → ⊥
    no e = cc

-- all was sent
all_sent : (plan : CheckPlan) (written : List ℕ) → written ≡ sent_bytes plan → IsFront written (sent_bytes plan)
all_sent plan written e = ([], sym e ∙ sym (append-nil written))

pub checked_reply : (plan : CheckPlan) (o : Outside) (r : Reply) (s : CheckStatus) → Answered plan o.told_before o.told r → Tells r o.held_before o.held o.output_faults_before o.output_faults s → Checked plan o s
unfolding is_told
checked_reply plan o r status.Yes a t = record { reply = r; answered = a; status_is = t.0; lines = t.1; quiet = t.2 }
checked_reply plan o r status.No a t = record { reply = r; answered = a; status_is = t.0; lines = t.1; quiet = t.2 }
checked_reply plan o r status.Challenge a t = record { reply = r; answered = a; status_is = t.0; lines = t.1; quiet = t.2 }
checked_reply plan o r status.Dismissed a t = record { reply = r; answered = a; status_is = t.0; lines = t.1; quiet = t.2 }
checked_reply plan o r status.Error a t = record { reply = r; answered = a; status_is = t.0; lines = t.1; quiet = t.2 }
checked_reply plan o r status.WriteFault a t = record { reply = r; answered = a; lines = t.0; counted = t.1 }
checked_reply plan o r status.NoMemory a t = (
  inr (record { read = a.read; written = a.written; ended = a.ended; visits = a.visits; holds = all_sent plan a.written a.holds.1 }),
  record { same = t.0; quiet = t.1 },
)
checked_reply plan o r status.Usage a t = absurd (no_reply r status.Usage refl t.0)
checked_reply plan o r status.StationFault a t = absurd (no_reply r status.StationFault refl t.0)
checked_reply plan o r (status.BadShake fault) a t = absurd (no_reply r (status.BadShake fault) refl t.0)
checked_reply plan o r (status.BadBytes kind at) a t = absurd (no_reply r (status.BadBytes kind at) refl t.0)
checked_reply plan o r status.Cut a t = absurd (no_reply r status.Cut refl t.0)

pub checked_stop : (plan : CheckPlan) (o : Outside) (s : CheckStatus) → Unanswered plan o.told_before o.told o.station_faults_before o.station_faults s → IsSilent o → Checked plan o s
checked_stop plan o status.Yes u silent = absurd u
checked_stop plan o status.No u silent = absurd u
checked_stop plan o status.Challenge u silent = absurd u
checked_stop plan o status.Dismissed u silent = absurd u
checked_stop plan o status.Error u silent = absurd u
checked_stop plan o status.WriteFault u silent = absurd u
checked_stop plan o status.Usage u silent = absurd u
checked_stop plan o status.StationFault u silent = (u, silent)
checked_stop plan o (status.BadShake fault) u silent = (u, silent)
checked_stop plan o (status.BadBytes kind at) u silent = (u, silent)
checked_stop plan o status.Cut u silent = (u, silent)
checked_stop plan o status.NoMemory u silent = (u, silent)

pub checks : (words : List (List ℕ)) (plan : CheckPlan) (o : Outside) (s : CheckStatus) → plan_of words ≡ Some plan → Checked plan o s → Checks words o s
checks words plan o status.Usage is c = absurd c.0
checks words plan o status.NoMemory is c = inr (plan, is, c)
checks words plan o status.Yes is c = (plan, is, c)
checks words plan o status.No is c = (plan, is, c)
checks words plan o status.Challenge is c = (plan, is, c)
checks words plan o status.Dismissed is c = (plan, is, c)
checks words plan o status.Error is c = (plan, is, c)
checks words plan o status.WriteFault is c = (plan, is, c)
checks words plan o status.StationFault is c = (plan, is, c)
checks words plan o (status.BadShake fault) is c = (plan, is, c)
checks words plan o (status.BadBytes kind at) is c = (plan, is, c)
checks words plan o status.Cut is c = (plan, is, c)
