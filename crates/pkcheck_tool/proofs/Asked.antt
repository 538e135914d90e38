-- What is known when the link was hung up, by the end of the conversation.
use Rattle.std.proofs.Common.{◌≡◌, ◌≤◌, ◌⊎◌, ◌+◌, ℕ, Bool, true, false, List, [], ◌++◌, Option, Some, None, Result, Ok, Err, refl, sym, ap, subst, ◌∙◌, inl, inr}
use Rattle.std.specs.Prelude.{IsTrue}
use Rattle.pk_outside.specs.Causes.{Rose, RoseWhere, one_more}
use Rattle.pk_outside.specs.Links.{EndsTell, Origin, bytes_of}
use Rattle.pk_outside.specs.Stations.{Dials, Hangs, StationTold, has_fault}
use Rattle.pk_outside.specs.Streams.{Gave, Got, IsUsedUp}
use Rattle.client_link.specs.declared.stop.LinkStop.{LinkStop}
use Rattle.client_link.specs.declared.stop.LinkStop.TheVariants as stop
use Rattle.client_link.specs.Faults.{LinkFaults, OneFailed}
use Rattle.client_commands.specs.declared.check.reading.CheckPlan.{CheckPlan}
use Rattle.pkcheck_tool.specs.declared.reply.Reply.{Reply}
use Rattle.pkcheck_tool.specs.declared.status.CheckStatus.{CheckStatus}
use Rattle.pkcheck_tool.specs.Asking.{Converses, Says, sent_bytes}
use Rattle.pkcheck_tool.specs.Checks.{Asks, LinkFailed, Visited, Visits}
use Rattle.pkcheck_tool.specs.Statuses.{status_of_stop}
use Rattle.pk_outside.specs.Allowing.{IsFront}
use Rattle.pkcheck_tool.proofs.Visiting.{rose_later, visits}

-- how an answer of the conversation is answered
abbrev pub answered : Result Reply LinkStop → Result Reply CheckStatus
answered (Ok reply) = Ok reply
answered (Err why) = Err (status_of_stop why)

-- a link that was dialled, used and hung up: what the station told before, between and after, its counts, what the two directions tell, and their counts
pub record HungUp (plan : CheckPlan) (a c : Option StationTold) (before now : ℕ) (rf wf : ℕ) (r : Result Reply LinkStop) : Type 0 where
  pub b : Option StationTold
  pub between : ℕ
  pub origin : Option Origin
  pub origin' : Option Origin
  pub left0 : Option (List ℕ)
  pub left : Option (List ℕ)
  pub held0 : Option (List ℕ)
  pub held : Option (List ℕ)
  pub ended : Bool
  pub dials : Dials plan.path a b origin
  pub later : before ≤ between
  pub same : origin' ≡ origin
  pub first : left0 ≡ bytes_of origin
  pub unwritten : IsUsedUp held0
  pub converses : Converses plan left0 left ended held0 held r
  pub faults : LinkFaults 0 rf 0 wf r
  pub hangs : Hangs b c (EndsTell origin' left held rf wf)
  pub count : RoseWhere (has_fault rf wf) between now
  pub all : IsTrue ended → IsUsedUp left

-- what was read and written
visited : (plan : CheckPlan) (a c : Option StationTold) (before now rf wf : ℕ) (r : Result Reply LinkStop) (h : HungUp plan a c before now rf wf r) (P : Bool → List ℕ → List ℕ → Type 0)
    → ((ended : Bool) (read written : List ℕ) → Says plan ended read written r → P ended read written) → Visited plan a c rf wf P
visited plan a c before now rf wf r h P says = record {
  read = h.converses.read;
  written = h.converses.written;
  ended = h.ended;
  visits = visits plan.path a h.b c h.origin h.origin' h.left0 h.left h.held0 h.held h.converses.read h.converses.written h.ended rf wf h.dials h.same h.first h.converses.gave h.unwritten h.converses.got h.hangs h.all;
  holds = says h.ended h.converses.read h.converses.written h.converses.says;
}

-- neither direction failed
quiet : (plan : CheckPlan) (a c : Option StationTold) (rf wf : ℕ) (P : Bool → List ℕ → List ℕ → Type 0) → rf ≡ 0 → wf ≡ 0 → Visited plan a c rf wf P → Visited plan a c 0 0 P
quiet plan a c rf wf P r w v = subst (λ (n : ℕ). Visited plan a c n 0 P) r (subst (λ (n : ℕ). Visited plan a c rf n P) w v)

-- one of them did
one_rose : (rf wf before between now : ℕ) → OneFailed 0 rf 0 wf → before ≤ between → RoseWhere (has_fault rf wf) between now → Rose before now
one_rose rf wf before between now (inl p) later count =
    rose_later before between now later (subst (λ (n : ℕ). RoseWhere (has_fault 1 n) between now) p.1 (subst (λ (n : ℕ). RoseWhere (has_fault n wf) between now) p.0 count)).1
one_rose rf wf before between now (inr p) later count =
    rose_later before between now later (subst (λ (n : ℕ). RoseWhere (has_fault 0 n) between now) p.1 (subst (λ (n : ℕ). RoseWhere (has_fault n wf) between now) p.0 count)).1

pub asked : (plan : CheckPlan) (a c : Option StationTold) (before now rf wf : ℕ) (r : Result Reply LinkStop) → HungUp plan a c before now rf wf r → Asks plan a c before now (answered r)
asked plan a c before now rf wf (Ok reply) h = quiet plan a c rf wf _ h.faults.0 h.faults.1 (visited plan a c before now rf wf (Ok reply) h _ (λ e r w s. s))
asked plan a c before now rf wf (Err stop.Failed) h = (
  one_rose rf wf before h.between now h.faults h.later h.count,
  inr (record { read_faults = rf; write_faults = wf; one = h.faults; visited = visited plan a c before now rf wf (Err stop.Failed) h _ (λ e r w s. s) }),
)
asked plan a c before now rf wf (Err (stop.BadShake fault)) h = quiet plan a c rf wf _ h.faults.0 h.faults.1 (visited plan a c before now rf wf (Err (stop.BadShake fault)) h _ (λ e r w s. s))
asked plan a c before now rf wf (Err (stop.BadBytes kind at)) h = quiet plan a c rf wf _ h.faults.0 h.faults.1 (visited plan a c before now rf wf (Err (stop.BadBytes kind at)) h _ (λ e r w s. s))
asked plan a c before now rf wf (Err stop.Cut) h = quiet plan a c rf wf _ h.faults.0 h.faults.1 (visited plan a c before now rf wf (Err stop.Cut) h _ (λ e r w s. s))
asked plan a c before now rf wf (Err stop.NoMemory) h = inr (quiet plan a c rf wf _ h.faults.0 h.faults.1 (visited plan a c before now rf wf (Err stop.NoMemory) h _ (λ e r w s. s)))
