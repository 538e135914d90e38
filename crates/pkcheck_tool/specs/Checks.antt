-- What a check says at each status.
use Rattle.std.specs.Prelude.{◌≡◌, ◌⊎◌, ℕ, Bool, IsTrue, List, [], ◌∷◌, ◌++◌, Option, Some, None, Result, Ok, Err}
use Rattle.pk_outside.specs.Causes.{Rose, one_more}
use Rattle.pk_outside.specs.Links.{Hung}
use Rattle.pk_outside.specs.Stations.{StationTold}
use Rattle.pk_outside.specs.Streams.{Got, GotFront}
use Rattle.link_handshake.specs.Clients.{awaited}
use Rattle.link_handshake.specs.Shakes.{Begun}
use Rattle.client_link.specs.declared.stop.LinkStop.TheVariants as stop
use Rattle.client_link.specs.Faults.{OneFailed}
use Rattle.pk_outside.specs.Allowing.{IsFront}
use Rattle.client_commands.specs.declared.check.reading.CheckPlan.{CheckPlan}
use Rattle.client_commands.specs.CheckPlans.{plan_of}
use Rattle.pkcheck_tool.specs.declared.reply.Reply.{Reply}
use Rattle.pkcheck_tool.specs.declared.status.CheckStatus.{CheckStatus}
use Rattle.pkcheck_tool.specs.declared.status.CheckStatus.TheVariants as status
use Rattle.pkcheck_tool.specs.Asking.{Replies, Says, sent_bytes}
use Rattle.pkcheck_tool.specs.Replies.{lines_of, status_of}

-- # The link

-- The station dialled the next of its links at this path and took it back, hung up behind those before:
-- these bytes were read of it and these written to it, its directions counted so many faults, and where
-- it ended nothing of it is left.
pub record ComesBack (path : List ℕ) (before after : StationTold) (read written : List ℕ) (ended : Bool) (read_faults write_faults : ℕ) : Type 0 where
  pub back : Hung
  pub links : List (List ℕ)
  pub path_is : back.path ≡ path
  pub dialled : before.links ≡ back.link.given ∷ links
  pub hung : after ≡ record before { links = links; hung = before.hung ++ back ∷ [] }
  pub given_is : back.link.given ≡ read ++ back.link.left
  pub written_is : back.link.written ≡ written
  pub read_faults_are : back.link.read_faults ≡ read_faults
  pub write_faults_are : back.link.write_faults ≡ write_faults
  pub all : IsTrue ended → back.link.left ≡ []

-- the same of a station that may tell nothing
abbrev pub Visits : List ℕ → Option StationTold → Option StationTold → List ℕ → List ℕ → Bool → ℕ → ℕ → Type 0
Visits path None None read written ended read_faults write_faults = Unit {0}
Visits path None (Some after) read written ended read_faults write_faults = ⊥
Visits path (Some before) None read written ended read_faults write_faults = ⊥
Visits path (Some before) (Some after) read written ended read_faults write_faults = ComesBack path before after read written ended read_faults write_faults

-- The door of the plan was dialled once and hung up, its two directions counted so many faults, and this holds of what was read and written between.
pub record Visited (plan : CheckPlan) (told_before told : Option StationTold) (read_faults write_faults : ℕ) (P : Bool → List ℕ → List ℕ → Type 0) : Type 0 where
  pub read : List ℕ
  pub written : List ℕ
  pub ended : Bool
  pub visits : Visits plan.path told_before told read written ended read_faults write_faults
  pub holds : P ended read written

-- the link failed, so that the station counted a fault when it came back
pub record LinkFailed (plan : CheckPlan) (told_before told : Option StationTold) : Type 0 where
  pub read_faults : ℕ
  pub write_faults : ℕ
  pub one : OneFailed 0 read_faults 0 write_faults
  pub visited : Visited plan told_before told read_faults write_faults (λ ended read written. IsFront written (sent_bytes plan))

-- What was told by the station where there is no reply, by the status; it counted so many faults before and after.
abbrev pub Unanswered : CheckPlan → Option StationTold → Option StationTold → ℕ → ℕ → CheckStatus → Type 0
Unanswered plan told_before told before now status.StationFault =
    Rose before now × ((told ≡ told_before) ⊎ LinkFailed plan told_before told)
Unanswered plan told_before told before now (status.BadShake fault) =
    Visited plan told_before told 0 0 (λ ended read written. Says plan ended read written (Err (stop.BadShake fault)))
Unanswered plan told_before told before now (status.BadBytes kind at) =
    Visited plan told_before told 0 0 (λ ended read written. Says plan ended read written (Err (stop.BadBytes kind at)))
Unanswered plan told_before told before now status.Cut =
    Visited plan told_before told 0 0 (λ ended read written. Says plan ended read written (Err stop.Cut))
Unanswered plan told_before told before now status.NoMemory =
    (told ≡ told_before) ⊎ Visited plan told_before told 0 0 (λ ended read written. IsFront written (sent_bytes plan))
Unanswered plan told_before told before now other = ⊥

-- the reply was told over the link
abbrev pub Answered : CheckPlan → Option StationTold → Option StationTold → Reply → Type 0
Answered plan told_before told reply = Visited plan told_before told 0 0 (λ ended read written. Says plan ended read written (Ok reply))

-- the same of either
abbrev pub Asks : CheckPlan → Option StationTold → Option StationTold → ℕ → ℕ → Result Reply CheckStatus → Type 0
Asks plan told_before told before now (Ok reply) = Answered plan told_before told reply
Asks plan told_before told before now (Err status) = Unanswered plan told_before told before now status

-- # The output

-- What was written of a reply, by the status: its lines, or a prefix of them where the output failed.
abbrev pub Tells : Reply → Option (List ℕ) → Option (List ℕ) → ℕ → ℕ → CheckStatus → Type 0
Tells reply held_before held before now status.WriteFault = GotFront held_before held (lines_of reply) × (now ≡ one_more before)
Tells reply held_before held before now status.NoMemory = (held ≡ held_before) × (now ≡ before)
Tells reply held_before held before now other = (other ≡ status_of reply) × Got held_before held (lines_of reply) × (now ≡ before)

-- # The check

-- What the station and the output tell before a check and after it, and how many faults they counted.
pub record Outside : Type 0 where
  pub told_before : Option StationTold
  pub told : Option StationTold
  pub station_faults_before : ℕ
  pub station_faults : ℕ
  pub held_before : Option (List ℕ)
  pub held : Option (List ℕ)
  pub output_faults_before : ℕ
  pub output_faults : ℕ

abbrev pub outside : Option StationTold → Option StationTold → ℕ → ℕ → Option (List ℕ) → Option (List ℕ) → ℕ → ℕ → Outside
outside told_before told station_faults_before station_faults held_before held output_faults_before output_faults = record {
  told_before = told_before;
  told = told;
  station_faults_before = station_faults_before;
  station_faults = station_faults;
  held_before = held_before;
  held = held;
  output_faults_before = output_faults_before;
  output_faults = output_faults;
}

-- nothing was written to the output, and it counted nothing
pub record IsSilent (o : Outside) : Type 0 where
  pub same : o.held ≡ o.held_before
  pub quiet : o.output_faults ≡ o.output_faults_before

-- neither the station nor the output was asked
pub record IsUntouched (o : Outside) : Type 0 where
  pub told : o.told ≡ o.told_before
  pub faults : o.station_faults ≡ o.station_faults_before
  pub silent : IsSilent o

-- the reply was told, has this status, and its lines were written
pub record IsTold (plan : CheckPlan) (o : Outside) (status : CheckStatus) : Type 0 where
  pub reply : Reply
  pub answered : Answered plan o.told_before o.told reply
  pub status_is : status ≡ status_of reply
  pub lines : Got o.held_before o.held (lines_of reply)
  pub quiet : o.output_faults ≡ o.output_faults_before

-- the reply was told, and the output failed at its lines
pub record IsUntold (plan : CheckPlan) (o : Outside) : Type 0 where
  pub reply : Reply
  pub answered : Answered plan o.told_before o.told reply
  pub lines : GotFront o.held_before o.held (lines_of reply)
  pub counted : o.output_faults ≡ one_more o.output_faults_before

-- What a check of this plan says, by its status.
abbrev pub Checked : CheckPlan → Outside → CheckStatus → Type 0
Checked plan o status.Yes = IsTold plan o status.Yes
Checked plan o status.No = IsTold plan o status.No
Checked plan o status.Challenge = IsTold plan o status.Challenge
Checked plan o status.Dismissed = IsTold plan o status.Dismissed
Checked plan o status.Error = IsTold plan o status.Error
Checked plan o status.WriteFault = IsUntold plan o
Checked plan o other = Unanswered plan o.told_before o.told o.station_faults_before o.station_faults other × IsSilent o

-- What a check says, by its status: the words are in the grammar but for `Usage`. Memory may be refused before they are read.
abbrev pub Checks : List (List ℕ) → Outside → CheckStatus → Type 0
Checks words o status.Usage = (plan_of words ≡ None) × IsUntouched o
Checks words o status.NoMemory = IsUntouched o ⊎ ((plan : CheckPlan) × (plan_of words ≡ Some plan) × Checked plan o status.NoMemory)
Checks words o other = (plan : CheckPlan) × (plan_of words ≡ Some plan) × Checked plan o other

-- # What has to come

-- A link accepts the client, and then gives messages up to the reply.
pub record GivesReply (given : List ℕ) (reply : Reply) : Type 0 where
  pub messages : List ℕ
  pub begins : awaited given ≡ Begun messages
  pub replies : Replies messages reply

-- Words in the grammar and a link that gives a reply come to the status of that reply, or to want of memory, where neither the station nor the output counts a fault.
abbrev pub Completes : List (List ℕ) → Outside → CheckStatus → Type 0
Completes words o answer =
    (plan : CheckPlan) (before : StationTold) (given : List ℕ) (links : List (List ℕ)) (reply : Reply) → plan_of words ≡ Some plan → o.told_before ≡ Some before → before.links ≡ given ∷ links → GivesReply given reply
    → (Rose o.station_faults_before o.station_faults → ⊥) → (Rose o.output_faults_before o.output_faults → ⊥) → (answer ≡ status_of reply) ⊎ (answer ≡ status.NoMemory)
