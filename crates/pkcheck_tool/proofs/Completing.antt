-- A link that gives a reply, and nothing that fails, come to the status of that reply.
use Rattle.std.proofs.Common.{◌≡◌, ◌⊎◌, ℕ, Bool, List, [], ◌∷◌, ◌++◌, Option, Some, None, refl, sym, ap, subst, ◌∙◌, inl, inr, append-nil, min, ◌+◌, ◌-◌, ◌^◌, ◌≤◌, arith}
use Rattle.std.specs.Prelude.{IsTrue}
use Rattle.pk_outside.specs.Causes.{Rose, one_more}
use Rattle.pk_outside.specs.Stations.{StationTold}
use Rattle.link_handshake.specs.Clients.{awaited, first_bytes}
use Rattle.link_handshake.specs.Shakes.{Begun, Failed, Open, Standing}
use Rattle.link_handshake.specs.declared.server.ShakeFault.{ShakeFault}
use Rattle.dbus_values.specs.declared.fault.FaultKind.{FaultKind}
use Rattle.dbus_values.specs.Next.{Bad, Partial, Seen, next_of}
use Rattle.dbus_values.specs.Streams.{NoneWhole}
use Rattle.dbus_values.proofs.Prefixes.{fault_stays}
use Rattle.client_link.specs.Following.{IsFirst, Passes}
use Rattle.client_link.specs.Shakings.{BeginsIn, FailsIn}
use Rattle.client_link.proofs.Firsts.{first_more, none_bad, none_first, none_partial, one_first}
use Rattle.client_link.proofs.Follows.{passes_bytes}
use Rattle.client_commands.specs.declared.check.reading.CheckPlan.{CheckPlan}
use Rattle.client_commands.specs.CheckPlans.{plan_of}
use Rattle.pkcheck_tool.specs.declared.reply.Reply.{Reply}
use Rattle.pkcheck_tool.specs.declared.status.CheckStatus.{CheckStatus}
use Rattle.pkcheck_tool.specs.declared.status.CheckStatus.TheVariants as status
use Rattle.pkcheck_tool.specs.Asking.{Accepted, Lacks, Replies, sent_bytes}
use Rattle.pkcheck_tool.specs.Checks.{Answered, Checks, Completes, GivesReply, IsTold, Outside, Visited, Visits}
use Rattle.pkcheck_tool.specs.Replies.{is_reply, reply_in, status_of}

-- what was read of a link that is told, and what is left of it
pub record GivenBack (given read : List ℕ) (ended : Bool) : Type 0 where
  pub left : List ℕ
  pub is : given ≡ read ++ left
  pub all : IsTrue ended → left ≡ []

first_link : (a b : List ℕ) (x y : List (List ℕ)) → a ∷ x ≡ b ∷ y → a ≡ b
first_link a b x y e = cc

back_of : (path : List ℕ) (told_before told : Option StationTold) (before : StationTold) (given : List ℕ) (links : List (List ℕ)) (read written : List ℕ) (ended : Bool) (rf wf : ℕ)
    → told_before ≡ Some before → before.links ≡ given ∷ links → Visits path told_before told read written ended rf wf → GivenBack given read ended
back_of path None told before given links read written ended rf wf is has v = cc
back_of path (Some b) None before given links read written ended rf wf is has v = absurd v
back_of path (Some b) (Some c) before given links read written ended rf wf is has v =
    let same : b ≡ before = cc in
    let one : given ≡ v.back.link.given = first_link given v.back.link.given links v.links (sym has ∙ ap (λ (t : StationTold). t.links) (sym same) ∙ v.dialled) in
    record { left = v.back.link.left; is = one ∙ v.given_is; all = v.all }

pub back : (plan : CheckPlan) (told_before told : Option StationTold) (before : StationTold) (given : List ℕ) (links : List (List ℕ)) (rf wf : ℕ) (P : Bool → List ℕ → List ℕ → Type 0)
    → told_before ≡ Some before → before.links ≡ given ∷ links → (v : Visited plan told_before told rf wf P) → GivenBack given v.read v.ended
back plan told_before told before given links rf wf P is has v = back_of plan.path told_before told before given links v.read v.written v.ended rf wf is has v.visits

-- the messages of a link are one list of bytes
begun_one : (a b : List ℕ) → Begun a ≡ Begun b → a ≡ b
begun_one a b e = cc

messages_are : (given read left messages given_messages : List ℕ) → given ≡ read ++ left → BeginsIn read messages → awaited given ≡ Begun given_messages → given_messages ≡ messages ++ left
messages_are given read left messages given_messages is begins due = begun_one _ _ (sym due ∙ ap awaited is ∙ begins left)

-- a reply stays the reply, and is one
replies_more : (bytes more : List ℕ) (r : Reply) → Replies bytes r → Replies (bytes ++ more) r
replies_more bytes more r p = record { message = p.message; rest = p.rest ++ more; first = first_more is_reply bytes more p.message p.rest p.first; told_is = p.told_is }

some_one : (a b : Reply) → Some a ≡ Some b → a ≡ b
some_one a b e = cc

one_reply : (bytes : List ℕ) (r s : Reply) → Replies bytes r → Replies bytes s → r ≡ s
one_reply bytes r s p q = some_one r s (sym p.told_is ∙ ap reply_in (one_first is_reply bytes p.message q.message p.rest q.rest p.first q.first) ∙ q.told_is)

-- the reply that was told is the one that was due
told_due : (given read : List ℕ) (ended : Bool) (r due : Reply) → GivenBack given read ended → Accepted read (λ messages. Replies messages r) → GivesReply given due → r ≡ due
told_due given read ended r due b a g =
    let same = messages_are given read b.left a.messages g.messages b.is a.begins g.begins in
    one_reply (a.messages ++ b.left) r due (replies_more a.messages b.left r a.holds) (subst (λ (m : List ℕ). Replies m due) same g.replies)

-- nothing else was due
not_failed : (given read : List ℕ) (ended : Bool) (fault : ShakeFault) (due : Reply) → GivenBack given read ended → FailsIn read fault → GivesReply given due → ⊥
not_failed given read ended fault due b fails g = no (sym (fails b.left) ∙ ap awaited (sym b.is) ∙ g.begins)
  where
    no : Failed fault ≡ Begun g.messages → ⊥
    no e = cc

not_open : (given read : List ℕ) (ended : Bool) (due : Reply) → GivenBack given read ended → IsTrue ended → awaited read ≡ Open → GivesReply given due → ⊥
not_open given read ended due b end still g =
    let whole : given ≡ read = b.is ∙ ap (λ (l : List ℕ). read ++ l) (b.all end) ∙ append-nil read in
    no (sym still ∙ ap awaited (sym whole) ∙ g.begins)
  where
    no : Open ≡ Begun g.messages → ⊥
    no e = cc

not_lacking : (bytes rest : List ℕ) (due : Reply) → Passes is_reply bytes rest → NoneWhole rest → Replies bytes due → ⊥
not_lacking bytes rest due p none r = none_first is_reply bytes rest r.message r.rest p none r.first

not_bad : (given read : List ℕ) (ended : Bool) (kind : FaultKind) (at : ℕ) (due : Reply) → GivenBack given read ended → Accepted read (λ messages. Lacks messages (Bad kind at)) → GivesReply given due → ⊥
not_bad given read ended kind at due b a g =
    let same = messages_are given read b.left a.messages g.messages b.is a.begins g.begins in
    let bad : next_of (a.holds.rest ++ b.left) ≡ Bad kind at = fault_stays a.holds.rest b.left kind at a.holds.next in
    not_lacking (a.messages ++ b.left) (a.holds.rest ++ b.left) due (passes_bytes is_reply a.messages a.holds.rest b.left a.holds.passes) (none_bad (a.holds.rest ++ b.left) kind at bad) (subst (λ (m : List ℕ). Replies m due) same g.replies)

not_partial : (given read : List ℕ) (ended : Bool) (due : Reply) → GivenBack given read ended → IsTrue ended → Accepted read (λ messages. Lacks messages Partial) → GivesReply given due → ⊥
not_partial given read ended due b end a g =
    let same : g.messages ≡ a.messages = messages_are given read b.left a.messages g.messages b.is a.begins g.begins ∙ ap (λ (l : List ℕ). a.messages ++ l) (b.all end) ∙ append-nil a.messages in
    not_lacking a.messages a.holds.rest due a.holds.passes (none_partial a.holds.rest a.holds.next) (subst (λ (m : List ℕ). Replies m due) same g.replies)

-- a count that went up by one rose
rose_by_one : (before now : ℕ) → now ≡ one_more before → Rose before now
rose_by_one before now e = omega arith

of_reply : (plan : CheckPlan) (o : Outside) (s : CheckStatus) → IsTold plan o s → (before : StationTold) (given : List ℕ) (links : List (List ℕ)) (due : Reply) → o.told_before ≡ Some before → before.links ≡ given ∷ links → GivesReply given due
    → (s ≡ status_of due) ⊎ (s ≡ status.NoMemory)
of_reply plan o s t before given links due is has g =
    let b = back plan o.told_before o.told before given links 0 0 _ is has t.answered in
    inl (t.status_is ∙ ap status_of (told_due given t.answered.read t.answered.ended t.reply due b t.answered.holds.0 g))

not_cut : (given read written : List ℕ) (ended : Bool) (plan : CheckPlan) (due : Reply) → GivenBack given read ended → IsTrue ended
    → (((awaited read ≡ Open) × (written ≡ first_bytes plan.uid)) ⊎ (Accepted read (λ messages. Lacks messages Partial) × (written ≡ sent_bytes plan))) → GivesReply given due → ⊥
not_cut given read written ended plan due b end (inl p) g = not_open given read ended due b end p.0 g
not_cut given read written ended plan due b end (inr p) g = not_partial given read ended due b end p.0 g

not_asked : (words : List (List ℕ)) (plan : CheckPlan) → plan_of words ≡ None → plan_of words ≡ Some plan → ⊥
not_asked words plan none some = none_some (sym none ∙ some)
  where
    none_some : None ≡ Some plan → ⊥
    none_some e = cc

pub completes : (words : List (List ℕ)) (o : Outside) (s : CheckStatus) → Checks words o s → Completes words o s
completes words o status.Usage c = λ plan before given links due asked is has g station output. absurd (not_asked words plan c.0 asked)
completes words o status.NoMemory c = λ plan before given links due asked is has g station output. inr refl
completes words o status.Yes c = λ plan before given links due asked is has g station output. of_reply c.0 o status.Yes c.2 before given links due is has g
completes words o status.No c = λ plan before given links due asked is has g station output. of_reply c.0 o status.No c.2 before given links due is has g
completes words o status.Challenge c = λ plan before given links due asked is has g station output. of_reply c.0 o status.Challenge c.2 before given links due is has g
completes words o status.Dismissed c = λ plan before given links due asked is has g station output. of_reply c.0 o status.Dismissed c.2 before given links due is has g
completes words o status.Error c = λ plan before given links due asked is has g station output. of_reply c.0 o status.Error c.2 before given links due is has g
completes words o status.WriteFault c = λ plan before given links due asked is has g station output. absurd (output (rose_by_one o.output_faults_before o.output_faults c.2.counted))
completes words o status.StationFault c = λ plan before given links due asked is has g station output. absurd (station c.2.0.0)
completes words o (status.BadShake fault) c = λ plan before given links due asked is has g station output.
    absurd (not_failed given c.2.0.read c.2.0.ended fault due (back c.0 o.told_before o.told before given links 0 0 _ is has c.2.0) c.2.0.holds.0 g)
completes words o (status.BadBytes kind at) c = λ plan before given links due asked is has g station output.
    absurd (not_bad given c.2.0.read c.2.0.ended kind at due (back c.0 o.told_before o.told before given links 0 0 _ is has c.2.0) c.2.0.holds.0 g)
completes words o status.Cut c = λ plan before given links due asked is has g station output.
    absurd (not_cut given c.2.0.read c.2.0.written c.2.0.ended c.0 due (back c.0 o.told_before o.told before given links 0 0 _ is has c.2.0) c.2.0.holds.0 c.2.0.holds.1 g)
