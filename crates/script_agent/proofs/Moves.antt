-- A connection on which more was read or written.
use Rattle.std.proofs.Common.{◌≡◌, ℕ, Bool, IsTrue, false, List, [], ◌∷◌, ◌++◌, Option, Some, None, Result, Ok, Err, ◌+◌, refl, ap, sym, ◌∙◌, subst, append_assoc, append-nil}
use Rattle.std.specs.Prelude.{IsErrAnd}
use Rattle.pk_outside.specs.Causes.{one_more}
use Rattle.pk_outside.specs.Links.{Origin, bytes_of}
use Rattle.pk_outside.specs.Streams.{Gave, Got, IsUsedUp}
use Rattle.pk_outside.proofs.Written.{Gave-none, Gave-more}
use Rattle.dbus_values.specs.Next.{Seen}
use Rattle.authority_model.specs.Words.{Bytes}
use Rattle.link_handshake.specs.Clients.{awaited}
use Rattle.link_handshake.specs.Shakes.{Begun}
use Rattle.client_link.specs.declared.stop.LinkStop.{LinkStop}
use Rattle.client_link.specs.declared.stop.LinkStop.TheVariants as stop
use Rattle.client_link.specs.Faults.{faults_after, LinkFaults}
use Rattle.dbus_values.specs.Streams.{Follow}
use Rattle.client_link.specs.Sending.{Sends as Sending}
use Rattle.client_link.specs.Shakings.{BeginsIn, ShakesHands}
use Rattle.dbus_values.proofs.Following.{follow_bytes}
use Rattle.script_agent.specs.Lines.{LineNow, LineStory, Holds, IsToldBy, IsNew, IsBegun, dialled}
use Rattle.script_agent.specs.Waits.{Hears, Waits, Sends, IsWritten}
use Rattle.script_agent.proofs.Fronts.{err_along}

pub Holds-more : (a b : Option Bytes) (held written : Bytes) → Holds a held → Got a b written → Holds b (held ++ written)
Holds-more None None held written h g = tt
Holds-more None (Some b) held written h g = elim g [ ]
Holds-more (Some a) None held written h g = elim g [ ]
Holds-more (Some a) (Some b) held written h g = g ∙ ap (λ x. x ++ written) h

-- nothing is held
pub Holds-none : (a : Option Bytes) → IsUsedUp a → Holds a []
Holds-none None u = tt
Holds-none (Some a) u = u

-- the messages of two pieces, one after the other
pub Follow-append : (bytes : Bytes) (messages : List Seen) (between : Bytes) (later : List Seen) (rest : Bytes) → Follow bytes messages between → Follow between later rest → Follow bytes (messages ++ later) rest
Follow-append bytes [] between later rest f g = subst (λ (b : Bytes). Follow b later rest) (sym f) g
Follow-append bytes (m ∷ messages) between later rest f g = (f.0, f.1, f.2, f.3, Follow-append f.1 messages between later rest f.4 g)

-- the story of a connection of which more was read
abbrev pub reads : LineStory → Bytes → Bool → List Seen → Bytes → LineStory
reads h read ended messages rest = record { path = h.path; read = h.read ++ read; ended = ended; messages = h.messages ++ messages; rest = rest; written = h.written }

-- and of one to which more was written
abbrev pub writes : LineStory → Bytes → LineStory
writes h written = record { path = h.path; read = h.read; ended = h.ended; messages = h.messages; rest = h.rest; written = h.written ++ written }

pub told_reads : (before now : LineNow) (h : LineStory) (read : Bytes) (messages : List Seen) (rest : Bytes) → IsToldBy before h → now.origin ≡ before.origin → Gave before.left now.left read → now.held ≡ before.held
    → IsToldBy now (reads h read now.ended messages rest)
told_reads before now h read messages rest t origin gave held = record {
  gave = subst (λ (o : Option Origin). Gave (bytes_of o) now.left (h.read ++ read)) (sym origin) (Gave-more _ _ _ h.read read t.gave gave);
  holds = subst (λ (o : Option Bytes). Holds o h.written) (sym held) t.holds;
  ended = λ e. e;
}

pub told_writes : (before now : LineNow) (h : LineStory) (written : Bytes) → IsToldBy before h → now.origin ≡ before.origin → now.left ≡ before.left → now.ended ≡ before.ended → Got before.held now.held written
    → IsToldBy now (writes h written)
told_writes before now h written t origin left ended got = record {
  gave = subst (λ (o : Option Origin). Gave (bytes_of o) now.left h.read) (sym origin) (subst (λ (l : Option Bytes). Gave (bytes_of before.origin) l h.read) (sym left) t.gave);
  holds = Holds-more before.held now.held h.written written t.holds got;
  ended = λ e. subst (λ (b : Bool). IsTrue b) (sym ended) (t.ended e);
}

pub begun_more : (h : LineStory) (read : Bytes) (ended : Bool) (messages : List Seen) (rest : Bytes) → IsBegun h → Follow (h.rest ++ read) messages rest → IsBegun (reads h read ended messages rest)
begun_more h read ended messages rest b f = record {
  behind = b.behind ++ read;
  begun = λ more. ap awaited (append_assoc h.read read more) ∙ b.begun (read ++ more) ∙ ap Begun (sym (append_assoc b.behind read more));
  follow = Follow-append (b.behind ++ read) h.messages (h.rest ++ read) messages rest (follow_bytes b.behind h.messages h.rest read b.follow) f;
}

-- the story behind a wait
abbrev pub waited : {A : Type 0} {tells : Seen → Option A} {before now : LineNow} {result : Result A LinkStop} → LineStory → Waits tells before now result → LineStory
waited {now = now} h w = reads h w.hears.read now.ended w.hears.messages w.hears.rest

pub waited_told : {A : Type 0} {tells : Seen → Option A} {before now : LineNow} {result : Result A LinkStop} (h : LineStory) (w : Waits tells before now result) → IsToldBy before h → IsToldBy now (waited h w)
waited_told {before = before} {now = now} h w t = told_reads before now h w.hears.read w.hears.messages w.hears.rest t w.origin w.hears.gave w.held

pub waited_begun : {A : Type 0} {tells : Seen → Option A} {before now : LineNow} {result : Result A LinkStop} (h : LineStory) (w : Waits tells before now result) → before.rest ≡ h.rest → IsBegun h → IsBegun (waited h w)
waited_begun {now = now} h w rest b = begun_more h w.hears.read now.ended w.hears.messages w.hears.rest b (subst (λ (r : Bytes). Follow (r ++ w.hears.read) w.hears.messages w.hears.rest) rest w.hears.follow)

-- and behind a message that was sent
pub sent_told : {due : Bytes} {before now : LineNow} {result : Result (Unit {0}) LinkStop} (h : LineStory) (s : Sends due before now result) → IsToldBy before h → IsToldBy now (writes h s.written)
sent_told {before = before} {now = now} h s t = told_writes before now h s.written t s.origin s.left s.ended s.got

-- # From the contracts of a link

pub faults_err : (A B : Type 0) (before mid now : ℕ) (why : LinkStop) → now ≡ faults_after {A = A} mid (Err why) → mid ≡ before → now ≡ faults_after {A = B} before (Err why)
faults_err A B before mid now stop.Failed e same = e ∙ ap one_more same
faults_err A B before mid now (stop.BadShake fault) e same = e ∙ same
faults_err A B before mid now (stop.BadBytes kind at) e same = e ∙ same
faults_err A B before mid now stop.Cut e same = e ∙ same
faults_err A B before mid now stop.NoMemory e same = e ∙ same

pub waits_from : {A : Type 0} (tells : Seen → Option A) (before view now : LineNow) (result : Result A LinkStop) → view ≡ before → Hears tells view.left now.left now.ended view.rest now.rest result → now.origin ≡ view.origin → now.held ≡ view.held → now.sent ≡ view.sent
    → now.read_faults ≡ faults_after view.read_faults result → now.write_faults ≡ view.write_faults → Waits tells before now result
waits_from tells before view now result e hears origin held sent reads writes =
    subst (λ (x : LineNow). Waits tells x now result) e (record { hears = hears; origin = origin; held = held; sent = sent; reads = reads; writes = writes })

sent_in : (due : Bytes) (a b : Option Bytes) (result : Result (Unit {0}) LinkStop) → Sending a b due result → (written : Bytes) × Got a b written × IsWritten due written result
sent_in due a b (Ok done) s = (due, s, refl)
sent_in due a b (Err stop.Failed) s = (s.1.0, s.1.2, (s.0, s.1.1))
sent_in due a b (Err (stop.BadShake fault)) s = elim s [ ]
sent_in due a b (Err (stop.BadBytes kind at)) s = elim s [ ]
sent_in due a b (Err stop.Cut) s = elim s [ ]
sent_in due a b (Err stop.NoMemory) s = (s.1.0, s.1.2, (s.0, s.1.1))

pub sends_from : (message : ℕ → Bytes) (before view now : LineNow) (result : Result (Unit {0}) LinkStop) → view ≡ before → Sending view.held now.held (message (view.sent + 1)) result → now.origin ≡ view.origin → now.left ≡ view.left → now.rest ≡ view.rest → now.ended ≡ view.ended
    → now.read_faults ≡ view.read_faults → now.write_faults ≡ faults_after view.write_faults result → Sends (message (before.sent + 1)) before now result
sends_from message before view now result e s origin left rest ended reads writes =
    let in_all = sent_in (message (view.sent + 1)) view.held now.held result s in
    subst (λ (x : LineNow). Sends (message (x.sent + 1)) x now result) e
    (record { written = in_all.0; got = in_all.1; is_written = in_all.2; origin = origin; left = left; rest = rest; ended = ended; reads = reads; writes = writes })

-- the same of an error
pub sends_err : (message : ℕ → Bytes) (before view now : LineNow) (result : Result (Unit {0}) LinkStop) (why : LinkStop) → IsErrAnd result (λ (y : LinkStop). y ≡ why) → view ≡ before → Sending view.held now.held (message (view.sent + 1)) (Err why) → now.origin ≡ view.origin → now.left ≡ view.left → now.rest ≡ view.rest → now.ended ≡ view.ended
    → now.read_faults ≡ view.read_faults → now.write_faults ≡ faults_after {A = Unit {0}} view.write_faults (Err why) → Sends (message (before.sent + 1)) before now result
sends_err message before view now result why is e s origin left rest ended reads writes =
    err_along (λ r. Sends (message (before.sent + 1)) before now r) result why is (sends_from message before view now (Err why) e s origin left rest ended reads writes)

pub shakes_from : (uid : ℕ) (before view : LineNow) (left : Option Bytes) (ended : Bool) (held : Option Bytes) (rest : Bytes) (result : Result (Unit {0}) LinkStop) → view ≡ before → ShakesHands uid view.left left ended view.held held rest result → ShakesHands uid before.left left ended before.held held rest result
shakes_from uid before view left ended held rest result e s = subst (λ (x : LineNow). ShakesHands uid x.left left ended x.held held rest result) e s

pub faults_from : (before view : LineNow) (reads writes : ℕ) (result : Result (Unit {0}) LinkStop) → view ≡ before → LinkFaults view.read_faults reads view.write_faults writes result → LinkFaults before.read_faults reads before.write_faults writes result
faults_from before view reads writes result e f = subst (λ (x : LineNow). LinkFaults x.read_faults reads x.write_faults writes result) e f
