-- Waiting for a message that tells something, so far.
use Rattle.std.proofs.Common.{◌≡◌, ℕ, Bool, List, [], ◌∷◌, ◌++◌, Option, Some, None, Result, Ok, Err, refl, ap, sym, ◌∙◌, subst, append_assoc, append-nil}
use Rattle.pk_outside.specs.Streams.{Gave}
use Rattle.pk_outside.proofs.Written.{Gave-none, Gave-more}
use Rattle.dbus_values.specs.Next.{Seen}
use Rattle.dbus_values.specs.Streams.{Follow, IsForm}
use Rattle.authority_model.specs.Words.{Bytes}
use Rattle.client_link.specs.declared.stop.LinkStop.{LinkStop}
use Rattle.client_link.specs.declared.stop.LinkStop.TheVariants as stop
use Rattle.client_link.specs.Messages.{Brings, IsTaken}
use Rattle.dbus_values.proofs.Following.{follow_bytes, follow_text}
use Rattle.script_agent.specs.Waits.{first_of, Finds, Hears}
use Rattle.script_agent.proofs.Firsts.{first_of-none}

-- these bytes were read and these messages taken from them, and none of them tells anything
pub record Hearing {A : Type 0} (tells : Seen → Option A) (left_before left : Option Bytes) (rest_before rest : Bytes) : Type 0 where
  pub read : Bytes
  pub messages : List Seen
  pub gave : Gave left_before left read
  pub follow : Follow (rest_before ++ read) messages rest
  pub none : first_of tells messages ≡ None

pub hearing_first : {A : Type 0} (tells : Seen → Option A) (left : Option Bytes) (rest : Bytes) → Hearing tells left left rest rest
hearing_first tells left rest = record { read = []; messages = []; gave = Gave-none left; follow = append-nil rest; none = refl }

-- the messages with one more
taken : {A B : Type 0} {tells : Seen → Option A} {a b : Option Bytes} {r0 r1 r2 : Bytes} {f : Seen → B} {told : B} (h : Hearing tells a b r0 r1) (read : Bytes) (t : IsTaken f (r1 ++ read) r2 told)
    → Follow (r0 ++ (h.read ++ read)) (h.messages ++ t.message ∷ []) r2
taken {r0 = r0} {r1 = r1} {r2 = r2} h read t =
    subst (λ (b : Bytes). Follow b (h.messages ++ t.message ∷ []) r2) (append_assoc r0 h.read read)
    (follow_text ((r0 ++ h.read) ++ read) h.messages (r1 ++ read) t.text r2 t.message (follow_bytes (r0 ++ h.read) h.messages r1 read h.follow) t.form t.cut)

-- one more that tells nothing
pub hearing_more : {A B : Type 0} (tells : Seen → Option A) (a b c : Option Bytes) (r0 r1 r2 : Bytes) (f : Seen → B) (told : B) (read : Bytes) → Hearing tells a b r0 r1 → Gave b c read → IsTaken f (r1 ++ read) r2 told
    → ((m : Seen) → told ≡ f m → tells m ≡ None) → Hearing tells a c r0 r2
hearing_more tells a b c r0 r1 r2 f told read h gave t nothing = record {
  read = h.read ++ read;
  messages = h.messages ++ t.message ∷ [];
  gave = Gave-more a b c h.read read h.gave gave;
  follow = taken h read t;
  none = first_of-none tells h.messages (t.message ∷ []) h.none ∙ one (nothing t.message t.told_is);
}
  where
    one : {m : Seen} → tells m ≡ None → first_of tells (m ∷ []) ≡ None
    one e = rw e refl

-- one that tells something
pub hearing_found : {A B : Type 0} (tells : Seen → Option A) (a b c : Option Bytes) (ended : Bool) (r0 r1 r2 : Bytes) (f : Seen → B) (told : B) (found : A) (read : Bytes) → Hearing tells a b r0 r1 → Gave b c read → IsTaken f (r1 ++ read) r2 told
    → ((m : Seen) → told ≡ f m → tells m ≡ Some found) → Hears tells a c ended r0 r2 (Ok found)
hearing_found tells a b c ended r0 r1 r2 f told found read h gave t something = record {
  read = h.read ++ read;
  messages = h.messages ++ t.message ∷ [];
  rest = r2;
  gave = Gave-more a b c h.read read h.gave gave;
  follow = taken h read t;
  finds = (first_of-none tells h.messages (t.message ∷ []) h.none ∙ one (something t.message t.told_is), refl);
}
  where
    one : {m : Seen} → tells m ≡ Some found → first_of tells (m ∷ []) ≡ Some (found, [])
    one e = rw e refl

-- the bytes show why no more is taken
pub hearing_stop : {A B : Type 0} (tells : Seen → Option A) (a b c : Option Bytes) (ended : Bool) (r0 r1 r2 : Bytes) (f : Seen → B) (why : LinkStop) (read : Bytes) → Hearing tells a b r0 r1 → Gave b c read → Brings f ended (r1 ++ read) r2 (Err why)
    → Hears tells a c ended r0 r2 (Err why)
hearing_stop tells a b c ended r0 r1 r2 f why read h gave shows = record {
  read = h.read ++ read;
  messages = h.messages;
  rest = r1 ++ read;
  gave = Gave-more a b c h.read read h.gave gave;
  follow = subst (λ (x : Bytes). Follow x h.messages (r1 ++ read)) (append_assoc r0 h.read read) (follow_bytes (r0 ++ h.read) h.messages r1 read h.follow);
  finds = by why shows;
}
  where
    by : (why : LinkStop) → Brings f ended (r1 ++ read) r2 (Err why) → Finds tells ended h.messages (r1 ++ read) r2 (Err why)
    by stop.Failed s = h.none
    by (stop.BadShake fault) s = elim s [ ]
    by (stop.BadBytes kind at) s = (h.none, s)
    by stop.Cut s = (h.none, s.0, s.1)
    by stop.NoMemory s = h.none
