-- What is handed on where a call was refused, and the parts of the handshake put together.
use Rattle.std.proofs.Common.{◌≡◌, ℕ, Bool, List, [], ◌∷◌, ◌++◌, Option, Result, Ok, Err, refl, sym, ap, subst, ◌∙◌, append_assoc, append-nil}
use Rattle.std.specs.Result.{IsErrAnd}
use Rattle.link_handshake.specs.Clients.{first_bytes}
use Rattle.client_link.specs.declared.shaking.TheConstants.{BEGIN_LINE}
use Rattle.client_link.specs.declared.stop.LinkStop.{LinkStop}
use Rattle.client_link.specs.declared.stop.LinkStop.TheVariants as stop
use Rattle.pk_outside.specs.Allowing.{IsFront}
use Rattle.client_link.specs.Sending.{Sends}
use Rattle.client_link.specs.Shakings.{Accepts, Shakes, ShakesHands, client_bytes}

pub sends_refused : (a b : Option (List ℕ)) (message : List ℕ) (r : Result (Unit {0}) LinkStop) (why : LinkStop) → IsErrAnd r (λ (y : LinkStop). y ≡ why) → Sends a b message (Err why) → Sends a b message r
sends_refused a b message (Ok done) why is s = absurd is
sends_refused a b message (Err y) why is s = subst (λ (w : LinkStop). Sends a b message (Err w)) (sym is) s

pub shakes_refused : (uid : ℕ) (l l' : Option (List ℕ)) (ended : Bool) (h h' : Option (List ℕ)) (rest : List ℕ) (r : Result (Unit {0}) LinkStop) (why : LinkStop) → IsErrAnd r (λ (y : LinkStop). y ≡ why)
    → ShakesHands uid l l' ended h h' rest (Err why) → ShakesHands uid l l' ended h h' rest r
shakes_refused uid l l' ended h h' rest (Ok done) why is s = absurd is
shakes_refused uid l l' ended h h' rest (Err y) why is s = subst (λ (w : LinkStop). ShakesHands uid l l' ended h h' rest (Err w)) (sym is) s

-- a prefix of what is sent first
pub front_first : (uid : ℕ) (first written rest : List ℕ) → first ≡ first_bytes uid → first ≡ written ++ rest → IsFront written (client_bytes uid)
front_first uid first written rest whole is = (rest ++ BEGIN_LINE.now, ap (λ (b : List ℕ). b ++ BEGIN_LINE.now) (sym whole ∙ is) ∙ append_assoc written rest BEGIN_LINE.now)

-- a prefix of the line that begins the messages, behind it
pub front_begin : (uid : ℕ) (first line written rest : List ℕ) → first ≡ first_bytes uid → line ≡ BEGIN_LINE.now → line ≡ written ++ rest → IsFront (first ++ written) (client_bytes uid)
front_begin uid first line written rest whole line_is is = (
  rest,
  ap (λ (b : List ℕ). b ++ BEGIN_LINE.now) (sym whole) ∙ ap (λ (b : List ℕ). first ++ b) (sym line_is ∙ is) ∙ sym (append_assoc first written rest),
)

-- where the server did not accept the client, it had sent what it sends first
front_whole : (uid : ℕ) (written : List ℕ) → written ≡ first_bytes uid → IsFront written (client_bytes uid)
front_whole uid written is = (BEGIN_LINE.now, ap (λ (b : List ℕ). b ++ BEGIN_LINE.now) (sym is))

pub accepts_stopped : (uid : ℕ) (ended : Bool) (read rest written : List ℕ) (why : LinkStop) → Accepts ended read rest (Err why) → written ≡ first_bytes uid → Shakes uid ended read rest written (Err why)
accepts_stopped uid ended read rest written stop.Failed a is = front_whole uid written is
accepts_stopped uid ended read rest written (stop.BadShake fault) a is = (a, is)
accepts_stopped uid ended read rest written (stop.BadBytes _ at) a is = a
accepts_stopped uid ended read rest written stop.Cut a is = (a.0, a.1, is)
accepts_stopped uid ended read rest written stop.NoMemory a is = front_whole uid written is
