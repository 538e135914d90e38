-- Messages that follow one another, and those that were passed over.
use Rattle.std.proofs.Common.{◌≡◌, ℕ, Bool, true, false, List, [], ◌∷◌, ◌++◌, refl, ap, sym, ◌∙◌, append_assoc}
use Rattle.dbus_values.specs.Next.{Seen}
use Rattle.dbus_values.specs.Streams.{IsForm}
use Rattle.dbus_values.proofs.Following.{follow_bytes, follow_text}
use Rattle.client_link.specs.Following.{NoneIs, Passes}

-- one more that is no such message
pub none_more : (test : Seen → Bool) (messages : List Seen) (m : Seen) → NoneIs test messages → test m ≡ false → NoneIs test (messages ++ m ∷ [])
none_more test [] m none not_it = (not_it, tt)
none_more test (n ∷ messages) m none not_it = (none.0, none_more test messages m none.1 not_it)

-- before any message
pub passes_first : (test : Seen → Bool) (bytes : List ℕ) → Passes test bytes bytes
passes_first test bytes = record { passed = []; follow = refl; none_is = tt }

-- more bytes were read
pub passes_bytes : (test : Seen → Bool) (bytes rest more : List ℕ) → Passes test bytes rest → Passes test (bytes ++ more) (rest ++ more)
passes_bytes test bytes rest more p = record { passed = p.passed; follow = follow_bytes bytes p.passed rest more p.follow; none_is = p.none_is }

-- one more message was passed over
pub passes_message : (test : Seen → Bool) (bytes rest text behind : List ℕ) (m : Seen) → Passes test bytes rest → IsForm text m → rest ≡ text ++ behind → test m ≡ false → Passes test bytes behind
passes_message test bytes rest text behind m p form is not_it = record {
  passed = p.passed ++ m ∷ [];
  follow = follow_text bytes p.passed rest text behind m p.follow form is;
  none_is = none_more test p.passed m p.none_is not_it;
}
