-- What a handshake answered so far, and what it answers to the bytes to come, is what all bytes are answered.
use Rattle.std.proofs.Common.{◌≡◌, ◌≢◌, ℕ, ◌+◌, ◌<◌, suc, List, [], ◌∷◌, ◌++◌, length, take, drop, get_or, Some, None, refl, ap, sym, ◌∙◌, append_assoc, append-nil, add-one, drop-cons, arith}
use Rattle.std.proofs.lemmas.List.{take-append-drop, take_more, take_all}
use Rattle.link_handshake.specs.declared.server.ShakeReply.{ShakeReply}
use Rattle.link_handshake.specs.declared.server.ShakeFault.{ShakeFault}
use Rattle.link_handshake.specs.declared.server.ShakeStep.{ShakeStep}
use Rattle.link_handshake.specs.declared.server.ShakeStep.TheVariants as step
use Rattle.link_handshake.specs.declared.server.State.{State}
use Rattle.link_handshake.specs.declared.server.State.TheVariants as state
use Rattle.link_handshake.specs.Shakes.{Open, Failed, Shaken, silent, reply_first, shake}
use Rattle.link_handshake.specs.Machines.{Shaking, to_come, to_come_in, said, stands, over, over_in, over_after}

-- replies, and then what is answered further
abbrev pub replies_first : List ShakeReply → Shaken → Shaken
replies_first replies shaken = record { replies = replies ++ shaken.replies; standing = shaken.standing }

same_cause : (a b : ShakeFault) → Some (step.Fault a) ≡ Some (step.Fault b) → a ≡ b
same_cause a b e = cc

silent_said : (last : ShakeStep) → over_after last ≢ None → (x : Shaken) → said last x ≡ x
silent_said step.More is_over x = refl
silent_said (step.Say reply) is_over x = absurd (is_over refl)
silent_said step.Begun is_over x = refl
silent_said (step.Fault cause) is_over x = refl

-- where the handshake is over nothing is replied any more
pub over-to_come : (h : Shaking) (last : ShakeStep) (bytes : List ℕ) → over h ≡ over_after last → over_after last ≢ None → to_come h bytes ≡ silent (stands last bytes)
over-to_come h last bytes e is_over = of h.state last e is_over
  where
    of : (s : State) (last : ShakeStep) → over_in s ≡ over_after last → over_after last ≢ None → to_come_in h.door s h.line bytes ≡ silent (stands last bytes)
    of s step.More e is_over = absurd (is_over refl)
    of s (step.Say reply) e is_over = absurd (is_over refl)
    of state.Start step.Begun e is_over = absurd (cc)
    of (state.Lines phase left) step.Begun e is_over = absurd (cc)
    of state.Begun step.Begun e is_over = refl
    of (state.Fault cause) step.Begun e is_over = absurd (cc)
    of state.Start (step.Fault cause) e is_over = absurd (cc)
    of (state.Lines phase left) (step.Fault cause) e is_over = absurd (cc)
    of state.Begun (step.Fault cause) e is_over = absurd (cc)
    of (state.Fault other) (step.Fault cause) e is_over = ap (λ c. silent (Failed c)) (same_cause other cause e)

-- all bytes up to here were answered so, whatever comes
abbrev pub AnsweredSo : ℕ → List ℕ → List ShakeReply → Shaking → Type 0
AnsweredSo door fed replies h = (more : List ℕ) → shake door (fed ++ more) ≡ replies_first replies (to_come h more)

one_byte : (door : ℕ) (fed : List ℕ) (b : ℕ) (replies : List ShakeReply) (h g : Shaking) (s : ShakeStep) → AnsweredSo door fed replies h
    → ((more : List ℕ) → to_come h (b ∷ more) ≡ said s (to_come g more)) → (more : List ℕ) → shake door (fed ++ b ∷ more) ≡ replies_first replies (said s (to_come g more))
one_byte door fed b replies h g s so by more = so (b ∷ more) ∙ ap (replies_first replies) (by more)

one_more : (bytes : List ℕ) (i b : ℕ) (more : List ℕ) → i < length bytes → get_or bytes i 0 ≡ b → take (i + 1) bytes ++ more ≡ take i bytes ++ b ∷ more
one_more bytes i b more lt here = ap (λ r. r ++ more) (take_more bytes i 0 lt ∙ ap (λ x. take i bytes ++ x ∷ []) here) ∙ append_assoc (take i bytes) (b ∷ []) more

pub answered_more : (door : ℕ) (bytes : List ℕ) (i b : ℕ) (replies : List ShakeReply) (h g : Shaking) → i < length bytes → get_or bytes i 0 ≡ b → AnsweredSo door (take i bytes) replies h
    → ((more : List ℕ) → to_come h (b ∷ more) ≡ to_come g more) → AnsweredSo door (take (i + 1) bytes) replies g
answered_more door bytes i b replies h g lt here so fed more =
    ap (shake door) (one_more bytes i b more lt here) ∙ one_byte door (take i bytes) b replies h g step.More so fed more

pub answered_said : (door : ℕ) (bytes : List ℕ) (i b : ℕ) (replies new : List ShakeReply) (reply : ShakeReply) (h g : Shaking) → i < length bytes → get_or bytes i 0 ≡ b
    → AnsweredSo door (take i bytes) replies h → ((more : List ℕ) → to_come h (b ∷ more) ≡ reply_first reply (to_come g more)) → new ≡ replies ++ reply ∷ []
    → AnsweredSo door (take (i + 1) bytes) new g
answered_said door bytes i b replies new reply h g lt here so fed push more =
    ap (shake door) (one_more bytes i b more lt here)
    ∙ one_byte door (take i bytes) b replies h g (step.Say reply) so fed more
    ∙ ap (λ r. record { replies = r; standing = (to_come g more).standing }) (sym (append_assoc replies (reply ∷ []) (to_come g more).replies))
    ∙ ap (λ r. replies_first r (to_come g more)) (sym push)

-- the whole of it, where the last step ends it
pub answered_last : (door : ℕ) (bytes : List ℕ) (i b : ℕ) (replies : List ShakeReply) (h g : Shaking) (last : ShakeStep) → i < length bytes → get_or bytes i 0 ≡ b
    → AnsweredSo door (take i bytes) replies h → ((more : List ℕ) → to_come h (b ∷ more) ≡ said last (to_come g more)) → over g ≡ over_after last → over_after last ≢ None
    → shake door bytes ≡ record { replies = replies; standing = stands last (drop (i + 1) bytes) }
answered_last door bytes i b replies h g last lt here so fed e is_over =
    ap (shake door) (sym (take-append-drop i bytes) ∙ ap (λ r. take i bytes ++ r) (drop-cons bytes i 0 lt ∙ ap (λ x. x ∷ drop (suc i) bytes) here ∙ ap (λ n. b ∷ drop n bytes) (sym (add-one i))))
    ∙ one_byte door (take i bytes) b replies h g last so fed (drop (i + 1) bytes)
    ∙ ap (replies_first replies) (silent_said last is_over (to_come g (drop (i + 1) bytes)) ∙ over-to_come g last (drop (i + 1) bytes) e is_over)
    ∙ ap (λ r. record { replies = r; standing = stands last (drop (i + 1) bytes) }) (append-nil replies)

-- the whole of it, where more may come
pub answered_all : (door : ℕ) (bytes : List ℕ) (i : ℕ) (replies : List ShakeReply) (h : Shaking) → i ≡ length bytes → AnsweredSo door (take i bytes) replies h
    → to_come h [] ≡ silent Open → shake door bytes ≡ record { replies = replies; standing = Open }
answered_all door bytes i replies h end so now =
    ap (shake door) (sym (ap (λ r. r ++ []) (take_all i bytes (omega arith)) ∙ append-nil bytes))
    ∙ so []
    ∙ ap (replies_first replies) now
    ∙ ap (λ r. record { replies = r; standing = Open }) (append-nil replies)

-- a step that is neither More nor Say ends it
pub ends : (last : ShakeStep) → (last ≡ step.More → ⊥) → ((reply : ShakeReply) → last ≡ step.Say reply → ⊥) → over_after last ≢ None
ends step.More more say e = more refl
ends (step.Say reply) more say e = say reply refl
ends step.Begun more say e = cc
ends (step.Fault cause) more say e = cc
