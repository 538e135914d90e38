-- What a byte makes of a handshake.
use Rattle.std.proofs.Common.{◌≡◌, ◌≢◌, ℕ, List, [], ◌∷◌, ◌++◌, Option, None, refl, ap, sym, ◌∙◌, subst, append_assoc, append-nil}
use Rattle.pk_outside.specs.Streams.{Got, GotFront}
use Rattle.pk_outside.proofs.Written.{Got-more}
use Rattle.link_handshake.specs.Shakes.{Begun, Failed, Shaken, silent, reply_first, shake}
use Rattle.link_handshake.specs.Machines.{Shaking, to_come, over, over_after, said, stands}
use Rattle.link_handshake.specs.Replies.{reply_line, reply_lines}
use Rattle.link_handshake.specs.declared.server.ShakeReply.{ShakeReply}
use Rattle.link_handshake.specs.declared.server.ShakeFault.{ShakeFault}
use Rattle.link_handshake.specs.declared.server.ShakeStep.{ShakeStep}
use Rattle.link_handshake.specs.declared.server.ShakeStep.TheVariants as step
use Rattle.link_handshake.proofs.Runs.{over-to_come}
use Rattle.link_opening.specs.Opens.{Settles, WroteFront}
use Rattle.link_opening.specs.Feeds.{Fed, replies_first}

-- the lines of some replies and then others
pub lines-append : (guid : ℕ) (xs ys : List ShakeReply) → reply_lines guid (xs ++ ys) ≡ reply_lines guid xs ++ reply_lines guid ys
lines-append guid [] ys = refl
lines-append guid (x ∷ xs) ys = ap (λ l. reply_line guid x ++ l) (lines-append guid xs ys) ∙ sym (append_assoc (reply_line guid x) (reply_lines guid xs) (reply_lines guid ys))

-- one reply more
reply_more : (replies : List ShakeReply) (r : ShakeReply) (x : Shaken) → replies_first replies (reply_first r x) ≡ replies_first (replies ++ r ∷ []) x
reply_more replies r x = ap (λ (rs : List ShakeReply). record { replies = rs; standing = x.standing }) (sym (append_assoc replies (r ∷ []) x.replies))

-- what was written for some replies is a prefix of what is written for these and others
pub front_of_more : (guid : ℕ) (replies others : List ShakeReply) (before held : Option (List ℕ)) → Got before held (reply_lines guid replies) → GotFront before held (reply_lines guid (replies ++ others))
front_of_more guid replies others before held got = (reply_lines guid others, (reply_lines guid replies, lines-append guid replies others, got))

-- a prefix of a reply was written, behind other replies and before others
front_of_reply : (guid : ℕ) (replies : List ShakeReply) (r : ShakeReply) (others : List ShakeReply) (before held now : Option (List ℕ))
    → Got before held (reply_lines guid replies) → GotFront held now (reply_line guid r) → GotFront before now (reply_lines guid (replies ++ r ∷ others))
front_of_reply guid replies r others before held now got front = (
  front.0 ++ reply_lines guid others,
  (
    reply_lines guid replies ++ front.1.0,
    lines-append guid replies (r ∷ others)
        ∙ ap (λ l. reply_lines guid replies ++ (l ++ reply_lines guid others)) front.1.1
        ∙ ap (λ l. reply_lines guid replies ++ l) (append_assoc front.1.0 front.0 (reply_lines guid others))
        ∙ sym (append_assoc (reply_lines guid replies) front.1.0 (front.0 ++ reply_lines guid others)),
    Got-more before held now (reply_lines guid replies) front.1.0 got front.1.2,
  ),
)

module _ (door guid : ℕ) (bytes : List ℕ) (before held : Option (List ℕ)) (h now : Shaking) (b : ℕ) (so : Fed door guid bytes before held h) where
  pub one_more : (s : ShakeStep) → (over h ≡ None → (more : List ℕ) → to_come h (b ∷ more) ≡ said s (to_come now more)) → (more : List ℕ)
      → shake door ((bytes ++ b ∷ []) ++ more) ≡ replies_first so.replies (said s (to_come now more))
  one_more s takes more = ap (shake door) (append_assoc bytes (b ∷ []) more) ∙ so.answered (b ∷ more) ∙ ap (replies_first so.replies) (takes so.goes_on more)

  -- nothing was replied
  pub fed_more : (over h ≡ None → (more : List ℕ) → to_come h (b ∷ more) ≡ said step.More (to_come now more)) → to_come now [] ≡ silent (stands step.More []) → over now ≡ over_after step.More
      → Fed door guid (bytes ++ b ∷ []) before held now
  fed_more takes waits over = record { goes_on = over; waits = waits; replies = so.replies; answered = one_more step.More takes; wrote = so.wrote }

  -- a reply was said and written
  pub fed_said : (r : ShakeReply) (to : Option (List ℕ)) → (over h ≡ None → (more : List ℕ) → to_come h (b ∷ more) ≡ said (step.Say r) (to_come now more)) → to_come now [] ≡ silent (stands (step.Say r) [])
      → over now ≡ over_after (step.Say r) → Got held to (reply_line guid r) → Fed door guid (bytes ++ b ∷ []) before to now
  fed_said r to takes waits over got = record {
    goes_on = over;
    waits = waits;
    replies = so.replies ++ r ∷ [];
    answered = λ more. one_more (step.Say r) takes more ∙ reply_more so.replies r (to_come now more);
    wrote = subst (Got before to) (sym (lines-append guid so.replies (r ∷ []) ∙ ap (λ l. reply_lines guid so.replies ++ l) (append-nil (reply_line guid r)))) (Got-more before held to (reply_lines guid so.replies) (reply_line guid r) so.wrote got);
  }

  -- a reply was said, and a prefix of it written
  pub fed_front : (r : ShakeReply) (to : Option (List ℕ)) → (over h ≡ None → (more : List ℕ) → to_come h (b ∷ more) ≡ said (step.Say r) (to_come now more)) → GotFront held to (reply_line guid r)
      → (more : List ℕ) → WroteFront door guid ((bytes ++ b ∷ []) ++ more) before to
  fed_front r to takes front more =
      let whole : (shake door ((bytes ++ b ∷ []) ++ more)).replies ≡ so.replies ++ r ∷ (to_come now more).replies = ap (λ (s : Shaken). s.replies) (one_more (step.Say r) takes more) in
      subst (λ (rs : List ShakeReply). GotFront before to (reply_lines guid rs)) (sym whole) (front_of_reply guid so.replies r (to_come now more).replies before held to so.wrote front)

  settled : (s : ShakeStep) → ((x : Shaken) → said s x ≡ x) → over_after s ≢ None → (over h ≡ None → (more : List ℕ) → to_come h (b ∷ more) ≡ said s (to_come now more)) → over now ≡ over_after s
      → Settles door guid (bytes ++ b ∷ []) before held (stands s)
  settled s quiet is_over takes over = record {
    replies = so.replies;
    answered = λ more. one_more s takes more ∙ ap (replies_first so.replies) (quiet (to_come now more) ∙ over-to_come now s more over is_over) ∙ ap (λ (rs : List ShakeReply). record { replies = rs; standing = stands s more }) (append-nil so.replies);
    wrote = so.wrote;
  }

  -- the messages begin
  pub fed_begun : (over h ≡ None → (more : List ℕ) → to_come h (b ∷ more) ≡ said step.Begun (to_come now more)) → over now ≡ over_after step.Begun
      → Settles door guid (bytes ++ b ∷ []) before held (λ more. Begun more)
  fed_begun takes over = settled step.Begun (λ x. refl) (λ e. cc) takes over

  -- the bytes have a fault
  pub fed_fault : (fault : ShakeFault) → (over h ≡ None → (more : List ℕ) → to_come h (b ∷ more) ≡ said (step.Fault fault) (to_come now more)) → over now ≡ over_after (step.Fault fault)
      → Settles door guid (bytes ++ b ∷ []) before held (λ more. Failed fault)
  fed_fault fault takes over = settled (step.Fault fault) (λ x. refl) (λ e. cc) takes over
