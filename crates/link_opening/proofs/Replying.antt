-- Why the next reply may go.
use Rattle.std.proofs.Common.{◌≡◌, ℕ, ◌+◌, ◌<◌, List, [], ◌∷◌, ◌++◌, Option, None, refl, ap, sym, ◌∙◌, subst, append_assoc, append-nil, take, drop, length, get_or}
use Rattle.std.proofs.lemmas.List.{take-append-drop}
use Rattle.pk_outside.proofs.Going.{fronts_begin, fronts_more, may_go_whole}
use Rattle.pk_outside.specs.Allowing.{MayFronts, MayGo}
use Rattle.link_handshake.specs.Shakes.{Shaken, shake}
use Rattle.link_handshake.specs.Machines.{Shaking, over, said, to_come}
use Rattle.link_handshake.specs.Replies.{reply_line, reply_lines}
use Rattle.link_handshake.specs.declared.server.ShakeReply.{ShakeReply}
use Rattle.link_handshake.specs.declared.server.ShakeStep.TheVariants as step
use Rattle.link_opening.proofs.Fed.{lines-append, one_more}
use Rattle.link_opening.proofs.Rounds.{one_byte_more}
use Rattle.link_opening.specs.Feeds.{Fed, Underway}
use Rattle.link_opening.specs.Replying.{IsFed, MayGoOn, MayReply}

-- the replies to these bytes may go
abbrev pub RepliesMay : (List ℕ → Type 0) → Option (List ℕ) → ℕ → ℕ → List ℕ → Type 0
RepliesMay Allowed before door guid bytes = MayFronts Allowed before (reply_lines guid (shake door bytes).replies)

-- a reply to the next byte may go
pub reply_may : (Allowed : List ℕ → Type 0) (guid b : ℕ) (held : Option (List ℕ)) (h now : Shaking) (r : ShakeReply) (f : IsFed Allowed guid (b ∷ []) held h)
    → (over h ≡ None → (more : List ℕ) → to_come h (b ∷ more) ≡ said (step.Say r) (to_come now more)) → MayGo Allowed held (reply_line guid r)
reply_may Allowed guid b held h now r f takes =
    let whole : (shake f.door ((f.bytes ++ b ∷ []) ++ f.rest)).replies ≡ f.fed.replies ++ r ∷ (to_come now f.rest).replies =
    ap (λ (s : Shaken). s.replies) (one_more f.door guid f.bytes f.before held h now b f.fed (step.Say r) takes f.rest) in
    let lines : reply_lines guid (shake f.door ((f.bytes ++ b ∷ []) ++ f.rest)).replies ≡ reply_lines guid f.fed.replies ++ (reply_line guid r ++ reply_lines guid (to_come now f.rest).replies) =
    ap (reply_lines guid) whole ∙ lines-append guid f.fed.replies (r ∷ (to_come now f.rest).replies) in
    may_go_whole Allowed held (reply_line guid r)
    (fronts_begin Allowed held (reply_line guid r) (reply_lines guid (to_come now f.rest).replies)
    (fronts_more Allowed f.before held (reply_lines guid f.fed.replies) (reply_line guid r ++ reply_lines guid (to_come now f.rest).replies) (subst (MayFronts Allowed f.before) lines f.may) f.fed.wrote))

-- some bytes were fed, and the next one is among those that may be replied to
pub next_fed : (Allowed : List ℕ → Type 0) (guid k b : ℕ) (bytes : List ℕ) (held now : Option (List ℕ)) (h h' : Shaking) (f : IsFed Allowed guid bytes held h) → k < length bytes → b ≡ get_or bytes k 0
    → Fed f.door guid (f.bytes ++ take k bytes) f.before now h' → IsFed Allowed guid (b ∷ []) now h'
next_fed Allowed guid k b bytes held now h h' f lt is fed = record {
  door = f.door;
  bytes = f.bytes ++ take k bytes;
  before = f.before;
  fed = fed;
  rest = drop (k + 1) bytes ++ f.rest;
  may = subst (RepliesMay Allowed f.before f.door guid) (sym whole) f.may;
}
  where
    parts : (f.bytes ++ take k bytes) ++ b ∷ [] ≡ f.bytes ++ take (k + 1) bytes
    parts = ap (λ (x : ℕ). (f.bytes ++ take k bytes) ++ x ∷ []) is ∙ one_byte_more f.bytes bytes k k lt refl

    whole : ((f.bytes ++ take k bytes) ++ b ∷ []) ++ (drop (k + 1) bytes ++ f.rest) ≡ (f.bytes ++ bytes) ++ f.rest
    whole = ap (λ (l : List ℕ). l ++ (drop (k + 1) bytes ++ f.rest)) parts
        ∙ sym (append_assoc (f.bytes ++ take (k + 1) bytes) (drop (k + 1) bytes) f.rest)
        ∙ ap (λ (l : List ℕ). l ++ f.rest) (append_assoc f.bytes (take (k + 1) bytes) (drop (k + 1) bytes) ∙ ap (λ (l : List ℕ). f.bytes ++ l) (take-append-drop (k + 1) bytes))

-- the bytes of the buffer are the next ones of an opening
pub round_fed : (Allowed : List ℕ → Type 0) (guid : ℕ) (left held : Option (List ℕ)) (buffer bytes : List ℕ) (h : Shaking) → bytes ≡ buffer → MayGoOn Allowed guid left held buffer h → IsFed Allowed guid bytes held h
round_fed Allowed guid left held buffer bytes h same m = record {
  door = m.door;
  bytes = m.underway.bytes;
  before = m.held_before;
  fed = m.underway.fed;
  rest = [];
  may = subst (RepliesMay Allowed m.held_before m.door guid)
      (m.underway.all ∙ ap (λ (l : List ℕ). m.underway.bytes ++ l) (sym same) ∙ sym (append-nil (m.underway.bytes ++ bytes)))
      (m.may m.underway.read);
}
