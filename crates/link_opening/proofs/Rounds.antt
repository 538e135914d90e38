-- What a round makes of an opening.
use Rattle.std.proofs.Common.{◌≡◌, ℕ, ◌+◌, ◌<◌, List, [], ◌∷◌, ◌++◌, Option, None, Bool, IsTrue, refl, ap, sym, ◌∙◌, subst, append_assoc, append-nil, take, drop, length, get_or, arith}
use Rattle.std.specs.Prelude.{IfNone}
use Rattle.std.proofs.lemmas.List.{take-append-drop, take_more, drop_all}
use Rattle.pk_outside.specs.Causes.{FailsLast}
use Rattle.pk_outside.specs.Streams.{Gave, Got, GotFront}
use Rattle.pk_outside.proofs.Written.{Gave-more, Gave-none, Got-none}
use Rattle.link_handshake.specs.Shakes.{Standing, Open, Begun, Failed, Shaken, shake}
use Rattle.link_handshake.specs.Machines.{Shaking, to_come, over}
use Rattle.link_handshake.specs.Replies.{reply_lines}
use Rattle.link_handshake.specs.declared.server.ShakeReply.{ShakeReply}
use Rattle.link_opening.specs.declared.ends.Opening.{Opening}
use Rattle.link_opening.specs.declared.ends.Opening.TheVariants as opening
use Rattle.link_opening.specs.declared.ends.ShakeStop.{ShakeStop}
use Rattle.link_opening.specs.declared.ends.ShakeStop.TheVariants as stop
use Rattle.link_opening.specs.Opens.{Awaits, EndsSo, Opens, Settles, WroteFront, opening_of}
use Rattle.link_opening.specs.Feeds.{Fed, StopsAt, Underway, replies_first}
use Rattle.link_opening.proofs.Fed.{front_of_more}

-- nothing was read yet
pub underway_first : (door guid : ℕ) (first : List ℕ) (left held : Option (List ℕ)) (h : Shaking) → ((bytes : List ℕ) → to_come h bytes ≡ shake door bytes) → over h ≡ None
    → Underway door guid first left left held held first h
underway_first door guid first left held h all goes_on = record {
  read = [];
  gave = Gave-none left;
  bytes = [];
  all = append-nil first;
  fed = record { goes_on = goes_on; waits = all []; replies = []; answered = λ more. sym (all more); wrote = Got-none held };
}

-- the handshake was settled by some bytes, and others follow
settled_before : (door guid : ℕ) (bytes behind whole : List ℕ) (before held : Option (List ℕ)) (standing : List ℕ → Standing) → whole ≡ bytes ++ behind
    → Settles door guid bytes before held standing → Settles door guid whole before held (λ more. standing (behind ++ more))
settled_before door guid bytes behind whole before held standing e s = record {
  replies = s.replies;
  answered = λ more. ap (λ l. shake door (l ++ more)) e ∙ ap (shake door) (append_assoc bytes behind more) ∙ s.answered (behind ++ more);
  wrote = s.wrote;
}

module _ (door guid : ℕ) (first : List ℕ) (left_before left held_before held : Option (List ℕ)) (buffer : List ℕ) (h : Shaking) (u : Underway door guid first left_before left held_before held buffer h) where
  -- it is fed no further than so many bytes of the buffer
  pub stopped : (n : ℕ) (ended : Bool) (now : Option (List ℕ)) (why : ShakeStop) → StopsAt door guid (u.bytes ++ take n buffer) held_before now why
      → Opens door guid first left_before left ended held_before now (drop n buffer) (opening_of why)
  stopped n ended now why s = record { read = u.read; gave = u.gave; ends = ends_of why s }
    where
      whole : first ++ u.read ≡ (u.bytes ++ take n buffer) ++ drop n buffer
      whole = u.all ∙ ap (λ l. u.bytes ++ l) (sym (take-append-drop n buffer)) ∙ sym (append_assoc u.bytes (take n buffer) (drop n buffer))

      ends_of : (why : ShakeStop) → StopsAt door guid (u.bytes ++ take n buffer) held_before now why → EndsSo door guid (first ++ u.read) ended held_before now (drop n buffer) (opening_of why)
      ends_of stop.Begun s = settled_before door guid (u.bytes ++ take n buffer) (drop n buffer) (first ++ u.read) held_before now (λ more. Begun more) whole s
      ends_of (stop.Fault fault) s = settled_before door guid (u.bytes ++ take n buffer) (drop n buffer) (first ++ u.read) held_before now (λ more. Failed fault) whole s
      ends_of stop.WriteFault s = subst (λ l. WroteFront door guid l held_before now) (sym whole) (s (drop n buffer))

  -- the same under the names of a round
  pub stopped_at : (n : ℕ) (ended : Bool) (now : Option (List ℕ)) (why : ShakeStop) (bytes rest : List ℕ) (result : Opening) → bytes ≡ buffer → rest ≡ drop n buffer → result ≡ opening_of why
      → StopsAt door guid (u.bytes ++ take n bytes) held_before now why → Opens door guid first left_before left ended held_before now rest result
  stopped_at n ended now why bytes rest result same taken is s =
      subst (λ r. Opens door guid first left_before left ended held_before now r result) (sym taken)
      (subst (λ o. Opens door guid first left_before left ended held_before now (drop n buffer) o) (sym is)
      (stopped n ended now why (subst (λ l. StopsAt door guid (u.bytes ++ take n l) held_before now why) same s)))

  -- the whole buffer was fed, and this was read behind it
  pub reads_on : (now : Option (List ℕ)) (h' : Shaking) (left' : Option (List ℕ)) (bytes rest filled piece : List ℕ) → Fed door guid (u.bytes ++ bytes) held_before now h' → bytes ≡ buffer → rest ≡ [] → filled ≡ rest ++ piece → Gave left left' piece
      → Underway door guid first left_before left' held_before now filled h'
  reads_on now h' left' bytes rest filled piece fed same empty is gave = record {
    read = u.read ++ piece;
    gave = Gave-more left_before left left' u.read piece u.gave gave;
    bytes = u.bytes ++ buffer;
    all = sym (append_assoc first u.read piece) ∙ ap (λ l. l ++ piece) u.all ∙ ap (λ l. (u.bytes ++ buffer) ++ l) (sym (is ∙ ap (λ l. l ++ piece) empty));
    fed = subst (λ l. Fed door guid (u.bytes ++ l) held_before now h') same fed;
  }

-- nothing is left of what was fed whole
pub all_taken : (stop : Option ShakeStop) (n : ℕ) (bytes buffer rest : List ℕ) → stop ≡ None → IfNone stop (n ≡ length bytes) → bytes ≡ buffer → rest ≡ drop n buffer → rest ≡ []
all_taken stop n bytes buffer rest none all same taken =
    let whole : n ≡ length bytes = subst (λ o. IfNone o (n ≡ length bytes)) none all in
    taken ∙ drop_all n buffer (let l = ap length same in omega (arith, whole, l))

-- one byte more of those behind others
pub one_byte_more : (before xs : List ℕ) (k n : ℕ) → k < length xs → n ≡ k → (before ++ take k xs) ++ get_or xs k 0 ∷ [] ≡ before ++ take (n + 1) xs
one_byte_more before xs k n lt is =
    append_assoc before (take k xs) (get_or xs k 0 ∷ []) ∙ ap (λ l. before ++ l) (sym (take_more xs k 0 lt)) ∙ ap (λ (m : ℕ). before ++ take (m + 1) xs) (sym is)

-- all that was read was fed, and more is awaited
pub awaits : (door guid : ℕ) (bytes : List ℕ) (before held : Option (List ℕ)) (h : Shaking) → Fed door guid bytes before held h → Awaits door guid bytes before held
awaits door guid bytes before held h f =
    let whole : shake door bytes ≡ record { replies = f.replies; standing = Open } =
    ap (shake door) (sym (append-nil bytes)) ∙ f.answered [] ∙ ap (replies_first f.replies) f.waits ∙ ap (λ (rs : List ShakeReply). record { replies = rs; standing = Open }) (append-nil f.replies) in
    record {
      standing = ap (λ (s : Shaken). s.standing) whole;
      wrote = subst (λ (rs : List ShakeReply). Got before held (reply_lines guid rs)) (sym (ap (λ (s : Shaken). s.replies) whole)) f.wrote;
    }

none_left : (bytes : List ℕ) → length bytes < 1 → bytes ≡ []
none_left [] few = refl
none_left (x ∷ bytes) few = absurd (omega (arith, few))

-- what was written is a prefix of what is replied to these and more bytes
pub fed_front_of : (door guid : ℕ) (bytes more : List ℕ) (before held : Option (List ℕ)) (h : Shaking) → Fed door guid bytes before held h → WroteFront door guid (bytes ++ more) before held
fed_front_of door guid bytes more before held h f =
    subst (λ (s : Shaken). GotFront before held (reply_lines guid s.replies)) (sym (f.answered more)) (front_of_more guid f.replies (to_come h more).replies before held f.wrote)

module _ (door guid : ℕ) (first : List ℕ) (left_before left held_before held : Option (List ℕ)) (buffer : List ℕ) (h : Shaking) (u : Underway door guid first left_before left held_before held buffer h) where
  fed_all : length buffer < 1 → first ++ u.read ≡ u.bytes
  fed_all few = u.all ∙ ap (λ l. u.bytes ++ l) (none_left buffer few) ∙ append-nil u.bytes

  -- the source ended
  pub cut : (ended : Bool) → length buffer < 1 → IsTrue ended → Opens door guid first left_before left ended held_before held buffer opening.Cut
  cut ended few is_end = record {
    read = u.read;
    gave = u.gave;
    ends = (subst (λ l. Awaits door guid l held_before held) (sym (fed_all few)) (awaits door guid u.bytes held_before held h u.fed), is_end);
  }

  -- the source failed
  pub read_fault : (ended : Bool) → length buffer < 1 → Opens door guid first left_before left ended held_before held buffer opening.ReadFault
  read_fault ended few = record {
    read = u.read;
    gave = u.gave;
    ends = subst (λ l. Awaits door guid l held_before held) (sym (fed_all few)) (awaits door guid u.bytes held_before held h u.fed);
  }

  -- memory was refused
  pub no_memory : (ended : Bool) (rest : List ℕ) → Opens door guid first left_before left ended held_before held rest opening.NoMemory
  no_memory ended rest = record {
    read = u.read;
    gave = u.gave;
    ends = subst (λ l. WroteFront door guid l held_before held) (sym u.all) (fed_front_of door guid u.bytes buffer held_before held h u.fed);
  }

-- a fault behind calls that left the count
pub fails_later : {S : Type 0} (content : S → Option (List ℕ)) (faults : S → ℕ) (before between now : S) → faults between ≡ faults before → FailsLast content faults between now → FailsLast content faults before now
fails_later content faults before between now quiet f = record { moment = f.moment; quiet = f.quiet ∙ quiet; counted = f.counted; same = f.same }
