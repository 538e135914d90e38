-- Lines that go through a buffer to a sink.
use Rattle.std.proofs.Common.{◌≡◌, ◌<◌, ◌≤◌, ◌+◌, ◌^◌, ℕ, Bool, true, cond, List, [], ◌∷◌, ◌++◌, length, get_or, take, drop, All, Option, Result, Ok, Err, refl, sym, ap, subst, ◌∙◌, append_assoc, append-nil, arith, length-append}
use Rattle.std.specs.Prelude.{nat_le}
use Rattle.std.specs.Result.{IsErrAnd}
use Rattle.std.specs.List.{concat, flat_map}
use Rattle.std.proofs.lemmas.Bool.Decides.{nat_tests}
use Rattle.std.proofs.lemmas.List.Folds.{concat-append}
use Rattle.std.proofs.lemmas.List.Elements.{All-head}
use Rattle.pk_outside.specs.Allowing.{IsFree, MayFronts, MayGo}
use Rattle.pk_outside.specs.Causes.{FailsLast}
use Rattle.pk_outside.specs.Streams.{Got, GotFront}
use Rattle.pk_outside.proofs.Going.{fronts_begin, fronts_more, may_go_free, may_go_whole}
use Rattle.pk_outside.proofs.Written.{Got-none, Got-more}
use Rattle.audit_words.specs.Buffers.{Buffered, counted, kept_within, emptied, put}
use Rattle.audit_text.specs.Writes.{HasRoom, IsOpen, Desk, desk, MayWrite, Grew, Broke, Writes}
use Rattle.audit_text.proofs.Measures.{all_front, all_back, more_lines, all_lines, split_lines}

-- ---- the buffer

pub record IsPut (old new : Buffered) (bytes : List ℕ) : Type 0 where
  pub kept : new.kept ≡ old.kept ++ bytes
  pub whole : new.count ≡ length new.kept
  pub room : new.room ≡ old.room

-- a line for which there is room is kept
pub line_put : (old new : Buffered) (bytes : List ℕ) → IsOpen old → HasRoom old.room bytes → new ≡ put old bytes → IsPut old new bytes
unfolding put
line_put old new bytes opened fits e =
    let n : counted old.count (length bytes) ≡ length old.kept + length bytes = omega (arith, opened.whole, opened.few, opened.small, fits) in
    let t : nat_le (length old.kept + length bytes) old.room ≡ true = grind (arith, nat_tests, opened.few, fits) in
    let k : (put old bytes).kept ≡ old.kept ++ bytes =
    ap (λ (m : ℕ). kept_within old.room m (old.kept ++ bytes)) n ∙ ap (λ (b : Bool). cond b (old.kept ++ bytes) []) t in
    let kept : new.kept ≡ old.kept ++ bytes = ap (λ (b : Buffered). b.kept) e ∙ k in
    record {
      kept = kept;
      whole = ap (λ (b : Buffered). b.count) e ∙ n ∙ sym (length-append old.kept bytes) ∙ ap length (sym kept);
      room = ap (λ (b : Buffered). b.room) e;
    }

pub line_is_put : {S : Type 0} {Allowed : List ℕ → Type 0} {held : S → Option (List ℕ)} (old new : Buffered) (output : S) (bytes : List ℕ) → MayWrite Allowed held (desk old output) (bytes ∷ [])
    → new ≡ put old bytes → IsPut old new bytes
line_is_put old new output bytes may e = line_put old new bytes may.opened (All-head (HasRoom old.room) bytes [] may.room) e

pub put_small : (old new : Buffered) (bytes : List ℕ) → IsPut old new bytes → old.room < 2 ^ 64 → new.room < 2 ^ 64
put_small old new bytes p small = subst (λ (n : ℕ). n < 2 ^ 64) (sym p.room) small

-- ---- what may be written

-- the bytes of the lines after those that are kept
kept_then : (kept : List ℕ) (xs ys : List (List ℕ)) → kept ++ concat (xs ++ ys) ≡ (kept ++ concat xs) ++ concat ys
kept_then kept xs ys = ap (λ (t : List ℕ). kept ++ t) (concat-append xs ys) ∙ sym (append_assoc kept (concat xs) (concat ys))

-- the first lines
pub first_may : {S : Type 0} {Allowed : List ℕ → Type 0} {held : S → Option (List ℕ)} {a : Desk S} {xs : List (List ℕ)} (ys : List (List ℕ)) → MayWrite Allowed held a (xs ++ ys)
    → MayWrite Allowed held a xs
first_may {S} {Allowed} {held} {a} {xs} ys may = record {
  opened = may.opened;
  room = all_front (HasRoom a.buffer.room) xs ys may.room;
  may = fronts_begin Allowed (held a.output) (a.buffer.kept ++ concat xs) (concat ys)
      (subst (λ (t : List ℕ). MayFronts Allowed (held a.output) t) (kept_then a.buffer.kept xs ys) may.may);
}

-- the others, after these were written
pub rest_may : {S : Type 0} {Allowed : List ℕ → Type 0} {held : S → Option (List ℕ)} {faults : S → ℕ} {a b : Desk S} {xs ys : List (List ℕ)} → Grew held faults a b xs
    → MayWrite Allowed held a (xs ++ ys) → MayWrite Allowed held b ys
rest_may {S} {Allowed} {held} {faults} {a} {b} {xs} {ys} g may = record {
  opened = g.opened;
  room = subst (λ (n : ℕ). All (HasRoom n) ys) (sym g.room) (all_back (HasRoom a.buffer.room) xs ys may.room);
  may = fronts_more Allowed (held a.output) (held b.output) g.written (b.buffer.kept ++ concat ys)
      (subst (λ (t : List ℕ). MayFronts Allowed (held a.output) t)
      (kept_then a.buffer.kept xs ys ∙ ap (λ (t : List ℕ). t ++ concat ys) g.rest ∙ append_assoc g.written b.buffer.kept (concat ys)) may.may)
      g.got;
}

-- the line of one of several values, after those of the values before it
pub item_may : {S V : Type 0} (Allowed : List ℕ → Type 0) (held : S → Option (List ℕ)) (faults : S → ℕ) (a b : Desk S) (f : V → List (List ℕ)) (vs : List V) (i : ℕ) (v : V)
    → i < length vs → v ≡ get_or vs i v → Grew held faults a b (flat_map f (take i vs)) → MayWrite Allowed held a (flat_map f vs) → MayWrite Allowed held b (f v)
item_may Allowed held faults a b f vs i v lt is g may =
    first_may (flat_map f (drop (i + 1) vs))
    (rest_may g
    (subst (λ (ls : List (List ℕ)). MayWrite Allowed held a ls) (split_lines f vs i v lt is) may))

-- a line that was put into the buffer
pub line_may : {S : Type 0} (Allowed : List ℕ → Type 0) (held : S → Option (List ℕ)) (old new : Buffered) (output : S) (bytes : List ℕ) → IsPut old new bytes
    → MayWrite Allowed held (desk old output) (bytes ∷ []) → MayGo Allowed (held output) new.kept
line_may Allowed held old new output bytes p may =
    subst (λ (t : List ℕ). MayGo Allowed (held output) t) (ap (λ (t : List ℕ). old.kept ++ t) (append-nil bytes) ∙ sym p.kept)
    (may_go_whole Allowed (held output) (old.kept ++ (bytes ++ [])) may.may)

-- what the buffer keeps in the end
pub end_may : {S : Type 0} (Allowed : List ℕ → Type 0) (held : S → Option (List ℕ)) (faults : S → ℕ) (a b : Desk S) (ls : List (List ℕ)) → Grew held faults a b ls → MayWrite Allowed held a ls
    → MayGo Allowed (held b.output) b.buffer.kept
end_may Allowed held faults a b ls g may =
    may_go_whole Allowed (held b.output) b.buffer.kept
    (fronts_more Allowed (held a.output) (held b.output) g.written b.buffer.kept (subst (λ (t : List ℕ). MayFronts Allowed (held a.output) t) g.rest may.may) g.got)

-- ---- one write after another

front_more : (a b c : Option (List ℕ)) (xs ys : List ℕ) → Got a b xs → GotFront b c ys → GotFront a c (xs ++ ys)
front_more a b c xs ys p q =
    (q.0, (xs ++ q.1.0, ap (λ (t : List ℕ). xs ++ t) q.1.1 ∙ sym (append_assoc xs q.1.0 q.0), Got-more a b c xs q.1.0 p q.1.2))

front_short : (a b : Option (List ℕ)) (xs ys : List ℕ) → GotFront a b xs → GotFront a b (xs ++ ys)
front_short a b xs ys q = (q.0 ++ ys, (q.1.0, ap (λ (t : List ℕ). t ++ ys) q.1.1 ∙ append_assoc q.1.0 q.0 ys, q.1.2))

front_as : (a b : Option (List ℕ)) (xs ys : List ℕ) → xs ≡ ys → GotFront a b xs → GotFront a b ys
front_as a b xs ys e q = subst (λ (t : List ℕ). GotFront a b t) e q

pub last_after : {S : Type 0} (held : S → Option (List ℕ)) (faults : S → ℕ) (a b c : S) → faults b ≡ faults a → FailsLast held faults b c → FailsLast held faults a c
last_after held faults a b c quiet l = record { moment = l.moment; quiet = l.quiet ∙ quiet; counted = l.counted; same = l.same }

pub nothing : {S : Type 0} (held : S → Option (List ℕ)) (faults : S → ℕ) (a : Desk S) → IsOpen a.buffer → Grew held faults a a []
nothing held faults a opened = record { written = []; got = Got-none (held a.output); rest = append-nil a.buffer.kept; opened = opened; room = refl; quiet = refl }

-- what the sink got and the buffer keeps, and what comes after it
behind : (old mid now x y g h : List ℕ) → old ++ x ≡ g ++ mid → mid ++ y ≡ h ++ now → (old ++ x) ++ y ≡ (g ++ h) ++ now
behind old mid now x y g h p q = ap (λ (t : List ℕ). t ++ y) p ∙ append_assoc g mid y ∙ ap (λ (t : List ℕ). g ++ t) q ∙ sym (append_assoc g h now)

pub then_grew : {S : Type 0} {held : S → Option (List ℕ)} {faults : S → ℕ} {a b c : Desk S} {xs ys : List (List ℕ)} → Grew held faults a b xs → Grew held faults b c ys
    → Grew held faults a c (xs ++ ys)
then_grew {S} {held} {faults} {a} {b} {c} {xs} {ys} p q = record {
  written = p.written ++ q.written;
  got = Got-more (held a.output) (held b.output) (held c.output) p.written q.written p.got q.got;
  rest = kept_then a.buffer.kept xs ys ∙ behind a.buffer.kept b.buffer.kept c.buffer.kept (concat xs) (concat ys) p.written q.written p.rest q.rest;
  opened = q.opened;
  room = q.room ∙ p.room;
  quiet = q.quiet ∙ p.quiet;
}

pub then_broke : {S : Type 0} {held : S → Option (List ℕ)} {faults : S → ℕ} {a b c : Desk S} {xs ys : List (List ℕ)} → Grew held faults a b xs → Broke held faults b c ys
    → Broke held faults a c (xs ++ ys)
then_broke {S} {held} {faults} {a} {b} {c} {xs} {ys} p q = record {
  front = front_as (held a.output) (held c.output) (p.written ++ (b.buffer.kept ++ concat ys)) (a.buffer.kept ++ concat (xs ++ ys))
      (sym (kept_then a.buffer.kept xs ys ∙ ap (λ (t : List ℕ). t ++ concat ys) p.rest ∙ append_assoc p.written b.buffer.kept (concat ys)))
      (front_more (held a.output) (held b.output) (held c.output) p.written (b.buffer.kept ++ concat ys) p.got q.front);
  last = last_after held faults a.output b.output c.output p.quiet q.last;
  later = subst (λ (n : ℕ). n ≤ faults c.output) p.quiet q.later;
}

pub then_writes : {S T E : Type 0} (r : Result T E) (held : S → Option (List ℕ)) (faults : S → ℕ) (a b c : Desk S) (xs ys : List (List ℕ)) → Grew held faults a b xs
    → Writes held faults b c r ys → Writes held faults a c r (xs ++ ys)
then_writes (Ok t) held faults a b c xs ys p w = then_grew p w
then_writes (Err e) held faults a b c xs ys p w = then_broke p w

-- a failure is passed on
pub broke_on : {S T E : Type 0} (held : S → Option (List ℕ)) (faults : S → ℕ) (a b : Desk S) (r : Result T E) (e : E) (ls : List (List ℕ)) → IsErrAnd r (λ (x : E). x ≡ e)
    → Broke held faults a b ls → Writes held faults a b r ls
broke_on held faults a b (Ok x) e ls is p = absurd is
broke_on held faults a b (Err x) e ls is p = p

-- lines after a write that failed
pub cut_short : {S : Type 0} {held : S → Option (List ℕ)} {faults : S → ℕ} {a b : Desk S} {xs : List (List ℕ)} (ys : List (List ℕ)) → Broke held faults a b xs
    → Broke held faults a b (xs ++ ys)
cut_short {S} {held} {faults} {a} {b} {xs} ys p = record {
  front = front_as (held a.output) (held b.output) ((a.buffer.kept ++ concat xs) ++ concat ys) (a.buffer.kept ++ concat (xs ++ ys)) (sym (kept_then a.buffer.kept xs ys))
      (front_short (held a.output) (held b.output) (a.buffer.kept ++ concat xs) (concat ys) p.front);
  last = p.last;
  later = p.later;
}

-- ---- a piece

-- a line was put into the buffer, and then a piece was written or not
pub put_writes : {S T E : Type 0} (held : S → Option (List ℕ)) (faults : S → ℕ) (r : Result T E) (old mid : Buffered) (output : S) (now : Desk S) (bytes : List ℕ) → IsPut old mid bytes
    → Writes held faults (desk mid output) now r [] → Writes held faults (desk old output) now r (bytes ∷ [])
put_writes held faults (Ok t) old mid output now bytes p w = record {
  written = w.written;
  got = w.got;
  rest = ap (λ (t : List ℕ). old.kept ++ t) (append-nil bytes) ∙ sym p.kept ∙ sym (append-nil mid.kept) ∙ w.rest;
  opened = w.opened;
  room = w.room ∙ p.room;
  quiet = w.quiet;
}
put_writes held faults (Err e) old mid output now bytes p w = record {
  front = front_as (held output) (held now.output) (mid.kept ++ []) (old.kept ++ (bytes ++ []))
      (append-nil mid.kept ∙ p.kept ∙ ap (λ (t : List ℕ). old.kept ++ t) (sym (append-nil bytes))) w.front;
  last = w.last;
  later = w.later;
}

-- ---- lines one after the other

pub item_grew : {S V : Type 0} (held : S → Option (List ℕ)) (faults : S → ℕ) (a b d : Desk S) (f : V → List (List ℕ)) (vs : List V) (i : ℕ) (v : V) → i < length vs → v ≡ get_or vs i v
    → Grew held faults a b (flat_map f (take i vs)) → Grew held faults b d (f v) → Grew held faults a d (flat_map f (take (i + 1) vs))
item_grew held faults a b d f vs i v lt is p q =
    subst (λ (ls : List (List ℕ)). Grew held faults a d ls) (sym (more_lines f vs i v lt is)) (then_grew p q)

pub item_broke : {S V : Type 0} (held : S → Option (List ℕ)) (faults : S → ℕ) (a b d : Desk S) (f : V → List (List ℕ)) (vs : List V) (i : ℕ) (v : V) → i < length vs → v ≡ get_or vs i v
    → Grew held faults a b (flat_map f (take i vs)) → Broke held faults b d (f v) → Broke held faults a d (flat_map f vs)
item_broke held faults a b d f vs i v lt is p q =
    subst (λ (ls : List (List ℕ)). Broke held faults a d ls) (sym (split_lines f vs i v lt is))
    (then_broke p (cut_short (flat_map f (drop (i + 1) vs)) q))

pub all_grew : {S V : Type 0} (held : S → Option (List ℕ)) (faults : S → ℕ) (a b : Desk S) (f : V → List (List ℕ)) (vs : List V) (i : ℕ) → length vs ≤ i
    → Grew held faults a b (flat_map f (take i vs)) → Grew held faults a b (flat_map f vs)
all_grew held faults a b f vs i le p = subst (λ (ls : List (List ℕ)). Grew held faults a b ls) (all_lines f vs i le) p

-- ---- the whole text

pub text_written : {S : Type 0} (held : S → Option (List ℕ)) (faults : S → ℕ) (a b : Desk S) (after : S) (ls : List (List ℕ)) (text : List ℕ) → a.buffer.kept ≡ [] → concat ls ≡ text
    → Grew held faults a b ls → Got (held b.output) (held after) b.buffer.kept → Got (held a.output) (held after) text
text_written held faults a b after ls text none is p got =
    subst (λ (t : List ℕ). Got (held a.output) (held after) t) (sym p.rest ∙ ap (λ (k : List ℕ). k ++ concat ls) none ∙ is)
    (Got-more (held a.output) (held b.output) (held after) p.written b.buffer.kept p.got got)

pub rest_broke : {S : Type 0} (held : S → Option (List ℕ)) (faults : S → ℕ) (a b : Desk S) (after : S) (ls : List (List ℕ)) (text : List ℕ) → a.buffer.kept ≡ [] → concat ls ≡ text
    → Grew held faults a b ls → GotFront (held b.output) (held after) b.buffer.kept → GotFront (held a.output) (held after) text
rest_broke held faults a b after ls text none is p front =
    front_as (held a.output) (held after) (p.written ++ b.buffer.kept) text (sym p.rest ∙ ap (λ (k : List ℕ). k ++ concat ls) none ∙ is)
    (front_more (held a.output) (held b.output) (held after) p.written b.buffer.kept p.got front)

pub text_broke : {S : Type 0} (held : S → Option (List ℕ)) (faults : S → ℕ) (a b : Desk S) (ls : List (List ℕ)) (text : List ℕ) → a.buffer.kept ≡ [] → concat ls ≡ text
    → Broke held faults a b ls → GotFront (held a.output) (held b.output) text
text_broke held faults a b ls text none is p =
    front_as (held a.output) (held b.output) (a.buffer.kept ++ concat ls) text (ap (λ (k : List ℕ). k ++ concat ls) none ∙ is) p.front

-- ---- before the first byte

-- all lines may be written, where the buffer is empty and has room for each of them
pub may_start : {S : Type 0} (Allowed : List ℕ → Type 0) (held : S → Option (List ℕ)) (b : Buffered) (output : S) (room : ℕ) (ls : List (List ℕ)) (text : List ℕ) → b ≡ emptied room → room < 2 ^ 64
    → concat ls ≡ text → All (HasRoom room) ls → MayFronts Allowed (held output) text → MayWrite Allowed held (desk b output) ls
may_start Allowed held b output room ls text e small is fits may =
    subst (λ (x : Buffered). MayWrite Allowed held (desk x output) ls) (sym e) (record {
      opened = record { whole = refl; few = omega arith; small = small };
      room = fits;
      may = subst (λ (t : List ℕ). MayFronts Allowed (held output) t) (sym is) may;
    })

-- where any text is allowed each prefix may go
pub free_fronts : (Allowed : List ℕ → Type 0) (held : Option (List ℕ)) (text : List ℕ) → IsFree Allowed → MayFronts Allowed held text
free_fronts Allowed held text free = λ front is. may_go_free Allowed held front free
