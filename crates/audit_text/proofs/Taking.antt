-- Lines that are taken from a source, one after the other.
use Rattle.std.proofs.Common.{◌≡◌, ◌≢◌, ◌≤◌, ◌<◌, ◌+◌, ◌-◌, ℕ, suc, false, IsTrue, List, [], ◌∷◌, ◌++◌, length, Option, Result, Ok, Err, refl, sym, ap, subst, ◌∙◌, append_assoc, append-nil, inl, inr, arith}
use Rattle.pk_types.specs.Pieces.{Lacks, pieces_of}
use Rattle.std.specs.Result.{IsErrAnd}
use Rattle.std.specs.Str.{bytes_eq}
use Rattle.pk_outside.specs.Causes.{Rose, FailsLast, one_more as one_more_fault}
use Rattle.pk_outside.specs.Streams.{Gave}
use Rattle.pk_outside.proofs.Written.{Gave-none, Gave-more}
use Rattle.source_buffer.specs.Reading as of_buffer
use Rattle.audit_words.specs.declared.fault.Kind.{Kind}
use Rattle.audit_words.specs.declared.fault.Kind.TheVariants as of_words
use Rattle.audit_words.specs.Codecs.{Codec, whole}
use Rattle.audit_words.specs.Lines.{cut_at}
use Rattle.audit_words.proofs.Cutting.{separator_at, no_separator}
use Rattle.audit_words.proofs.Tests.{chosen}
use Rattle.audit_text.specs.declared.fault.LineKind.{LineKind}
use Rattle.audit_text.specs.declared.fault.LineKind.TheVariants as kind
use Rattle.audit_text.specs.declared.fault.Stop.{Stop}
use Rattle.audit_text.specs.declared.fault.Stop.TheVariants as stops
use Rattle.audit_text.specs.Lines.{Place, Reading, ◌then◌, LineCodec, ◌↵◌, Headed, headed, take_parts, take_items, take_line, on_line, of_whole, value_of, line}
use Rattle.audit_text.specs.Takes.{Stand, place_at, IfEnd, GivesAt, HasStopCause, Takes, IsLine, TakesLine, IsLeft}
use Rattle.audit_text.proofs.Loops.{with_front, goes_on, is_done, starts, one_more}

pub rose_later : (a b c : ℕ) → a ≤ b → Rose b c → Rose a c
rose_later a b c le rose = omega (arith, le, rose)

pub rose_before : (a b c : ℕ) → Rose a b → b ≤ c → Rose a c
rose_before a b c rose le = omega (arith, le, rose)

-- what is read later comes behind
place_later : (s : Stand) (r q after : List ℕ) → place_at s ((r ++ q) ++ after) ≡ place_at s (r ++ (q ++ after))
place_later s r q after = ap (λ (t : List ℕ). (s.number, s.kept ++ t)) (append_assoc r q after)

-- ---- a stop is a stop of what is read first

stop_at : {A B : Type 0} (e : Stop) (a b : Stand) (after : List ℕ) (r : Reading A) (g : A × Place → Reading B) → GivesAt (Err e) a b after r → GivesAt (Err e) a b after (r then g)
stop_at stops.Memory a b after r g h = tt
stop_at stops.Failed a b after r g h = tt
stop_at {A} {B} (stops.Bad n k) a b after r g h = λ z. ap (λ (x : Reading A). x then g) (h z)

cause_at : (A B : Type 0) (e : Stop) (a b : Stand) → HasStopCause {V = A} (Err e) a b → HasStopCause {V = B} (Err e) a b
cause_at A B stops.Memory a b h = tt
cause_at A B stops.Failed a b h = h
cause_at A B (stops.Bad n k) a b h = h

pub stop_takes : {A B : Type 0} (e : Stop) (a b : Stand) (f : Place → Reading A) (g : A × Place → Reading B) → Takes {V = A} a b (Err e) f → Takes {V = B} a b (Err e) (λ p. f p then g)
stop_takes {A} {B} e a b f g t = record {
  read = t.read;
  gave = t.gave;
  gives = λ after. stop_at {A = A} {B = B} e a b after (f (place_at a (t.read ++ after))) g (t.gives after);
  later = t.later;
  cause = cause_at A B e a b t.cause;
}

-- a stop is passed on
pub passed_on : {V : Type 0} (a b : Stand) (f : Place → Reading V) (r : Result V Stop) (e : Stop) → IsErrAnd r (λ (x : Stop). x ≡ e) → Takes a b (Err e) f → Takes a b r f
passed_on a b f (Ok v) e is t = absurd is
passed_on {V} a b f (Err x) e is t = subst (λ (w : Stop). Takes {V = V} a b (Err w) f) (sym is) t

-- ---- one after another

cause_later : {B : Type 0} (r : Result B Stop) (a b c : Stand) → a.faults ≤ b.faults → HasStopCause r b c → HasStopCause r a c
cause_later (Ok v) a b c le h = tt
cause_later (Err stops.Memory) a b c le h = tt
cause_later (Err stops.Failed) a b c le h = rose_later a.faults b.faults c.faults le h
cause_later (Err (stops.Bad n k)) a b c le h = h

gives_from : {B : Type 0} (r : Result B Stop) (a b c : Stand) (after : List ℕ) (x y : Reading B) → x ≡ y → GivesAt r b c after y → GivesAt r a c after x
gives_from (Ok v) a b c after x y e h = e ∙ h
gives_from (Err stops.Memory) a b c after x y e h = tt
gives_from (Err stops.Failed) a b c after x y e h = tt
gives_from (Err (stops.Bad n k)) a b c after x y e h = λ z. e ∙ h z

pub then_takes : {A B : Type 0} (r : Result B Stop) (x : A) (a b c : Stand) (f : Place → Reading A) (g : A × Place → Reading B) → Takes a b (Ok x) f → Takes b c r (λ p. g (x, p))
    → Takes a c r (λ p. f p then g)
then_takes {A} {B} r x a b c f g s t = record {
  read = s.read ++ t.read;
  gave = Gave-more a.left b.left c.left s.read t.read s.gave t.gave;
  gives = λ after.
      gives_from r a b c after (f (place_at a ((s.read ++ t.read) ++ after)) then g) (g (x, place_at b (t.read ++ after)))
      (ap (λ (p : Place). f p then g) (place_later a s.read t.read after) ∙ ap (λ (y : Reading A). y then g) (s.gives (t.read ++ after)))
      (t.gives after);
  later = omega (arith, s.later, t.later);
  cause = cause_later r a b c s.later t.cause;
}

-- ---- the value is made into another

pub made_takes : {A B : Type 0} (make : A → B) (x : A) (a b : Stand) (f : Place → Reading A) → Takes a b (Ok x) f → Takes a b (Ok (make x)) (λ p. f p then λ y. Ok (make y.0, y.1))
made_takes {A} {B} make x a b f t = record {
  read = t.read;
  gave = t.gave;
  gives = λ after. ap (λ (r : Reading A). r then λ y. Ok (make y.0, y.1)) (t.gives after);
  later = t.later;
  cause = tt;
}

-- ---- two parts

pub both_takes : {A B : Type 0} (p : LineCodec A) (q : LineCodec B) (x : A) (y : B) (a b c : Stand) → Takes a b (Ok x) p.take → Takes b c (Ok y) q.take → Takes a c (Ok (x, y)) (p ↵ q).take
both_takes {A} {B} p q x y a b c s t =
    then_takes {A = A} {B = A × B} (Ok (x, y)) x a b c p.take (λ z. q.take z.1 then λ w. Ok ((z.0, w.0), w.1)) s (made_takes {A = B} {B = A × B} (λ w. (x, w)) y b c q.take t)

pub second_stops : {A B : Type 0} (p : LineCodec A) (q : LineCodec B) (x : A) (e : Stop) (a b c : Stand) → Takes a b (Ok x) p.take → Takes {V = B} b c (Err e) q.take → Takes {V = A × B} a c (Err e) (p ↵ q).take
second_stops {A} {B} p q x e a b c s t =
    then_takes {A = A} {B = A × B} (Err e) x a b c p.take (λ z. q.take z.1 then λ w. Ok ((z.0, w.0), w.1)) s (stop_takes {A = B} {B = A × B} e b c q.take (λ w. Ok ((x, w.0), w.1)) t)

pub first_stops : {A B : Type 0} (p : LineCodec A) (q : LineCodec B) (e : Stop) (a b : Stand) → Takes {V = A} a b (Err e) p.take → Takes {V = A × B} a b (Err e) (p ↵ q).take
first_stops {A} {B} p q e a b t = stop_takes {A = A} {B = A × B} e a b p.take (λ z. q.take z.1 then λ w. Ok ((z.0, w.0), w.1)) t

-- ---- what stands behind a head

pub parts_take : {V : Type 0} (s : Headed V) (h : s.Head) (x : s.Parts) (a b : Stand) → Takes a b (Ok x) (s.parts h).take → Takes a b (Ok (s.make x)) (λ p. take_parts s (h, p))
parts_take {V} s h x a b t = made_takes {A = s.Parts} {B = V} s.make x a b (s.parts h).take t

pub parts_stop : {V : Type 0} (s : Headed V) (h : s.Head) (e : Stop) (a b : Stand) → Takes {V = s.Parts} a b (Err e) (s.parts h).take → Takes {V = V} a b (Err e) (λ p. take_parts s (h, p))
parts_stop {V} s h e a b t = stop_takes {A = s.Parts} {B = V} e a b (s.parts h).take (λ x. Ok (s.make x.0, x.1)) t

pub headed_take : {V : Type 0} (s : Headed V) (h : s.Head) (x : s.Parts) (a b c : Stand) → Takes a b (Ok h) s.head.take → Takes b c (Ok x) (s.parts h).take → Takes a c (Ok (s.make x)) (headed s).take
headed_take {V} s h x a b c t u = then_takes {A = s.Head} {B = V} (Ok (s.make x)) h a b c s.head.take (take_parts s) t (parts_take s h x b c u)

pub headed_stop : {V : Type 0} (s : Headed V) (h : s.Head) (e : Stop) (a b c : Stand) → Takes a b (Ok h) s.head.take → Takes {V = s.Parts} b c (Err e) (s.parts h).take → Takes {V = V} a c (Err e) (headed s).take
headed_stop {V} s h e a b c t u = then_takes {A = s.Head} {B = V} (Err e) h a b c s.head.take (take_parts s) t (parts_stop s h e b c u)

pub head_stop : {V : Type 0} (s : Headed V) (e : Stop) (a b : Stand) → Takes {V = s.Head} a b (Err e) s.head.take → Takes {V = V} a b (Err e) (headed s).take
head_stop {V} s e a b t = stop_takes {A = s.Head} {B = V} e a b s.head.take (take_parts s) t

-- ---- a line

read_before : (a : Stand) (read after : List ℕ) → a.kept ++ (read ++ after) ≡ (a.kept ++ read) ++ after
read_before a read after = sym (append_assoc a.kept read after)

-- what stands before the next LF, whatever comes behind
line_at : {V : Type 0} (word : List ℕ) (c : Codec V) (a b : Stand) (read bytes after : List ℕ) → IsLine a b read bytes
    → (line word c).take (place_at a (read ++ after)) ≡ on_line a.number (b.kept ++ after) (value_of word c (pieces_of 32 bytes))
line_at word c a b read bytes after l =
    let whole : a.kept ++ (read ++ after) ≡ bytes ++ 10 ∷ (b.kept ++ after) =
    read_before a read after ∙ ap (λ (t : List ℕ). t ++ after) l.whole ∙ append_assoc bytes (10 ∷ b.kept) after in
    ap (take_line word c a.number) (ap (cut_at 10) whole ∙ separator_at 10 bytes (b.kept ++ after) l.lacks)

abbrev a_reading : {V : Type 0} → V × Place → Reading V
a_reading x = Ok x

pub value_taken : {V : Type 0} (word : List ℕ) (c : Codec V) (v : V) (a b : Stand) (bytes : List ℕ) → TakesLine {T = Unit {0}} a b (Ok tt) bytes → value_of word c (pieces_of 32 bytes) ≡ Ok v
    → Takes a b (Ok v) (line word c).take
value_taken {V} word c v a b bytes t e = record {
  read = t.read;
  gave = t.gave;
  gives = λ after.
      line_at word c a b t.read bytes after t.is ∙ ap (on_line a.number (b.kept ++ after)) e
      ∙ ap (λ (n : ℕ). a_reading (v, (n, b.kept ++ after))) (sym t.is.number);
  later = t.later;
  cause = tt;
}

not_end : (k : LineKind) (P : Type 0) → k ≢ kind.End → IfEnd k P
not_end kind.Word P ne = tt
not_end kind.Count P ne = tt
not_end kind.Number P ne = tt
not_end kind.Value P ne = tt
not_end kind.End P ne = absurd (ne refl)

pub value_bad : {V : Type 0} (word : List ℕ) (c : Codec V) (k : LineKind) (a b : Stand) (bytes : List ℕ) → TakesLine {T = Unit {0}} a b (Ok tt) bytes → value_of word c (pieces_of 32 bytes) ≡ Err k
    → k ≢ kind.End → Takes {V = V} a b (Err (stops.Bad a.number k)) (line word c).take
value_bad {V} word c k a b bytes t e ne = record {
  read = t.read;
  gave = t.gave;
  gives = λ after z. line_at word c a b t.read bytes after t.is ∙ ap (on_line a.number (b.kept ++ after)) e;
  later = t.later;
  cause = not_end k (IsTrue b.ended) ne;
}

pub value_lost : {V : Type 0} (f : Place → Reading V) (a b : Stand) (bytes : List ℕ) → TakesLine {T = Unit {0}} a b (Ok tt) bytes → Takes {V = V} a b (Err stops.Memory) f
value_lost f a b bytes t = record { read = t.read; gave = t.gave; gives = λ after. tt; later = t.later; cause = tt }

-- no line was taken
pub no_line : {V : Type 0} (word : List ℕ) (c : Codec V) (e : Stop) (a b : Stand) (bytes : List ℕ) → TakesLine {T = Unit {0}} a b (Err e) bytes → Takes {V = V} a b (Err e) (line word c).take
no_line word c stops.Memory a b bytes t = record { read = t.read; gave = t.gave; gives = λ after. tt; later = t.later; cause = tt }
no_line word c stops.Failed a b bytes t = record { read = t.read; gave = t.gave; gives = λ after. tt; later = t.later; cause = t.is }
no_line {V} word c (stops.Bad n k) a b bytes t =
    subst (λ (j : LineKind). Takes {V = V} a b (Err (stops.Bad n j)) (line word c).take) (sym t.is.end)
    (subst (λ (m : ℕ). Takes {V = V} a b (Err (stops.Bad m kind.End)) (line word c).take) (sym t.is.number) (record {
      read = t.read;
      gave = t.gave;
      gives = λ after z.
          ap (λ (s : List ℕ). take_line word c a.number (cut_at 10 (a.kept ++ (t.read ++ s)))) z
          ∙ ap (λ (s : List ℕ). take_line word c a.number (cut_at 10 (a.kept ++ s))) (append-nil t.read)
          ∙ ap (take_line word c a.number) (no_separator 10 (a.kept ++ t.read) t.is.lacks);
      later = t.later;
      cause = t.is.ended;
    }))

-- ---- as many as are told

-- the items so far, of those that are told
pub record TakesSome {A : Type 0} (c : LineCodec A) (count i : ℕ) (items : List A) (before now : Stand) : Type 0 where
  pub read : List ℕ
  pub gave : Gave before.left now.left read
  pub gives : (after : List ℕ) → with_front items (take_items c (count - i) (place_at now after)) ≡ take_items c count (place_at before (read ++ after))
  pub later : before.faults ≤ now.faults

pub none_taken : {A : Type 0} (c : LineCodec A) (count : ℕ) (items : List A) (a : Stand) → items ≡ [] → TakesSome c count 0 items a a
none_taken {A} c count items a none =
    let k : count - 0 ≡ count = omega arith in
    record {
      read = [];
      gave = Gave-none a.left;
      gives = λ after.
          ap (λ (vs : List A). with_front vs (take_items c (count - 0) (place_at a after))) none
          ∙ ap (λ (n : ℕ). with_front [] (take_items c n (place_at a after))) k ∙ starts (take_items c count (place_at a after));
      later = omega arith;
    }

pub one_taken : {A : Type 0} (c : LineCodec A) (count i : ℕ) (items : List A) (v : A) (s a b : Stand) → i < count → TakesSome c count i items s a → Takes a b (Ok v) c.take
    → TakesSome c count (i + 1) (items ++ v ∷ []) s b
one_taken {A} c count i items v s a b lt t u = record {
  read = t.read ++ u.read;
  gave = Gave-more s.left a.left b.left t.read u.read t.gave u.gave;
  gives = λ after.
      goes_on A c items count i (place_at a (u.read ++ after)) v (place_at b after) (take_items c count (place_at s ((t.read ++ u.read) ++ after))) lt (u.gives after)
      (t.gives (u.read ++ after) ∙ ap (take_items c count) (sym (place_later s t.read u.read after)));
  later = omega (arith, t.later, u.later);
}

stops_front : {A : Type 0} (e : Stop) (c : LineCodec A) (items : List A) (count i : ℕ) (s a b : Stand) (after : List ℕ) (at : Place) (total : Reading (List A)) → i < count → GivesAt {V = A} (Err e) a b after (c.take at)
    → with_front items (take_items c (count - i) at) ≡ total → GivesAt {V = List A} (Err e) s b after total
stops_front stops.Memory c items count i s a b after at total lt h so_far = tt
stops_front stops.Failed c items count i s a b after at total lt h so_far = tt
stops_front {A} (stops.Bad n k) c items count i s a b after at total lt h so_far = λ z.
    sym so_far ∙ ap (with_front items) (one_more A c count i at lt ∙ ap (λ (r : Reading A). r then λ x. take_items c (count - (i + 1)) x.1 then λ y. Ok (x.0 ∷ y.0, y.1)) (h z))

pub some_stop : {A : Type 0} (c : LineCodec A) (count i : ℕ) (items : List A) (e : Stop) (s a b : Stand) → i < count → TakesSome c count i items s a → Takes {V = A} a b (Err e) c.take
    → Takes {V = List A} s b (Err e) (take_items c count)
some_stop {A} c count i items e s a b lt t u = record {
  read = t.read ++ u.read;
  gave = Gave-more s.left a.left b.left t.read u.read t.gave u.gave;
  gives = λ after.
      stops_front e c items count i s a b after (place_at a (u.read ++ after)) (take_items c count (place_at s ((t.read ++ u.read) ++ after))) lt (u.gives after)
      (t.gives (u.read ++ after) ∙ ap (take_items c count) (sym (place_later s t.read u.read after)));
  later = omega (arith, t.later, u.later);
  cause = cause_later {B = List A} (Err e) s a b t.later (cause_at A (List A) e a b u.cause);
}

-- memory for an item was refused
pub some_lost : {A : Type 0} (c : LineCodec A) (count i : ℕ) (items : List A) (v : A) (s a b : Stand) → TakesSome c count i items s a → Takes a b (Ok v) c.take
    → Takes {V = List A} s b (Err stops.Memory) (take_items c count)
some_lost {A} c count i items v s a b t u = record {
  read = t.read ++ u.read;
  gave = Gave-more s.left a.left b.left t.read u.read t.gave u.gave;
  gives = λ after. tt;
  later = omega (arith, t.later, u.later);
  cause = tt;
}

pub all_taken : {A : Type 0} (c : LineCodec A) (count i : ℕ) (items : List A) (s a : Stand) → count ≤ i → TakesSome c count i items s a → Takes s a (Ok items) (take_items c count)
all_taken {A} c count i items s a le t = record {
  read = t.read;
  gave = t.gave;
  gives = λ after. is_done A c items count i (place_at a after) (take_items c count (place_at s (t.read ++ after))) le (t.gives after);
  later = t.later;
  cause = tt;
}

-- ---- what the calls on the buffer say

-- a read that failed was counted
pub fails_rose : {S : Type 0} (content : S → Option (List ℕ)) (faults : S → ℕ) (a b : S) → FailsLast content faults a b → Rose (faults a) (faults b)
fails_rose content faults a b f = let e : faults b ≡ one_more_fault (faults a) = f.counted ∙ ap one_more_fault f.quiet in omega (arith, e)

pub line_taken : {T : Type 0} (x : T) (max : ℕ) (a b : Stand) (read bytes : List ℕ) → Gave a.left b.left read → of_buffer.TakesLine max (a.kept ++ read) b.kept bytes → b.number ≡ suc a.number
    → a.faults ≤ b.faults → TakesLine a b (Ok x) bytes
line_taken x max a b read bytes gave t next later = record { read = read; gave = gave; is = record { whole = t.whole; lacks = t.lacks; number = next }; later = later }

pub last_taken : {T : Type 0} (max : ℕ) (a b : Stand) (read bytes line : List ℕ) → Gave a.left b.left read → of_buffer.TakesLast max b.ended (a.kept ++ read) b.kept line → a.faults ≤ b.faults
    → TakesLine {T = T} a b (Err (stops.Bad a.number kind.End)) bytes
last_taken max a b read bytes line gave t later = record {
  read = read;
  gave = gave;
  is = record { lacks = subst (Lacks 10) (sym t.whole) t.lacks; ended = t.at_end; number = refl; end = refl };
  later = later;
}

pub none_left : {T : Type 0} (a b : Stand) (read bytes line : List ℕ) → Gave a.left b.left read → of_buffer.TakesNone b.ended (a.kept ++ read) b.kept line → a.faults ≤ b.faults
    → TakesLine {T = T} a b (Err (stops.Bad a.number kind.End)) bytes
none_left a b read bytes line gave t later = record {
  read = read;
  gave = gave;
  is = record { lacks = subst (Lacks 10) (sym t.whole) tt; ended = t.at_end; number = refl; end = refl };
  later = later;
}

abbrev a_kind : {V : Type 0} → LineKind → Result V LineKind
a_kind k = Err k

-- the words of a line that stands there do not end the input
never_end : {V : Type 0} (r : Result V Kind) (k : LineKind) → of_whole r ≡ Err k → k ≢ kind.End
never_end (Ok v) k e = absurd cc
never_end (Err of_words.Count) k e = λ z. absurd cc
never_end (Err of_words.Number) k e = λ z. absurd cc
never_end (Err of_words.Value) k e = λ z. absurd cc

word_is : {V : Type 0} (k : LineKind) → a_kind {V = V} kind.Word ≡ Err k → k ≢ kind.End
word_is k e = λ z. absurd cc

pub not_the_end : {V : Type 0} (word : List ℕ) (c : Codec V) (ws : List (List ℕ)) (k : LineKind) → value_of word c ws ≡ Err k → k ≢ kind.End
not_the_end {V} word c [] k e = word_is {V = V} k e
not_the_end {V} word c (w ∷ ws) k e = elim (chosen (bytes_eq w word) (of_whole (whole c ws)) (Err kind.Word) (Err k) e) [
  | inl q ↦ never_end (whole c ws) k q.1
  | inr q ↦ word_is {V = V} k q.1
]

-- some byte is there
pub first_of : (bytes : List ℕ) → 1 ≤ length bytes → (byte : ℕ) × (behind : List ℕ) × (bytes ≡ byte ∷ behind)
first_of [] le = absurd (omega (arith, le))
first_of (b ∷ bs) le = (b, bs, refl)

-- none is
pub no_byte : (bytes : List ℕ) → length bytes < 1 → bytes ≡ []
no_byte [] lt = refl
no_byte (b ∷ bs) lt = absurd (omega (arith, lt))

pub one_left : (a b : Stand) (read : List ℕ) → Gave a.left b.left read → b.kept ≡ a.kept ++ read → 1 ≤ length b.kept → a.faults ≤ b.faults → IsLeft a b (Ok false)
one_left a b read gave e le later =
    let x = first_of b.kept le in
    record { read = read; gave = gave; is = (x.0, x.1, sym e ∙ x.2, x.2); later = later }
