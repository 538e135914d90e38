-- What is said of the front of a stream stays said, whatever follows.
use Rattle.std.proofs.Common.{◌≡◌, ℕ, ◌+◌, ◌<◌, ◌≤◌, List, ◌++◌, length, get_or, take, drop, Bool, true, false, cond, eqb, ltb, Result, Ok, Err, refl, sym, ap, subst, ◌∙◌, arith}
use Rattle.std.specs.Int.{w32}
use Rattle.std.proofs.lemmas.Bool.{ltb-false, ltb-true, le-ltb}
use Rattle.std.proofs.lemmas.List.{take-append-le, drop-append-le, get_or_append_left, take-append-drop, length-append, length-take, length-drop}
use Rattle.dbus_values.specs.declared.codes.TheConstants.{MAX_BODY, MAX_MESSAGE}
use Rattle.dbus_values.specs.declared.fault.FaultKind.{FaultKind}
use Rattle.dbus_values.specs.declared.fault.FaultKind.TheVariants as fault
use Rattle.dbus_values.specs.declared.fault.Stop.{Stop}
use Rattle.dbus_values.specs.declared.fault.Stop.TheVariants as stop
use Rattle.dbus_values.specs.Reading.{◌>>=◌}
use Rattle.dbus_values.specs.Basics.{gap, number}
use Rattle.dbus_values.specs.Messages.{Start, u32_of, total, wrong, needs, order_of, kind_of, flags_of, body_of, serial_of, fields_of, start_of, message_of}
use Rattle.dbus_values.specs.Next.{Seen, Answer, Whole, Partial, Bad, message_on, start_on, next_of}
use Rattle.dbus_values.specs.Streams.{IfWhole}
use Rattle.dbus_values.proofs.WholeFound.{start_found}
use Rattle.dbus_values.specs.Told.{IfTold}

-- ---- the first 16 bytes

-- a judgement of the first bytes stays, unless they are too few for it
abbrev pub Stays : {A : Type 0} → Result A Stop → Result A Stop → Type 0
Stays (Ok x) later = later ≡ Ok x
Stays (Err stop.Partial) later = Unit {0}
Stays (Err (stop.Bad e)) later = later ≡ Err (stop.Bad e)

same_stays : {A : Type 0} (now later : Result A Stop) → later ≡ now → Stays now later
same_stays (Ok x) later e = e
same_stays (Err stop.Partial) later e = tt
same_stays (Err (stop.Bad f)) later e = e

bind_stays : {A B : Type 0} (now later : Result A Stop) (f g : A → Result B Stop) → Stays now later → ((x : A) → Stays (f x) (g x)) → Stays (now >>= f) (later >>= g)
bind_stays (Ok x) later f g h k = subst (λ (r : Result _ Stop). Stays (f x) (r >>= g)) (sym h) (k x)
bind_stays (Err stop.Partial) later f g h k = tt
bind_stays (Err (stop.Bad e)) later f g h k = ap (λ (r : Result _ Stop). r >>= g) h

needs_stay : {A : Type 0} (n : ℕ) (bytes more : List ℕ) (now later : Result A Stop) → (n ≤ length bytes → later ≡ now) → Stays (needs n bytes now) (needs n (bytes ++ more) later)
needs_stay n bytes more now later same = go (ltb (length bytes) n) refl where
  go : (b : Bool) → ltb (length bytes) n ≡ b → Stays (cond b (Err stop.Partial) now) (needs n (bytes ++ more) later)
  go true e = tt
  go false e =
      let le = ltb-false _ _ e in
      let e' : ltb (length (bytes ++ more)) n ≡ false = le-ltb _ _ (omega (arith, length-append bytes more)) in
      rw e' (same_stays now later (same le))

byte_stays : (bytes more : List ℕ) (i : ℕ) → i < length bytes → get_or (bytes ++ more) i 0 ≡ get_or bytes i 0
byte_stays bytes more i lt = get_or_append_left bytes more 0 i lt

u32_stays : (big : Bool) (bytes more : List ℕ) (at : ℕ) → at + 4 ≤ length bytes → u32_of big (bytes ++ more) at ≡ u32_of big bytes at
u32_stays big bytes more at le =
    ap (λ (x : List ℕ). number big w32 (take 4 x)) (drop-append-le at bytes more (omega arith))
    ∙ ap (λ (x : List ℕ). number big w32 x) (take-append-le 4 (drop at bytes) more (omega (arith, length-drop at bytes)))

order_stays : (bytes more : List ℕ) → Stays (order_of bytes) (order_of (bytes ++ more))
unfolding order_of
order_stays bytes more = needs_stay 1 bytes more _ _ (λ le. ap (λ (b : ℕ). cond (eqb b 108) (Ok false) (cond (eqb b 66) (Ok true) (wrong fault.Endian 0))) (byte_stays bytes more 0 (omega arith)))

kind_stays : (bytes more : List ℕ) → Stays (kind_of bytes) (kind_of (bytes ++ more))
unfolding kind_of
kind_stays bytes more = needs_stay 2 bytes more _ _ (λ le. ap (λ (b : ℕ). cond (eqb b 0) (wrong fault.Kind 1) (Ok b)) (byte_stays bytes more 1 (omega arith)))

flags_stay : (bytes more : List ℕ) → Stays (flags_of bytes) (flags_of (bytes ++ more))
unfolding flags_of
flags_stay bytes more = needs_stay 4 bytes more _ _ (λ le. ap (λ (b : ℕ). cond (eqb b 1) (Ok (get_or (bytes ++ more) 2 0)) (wrong fault.Version 3)) (byte_stays bytes more 3 (omega arith))
    ∙ ap (λ (b : ℕ). cond (eqb (get_or bytes 3 0) 1) (Ok b) (wrong fault.Version 3)) (byte_stays bytes more 2 (omega arith)))

body_stays : (big : Bool) (bytes more : List ℕ) → Stays (body_of big bytes) (body_of big (bytes ++ more))
unfolding body_of
body_stays big bytes more = needs_stay 8 bytes more _ _ (λ le. ap (λ (n : ℕ). cond (ltb MAX_BODY n) (wrong fault.Length 4) (Ok n)) (u32_stays big bytes more 4 (omega arith)))

serial_stays : (big : Bool) (bytes more : List ℕ) → Stays (serial_of big bytes) (serial_of big (bytes ++ more))
unfolding serial_of
serial_stays big bytes more = needs_stay 12 bytes more _ _ (λ le. ap (λ (n : ℕ). cond (eqb n 0) (wrong fault.Serial 8) (Ok n)) (u32_stays big bytes more 8 (omega arith)))

fields_stay : (big : Bool) (body : ℕ) (bytes more : List ℕ) → Stays (fields_of big body bytes) (fields_of big body (bytes ++ more))
unfolding fields_of
fields_stay big body bytes more = needs_stay 16 bytes more _ _ (λ le. ap (λ (n : ℕ). cond (ltb MAX_MESSAGE (16 + (n + gap 8 n) + body)) (wrong fault.Length 12) (Ok n)) (u32_stays big bytes more 12 (omega arith)))

pub start_stays : (bytes more : List ℕ) → Stays (start_of bytes) (start_of (bytes ++ more))
unfolding start_of
start_stays bytes more =
    bind_stays _ _ _ _ (order_stays bytes more) (λ big.
    bind_stays _ _ _ _ (kind_stays bytes more) (λ kind.
    bind_stays _ _ _ _ (flags_stay bytes more) (λ flags.
    bind_stays _ _ _ _ (body_stays big bytes more) (λ body.
    bind_stays _ _ _ _ (serial_stays big bytes more) (λ serial.
    bind_stays _ _ _ _ (fields_stay big body bytes more) (λ fields. refl))))))

-- ---- whole answers

message_stays : (s : Start) (bytes more : List ℕ) → total s ≤ length bytes → message_of s (bytes ++ more) ≡ message_of s bytes
unfolding message_of
message_stays s bytes more le =
    let front : drop 16 (bytes ++ more) ≡ drop 16 bytes ++ more = drop-append-le 16 bytes more (omega arith) in
    let inside : take s.fields (drop 16 bytes ++ more) ≡ take s.fields (drop 16 bytes) = take-append-le s.fields (drop 16 bytes) more (omega (arith, length-drop 16 bytes)) in
    let behind : drop s.fields (drop 16 bytes ++ more) ≡ drop s.fields (drop 16 bytes) ++ more = drop-append-le s.fields (drop 16 bytes) more (omega (arith, length-drop 16 bytes)) in
    let outside : take (gap 8 s.fields + s.body) (drop s.fields (drop 16 bytes) ++ more) ≡ take (gap 8 s.fields + s.body) (drop s.fields (drop 16 bytes)) = take-append-le (gap 8 s.fields + s.body) (drop s.fields (drop 16 bytes)) more (omega (arith, length-drop 16 bytes, length-drop s.fields (drop 16 bytes))) in
    rw (front, inside, behind, outside) refl

-- an answer that is told, a message or a fault, is told whatever follows
abbrev Kept : Answer → Answer → Type 0
Kept now later = IfTold now (later ≡ now)

same_kept : (now later : Answer) → later ≡ now → Kept now later
same_kept (Whole _ _) later e = e
same_kept Partial later e = tt
same_kept (Bad _ _) later e = e

pub answer_stays : (bytes more : List ℕ) → IfTold (next_of bytes) (next_of (bytes ++ more) ≡ next_of bytes)
answer_stays bytes more = go (start_of bytes) (start_stays bytes more) where
  sized : (s : Start) → start_of (bytes ++ more) ≡ Ok s → (b : Bool) → ltb (length bytes) (total s) ≡ b → Kept (cond b Partial (message_on s (message_of s bytes))) (next_of (bytes ++ more))
  sized s is true lt = tt
  sized s is false lt =
      let le = ltb-false _ _ lt in
      let e : ltb (length (bytes ++ more)) (total s) ≡ false = le-ltb _ _ (omega (arith, length-append bytes more)) in
      same_kept _ _ (ap (λ (r : Result Start Stop). start_on (bytes ++ more) r) is ∙ rw (e, message_stays s bytes more le) refl)

  go : (r : Result Start Stop) → Stays r (start_of (bytes ++ more)) → Kept (start_on bytes r) (next_of (bytes ++ more))
  go (Ok s) is = sized s is (ltb (length bytes) (total s)) refl
  go (Err stop.Partial) is = tt
  go (Err (stop.Bad e)) is = ap (λ (r : Result Start Stop). start_on (bytes ++ more) r) is

pub fault_stays : (bytes more : List ℕ) (k : FaultKind) (at : ℕ) → next_of bytes ≡ Bad k at → next_of (bytes ++ more) ≡ Bad k at
fault_stays bytes more k at e = subst (λ (a : Answer). IfTold a (next_of (bytes ++ more) ≡ a)) e (answer_stays bytes more)

pub whole_stays : (bytes more : List ℕ) (seen : Seen) (used : ℕ) → next_of bytes ≡ Whole seen used → next_of (bytes ++ more) ≡ Whole seen used
whole_stays bytes more seen used e = subst (λ (a : Answer). IfTold a (next_of (bytes ++ more) ≡ a)) e (answer_stays bytes more)

-- what next_message says of it
pub told_stays : (a : Answer) (bytes : List ℕ) → a ≡ next_of bytes → IfTold a ((more : List ℕ) → next_of (bytes ++ more) ≡ a)
told_stays (Whole seen used) bytes e = λ more. whole_stays bytes more seen used (sym e)
told_stays Partial bytes e = tt
told_stays (Bad k at) bytes e = λ more. fault_stays bytes more k at (sym e)

-- a message lies within the bytes
pub whole_within : (bytes : List ℕ) → IfWhole (next_of bytes) (λ seen used. used ≤ length bytes)
whole_within bytes = go (start_of bytes) where
  read : (s : Start) (r : _) → total s ≤ length bytes → IfWhole (message_on s r) (λ seen used. used ≤ length bytes)
  read s (Ok x) le = le
  read s (Err e) le = tt

  sized : (s : Start) (b : Bool) → ltb (length bytes) (total s) ≡ b → IfWhole (cond b Partial (message_on s (message_of s bytes))) (λ seen used. used ≤ length bytes)
  sized s true lt = tt
  sized s false lt = read s (message_of s bytes) (ltb-false _ _ lt)

  go : (r : Result Start Stop) → IfWhole (start_on bytes r) (λ seen used. used ≤ length bytes)
  go (Ok s) = sized s (ltb (length bytes) (total s)) refl
  go (Err stop.Partial) = tt
  go (Err (stop.Bad e)) = tt

-- less than a whole message is no message yet, and has no fault
pub shorter_partial : (bytes : List ℕ) (seen : Seen) (used n : ℕ) → next_of bytes ≡ Whole seen used → n < used → next_of (take n bytes) ≡ Partial
shorter_partial bytes seen used n e lt = go (next_of (take n bytes)) refl where
  whole : next_of (take n bytes ++ drop n bytes) ≡ Whole seen used
  whole = ap next_of (take-append-drop n bytes) ∙ e

  go : (a : Answer) → next_of (take n bytes) ≡ a → next_of (take n bytes) ≡ Partial
  go Partial is = is
  go (Bad k at) is = absurd (other (sym (fault_stays (take n bytes) (drop n bytes) k at is) ∙ whole)) where
    other : Bad k at ≡ Whole seen used → ⊥
    other h = cc
  go (Whole x m) is =
      let same : Whole x m ≡ Whole seen used = sym (whole_stays (take n bytes) (drop n bytes) x m is) ∙ whole in
      let size : m ≡ used = cc in
      let within : m ≤ length (take n bytes) = subst (λ (a : Answer). IfWhole a (λ _ k. k ≤ length (take n bytes))) is (whole_within (take n bytes)) in
      absurd (omega (arith, length-take n bytes, size, within, lt))

-- what is shorter than less than a message
pub prefix_partial : (bytes more : List ℕ) → next_of (bytes ++ more) ≡ Partial → next_of bytes ≡ Partial
prefix_partial bytes more e = go (next_of bytes) (answer_stays bytes more) where
  go : (a : Answer) → IfTold a (next_of (bytes ++ more) ≡ a) → a ≡ Partial
  go Partial same = refl
  go (Whole seen used) same = sym same ∙ e
  go (Bad k at) same = sym same ∙ e

-- ---- less than a message is short

-- a judgement that is not put off
abbrev Firm : {A : Type 0} → Result A Stop → Type 0
Firm (Ok x) = Unit {0}
Firm (Err (stop.Bad e)) = Unit {0}
Firm (Err stop.Partial) = ⊥

bind_firm : {A B : Type 0} (r : Result A Stop) (f : A → Result B Stop) → Firm r → ((x : A) → Firm (f x)) → Firm (r >>= f)
bind_firm (Ok x) f h k = k x
bind_firm (Err (stop.Bad e)) f h k = tt
bind_firm (Err stop.Partial) f h k = absurd h

cond_firm : {A : Type 0} (b : Bool) (x y : Result A Stop) → Firm x → Firm y → Firm (cond b x y)
cond_firm true x y h k = h
cond_firm false x y h k = k

needs_firm : {A : Type 0} (n : ℕ) (bytes : List ℕ) (r : Result A Stop) → n ≤ length bytes → Firm r → Firm (needs n bytes r)
needs_firm n bytes r le h = let e : ltb (length bytes) n ≡ false = le-ltb _ _ le in rw e h

start_firm : (bytes : List ℕ) → 16 ≤ length bytes → Firm (start_of bytes)
unfolding start_of order_of kind_of flags_of body_of serial_of fields_of
start_firm bytes le =
    bind_firm _ _ (needs_firm 1 bytes _ (omega arith) (cond_firm (eqb (get_or bytes 0 0) 108) _ _ tt (cond_firm (eqb (get_or bytes 0 0) 66) _ _ tt tt))) (λ big.
    bind_firm _ _ (needs_firm 2 bytes _ (omega arith) (cond_firm (eqb (get_or bytes 1 0) 0) _ _ tt tt)) (λ kind.
    bind_firm _ _ (needs_firm 4 bytes _ (omega arith) (cond_firm (eqb (get_or bytes 3 0) 1) _ _ tt tt)) (λ flags.
    bind_firm _ _ (needs_firm 8 bytes _ (omega arith) (cond_firm (ltb MAX_BODY (u32_of big bytes 4)) _ _ tt tt)) (λ body.
    bind_firm _ _ (needs_firm 12 bytes _ (omega arith) (cond_firm (eqb (u32_of big bytes 8) 0) _ _ tt tt)) (λ serial.
    bind_firm _ _ (needs_firm 16 bytes _ (omega arith) (cond_firm (ltb MAX_MESSAGE (16 + (u32_of big bytes 12 + gap 8 (u32_of big bytes 12)) + body)) _ _ tt tt)) (λ fields. tt))))))

pub partial_short : (bytes : List ℕ) → next_of bytes ≡ Partial → length bytes < MAX_MESSAGE
partial_short bytes e = go (start_of bytes) refl e where
  put_off : start_of bytes ≡ Err stop.Partial → (b : Bool) → ltb (length bytes) 16 ≡ b → length bytes < MAX_MESSAGE
  put_off is true lt = let k = ltb-true _ _ lt in omega arith
  put_off is false lt = absurd (subst Firm is (start_firm bytes (ltb-false _ _ lt)))

  faulty : (k : FaultKind) (n : ℕ) → Bad k n ≡ Partial → ⊥
  faulty k n h = cc

  read : (s : Start) (r : _) → message_on s r ≡ Partial → ⊥
  read s (Ok x) h = cc
  read s (Err f) h = faulty f.kind f.at h

  sized : (s : Start) → start_of bytes ≡ Ok s → (b : Bool) → ltb (length bytes) (total s) ≡ b → cond b Partial (message_on s (message_of s bytes)) ≡ Partial → length bytes < MAX_MESSAGE
  sized s is true lt h =
      let k = ltb-true _ _ lt in
      let small = (start_found bytes s is).small in
      omega arith
  sized s is false lt h = absurd (read s (message_of s bytes) h)

  go : (r : Result Start Stop) → start_of bytes ≡ r → start_on bytes r ≡ Partial → length bytes < MAX_MESSAGE
  go (Ok s) is h = sized s is (ltb (length bytes) (total s)) refl h
  go (Err stop.Partial) is h = put_off is (ltb (length bytes) 16) refl
  go (Err (stop.Bad f)) is h = absurd (faulty f.kind f.at h)
