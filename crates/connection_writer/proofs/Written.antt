-- Bytes that are written, and bytes that are ready behind them: those in the outbox.
use Rattle.std.proofs.Common.{◌≡◌, ℕ, ◌≤◌, List, [], ◌++◌, Option, Result, Ok, Err, refl, ap, sym, ◌∙◌, subst, append_assoc, arith}
use Rattle.std.specs.Result.{IsErrAnd}
use Rattle.std.proofs.lemmas.List.{append-nil}
use Rattle.pk_outside.specs.Causes.{Rose}
use Rattle.pk_outside.specs.Streams.{Got, GotFront, GotUpTo}
use Rattle.pk_outside.proofs.Written.{Got-more, Got-none}
use Rattle.connection_writer.specs.declared.ends.WriteStop.{WriteStop}
use Rattle.connection_writer.specs.Written.{Writes, WritesUpTo}

-- some of what was ready was written, and the rest is left
upto_out : (a b c : Option (List ℕ)) (all ready left : List ℕ) → GotUpTo a b all ready → GotUpTo b c ready left → GotUpTo a c all left
upto_out a b c all ready left p q = (p.0 ++ q.0, p.1 ∙ ap (λ (l : List ℕ). p.0 ++ l) q.1 ∙ sym (append_assoc p.0 q.0 left), Got-more a b c p.0 q.0 p.2 q.2)

-- what was ready is written, and what came behind it up to what is ready now
pub upto_more : (a b c : Option (List ℕ)) (all ready text ready' : List ℕ) → GotUpTo a b all ready → GotUpTo b c (ready ++ text) ready' → GotUpTo a c (all ++ text) ready'
upto_more a b c all ready text ready' p q =
    upto_out a b c (all ++ text) (ready ++ text) ready' (p.0, ap (λ (l : List ℕ). l ++ text) p.1 ∙ append_assoc p.0 ready text, p.2) q

-- a prefix of that was
pub front_more : (a b c : Option (List ℕ)) (all ready text : List ℕ) → GotUpTo a b all ready → GotFront b c (ready ++ text) → GotFront a c (all ++ text)
front_more a b c all ready text p q = (q.0, upto_more a b c all ready text q.0 p q.1)

-- and more might follow
pub front_longer : (a b : Option (List ℕ)) (whole all rest : List ℕ) → whole ≡ all ++ rest → GotFront a b all → GotFront a b whole
front_longer a b whole all rest is q = (
  q.0 ++ rest,
  (q.1.0, is ∙ ap (λ (l : List ℕ). l ++ rest) q.1.1 ∙ append_assoc q.1.0 q.0 rest, q.1.2),
)

-- some bytes before others, and a part of these
pub behind_part : (before done text rest whole : List ℕ) → whole ≡ (done ++ text) ++ rest → before ++ whole ≡ ((before ++ done) ++ text) ++ rest
behind_part before done text rest whole is = ap (λ (l : List ℕ). before ++ l) is ∙ sym (append_assoc before (done ++ text) rest) ∙ ap (λ (l : List ℕ). l ++ rest) (sym (append_assoc before done text))

-- nothing was written
pub front_none : (a : Option (List ℕ)) (bytes : List ℕ) → GotFront a a bytes
front_none a bytes = (bytes, ([], refl, Got-none a))

-- all that was ready was written
pub upto_all : (a b c : Option (List ℕ)) (all ready left : List ℕ) → GotUpTo a b all ready → GotUpTo b c ready left → left ≡ [] → Got a c all
upto_all a b c all ready left p q none =
    let out = upto_out a b c all ready left p q in
    subst (Got a c) (sym (out.1 ∙ ap (λ (l : List ℕ). out.0 ++ l) none ∙ append-nil out.0)) out.2

-- a prefix of it was
pub upto_front : (a b c : Option (List ℕ)) (all ready left : List ℕ) → GotUpTo a b all ready → GotUpTo b c ready left → GotFront a c all
upto_front a b c all ready left p q = (left, upto_out a b c all ready left p q)

-- all bytes are a prefix of themselves, with more behind them or not
pub front_of_got : (a b : Option (List ℕ)) (whole done rest : List ℕ) → whole ≡ done ++ rest → Got a b done → GotFront a b whole
front_of_got a b whole done rest is got = (rest, (done, is, got))

-- some bytes, and then a prefix of others
pub front_behind : (a b c : Option (List ℕ)) (whole done text : List ℕ) → whole ≡ done ++ text → Got a b done → GotFront b c text → GotFront a c whole
front_behind a b c whole done text is got q = (
  q.0,
  (done ++ q.1.0, is ∙ ap (λ (l : List ℕ). done ++ l) q.1.1 ∙ sym (append_assoc done q.1.0 q.0), Got-more a b c done q.1.0 got q.1.2),
)

pub rose_later : (first before now : ℕ) → first ≤ before → Rose before now → Rose first now
rose_later first before now le rose = omega (arith, le, rose)

-- An answer by the error of another call.
pub writes_refused : {A : Type 0} (a b : Option (List ℕ)) (bytes : List ℕ) (result : Result A WriteStop) (why : WriteStop) → IsErrAnd result (λ (y : WriteStop). y ≡ why) → GotFront a b bytes → Writes a b bytes result
writes_refused a b bytes (Ok done) why is front = absurd is
writes_refused a b bytes (Err y) why is front = front

pub upto_refused : {A : Type 0} (a b : Option (List ℕ)) (bytes ready : List ℕ) (result : Result A WriteStop) (why : WriteStop) → IsErrAnd result (λ (y : WriteStop). y ≡ why) → GotFront a b bytes → WritesUpTo a b bytes ready result
upto_refused a b bytes ready (Ok done) why is front = absurd is
upto_refused a b bytes ready (Err y) why is front = front
