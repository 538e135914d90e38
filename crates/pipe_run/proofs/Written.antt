-- Messages one after another.
use Rattle.std.proofs.Common.{◌≡◌, ◌++◌, [], ◌∷◌, zero, suc, ◌+◌, ◌==◌, ◌<◌, List, ℕ, Bool, true, false, Option, Result, Ok, Err, refl, sym, ◌∙◌, ap, subst, take, length, get_or, append_assoc, append-nil, arith}
use Rattle.std.specs.Prelude.{if◌then◌else◌}
use Rattle.std.specs.Result.{IsErrAnd}
use Rattle.std.proofs.lemmas.List.{take_more}
use Rattle.pk_outside.specs.Causes.{FailsLast}
use Rattle.authority_model.specs.declared.load.Loaded.{Loaded}
use Rattle.authority_model.specs.declared.message.Output.{Output}
use Rattle.authority_model.specs.Items.{count_to}
use Rattle.authority_messages.specs.Texts.{message_text}
use Rattle.pipe_run.specs.declared.ends.Stopped.{Stopped}
use Rattle.pipe_run.specs.declared.ends.Stopped.TheVariants as stopped
use Rattle.pipe_run.specs.Answered.{FaultIn, WriteFaults}
use Rattle.pipe_run.specs.Bytes.{AreSendableTo, output_bytes}

-- the only output is not the connection's, or it is
pub other_bytes : (loads : List Loaded) (c n : ℕ) (o : Output) → (o.to == c) ≡ false → output_bytes loads c n (o ∷ []) ≡ []
other_bytes loads c n o other = rw other refl

pub own_bytes : (loads : List Loaded) (c n : ℕ) (o : Output) → (o.to == c) ≡ true → output_bytes loads c n (o ∷ []) ≡ message_text loads (n + 1) o
own_bytes loads c n o own = rw own (append-nil (message_text loads (n + 1) o))

pub own_count : (c : ℕ) (o : Output) → (o.to == c) ≡ true → count_to c (o ∷ []) ≡ 1
own_count c o own = rw own refl

pub other_count : (c : ℕ) (o : Output) → (o.to == c) ≡ false → count_to c (o ∷ []) ≡ 0
other_count c o other = rw other refl

-- outputs in two parts
pub bytes-append : (loads : List Loaded) (c n : ℕ) (xs ys : List Output) → output_bytes loads c n (xs ++ ys) ≡ output_bytes loads c n xs ++ output_bytes loads c (n + count_to c xs) ys
bytes-append loads c n [] ys = ap (λ m. output_bytes loads c m ys) (omega arith)
bytes-append loads c n (x ∷ xs) ys = of (x.to == c) (bytes-append loads c (n + 1) xs ys) (bytes-append loads c n xs ys)
  where
    text : List ℕ
    text = message_text loads (n + 1) x

    of : (b : Bool) → output_bytes loads c (n + 1) (xs ++ ys) ≡ output_bytes loads c (n + 1) xs ++ output_bytes loads c (n + 1 + count_to c xs) ys
        → output_bytes loads c n (xs ++ ys) ≡ output_bytes loads c n xs ++ output_bytes loads c (n + count_to c xs) ys
        → (if b then text ++ output_bytes loads c (n + 1) (xs ++ ys) else output_bytes loads c n (xs ++ ys))
        ≡ (if b then text ++ output_bytes loads c (n + 1) xs else output_bytes loads c n xs) ++ output_bytes loads c (n + ((if b then 1 else 0) + count_to c xs)) ys
    of true more none =
        ap (λ r. text ++ r) more ∙ sym (append_assoc text (output_bytes loads c (n + 1) xs) (output_bytes loads c (n + 1 + count_to c xs) ys))
        ∙ ap (λ m. (text ++ output_bytes loads c (n + 1) xs) ++ output_bytes loads c m ys) (omega arith)
    of false more none = none ∙ ap (λ m. output_bytes loads c n xs ++ output_bytes loads c m ys) (omega arith)

pub count-append : (c : ℕ) (xs ys : List Output) → count_to c (xs ++ ys) ≡ count_to c xs + count_to c ys
count-append c [] ys = omega arith
count-append c (x ∷ xs) ys = let rest = count-append c xs ys in omega (arith, rest)

-- each of them can be written where all can
pub one_sendable : (c : ℕ) (xs : List Output) (i : ℕ) (x : Output) → i < length xs → x ≡ get_or xs i x → AreSendableTo c xs → AreSendableTo c (x ∷ [])
one_sendable c [] i x lt is all = absurd (omega (arith, lt))
one_sendable c (y ∷ xs) zero x lt is all = subst (λ (o : Output). AreSendableTo c (o ∷ [])) (sym is) (all.0, tt)
one_sendable c (y ∷ xs) (suc i) x lt is all = one_sendable c xs i x (omega (arith, lt)) is all.1

-- the items up to one, and that one
pub up_to : {A : Type 0} (xs : List A) (i : ℕ) (x : A) → i < length xs → x ≡ get_or xs i x → take (i + 1) xs ≡ take i xs ++ x ∷ []
up_to {A = A} xs i x lt is = take_more xs i x lt ∙ ap (λ (y : A). take i xs ++ y ∷ []) (sym is)

-- the last call failed, and none before it, from an earlier moment on that had the same count
pub fails_later : {S : Type 0} (content : S → Option (List ℕ)) (faults : S → ℕ) (first before now : S) → faults before ≡ faults first → FailsLast content faults before now → FailsLast content faults first now
fails_later content faults first before now quiet failed = record { moment = failed.moment; quiet = failed.quiet ∙ quiet; counted = failed.counted; same = failed.same }

-- the same of what is written
pub fault_later : {S : Type 0} (held : S → Option (List ℕ)) (faults : S → ℕ) (first before now : S) (why : Stopped) → faults before ≡ faults first → FaultIn held faults before now why → FaultIn held faults first now why
fault_later held faults first before now (stopped.Full full) quiet writes = writes ∙ quiet
fault_later held faults first before now stopped.WriteFault quiet writes = fails_later held faults first before now quiet writes
fault_later held faults first before now stopped.NoMemory quiet writes = writes ∙ quiet

pub writes_later : {S A : Type 0} (held : S → Option (List ℕ)) (faults : S → ℕ) (first before now : S) (result : Result A Stopped) → faults before ≡ faults first → WriteFaults held faults before now result → WriteFaults held faults first now result
writes_later held faults first before now (Ok done) quiet writes = writes ∙ quiet
writes_later held faults first before now (Err why) quiet writes = fault_later held faults first before now why quiet writes

-- one output more is kept
pub kept_more : (loads : List Loaded) (c n m : ℕ) (first before after : List ℕ) (outputs : List Output) (i : ℕ) (x : Output) → i < length outputs → x ≡ get_or outputs i x → m ≡ n + count_to c (take i outputs)
    → before ≡ first ++ output_bytes loads c n (take i outputs) → after ≡ before ++ output_bytes loads c m (x ∷ []) → after ≡ first ++ output_bytes loads c n (take (i + 1) outputs)
kept_more loads c n m first before after outputs i x lt is count kept more =
    more ∙ ap (λ r. r ++ output_bytes loads c m (x ∷ [])) kept ∙ append_assoc first (output_bytes loads c n (take i outputs)) (output_bytes loads c m (x ∷ []))
    ∙ ap (λ k. first ++ (output_bytes loads c n (take i outputs) ++ output_bytes loads c k (x ∷ []))) count
    ∙ ap (λ r. first ++ r) (sym (ap (output_bytes loads c n) (up_to outputs i x lt is) ∙ bytes-append loads c n (take i outputs) (x ∷ [])))

pub counted_more : (c n m k : ℕ) (outputs : List Output) (i : ℕ) (x : Output) → i < length outputs → x ≡ get_or outputs i x → m ≡ n + count_to c (take i outputs) → k ≡ m + count_to c (x ∷ []) → k ≡ n + count_to c (take (i + 1) outputs)
counted_more c n m k outputs i x lt is count more =
    let next = ap (count_to c) (up_to outputs i x lt is) ∙ count-append c (take i outputs) (x ∷ []) in
    more ∙ omega (arith, count, next)

-- the faults, where a call answers by the error of another
pub faults_refused : {S A : Type 0} (held : S → Option (List ℕ)) (faults : S → ℕ) (first before now : S) (result : Result A Stopped) (why : Stopped) → IsErrAnd result (λ (y : Stopped). y ≡ why) → faults before ≡ faults first
    → FaultIn held faults before now why → WriteFaults held faults first now result
faults_refused held faults first before now (Ok done) why is quiet writes = absurd is
faults_refused held faults first before now (Err y) why is quiet writes = subst (FaultIn held faults first now) (sym is) (fault_later held faults first before now why quiet writes)
