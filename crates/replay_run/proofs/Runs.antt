-- Runs of lines, one after another.
use Rattle.std.proofs.Common.{◌≡◌, ◌++◌, [], ◌∷◌, ◌+◌, ◌<◌, List, ℕ, Bool, Option, None, Some, Result, Ok, Err, refl, sym, ◌∙◌, ap, subst, length, arith, append_assoc, append-nil, flat_map, length-append, nat_lt, true, inl, inr}
use Rattle.std.proofs.lemmas.Grind.{flat_map-append}
use Rattle.std.proofs.lemmas.Bool.{ne_eqb}
use Rattle.std.proofs.lemmas.Bool.Decides.{nat_tests}
use Rattle.pk_types.specs.Pieces.{Lacks, lines_of, onto_first}
use Rattle.pk_types.proofs.Cuts.{lines_of-cut}
use Rattle.scenario_text.specs.declared.fault.LineKind.{LineKind}
use Rattle.scenario_text.specs.declared.fault.LineKind.TheVariants as kind
use Rattle.scenario_text.specs.Lines.{step_of}
use Rattle.authority_model.specs.Entering.{Fullness}
use Rattle.scenario_run.specs.Scene.{Outcome, Scene, reached, run_line}
use Rattle.replay_run.specs.Replay.{Ran, after_line, unless_full, run, replayed, replay_history, halt_of, Halt, Whatever, Extends, Halts}
use Rattle.replay_run.proofs.Grows.{run_extends}

-- no line has an LF
abbrev pub Clean : List (List ℕ) → Type 0
Clean [] = Unit {0}
Clean (line ∷ lines) = Lacks 10 line × Clean lines

-- lines with their LFs
abbrev pub joined : List (List ℕ) → List ℕ
joined lines = flat_map (λ line. line ++ 10 ∷ []) lines

-- a run that ended at a scene
abbrev pub ran_to : Scene → Option Halt → Ran
ran_to s f = record { scene = s; halt = f }

ran_scene : (s : Scene) (f : Option Halt) (s' : Scene) → ran_to s f ≡ ran_to s' None → s ≡ s'
ran_scene s f s' e = ap (λ (r : Ran). r.scene) e

no_halt_here : (s s' : Scene) (x : Halt) → ran_to s (Some x) ≡ ran_to s' None → ⊥
no_halt_here s s' x e = let f : Some x ≡ None = ap (λ (r : Ran). r.halt) e in cc

-- a run that goes on after a run that nothing stopped
append_full : (full : Option Fullness) (next : Scene) (xs ys : List (List ℕ)) (n : ℕ) (s' : Scene)
    → ((t : Scene) → run xs n t ≡ ran_to s' None → run (xs ++ ys) n t ≡ run ys (n + length xs) s')
    → unless_full next full (run xs n) ≡ ran_to s' None → unless_full next full (run (xs ++ ys) n) ≡ run ys (n + length xs) s'
append_full None next xs ys n s' more e = more next e
append_full (Some full) next xs ys n s' more e = absurd (no_halt_here next s' (Halt.Full full) e)

append_after : (r : Result Outcome LineKind) (xs ys : List (List ℕ)) (n : ℕ) (s s' : Scene)
    → ((t : Scene) → run xs (n + 1) t ≡ ran_to s' None → run (xs ++ ys) (n + 1) t ≡ run ys (n + 1 + length xs) s')
    → after_line n s r (run xs (n + 1)) ≡ ran_to s' None → after_line n s r (run (xs ++ ys) (n + 1)) ≡ run ys (n + 1 + length xs) s'
append_after (Ok next) xs ys n s s' more e = append_full next.full next.scene xs ys (n + 1) s' more e
append_after (Err k) xs ys n s s' more e = absurd (no_halt_here s s' (Halt.Fault n k) e)

pub run-append : (xs ys : List (List ℕ)) (n : ℕ) (s s' : Scene) → run xs n s ≡ ran_to s' None → run (xs ++ ys) n s ≡ run ys (n + length xs) s'
run-append [] ys n s s' e = let same : n + 0 ≡ n = omega arith in rw (same, ran_scene s None s' e) refl
run-append (x ∷ xs) ys n s s' e =
    let same : n + length (x ∷ xs) ≡ n + 1 + length xs = omega arith in
    rw same (append_after (run_line s x) xs ys n s s' (λ t f. run-append xs ys (n + 1) t s' f) e)

-- the lines of whole lines and what comes after them
pub lines_of-joined : (lines : List (List ℕ)) (rest : List ℕ) → Clean lines → lines_of (joined lines ++ rest) ≡ lines ++ lines_of rest
lines_of-joined [] rest clean = refl
lines_of-joined (x ∷ xs) rest clean =
    ap lines_of (append_assoc (x ++ 10 ∷ []) (joined xs) rest ∙ append_assoc x (10 ∷ []) (joined xs ++ rest))
    ∙ lines_of-cut x (joined xs ++ rest) clean.0 ∙ ap (λ ls. x ∷ ls) (lines_of-joined xs rest clean.1)

pub run-one : (s s' : Scene) (line : List ℕ) (n : ℕ) → run_line s line ≡ Ok (reached s') → run (line ∷ []) n s ≡ ran_to s' None
run-one s s' line n e = rw e refl

pub joined-one : (lines : List (List ℕ)) (line : List ℕ) → joined (lines ++ line ∷ []) ≡ joined lines ++ (line ++ 10 ∷ [])
joined-one lines line = flat_map-append (λ (l : List ℕ). l ++ 10 ∷ []) lines (line ∷ []) ∙ ap (λ r. joined lines ++ r) (append-nil (line ++ 10 ∷ []))

pub clean_one : (lines : List (List ℕ)) (line : List ℕ) → Clean lines → Lacks 10 line → Clean (lines ++ line ∷ [])
clean_one [] line clean lacks = (lacks, tt)
clean_one (x ∷ xs) line clean lacks = (clean.0, clean_one xs line clean.1 lacks)

-- what is known of the bytes from where they are run
pub history_at : (begin : Scene) (bytes : List ℕ) (r : Ran) → replayed begin bytes ≡ r → replay_history begin bytes ≡ r.scene.past
history_at begin bytes r e = ap (λ (x : Ran). x.scene.past) e

pub halt_at : (begin : Scene) (bytes : List ℕ) (r : Ran) → replayed begin bytes ≡ r → halt_of begin bytes ≡ r.halt
halt_at begin bytes r e = ap (λ (x : Ran). x.halt) e

pub extends_at : (begin : Scene) (bytes : List ℕ) (ls : List (List ℕ)) (n : ℕ) (s : Scene) → replayed begin bytes ≡ run ls n s → Extends (replay_history begin bytes) s.past
extends_at begin bytes ls n s e = subst (λ (r : Ran). Extends r.scene.past s.past) (sym e) (run_extends ls n s)

pub next_extends : (begin : Scene) (bytes line : List ℕ) (ls : List (List ℕ)) (n : ℕ) (s next : Scene) → replayed begin bytes ≡ run (line ∷ ls) n s → run_line s line ≡ Ok (reached next)
    → Extends (replay_history begin bytes) next.past
next_extends begin bytes line ls n s next e ran = extends_at begin bytes ls (n + 1) next (e ∙ ap (λ r. after_line n s r (run ls (n + 1))) ran)

pub has_fault : (begin : Scene) (bytes line : List ℕ) (ls : List (List ℕ)) (n : ℕ) (s : Scene) (k : LineKind) → replayed begin bytes ≡ run (line ∷ ls) n s → run_line s line ≡ Err k
    → Halts begin s.past (Halt.Fault n k) bytes
has_fault begin bytes line ls n s k e refused =
    let ran : replayed begin bytes ≡ ran_to s (Some (Halt.Fault n k)) = e ∙ ap (λ r. after_line n s r (run ls (n + 1))) refused in
    (halt_at begin bytes _ ran, history_at begin bytes _ ran)

-- the journal was full at this line
pub is_filled : (begin : Scene) (bytes line : List ℕ) (ls : List (List ℕ)) (n : ℕ) (s s' : Scene) (full : Fullness) → replayed begin bytes ≡ run (line ∷ ls) n s
    → run_line s line ≡ Ok (record { scene = s'; full = Some full }) → Halts begin s'.past (Halt.Full full) bytes
is_filled begin bytes line ls n s s' full e filled =
    let ran : replayed begin bytes ≡ ran_to s' (Some (Halt.Full full)) = e ∙ ap (λ r. after_line n s r (run ls (n + 1))) filled in
    (halt_at begin bytes _ ran, history_at begin bytes _ ran)

-- the run goes on with this line
abbrev pub Begins : Scene → List ℕ → ℕ → Scene → List ℕ → Type 0
Begins begin line n s bytes = (ls : List (List ℕ)) × (replayed begin bytes ≡ run (line ∷ ls) n s)

pub whatever_map : (P Q : List ℕ → Type 0) (ended : Bool) (read : List ℕ) → ((bytes : List ℕ) → P bytes → Q bytes) → Whatever ended P read → Whatever ended Q read
whatever_map P Q ended read f (inl x) = inl (x.0, f read x.1)
whatever_map P Q ended read f (inr g) = inr (λ more. f (read ++ more) (g more))

-- the first line has at least this prefix
lines_of-front : (c : ℕ) (cs more : List ℕ) → Lacks 10 (c ∷ cs) → (x : List ℕ) × (ls : List (List ℕ)) × (lines_of ((c ∷ cs) ++ more) ≡ ((c ∷ cs) ++ x) ∷ ls)
lines_of-front c [] more lacks = let p = first_of c (lines_of more) in (p.0, p.1, rw (ne_eqb c 10 lacks.0) p.2)
  where
    first_of : (c : ℕ) (ls : List (List ℕ)) → (x : List ℕ) × (rest : List (List ℕ)) × (onto_first c ls ≡ (c ∷ x) ∷ rest)
    first_of c [] = ([], [], refl)
    first_of c (l ∷ ls) = (l, ls, refl)
lines_of-front c (d ∷ ds) more lacks =
    let p = lines_of-front d ds more lacks.1 in (p.0, p.1, rw (ne_eqb c 10 lacks.0, p.2) refl)

too_long_line : (s : Scene) (line : List ℕ) → 4096 < length line → run_line s line ≡ Err kind.TooLong
unfolding step_of
too_long_line s line long = let test : nat_lt 4096 (length line) ≡ true = grind (arith, nat_tests) in rw test refl

pub too_long_at : (begin : Scene) (bytes line more : List ℕ) (s : Scene) (n : ℕ) → replayed begin bytes ≡ run (lines_of (line ++ more)) n s → Lacks 10 line → 4096 < length line
    → Halts begin s.past (Halt.Fault n kind.TooLong) bytes
too_long_at begin bytes [] more s n e lacks long = absurd (omega (arith, long))
too_long_at begin bytes (c ∷ cs) more s n e lacks long =
    let p = lines_of-front c cs more lacks in
    has_fault begin bytes ((c ∷ cs) ++ p.0) p.1 n s kind.TooLong (e ∙ ap (λ ls. run ls n s) p.2)
    (too_long_line s ((c ∷ cs) ++ p.0) (omega (arith, long, length-append (c ∷ cs) p.0)))
