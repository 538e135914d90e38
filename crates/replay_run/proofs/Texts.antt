-- Texts that are written one after another.
use Rattle.std.proofs.Common.{◌≡◌, ◌++◌, [], ◌∷◌, ◌+◌, ◌<◌, List, ℕ, Option, Result, Ok, Err, OnErr, refl, sym, ◌∙◌, ap, subst, take, drop, length, get_or, append_assoc, append-nil, drop-cons, add-one}
use Rattle.std.proofs.lemmas.List.{take-append-drop, take_more}
use Rattle.pk_outside.specs.Streams.{Got, GotFront}
use Rattle.pk_outside.proofs.Written.{Got-none, Got-more}
use Rattle.authority_model.specs.declared.load.Loaded.{Loaded}
use Rattle.authority_model.specs.declared.message.Output.{Output}
use Rattle.scenario_text.specs.Answers.{message_line}
use Rattle.scenario_run.specs.Text.{one_more, counts_after, outputs_text}

-- what always holds also holds of an error
pub on_err : {T E P : Type 0} (r : Result T E) → P → OnErr r P
on_err (Ok x) p = tt
on_err (Err e) p = p

-- a prefix of one line is a prefix of the text that it makes
pub front_line : (a b : Option (List ℕ)) (bytes line : List ℕ) → bytes ≡ line → GotFront a b bytes → GotFront a b (line ++ [])
front_line a b bytes line e q = subst (λ (l : List ℕ). GotFront a b l) (e ∙ sym (append-nil line)) q

-- nothing was written
pub front_none : (a : Option (List ℕ)) (bytes : List ℕ) → GotFront a a bytes
front_none a bytes = (bytes, ([], refl, Got-none a))

-- a prefix, after whole bytes, and more bytes after it
pub front_after : (a b c : Option (List ℕ)) (xs ys zs all : List ℕ) → all ≡ xs ++ (ys ++ zs) → Got a b xs → GotFront b c ys → GotFront a c all
front_after a b c xs ys zs all e p q = (
  q.0 ++ zs,
  (
    xs ++ q.1.0,
    e ∙ ap (λ r. xs ++ (r ++ zs)) q.1.1 ∙ ap (λ r. xs ++ r) (append_assoc q.1.0 q.0 zs) ∙ sym (append_assoc xs q.1.0 (q.0 ++ zs)),
    Got-more a b c xs q.1.0 p q.1.2,
  ),
)

pub counts_after-append : (sent : ℕ → ℕ) (xs ys : List Output) → counts_after sent (xs ++ ys) ≡ counts_after (counts_after sent xs) ys
counts_after-append sent [] ys = refl
counts_after-append sent (x ∷ xs) ys = counts_after-append (one_more sent x.to) xs ys

pub outputs_text-append : (loads : List Loaded) (sent : ℕ → ℕ) (xs ys : List Output)
    → outputs_text loads sent (xs ++ ys) ≡ outputs_text loads sent xs ++ outputs_text loads (counts_after sent xs) ys
outputs_text-append loads sent [] ys = refl
outputs_text-append loads sent (x ∷ xs) ys =
    ap (λ t. message_line loads x.to (sent x.to + 1) x.message ++ t) (outputs_text-append loads (one_more sent x.to) xs ys)
    ∙ sym (append_assoc (message_line loads x.to (sent x.to + 1) x.message) (outputs_text loads (one_more sent x.to) xs) (outputs_text loads (counts_after (one_more sent x.to) xs) ys))

-- outputs were written, and those after them
pub wrote_more : (loads : List Loaded) (a b c : Option (List ℕ)) (sent counts counts' : ℕ → ℕ) (xs ys all : List Output) → all ≡ xs ++ ys
    → counts ≡ counts_after sent xs → Got a b (outputs_text loads sent xs) → counts' ≡ counts_after counts ys → Got b c (outputs_text loads counts ys)
    → Got a c (outputs_text loads sent all) × (counts' ≡ counts_after sent all)
wrote_more loads a b c sent counts counts' xs ys all whole e p e' q = (
  subst (λ (t : List ℕ). Got a c t)
      (ap (λ (k : ℕ → ℕ). outputs_text loads sent xs ++ outputs_text loads k ys) e ∙ sym (outputs_text-append loads sent xs ys) ∙ ap (outputs_text loads sent) (sym whole))
      (Got-more a b c (outputs_text loads sent xs) (outputs_text loads counts ys) p q),
  e' ∙ ap (λ (k : ℕ → ℕ). counts_after k ys) e ∙ sym (counts_after-append sent xs ys) ∙ ap (counts_after sent) (sym whole),
)

-- and a prefix of those after them
pub wrote_front : (loads : List Loaded) (a b c : Option (List ℕ)) (sent counts : ℕ → ℕ) (xs ys zs all : List Output) → all ≡ xs ++ (ys ++ zs)
    → counts ≡ counts_after sent xs → Got a b (outputs_text loads sent xs) → GotFront b c (outputs_text loads counts ys) → GotFront a c (outputs_text loads sent all)
wrote_front loads a b c sent counts xs ys zs all whole e p q =
    front_after a b c (outputs_text loads sent xs) (outputs_text loads counts ys) (outputs_text loads (counts_after counts ys) zs) (outputs_text loads sent all)
    (ap (outputs_text loads sent) whole ∙ outputs_text-append loads sent xs (ys ++ zs)
    ∙ ap (λ (k : ℕ → ℕ). outputs_text loads sent xs ++ outputs_text loads k (ys ++ zs)) (sym e)
    ∙ ap (λ t. outputs_text loads sent xs ++ t) (outputs_text-append loads counts ys zs)) p q

-- the items before one, that one, and those after it
pub around : {A : Type 0} (xs : List A) (i : ℕ) (x : A) → i < length xs → x ≡ get_or xs i x → xs ≡ take i xs ++ ((x ∷ []) ++ drop (i + 1) xs)
around {A = A} xs i x lt is =
    let cons : drop i xs ≡ get_or xs i x ∷ drop (i + 1) xs = drop-cons xs i x lt ∙ (rw add-one refl) in
    sym (take-append-drop i xs) ∙ ap (λ r. take i xs ++ r) (cons ∙ ap (λ (y : A). y ∷ drop (i + 1) xs) (sym is))

pub up_to : {A : Type 0} (xs : List A) (i : ℕ) (x : A) → i < length xs → x ≡ get_or xs i x → take (i + 1) xs ≡ take i xs ++ x ∷ []
up_to {A = A} xs i x lt is = take_more xs i x lt ∙ ap (λ (y : A). take i xs ++ y ∷ []) (sym is)
