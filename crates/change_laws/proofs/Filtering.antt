-- Lists that are filtered by tests that agree, and what such tests are made of.
use Rattle.std.proofs.Common.{◌≡◌, ℕ, ◌==◌, Bool, true, false, ◌&&◌, not, List, [], ◌∷◌, refl, ap, sym, ◌∙◌, inl, inr, Option, Some, None, arith}
use Rattle.std.specs.Prelude.{if◌then◌else◌, filter, bytes_eq}
use Rattle.std.specs.Option.{option_map_or}
use Rattle.std.proofs.lemmas.Bool.Decides.{nat_tests}
use Rattle.std.proofs.lemmas.Slice.Eq.{bytes_eq-Decides}
use Rattle.authority_model.specs.declared.event.Event.{Event}
use Rattle.authority_model.specs.declared.event.Event.TheVariants.{Connect, Call as Called, Returned, AgentError, Passed, Depart, Load, LoadFailed, Stop, Collect}
use Rattle.authority_model.specs.declared.journal.Item.{Item}
use Rattle.authority_model.specs.declared.key.Key.{Key}
use Rattle.authority_model.specs.declared.load.Loaded.{Loaded}
use Rattle.authority_model.specs.Words.{Bytes}
use Rattle.authority_model.specs.Lists.{Has}
use Rattle.authority_model.specs.Facts.{Facts}
use Rattle.authority_model.specs.Worlds.{lists_key}
use Rattle.authority_model.specs.Items.{is_load, loaded_of, world_of}
use Rattle.authority_model.specs.Peers.{may_for}
use Rattle.authority_model.specs.Agents.{unlists}
use Rattle.authority_model.specs.Answers.{loads}
use Rattle.entry_changes.specs.Changes.{unlisted}
use Rattle.authority_model.specs.Legal.{Follows, IsNumbered}

-- tests that agree on the elements of a list keep the same ones
pub filter_alike : {A : Type 0} (p q : A → Bool) (xs : List A) → ((x : A) → Has xs x → p x ≡ q x) → filter p xs ≡ filter q xs
filter_alike p q [] same = refl
filter_alike p q (x ∷ xs) same = ap (λ b. if b then (x ∷ filter p xs) else filter p xs) (same x (inl refl)) ∙ ap (λ ys. if q x then (x ∷ ys) else ys) (filter_alike p q xs (λ y h. same y (inr h)))

-- a list filtered twice is filtered by both tests
pub filter_twice : {A : Type 0} (p q : A → Bool) (xs : List A) → filter p (filter q xs) ≡ filter (λ x. q x && p x) xs
filter_twice p q [] = refl
filter_twice {A} p q (x ∷ xs) = go (q x) (filter_twice p q xs)
  where
    go : (b : Bool) → filter p (filter q xs) ≡ filter (λ x. q x && p x) xs → filter p (if b then (x ∷ filter q xs) else filter q xs) ≡ (if b && p x then (x ∷ filter (λ x. q x && p x) xs) else filter (λ x. q x && p x) xs)
    go true ih = ap (λ ys. if p x then (x ∷ ys) else ys) ih
    go false ih = ih

-- a test that always holds keeps all
pub filter_all : {A : Type 0} (xs : List A) → filter (λ x. true) xs ≡ xs
filter_all [] = refl
filter_all (x ∷ xs) = ap (λ ys. x ∷ ys) (filter_all xs)

-- a test beside one that never holds
pub never : (b : Bool) → (b && false) ≡ false
never true = refl
never false = refl

-- a test beside one that always holds
pub always : (b : Bool) → (b && true) ≡ b
always true = refl
always false = refl

-- two numbers compare either way
pub number_turned : (m n : ℕ) → (m == n) ≡ (n == m)
number_turned m n = grind (arith, nat_tests)

-- two texts compare either way
pub bytes_turned : (a b : Bytes) → bytes_eq a b ≡ bytes_eq b a
bytes_turned a b = go (bytes_eq a b) (bytes_eq b a) refl refl
  where
    go : (x y : Bool) → bytes_eq a b ≡ x → bytes_eq b a ≡ y → x ≡ y
    go true true is turned = refl
    go false false is turned = refl
    go true false is turned = absurd (cc (sym turned ∙ (bytes_eq-Decides b a).1 (sym ((bytes_eq-Decides a b).0 is))))
    go false true is turned = absurd (cc (sym is ∙ (bytes_eq-Decides a b).1 (sym ((bytes_eq-Decides b a).0 turned))))

-- whether an entry's load does not list a key, by the world after it
pub unlisted_is : (past : List Item) (i : Item) → Follows past i → (key : Key) → unlisted i.entry (world_of (i ∷ past)) key ≡ unlists key i
unlisted_is past i follows key = of i.entry.event i.loaded follows.numbered
  where
    none : (o : Option Loaded) → o ≡ None → false ≡ option_map_or (λ l. not (lists_key l.world key)) o false
    none o is = ap (λ x. option_map_or (λ (l : Loaded). not (lists_key l.world key)) x false) (sym is)

    of : (e : Event) (o : Option Loaded) → IsNumbered (loads past) e o → (is_load e && not (lists_key (option_map_or (λ l. l) o (loaded_of past)).world key)) ≡ option_map_or (λ l. not (lists_key l.world key)) o false
    of (Load n) (Some l) h = refl
    of (Load n) None h = absurd h
    of (Connect uid) o h = none o h
    of (Called serial quiet call) o h = none o h
    of (Returned s) o h = none o h
    of (AgentError s name) o h = none o h
    of Passed o h = none o h
    of Depart o h = none o h
    of (LoadFailed code) o h = none o h
    of Stop o h = none o h
    of (Collect other) o h = none o h

-- what follows for a subject of these facts, where there are any and the caller may speak for their user
abbrev pub where_facts : {A : Type 0} → List Item → ℕ → Option Facts → A → (Facts → A) → A
where_facts past c found nothing follow = option_map_or (λ f. if may_for past c f.uid then follow f else nothing) found nothing
