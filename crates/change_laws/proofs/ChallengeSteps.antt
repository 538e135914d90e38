-- The pending challenges after an item, by what the item closes, answers and opens.
use Rattle.std.proofs.Common.{◌≡◌, ℕ, ◌==◌, Bool, true, false, ◌&&◌, ◌||◌, not, List, ◌∷◌, ◌++◌, refl, ap, sym, ◌∙◌, Option, Some, None}
use Rattle.std.proofs.lemmas.List.{append-nil}
use Rattle.std.proofs.lemmas.Bool.{ne_eqb}
use Rattle.std.specs.Prelude.{if◌then◌else◌, filter, map, option_and_then, option_to_list}
use Rattle.pk_types.specs.declared.values.Identity.{Identity}
use Rattle.authority_model.specs.declared.journal.Item.{Item}
use Rattle.authority_model.specs.declared.pending.Pending.{Pending}
use Rattle.authority_model.specs.Lists.{Has, or_else}
use Rattle.authority_model.specs.Cookies.{cookie_text}
use Rattle.authority_model.specs.Peers.{live, is_root, call_in}
use Rattle.authority_model.specs.Challenges.{pending, opened, closes, with_answer, answer_to, responds}
use Rattle.change_laws.proofs.ChallengeLists.{map_same, filter_where, filter_none}

-- no further answer leaves a challenge as it is
pub answer_kept : (ch : Pending) → record ch { answered = or_else ch.answered None } ≡ ch
answer_kept ch = by ch.answered
  where
    by : (o : Option Identity) → record ch { answered = or_else o None } ≡ record ch { answered = o }
    by None = refl
    by (Some identity) = refl

-- an item that gives a challenge no answer leaves it as it is
pub unanswered_same : (past : List Item) (i : Item) (ch : Pending) → answer_to past ch i ≡ None → with_answer past i ch ≡ ch
unanswered_same past i ch none = ap (λ o. record ch { answered = or_else ch.answered o }) none ∙ answer_kept ch

-- what is no Respond answers nothing
pub no_answer : (past : List Item) (i : Item) (ch : Pending) → option_and_then (responds (cookie_text ch.cookie) ch.identities) (call_in i.entry.event) ≡ None → answer_to past ch i ≡ None
no_answer past i ch none = by (live past i.entry.caller && is_root past i.entry.caller)
  where
    by : (b : Bool) → (if b then option_and_then (responds (cookie_text ch.cookie) ch.identities) (call_in i.entry.event) else None) ≡ None
    by true = none
    by false = refl

-- a connection that is not live answers nothing
pub dead_answer : (past : List Item) (i : Item) (ch : Pending) → live past i.entry.caller ≡ false → answer_to past ch i ≡ None
dead_answer past i ch dead = ap (λ b. if b && is_root past i.entry.caller then option_and_then (responds (cookie_text ch.cookie) ch.identities) (call_in i.entry.event) else None) dead

-- an item that answers nothing, by a test of what it closes and by what it opens
pub pending_closed : (past : List Item) (i : Item) (test : Pending → Bool) (o : Option Pending)
    → ((ch : Pending) → Has (pending past) ch → closes past ch i ≡ test ch) → ((ch : Pending) → answer_to past ch i ≡ None) → opened past i ≡ o
    → pending (i ∷ past) ≡ filter (λ ch. not (test ch)) (pending past) ++ option_to_list o
pending_closed past i test o closed none opens =
    ap (λ xs. map (with_answer past i) xs ++ option_to_list (opened past i)) (filter_where (λ ch. not (closes past ch i)) (λ ch. not (test ch)) (pending past) (λ ch h. ap not (closed ch h)))
    ∙ ap (λ xs. xs ++ option_to_list (opened past i)) (map_same (with_answer past i) (filter (λ ch. not (test ch)) (pending past)) (λ ch h. unanswered_same past i ch (none ch)))
    ∙ ap (λ p. filter (λ ch. not (test ch)) (pending past) ++ option_to_list p) opens

-- the same of an item that opens nothing
pub pending_left : (past : List Item) (i : Item) (test : Pending → Bool)
    → ((ch : Pending) → Has (pending past) ch → closes past ch i ≡ test ch) → ((ch : Pending) → answer_to past ch i ≡ None) → opened past i ≡ None
    → pending (i ∷ past) ≡ filter (λ ch. not (test ch)) (pending past)
pending_left past i test closed none opens = pending_closed past i test None closed none opens ∙ append-nil (filter (λ ch. not (test ch)) (pending past))

-- an item that closes, answers and opens nothing
pub pending_same : (past : List Item) (i : Item) → ((ch : Pending) → Has (pending past) ch → closes past ch i ≡ false) → ((ch : Pending) → answer_to past ch i ≡ None) → opened past i ≡ None → pending (i ∷ past) ≡ pending past
pending_same past i closed none opens = pending_left past i (λ ch. false) closed none opens ∙ filter_none (pending past)

-- an item that closes nothing opens this or nothing
pub pending_more : (past : List Item) (i : Item) (o : Option Pending) → ((ch : Pending) → Has (pending past) ch → closes past ch i ≡ false) → ((ch : Pending) → answer_to past ch i ≡ None) → opened past i ≡ o → pending (i ∷ past) ≡ pending past ++ option_to_list o
pending_more past i o closed none opens = pending_closed past i (λ ch. false) o closed none opens ∙ ap (λ xs. xs ++ option_to_list o) (filter_none (pending past))

-- a connection that is not live is not a live one
pub not_live_one : (past : List Item) (c d : ℕ) → live past c ≡ false → live past d ≡ true → (c == d) ≡ false
not_live_one past c d dead lives = ne_eqb c d (λ same. absurd (cc (sym (ap (live past) same ∙ lives) ∙ dead)))

-- Whether an item closes a challenge, by parts: a, that it is the agent's, and b, that it is the asker's.

-- an event that closes none
pub idle_sides : (a b : Bool) → ((a && false) || (b && false) || (b && false) || (a && false) || (a && false) || false || false) ≡ false
idle_sides true true = refl
idle_sides true false = refl
idle_sides false true = refl
idle_sides false false = refl

-- an event of neither side
pub dead_sides : (a b r k d u : Bool) → a ≡ false → b ≡ false → ((a && r) || (b && k) || (b && d) || (a && d) || (a && u) || false || false) ≡ false
dead_sides false false r k d u x y = refl
dead_sides true b r k d u x y = absurd (cc)
dead_sides false true r k d u x y = absurd (cc)

-- an agent's reply
pub reply_sides : (a b r : Bool) → ((a && r) || (b && false) || (b && false) || (a && false) || (a && false) || false || false) ≡ (a && r)
reply_sides true true true = refl
reply_sides true true false = refl
reply_sides true false true = refl
reply_sides true false false = refl
reply_sides false true r = refl
reply_sides false false r = refl

-- a departure
pub depart_sides : (a b : Bool) → ((a && false) || (b && false) || (b && true) || (a && true) || (a && false) || false || false) ≡ (b || a)
depart_sides true true = refl
depart_sides true false = refl
depart_sides false true = refl
depart_sides false false = refl

-- a Cancel
pub cancel_sides : (a b k : Bool) → ((a && false) || (b && k) || (b && false) || (a && false) || (a && false) || false || false) ≡ (b && k)
cancel_sides true true true = refl
cancel_sides true true false = refl
cancel_sides true false k = refl
cancel_sides false true true = refl
cancel_sides false true false = refl
cancel_sides false false k = refl

-- an Unregister
pub unregister_sides : (a b u : Bool) → ((a && false) || (b && false) || (b && false) || (a && false) || (a && u) || false || false) ≡ (a && u)
unregister_sides true true true = refl
unregister_sides true true false = refl
unregister_sides true false true = refl
unregister_sides true false false = refl
unregister_sides false true u = refl
unregister_sides false false u = refl

-- a load, which lists the subject's key (k) and the agent's (m)
pub load_sides : (a b k m : Bool) → ((a && false) || (b && false) || (b && false) || (a && false) || (a && false) || not k || not m) ≡ not (k && m)
load_sides true true true m = refl
load_sides true true false m = refl
load_sides true false true m = refl
load_sides true false false m = refl
load_sides false true true m = refl
load_sides false true false m = refl
load_sides false false true m = refl
load_sides false false false m = refl
