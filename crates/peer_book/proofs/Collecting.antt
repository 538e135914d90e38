-- Counts of what connections have collected.
use Rattle.std.proofs.Common.{◌≡◌, ℕ, ◌==◌, Bool, true, false, ◌&&◌, List, ◌∷◌, refl, ap, sym, ◌∙◌, Option, Some}
use Rattle.std.specs.Prelude.{if◌then◌else◌, cond, unwrap_or}
use Rattle.std.proofs.lemmas.Bool.Decides.{Decides-eqb}
use Rattle.authority_model.specs.declared.event.Event.{Event}
use Rattle.authority_model.specs.declared.event.Event.TheVariants.{Connect, Call as Called, Returned, AgentError, Passed, Depart, Load, LoadFailed, Stop, Collect}
use Rattle.authority_model.specs.declared.journal.Entry.{Entry}
use Rattle.authority_model.specs.declared.journal.Item.{Item}
use Rattle.authority_model.specs.Items.{sent}
use Rattle.authority_model.specs.Sent.{collected, is_collect_of}
use Rattle.peer_book.specs.Counts.{CarriesCounts, collected_in, collects, count_after}

-- a count that was put in is found
pub put_in : (t : Bool) (n : ℕ) (o : Option ℕ) → unwrap_or (cond t (Some n) o) 0 ≡ (if t then n else unwrap_or o 0)
put_in true n o = refl
put_in false n o = refl

-- a count that was noted is the one after the event
pub noted : (caller of by c n before after : ℕ) (what : Option ℕ) (count_of : ℕ → ℕ) → Some of ≡ what → n ≡ count_of of → after ≡ (if (caller == by) && (of == c) then n else before) → after ≡ count_after caller what count_of by c before
noted caller of by c n before after what count_of is count put = put ∙ ap (λ m. if (caller == by) && (of == c) then m else before) count ∙ ap (λ o. count_after caller o count_of by c before) is

-- counts that tell of a history and are carried on by an entry tell of the history with that entry
pub counts_next : (old new : List ((ℕ × ℕ) × ℕ)) (count_of : ℕ → ℕ) (past : List Item) (i : Item) (entry : Entry) → i.entry ≡ entry → ((c : ℕ) → count_of c ≡ sent past c)
    → ((by c : ℕ) → collected_in old by c ≡ collected past by c) → CarriesCounts entry count_of old new → (by c : ℕ) → collected_in new by c ≡ collected (i ∷ past) by c
counts_next old new count_of past i entry is counted told carries by c =
    carries by c
    ∙ ap (λ n. count_after entry.caller (collects entry.event) count_of by c n) (told by c)
    ∙ go entry.event
    ∙ ap (λ (e : Entry). if (e.caller == by) && is_collect_of c e.event then sent past c else collected past by c) (sym is)
  where
    other : (b : Bool) (x y : ℕ) → y ≡ (if b && false then x else y)
    other true x y = refl
    other false x y = refl

    here : (of : ℕ) (s t : Bool) → (of == c) ≡ t → (if s && t then count_of of else collected past by c) ≡ (if s && t then sent past c else collected past by c)
    here of true true is = ap count_of ((Decides-eqb of c).0 is) ∙ counted c
    here of true false is = refl
    here of false t is = refl

    go : (event : Event) → count_after entry.caller (collects event) count_of by c (collected past by c) ≡ (if (entry.caller == by) && is_collect_of c event then sent past c else collected past by c)
    go (Collect of) = here of (entry.caller == by) (of == c) refl
    go (Connect uid) = other (entry.caller == by) (sent past c) (collected past by c)
    go (Called serial quiet call) = other (entry.caller == by) (sent past c) (collected past by c)
    go (Returned serial) = other (entry.caller == by) (sent past c) (collected past by c)
    go (AgentError serial name) = other (entry.caller == by) (sent past c) (collected past by c)
    go Passed = other (entry.caller == by) (sent past c) (collected past by c)
    go Depart = other (entry.caller == by) (sent past c) (collected past by c)
    go (Load load) = other (entry.caller == by) (sent past c) (collected past by c)
    go (LoadFailed code) = other (entry.caller == by) (sent past c) (collected past by c)
    go Stop = other (entry.caller == by) (sent past c) (collected past by c)
