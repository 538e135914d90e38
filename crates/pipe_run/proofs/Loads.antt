-- The loads of a journal's items are the journal's loads.
use Rattle.std.proofs.Common.{◌≡◌, Bool, true, false, List, [], ◌∷◌, ◌++◌, Option, Some, None, refl, ap, sym, ◌∙◌, length, arith, append_assoc}
use Rattle.std.specs.Prelude.{reverse}
use Rattle.std.specs.Option.{option_to_list}
use Rattle.std.proofs.lemmas.List.{reverse-append}
use Rattle.authority_model.specs.declared.journal.Entry.{Entry}
use Rattle.authority_model.specs.declared.journal.History.{History}
use Rattle.authority_model.specs.declared.journal.Item.{Item}
use Rattle.authority_model.specs.declared.load.Loaded.{Loaded}
use Rattle.authority_model.specs.Items.{paired, pair_up, is_load, items_of}
use Rattle.authority_model.specs.Answers.{loads}
use Rattle.authority_model.specs.Legal.{IsLegal}
use Rattle.authority_model.proofs.LastLoad.{loads-reverse}
use Rattle.authority_laws.specs.Batches.{loads_in, with_load}

with_load_first : (x : Option Loaded) (loads : List Loaded) (last : Option Loaded) → with_load (option_to_list x ++ loads) last ≡ option_to_list x ++ with_load loads last
with_load_first x loads None = refl
with_load_first x loads (Some l) = append_assoc (option_to_list x) loads (l ∷ [])

only_load : (x : Option Loaded) → with_load [] x ≡ option_to_list x ++ []
only_load None = refl
only_load (Some l) = refl

-- the load of the oldest item goes first
loads_in-oldest : (past : List Item) (x : Item) → loads_in (past ++ x ∷ []) ≡ option_to_list x.loaded ++ loads_in past
loads_in-oldest [] x = only_load x.loaded
loads_in-oldest (i ∷ past) x = ap (λ ls. with_load ls i.loaded) (loads_in-oldest past x) ∙ with_load_first x.loaded (loads_in past) i.loaded

first_load : (x : Item) (xs : List Item) → loads_in (reverse (x ∷ xs)) ≡ option_to_list x.loaded ++ loads_in (reverse xs)
first_load x xs = ap loads_in (reverse-append (x ∷ []) xs) ∙ loads_in-oldest (reverse xs) x

loads_in-paired : (es : List Entry) (ls : List Loaded) → loads (paired es ls) ≡ length ls → loads_in (reverse (paired es ls)) ≡ ls
loads_in-paired [] [] n = refl
loads_in-paired [] (l ∷ ls) n = absurd (omega arith)
loads_in-paired (e ∷ es) ls n = go (is_load e.event) ls n (λ ls n. loads_in-paired es ls n)
  where
    go : (b : Bool) (ls : List Loaded) → loads (pair_up e b ls (paired es)) ≡ length ls → ((ls : List Loaded) → loads (paired es ls) ≡ length ls → loads_in (reverse (paired es ls)) ≡ ls)
        → loads_in (reverse (pair_up e b ls (paired es))) ≡ ls
    go false ls n ih = first_load (record { entry = e; loaded = None }) (paired es ls) ∙ ih ls (omega arith)
    go true [] n ih = first_load (record { entry = e; loaded = None }) (paired es []) ∙ ih [] (omega arith)
    go true (l ∷ ls) n ih = first_load (record { entry = e; loaded = Some l }) (paired es ls) ∙ ap (λ r. l ∷ r) (ih ls (omega arith))

-- the loads of a legal journal are those of its items
pub loads_of_journal : (h : History) → IsLegal h → loads_in (items_of h) ≡ h.loads
loads_of_journal h legal = loads_in-paired h.entries h.loads (sym (loads-reverse (paired h.entries h.loads)) ∙ legal.loads)
