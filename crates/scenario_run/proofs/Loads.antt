-- The loads of a history's items are the history's loads.
use Rattle.std.proofs.Common.{◌≡◌, Bool, true, false, List, [], ◌∷◌, ◌++◌, Some, None, refl, ap, sym, ◌∙◌, length, arith, append_assoc, append-nil}
use Rattle.std.specs.Prelude.{reverse}
use Rattle.std.specs.Option.{option_to_list}
use Rattle.std.proofs.lemmas.List.{reverse-append}
use Rattle.authority_model.specs.declared.journal.Entry.{Entry}
use Rattle.authority_model.specs.declared.journal.History.{History}
use Rattle.authority_model.specs.declared.journal.Item.{Item}
use Rattle.authority_model.specs.declared.load.Loaded.{Loaded}
use Rattle.authority_model.specs.Items.{paired, pair_up, is_load, items_of}
use Rattle.authority_model.specs.Answers.{loads}
use Rattle.authority_model.specs.Legal.{IsLegal}
use Rattle.authority_model.proofs.LastLoad.{loads-reverse}
use Rattle.scenario_run.specs.Text.{loads_of}

-- the load of the oldest item goes first
loads_of-oldest : (past : List Item) (x : Item) → loads_of (past ++ x ∷ []) ≡ option_to_list x.loaded ++ loads_of past
loads_of-oldest [] x = sym (append-nil (option_to_list x.loaded))
loads_of-oldest (i ∷ past) x =
    ap (λ ls. ls ++ option_to_list i.loaded) (loads_of-oldest past x) ∙ append_assoc (option_to_list x.loaded) (loads_of past) (option_to_list i.loaded)

first_load : (x : Item) (xs : List Item) → loads_of (reverse (x ∷ xs)) ≡ option_to_list x.loaded ++ loads_of (reverse xs)
first_load x xs = ap loads_of (reverse-append (x ∷ []) xs) ∙ loads_of-oldest (reverse xs) x

loads_of-paired : (es : List Entry) (ls : List Loaded) → loads (paired es ls) ≡ length ls → loads_of (reverse (paired es ls)) ≡ ls
loads_of-paired [] [] n = refl
loads_of-paired [] (l ∷ ls) n = absurd (omega arith)
loads_of-paired (e ∷ es) ls n = go (is_load e.event) ls n (λ ls n. loads_of-paired es ls n)
  where
    go : (b : Bool) (ls : List Loaded) → loads (pair_up e b ls (paired es)) ≡ length ls → ((ls : List Loaded) → loads (paired es ls) ≡ length ls → loads_of (reverse (paired es ls)) ≡ ls)
        → loads_of (reverse (pair_up e b ls (paired es))) ≡ ls
    go false ls n ih = first_load (record { entry = e; loaded = None }) (paired es ls) ∙ ih ls (omega arith)
    go true [] n ih = first_load (record { entry = e; loaded = None }) (paired es []) ∙ ih [] (omega arith)
    go true (l ∷ ls) n ih = first_load (record { entry = e; loaded = Some l }) (paired es ls) ∙ ap (λ r. l ∷ r) (ih ls (omega arith))

pub loads_of-items : (h : History) → loads (items_of h) ≡ length h.loads → loads_of (items_of h) ≡ h.loads
loads_of-items h n = loads_of-paired h.entries h.loads (sym (loads-reverse (paired h.entries h.loads)) ∙ n)

pub loads_are : (h h' : History) (past : List Item) → h' ≡ h → IsLegal h → items_of h ≡ past → h'.loads ≡ loads_of past
loads_are h h' past same legal is = ap (λ (x : History). x.loads) same ∙ sym (loads_of-items h legal.loads) ∙ ap loads_of is
