-- The actions of the loads of items, by their counts.
use Rattle.std.proofs.Common.{◌≡◌, ℕ, ◌-◌, ◌==◌, Bool, true, false, List, [], ◌∷◌, ◌++◌, Option, Some, None, refl, ap, sym, ◌∙◌, append-nil}
use Rattle.std.specs.Prelude.{if◌then◌else◌, map, slice_get, unwrap_or}
use Rattle.std.specs.Option.{option_map, option_map_or}
use Rattle.std.proofs.lemmas.List.{map-append}
use Rattle.std.proofs.lemmas.Option.{slice_get-map}
use Rattle.authority_model.specs.declared.load.Loaded.{Loaded}
use Rattle.authority_model.specs.declared.message.Answer.{Answer}
use Rattle.authority_model.specs.declared.message.Answer.TheVariants as answer
use Rattle.authority_model.specs.declared.message.Message.{Message}
use Rattle.authority_model.specs.declared.message.Message.TheVariants as message
use Rattle.scenario_text.specs.Answers.{action_count, answer_actions, listed_actions}
use Rattle.scenario_run.specs.Counting.{actions_of, answer_at, count_at, listed_at}

found : (o : Option Loaded) → unwrap_or (option_map actions_of o) 0 ≡ option_map_or actions_of o 0
found None = refl
found (Some l) = refl

counted : (b : Bool) (loads : List Loaded) (k : ℕ) → (if b then 0 else unwrap_or (slice_get (map actions_of loads) k) 0) ≡ (if b then 0 else option_map_or actions_of (slice_get loads k) 0)
counted true loads k = refl
counted false loads k = ap (λ o. unwrap_or o 0) (slice_get-map actions_of loads k) ∙ found (slice_get loads k)

count_is : (loads : List Loaded) (n : ℕ) → count_at (map actions_of loads) n ≡ action_count loads n
count_is loads n = counted (n == 0) loads (n - 1)

answer_is : (loads : List Loaded) (a : Answer) → answer_at (map actions_of loads) a ≡ answer_actions loads a
answer_is loads (answer.Actions load locale) = count_is loads load
answer_is loads (answer.Verdict verdict) = refl
answer_is loads answer.Done = refl
answer_is loads (answer.Name name) = refl
answer_is loads (answer.Grants rows) = refl
answer_is loads (answer.Refused cause) = refl

-- how many actions the load has that a message lists
pub listed_is : (loads : List Loaded) (counts : List ℕ) (m : Message) → counts ≡ map actions_of loads → listed_at counts m ≡ listed_actions loads m
listed_is loads counts m e = ap (λ c. listed_at c m) e ∙ of m
  where
    of : (m : Message) → listed_at (map actions_of loads) m ≡ listed_actions loads m
    of (message.Reply serial a) = answer_is loads a
    of (message.Begin path action text icon details cookie identities) = refl
    of (message.CancelBegin path cookie) = refl
    of message.Changed = refl
    of message.LoadWanted = refl
    of message.StopWanted = refl

-- one more load
pub counted_more : (counts : List ℕ) (loads : List Loaded) (l : Loaded) (n : ℕ) → counts ≡ map actions_of loads → n ≡ actions_of l → counts ++ n ∷ [] ≡ map actions_of (loads ++ l ∷ [])
counted_more counts loads l n e k = ap (λ c. c ++ n ∷ []) e ∙ ap (λ m. map actions_of loads ++ m ∷ []) k ∙ sym (map-append actions_of loads (l ∷ []))

-- an event is no load
pub counted_same : (counts : List ℕ) (loads : List Loaded) → counts ≡ map actions_of loads → counts ≡ map actions_of (loads ++ [])
counted_same counts loads e = e ∙ ap (map actions_of) (sym (append-nil loads))
