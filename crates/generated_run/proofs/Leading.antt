-- A run goes on from one prefix to the next, and what stops a prefix stops the run.
use Rattle.std.proofs.Common.{◌≡◌, ℕ, ◌+◌, ◌≤◌, ◌<◌, zero, suc, Bool, true, false, if◌then◌else◌, List, [], ◌∷◌, ◌++◌, ◌⊎◌, inl, inr, Option, Some, None, Result, Ok, Err, IfErr, refl, ap, sym, ◌∙◌, subst, add-one, append_assoc, arith}
use Rattle.std.specs.Prelude.{◌%◌, ◌==◌}
use Rattle.std.specs.Option.{option_map_or}
use Rattle.std.specs.Result.{IsErrAnd}
use Rattle.std.proofs.lemmas.Bool.{cases_lt}
use Rattle.authority_model.specs.declared.journal.Item.{Item}
use Rattle.authority_model.specs.Given.{Given, event_given, load_given, next}
use Rattle.generated_run.specs.declared.asked.Asked.{Asked}
use Rattle.authority_core.specs.declared.halt.Halt.{Halt}
use Rattle.authority_core.specs.declared.halt.Halt.TheVariants.{Full, NoMemory}
use Rattle.generated_run.specs.Run.{entered, each_entered, connects, registers, root_connects, set_up, asked_last, caller_of, check, response, dismissed, authenticated, answered, followed, checked, generated}
use Rattle.generated_run.specs.Setup.{setup}
use Rattle.generated_run.specs.Stops.{StopsIn}
use Rattle.generated_run.proofs.Steps.{entered_is, each_entered_none, each_entered_more, set_up_is, generated_none, generated_more}

-- items, and maybe more above them
abbrev pub Leads : List Item → List Item → Type 0
Leads a b = (more : List Item) × (b ≡ more ++ a)

pub leads_same : (a b : List Item) → b ≡ a → Leads a b
leads_same a b is = ([], is)

pub leads_on : (a b c : List Item) → Leads a b → Leads b c → Leads a c
leads_on a b c p q = (q.0 ++ p.0, q.1 ∙ ap (λ r. q.0 ++ r) p.1 ∙ sym (append_assoc q.0 p.0 a))

pub leads_entered : (past : List Item) (g : Given) → Leads past (entered past g)
leads_entered past g = (next past g ∷ [], entered_is past g)

-- what stops a prefix stops the run
pub stops_later : (a b : List Item) (r : Halt) → Leads a b → StopsIn a r → StopsIn b r
stops_later a b (Full full) p is = record {
  past = is.past;
  due = record {
    item = is.due.item;
    more = p.0 ++ is.due.more;
    whole = p.1 ∙ ap (λ r. p.0 ++ r) is.due.whole ∙ sym (append_assoc p.0 is.due.more (is.due.item ∷ is.past));
  };
  full = is.full;
  entries_are = is.entries_are;
  bytes_are = is.bytes_are;
}
stops_later a b NoMemory p is = tt

-- up to a later one of events that are entered one after another
pub leads_each : (given : ℕ → Given) (past : List Item) (i n : ℕ) → i ≤ n → Leads (each_entered given i past) (each_entered given n past)
leads_each given past i zero le = leads_same _ _ (let none : i ≡ 0 = omega arith in ap (λ k. each_entered given k past) (sym none))
leads_each given past i (suc n) le = of (cases_lt n i) (leads_each given past i n)
  where
    of : (n < i) ⊎ (i ≤ n) → (i ≤ n → Leads (each_entered given i past) (each_entered given n past)) → Leads (each_entered given i past) (each_entered given (suc n) past)
    of (inl last) more = leads_same _ _ (let is : suc n ≡ i = omega arith in ap (λ k. each_entered given k past) is)
    of (inr below) more = leads_on _ (each_entered given n past) _ (more below)
        (subst (λ r. Leads (each_entered given n past) r) (sym (ap (λ k. each_entered given k past) (sym (add-one n)) ∙ each_entered_more given n past)) (leads_entered (each_entered given n past) (given n)))

-- from all of them on
pub leads_from : (given : ℕ → Given) (past : List Item) (n : ℕ) → Leads past (each_entered given n past)
leads_from given past n = subst (λ r. Leads r (each_entered given n past)) (each_entered_none given past) (leads_each given past 0 n (omega arith))

-- one of the events, in all of them
pub one_leads : (given : ℕ → Given) (past : List Item) (i n : ℕ) → i < n → Leads (entered (each_entered given i past) (given i)) (each_entered given n past)
one_leads given past i n below = subst (λ r. Leads r (each_entered given n past)) (each_entered_more given i past) (leads_each given past (i + 1) n (omega arith))

-- the parts of the setup
abbrev pub loaded : List Item
loaded = entered [] (load_given 0 0 setup)

abbrev pub users_in : List Item
users_in = each_entered connects 8 loaded

abbrev pub root_in : List Item
root_in = entered users_in root_connects

pub root_leads : Leads root_in set_up
root_leads = subst (λ r. Leads root_in r) (sym set_up_is) (leads_from registers root_in 8)

pub users_lead : Leads users_in set_up
users_lead = leads_on users_in root_in set_up (leads_entered users_in root_connects) root_leads

pub loaded_leads : Leads loaded set_up
loaded_leads = leads_on loaded users_in set_up (leads_from connects loaded 8) users_lead

-- the parts of a dialogue
pub response_leads : (k : ℕ) (past : List Item) (a : Asked) → Leads (entered past (event_given 9 k 0 (response k a))) (authenticated k past a)
response_leads k past a = leads_entered _ _

answered_leads : (k : ℕ) (past : List Item) (a : Asked) → Leads past (answered k past a)
answered_leads k past a = of (k % 5 == 4)
  where
    of : (b : Bool) → Leads past (if b then dismissed k past a else authenticated k past a)
    of true = leads_entered _ _
    of false = leads_on past (entered past (event_given 9 k 0 (response k a))) (authenticated k past a) (leads_entered _ _) (response_leads k past a)

followed_leads : (k : ℕ) (past : List Item) → Leads past (followed k past)
followed_leads k past = of (asked_last past)
  where
    of : (o : Option Asked) → Leads past (option_map_or (answered k past) o past)
    of None = leads_same past past refl
    of (Some a) = answered_leads k past a

-- a check, in what it leads to
pub check_leads : (k : ℕ) (past : List Item) → Leads (entered past (event_given (caller_of k) k 0 (check k))) (checked k past)
check_leads k past = followed_leads k (entered past (event_given (caller_of k) k 0 (check k)))

-- a dialogue, in the check that leads to it
pub dialogue_is : (k : ℕ) (past : List Item) (a : Asked) → asked_last (entered past (event_given (caller_of k) k 0 (check k))) ≡ Some a
    → checked k past ≡ answered k (entered past (event_given (caller_of k) k 0 (check k))) a
dialogue_is k past a is = ap (λ o. option_map_or (answered k (entered past (event_given (caller_of k) k 0 (check k)))) o (entered past (event_given (caller_of k) k 0 (check k)))) is

-- the setup and a check, in the run
pub leads_generated : (i n : ℕ) → i ≤ n → Leads (generated i) (generated n)
leads_generated i zero le = leads_same _ _ (let none : i ≡ 0 = omega arith in ap generated (sym none))
leads_generated i (suc n) le = of (cases_lt n i) (leads_generated i n)
  where
    of : (n < i) ⊎ (i ≤ n) → (i ≤ n → Leads (generated i) (generated n)) → Leads (generated i) (generated (suc n))
    of (inl last) more = leads_same _ _ (let is : suc n ≡ i = omega arith in ap generated is)
    of (inr below) more = leads_on _ (generated n) _ (more below)
        (subst (λ r. Leads (generated n) r) (sym (ap generated (sym (add-one n)) ∙ generated_more n))
        (leads_on (generated n) _ _ (leads_entered (generated n) (event_given (caller_of n) n 0 (check n))) (check_leads n (generated n))))

pub set_up_leads : (n : ℕ) → Leads set_up (generated n)
set_up_leads n = subst (λ r. Leads r (generated n)) generated_none (leads_generated 0 n (omega arith))

pub checked_leads : (k n : ℕ) → k < n → Leads (checked k (generated k)) (generated n)
checked_leads k n below = subst (λ r. Leads r (generated n)) (generated_more k) (leads_generated (k + 1) n (omega arith))

-- what stopped a step of the run stops the run
pub err_stops : {A : Type 0} (r : Result A Halt) (e : Halt) (a b : List Item) → IsErrAnd r (λ (y : Halt). y ≡ e) → Leads a b → StopsIn a e → IfErr r (StopsIn b)
err_stops (Ok x) e a b is leads stops = absurd is
err_stops (Err y) e a b is leads stops = subst (StopsIn b) (sym is) (stops_later a b e leads stops)
