-- What clap's answer says of the values.
use Rattle.std.proofs.Common.{◌≡◌, ℕ, List, [], ◌∷◌, Option, Some, None, Result, Ok, Err, refl, sym, ap, subst, ◌∙◌}
use Rattle.std.specs.Result.{IsErrAnd}
use Rattle.clap.specs.Words.{App, IsAmong, Kinds, Row, fault_of, first_of, first_value, matches_of, rows_of}
use Rattle.clap.specs.declared.error.kind.ErrorKind.{ErrorKind}
use Rattle.clap.specs.declared.parser.matches.Found.{Found}
use Rattle.clap.proofs.WalkLemmas.{first_value-rows}
use Rattle.client_commands.specs.AgentCommand.{agent_command, agent_rows}
use Rattle.client_commands.specs.CheckCommand.{check_command, check_rows}
use Rattle.client_commands.specs.Options.{◌>>=◌, Gives, GivesRows, rows_in, rows_unless}
use Rattle.client_commands.specs.AgentPlans as agent
use Rattle.client_commands.specs.CheckPlans as check
use Rattle.client_commands.specs.declared.agent.reading.AgentPlan.{AgentPlan}
use Rattle.client_commands.specs.declared.check.reading.CheckPlan.{CheckPlan}
use Rattle.client_commands.specs.declared.words.WordsFault.{WordsFault}
use Rattle.client_commands.specs.declared.words.WordsFault.TheVariants as fault

-- the value of an option, as `clap` tells it
pub value_is : (f : Found) (id : List ℕ) (value : Option (List ℕ)) → value ≡ first_value f id → value ≡ first_of id (rows_of f)
value_is f id value e = e ∙ first_value-rows f id

-- words that `clap` takes have values
pub rows_taken : (app : App) (words : List (List ℕ)) (rows : List Row) → fault_of app words ≡ [] → rows ≡ matches_of app words → rows_in app words ≡ Some rows
unfolding rows_in
rows_taken app words rows none same = ap (λ (kinds : Kinds). rows_unless kinds (matches_of app words)) none ∙ ap (λ (r : List Row). Some r) (sym same)

refused_by : (kinds : Kinds) (rows : List Row) (k : ErrorKind) → IsAmong k kinds → rows_unless kinds rows ≡ None
refused_by [] rows k among = absurd among
refused_by (x ∷ kinds) rows k among = refl

-- words that it refuses have none
pub rows_refused : (app : App) (words : List (List ℕ)) (k : ErrorKind) → IsAmong k (fault_of app words) → rows_in app words ≡ None
unfolding rows_in
rows_refused app words k among = refused_by (fault_of app words) (matches_of app words) k among

-- the values of the words of the clients
pub check_values : (app : App) (words : List (List ℕ)) → app ≡ check_command → rows_in app words ≡ check_rows words
unfolding check_rows
check_values app words is = ap (λ (a : App). rows_in a words) is

pub agent_values : (app : App) (words : List (List ℕ)) → app ≡ agent_command → rows_in app words ≡ agent_rows words
unfolding agent_rows
agent_values app words is = ap (λ (a : App). rows_in a words) is

-- what the words of a client ask by the values that they give, and nothing where they give none
pub check_read : (app : App) (shown words : List (List ℕ)) (rows : List Row) → app ≡ check_command → shown ≡ words → rows_in app shown ≡ Some rows → check.plan_of words ≡ check.plan_from rows
check_read app shown words rows is same taken = ap (λ (r : Option (List Row)). r >>= check.plan_from) (sym (check_values app words is) ∙ ap (rows_in app) (sym same) ∙ taken)

pub check_faults : (app : App) (shown words : List (List ℕ)) (f : WordsFault) → app ≡ check_command → shown ≡ words → GivesRows (rows_in app shown) (Err f) → Gives {A = CheckPlan} (check.plan_of words) (Err f)
check_faults app shown words fault.NoMemory is same none = tt
check_faults app shown words (fault.Command e) is same none = ap (λ (r : Option (List Row)). r >>= check.plan_from) (sym (check_values app words is) ∙ ap (rows_in app) (sym same) ∙ none)
check_faults app shown words (fault.Value option form) is same none = ap (λ (r : Option (List Row)). r >>= check.plan_from) (sym (check_values app words is) ∙ ap (rows_in app) (sym same) ∙ none)

-- what the words of a client ask by the values that they give, and nothing where they give none
pub agent_read : (app : App) (shown words : List (List ℕ)) (rows : List Row) → app ≡ agent_command → shown ≡ words → rows_in app shown ≡ Some rows → agent.plan_of words ≡ agent.plan_from rows
agent_read app shown words rows is same taken = ap (λ (r : Option (List Row)). r >>= agent.plan_from) (sym (agent_values app words is) ∙ ap (rows_in app) (sym same) ∙ taken)

pub agent_faults : (app : App) (shown words : List (List ℕ)) (f : WordsFault) → app ≡ agent_command → shown ≡ words → GivesRows (rows_in app shown) (Err f) → Gives {A = AgentPlan} (agent.plan_of words) (Err f)
agent_faults app shown words fault.NoMemory is same none = tt
agent_faults app shown words (fault.Command e) is same none = ap (λ (r : Option (List Row)). r >>= agent.plan_from) (sym (agent_values app words is) ∙ ap (rows_in app) (sym same) ∙ none)
agent_faults app shown words (fault.Value option form) is same none = ap (λ (r : Option (List Row)). r >>= agent.plan_from) (sym (agent_values app words is) ∙ ap (rows_in app) (sym same) ∙ none)

-- A fault that is passed on says what it said.
pub passed_on : {A : Type 0} (due : Option A) (r : Result A WordsFault) (f : WordsFault) → IsErrAnd r (λ (e : WordsFault). e ≡ f) → Gives due (Err f) → Gives due r
passed_on due (Ok x) f is gives = absurd is
passed_on due (Err e) f is gives = subst (λ (x : WordsFault). Gives due (Err x)) (sym is) gives
