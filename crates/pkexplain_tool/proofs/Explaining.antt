-- What one case, and several one after another, add to an account.
use Rattle.std.proofs.Common.{◌≡◌, ℕ, ◌+◌, ◌<◌, length, get_or, take, List, [], ◌∷◌, ◌++◌, refl, sym, ap, ◌∙◌, subst, append_assoc, append-nil}
use Rattle.std.proofs.lemmas.Grind.{flat_map-append}
use Rattle.std.proofs.lemmas.List.{map-append, take_more}
use Rattle.pk_types.specs.declared.values.Category.{Category}
use Rattle.authority_model.specs.declared.load.Loaded.{Loaded}
use Rattle.authority_model.specs.declared.policy.Action.{Action}
use Rattle.authority_model.specs.declared.world.User.{User}
use Rattle.pkexplain_tool.specs.Accounts.{Explains}
use Rattle.pkexplain_tool.specs.Cases.{case_of, cases_of_user, first_decided, row_of}
use Rattle.pkexplain_tool.specs.Lines.{Line, case_lines, line_text, lines_of_case, text_of}
use Rattle.pkexplain_tool.specs.declared.account.Account.{Account}
use Rattle.pkexplain_tool.specs.declared.case.Case.{Case}
use Rattle.pkexplain_tool.proofs.Firsts.{notes_more, notes_none}

-- the text of lines, and of more behind them
pub text_more : (lines more : List Line) → text_of (lines ++ more) ≡ text_of lines ++ text_of more
text_more lines more = flat_map-append line_text lines more

pub case_lines_more : (loaded : Loaded) (cases more : List Case) → text_of (case_lines loaded (cases ++ more)) ≡ text_of (case_lines loaded cases) ++ text_of (case_lines loaded more)
case_lines_more loaded cases more = ap text_of (flat_map-append (lines_of_case loaded) cases more) ∙ text_more (case_lines loaded cases) (case_lines loaded more)

-- no case adds nothing
pub explains_none : (loaded : Loaded) (a : Account) → Explains loaded [] a a
explains_none loaded a = record { lines = sym (append-nil a.text.items); firsts = notes_none (first_decided loaded []) a.firsts (λ p. refl) }

-- some cases, and then more
pub explains_more : (loaded : Loaded) (cases more : List Case) (a b c : Account) → Explains loaded cases a b → Explains loaded more b c → Explains loaded (cases ++ more) a c
explains_more loaded cases more a b c first then = record {
  lines = then.lines ∙ ap (λ r. r ++ text_of (case_lines loaded more)) first.lines ∙ append_assoc a.text.items (text_of (case_lines loaded cases)) (text_of (case_lines loaded more))
      ∙ ap (λ r. a.text.items ++ r) (sym (case_lines_more loaded cases more));
  firsts = notes_more loaded cases more a.firsts b.firsts c.firsts first.firsts then.firsts;
}

-- the row with one more action
pub row_more : (uid : ℕ) (category : Category) (actions : List Action) (i : ℕ) (action : Action) → i < length actions → action ≡ get_or actions i action
    → row_of uid category (take (i + 1) actions) ≡ row_of uid category (take i actions) ++ case_of uid category action ∷ []
row_more uid category actions i action lt is =
    ap (row_of uid category) (take_more actions i action lt ∙ ap (λ (a : Action). take i actions ++ a ∷ []) (sym is)) ∙ map-append (case_of uid category) (take i actions) (action ∷ [])

-- the three rows of a user
pub three_rows : (loaded : Loaded) (user : User) (actions : List Action) (a b c d : Account) → actions ≡ loaded.policy.actions
    → Explains loaded (row_of user.uid Category.Any actions) a b → Explains loaded (row_of user.uid Category.Inactive actions) b c → Explains loaded (row_of user.uid Category.Active actions) c d
    → Explains loaded (cases_of_user loaded.policy user) a d
three_rows loaded user actions a b c d same any inactive active =
    subst (λ (acts : List Action). Explains loaded (row_of user.uid Category.Any acts ++ (row_of user.uid Category.Inactive acts ++ row_of user.uid Category.Active acts)) a d) same
    (explains_more loaded (row_of user.uid Category.Any actions) (row_of user.uid Category.Inactive actions ++ row_of user.uid Category.Active actions) a b d any
    (explains_more loaded (row_of user.uid Category.Inactive actions) (row_of user.uid Category.Active actions) b c d inactive active))
