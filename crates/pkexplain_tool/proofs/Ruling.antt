-- The lines of the rules, one after another.
use Rattle.std.proofs.Common.{◌≡◌, ℕ, ◌+◌, List, [], ◌∷◌, ◌++◌, Option, None, Some, option_map, unwrap_or, map, slice_get, sym, ap, ◌∙◌, zero-add, append_assoc, append-nil}
use Rattle.std.specs.List.{range_with_len}
use Rattle.std.proofs.lemmas.List.FromFn.{map-range_with_len_more}
use Rattle.authority_model.specs.declared.load.Loaded.{Loaded}
use Rattle.authority_model.specs.Words.{Bytes}
use Rattle.pkexplain_tool.specs.Accounts.{AreFirsts}
use Rattle.pkexplain_tool.specs.Cases.{cases_of, first_decided}
use Rattle.pkexplain_tool.specs.Lines.{line_of_rule, line_text, rule_line, text_of}
use Rattle.pkexplain_tool.specs.declared.case.Case.{Case}
use Rattle.pkexplain_tool.proofs.Explaining.{text_more}

-- the text of one rule more
rules_more : (loaded : Loaded) (n : ℕ) → text_of (map (rule_line loaded) (range_with_len 0 (n + 1))) ≡ text_of (map (rule_line loaded) (range_with_len 0 n)) ++ line_text (rule_line loaded n)
rules_more loaded n =
    ap text_of (map-range_with_len_more (rule_line loaded) 0 n n (zero-add n)) ∙ text_more (map (rule_line loaded) (range_with_len 0 n)) (rule_line loaded n ∷ [])
    ∙ ap (λ r. text_of (map (rule_line loaded) (range_with_len 0 n)) ++ r) (append-nil (line_text (rule_line loaded n)))

told_first : {A B : Type 0} (o : Option A) (f g : B) → option_map (λ _. f) o ≡ Some g → g ≡ f
told_first None f g e = absurd (cc)
told_first (Some x) f g e = ap (λ (v : Option _). unwrap_or v f) (sym e)

-- the first case that is kept for a rule is its first
first_at : (loaded : Loaded) (firsts : List (Option Case)) (n : ℕ) (first : Option Case) → AreFirsts loaded firsts → slice_get firsts n ≡ Some first → first ≡ first_decided loaded (cases_of loaded) n
first_at loaded firsts n first are is = told_first (slice_get loaded.policy.entries n) (first_decided loaded (cases_of loaded) n) first (sym (are n) ∙ is)

-- the line of one rule more
pub rule_added : (loaded : Loaded) (firsts : List (Option Case)) (n : ℕ) (first : Option Case) (old text new : Bytes) → AreFirsts loaded firsts → slice_get firsts n ≡ Some first
    → text ≡ old ++ text_of (map (rule_line loaded) (range_with_len 0 n)) → new ≡ text ++ line_text (line_of_rule n first) → new ≡ old ++ text_of (map (rule_line loaded) (range_with_len 0 (n + 1)))
rule_added loaded firsts n first old text new are is so_far added =
    added ∙ ap (λ r. r ++ line_text (line_of_rule n first)) so_far ∙ append_assoc old (text_of (map (rule_line loaded) (range_with_len 0 n))) (line_text (line_of_rule n first))
    ∙ ap (λ (f : Option Case). old ++ (text_of (map (rule_line loaded) (range_with_len 0 n)) ++ line_text (line_of_rule n f))) (first_at loaded firsts n first are is)
    ∙ ap (λ r. old ++ r) (sym (rules_more loaded n))
