-- Rules that were read, ahead of those of the lines that are left.
use Rattle.std.proofs.Common.{◌≡◌, List, [], ◌∷◌, ◌++◌, Option, Some, None, ap, sym, refl, append_assoc}
use Rattle.std.specs.Option.{option_map}
use Rattle.authority_model.specs.Words.{Bytes}
use Rattle.agent_rules.specs.declared.line.Rule.{Rule}
use Rattle.agent_rules.specs.Rules.{rule_in, rules_in_lines, ◌>>=◌}

abbrev pub ahead : List Rule → Option (List Rule) → Option (List Rule)
ahead rules rest = option_map (λ later. rules ++ later) rest

-- before the first line
pub ahead-none : (rest : Option (List Rule)) → ahead [] rest ≡ rest
ahead-none None = refl
ahead-none (Some rest) = refl

-- one more rule
pub ahead-rule : (rules : List Rule) (rule : Rule) (rest : Option (List Rule)) → ahead rules (rest >>= λ later. Some (rule ∷ later)) ≡ ahead (rules ++ rule ∷ []) rest
ahead-rule rules rule None = refl
ahead-rule rules rule (Some rest) = ap Some (sym (append_assoc rules (rule ∷ []) rest))

-- a line that is a rule
pub ahead-line : (rules : List Rule) (rule : Rule) (line : Bytes) (lines : List Bytes) → rule_in line ≡ Some rule
    → ahead rules (rules_in_lines (line ∷ lines)) ≡ ahead (rules ++ rule ∷ []) (rules_in_lines lines)
ahead-line rules rule line lines is_rule = rw is_rule (ahead-rule rules rule (rules_in_lines lines))

-- a line that is not
pub ahead-fault : (rules : List Rule) (line : Bytes) (lines : List Bytes) → rule_in line ≡ None → ahead rules (rules_in_lines (line ∷ lines)) ≡ None
ahead-fault rules line lines none = rw none refl
