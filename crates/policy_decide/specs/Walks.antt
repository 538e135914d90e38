-- The rules as they are walked.
use Rattle.std.specs.Prelude.{ℕ, List, Option, option_map, option_to_list}
use Rattle.std.specs.List.{enumerate_from}
use Rattle.pk_types.specs.declared.values.Category.{Category}
use Rattle.authority_model.specs.declared.policy.RuleEntry.{RuleEntry}
use Rattle.authority_model.specs.declared.world.World.{World}
use Rattle.authority_model.specs.Lists.{find_last}
use Rattle.authority_model.specs.Words.{Bytes}
use Rattle.authority_model.specs.Rules.{matches_at}
use Rattle.authority_model.specs.Worlds.{group_row}
use Rattle.policy_decide.specs.declared.rules.Rule.{Rule}

-- a rule with its place, where the rule is borrowed
abbrev pub rule_seen : Rule → ℕ × RuleEntry
rule_seen r = (r.place, r.entry.now)

-- the last of these rules that matches at a place, with its own place among them
abbrev pub last_of : List RuleEntry → Bytes → Category → Bytes → Option (ℕ × RuleEntry)
last_of entries action category label = find_last (λ (place, entry). matches_at label action category entry) (enumerate_from 0 entries)

-- the label of a group, where it has a row
abbrev pub group_places : World → ℕ → List Bytes
group_places world gid = option_to_list (option_map (λ g. g.label) (group_row world gid))
