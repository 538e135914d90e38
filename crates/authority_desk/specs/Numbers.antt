-- What is counted of a history, and how an entry moves the counts.
use Rattle.std.specs.Prelude.{ℕ, ◌+◌, if◌then◌else◌, List, [], ◌∷◌, length}
use Rattle.authority_model.specs.declared.journal.Entry.{Entry}
use Rattle.authority_model.specs.declared.journal.Item.{Item}
use Rattle.authority_model.specs.Answers.{loads}
use Rattle.authority_model.specs.Challenges.{opened_count}
use Rattle.authority_model.specs.Grants.{made}
use Rattle.authority_model.specs.Items.{is_load}
use Rattle.authority_model.specs.Legal.{last_moment}
use Rattle.entry_changes.specs.declared.change.ChallengeChange.{ChallengeChange}
use Rattle.entry_changes.specs.declared.change.EntryChange.{EntryChange}
use Rattle.change_laws.specs.GrantCounts.{additions}
use Rattle.authority_desk.specs.declared.numbers.DeskNumbers.{DeskNumbers}

-- how many outputs a history has
abbrev pub output_count : List Item → ℕ
output_count [] = 0
output_count (i ∷ past) = output_count past + length i.entry.outputs

-- what is counted of a history
abbrev pub numbers_of : List Item → DeskNumbers
numbers_of past = record { loads = loads past; outputs = output_count past; opened = opened_count past; made = made past; last_moment = last_moment past }

-- how many challenges a change opens
abbrev pub openings : ChallengeChange → ℕ
openings (ChallengeChange.Begun row) = 1
openings _ = 0

-- the counts after an entry with this change
abbrev pub numbers_after : Entry → EntryChange → DeskNumbers → DeskNumbers
numbers_after e change n = record {
  loads = n.loads + (if is_load e.event then 1 else 0);
  outputs = n.outputs + length e.outputs;
  opened = n.opened + openings change.challenge;
  made = n.made + additions change.grant;
  last_moment = e.moment;
}
