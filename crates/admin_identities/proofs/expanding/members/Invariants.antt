use Rattle.std.proofs.Common.{◌≡◌, take, []}
use Rattle.std.specs.Prelude.{flat_map, fold}
use Rattle.authority_model.specs.Admins.{members_of_word}
use Rattle.admin_identities.specs.Adding.{added}
use Rattle.admin_identities.proofs.expanding.members.Given as goal

-- those of the words so far are added
abbrev pub invariant-loop-word : goal.invariant-loop-word
invariant-loop-word l = l.found ≡ fold added [] (flat_map (members_of_word l.world) (take l.word-index l.words))
