use Rattle.std.proofs.Common.{◌≤◌, length, [], ◌∙◌, ap, arith}
use Rattle.std.specs.Prelude.{flat_map, fold}
use Rattle.std.proofs.lemmas.List.{take_all}
use Rattle.authority_model.specs.Admins.{members_of_word}
use Rattle.admin_identities.specs.Adding.{added}
use Rattle.admin_identities.proofs.Once.{fold-added}
use Rattle.admin_identities.proofs.expanding.members.Goals as goal

pub returns : goal.returns
returns c =
    let all : length c.args.words.now ≤ c.loop-word.word-index = omega arith in
    record {
      members = c.loop-word.invariant
          ∙ ap (λ ws. fold added [] (flat_map (members_of_word c.args.world.now) ws)) (take_all c.loop-word.word-index c.args.words.now all)
          ∙ fold-added [] (flat_map (members_of_word c.args.world.now) c.args.words.now);
    }
