-- The names, keys and values that are added are texts.
use Rattle.std.proofs.Common.{sym, subst}
use Rattle.std.proofs.lemmas.Result.{IfOk-weaker}
use Rattle.keyfile_text.specs.KeyFiles.{Grouped}
use Rattle.keyfile_text.specs.Maps.{SaysTexts, GroupsAreTexts}
use Rattle.keyfile_text.proofs.Merges.{texts-open_group, texts-set_open}
use Rattle.keyfile_text.proofs.grouping.Grouping.with_line.Goals as goal

pub returns-in-Header-clause-texts : goal.returns-in-Header-clause-texts
returns-in-Header-clause-texts c =
    IfOk-weaker c.opened.result _ _ (λ g e says texts. subst (λ (x : Grouped). GroupsAreTexts x.groups) (sym e) (texts-open_group _ _ (subst SaysTexts c.in-Header.is says) texts)) c.opened.ensures.opened

pub returns-in-Setting-clause-texts : goal.returns-in-Setting-clause-texts
returns-in-Setting-clause-texts c =
    IfOk-weaker c.with_key.result _ _
    (λ g e says texts.
    let both = subst SaysTexts c.in-Setting.is says in
    subst (λ (x : Grouped). GroupsAreTexts x.groups) (sym e) (texts-set_open _ _ _ _ both.0 both.1 texts))
    c.with_key.ensures.set
