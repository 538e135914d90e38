use Rattle.std.proofs.lemmas.Bool.Decides.{Decides-eqb}
use Rattle.std.proofs.lemmas.Slice.Eq.{strip_prefix_is}
use Rattle.authority_model.proofs.Fronts.{after_front-stripped}
use Rattle.admin_identities.proofs.configured.behind.Goals as goal

pub returns : goal.returns
returns c = record { behind = after_front-stripped c.args.front.now c.args.text.now c.strip_prefix.result (strip_prefix_is Decides-eqb c.args.text.now c.args.front.now c.strip_prefix.result c.strip_prefix.ensures.cases) }
