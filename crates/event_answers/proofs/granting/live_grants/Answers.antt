use Rattle.std.proofs.Common.{◌≡◌, subst, List}
use Rattle.std.specs.Prelude.{IfOk}
use Rattle.authority_model.specs.declared.verdict.GrantRow.{GrantRow}
use Rattle.authority_model.specs.Keys.{key_seen}
use Rattle.event_answers.specs.Asked.{is_live_for}
use Rattle.event_answers.proofs.Walking.{passing}
use Rattle.event_answers.proofs.granting.live_grants.Goals as goal

pub returns : goal.returns
returns g c = record { live = subst (λ (rows : List GrantRow). IfOk c.live_rows.result (λ r. r ≡ rows)) (passing (is_live_for (key_seen c.args.key) c.args.moment) (g.V.JournalView.seen c.args.view.now).grants) c.live_rows.ensures.rows }
