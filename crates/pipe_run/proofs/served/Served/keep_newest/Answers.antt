-- What is kept is what the newest item sends.
use Rattle.std.proofs.Common.{ap, sym, ◌∙◌, subst, arith, List, ◌++◌}
use Rattle.authority_model.specs.declared.message.Output.{Output}
use Rattle.authority_model.specs.Items.{sent}
use Rattle.pipe_run.specs.declared.served.TheConstants.{CONNECTION}
use Rattle.pipe_run.specs.Answered.{Service}
use Rattle.pipe_run.specs.Bytes.{AreSendableTo, newest_bytes}
use Rattle.pipe_run.proofs.Newest.{counts_as, newest_at, newest_sendable, sends_as}
use Rattle.pipe_run.proofs.served.Served.keep_newest.Goals as goal

pub put_outputs-requires : goal.put_outputs-requires
put_outputs-requires c =
    let newest = newest_at c.self.inside.authority.history c.in-Some.entry.now c.as_slice.result.now (c.as_slice.ensures.items ∙ ap (λ h. h.entries) c.history-history.ensures.same) c.in-Some.ensures.value in
    record { sendable = subst (λ (os : List Output). AreSendableTo CONNECTION os) (sym c.as_slice-outputs.ensures.items) (newest_sendable c.self.inside.authority.history c.in-Some.entry.now CONNECTION (omega arith) c.history-history.ensures.legal newest) }

pub returns-clause-unsent : goal.returns-clause-unsent
returns-clause-unsent c =
    let newest = newest_at c.self.inside.authority.history c.in-Some.entry.now c.as_slice.result.now (c.as_slice.ensures.items ∙ ap (λ h. h.entries) c.history-history.ensures.same) c.in-Some.ensures.value in
    let past = sym (ap (λ (s : Service). s.past) c.self.view_is) in
    c.in_ok-self-inside.ensures.put
    ∙ ap (λ bytes. c.self.inside.outbox ++ bytes) (sends_as c.self.inside.authority.history c.in-Some.entry.now CONNECTION c.self.inside.sent _ _ c.args.self.now.past c.history-history.ensures.legal newest past
    (ap (λ h. h.loads) c.history-history.ensures.same) (ap (λ (s : Service). s.sent) c.self.view_is ∙ c.requires.counted) c.as_slice-outputs.ensures.items)
    ∙ ap (λ (s : Service). s.unsent ++ newest_bytes CONNECTION c.args.self.now.past) c.self.view_is

pub returns-clause-sent : goal.returns-clause-sent
returns-clause-sent c =
    let newest = newest_at c.self.inside.authority.history c.in-Some.entry.now c.as_slice.result.now (c.as_slice.ensures.items ∙ ap (λ h. h.entries) c.history-history.ensures.same) c.in-Some.ensures.value in
    let past = sym (ap (λ (s : Service). s.past) c.self.view_is) in
    counts_as c.self.inside.authority.history c.in-Some.entry.now CONNECTION c.self.inside.sent c.in_ok-self-inside.field-0 _ c.args.self.now.past newest past
    (ap (λ (s : Service). s.sent) c.self.view_is ∙ c.requires.counted) c.as_slice-outputs.ensures.items c.in_ok-self-inside.ensures.count
    ∙ ap (λ p. sent p CONNECTION) past
