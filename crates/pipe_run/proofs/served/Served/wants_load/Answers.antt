-- The last entry is that of the newest item.
use Rattle.std.proofs.Common.{ap, ◌∙◌}
use Rattle.authority_model.specs.Lists.{any_of}
use Rattle.pipe_run.specs.Answered.{Service}
use Rattle.pipe_run.specs.Handed.{is_load_wanted, newest_wants_load}
use Rattle.pipe_run.proofs.Newest.{newest_at, newest_wants}
use Rattle.pipe_run.proofs.served.Served.wants_load.Goals as goal

pub returns-in-Some : goal.returns-in-Some
returns-in-Some c =
    let newest = newest_at c.self.inside.authority.history c.in-Some.entry.now c.as_slice.result.now (c.as_slice.ensures.items ∙ ap (λ h. h.entries) c.history.ensures.same) c.in-Some.ensures.value in
    record {
      exact = newest_wants c.self.inside.authority.history c.in-Some.entry.now c.wants_load.result newest (c.wants_load.ensures.exact ∙ ap (any_of (λ o. is_load_wanted o.message)) c.as_slice-in-Some.ensures.items)
          ∙ ap (λ (s : Service). newest_wants_load s.past) c.self.view_is;
    }
