use Rattle.std.proofs.Common.{◌≡◌, ◌∙◌, Bool, ◌&&◌, ap, rules}
use Rattle.std.specs.Prelude.{◌==◌, not, if◌then◌else◌}
use Rattle.authority_model.specs.Items.{is_load}
use Rattle.journal_scan.specs.Loading.{ends_load, is_failed_load}
use Rattle.journal_scan.proofs.NextLoads.{byte_is, loading_more}
use Rattle.journal_scan.proofs.loading.Loading.after.Goals as goal

pub returns : goal.returns
returns c = record {
  after = (λ past i same is.
      let e = c.args.entry.now in
      let load : c.from-load.result ≡ (if is_load e.event then 1 else 0) = c.from-load.ensures ∙ (byte_is c.is_load.result ∙ ap (λ (b : Bool). if b then 1 else 0) c.is_load.ensures.load) in
      let unlisting : c.from-unlisting.result ≡ (if is_load e.event && not (e.caller == 0) then 1 else 0) = c.from-unlisting.ensures ∙ (byte_is c.is_unlisting.result ∙ ap (λ (b : Bool). if b then 1 else 0) c.is_unlisting.ensures.unlisting) in
      let failed : c.from-failed.result ≡ (if is_failed_load e.event then 1 else 0) = c.from-failed.ensures ∙ (byte_is c.is_failed_load.result ∙ ap (λ (b : Bool). if b then 1 else 0) c.is_failed_load.ensures.failed) in
      let ends : c.from-ended.result ≡ (if ends_load e.event && (e.caller == 0) then 1 else 0) = c.from-ended.ensures ∙ (byte_is c.ends_wanted.result ∙ ap (λ (b : Bool). if b then 1 else 0) c.ends_wanted.ensures.ends) in
      loading_more c.args.self.now past i e c.from-load.result c.from-unlisting.result c.from-failed.result c.from-ended.result c.wanted_by-wanted.result c.due_of-due.result _ same is load unlisting failed ends (c.wanted_by-wanted.ensures.wanted i same) c.due_of-due.ensures.due (search rules)
      _ _ _ _ _ _ _ (search rules) (search rules) (search rules) (search rules) (search rules) (search rules) (search rules));
}
