use Rattle.std.proofs.Common.{◌≡◌, ◌∙◌, ◌&&◌, ap, sym, rules, true}
use Rattle.std.specs.Prelude.{◌==◌, not}
use Rattle.authority_model.specs.Items.{is_load}
use Rattle.authority_model.specs.declared.journal.Entry.{Entry}
use Rattle.journal_scan.specs.declared.loading.Loading.{Loading}
use Rattle.journal_scan.proofs.Pairs.{sighting_is}
use Rattle.journal_scan.proofs.loading.Loading.is_sighting.Goals as goal

pub returns-in-Some-Some : goal.returns-in-Some-Some
returns-in-Some-Some c = record {
  sighting = (λ yes past i same is pairs.
      let e = c.args.entry.now in
      let unlisting : (is_load e.event && not (e.caller == 0)) ≡ true = sym c.is_unlisting.ensures.unlisting ∙ c.if-not-is_unlisting.false in
      sighting_is c.args.loads.now past i c.args.self.now.loads c.in-Some.last (not (i.entry.caller == 0)) c.in-Some-Some.before.now c.in-Some-Some.after.now pairs
      (ap (λ (x : Entry). is_load x.event && not (x.caller == 0)) same ∙ unlisting)
      (ap (λ (x : Loading). x.loads) is)
      (search rules) c.in-Some-Some.ensures.load c.in-Some-Some.ensures'.load (c.lacks_one.ensures.lacks yes));
}
