use Rattle.std.proofs.Common.{◌≡◌, ◌∙◌, ap, refl, sym, rules}
use Rattle.authority_model.specs.declared.journal.Entry.{Entry}
use Rattle.journal_scan.specs.declared.callers.Place.{Place}
use Rattle.journal_scan.specs.Standing.{place_of, stage_after, stage_of}
use Rattle.journal_scan.proofs.Staging.{places_more}
use Rattle.journal_scan.proofs.callers.Callers.enter.Goals as goal

pub returns : goal.returns
returns c = record {
  belongs = (λ yes size lines past i same sights table.
      let rows = c.args.self.now.places.items in
      let n = c.args.entry.now.caller in
      let caller = ap (λ (e : Entry). e.caller) same in
      let event = ap (λ (e : Entry). e.event) same in
      let old = c.index-place.result.now in
      let old_is : old ≡ place_of lines past n = c.index-place.ensures ∙ table.each n old (search rules) in
      let after = c.after.ensures.stage ∙ (ap (λ (p : Place). stage_after p.stage c.args.entry.now.event) old_is ∙ ap (stage_after (stage_of past n)) (sym event)) in (
        search rules,
        c.if-not-admits.ensures.belongs refl lines past i caller event sights old_is,
        places_more size lines past i n rows c.index_mut.result.now c.after.result caller table (search rules) c.index_mut.ensures.value after,
      ));
}
