-- The desk made the entry of the load, and its item comes last, with the load.
use Rattle.std.proofs.Common.{◌<◌, refl, sym, subst}
use Rattle.authority_model.specs.Given.{load_given}
use Rattle.journal_segments.specs.declared.segmented.TheConstants.{MAX_ENTRIES}
use Rattle.journal_segments.specs.Segments.{Segments}
use Rattle.journal_segments.proofs.Entries.{added_is, load_so}
use Rattle.journal_segments.proofs.segmented.Segmented.enter_load.Goals as goal

pub invariant_of-self-in-Ok : goal.invariant_of-self-in-Ok
invariant_of-self-in-Ok c =
    let inside : Segments = record { per = c.self.inside.per; written = c.self.inside.written; items = c.self.inside.segment.items; desk = c.self.inside.desk.value } in
    let new : Segments = record { per = c.self.inside.per; written = c.self.inside.written; items = c.push.new.self.items; desk = c.load.new.self } in
    added_is (load_given c.args.caller c.args.moment c.args.loaded) inside new c.self.invariant
    (load_so c.args.caller c.args.moment c.args.loaded c.in_ok-copy.copy inside new inside c.as_mut.result.now c.in-Ok.entry c.reserve.new.self.items refl c.as_mut.ensures.value c.in_ok-copy.ensures.copy c.requires.moment
    c.in-Ok.ensures.entry c.in-Ok.ensures.stands refl refl c.reserve.ensures.items c.push.ensures.items c.self.invariant.done c.self.invariant.is)
    (subst (λ (s : Segments). s.desk.peers.entries < MAX_ENTRIES) (sym c.self.view_is) c.requires.few)

pub returns-in-Ok-clause-entered : goal.returns-in-Ok-clause-entered
returns-in-Ok-clause-entered c done is =
    let inside : Segments = record { per = c.self.inside.per; written = c.self.inside.written; items = c.self.inside.segment.items; desk = c.self.inside.desk.value } in
    let new : Segments = record { per = c.self.inside.per; written = c.self.inside.written; items = c.push.new.self.items; desk = c.load.new.self } in
    load_so c.args.caller c.args.moment c.args.loaded c.in_ok-copy.copy c.args.self.now new inside c.as_mut.result.now c.in-Ok.entry c.reserve.new.self.items c.self.view_is c.as_mut.ensures.value c.in_ok-copy.ensures.copy c.requires.moment
    c.in-Ok.ensures.entry c.in-Ok.ensures.stands refl refl c.reserve.ensures.items c.push.ensures.items done is
