-- The desk made the entry, and its item comes last.
use Rattle.std.proofs.Common.{◌<◌, refl, sym, subst}
use Rattle.authority_model.specs.Given.{event_given}
use Rattle.journal_segments.specs.declared.segmented.TheConstants.{MAX_ENTRIES}
use Rattle.journal_segments.specs.Segments.{Segments}
use Rattle.journal_segments.proofs.Entries.{added_is, event_so}
use Rattle.journal_segments.proofs.segmented.Segmented.enter.Goals as goal

pub invariant_of-self-in-Ok : goal.invariant_of-self-in-Ok
invariant_of-self-in-Ok c =
    let inside : Segments = record { per = c.self.inside.per; written = c.self.inside.written; items = c.self.inside.segment.items; desk = c.self.inside.desk.value } in
    let new : Segments = record { per = c.self.inside.per; written = c.self.inside.written; items = c.push.new.self.items; desk = c.step.new.self } in
    added_is (event_given c.args.caller c.args.moment c.args.salt c.args.event) inside new c.self.invariant
    (event_so c.args.caller c.args.moment c.args.salt c.args.event inside new inside c.as_mut.result.now c.in-Ok.entry c.reserve.new.self.items refl c.as_mut.ensures.value c.requires.event c.requires.moment
    c.in-Ok.ensures.entry c.in-Ok.ensures.stands refl refl c.reserve.ensures.items c.push.ensures.items c.self.invariant.done c.self.invariant.is)
    (subst (λ (s : Segments). s.desk.peers.entries < MAX_ENTRIES) (sym c.self.view_is) c.requires.few)

pub returns-in-Ok-clause-entered : goal.returns-in-Ok-clause-entered
returns-in-Ok-clause-entered c done is =
    let inside : Segments = record { per = c.self.inside.per; written = c.self.inside.written; items = c.self.inside.segment.items; desk = c.self.inside.desk.value } in
    let new : Segments = record { per = c.self.inside.per; written = c.self.inside.written; items = c.push.new.self.items; desk = c.step.new.self } in
    event_so c.args.caller c.args.moment c.args.salt c.args.event c.args.self.now new inside c.as_mut.result.now c.in-Ok.entry c.reserve.new.self.items c.self.view_is c.as_mut.ensures.value c.requires.event c.requires.moment
    c.in-Ok.ensures.entry c.in-Ok.ensures.stands refl refl c.reserve.ensures.items c.push.ensures.items done is
