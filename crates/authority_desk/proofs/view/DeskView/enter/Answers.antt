use Rattle.std.proofs.Common.{ap, refl, None}
use Rattle.authority_model.specs.declared.load.Loaded.{Loaded}
use Rattle.authority_desk.specs.Seen.{desk_seen}
use Rattle.authority_desk.proofs.Entering.{desk_next, ready_next}
use Rattle.authority_desk.proofs.view.DeskView.enter.Goals as goal

pub returns-clause-stands : goal.returns-clause-stands
returns-clause-stands c = λ past i next.
    let e = c.args.entry.now in
    let old = desk_seen c.args.self.now in
    let ready = ready_next e None c.args.change old past i next c.stage.new.self c.loaded.result.now.world (ap (λ (l : Loaded). l.world) c.loaded.ensures.loaded) c.stage.ensures.same c.in-Some.ensures.short c.in_ok-stage.ensures.ok in
    desk_next e None c.args.change old past i next (desk_seen (record { tables = c.apply_entry.new.self; loaded = c.args.self.now.loaded; numbers = c.in-Some.numbers })) (c.apply_entry.ensures.stands past i ready) refl c.in-Some.ensures.numbers
