use Rattle.std.proofs.Common.{ap, ◌∙◌, sym, subst}
use Rattle.std.proofs.lemmas.Result.{IfOk-weaker}
use Rattle.authority_model.specs.declared.load.Loaded.{Loaded}
use Rattle.authority_model.specs.Given.{load_given, next}
use Rattle.authority_desk.specs.Seen.{IsDeskFor, desk_seen}
use Rattle.authority_desk.proofs.Stepping.{load_next}
use Rattle.authority_desk.proofs.desk.Desk.load.Goals as goal

pub append_load-requires-clause-next : goal.append_load-requires-clause-next
append_load-requires-clause-next c =
    let one = c.self.invariant.1 in
    record {
      past = one.past;
      item = next one.past (load_given c.args.caller c.args.moment c.args.loaded);
      next = load_next (desk_seen c.self.inside.lookups) c.args.self.now c.self.view_is c.args.caller c.args.moment c.moment_at-moment.result c.moment_at-moment.ensures.later c.requires.moment c.in-Ok-answer_load.answered.outputs c.in-Ok-answer_load.answered.change
          c.args.loaded c.in-Ok.indexed c.in-Ok.ensures.book c.loaded.result.now.world (ap (λ (l : Loaded). l.world) c.loaded.ensures.loaded) c.in-Some.load c.in-Some.ensures.number c.in-Ok-answer_load.ensures.outputs c.in-Ok-answer_load.ensures.change
          one.past one.legal (subst (IsDeskFor one.past) c.self.view_is one.is);
    }

pub returns-clause-entry : goal.returns-clause-entry
returns-clause-entry c = λ past legal is.
    let item = load_next (desk_seen c.self.inside.lookups) c.args.self.now c.self.view_is c.args.caller c.args.moment c.moment_at-moment.result c.moment_at-moment.ensures.later c.requires.moment c.in-Ok-answer_load.answered.outputs c.in-Ok-answer_load.answered.change
    c.args.loaded c.in-Ok.indexed c.in-Ok.ensures.book c.loaded.result.now.world (ap (λ (l : Loaded). l.world) c.loaded.ensures.loaded) c.in-Some.load c.in-Some.ensures.number c.in-Ok-answer_load.ensures.outputs c.in-Ok-answer_load.ensures.change
    past legal is in
    IfOk-weaker c.append_load.result _ _ (λ e h. h ∙ sym item.entry_is) c.append_load.ensures.entry

pub returns-clause-stands : goal.returns-clause-stands
returns-clause-stands c = λ past legal is.
    c.append_load.ensures.stands past (next past (load_given c.args.caller c.args.moment c.args.loaded))
    (load_next (desk_seen c.self.inside.lookups) c.args.self.now c.self.view_is c.args.caller c.args.moment c.moment_at-moment.result c.moment_at-moment.ensures.later c.requires.moment c.in-Ok-answer_load.answered.outputs c.in-Ok-answer_load.answered.change
    c.args.loaded c.in-Ok.indexed c.in-Ok.ensures.book c.loaded.result.now.world (ap (λ (l : Loaded). l.world) c.loaded.ensures.loaded) c.in-Some.load c.in-Some.ensures.number c.in-Ok-answer_load.ensures.outputs c.in-Ok-answer_load.ensures.change
    past legal is)
