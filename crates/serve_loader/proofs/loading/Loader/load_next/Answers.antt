use Rattle.std.proofs.Common.{◌∙◌, List, sym, subst}
use Rattle.authority_model.specs.declared.message.Output.{Output}
use Rattle.serve_loader.specs.Loads.{IsLoad, LoadsTo}
use Rattle.serve_loader.specs.Turns.{told_by}
use Rattle.serve_loader.proofs.Going.{loads_collect, loads_ended, on_none, on_some}
use Rattle.serve_loader.proofs.loading.Loader.load_next.Goals as goal

pub returns-in-Ok-clause-goes_on : goal.returns-in-Ok-clause-goes_on
returns-in-Ok-clause-goes_on g c = on_none c.load_for.result (λ on v from le loads.
    let P = IsLoad (g.F.Tree.told c.args.tree.now) c.args.self.now.root.now from (g.F.Tree.faults c.args.tree.now) in
    on v from le (subst (λ (o : List Output). LoadsTo P v c.collect_next.new.pass (told_by o)) (sym c.as_slice.ensures.items)
    (loads_collect P v c.args.pass.now c.collect_next.new.pass c.in-Ok.outputs (sym loads.number ∙ c.requires.zero) loads c.in-Ok.ensures.ok))) c.load_for.ensures.goes_on

pub returns-in-Ok-clause-ends : goal.returns-in-Ok-clause-ends
returns-in-Ok-clause-ends g c = on_some c.load_for.result (λ end ends v from le loads.
    let P = IsLoad (g.F.Tree.told c.args.tree.now) c.args.self.now.root.now from (g.F.Tree.faults c.args.tree.now) in
    ends v from le (subst (λ (o : List Output). LoadsTo P v c.collect_next.new.pass (told_by o)) (sym c.as_slice.ensures.items)
    (loads_collect P v c.args.pass.now c.collect_next.new.pass c.in-Ok.outputs (sym loads.number ∙ c.requires.zero) loads c.in-Ok.ensures.ok))) c.load_for.ensures.ends

pub returns-in-Err-clause-ends : goal.returns-in-Err-clause-ends
returns-in-Err-clause-ends g c = λ v from le loads.
    let P = IsLoad (g.F.Tree.told c.args.tree.now) c.args.self.now.root.now from (g.F.Tree.faults c.args.tree.now) in
    loads_ended g.L.LimitsName.limits P v c.args.pass.now c.collect_next.new.pass _ c.in-Err.cause (sym loads.number ∙ c.requires.zero) loads c.in-Err.ensures.err
