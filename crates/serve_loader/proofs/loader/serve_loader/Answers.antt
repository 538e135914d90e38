use Rattle.std.proofs.Common.{◌∙◌, Option, refl, sym, subst, arith}
use Rattle.pk_outside.specs.Trees.{TreeTold}
use Rattle.serve_loader.specs.Loads.{IsLoad, LoadsEnd, LoadsTo}
use Rattle.serve_loader.specs.Turns.{idle}
use Rattle.serve_loader.proofs.Going.{loads_start}
use Rattle.serve_loader.proofs.loader.serve_loader.Goals as goal

pub loop-turn-init : goal.loop-turn-init
loop-turn-init g c = record {
  loads = loads_start (IsLoad (g.F.Tree.told c.args.tree.now) c.args.root.now (g.F.Tree.faults c.args.tree.now) (g.F.Tree.faults c.args.tree.now)) c.args.pass.now c.requires.fresh;
  same = refl;
  later = omega arith;
  zero = c.requires.zero;
  fresh = c.requires.fresh;
}

pub loop-turn-preserved : goal.loop-turn-preserved
loop-turn-preserved g c =
    let i = c.loop-turn.invariant in
    let root = c.args.root.now in
    let start = c.args.pass.now in
    let from = g.F.Tree.faults c.args.tree.now in
    let had : LoadsTo (IsLoad (g.F.Tree.told c.loop-turn.tree) root from (g.F.Tree.faults c.loop-turn.tree)) start c.loop-turn.pass idle =
    subst (λ (t : Option TreeTold). LoadsTo (IsLoad t root from (g.F.Tree.faults c.loop-turn.tree)) start c.loop-turn.pass idle) (sym i.same) i.loads in
    let more : LoadsTo (IsLoad (g.F.Tree.told c.args.tree.now) root from (g.F.Tree.faults c.load_next.new.tree)) start c.load_next.new.pass idle =
    subst (λ (t : Option TreeTold). LoadsTo (IsLoad t root from (g.F.Tree.faults c.load_next.new.tree)) start c.load_next.new.pass idle) i.same (c.in-None-load_next.ensures.goes_on start from i.later had) in
    record {
      loads = more;
      same = c.load_next.ensures.same ∙ i.same;
      later = (let a = i.later in let b = c.load_next.ensures.later in omega (arith, a, b));
      zero = more.number ∙ c.requires.zero;
      fresh = more.unconnected;
    }

pub returns-in-Some-load_next-clause-loads : goal.returns-in-Some-load_next-clause-loads
returns-in-Some-load_next-clause-loads g c =
    let i = c.loop-turn.invariant in
    let now = g.F.Tree.faults c.load_next.new.tree in
    let from = g.F.Tree.faults c.args.tree.now in
    let had : LoadsTo (IsLoad (g.F.Tree.told c.loop-turn.tree) c.args.root.now from (g.F.Tree.faults c.loop-turn.tree)) c.args.pass.now c.loop-turn.pass idle =
    subst (λ (t : Option TreeTold). LoadsTo (IsLoad t c.args.root.now from (g.F.Tree.faults c.loop-turn.tree)) c.args.pass.now c.loop-turn.pass idle) (sym i.same) i.loads in
    subst (λ (t : Option TreeTold). LoadsEnd g.L.LimitsName.limits (IsLoad t c.args.root.now from now) c.args.pass.now c.load_next.new.pass c.in-Some-load_next.end) i.same
    (c.in-Some-load_next.ensures.ends c.args.pass.now from i.later had)

pub returns-in-Some-load_next-clause-number : goal.returns-in-Some-load_next-clause-number
returns-in-Some-load_next-clause-number g c = (returns-in-Some-load_next-clause-loads g c).loads.number

pub returns-in-Some-load_next-clause-grows : goal.returns-in-Some-load_next-clause-grows
returns-in-Some-load_next-clause-grows g c = (returns-in-Some-load_next-clause-loads g c).loads.begins
