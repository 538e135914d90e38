use Rattle.std.proofs.Common.{◌≡◌, ◌≤◌, ◌+◌, ◌-◌, ◌∙◌, ℕ, Option, sym, subst, arith}
use Rattle.pk_outside.specs.Trees.{TreeTold}
use Rattle.serve_loader.specs.declared.ends.LoaderEnd.TheVariants.{Ended}
use Rattle.serve_loader.specs.Loads.{IsLoad, LoadsEnd, LoadsTo}
use Rattle.serve_loader.proofs.loading.Loader.load_times.Goals as goal

pub loop-left-preserved : goal.loop-left-preserved
loop-left-preserved g c =
    let i = c.loop-left.invariant in
    let told = g.F.Tree.told in
    let faults = g.F.Tree.faults in
    let root = c.args.self.now.root.now in
    record {
      loads = (λ v from stop le start.
          let had = i.loads v from stop le start in
          let far : from ≤ faults c.loop-left.tree = omega (arith, le, i.later) in
          let one : (c.loop-left.left - 1) + 1 ≡ c.loop-left.left = omega arith in
          let here : LoadsTo (IsLoad (told c.loop-left.tree) root from (faults c.loop-left.tree)) v c.loop-left.pass (record { owed = (c.loop-left.left - 1) + 1; stop = stop }) =
          subst (λ (n : ℕ). LoadsTo (IsLoad (told c.loop-left.tree) root from (faults c.loop-left.tree)) v c.loop-left.pass (record { owed = n; stop = stop })) (sym one)
          (subst (λ (t : Option TreeTold). LoadsTo (IsLoad t root from (faults c.loop-left.tree)) v c.loop-left.pass (record { owed = c.loop-left.left; stop = stop })) (sym i.same) had) in
          subst (λ (t : Option TreeTold). LoadsTo (IsLoad t root from (faults c.load_again.new.tree)) v c.load_again.new.pass (record { owed = c.loop-left.left - 1; stop = stop })) i.same
          (c.in-Ok.ensures.loads v from (c.loop-left.left - 1) stop far here));
      same = c.load_again.ensures.same ∙ i.same;
      later = (let a = i.later in let b = c.load_again.ensures.later in omega (arith, a, b));
      number = c.load_again.ensures.number ∙ i.number;
    }

pub returns-in-Err-clause-loads : goal.returns-in-Err-clause-loads
returns-in-Err-clause-loads g c =
    let i = c.loop-left.invariant in
    let told = g.F.Tree.told in
    let faults = g.F.Tree.faults in
    let root = c.args.self.now.root.now in
    λ v from stop le start.
    let had = i.loads v from stop le start in
    let far : from ≤ faults c.loop-left.tree = omega (arith, le, i.later) in
    let one : (c.loop-left.left - 1) + 1 ≡ c.loop-left.left = omega arith in
    let here : LoadsTo (IsLoad (told c.loop-left.tree) root from (faults c.loop-left.tree)) v c.loop-left.pass (record { owed = (c.loop-left.left - 1) + 1; stop = stop }) =
    subst (λ (n : ℕ). LoadsTo (IsLoad (told c.loop-left.tree) root from (faults c.loop-left.tree)) v c.loop-left.pass (record { owed = n; stop = stop })) (sym one)
    (subst (λ (t : Option TreeTold). LoadsTo (IsLoad t root from (faults c.loop-left.tree)) v c.loop-left.pass (record { owed = c.loop-left.left; stop = stop })) (sym i.same) had) in
    subst (λ (t : Option TreeTold). LoadsEnd g.L.LimitsName.limits (IsLoad t root from (faults c.load_again.new.tree)) v c.load_again.new.pass (Ended c.in-Err.cause)) i.same
    (c.in-Err.ensures.loads v from (c.loop-left.left - 1) stop far here)
