use Rattle.std.proofs.Common.{◌∙◌, ℕ, Bool, refl, sym, subst}
use Rattle.serve_loader.specs.Loads.{IsLoad, LoadsTo}
use Rattle.serve_loader.specs.Wanted.{wants_stop}
use Rattle.serve_loader.proofs.loading.Loader.load_for.Goals as goal

pub returns-then-stop-clause-ends : goal.returns-then-stop-clause-ends
returns-then-stop-clause-ends g c = λ v from le loads.
    let stop = wants_stop c.args.outputs.now in
    let told = g.F.Tree.told c.args.tree.now in
    let before = g.F.Tree.faults c.args.tree.now in
    record {
      standing = record { owed = 0; stop = stop };
      loads = c.in-Ok.ensures.loads v from stop le (subst (λ (n : ℕ). LoadsTo (IsLoad told c.args.self.now.root.now from before) v c.args.pass.now (record { owed = n; stop = stop })) (sym c.wanted_in-count.ensures.wanted) loads);
      ends = (refl, sym c.wants_stop-stop.ensures.wanted ∙ c.if-stop.true);
    }

pub returns-else-stop-clause-goes_on : goal.returns-else-stop-clause-goes_on
returns-else-stop-clause-goes_on g c = λ v from le loads.
    let stop = wants_stop c.args.outputs.now in
    let told = g.F.Tree.told c.args.tree.now in
    let before = g.F.Tree.faults c.args.tree.now in
    let now = g.F.Tree.faults c.load_times.new.tree in
    subst (λ (b : Bool). LoadsTo (IsLoad told c.args.self.now.root.now from now) v c.load_times.new.pass (record { owed = 0; stop = b })) (sym c.wants_stop-stop.ensures.wanted ∙ c.if-stop.false)
    (c.in-Ok.ensures.loads v from stop le (subst (λ (n : ℕ). LoadsTo (IsLoad told c.args.self.now.root.now from before) v c.args.pass.now (record { owed = n; stop = stop })) (sym c.wanted_in-count.ensures.wanted) loads))

pub returns-in-Err-clause-ends : goal.returns-in-Err-clause-ends
returns-in-Err-clause-ends g c = λ v from le loads.
    let stop = wants_stop c.args.outputs.now in
    let told = g.F.Tree.told c.args.tree.now in
    let before = g.F.Tree.faults c.args.tree.now in
    c.in-Err.ensures.loads v from stop le (subst (λ (n : ℕ). LoadsTo (IsLoad told c.args.self.now.root.now from before) v c.args.pass.now (record { owed = n; stop = stop })) (sym c.wanted_in-count.ensures.wanted) loads)
