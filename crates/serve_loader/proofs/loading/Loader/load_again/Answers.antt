use Rattle.std.proofs.Common.{◌≤◌, ◌+◌, ◌∙◌, ℕ, suc, sym, subst, add-one, arith}
use Rattle.serve_loader.specs.Loads.{GoesOn, IsLoad, LoadsTo}
use Rattle.serve_loader.proofs.Going.{goes_on, load_until, loads_to}
use Rattle.serve_loader.proofs.loading.Loader.load_again.Goals as goal

pub returns-clause-loads : goal.returns-clause-loads
returns-clause-loads g c = λ v from count stop le loads.
    let told = g.F.Tree.told c.args.tree.now in
    let root = c.args.self.now.root.now in
    let before = g.F.Tree.faults c.args.tree.now in
    let now = g.F.Tree.faults c.load_beside-gave.new.tree in
    let later : before ≤ now = c.load_beside-gave.ensures.later in
    let gave = c.load_beside-gave.result in
    let this : IsLoad told root from now gave = record {
      due = c.load_beside-gave.ensures.load;
      before = before;
      now = now;
      begins = le;
      cause = record { later = later; fault = c.load_beside-gave.ensures.fault };
      ends = omega arith;
    } in
    let more = loads_to (IsLoad told root from before) (IsLoad told root from now) v c.args.pass.now (record { owed = count + 1; stop = stop }) (load_until told root from before now later) loads in
    let left : LoadsTo (IsLoad told root from now) v c.args.pass.now (record { owed = suc count; stop = stop }) = rw add-one at more in
    subst (λ (n : ℕ). GoesOn g.L.LimitsName.limits (IsLoad told root from n) v (record { owed = count; stop = stop }) c.submit_loading.new.pass c.submit_loading.result) (sym c.tell_tree.ensures.count)
    (goes_on g.L.LimitsName.limits (IsLoad told root from now) v c.args.pass.now c.submit_loading.new.pass gave count stop c.submit_loading.result (sym loads.number ∙ c.requires.zero) left this c.submit_loading.ensures.ok c.submit_loading.ensures.err)
