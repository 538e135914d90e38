use Rattle.std.proofs.Common.{◌≡◌, ◌≤◌, None}
use Rattle.authority_model.specs.Peers.{uid_of}
use Rattle.shared_authority.specs.Journals.{past_of}
use Rattle.serve_loader.specs.Loads.{IsLoad, LoadsTo}
use Rattle.serve_loader.specs.Turns.{idle}
use Rattle.serve_loader.proofs.loader.serve_loader.Given as goal

abbrev pub invariant-loop-turn : goal.invariant-loop-turn
invariant-loop-turn g l = record {
  loads : LoadsTo (IsLoad (g.F.Tree.told l.fn.tree) l.root (g.F.Tree.faults l.fn.tree) (g.F.Tree.faults l.tree)) l.fn.pass l.pass idle;
  same : g.F.Tree.told l.tree ≡ g.F.Tree.told l.fn.tree;
  later : g.F.Tree.faults l.fn.tree ≤ g.F.Tree.faults l.tree;
  zero : l.pass.number ≡ 0;
  fresh : uid_of (past_of l.pass.history) 0 ≡ None;
}
