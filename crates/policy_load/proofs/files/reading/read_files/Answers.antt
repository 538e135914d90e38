-- One more file is counted, and kept where all of them are within their limit.
use Rattle.std.proofs.Common.{◌≡◌, ◌≤◌, ◌∷◌, sym, ◌∙◌, arith, rules}
use Rattle.policy_load.proofs.Bounds.{counted, kept_files}
use Rattle.policy_load.proofs.files.reading.read_files.Goals as goal

pub loop-turn-preserved : goal.loop-turn-preserved
loop-turn-preserved g c =
    let step : c.loop-turn.turn-iterator.rest.items ≡ c.in-Some.turn ∷ c.next.new.self.rest.items = search rules in
    let before = c.loop-turn.invariant in
    let same : g.T.Tree.told c.read_turn.new.tree ≡ g.T.Tree.told c.loop-turn.tree = c.in_ok-bytes.ensures.same in
    record {
      bytes = λ told e.
          counted told c.loop-turn.total c.size_of.result c.saturating_add-total.result c.in_ok-bytes.bytes c.in-Some.turn _ _ _ step
          (before.bytes told (sym same ∙ e)) before.few (c.in_ok-bytes.ensures.bytes told (sym same ∙ e)) c.size_of.ensures.size c.saturating_add-total.ensures;
      files = λ told e le.
          let within : c.loop-turn.total ≤ 8388608 = omega (arith, le, c.saturating_add-total.ensures) in
          kept_files told c.in-Some.turn c.in_ok-bytes.bytes c.loop-turn.files.items c.in_ok-files.files.items _ _ _ step
          (before.files told (sym same ∙ e) within) (c.in_ok-bytes.ensures.bytes told (sym same ∙ e)) (c.in_ok-files.ensures.kept le);
      few = before.few;
      same = same ∙ before.same;
      later = omega (arith, before.later, c.in_ok-bytes.ensures.cause.later);
    }
