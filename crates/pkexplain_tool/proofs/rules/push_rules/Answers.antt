-- One more rule.
use Rattle.std.proofs.Common.{sym}
use Rattle.pkexplain_tool.proofs.Ruling.{rule_added}
use Rattle.pkexplain_tool.proofs.rules.push_rules.Goals as goal

pub loop-place-preserved : goal.loop-place-preserved
loop-place-preserved c =
    rule_added c.args.loaded.now c.args.firsts.now c.loop-place.place c.in-Some.first.now c.args.text.now.items c.loop-place.text.items c.push_rule.new.text.items
    c.requires.firsts (sym c.in-Some.ensures.item) c.loop-place.invariant c.in_ok-push_rule.ensures.added
