use Rattle.std.proofs.Common.{List, ap, ◌+◌, ◌∙◌}
use Rattle.std.proofs.lemmas.Result.{on_ok_weaker}
use Rattle.authority_model.specs.declared.message.Output.{Output}
use Rattle.authority_model.specs.Items.{count_to}
use Rattle.plain_view.specs.Plain.{count_among}
use Rattle.plain_lists.proofs.Carrying.{lists_next, live_rise}
use Rattle.plain_lists.proofs.lists.PlainLists.carry.Goals as goal

pub carry_peers-requires : goal.carry_peers-requires
carry_peers-requires c = record { rising = live_rise c.args.entry.now c.args.world.now c.args.change c.args.self.now c.requires.next }

pub returns : goal.returns
returns c = record {
  stands = λ past i next.
      on_ok_weaker c.carry_challenges.result
      (λ challenges. lists_next c.args.entry.now c.args.world.now c.args.change c.args.self.now past i next c.in_ok-carry_counts.ensures.short _
      c.in_ok-carry_peers.ensures.rows c.in_ok-carry_peers.ensures.live
      (λ q. c.in_ok-carry_sent.ensures.counted q ∙ ap (λ (os : List Output). count_among c.args.self.now.sent.items q + count_to q os) c.as_slice.ensures.items)
      c.in_ok-carry_agents.ensures.items c.in_ok-carry_grants.ensures.items challenges c.in_ok-carry_counts.ensures.counts)
      c.carry_challenges.ensures.items;
}
