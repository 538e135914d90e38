use Rattle.authority_desk.proofs.Carrying.{agent_is_new, agents_next, challenge_is_new, challenges_next, grant_is_new, grants_next, peers_next}
use Rattle.authority_desk.proofs.tables.Tables.apply_entry.Goals as goal

pub apply_entry-requires-2-clause-fresh : goal.apply_entry-requires-2-clause-fresh
apply_entry-requires-2-clause-fresh c = agent_is_new c.args.entry.now c.args.world.now c.args.self.now c.requires.ready.past c.requires.ready.item c.requires.ready.ready

pub apply_entry-requires-3-clause-fresh : goal.apply_entry-requires-3-clause-fresh
apply_entry-requires-3-clause-fresh c = grant_is_new c.args.entry.now c.args.world.now c.args.self.now c.requires.ready.past c.requires.ready.item c.requires.ready.ready

pub apply_entry-requires-4-clause-fresh : goal.apply_entry-requires-4-clause-fresh
apply_entry-requires-4-clause-fresh c = challenge_is_new c.args.entry.now c.args.world.now c.args.self.now c.requires.ready.past c.requires.ready.item c.requires.ready.ready

pub returns-clause-stands : goal.returns-clause-stands
returns-clause-stands c = λ past i ready.
    let e = c.args.entry.now in
    let world = c.args.world.now in
    let old = c.args.self.now in
    record {
      peers_are = peers_next e world old past i ready c.apply_entry.new.self c.apply_entry.ensures.stands;
      agents_are = agents_next e world old past i ready c.apply_entry-2.new.self.items c.apply_entry-2.ensures.items;
      grants_are = grants_next e world old past i ready c.apply_entry-3.new.self.items c.apply_entry-3.ensures.items;
      challenges_are = challenges_next e world old past i ready c.apply_entry-4.new.self.items c.apply_entry-4.ensures.items;
    }
