use Rattle.authority_desk.proofs.view.DeskView.start.Goals as goal

pub returns-clause-empty : goal.returns-clause-empty
returns-clause-empty c =
    let t = c.in_ok-new.ensures.empty in
    record {
      peers_are = t.peers_are;
      agents_are = t.agents_are;
      grants_are = t.grants_are;
      challenges_are = t.challenges_are;
      loaded_is = c.empty.ensures.empty;
      numbers_are = c.start.ensures.empty;
    }
