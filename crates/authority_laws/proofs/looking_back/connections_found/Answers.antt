use Rattle.authority_laws.proofs.PeersBack.{uid_back, uid_forth, live_back, live_forth, announced_back, announced_forth}
use Rattle.authority_laws.proofs.looking_back.connections_found.Goals as goal

pub returns : goal.returns
returns c = record {
  user = λ past c uid. (uid_back past c uid, uid_forth past c uid);
  life = λ past c. (live_back past c, live_forth past c);
  process = λ past c p. (announced_back past c p, announced_forth past c p);
}
