use Rattle.authority_laws.proofs.RisingLists.{live_back, live_forth, live_rises}
use Rattle.authority_laws.proofs.rising.live_connections_listed.Goals as goal

pub returns : goal.returns
returns c = record { listed = λ past c. (live_back past c, live_forth past c); rising = live_rises }
