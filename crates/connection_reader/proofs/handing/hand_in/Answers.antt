use Rattle.history_lock.proofs.Growth.{learned_trans}
use Rattle.shared_authority.specs.Journals.{IsJournal, caller_of}
use Rattle.connection_laws.proofs.Refused.{submit_learned}
use Rattle.connection_reader.proofs.handing.hand_in.Goals as goal

pub returns-in-Err : goal.returns-in-Err
returns-in-Err g c = record {
  hands = record {
    moment = c.now-moment.result;
    word = c.word-salt.result;
    reading = c.now-moment.ensures.gave;
    drawn = c.word-salt.ensures.gave;
    enters = record {
      fits = c.end.ensures.fits;
      learned = learned_trans caller_of IsJournal c.args.pass.now c.submit.new.pass c.end.new.pass
          (submit_learned g.L.LimitsName.limits c.args.pass.now c.args.event c.in-Err.refused c.submit.new.pass c.in-Err.ensures.err) c.end.ensures.learned;
      knows = c.end.ensures.knows;
    };
  };
}
