-- Why the next bytes may go.
use Rattle.std.proofs.Common.{◌≡◌, ℕ, suc, false, List, ◌++◌, Option, subst}
use Rattle.authority_core.specs.declared.collecting.Batch.{Batch}
use Rattle.authority_laws.proofs.Tracing.{access}
use Rattle.authority_laws.specs.Batches.{collect_given}
use Rattle.authority_messages.specs.Texts.{texts}
use Rattle.authority_model.specs.declared.journal.Item.{Item}
use Rattle.authority_model.specs.declared.journal.Limits.{Limits}
use Rattle.connection_laws.proofs.Doing.{did_entered}
use Rattle.connection_laws.proofs.Growing.{knows_entered, knows_trans}
use Rattle.history_lock.specs.Known.{Known}
use Rattle.pk_outside.proofs.Going.{MayGo-more, fronts_begin, fronts_more, fronts_rest, may_go_whole}
use Rattle.pk_outside.specs.Allowing.{MayFronts, MayGo}
use Rattle.pk_outside.specs.Streams.{Got, GotUpTo}
use Rattle.shared_authority.specs.Journals.{past_of}
use Rattle.shared_authority.specs.Passes.{TookBatch}
use Rattle.connection_writer.proofs.Writes.{batch_more, took_own}
use Rattle.connection_writer.proofs.Written.{behind_part}
use Rattle.connection_writer.specs.declared.ends.WriterEnd.{WriterEnd}
use Rattle.connection_writer.specs.Promises.{Began, MayAnswer}
use Rattle.connection_writer.specs.Writing.{StandsAt, Writing, collects_of, taken_texts}

-- what is ready may go, where all up to it may
pub ready_may : (Allowed : List ℕ → Type 0) (a b : Option (List ℕ)) (bytes ready : List ℕ) → MayFronts Allowed a bytes → GotUpTo a b bytes ready → MayGo Allowed b ready
ready_may Allowed a b bytes ready may got = MayGo-more Allowed a b got.0 ready (subst (MayGo Allowed a) got.1 (may_go_whole Allowed a bytes may)) got.2

-- one message more may go behind what is ready
pub message_may : (Allowed : List ℕ → Type 0) (a b : Option (List ℕ)) (before done text rest whole ready : List ℕ) → whole ≡ (done ++ text) ++ rest → MayFronts Allowed a (before ++ whole) → GotUpTo a b (before ++ done) ready
    → MayFronts Allowed b (ready ++ text)
message_may Allowed a b before done text rest whole ready is may got =
    fronts_rest Allowed a b (before ++ done) ready text (fronts_begin Allowed a ((before ++ done) ++ text) rest (subst (MayFronts Allowed a) (behind_part before done text rest whole is) may)) got

-- the messages of a batch that was collected may go
pub batch_may : (Allowed : List ℕ → Type 0) (a b : Option (List ℕ)) (n : ℕ) (v w w' : Known Item) (batch : Batch) → MayAnswer Allowed a v.number n → Writing false (Got a b) n v w → TookBatch w n batch w'
    → MayFronts Allowed b (texts batch.loads batch.from batch.outputs)
batch_may Allowed a b n v w w' batch may s t =
    let own = took_own n v w w' batch s.knows.number t in
    let knows = knows_trans v w w' s.knows (knows_entered w (collect_given v.number n) w' own.0) in
    let did = did_entered v.number w (collect_given v.number n) w' (collects_of v.number n s.collects) s.knows.number own.0 s.did in
    fronts_more Allowed a b (taken_texts (past_of w.history) v.number n) (texts batch.loads batch.from batch.outputs)
    (subst (MayFronts Allowed a) (batch_more (Got a b) n v w w' batch s own.0 own.1)
    (may w'.history (suc s.collects) knows.journal (access (past_of w'.history) knows.journal.history) did)) s.wrote

-- what stands later since the same beginning
pub began_on : (limits : Limits) (Allowed : List ℕ → Type 0) (n : ℕ) (held held' : Option (List ℕ)) (faults faults' : ℕ) (w w' : Known Item) (end end' : Option WriterEnd) → Began limits Allowed n held faults w end
    → ((v : Known Item) (first : Option (List ℕ)) (count : ℕ) → StandsAt limits n first count v held faults w end → StandsAt limits n first count v held' faults' w' end') → Began limits Allowed n held' faults' w' end'
began_on limits Allowed n held held' faults faults' w w' end end' b on = record {
  held_first = b.held_first;
  faults_first = b.faults_first;
  pass_first = b.pass_first;
  may = b.may;
  stands = on b.pass_first b.held_first b.faults_first b.stands;
}
