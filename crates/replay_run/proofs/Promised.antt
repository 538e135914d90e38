-- What may be written at each step of a run.
use Rattle.std.proofs.Common.{◌≡◌, ◌∙◌, ◌++◌, ◌∷◌, [], ℕ, Bool, true, false, List, Option, ap, sym, refl, subst, append-nil, append_assoc}
use Rattle.pk_outside.specs.Allowing.{MayFronts, MayGo}
use Rattle.pk_outside.specs.Streams.{Got}
use Rattle.pk_outside.proofs.Going.{fronts_begin, fronts_more, may_go_whole}
use Rattle.authority_laws.proofs.Tracing.{access}
use Rattle.authority_model.specs.declared.journal.History.{History}
use Rattle.authority_model.specs.declared.journal.Item.{Item}
use Rattle.authority_model.specs.declared.load.Loaded.{Loaded}
use Rattle.authority_model.specs.declared.message.Output.{Output}
use Rattle.authority_model.specs.Items.{items_of, sent}
use Rattle.authority_model.specs.Legal.{IsLegal, Legal}
use Rattle.audit_text.specs.Audit.{audit_text}
use Rattle.scenario_run.specs.Scene.{Scene}
use Rattle.scenario_run.specs.Text.{IsEntered, counts_after, last_outputs, loads_of, outputs_text, text_of}
use Rattle.scenario_text.specs.Answers.{message_line}
use Rattle.scenario_text.specs.Skipped.{skipped_lines}
use Rattle.replay_run.specs.declared.ends.ReplayEnd.TheVariants as end
use Rattle.replay_run.specs.declared.telling.Telling.{Telling}
use Rattle.replay_run.specs.declared.telling.Telling.TheVariants as telling
use Rattle.replay_run.specs.Counted.{counted}
use Rattle.replay_run.specs.Lines.{IsLineAnswered}
use Rattle.replay_run.specs.Promises.{MayAudit, MayReplayFrom, MayTellLast, MayTellOn}
use Rattle.replay_run.specs.Replay.{Plays}
use Rattle.replay_run.specs.Telling.{HasCounted, tells, told}
use Rattle.replay_run.proofs.Texts.{outputs_text-append}

-- # One entry

-- a line may be written that is the text of one output
pub may_line : (Allowed : List ℕ → Type 0) (held : Option (List ℕ)) (bytes line : List ℕ) → bytes ≡ line → MayFronts Allowed held (line ++ []) → MayGo Allowed held bytes
may_line Allowed held bytes line is may = subst (MayGo Allowed held) (append-nil line ∙ sym is) (may_go_whole Allowed held (line ++ []) may)

-- of outputs the next one may be written, once those before it were
pub may_next : (Allowed : List ℕ → Type 0) (a b : Option (List ℕ)) (loads : List Loaded) (sent counts : ℕ → ℕ) (xs ys zs all : List Output) → all ≡ xs ++ (ys ++ zs)
    → counts ≡ counts_after sent xs → Got a b (outputs_text loads sent xs) → MayFronts Allowed a (outputs_text loads sent all) → MayFronts Allowed b (outputs_text loads counts ys)
may_next Allowed a b loads sent counts xs ys zs all whole e got may =
    fronts_begin Allowed b (outputs_text loads counts ys) (outputs_text loads (counts_after counts ys) zs)
    (subst (MayFronts Allowed b) (outputs_text-append loads counts ys zs)
    (subst (λ (k : ℕ → ℕ). MayFronts Allowed b (outputs_text loads k (ys ++ zs))) (sym e)
    (fronts_more Allowed a b (outputs_text loads sent xs) (outputs_text loads (counts_after sent xs) (ys ++ zs))
    (subst (MayFronts Allowed a) (ap (outputs_text loads sent) whole ∙ outputs_text-append loads sent xs (ys ++ zs)) may) got)))

-- the answers of the newest item may be written, with the counts that are kept
pub may_answers : (Allowed : List ℕ → Type 0) (held : Option (List ℕ)) (past : List Item) (t : Telling) (counts : List (ℕ × ℕ)) (answers : List Output) → t ≡ telling.Answers counts → answers ≡ last_outputs past
    → MayTellLast t Allowed held past → MayFronts Allowed held (outputs_text (loads_of past) (counted counts) answers)
may_answers Allowed held past t counts answers is same may =
    subst (λ (os : List Output). MayFronts Allowed held (outputs_text (loads_of past) (counted counts) os)) (sym same)
    (may (ap tells is) (counted counts) (subst (λ (x : Telling). HasCounted x (counted counts)) (sym is) refl))

-- # One line

-- so many outputs were counted, in one way alone
counted_once : (t : Telling) (a b : ℕ → ℕ) → tells t ≡ true → HasCounted t a → HasCounted t b → a ≡ b
counted_once (telling.Answers counts) a b told has_a has_b = sym has_a ∙ has_b
counted_once telling.Nothing a b told has_a has_b = absurd (cc (told))

-- the newest item was just entered
pub may_last : (Allowed : List ℕ → Type 0) (held : Option (List ℕ)) (t : Telling) (old new : List Item) → IsEntered old new → Legal new → HasCounted t (sent old) → MayTellOn (tells t) Allowed held old → MayTellLast t Allowed held new
may_last Allowed held t old new e legal before may told counts has =
    may told new (outputs_text (loads_of new) counts (last_outputs new)) legal (access new legal)
    (subst (λ (k : ℕ → ℕ). text_of new ≡ text_of old ++ outputs_text (loads_of new) k (last_outputs new)) (counted_once t (sent old) counts told before has)
    (subst (λ (p : List Item). text_of p ≡ text_of old ++ outputs_text (loads_of p) (sent old) (last_outputs p)) (sym e.whole)
    (ap (λ (text : List ℕ). text ++ outputs_text (loads_of (e.item ∷ e.past)) (sent e.past) e.item.entry.outputs) e.text
    ∙ ap (λ (k : ℕ → ℕ). text_of old ++ outputs_text (loads_of (e.item ∷ e.past)) k e.item.entry.outputs) e.counts)))

-- once a line was answered the later ones may be
pub may_line_on : (Allowed : List ℕ → Type 0) (t t' : Bool) (old new : Scene) (line : List ℕ) (before held : Option (List ℕ)) → t' ≡ t → IsLineAnswered t old line new before held → MayTellOn t Allowed before old.past → MayTellOn t' Allowed held new.past
may_line_on Allowed true t' old new line before held same a may is later more legal licensed text =
    fronts_more Allowed before held a.added more
    (may refl later (a.added ++ more) legal licensed (text ∙ ap (λ (x : List ℕ). x ++ more) a.text ∙ append_assoc (text_of old.past) a.added more)) a.written
may_line_on Allowed false t' old new line before held same a may is later more legal licensed text = absurd (cc (is, same))

-- # A run

-- what was skipped may be written
pub may_skipped : (Allowed : List ℕ → Type 0) (held : Option (List ℕ)) (first : Loaded) → MayReplayFrom Allowed held first → MayGo Allowed held (skipped_lines first.faults)
may_skipped Allowed held first may = subst (MayGo Allowed held) (append-nil (skipped_lines first.faults)) (may_go_whole Allowed held (skipped_lines first.faults ++ []) (may [] tt tt))

-- once it was written the answers may be
pub may_begin : (Allowed : List ℕ → Type 0) (a b : Option (List ℕ)) (first : Loaded) (t : Bool) (past : List Item) → Got a b (skipped_lines first.faults) → past ≡ [] → MayReplayFrom Allowed a first → MayTellOn t Allowed b past
may_begin Allowed a b first t past got none may told later more legal licensed text =
    subst (MayFronts Allowed b) (text ∙ ap (λ (p : List Item). text_of p ++ more) none)
    (fronts_more Allowed a b (skipped_lines first.faults) (text_of later) (may later legal licensed) got)

-- nothing is told
pub may_nothing : (Allowed : List ℕ → Type 0) (held : Option (List ℕ)) (t : Telling) (past : List Item) → t ≡ telling.Nothing → MayTellOn (tells t) Allowed held past
may_nothing Allowed held t past is told = absurd (cc (ap tells is, told))

-- where nothing was written the audit text may be
pub may_audit : (Allowed : List ℕ → Type 0) (a b : Option (List ℕ)) (begin : Scene) (l0 l : Option (List ℕ)) (ended : Bool) (t : Bool) (history : History) → t ≡ false → Plays t [] begin l0 l ended a b end.Done → IsLegal history → MayAudit Allowed a
    → MayFronts Allowed b (audit_text history)
may_audit Allowed a b begin l0 l ended true history is r legal may = absurd (cc (is))
may_audit Allowed a b begin l0 l ended false history is r legal may =
    fronts_more Allowed a b [] (audit_text history) (may history legal (access (items_of history) legal.items)) (subst (λ (bytes : List ℕ). Got a b bytes) r.run.3 r.got)
