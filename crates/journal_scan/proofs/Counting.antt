-- Outputs that are counted one after another, and numbers of which nothing is counted.
use Rattle.std.proofs.Common.{◌≡◌, ℕ, ◌+◌, ◌<◌, ◌≤◌, List, [], ◌∷◌, ◌++◌, ap, ◌∙◌, arith}
use Rattle.std.specs.Prelude.{◌==◌, ◌&&◌, Bool, false, if◌then◌else◌}
use Rattle.std.proofs.lemmas.Bool.{ne_eqb}
use Rattle.authority_model.specs.declared.journal.Item.{Item}
use Rattle.authority_model.specs.declared.message.Output.{Output}
use Rattle.authority_model.specs.Items.{count_to, sent}
use Rattle.authority_model.specs.Peers.{is_by}
use Rattle.journal_scan.specs.declared.counts.Tally.{Tally}
use Rattle.journal_scan.specs.Counts.{NothingFrom, is_message, messages_of}
use Rattle.journal_scan.specs.Standing.{with_answers}

pub count_to_push : (c : ℕ) (outputs : List Output) (o : Output) → count_to c (outputs ++ o ∷ []) ≡ count_to c outputs + (if o.to == c then 1 else 0)
count_to_push c [] o = omega arith
count_to_push c (p ∷ outputs) o = omega (arith, count_to_push c outputs o)

-- one more output, to another number
pub none_push : (c : ℕ) (outputs : List Output) (o : Output) → count_to c outputs ≡ 0 → o.to < c → count_to c outputs + (if o.to == c then 1 else 0) ≡ 0
none_push c outputs o none below =
    let other : (o.to == c) ≡ false = ne_eqb o.to c (λ e. absurd (omega (arith, below, e))) in
    ap (λ (b : Bool). count_to c outputs + (if b then 1 else 0)) other ∙ omega (arith, none)

pub answers_none : (tally : Tally) → with_answers tally 0 ≡ tally
answers_none tally = ap (λ (n : ℕ). record tally { answers = n }) (omega arith)

pub answers_more : (tally : Tally) (m n k : ℕ) → k ≡ m + n → with_answers (with_answers tally m) n ≡ with_answers tally k
answers_more tally m n k is = ap (λ (n : ℕ). record tally { answers = n }) (omega (arith, is))

-- one more item, by a caller below the number and with no output to it or above
pub nothing_more : (size : ℕ) (past : List Item) (i : Item) → i.entry.caller < size → ((c : ℕ) → size ≤ c → count_to c i.entry.outputs ≡ 0) → NothingFrom past size → NothingFrom (i ∷ past) size
nothing_more size past i below outputs nothing = λ c beyond.
    let messages : messages_of past c ≡ 0 = ap (λ (t : Tally). t.messages) (nothing c beyond) in
    let answers : sent past c ≡ 0 = ap (λ (t : Tally). t.answers) (nothing c beyond) in
    let other : is_by c i ≡ false = ne_eqb i.entry.caller c (λ e. absurd (omega (arith, below, beyond, e))) in
    let none : count_to c i.entry.outputs ≡ 0 = outputs c beyond in
    let all_messages : messages_of (i ∷ past) c ≡ 0 = ap (λ (b : Bool). messages_of past c + (if b && is_message i.entry.event then 1 else 0)) other ∙ omega (arith, messages) in
    let all_answers : sent (i ∷ past) c ≡ 0 = omega (arith, answers, none) in
    cc (all_messages, all_answers)
