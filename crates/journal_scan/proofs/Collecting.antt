-- One more Collect.
use Rattle.std.proofs.Common.{◌≡◌, ◌≢◌, ℕ, ◌+◌, ◌-◌, List, [], ◌∷◌, Some, refl, ap, sym, ◌∙◌, Bool, true, false, ◌||◌, ◌&&◌, arith}
use Rattle.std.specs.Prelude.{◌==◌, if◌then◌else◌, length, filter, nat_le}
use Rattle.std.proofs.lemmas.Bool.{eqb-true, eqb-false, eq-eqb, ne_eqb}
use Rattle.std.proofs.lemmas.Bool.Decides.{nat_tests}
use Rattle.std.proofs.lemmas.List.{length-append, length-drop}
use Rattle.authority_model.specs.declared.event.Event.{Event}
use Rattle.authority_model.specs.declared.event.Event.TheVariants.{Connect, Call, Returned, AgentError, Passed, Depart, Load, LoadFailed, Stop, Collect}
use Rattle.authority_model.specs.declared.journal.Item.{Item}
use Rattle.authority_model.specs.declared.message.Output.{Output}
use Rattle.authority_model.specs.Items.{sent, count_to}
use Rattle.authority_model.specs.Peers.{is_by}
use Rattle.authority_model.specs.Sent.{batch, collected, is_collect_of, sent_to}
use Rattle.journal_scan.specs.declared.collects.Collection.{Collection}
use Rattle.journal_scan.specs.Collecting.{IsOnlyEmpty, had_nothing, takes_nothing}
use Rattle.journal_scan.specs.Standing.{IsCollection, collected_in}

count_filtered : (c : ℕ) (outputs : List Output) → length (filter (λ o. o.to == c) outputs) ≡ count_to c outputs
count_filtered c [] = refl
count_filtered c (o ∷ outputs) = of (o.to == c) (count_filtered c outputs)
  where
    of : (b : Bool) → length (filter (λ o. o.to == c) outputs) ≡ count_to c outputs → length (if b then o ∷ filter (λ o. o.to == c) outputs else filter (λ o. o.to == c) outputs) ≡ (if b then 1 else 0) + count_to c outputs
    of true rest = omega (arith, rest)
    of false rest = omega (arith, rest)

sent_counted : (past : List Item) (c : ℕ) → length (sent_to past c) ≡ sent past c
sent_counted [] c = refl
sent_counted (i ∷ past) c = omega (arith, length-append (sent_to past c) (filter (λ o. o.to == c) i.entry.outputs), sent_counted past c, count_filtered c i.entry.outputs)

-- a Collect takes nothing where all outputs were collected
nothing_is : (past : List Item) (by c : ℕ) (b : Bool) → b ≡ nat_le (sent past c) (collected past by c) → (length (batch past by c) == 0) ≡ b
nothing_is past by c b is =
    let size : length (batch past by c) ≡ sent past c - collected past by c = length-drop (collected past by c) (sent_to past c) ∙ ap (λ n. n - collected past by c) (sent_counted past c) in
    rw size (grind (arith, nat_tests))

-- one more Collect of the connection, and none of another one
pub collect_more : (past : List Item) (i : Item) (of count outputs : ℕ) (row : Collection) (ended : Bool)
    → i.entry.event ≡ Collect of → outputs ≡ sent past of → IsCollection past i.entry.caller row
    → ((y : ℕ) → of ≢ y → collected_in row.of row.count y ≡ 0) → count ≡ collected_in row.of row.count of
    → (nat_le outputs count && row.ended) ≡ false → ended ≡ (row.ended || nat_le outputs count)
    → IsOnlyEmpty past i × IsCollection (i ∷ past) i.entry.caller (record { of = Some of; count = outputs; ended = ended })
collect_more past i of count outputs row ended event sent_is old only count_is once ended_is = (
  (λ nothing. sym old.ended ∙ not_both (nat_le outputs count) row.ended once (sym takes ∙ nothing)),
  record { taken = taken; ended = ended_is ∙ later },
)
  where
    own : is_by i.entry.caller i ≡ true
    own = eq-eqb i.entry.caller i.entry.caller refl

    takes : takes_nothing past i.entry.caller i.entry.event ≡ nat_le outputs count
    takes = ap (takes_nothing past i.entry.caller) event ∙ nothing_is past i.entry.caller of (nat_le outputs count) (cc (old.taken of))

    not_both : (a b : Bool) → (a && b) ≡ false → a ≡ true → b ≡ false
    not_both true b none is = none
    not_both false b none is = absurd (cc (is))

    later : (row.ended || nat_le outputs count) ≡ had_nothing (i ∷ past) i.entry.caller
    later = cc (old.ended, own, takes)

    test : (y : ℕ) (b : Bool) → (of == y) ≡ b → (is_by i.entry.caller i && is_collect_of y i.entry.event) ≡ b
    test y b is = ap (λ (x : Bool). x && is_collect_of y i.entry.event) own ∙ (ap (is_collect_of y) event ∙ is)

    taken : (y : ℕ) → collected (i ∷ past) i.entry.caller y ≡ collected_in (Some of) outputs y
    taken y = at (of == y) refl
      where
        picked : (b : Bool) → (of == y) ≡ b → collected (i ∷ past) i.entry.caller y ≡ (if b then sent past y else collected past i.entry.caller y)
        picked b is = ap (λ (t : Bool). if t then sent past y else collected past i.entry.caller y) (test y b is)

        at : (b : Bool) → (of == y) ≡ b → collected (i ∷ past) i.entry.caller y ≡ collected_in (Some of) outputs y
        at true is = picked true is ∙ (ap (sent past) (sym (eqb-true of y is)) ∙ sym sent_is) ∙ sym (ap (λ (t : Bool). if t then outputs else 0) is)
        at false is = picked false is ∙ (old.taken y ∙ only y (eqb-false of y is)) ∙ sym (ap (λ (t : Bool). if t then outputs else 0) is)

-- an item that is no Collect of the caller changes nothing
pub collect_other : (past : List Item) (i : Item) (c : ℕ) (row : Collection) → ((y : ℕ) → (is_by c i && is_collect_of y i.entry.event) ≡ false) → (is_by c i && takes_nothing past c i.entry.event) ≡ false → IsCollection past c row → IsCollection (i ∷ past) c row
collect_other past i c row other nothing old = record {
  taken = (λ y. ap (λ (t : Bool). if t then sent past y else collected past c y) (other y) ∙ old.taken y);
  ended = old.ended ∙ (sym (or_false (had_nothing past c)) ∙ ap (λ (t : Bool). had_nothing past c || t) (sym nothing));
}
  where
    or_false : (b : Bool) → (b || false) ≡ b
    or_false true = refl
    or_false false = refl

-- an item of another caller
pub other_caller : (past : List Item) (i : Item) (c : ℕ) (row : Collection) → c ≢ i.entry.caller → IsCollection past c row → IsCollection (i ∷ past) c row
other_caller past i c row other old =
    let none : is_by c i ≡ false = ne_eqb i.entry.caller c (λ e. other (sym e)) in
    collect_other past i c row (λ y. ap (λ (t : Bool). t && is_collect_of y i.entry.event) none) (ap (λ (t : Bool). t && takes_nothing past c i.entry.event) none) old

-- whether an event is a Collect
abbrev pub is_collect : Event → Bool
is_collect (Collect of) = true
is_collect _ = false

and_false : (b : Bool) → (b && false) ≡ false
and_false true = refl
and_false false = refl

of_none : (e : Event) (y : ℕ) → is_collect e ≡ false → is_collect_of y e ≡ false
of_none (Connect uid) y none = refl
of_none (Call serial quiet call) y none = refl
of_none (Returned serial) y none = refl
of_none (AgentError serial name) y none = refl
of_none Passed y none = refl
of_none Depart y none = refl
of_none (Load load) y none = refl
of_none (LoadFailed code) y none = refl
of_none Stop y none = refl
of_none (Collect of) y none = absurd (cc (none))

takes_none : (past : List Item) (c : ℕ) (e : Event) → is_collect e ≡ false → takes_nothing past c e ≡ false
takes_none past c (Connect uid) none = refl
takes_none past c (Call serial quiet call) none = refl
takes_none past c (Returned serial) none = refl
takes_none past c (AgentError serial name) none = refl
takes_none past c Passed none = refl
takes_none past c Depart none = refl
takes_none past c (Load load) none = refl
takes_none past c (LoadFailed code) none = refl
takes_none past c Stop none = refl
takes_none past c (Collect of) none = absurd (cc (none))

-- an item that is no Collect
pub other_event : (past : List Item) (i : Item) (c : ℕ) (row : Collection) → is_collect i.entry.event ≡ false → IsCollection past c row → IsCollection (i ∷ past) c row
other_event past i c row none old =
    collect_other past i c row
    (λ y. ap (λ (t : Bool). is_by c i && t) (of_none i.entry.event y none) ∙ and_false (is_by c i))
    (ap (λ (t : Bool). is_by c i && t) (takes_none past c i.entry.event none) ∙ and_false (is_by c i)) old

-- an item that is no Collect takes not nothing
pub not_empty : (past : List Item) (i : Item) → is_collect i.entry.event ≡ false → IsOnlyEmpty past i
not_empty past i none = λ nothing. absurd (cc (takes_none past i.entry.caller i.entry.event none, nothing))
