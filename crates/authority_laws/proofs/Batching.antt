-- What a Collect takes of a legal history that is not full is a batch.
use Rattle.std.proofs.Common.{◌≡◌, ℕ, zero, suc, ◌+◌, ◌*◌, ◌^◌, ◌<◌, ◌≤◌, ◌==◌, Bool, true, false, ◌&&◌, List, [], ◌∷◌, ◌++◌, refl, Option, Some, None, is_some, length, take, drop, arith}
use Rattle.std.specs.Prelude.{if◌then◌else◌, filter, nat_le}
use Rattle.std.proofs.lemmas.Bool.Decides.{nat_tests}
use Rattle.std.proofs.lemmas.List.{length-append, length-drop}
use Rattle.std.proofs.lemmas.List.Sums.{sum_by-cons}
use Rattle.authority_model.specs.declared.journal.Item.{Item}
use Rattle.authority_model.specs.declared.journal.Limits.{Limits}
use Rattle.authority_model.specs.declared.load.Loaded.{Loaded}
use Rattle.authority_model.specs.declared.message.Message.{Message}
use Rattle.authority_model.specs.declared.message.Output.{Output}
use Rattle.authority_model.specs.Lists.{Each}
use Rattle.authority_model.specs.Peers.{is_by}
use Rattle.authority_model.specs.Items.{count_to, sent}
use Rattle.authority_model.specs.Answers.{loads}
use Rattle.authority_model.specs.Entering.{AreAllowed, cost_of_item, counted_bytes, is_full}
use Rattle.authority_model.specs.Sent.{sent_to, collected, batch, is_collect_of}
use Rattle.authority_model.specs.Legal.{Legal}
use Rattle.authority_model.proofs.Cases.{Each-append}
use Rattle.authority_laws.specs.Batches.{AreSendable, IsBatch, greatest_load, load_of, load_in_message, loads_in, with_load}
use Rattle.authority_laws.specs.Outputs.{MayGo}
use Rattle.authority_laws.proofs.CountedBytes.{entry_costs}
use Rattle.authority_laws.proofs.Sending.{each_to, outputs_go, sent_sendable}
use Rattle.authority_laws.proofs.Standing.{neither}

-- there are as many loads as are counted
pub loads_counted : (past : List Item) → length (loads_in past) ≡ loads past
loads_counted [] = refl
loads_counted (i ∷ past) = of i.loaded (loads_counted past)
  where
    of : (o : Option Loaded) → length (loads_in past) ≡ loads past → length (with_load (loads_in past) o) ≡ loads past + (if is_some o then 1 else 0)
    of None ih = omega (arith, ih)
    of (Some l) ih = let more = length-append (loads_in past) (l ∷ []) in omega (arith, more, ih)

-- each of these outputs names one of so many loads, or none
abbrev pub Name : ℕ → List Output → Type 0
Name n outputs = Each (λ o. load_of o ≤ n) outputs

more_loads : (n m : ℕ) → n ≤ m → (outputs : List Output) → Name n outputs → Name m outputs
more_loads n m le [] h = tt
more_loads n m le (o ∷ outputs) h = (omega (arith, le, h.0), more_loads n m le outputs h.1)

greatest_named : (n : ℕ) (outputs : List Output) → Name n outputs → greatest_load outputs ≤ n
greatest_named n [] h = omega arith
greatest_named n (o ∷ outputs) h = let rest = greatest_named n outputs h.1 in let first = h.0 in omega (arith, rest, first)

sent_named : (past : List Item) (c : ℕ) → Legal past → Name (loads past) (sent_to past c)
sent_named [] c legal = tt
sent_named (i ∷ past) c legal =
    more_loads (loads past) (loads (i ∷ past)) (omega arith) (sent_to past c ++ filter (λ o. o.to == c) i.entry.outputs)
    (Each-append (λ o. load_of o ≤ loads past) (sent_to past c) (filter (λ o. o.to == c) i.entry.outputs) (sent_named past c legal.1) (each_to (λ o. load_of o ≤ loads past) past c one i.entry.outputs (outputs_go past i legal)))
  where
    one : (o : Output) → o.to ≡ c → MayGo past o.to o.message → load_of o ≤ loads past
    one o same goes = of o.message goes
      where
        of : (m : Message) → MayGo past o.to m → load_in_message m ≤ loads past
        of (Message.Reply serial answer) goes = goes.2
        of (Message.Begin path action text icon details cookie identities) goes = omega arith
        of (Message.CancelBegin path cookie) goes = omega arith
        of Message.Changed goes = omega arith
        of Message.LoadWanted goes = omega arith
        of Message.StopWanted goes = omega arith

-- Each output names a load that came before it.
pub loads_named : (past : List Item) (c : ℕ) → Legal past → greatest_load (sent_to past c) ≤ length (loads_in past)
loads_named past c legal = let count = loads_counted past in let named = greatest_named (loads past) (sent_to past c) (sent_named past c legal) in omega (arith, count, named)

-- how many outputs were sent
count_filter : (c : ℕ) (outputs : List Output) → length (filter (λ o. o.to == c) outputs) ≡ count_to c outputs
count_filter c [] = refl
count_filter c (o ∷ outputs) = of (o.to == c) (count_filter c outputs)
  where
    of : (b : Bool) → length (filter (λ o. o.to == c) outputs) ≡ count_to c outputs → length (if b then o ∷ filter (λ o. o.to == c) outputs else filter (λ o. o.to == c) outputs) ≡ (if b then 1 else 0) + count_to c outputs
    of true ih = omega (arith, ih)
    of false ih = omega (arith, ih)

pub sent_counted : (past : List Item) (c : ℕ) → length (sent_to past c) ≡ sent past c
sent_counted [] c = refl
sent_counted (i ∷ past) c =
    let more = length-append (sent_to past c) (filter (λ o. o.to == c) i.entry.outputs) in
    let last = count_filter c i.entry.outputs in
    let rest = sent_counted past c in
    omega (arith, more, last, rest)

pub count_few : (c : ℕ) (outputs : List Output) → count_to c outputs ≤ length outputs
count_few c [] = omega arith
count_few c (o ∷ outputs) = of (o.to == c) (count_few c outputs)
  where
    of : (b : Bool) → count_to c outputs ≤ length outputs → (if b then 1 else 0) + count_to c outputs ≤ suc (length outputs)
    of true ih = omega (arith, ih)
    of false ih = omega (arith, ih)

-- Each output to a connection counts at least 64 bytes.
pub sent_costs : (past : List Item) (c : ℕ) → counted_bytes past < 2 ^ 62 → 64 * sent past c ≤ counted_bytes past
sent_costs [] c below = omega arith
sent_costs (i ∷ past) c below =
    let first = sum_by-cons cost_of_item i past in
    let one = entry_costs i.entry (omega (arith, first, below)) in
    let few = count_few c i.entry.outputs in
    let rest = sent_costs past c (omega (arith, first, below)) in
    omega (arith, first, one, few, rest)

-- Fewer than 2^23 outputs to a connection are in a journal that is not full.
pub sent_few : (limits : Limits) (past : List Item) (c : ℕ) → AreAllowed limits → is_full limits past ≡ false → sent past c < 2 ^ 23
sent_few limits past c allowed room =
    let test = (neither (nat_le limits.entries (length past)) (nat_le limits.bytes (counted_bytes past)) room).1 in
    let below : counted_bytes past < limits.bytes = grind (arith, nat_tests) in
    let bytes = allowed.1 in
    let costs = sent_costs past c (omega (arith, below, bytes)) in
    omega (arith, costs, below, bytes)

-- no more was collected than was sent
pub collected_few : (past : List Item) (by c : ℕ) → collected past by c ≤ sent past c
collected_few [] by c = omega arith
collected_few (i ∷ past) by c = of (is_by by i && is_collect_of c i.entry.event) (collected_few past by c)
  where
    of : (b : Bool) → collected past by c ≤ sent past c → (if b then sent past c else collected past by c) ≤ sent past c + count_to c i.entry.outputs
    of true ih = omega arith
    of false ih = omega (arith, ih)

-- the rest of outputs that can be written
rest_sendable : (n : ℕ) (outputs : List Output) → AreSendable outputs → AreSendable (drop n outputs)
rest_sendable zero outputs h = h
rest_sendable (suc n) [] h = tt
rest_sendable (suc n) (o ∷ outputs) h = rest_sendable n outputs h.1

-- What a Collect takes is a batch.
pub takes_batch : (limits : Limits) (past : List Item) (by c : ℕ) → Legal past → AreAllowed limits → is_full limits past ≡ false
    → IsBatch past by c (collected past by c + 1) (batch past by c) (take (greatest_load (batch past by c)) (loads_in past))
takes_batch limits past by c legal allowed room = record {
  from = refl;
  outputs = refl;
  loads = refl;
  few =
      let size = length-drop (collected past by c) (sent_to past c) in
      let whole = sent_counted past c in
      let held = collected_few past by c in
      let bound = sent_few limits past c allowed room in
      omega (arith, size, whole, held, bound);
  named = loads_named past c legal;
  sendable = λ other. rest_sendable (collected past by c) (sent_to past c) (sent_sendable past c other legal);
}
