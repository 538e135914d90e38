-- The newest item of a journal, and what it sends to the connection.
use Rattle.std.proofs.Common.{◌≡◌, ◌<◌, ◌+◌, ◌-◌, Bool, ℕ, List, [], ◌∷◌, Some, slice_get, refl, sym, ◌∙◌, ap, subst, length, get_or, arith}
use Rattle.std.proofs.lemmas.Option.{get_or_from_slice_get}
use Rattle.authority_model.specs.declared.journal.Entry.{Entry}
use Rattle.authority_model.specs.declared.journal.History.{History}
use Rattle.authority_model.specs.declared.journal.Item.{Item}
use Rattle.authority_model.specs.declared.load.Loaded.{Loaded}
use Rattle.authority_model.specs.declared.message.Output.{Output}
use Rattle.authority_model.specs.declared.message.Message.{Message}
use Rattle.authority_model.specs.Items.{items_of, before, sent, count_to}
use Rattle.authority_model.specs.Legal.{IsLegal, Legal}
use Rattle.authority_model.proofs.Pairing.{before_next, before_end}
use Rattle.authority_laws.specs.Batches.{IsSendable, loads_in}
use Rattle.authority_laws.specs.Outputs.{AllMayGo, MayGo}
use Rattle.authority_laws.proofs.Sending.{outputs_go}
use Rattle.pipe_run.specs.Bytes.{AreSendableTo, newest_bytes, output_bytes, sent_before}
use Rattle.pipe_run.specs.Handed.{is_load_wanted, newest_wants_load}
use Rattle.authority_model.specs.Lists.{any_of}
use Rattle.pipe_run.proofs.Loads.{loads_of_journal}

-- What is known of the newest item of a journal whose last entry is this one.
pub record IsNewest (h : History) (e : Entry) : Type 0 where
  pub item : Item
  pub past : List Item
  pub items : items_of h ≡ item ∷ past
  pub entry : item.entry ≡ e

some_got : (es : List Entry) (e : Entry) → slice_get es (length es - 1) ≡ Some e → 0 < length es
some_got [] e got = absurd (cc)
some_got (x ∷ es) e got = omega arith

pub newest_of : (h : History) (e : Entry) → Some e ≡ slice_get h.entries (length h.entries - 1) → IsNewest h e
newest_of h e got =
    let some : 0 < length h.entries = some_got h.entries e (sym got) in
    let is : e ≡ get_or h.entries (length h.entries - 1) e = sym (get_or_from_slice_get h.entries (length h.entries - 1) e e (sym got)) in
    let b = before_next h (length h.entries - 1) e (omega (arith, some)) is in
    record {
      item = record { entry = e; loaded = b.0 };
      past = before h (length h.entries - 1);
      items = sym (before_end h (length h.entries - 1 + 1) (omega (arith, some))) ∙ b.1;
      entry = refl;
    }

-- what goes to a connection other than 0 can be written to it
sendable : (past : List Item) (c : ℕ) → 0 < c → (outputs : List Output) → AllMayGo past outputs → AreSendableTo c outputs
sendable past c positive [] goes = tt
sendable past c positive (o ∷ outputs) goes = ((λ same. of o.message same goes.0), sendable past c positive outputs goes.1)
  where
    of : (m : Message) → o.to ≡ c → MayGo past o.to m → IsSendable m
    of (Message.Reply serial answer) same goes = goes.1
    of (Message.Begin path action text icon details cookie identities) same goes = tt
    of (Message.CancelBegin path cookie) same goes = tt
    of Message.Changed same goes = tt
    of Message.LoadWanted same goes = absurd (omega (arith, same, goes, positive))
    of Message.StopWanted same goes = absurd (omega (arith, same, goes, positive))

pub newest_sendable : (h : History) (e : Entry) (c : ℕ) → 0 < c → IsLegal h → IsNewest h e → AreSendableTo c e.outputs
newest_sendable h e c positive legal n =
    subst (λ (x : Entry). AreSendableTo c x.outputs) n.entry
    (sendable n.past c positive n.item.entry.outputs (outputs_go n.past n.item (subst Legal n.items legal.items)))

-- whether the newest entry asks for a load
pub newest_wants : (h : History) (e : Entry) (b : Bool) → IsNewest h e → b ≡ any_of (λ o. is_load_wanted o.message) e.outputs → b ≡ newest_wants_load (items_of h)
newest_wants h e b n is = is ∙ ap (λ (x : Entry). any_of (λ o. is_load_wanted o.message) x.outputs) (sym n.entry) ∙ ap newest_wants_load (sym n.items)

-- what the newest entry sends, and what was sent before it
pub newest_sends : (h : History) (e : Entry) (c : ℕ) (past : List Item) → IsLegal h → IsNewest h e → past ≡ items_of h → output_bytes h.loads c (sent_before c past) e.outputs ≡ newest_bytes c past
newest_sends h e c past legal n is =
    let items : past ≡ n.item ∷ n.past = is ∙ n.items in
    let loads : h.loads ≡ loads_in (n.item ∷ n.past) = sym (loads_of_journal h legal) ∙ ap loads_in n.items in
    ap (λ (x : Entry). output_bytes h.loads c (sent_before c past) x.outputs) (sym n.entry)
    ∙ ap (λ (ls : List Loaded). output_bytes ls c (sent_before c past) n.item.entry.outputs) loads
    ∙ ap (λ (p : List Item). output_bytes (loads_in (n.item ∷ n.past)) c (sent_before c p) n.item.entry.outputs) items
    ∙ ap (newest_bytes c) (sym items)

pub newest_counts : (h : History) (e : Entry) (c : ℕ) (past : List Item) → IsNewest h e → past ≡ items_of h → sent_before c past + count_to c e.outputs ≡ sent past c
newest_counts h e c past n is =
    let items : past ≡ n.item ∷ n.past = is ∙ n.items in
    subst (λ (p : List Item). sent_before c p + count_to c e.outputs ≡ sent p c) (sym items) (ap (λ (x : Entry). sent n.past c + count_to c x.outputs) (sym n.entry))

-- the same of a list of these entries
pub newest_at : (h : History) (e : Entry) (entries : List Entry) → entries ≡ h.entries → Some e ≡ slice_get entries (length entries - 1) → IsNewest h e
newest_at h e entries same got = newest_of h e (got ∙ ap (λ (es : List Entry). slice_get es (length es - 1)) same)

-- what is written of the newest entry
pub sends_as : (h : History) (e : Entry) (c n : ℕ) (loads : List Loaded) (outputs : List Output) (past : List Item) → IsLegal h → IsNewest h e → past ≡ items_of h → loads ≡ h.loads → n ≡ sent_before c past → outputs ≡ e.outputs
    → output_bytes loads c n outputs ≡ newest_bytes c past
sends_as h e c n loads outputs past legal newest is same_loads same_count same_outputs =
    ap (λ (ls : List Loaded). output_bytes ls c n outputs) same_loads ∙ ap (λ k. output_bytes h.loads c k outputs) same_count ∙ ap (λ (os : List Output). output_bytes h.loads c (sent_before c past) os) same_outputs
    ∙ newest_sends h e c past legal newest is

-- how many were sent with it
pub counts_as : (h : History) (e : Entry) (c n m : ℕ) (outputs : List Output) (past : List Item) → IsNewest h e → past ≡ items_of h → n ≡ sent_before c past → outputs ≡ e.outputs → m ≡ n + count_to c outputs → m ≡ sent past c
counts_as h e c n m outputs past newest is same_count same_outputs count =
    count ∙ ap (λ k. k + count_to c outputs) same_count ∙ ap (λ (os : List Output). sent_before c past + count_to c os) same_outputs ∙ newest_counts h e c past newest is
