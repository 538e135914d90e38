-- The access law: each yes to a check is backed by its decision, and each yes at a return is traced to its check.
use Rattle.std.proofs.Common.{◌≡◌, ℕ, ◌==◌, ◌&&◌, List, [], ◌∷◌, refl, sym, Some, subst}
use Rattle.std.proofs.lemmas.Bool.Decides.{Decides-eqb}
use Rattle.pk_types.specs.declared.values.Identity.{Identity}
use Rattle.authority_model.specs.declared.event.Event.TheVariants.{Returned}
use Rattle.authority_model.specs.declared.verdict.Reason.{Reason}
use Rattle.authority_model.specs.Facts.{Facts, facts_of_key}
use Rattle.authority_model.specs.declared.journal.Item.{Item}
use Rattle.authority_model.specs.Items.{world_of}
use Rattle.authority_model.specs.declared.pending.Pending.{Pending}
use Rattle.authority_model.specs.Challenges.{pending, at_agent}
use Rattle.authority_model.specs.Licensed.{ByReturn, Asks, AllLicensed}
use Rattle.authority_model.specs.Legal.{Legal}
use Rattle.authority_model.proofs.Cases.{both, find_has}
use Rattle.authority_laws.proofs.Returning.{PermitsNow}
use Rattle.authority_laws.proofs.Access.{Good, event_good}
use Rattle.authority_laws.proofs.Answering.{FirstIs}
use Rattle.authority_laws.proofs.PendingBack.{all_stood}

-- The access law: in every legal history each yes is licensed.
pub access : (past : List Item) → Legal past → AllLicensed past
access [] legal = tt
access (i ∷ past) legal = (subst (Good past i) (sym legal.0.answered) (event_good past i returned i.entry.event refl), access past legal.1)
  where
    returned : (s : ℕ) → i.entry.event ≡ Returned s → (ch : Pending) → at_agent past i.entry.caller s ≡ Some ch → (id : Identity) → ch.answered ≡ Some id → (f : Facts) → facts_of_key (world_of past) ch.key ≡ Some f → (reason : Reason) → PermitsNow past f ch.action i.entry.moment id reason → ByReturn past i ch.asker ch.serial reason
    returned s is ch at id answered f known reason permits =
        let found = find_has (λ (ch : Pending). (ch.agent == i.entry.caller) && (ch.agent_serial == s)) (pending past) ch at in
        let parts = both (ch.agent == i.entry.caller) (ch.agent_serial == s) found.1 in
        let same_agent : ch.agent ≡ i.entry.caller = (Decides-eqb ch.agent i.entry.caller).0 parts.0 in
        let same_serial : ch.agent_serial ≡ s = (Decides-eqb ch.agent_serial s).0 parts.1 in
        let t = all_stood past legal.1 ch found.0 in
        let P : ℕ → ℕ → Type 0 = λ n k. Asks t.before t.i ch.asker ch.serial n k ch.action ch.key ch.cookie ch.identities in
        record {
          s = s;
          returns = is;
          later = t.later;
          q = t.i;
          before = t.before;
          parts = t.parts;
          action = ch.action;
          key = ch.key;
          cookie = ch.cookie;
          offered = ch.identities;
          asks = subst (λ n. P n s) same_agent (subst (P ch.agent) same_serial t.began);
          challenge = ch;
          pending = found.0;
          place = t.opens.entry_is;
          identity = id;
          answered = subst (FirstIs t.later (t.i ∷ t.before) ch.cookie ch.identities) answered t.first;
          f = f;
          facts_are = known;
          permits = permits;
        }
