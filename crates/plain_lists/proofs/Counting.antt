-- The counts after an entry are those of the history with its item.
use Rattle.std.proofs.Common.{◌≡◌, ℕ, ◌+◌, List, ◌∷◌, refl, ap, sym, ◌∙◌, Option, Some, None, is_some, length, arith}
use Rattle.std.specs.Prelude.{if◌then◌else◌, option_to_list}
use Rattle.authority_model.specs.declared.event.Event.{Event}
use Rattle.authority_model.specs.declared.event.Event.TheVariants.{Load}
use Rattle.authority_model.specs.declared.journal.Item.{Item}
use Rattle.authority_model.specs.declared.load.Loaded.{Loaded}
use Rattle.authority_model.specs.Answers.{loads}
use Rattle.authority_model.specs.Challenges.{opened_count}
use Rattle.authority_model.specs.Grants.{made}
use Rattle.authority_model.specs.Items.{is_load}
use Rattle.authority_model.specs.Legal.{IsNumbered, Legal}
use Rattle.entry_changes.specs.declared.change.ChallengeChange.{ChallengeChange}
use Rattle.entry_changes.specs.declared.change.GrantChange.{GrantChange}
use Rattle.entry_changes.specs.Changes.{challenge_change, grant_change}
use Rattle.change_laws.specs.GrantCounts.{additions}
use Rattle.change_laws.proofs.GrantChanges.{made_after}
use Rattle.change_laws.proofs.OpeningBegun.{begun_by, opened_is_begun}
use Rattle.journal_view.specs.declared.counts.ViewCounts.{ViewCounts}
use Rattle.journal_view.specs.Seen.{counts_of}
use Rattle.plain_lists.specs.Lists.{change_of, counts_after, openings}

-- the loads are those items that have a load
load_counts : (n : ℕ) (e : Event) (l : Option Loaded) → IsNumbered n e l → is_load e ≡ is_some l
load_counts n (Load load) (Some l) h = refl
load_counts n (Load load) None h = absurd h
load_counts n e None h = refl
load_counts n e (Some l) h = absurd (cc h)

-- a change opens as many challenges as it begins
openings_are : (change : ChallengeChange) → openings change ≡ length (option_to_list (begun_by change))
openings_are ChallengeChange.Keep = refl
openings_are (ChallengeChange.Begun row) = refl
openings_are (ChallengeChange.Answer e identity) = refl
openings_are (ChallengeChange.Close es) = refl

-- the counts after the entry of an item are those of the history with the item
pub counts_next : (past : List Item) (i : Item) → Legal (i ∷ past) → counts_after i.entry (change_of past i) (counts_of past) ≡ counts_of (i ∷ past)
counts_next past i legal =
    let more : length past + 1 ≡ length (i ∷ past) = omega arith in
    ap (λ n. with n (loads past + (if is_load i.entry.event then 1 else 0)) (opened_count past + openings opens) (made past + additions makes)) more
    ∙ ap (λ b. with (length (i ∷ past)) (loads past + (if b then 1 else 0)) (opened_count past + openings opens) (made past + additions makes)) (load_counts (loads past) i.entry.event i.loaded legal.0.numbered)
    ∙ ap (λ n. with (length (i ∷ past)) (loads (i ∷ past)) (opened_count past + n) (made past + additions makes)) (openings_are opens ∙ ap (λ o. length (option_to_list o)) (sym (opened_is_begun past i legal.0)))
    ∙ ap (λ n. with (length (i ∷ past)) (loads (i ∷ past)) (opened_count (i ∷ past)) n) (sym (made_after past i legal.1))
  where
    opens : ChallengeChange
    opens = challenge_change past i.entry.caller i.entry.moment i.entry.salt i.entry.event i.loaded

    makes : GrantChange
    makes = grant_change past i.entry.caller i.entry.moment i.entry.event

    with : ℕ → ℕ → ℕ → ℕ → ViewCounts
    with n a b c = record { entries = n; loads = a; opened = b; made = c; last_moment = i.entry.moment }
