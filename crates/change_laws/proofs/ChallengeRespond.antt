-- The pending challenges after a Respond.
use Rattle.std.proofs.Common.{◌≡◌, ℕ, ◌<◌, ◌^◌, ◌==◌, Bool, true, false, ◌&&◌, not, List, ◌∷◌, ◌++◌, refl, ap, sym, ◌∙◌, Option, Some, None, is_some, length, subst}
use Rattle.std.proofs.lemmas.List.{append-nil}
use Rattle.std.proofs.lemmas.Bool.{ne_eqb, and_right}
use Rattle.std.proofs.lemmas.Bool.Decides.{Decides-eqb}
use Rattle.std.specs.Prelude.{if◌then◌else◌, find, map, option_and_then, option_to_list, bytes_eq}
use Rattle.std.specs.Option.{option_map_or}
use Rattle.pk_types.specs.declared.values.Identity.{Identity}
use Rattle.entry_changes.specs.declared.change.ChallengeChange.{ChallengeChange}
use Rattle.authority_model.specs.declared.event.Call.{Call}
use Rattle.authority_model.specs.declared.event.Event.TheVariants.{Call as Called}
use Rattle.authority_model.specs.declared.journal.Item.{Item}
use Rattle.authority_model.specs.declared.pending.Pending.{Pending}
use Rattle.authority_model.specs.Words.{Bytes}
use Rattle.authority_model.specs.Lists.{Has, AtMostOne, or_else, when}
use Rattle.authority_model.specs.Cookies.{cookie_text}
use Rattle.authority_model.specs.Peers.{live, is_root, call_in}
use Rattle.authority_model.specs.Challenges.{pending, opened, closes, with_answer, answer_to, responds}
use Rattle.authority_model.specs.Verdicts.{offers}
use Rattle.entry_changes.specs.Changes.{after_challenges, answered_by, responding}
use Rattle.entry_changes.specs.Finding.{with_cookie}
use Rattle.authority_model.specs.Legal.{Legal}
use Rattle.authority_model.proofs.Cases.{find_has}
use Rattle.authority_laws.proofs.CookieTexts.{one_cookie_text}
use Rattle.authority_laws.proofs.OnlyOne.{find_only, none_passes}
use Rattle.change_laws.proofs.ChallengeLists.{OneEach, map_where, map_same, filter_where, filter_none}
use Rattle.change_laws.proofs.ChallengeEntries.{one_each}
use Rattle.change_laws.proofs.ChallengeSteps.{answer_kept, unanswered_same, idle_sides}
use Rattle.change_laws.proofs.ChallengeEnds.{closes_with, After}
use Rattle.change_laws.proofs.Opening.{unasked_opens}

-- whether a challenge has a cookie with this text
abbrev pub has_text : Bytes → Pending → Bool
has_text cookie ch = bytes_eq (cookie_text ch.cookie) cookie

-- a challenge after a Respond that may answer
abbrev marked : Bytes → Identity → Pending → Pending
marked cookie identity ch = record ch { answered = or_else ch.answered (when (has_text cookie ch && offers ch.identities identity) identity) }

-- a challenge without this cookie is left
unmarked : (cookie : Bytes) (identity : Identity) (ch : Pending) → has_text cookie ch ≡ false → marked cookie identity ch ≡ ch
unmarked cookie identity ch misses = ap (λ b. record ch { answered = or_else ch.answered (when (b && offers ch.identities identity) identity) }) misses ∙ answer_kept ch

-- a challenge of another entry is left
other_left : (n : ℕ) (identity : Identity) (ch : Pending) → (n ≡ ch.entry → ⊥) → answered_by n identity ch ≡ ch
other_left n identity ch other = ap (λ b. if b then record ch { answered = Some identity } else ch) (ne_eqb n ch.entry other)

-- the challenges after the answer to the one that has the cookie
found_marked : (cookie : Bytes) (identity : Identity) (items : List Pending) → OneEach items → AtMostOne (has_text cookie) items → (row : Pending) → find (has_text cookie) items ≡ Some row
    → after_challenges (responding identity row) items ≡ map (marked cookie identity) items
found_marked cookie identity items one only row found = by (offers row.identities identity) refl row.answered refl
  where
    there : Has items row × (has_text cookie row ≡ true)
    there = find_has (has_text cookie) items row found

    -- each challenge is the one that was found, or has another cookie
    each : (P : Pending → Type 0) → P row → ((ch : Pending) → Has items ch → has_text cookie ch ≡ false → P ch) → (ch : Pending) → Has items ch → P ch
    each P here misses ch h = of (has_text cookie ch) refl
      where
        of : (b : Bool) → has_text cookie ch ≡ b → P ch
        of true hit =
            let again : find (has_text cookie) items ≡ Some ch = find_only (has_text cookie) items only ch h hit in
            let both : Some row ≡ Some ch = sym found ∙ again in
            let same : row ≡ ch = cc both in
            subst P same here
        of false miss = misses ch h miss

    -- the challenge that was found, where it stays as it is
    kept : marked cookie identity row ≡ row → items ≡ map (marked cookie identity) items
    kept same = sym (map_same (marked cookie identity) items (each (λ ch. marked cookie identity ch ≡ ch) same (λ ch h miss. unmarked cookie identity ch miss)))

    own : answered_by row.entry identity row ≡ record row { answered = Some identity }
    own = ap (λ b. if b then record row { answered = Some identity } else row) ((Decides-eqb row.entry row.entry).1 refl)

    by : (b : Bool) → offers row.identities identity ≡ b → (o : Option Identity) → row.answered ≡ o → after_challenges (if b && not (is_some o) then ChallengeChange.Answer row.entry identity else ChallengeChange.Keep) items ≡ map (marked cookie identity) items
    by false out o was = kept (ap (λ b. record row { answered = or_else row.answered (when b identity) }) (ap (λ b. has_text cookie row && b) out ∙ and_right (has_text cookie row) false refl) ∙ answer_kept row)
    by true in' (Some x) was = kept (ap (λ o. record row { answered = or_else o (when (has_text cookie row && offers row.identities identity) identity) }) was ∙ ap (λ o. record row { answered = o }) (sym was))
    by true in' None was = map_where (answered_by row.entry identity) (marked cookie identity) items (each (λ ch. answered_by row.entry identity ch ≡ marked cookie identity ch) here misses)
      where
        here : answered_by row.entry identity row ≡ marked cookie identity row
        here = own ∙ sym (ap (λ o. record row { answered = or_else o (when (has_text cookie row && offers row.identities identity) identity) }) was ∙ ap (λ b. record row { answered = when (b && offers row.identities identity) identity }) there.1 ∙ ap (λ b. record row { answered = when b identity }) in')

        misses : (ch : Pending) → Has items ch → has_text cookie ch ≡ false → answered_by row.entry identity ch ≡ marked cookie identity ch
        misses ch h miss = other_left row.entry identity ch (λ same. apart (one row ch there.0 h same)) ∙ sym (unmarked cookie identity ch miss)
          where
            apart : row ≡ ch → ⊥
            apart same = absurd (cc (sym (ap (has_text cookie) same) ∙ there.1, miss))

module _ (past : List Item) (legal : Legal past) (i : Item) (serial : ℕ) (quiet : Bool) (cookie : Bytes) (identity : Identity) (event : i.entry.event ≡ Called serial quiet (Call.Respond cookie identity)) (none : i.loaded ≡ None) where
  -- a Respond closes and opens nothing
  left : pending (i ∷ past) ≡ map (with_answer past i) (pending past)
  left =
      ap (λ xs. map (with_answer past i) xs ++ option_to_list (opened past i)) (filter_where (λ ch. not (closes past ch i)) (λ ch. not false) (pending past) (λ ch h. ap not (closed ch)) ∙ filter_none (pending past))
      ∙ ap (λ o. map (with_answer past i) (pending past) ++ option_to_list o) (unasked_opens past i _ event refl)
      ∙ append-nil (map (with_answer past i) (pending past))
    where
      closed : (ch : Pending) → closes past ch i ≡ false
      closed ch = closes_with past ch i _ None event none ∙ idle_sides (i.entry.caller == ch.agent) (i.entry.caller == ch.asker)

  -- the pending challenges after the call of a live connection
  pub responded_after : length past < 2 ^ 63 → live past i.entry.caller ≡ true → After past i (if is_root past i.entry.caller then option_map_or (responding identity) (with_cookie cookie (pending past)) ChallengeChange.Keep else ChallengeChange.Keep)
  responded_after short lives = by (is_root past i.entry.caller) refl ∙ sym left
    where
      by : (b : Bool) → is_root past i.entry.caller ≡ b → after_challenges (if b then option_map_or (responding identity) (with_cookie cookie (pending past)) ChallengeChange.Keep else ChallengeChange.Keep) (pending past) ≡ map (with_answer past i) (pending past)
      by false is = sym (map_same (with_answer past i) (pending past) (λ ch h. unanswered_same past i ch (
          ap (λ b. if live past i.entry.caller && b then option_and_then (responds (cookie_text ch.cookie) ch.identities) (call_in i.entry.event) else None) is
          ∙ ap (λ b. if b then option_and_then (responds (cookie_text ch.cookie) ch.identities) (call_in i.entry.event) else None) (and_right (live past i.entry.caller) false refl))))
      by true is = found (with_cookie cookie (pending past)) refl ∙ sym (map_where (with_answer past i) (marked cookie identity) (pending past) (λ ch h. ap (λ o. record ch { answered = or_else ch.answered o }) (answer ch)))
        where
          answer : (ch : Pending) → answer_to past ch i ≡ when (has_text cookie ch && offers ch.identities identity) identity
          answer ch =
              ap (λ b. if b && is_root past i.entry.caller then option_and_then (responds (cookie_text ch.cookie) ch.identities) (call_in i.entry.event) else None) lives
              ∙ ap (λ b. if b then option_and_then (responds (cookie_text ch.cookie) ch.identities) (call_in i.entry.event) else None) is
              ∙ ap (λ e. option_and_then (responds (cookie_text ch.cookie) ch.identities) (call_in e)) event

          found : (o : Option Pending) → with_cookie cookie (pending past) ≡ o → after_challenges (option_map_or (responding identity) o ChallengeChange.Keep) (pending past) ≡ map (marked cookie identity) (pending past)
          found None out = sym (map_same (marked cookie identity) (pending past) (λ ch h. unmarked cookie identity ch (none_passes (has_text cookie) (pending past) out ch h)))
          found (Some row) is = found_marked cookie identity (pending past) (one_each past legal) (one_cookie_text past legal short cookie) row is
