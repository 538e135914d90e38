-- The pending challenges and their answers are those that looking back finds.
use Rattle.std.proofs.Common.{◌≡◌, Bool, false, not, List, [], ◌∷◌, ◌++◌, refl, ap, sym, ◌∙◌, inl, inr, Option, Some, None, subst, length, arith}
use Rattle.std.proofs.lemmas.List.{append_assoc, length-append}
use Rattle.std.specs.Prelude.{filter, map, option_to_list}
use Rattle.pk_types.specs.declared.values.Identity.{Identity}
use Rattle.authority_model.specs.declared.event.Call.{Call}
use Rattle.authority_model.specs.declared.verdict.Cookie.{Cookie}
use Rattle.authority_model.specs.declared.event.Event.TheVariants.{Call as Called}
use Rattle.authority_model.specs.declared.journal.Item.{Item}
use Rattle.authority_model.specs.declared.pending.Pending.{Pending}
use Rattle.authority_model.specs.Lists.{Has, or_else}
use Rattle.authority_model.specs.Challenges.{pending, opened, closes, with_answer, answer_to}
use Rattle.authority_model.specs.Cookies.{cookie_text}
use Rattle.authority_model.specs.Legal.{Legal}
use Rattle.authority_model.specs.Licensed.{IsResponse, NoneResponds, FirstResponds}
use Rattle.authority_model.specs.LookBack.{unanswered, NoneOf, Opens, IsPending, IsAnswered}
use Rattle.authority_model.proofs.Cases.{map_has}
use Rattle.authority_laws.proofs.Answering.{FirstIs, answer_is, answer_found}
use Rattle.authority_laws.proofs.OpeningBack.{Began, began, opens_is, is_opened}
use Rattle.authority_laws.proofs.OnePending.{each_pending}
use Rattle.authority_laws.proofs.Standing.{has_left, has_right, filter_in, map_in}

-- where a pending challenge was opened, and what happened since
pub record Stood (past : List Item) (ch : Pending) : Type 0 where
  pub later : List Item
  pub i : Item
  pub before : List Item
  pub parts : past ≡ later ++ i ∷ before
  pub opens : Opens before i (unanswered ch)
  pub began : Began before i ch
  pub stands : NoneOf (λ past j. closes past ch j) later (i ∷ before)
  pub first : FirstIs later (i ∷ before) ch.cookie ch.identities ch.answered

-- each pending challenge was pending since it was opened
pub all_stood : (past : List Item) → Legal past → (ch : Pending) → Has (pending past) ch → Stood past ch
all_stood = each_pending Stood opens stays
  where
    opens : (past : List Item) (i : Item) (ch : Pending) → Legal (i ∷ past) → opened past i ≡ Some ch → Stood (i ∷ past) ch
    opens past i ch legal e =
        let o = opens_is past i ch legal.0 e in
        record { later = []; i = i; before = past; parts = refl; opens = subst (Opens past i) (ap (λ a. record ch { answered = a }) o.unanswered) o; began = began past i ch legal.0 e; stands = tt; first = subst (FirstIs [] (i ∷ past) ch.cookie ch.identities) (sym o.unanswered) tt }

    stays : (past : List Item) (i : Item) (ch : Pending) → Legal (i ∷ past) → Stood past ch → closes past ch i ≡ false → Stood (i ∷ past) (with_answer past i ch)
    stays past i ch legal t open' = record {
      later = i ∷ t.later;
      i = t.i;
      before = t.before;
      parts = ap (λ xs. i ∷ xs) t.parts;
      opens = t.opens;
      began = t.began;
      stands = (subst (λ xs. closes xs ch i ≡ false) t.parts open', t.stands);
      first = of ch.answered t.first (answer_to past ch i) refl;
    }
      where
        of : (o : Option Identity) → FirstIs t.later (t.i ∷ t.before) ch.cookie ch.identities o → (n : Option Identity) → answer_to past ch i ≡ n → FirstIs (i ∷ t.later) (t.i ∷ t.before) ch.cookie ch.identities (or_else o n)
        of (Some old) h n now = inl h
        of None h (Some new) now = inr (h, subst (λ xs. IsResponse xs i ch.cookie ch.identities new) t.parts (answer_is past i ch new now))
        of None h None now = (λ id said. absurd (cc (answer_found past i ch id (subst (λ xs. IsResponse xs i ch.cookie ch.identities id) (sym t.parts) said))), h)

-- looking back finds what is in the list
pub pending_back : (past : List Item) → Legal past → (ch : Pending) → Has (pending past) ch → IsPending past (unanswered ch)
pending_back past legal ch h = let t = all_stood past legal ch h in record { later = t.later; i = t.i; before = t.before; parts = t.parts; opens = t.opens; stands = t.stands }

-- what looking back finds is in the list, with its answer
stands_pending : (later : List Item) (i : Item) (before : List Item) (o : Pending) → Legal (later ++ i ∷ before) → Opens before i o → NoneOf (λ past j. closes past o j) later (i ∷ before) → (ch : Pending) × Has (pending (later ++ i ∷ before)) ch × (unanswered ch ≡ o)
stands_pending [] i before o legal opens none = (o, has_right (map (with_answer before i) (filter (λ c. not (closes before c i)) (pending before))) (option_to_list (opened before i)) o (subst (λ x. Has (option_to_list x) o) (sym (is_opened before i o legal.0 opens)) (inl refl)), ap (λ a. record o { answered = a }) (sym opens.unanswered))
stands_pending (j ∷ later) i before o legal opens none =
    let past : List Item = later ++ i ∷ before in
    let ih = stands_pending later i before o legal.1 opens none.1 in
    let open' : closes past ih.0 j ≡ false = ap (λ c. closes past c j) ih.2 ∙ none.0 in
    (with_answer past j ih.0, has_left (map (with_answer past j) (filter (λ c. not (closes past c j)) (pending past))) (option_to_list (opened past j)) (with_answer past j ih.0) (map_in (with_answer past j) (filter (λ c. not (closes past c j)) (pending past)) ih.0 (filter_in (λ c. not (closes past c j)) (pending past) ih.0 ih.1 (ap not open'))), ih.2)

-- what looking back finds is pending
pub pending_forth : (past : List Item) → Legal past → (o : Pending) → IsPending past o → (ch : Pending) × Has (pending past) ch × (unanswered ch ≡ o)
pending_forth past legal o p =
    let r = stands_pending p.later p.i p.before o (subst Legal p.parts legal) p.opens p.stands in
    (r.0, subst (λ xs. Has (pending xs) r.0) (sym p.parts) r.1, r.2)

-- the place of the first answer
pub record FirstAt (later rest : List Item) (cookie : Cookie) (offered : List Identity) (identity : Identity) : Type 0 where
  pub after : List Item
  pub j : Item
  pub between : List Item
  pub parts : later ≡ after ++ j ∷ between
  pub none : NoneResponds between rest cookie offered
  pub answers : IsResponse (between ++ rest) j cookie offered identity

first_at : (later rest : List Item) (cookie : Cookie) (offered : List Identity) (identity : Identity) → FirstResponds later rest cookie offered identity → FirstAt later rest cookie offered identity
first_at [] rest cookie offered identity h = absurd h
first_at (j ∷ later) rest cookie offered identity (inl h) = let f = first_at later rest cookie offered identity h in record { after = j ∷ f.after; j = f.j; between = f.between; parts = ap (λ xs. j ∷ xs) f.parts; none = f.none; answers = f.answers }
first_at (j ∷ later) rest cookie offered identity (inr h) = record { after = []; j = j; between = later; parts = refl; none = h.0; answers = h.1 }

-- among the oldest of the later items none passes either
none_oldest : (test : List Item → Item → Bool) (after : List Item) (j : Item) (between rest : List Item) → NoneOf test (after ++ j ∷ between) rest → NoneOf test between rest
none_oldest test [] j between rest h = h.1
none_oldest test (x ∷ after) j between rest h = none_oldest test after j between rest h.1

no_answer_at : (after : List Item) (j : Item) (between rest : List Item) (cookie : Cookie) (offered : List Identity) (identity : Identity) → NoneResponds (after ++ j ∷ between) rest cookie offered → IsResponse (between ++ rest) j cookie offered identity → ⊥
no_answer_at [] j between rest cookie offered identity h said = h.0 identity said
no_answer_at (x ∷ after) j between rest cookie offered identity h said = no_answer_at after j between rest cookie offered identity h.1 said

not_first : (later rest : List Item) (cookie : Cookie) (offered : List Identity) (identity : Identity) → FirstResponds later rest cookie offered identity → NoneResponds later rest cookie offered → ⊥
not_first [] rest cookie offered identity h none = h
not_first (j ∷ later) rest cookie offered identity (inl h) none = not_first later rest cookie offered identity h none.1
not_first (j ∷ later) rest cookie offered identity (inr h) none = none.0 identity h.1

same_answer : (past : List Item) (j : Item) (cookie : Cookie) (offered : List Identity) (x y : Identity) → IsResponse past j cookie offered x → IsResponse past j cookie offered y → x ≡ y
same_answer past j cookie offered x y a b = let same : Called a.serial a.quiet (Call.Respond (cookie_text cookie) x) ≡ Called b.serial b.quiet (Call.Respond (cookie_text cookie) y) = sym a.event ∙ b.event in cc same

first_unique : (after : List Item) (j : Item) (between rest : List Item) (cookie : Cookie) (offered : List Identity) (x y : Identity) → FirstResponds (after ++ j ∷ between) rest cookie offered x → NoneResponds between rest cookie offered → IsResponse (between ++ rest) j cookie offered y → x ≡ y
first_unique [] j between rest cookie offered x y (inl h) none said = absurd (not_first between rest cookie offered x h none)
first_unique [] j between rest cookie offered x y (inr h) none said = same_answer (between ++ rest) j cookie offered x y h.1 said
first_unique (z ∷ after) j between rest cookie offered x y (inl h) none said = first_unique after j between rest cookie offered x y h none said
first_unique (z ∷ after) j between rest cookie offered x y (inr h) none said = absurd (no_answer_at after j between rest cookie offered y h.0 said)

-- a history is parted in one way after so many items
part_once : (later later' : List Item) (i i' : Item) (before before' : List Item) → later ++ i ∷ before ≡ later' ++ i' ∷ before' → length before ≡ length before' → (later ≡ later') × (i ≡ i') × (before ≡ before')
part_once [] [] i i' before before' e n = (refl, cc e, cc e)
part_once [] (x ∷ later') i i' before before' e n =
    let rest : before ≡ later' ++ i' ∷ before' = cc e in
    absurd (omega (arith, ap length rest ∙ length-append later' (i' ∷ before'), n))
part_once (x ∷ later) [] i i' before before' e n =
    let rest : later ++ i ∷ before ≡ before' = cc e in
    absurd (omega (arith, sym (length-append later (i ∷ before)) ∙ ap length rest, n))
part_once (x ∷ later) (x' ∷ later') i i' before before' e n =
    let head : x ≡ x' = cc e in
    let rest : later ++ i ∷ before ≡ later' ++ i' ∷ before' = cc e in
    let ih = part_once later later' i i' before before' rest n in
    (ap (λ y. y ∷ later) head ∙ ap (λ ys. x' ∷ ys) ih.0, ih.1, ih.2)

-- the identity in the list is that of the answer that looking back finds
pub answered_back : (past : List Item) → Legal past → (ch : Pending) → Has (pending past) ch → (id : Identity) → ch.answered ≡ Some id → IsAnswered past (unanswered ch) id
answered_back past legal ch h id is =
    let t = all_stood past legal ch h in
    let f = first_at t.later (t.i ∷ t.before) ch.cookie ch.identities id (subst (FirstIs t.later (t.i ∷ t.before) ch.cookie ch.identities) is t.first) in
    record {
      after = f.after;
      j = f.j;
      between = f.between;
      i = t.i;
      before = t.before;
      parts = t.parts ∙ ap (λ xs. xs ++ t.i ∷ t.before) f.parts ∙ append_assoc f.after (f.j ∷ f.between) (t.i ∷ t.before);
      opens = t.opens;
      none = f.none;
      answers = f.answers;
      stands = none_oldest (λ past j. closes past ch j) f.after f.j f.between (t.i ∷ t.before) (subst (λ xs. NoneOf (λ past j. closes past ch j) xs (t.i ∷ t.before)) f.parts t.stands);
    }

-- what looking back finds is the answer
pub answered_forth : (past : List Item) → Legal past → (ch : Pending) → Has (pending past) ch → (id : Identity) → IsAnswered past (unanswered ch) id → ch.answered ≡ Some id
answered_forth past legal ch h id a = of ch.answered first
  where
    t : Stood past ch
    t = all_stood past legal ch h

    same : (t.later ≡ a.after ++ a.j ∷ a.between) × (t.i ≡ a.i) × (t.before ≡ a.before)
    same = part_once t.later (a.after ++ a.j ∷ a.between) t.i a.i t.before a.before (sym t.parts ∙ a.parts ∙ sym (append_assoc a.after (a.j ∷ a.between) (a.i ∷ a.before))) (sym t.opens.entry_is ∙ a.opens.entry_is)

    first : FirstIs (a.after ++ a.j ∷ a.between) (a.i ∷ a.before) ch.cookie ch.identities ch.answered
    first =
        let one : FirstIs (a.after ++ a.j ∷ a.between) (t.i ∷ t.before) ch.cookie ch.identities ch.answered = subst (λ xs. FirstIs xs (t.i ∷ t.before) ch.cookie ch.identities ch.answered) same.0 t.first in
        let two : FirstIs (a.after ++ a.j ∷ a.between) (a.i ∷ t.before) ch.cookie ch.identities ch.answered = subst (λ x. FirstIs (a.after ++ a.j ∷ a.between) (x ∷ t.before) ch.cookie ch.identities ch.answered) same.1 one in
        subst (λ xs. FirstIs (a.after ++ a.j ∷ a.between) (a.i ∷ xs) ch.cookie ch.identities ch.answered) same.2 two

    of : (o : Option Identity) → FirstIs (a.after ++ a.j ∷ a.between) (a.i ∷ a.before) ch.cookie ch.identities o → o ≡ Some id
    of None none = absurd (no_answer_at a.after a.j a.between (a.i ∷ a.before) ch.cookie ch.identities id none a.answers)
    of (Some x) f = ap Some (first_unique a.after a.j a.between (a.i ∷ a.before) ch.cookie ch.identities x id f a.none a.answers)

-- a pending challenge is one that looking back finds, and back
pub pending_both : (past : List Item) → Legal past → (o : Pending) → (Has (map unanswered (pending past)) o → IsPending past o) × (IsPending past o → Has (map unanswered (pending past)) o)
pending_both past legal o = (
  (λ h. let from = map_has unanswered (pending past) o h in subst (IsPending past) from.2 (pending_back past legal from.0 from.1)),
  (λ p. let ch = pending_forth past legal o p in subst (Has (map unanswered (pending past))) ch.2 (map_in unanswered (pending past) ch.0 ch.1)),
)
