-- Each kind of step keeps the rule, from every state that meets it.
use Rattle.std.proofs.Common.{zero, ◌≡◌, ◌≢◌, ℕ, suc, ◌+◌, ◌%◌, ◌^◌, ◌<◌, ◌≤◌, ◌⊎◌, inl, inr, Bool, true, false, List, [], ◌∷◌, ◌++◌, length, set, Some, None, Option, refl, sym, ap, ◌∙◌, subst, ⊎_elim, arith, length-append}
use Rattle.std.specs.Prelude.{◌==◌, ◌&&◌, if◌then◌else◌, nat_lt, slice_index}
use Rattle.std.proofs.lemmas.Bool.Decides.{nat_tests}
use mathlib.Core.List.{IsPrefix}
use mathlib.Core.Option.{some, some-injective, some-ne-none}
use lib.ListN.{get_elem?}
use Rattle.atomic_table.specs.Table.{State, opening, Splits, Joins, Allows, keeps}
use Rattle.atomic_table.proofs.Lists.{at_set, set_again}
use Rattle.history_lock.specs.declared.machine.TheConstants.{MOST_PASSES}
use Rattle.history_lock.specs.declared.view.Kind.TheVariants.{Book, Caller, Note, Receipt}
use Rattle.history_lock.specs.declared.view.View.{View}
use Rattle.history_lock.specs.Rule.{opened, FitsBook, Reaches, RuleAt, MeetsRule, IsTold, holds_rule}
use Rattle.history_lock.specs.Kinds.{counted_up, newcomer, appended, ended_by, note_of, longer_of, taken, receipt_of, in_flight_after, settled, spent}
use Rattle.history_lock.specs.declared.machine.EndCause.{EndCause}
use Rattle.history_lock.specs.Causes.{KnowsEnd}
use Rattle.history_lock.proofs.Prefixes.{prefix_nil, prefix_self, prefix_trans, prefix_shorter, prefix_length, prefix_between, prefix_at, at_below, at_push}
use Rattle.history_lock.proofs.Knowing.{knows_none, knows_self, knows_nothing, either_knows, first_knows, second_knows}
use Rattle.history_lock.proofs.Places.{each_set}
use Rattle.history_lock.proofs.Moves.{at_book, book_moves, adds, other_moves, spends}

-- the views of a table that has just opened
opened_each : {I : Type 0} (P : ℕ → View I → Type 0) → P 0 opened → (j : ℕ) (u : View I) → get_elem? (opened {I = I} ∷ []) j ≡ some u → P j u
opened_each P p zero u at = subst (P 0) (some-injective opened u at) p
opened_each P p (suc j) u at = absurd (some-ne-none u (sym at))

-- who is in flight after a receipt
in_flight_cases : (f : Option ℕ) (n a b : ℕ) → (in_flight_after f n (a == b) ≡ f) ⊎ ((in_flight_after f n (a == b) ≡ None) × (f ≡ Some n) × (a ≡ b))
in_flight_cases None n a b = inl refl
in_flight_cases (Some m) n a b = tested (m == n) (a == b) refl refl
  where
    tested : (p q : Bool) → (m == n) ≡ p → (a == b) ≡ q → ((if p && q then None else Some m) ≡ Some m) ⊎ (((if p && q then None else Some m) ≡ None) × (Some m ≡ Some n) × (a ≡ b))
    tested true true p q = let mn : m ≡ n = grind (arith, nat_tests) in let ab : a ≡ b = grind (arith, nat_tests) in inr (refl, ap Some mn, ab)
    tested true false p q = inl refl
    tested false q' p q = inl refl

-- the longer of two lists
pub longer_is : {I : Type 0} (h g : List I) (P : List I → Type 0) → (length g ≤ length h → P h) → (length h < length g → P g) → P (longer_of h g)
longer_is {I} h g P this that = tested (nat_lt (length h) (length g)) refl
  where
    tested : (b : Bool) → nat_lt (length h) (length g) ≡ b → P (if b then g else h)
    tested true e = that (grind (arith, nat_tests))
    tested false e = this (grind (arith, nat_tests))

module _ {I : Type 0} (caller_of : I → ℕ) (Legal : List I → Type 0) (S : Type 0) where
  abbrev Held : State S (View I) → Type 0
  Held s = holds_rule caller_of Legal s

  -- open: the rule holds of a table with no entry
  pub opens : Legal [] → Held (opening (0 ∷ []) [] opened)
  opens begins = (
    0,
    opened,
    record {
      there = refl;
      is_book = refl;
      word = refl;
      top = omega arith;
      callers = (λ k e none. absurd (some-ne-none e (sym none)));
      each = opened_each (λ j u. FitsBook caller_of Legal 0 opened j u) record {
        one_book = (λ _. refl);
        legal = begins;
        begins = prefix_nil [];
        old_begins = prefix_nil [];
        note_begins = prefix_nil [];
        counted = omega arith;
        old_counted = omega arith;
        ended = knows_none [] None [];
        old_ended = knows_none [] None [];
        note_ended = knows_none [] None [];
        numbered = (λ c. absurd (cc));
        names = inl refl;
        own = (λ c. absurd (cc));
      };
      pairs = opened_each (λ i x. x.kind ≡ Caller → (j : ℕ) (y : View I) → get_elem? (opened ∷ []) j ≡ some y → Reaches caller_of Legal i x j y) (λ c. absurd (cc));
    },
  )

  -- append keeps the rule
  pub appends : (id slots : ℕ) (v : View I) (c : List (ℕ × S)) (e : I) → v.kind ≡ Book → v.in_flight ≡ None → v.ended ≡ None → caller_of e < v.made → Legal (v.history ++ e ∷ []) → length (v.history ++ e ∷ []) < 2 ^ 64
      → Allows Held slots id (v, c) 0 (λ n. (n + 1) % 2 ^ 64) (λ n w. (d : I) × (v.history ++ e ∷ [] ≡ v.history ++ d ∷ []) × (w ≡ (appended caller_of v d, c)))
  appends id slots v c e is idle none below legal fits s kept homes at range =
      let k = at_book caller_of Legal s.words s.views id v kept at is in
      let w = appended caller_of v e in
      let more : IsPrefix v.history w.history = (e ∷ [], refl) in
      let f = k.each id v at in
      let n : slice_index s.words 0 ≡ length v.history = ap (λ (ws : List ℕ). slice_index ws 0) k.word in
      let next : (slice_index s.words 0 + 1) % 2 ^ 64 ≡ length w.history = rw n (omega (arith, length-append v.history (e ∷ []))) in
      let moved = book_moves caller_of Legal s.words s.views id v w k is more (omega arith) k.top
      (λ j x there. ⊎_elim (λ (old : get_elem? v.history j ≡ some x). k.callers j x old) (λ (new : (j ≡ length v.history) × (e ≡ x)). subst (λ (y : I). caller_of y < v.made) new.1 below) (at_push v.history e x j there))
      (λ known h knows. knows_nothing known v.ended h v.history knows none w.ended w.history)
      record {
        one_book = (λ _. refl);
        legal = legal;
        begins = prefix_self w.history;
        old_begins = prefix_trans v.old_history v.history w.history f.old_begins more;
        note_begins = prefix_trans v.note_history v.history w.history f.note_begins more;
        counted = omega arith;
        old_counted = f.old_counted;
        ended = knows_self w.ended w.history;
        old_ended = knows_nothing v.old_ended v.ended v.old_history v.history f.old_ended none w.ended w.history;
        note_ended = knows_nothing v.note_ended v.ended v.note_history v.history f.note_ended none w.ended w.history;
        numbered = (λ q. absurd (cc));
        names = inr (inl is);
        own = (λ q. absurd (cc));
      }
      (λ i x there q. let r = k.pairs i x there q id v at in record {
        apart = (λ b. absurd (cc));
        receipt = (λ b. absurd (cc));
        seen = (λ j y here mine. ⊎_elim
            (λ (old : get_elem? v.history j ≡ some y). inl (⊎_elim (λ (l : j < length x.history). l) (λ (q : (v.in_flight ≡ Some x.number) × (suc j ≡ length v.history)). absurd (cc (q.0, idle))) (r.seen j y old mine)))
            (λ (new : (j ≡ length v.history) × (e ≡ y)). inr (ap (λ (z : I). Some (caller_of z)) new.1 ∙ ap Some mine, omega (arith, new.0, length-append v.history (e ∷ []))))
            (at_push v.history e y j here));
      }) in (
        w,
        keeps,
        tt,
        (id, w, subst (λ (ws : List ℕ). RuleAt caller_of Legal ws (set s.views id w) id w) (sym (ap (λ (ws : List ℕ). set ws 0 ((slice_index s.words 0 + 1) % 2 ^ 64)) k.word ∙ ap (λ (m : ℕ). m ∷ []) next)) moved),
        (e, refl, refl),
      )

  -- a view that copies a history is reached as the one that it copies, but for whom it names
  copied : (i : ℕ) (x : View I) (j : ℕ) (y : View I) (n : ℕ) (w : View I) → Reaches caller_of Legal i x j y → w.history ≡ y.history → (y.in_flight ≡ Some x.number → w.in_flight ≡ Some x.number)
      → (w.kind ≡ Caller → w.number ≡ x.number → i ≡ n) → (w.kind ≡ Receipt → w.number ≡ x.number → length w.history ≤ length x.history) → Reaches caller_of Legal i x n w
  copied i x j y n w r same names apart receipt = record {
    apart = apart;
    receipt = receipt;
    seen = (λ k e here mine. ⊎_elim
        (λ (l : k < length x.history). inl l)
        (λ (q : (y.in_flight ≡ Some x.number) × (suc k ≡ length y.history)). inr (names q.0, q.1 ∙ sym (ap length same)))
        (r.seen k e (ap (λ (h : List I). get_elem? h k) (sym same) ∙ here) mine));
  }

  -- admit keeps the rule
  pub admits : (id : ℕ) (v : View I) → v.kind ≡ Book → v.in_flight ≡ None → v.made < MOST_PASSES → Splits Held id v (counted_up v) (newcomer v)
  admits id v is idle room s kept at =
      let k = at_book caller_of Legal s.words s.views id v kept at is in
      let w = counted_up v in
      let u = newcomer v in
      let f = k.each id v at in
      let counted = book_moves caller_of Legal s.words s.views id v w k is (prefix_self v.history) (omega arith) (omega arith)
      (λ j e there. let h = k.callers j e there in omega arith)
      (λ known h knows. knows)
      record {
        one_book = (λ _. refl);
        legal = f.legal;
        begins = prefix_self v.history;
        old_begins = f.old_begins;
        note_begins = f.note_begins;
        counted = omega arith;
        old_counted = (let h = f.old_counted in omega arith);
        ended = knows_self v.ended v.history;
        old_ended = f.old_ended;
        note_ended = f.note_ended;
        numbered = (λ c. absurd (cc));
        names = inr (inl is);
        own = (λ c. absurd (cc));
      }
      (λ i x there c. copied i x id v id w (k.pairs i x there c id v at) refl (λ names. names) (λ b. absurd (cc)) (λ b. absurd (cc))) in
      let views = set s.views id w in
      let below : (j : ℕ) (y : View I) → get_elem? views j ≡ some y → y.kind ≡ Caller → y.number < v.made =
      each_set (λ j y. y.kind ≡ Caller → y.number < v.made) s.views id w (λ j y _ there c. let h = (k.each j y there).numbered c in let g = (k.each j y there).counted in omega (arith, h.0, g)) (λ c. absurd (cc)) in (
        id,
        w,
        subst (λ (ws : List ℕ). RuleAt caller_of Legal ws (views ++ u ∷ []) id w) (sym k.word)
            (adds caller_of Legal (length w.history ∷ []) views id w u counted
            record {
              one_book = (λ c. absurd (cc));
              legal = f.legal;
              begins = prefix_self v.history;
              old_begins = prefix_self v.history;
              note_begins = prefix_nil v.history;
              counted = omega arith;
              old_counted = omega arith;
              ended = knows_self v.ended v.history;
              old_ended = knows_none v.history v.ended v.history;
              note_ended = knows_none [] v.ended v.history;
              numbered = (λ _. (omega arith, refl));
              names = inl refl;
              own = (λ _ j e there _. inl (at_below v.history j e there));
            }
            (λ i x there c. copied i x id w (length views) u (counted.pairs i x there c id w counted.there) refl
            (λ names. absurd (cc (names, idle)))
            (λ _ same. let h = below i x there c in absurd (omega arith))
            (λ b. absurd (cc)))
            (λ _ j y there. let g = counted.each j y there in record {
              apart = (λ c same. let h = below j y there c in absurd (omega arith));
              receipt = (λ _ _. prefix_length y.history w.history g.begins);
              seen = (λ i e here mine. let h = k.callers i e (prefix_at y.history v.history i e g.begins here) in absurd (omega arith));
            })
            (λ _. record {
              apart = (λ _ _. refl);
              receipt = (λ b. absurd (cc));
              seen = (λ i e here mine. inl (at_below v.history i e here));
            })),
      )

  -- end keeps the rule, where no cause was kept
  pub ends : (id slots : ℕ) (v : View I) (c : List (ℕ × S)) (cause : EndCause) → v.kind ≡ Book → v.ended ≡ None
      → Allows Held slots id (v, c) 0 (λ n. n) (λ n w. w ≡ (ended_by v cause, c))
  ends id slots v c cause is none s kept homes at range =
      let k = at_book caller_of Legal s.words s.views id v kept at is in
      let w = ended_by v cause in
      let f = k.each id v at in
      let moved = book_moves caller_of Legal s.words s.views id v w k is (prefix_self v.history) (omega arith) k.top k.callers
      (λ known h knows. knows_nothing known v.ended h v.history knows none w.ended w.history)
      record {
        one_book = (λ _. refl);
        legal = f.legal;
        begins = prefix_self v.history;
        old_begins = f.old_begins;
        note_begins = f.note_begins;
        counted = omega arith;
        old_counted = f.old_counted;
        ended = knows_self w.ended w.history;
        old_ended = knows_nothing v.old_ended v.ended v.old_history v.history f.old_ended none w.ended w.history;
        note_ended = knows_nothing v.note_ended v.ended v.note_history v.history f.note_ended none w.ended w.history;
        numbered = (λ q. absurd (cc));
        names = inr (inl is);
        own = (λ q. absurd (cc));
      }
      (λ i x there q. copied i x id v id w (k.pairs i x there q id v at) refl (λ names. names) (λ b. absurd (cc)) (λ b. absurd (cc))) in (
        w,
        keeps,
        tt,
        (id, w, subst (λ (ws : List ℕ). RuleAt caller_of Legal ws (set s.views id w) id w) (sym (ap (λ (ws : List ℕ). set ws 0 (slice_index ws 0)) k.word)) moved),
        refl,
      )

  -- a new view that is no caller's, and copies the history of a view
  copies : (words : List ℕ) (views : List (View I)) (b : ℕ) (v : View I) (id : ℕ) (y w : View I) → RuleAt caller_of Legal words views b v → get_elem? views id ≡ some y
      → w.history ≡ y.history → w.old_history ≡ [] → w.note_history ≡ [] → w.made ≡ y.made → w.old_made ≡ 0 → w.ended ≡ y.ended → w.old_ended ≡ None → w.note_ended ≡ None → (w.kind ≡ Book → ⊥) → (w.kind ≡ Caller → ⊥)
      → ((w.in_flight ≡ None) ⊎ ((w.kind ≡ Book) ⊎ (w.kind ≡ Note)))
      → ((i : ℕ) (x : View I) → get_elem? views i ≡ some x → x.kind ≡ Caller → (y.in_flight ≡ Some x.number → w.in_flight ≡ Some x.number) × (w.kind ≡ Receipt → w.number ≡ x.number → length w.history ≤ length x.history))
      → RuleAt caller_of Legal words (views ++ w ∷ []) b v
  copies words views b v id y w k at same first second count old ends old_ends note_ends no_book no_caller who names =
      let f = k.each id y at in
      adds caller_of Legal words views b v w k
      record {
        one_book = (λ c. absurd (no_book c));
        legal = subst Legal (sym same) f.legal;
        begins = subst (λ (h : List I). IsPrefix h v.history) (sym same) f.begins;
        old_begins = subst (λ (h : List I). IsPrefix h w.history) (sym first) (prefix_nil w.history);
        note_begins = subst (λ (h : List I). IsPrefix h w.history) (sym second) (prefix_nil w.history);
        counted = (let h = f.counted in omega arith);
        old_counted = omega arith;
        ended = subst (λ (x : Option EndCause × List I). KnowsEnd x.0 x.1 v.ended v.history) (λ i. (sym ends i, sym same i)) f.ended;
        old_ended = subst (λ (x : Option EndCause). KnowsEnd x w.old_history w.ended w.history) (sym old_ends) (knows_none w.old_history w.ended w.history);
        note_ended = subst (λ (x : Option EndCause). KnowsEnd x w.note_history w.ended w.history) (sym note_ends) (knows_none w.note_history w.ended w.history);
        numbered = (λ c. absurd (no_caller c));
        names = who;
        own = (λ c. absurd (no_caller c));
      }
      (λ i x there c. let n = names i x there c in copied i x id y (length views) w (k.pairs i x there c id y at) same n.0 (λ b. absurd (no_caller b)) n.1)
      (λ c. absurd (no_caller c))
      (λ c. absurd (no_caller c))

  -- note keeps the rule, with no premise
  pub notes : (id : ℕ) (v : View I) → Splits Held id v v (note_of v)
  notes id v s kept at =
      let k = kept.2 in
      subst (λ (views : List (View I)). MeetsRule caller_of Legal s.words (views ++ note_of v ∷ [])) (sym (set_again s.views id v at))
      (kept.0, kept.1, copies s.words s.views kept.0 kept.1 id v (note_of v) k at refl refl refl refl refl refl refl refl (λ b. cc) (λ b. cc) (inr (inr refl)) (λ i x there c. ((λ n. n), (λ b. absurd (cc)))))

  -- receipt keeps the rule
  pub receipts : (id : ℕ) (v : View I) → v.kind ≡ Caller → Splits Held id v v (receipt_of v)
  receipts id v is s kept at =
      let k = kept.2 in
      subst (λ (views : List (View I)). MeetsRule caller_of Legal s.words (views ++ receipt_of v ∷ [])) (sym (set_again s.views id v at)) (
        kept.0,
        kept.1,
        copies s.words s.views kept.0 kept.1 id v (receipt_of v) k at refl refl refl refl refl refl refl refl (λ b. cc) (λ b. cc) (inl refl)
            (λ i x there c. (
              (λ n. let m = (k.each id v at).numbered is in absurd (cc (n, m.1))),
              (λ _ same.
                  let here : i ≡ id = (k.pairs i x there c id v at).apart is same in
                  let this : x ≡ v = some-injective x v (sym there ∙ (ap (λ j. get_elem? s.views j) here ∙ at)) in
                  let long : length x.history ≡ length v.history = ap (λ (z : View I). length z.history) this in omega arith),
            )),
      )

  -- read keeps the rule, and tells what it says of the seat's own view
  pub reads : (id slots : ℕ) (v : View I) (c : List (ℕ × S)) → Allows Held slots id (v, c) 0 (λ n. n) (λ n w. (w ≡ (v, c)) × IsTold caller_of Legal v)
  reads id slots v c s kept homes at range =
      let k = kept.2 in
      let f = k.each id v at in
      let h = f.counted in let h2 = k.top in (
        v,
        keeps,
        tt,
        subst (λ (views : List (View I)). MeetsRule caller_of Legal (set s.words 0 (slice_index s.words 0)) views) (sym (set_again s.views id v at))
            (subst (λ (ws : List ℕ). MeetsRule caller_of Legal ws s.views) (k.word ∙ sym (ap (λ (ws : List ℕ). set ws 0 (slice_index ws 0)) k.word)) kept),
        (refl, record { legal = f.legal; old_begins = f.old_begins; note_begins = f.note_begins; old_counted = f.old_counted; old_ended = f.old_ended; note_ended = f.note_ended; top = omega arith; callers = (λ b. (at_book caller_of Legal s.words s.views id v kept at b).callers); numbered = f.numbered; own = f.own }),
      )

  -- take keeps the rule, of a note that names nobody or this caller
  pub takes : (id : ℕ) (v : View I) (other : ℕ) (u : View I) → Legal [] → v.kind ≡ Caller → u.kind ≡ Note → (u.in_flight ≡ None) ⊎ (u.in_flight ≡ Some v.number) → Joins Held id v other u (taken v u) spent
  takes id v other u begins is note names s kept at apart there =
      let k = kept.2 in
      let b = kept.0 in
      let book = kept.1 in
      let w = taken v u in
      let h = v.history in
      let g = u.history in
      let beside : get_elem? s.views other ≡ some u =
      ⊎_elim (λ (t : (other ≡ id) × (w ≡ u)). absurd (apart t.0)) (λ (t : (other ≢ id) × (get_elem? s.views other ≡ some u)). t.1) (at_set s.views id other w u there) in
      let fv = k.each id v at in
      let fu = k.each other u beside in
      let mine_off : id ≢ b = (λ e. let same : v ≡ book = some-injective v book (sym at ∙ (ap (λ j. get_elem? s.views j) e ∙ k.there)) in let kind : v.kind ≡ book.kind = ap (λ (z : View I). z.kind) same in let q = k.is_book in cc) in
      let note_off : other ≢ b = (λ e. let same : u ≡ book = some-injective u book (sym beside ∙ (ap (λ j. get_elem? s.views j) e ∙ k.there)) in let kind : u.kind ≡ book.kind = ap (λ (z : View I). z.kind) same in let q = k.is_book in cc) in
      let first : IsPrefix h w.history = longer_is h g (λ l. IsPrefix h l) (λ _. prefix_self h) (λ lt. prefix_shorter h g book.history fv.begins fu.begins (omega arith)) in
      let second : IsPrefix g w.history = longer_is h g (λ l. IsPrefix g l) (λ le. prefix_shorter g h book.history fu.begins fv.begins le) (λ _. prefix_self g) in
      let grows : length h ≤ length w.history = prefix_length h w.history first in
      let whole : IsPrefix w.history book.history = longer_is h g (λ l. IsPrefix l book.history) (λ _. fv.begins) (λ _. fu.begins) in
      let of_h = λ (same : h ≡ book.history). prefix_between h w.history book.history first whole same in
      let of_g = λ (same : g ≡ book.history). prefix_between g w.history book.history second whole same in
      let numbered = fv.numbered is in
      let counts = fv.counted in let counts2 = fu.counted in let counts3 = fv.old_counted in
      let moved = other_moves caller_of Legal s.words s.views b book id w k mine_off
      record {
        one_book = (λ c. absurd (cc));
        legal = longer_is h g Legal (λ _. fv.legal) (λ _. fu.legal);
        begins = whole;
        old_begins = first;
        note_begins = second;
        counted = omega arith;
        old_counted = omega arith;
        ended = either_knows v.ended u.ended book.ended h g w.history book.history fv.ended fu.ended of_h of_g;
        old_ended = first_knows v.ended u.ended book.ended h w.history book.history fv.ended of_h;
        note_ended = second_knows v.ended u.ended book.ended h g w.history book.history fv.ended fu.ended of_g;
        numbered = (λ _. (omega (arith, numbered.0), numbered.1));
        names = inl numbered.1;
        own = (λ _ j e here mine. longer_is h g (λ l. get_elem? l j ≡ some e → (j < length h) ⊎ ((u.in_flight ≡ Some v.number) × (suc j ≡ length g)))
            (λ _ old. inl (at_below h j e old))
            (λ _ new. (k.pairs id v at is other u beside).seen j e new mine) here);
      }
      (λ i x off here c. let r = k.pairs i x here c id v at in let t = k.pairs i x here c other u beside in record {
        apart = (λ _ same. r.apart is same);
        receipt = (λ q. absurd (cc));
        seen = (λ j e there mine. inl (longer_is h g (λ l. get_elem? l j ≡ some e → j < length x.history)
            (λ _ old. ⊎_elim (λ (l : j < length x.history). l) (λ (q : (v.in_flight ≡ Some x.number) × (suc j ≡ length h)). absurd (cc (q.0, numbered.1))) (r.seen j e old mine))
            (λ _ new. ⊎_elim (λ (l : j < length x.history). l)
            (λ (q : (u.in_flight ≡ Some x.number) × (suc j ≡ length g)). absurd (⊎_elim (λ (none : u.in_flight ≡ None). cc (q.0)) (λ (some' : u.in_flight ≡ Some v.number). let same : v.number ≡ x.number = cc (q.0) in off (r.apart is same)) names))
            (t.seen j e new mine))
            there));
      })
      (λ c j y off here. let r = k.pairs id v at is j y here in record {
        apart = r.apart;
        receipt = (λ q same. let le = r.receipt q same in omega arith);
        seen = (λ i e there mine. ⊎_elim (λ (l : i < length h). inl (omega arith)) (λ (q : (y.in_flight ≡ Some v.number) × (suc i ≡ length y.history)). inr q) (r.seen i e there mine));
      })
      (λ c. record { apart = (λ _ _. refl); receipt = (λ q. absurd (cc)); seen = (λ i e there mine. inl (at_below w.history i e there)) }) in
      (b, book, spends caller_of Legal s.words (set s.views id w) b book other moved begins note_off)

  -- settle keeps the rule
  pub settles : (id : ℕ) (v : View I) (other : ℕ) (u : View I) → Legal [] → v.kind ≡ Book → u.kind ≡ Receipt → Joins Held id v other u (settled v u) spent
  settles id v other u begins is receipt s kept at apart there =
      let k = at_book caller_of Legal s.words s.views id v kept at is in
      let w = settled v u in
      let beside : get_elem? s.views other ≡ some u =
      ⊎_elim (λ (t : (other ≡ id) × (w ≡ u)). absurd (apart t.0)) (λ (t : (other ≢ id) × (get_elem? s.views other ≡ some u)). t.1) (at_set s.views id other w u there) in
      let fv = k.each id v at in
      let fu = k.each other u beside in
      let moved = book_moves caller_of Legal s.words s.views id v w k is (prefix_self v.history) (omega arith) k.top k.callers
      (λ known h knows. knows)
      record {
        one_book = (λ _. refl);
        legal = fv.legal;
        begins = prefix_self v.history;
        old_begins = fu.begins;
        note_begins = fv.note_begins;
        counted = omega arith;
        old_counted = fu.counted;
        ended = knows_self v.ended v.history;
        old_ended = fu.ended;
        note_ended = fv.note_ended;
        numbered = (λ c. absurd (cc));
        names = inr (inl is);
        own = (λ c. absurd (cc));
      }
      (λ i x here c. record {
        apart = (λ q. absurd (cc));
        receipt = (λ q. absurd (cc));
        seen = (λ j e there mine. ⊎_elim
            (λ (l : j < length x.history). inl l)
            (λ (q : (v.in_flight ≡ Some x.number) × (suc j ≡ length v.history)). ⊎_elim
            (λ (same : w.in_flight ≡ v.in_flight). inr (same ∙ q.0, q.1))
            (λ (t : (w.in_flight ≡ None) × (v.in_flight ≡ Some u.number) × (length u.history ≡ length v.history)).
            let same : u.number ≡ x.number = cc (q.0, t.1) in
            let le = (k.pairs i x here c other u beside).receipt receipt same in
            inl (omega (arith, q.1, t.2)))
            (in_flight_cases v.in_flight u.number (length u.history) (length v.history)))
            ((k.pairs i x here c id v at).seen j e there mine));
      }) in (
        id,
        w,
        subst (λ (ws : List ℕ). RuleAt caller_of Legal ws (set (set s.views id w) other spent) id w) (sym k.word)
            (spends caller_of Legal (length v.history ∷ []) (set s.views id w) id w other moved begins apart),
      )

  -- append, where the list that is written is told in another way
  pub appends_as : (id slots : ℕ) (v : View I) (c : List (ℕ × S)) (e : I) (written : List I) → written ≡ v.history ++ e ∷ [] → v.kind ≡ Book → v.in_flight ≡ None → v.ended ≡ None → caller_of e < v.made → Legal (v.history ++ e ∷ []) → length (v.history ++ e ∷ []) < 2 ^ 64
      → Allows Held slots id (v, c) 0 (λ n. (n + 1) % 2 ^ 64) (λ n w. (d : I) × (written ≡ v.history ++ d ∷ []) × (w ≡ (appended caller_of v d, c)))
  appends_as id slots v c e written same is idle none below legal fits =
      subst (λ (l : List I). Allows Held slots id (v, c) 0 (λ n. (n + 1) % 2 ^ 64) (λ n w. (d : I) × (l ≡ v.history ++ d ∷ []) × (w ≡ (appended caller_of v d, c)))) (sym same) (appends id slots v c e is idle none below legal fits)
