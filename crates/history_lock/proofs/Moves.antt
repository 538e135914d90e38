-- The rule after a change of one view, or with one view more.
use Rattle.std.proofs.Common.{◌≡◌, ◌≢◌, ℕ, ◌<◌, ◌≤◌, inl, List, [], ◌∷◌, ◌++◌, length, set, Option, None, refl, sym, ap, ◌∙◌, subst, arith}
use mathlib.Core.List.{IsPrefix}
use mathlib.Core.Option.{some, some-injective, some-ne-none}
use lib.ListN.{get_elem?}
use Rattle.atomic_table.proofs.Lists.{at_longer, set_here, set_else}
use Rattle.history_lock.specs.declared.machine.TheConstants.{MOST_PASSES}
use Rattle.history_lock.specs.declared.view.Kind.TheVariants.{Book, Caller}
use Rattle.history_lock.specs.declared.view.View.{View}
use Rattle.history_lock.specs.Rule.{FitsBook, Reaches, RuleAt, MeetsRule}
use Rattle.history_lock.specs.Kinds.{spent}
use Rattle.history_lock.specs.declared.machine.EndCause.{EndCause}
use Rattle.history_lock.specs.Causes.{KnowsEnd}
use Rattle.history_lock.proofs.Knowing.{knows_none}
use Rattle.history_lock.proofs.Prefixes.{prefix_nil, prefix_trans, at_below}
use Rattle.history_lock.proofs.Places.{each_set, each_push, pairs_set, pairs_push}

module _ {I : Type 0} (caller_of : I → ℕ) (Legal : List I → Type 0) where
  abbrev IsCaller : View I → Type 0
  IsCaller x = x.kind ≡ Caller

  abbrev Reach : ℕ → View I → ℕ → View I → Type 0
  Reach = Reaches caller_of Legal

  -- the book's seat is the one that the rule speaks of
  pub at_book : (words : List ℕ) (views : List (View I)) (id : ℕ) (v : View I) → MeetsRule caller_of Legal words views → get_elem? views id ≡ some v → v.kind ≡ Book → RuleAt caller_of Legal words views id v
  at_book words views id v kept at is =
      let k = kept.2 in
      let here : id ≡ kept.0 = (k.each id v at).one_book is in
      let same : v ≡ kept.1 = some-injective v kept.1 (sym at ∙ (ap (λ j. get_elem? views j) here ∙ k.there)) in
      subst (λ (p : ℕ × View I). RuleAt caller_of Legal words views p.0 p.1) (λ i. (sym here i, sym same i)) k

  -- the book's view has changed
  pub book_moves : (words : List ℕ) (views : List (View I)) (b : ℕ) (v w : View I) → RuleAt caller_of Legal words views b v
      → w.kind ≡ Book
      → IsPrefix v.history w.history
      → v.made ≤ w.made
      → w.made ≤ MOST_PASSES
      → ((k : ℕ) (e : I) → get_elem? w.history k ≡ some e → caller_of e < w.made)
      → ((known : Option EndCause) (h : List I) → KnowsEnd known h v.ended v.history → KnowsEnd known h w.ended w.history)
      → FitsBook caller_of Legal b w b w
      → ((i : ℕ) (x : View I) → get_elem? views i ≡ some x → IsCaller x → Reach i x b w)
      → RuleAt caller_of Legal (length w.history ∷ []) (set views b w) b w
  book_moves words views b v w k is longer more top callers knows fits reaches =
      record {
        there = set_here views b w (at_below views b v k.there);
        is_book = is;
        word = refl;
        top = top;
        callers = callers;
        each = each_set (λ j u. FitsBook caller_of Legal b w j u) views b w
            (λ j u _ at. let f = k.each j u at in record {
              one_book = f.one_book;
              legal = f.legal;
              begins = prefix_trans u.history v.history w.history f.begins longer;
              old_begins = f.old_begins;
              note_begins = f.note_begins;
              counted = (let h = f.counted in omega arith);
              old_counted = f.old_counted;
              ended = knows u.ended u.history f.ended;
              old_ended = f.old_ended;
              note_ended = f.note_ended;
              numbered = f.numbered;
              names = f.names;
              own = f.own;
            })
            fits;
        pairs = pairs_set IsCaller Reach views b w k.pairs
            (λ i x _ at c. reaches i x at c)
            (λ c. absurd (cc))
            (λ c. absurd (cc));
      }

  -- one view more
  pub adds : (words : List ℕ) (views : List (View I)) (b : ℕ) (v w : View I) → RuleAt caller_of Legal words views b v
      → FitsBook caller_of Legal b v (length views) w
      → ((i : ℕ) (x : View I) → get_elem? views i ≡ some x → IsCaller x → Reach i x (length views) w)
      → (IsCaller w → (j : ℕ) (y : View I) → get_elem? views j ≡ some y → Reach (length views) w j y)
      → (IsCaller w → Reach (length views) w (length views) w)
      → RuleAt caller_of Legal words (views ++ w ∷ []) b v
  adds words views b v w k fits to from self =
      record {
        there = at_longer views (w ∷ []) b v k.there;
        is_book = k.is_book;
        word = k.word;
        top = k.top;
        callers = k.callers;
        each = each_push (λ j u. FitsBook caller_of Legal b v j u) views w k.each fits;
        pairs = pairs_push IsCaller Reach views w k.pairs to from self;
      }

  -- a view that is not the book's has changed
  pub other_moves : (words : List ℕ) (views : List (View I)) (b : ℕ) (v : View I) (n : ℕ) (w : View I) → RuleAt caller_of Legal words views b v
      → n ≢ b
      → FitsBook caller_of Legal b v n w
      → ((i : ℕ) (x : View I) → i ≢ n → get_elem? views i ≡ some x → IsCaller x → Reach i x n w)
      → (IsCaller w → (j : ℕ) (y : View I) → j ≢ n → get_elem? views j ≡ some y → Reach n w j y)
      → (IsCaller w → Reach n w n w)
      → RuleAt caller_of Legal words (set views n w) b v
  other_moves words views b v n w k apart fits to from self =
      record {
        there = set_else views n b w (λ e. apart (sym e)) ∙ k.there;
        is_book = k.is_book;
        word = k.word;
        top = k.top;
        callers = k.callers;
        each = each_set (λ j u. FitsBook caller_of Legal b v j u) views n w (λ j u _ at. k.each j u at) fits;
        pairs = pairs_set IsCaller Reach views n w k.pairs to from self;
      }

  -- a view that is spent
  pub spends : (words : List ℕ) (views : List (View I)) (b : ℕ) (v : View I) (n : ℕ) → RuleAt caller_of Legal words views b v → Legal [] → n ≢ b
      → RuleAt caller_of Legal words (set views n spent) b v
  spends words views b v n k begins apart =
      other_moves words views b v n spent k apart
      record {
        one_book = (λ e. absurd (cc));
        legal = begins;
        begins = prefix_nil v.history;
        old_begins = prefix_nil [];
        note_begins = prefix_nil [];
        counted = omega arith;
        old_counted = omega arith;
        ended = knows_none [] v.ended v.history;
        old_ended = knows_none [] None [];
        note_ended = knows_none [] None [];
        numbered = (λ e. absurd (cc));
        names = inl refl;
        own = (λ e. absurd (cc));
      }
      (λ i x _ at c. record {
        apart = (λ e. absurd (cc));
        receipt = (λ e. absurd (cc));
        seen = (λ k e none. absurd (some-ne-none e (sym none)));
      })
      (λ e. absurd (cc))
      (λ e. absurd (cc))
