-- Lines that are taken one after another.
use Rattle.std.proofs.Common.{◌≡◌, ◌≢◌, ℕ, ◌<◌, ◌≤◌, List, [], ◌∷◌, ◌++◌, Option, Some, None, refl, ap, sym, ◌∙◌, subst, arith}
use Rattle.std.specs.Prelude.{◌==◌, ◌||◌, Bool, true, false, if◌then◌else◌, length, slice_index_or, slice_set}
use Rattle.std.specs.Option.{option_map_or}
use Rattle.std.proofs.Math.Bool.{or-false}
use Rattle.std.proofs.lemmas.Bool.{eqb-true, eqb-false, eq-eqb, ne_eqb}
use Rattle.authority_model.specs.Lists.{Each, or_else}
use Rattle.journal_scan.specs.declared.callers.Place.{Place}
use Rattle.journal_scan.specs.declared.lines.ConnectionLine.{ConnectionLine}
use Rattle.journal_scan.specs.Lines.{HasOwnNumbers, IsFree, NumbersDiffer, is_number, is_sighter, uid_on, watched_by}
use Rattle.journal_scan.specs.Standing.{IsUntaken, place_of, stage_of, with_sighter, with_uid}
use Rattle.journal_scan.specs.Tables.{IsTable}
use Rattle.journal_scan.proofs.Tables.{table_set}

-- the uid on one more line comes after those on the lines before it
uid_push : (lines : List ConnectionLine) (l : ConnectionLine) (c : ℕ) → uid_on (lines ++ l ∷ []) c ≡ or_else (uid_on lines c) (if l.number == c then Some l.uid else None)
uid_push [] l c = refl
uid_push (m ∷ lines) l c = of (m.number == c) (uid_push lines l c)
  where
    of : (b : Bool) → uid_on (lines ++ l ∷ []) c ≡ or_else (uid_on lines c) (if l.number == c then Some l.uid else None) → (if b then Some m.uid else uid_on (lines ++ l ∷ []) c) ≡ or_else (if b then Some m.uid else uid_on lines c) (if l.number == c then Some l.uid else None)
    of true rest = refl
    of false rest = rest

-- and so does its sighter
sighter_push : (lines : List ConnectionLine) (l : ConnectionLine) (c : ℕ) → is_sighter (lines ++ l ∷ []) c ≡ (is_sighter lines c || watched_by l c)
sighter_push [] l c = or-false (watched_by l c)
sighter_push (m ∷ lines) l c = of (watched_by m c) (sighter_push lines l c)
  where
    of : (b : Bool) → is_sighter (lines ++ l ∷ []) c ≡ (is_sighter lines c || watched_by l c) → (b || is_sighter (lines ++ l ∷ []) c) ≡ ((b || is_sighter lines c) || watched_by l c)
    of true rest = refl
    of false rest = rest

pub each_push : (P : ConnectionLine → Type 0) (lines : List ConnectionLine) (l : ConnectionLine) → Each P lines → P l → Each P (lines ++ l ∷ [])
each_push P [] l each here = (here, tt)
each_push P (m ∷ lines) l each here = (each.0, each_push P lines l each.1 here)

-- the numbers go on to differ
pub differ_push : (lines : List ConnectionLine) (l : ConnectionLine) → NumbersDiffer lines → HasOwnNumbers lines l → NumbersDiffer (lines ++ l ∷ [])
differ_push [] l differ own = (record { sighter = own.sighter; others = (λ n is. tt) }, tt)
differ_push (m ∷ lines) l differ own = (
  record { sighter = differ.0.sighter; others = (λ n is. each_push (λ x. is_number x n ≡ false) lines l (differ.0.others n is) (not_both n is (is_number l n) refl)) },
  differ_push lines l differ.1 (record { sighter = own.sighter; others = (λ n is. (own.others n is).1) }),
)
  where
    not_both : (n : ℕ) → is_number m n ≡ true → (b : Bool) → is_number l n ≡ b → is_number l n ≡ false
    not_both n of_m true of_l = let never : false ≡ true = sym (own.others n of_l).0 ∙ of_m in absurd (cc (never))
    not_both n of_m false of_l = of_l

-- a number that is on no line, and that of no sighter, is free
free_of : (lines : List ConnectionLine) (n : ℕ) → uid_on lines n ≡ None → is_sighter lines n ≡ false → IsFree lines n
free_of [] n uid looks = tt
free_of (m ∷ lines) n uid looks = of (m.number == n) refl (watched_by m n) refl uid looks (free_of lines n)
  where
    of : (a : Bool) → (m.number == n) ≡ a → (b : Bool) → watched_by m n ≡ b → (if a then Some m.uid else uid_on lines n) ≡ None → (b || is_sighter lines n) ≡ false
        → (uid_on lines n ≡ None → is_sighter lines n ≡ false → IsFree lines n) → IsFree (m ∷ lines) n
    of true is b at none untold rest = absurd (cc (none))
    of false is true at none untold rest = absurd (cc (untold))
    of false is false at none untold rest = (cc (is, at), rest none untold)

-- an untaken place: its number is free
untaken_free : (lines : List ConnectionLine) (n : ℕ) → IsUntaken (place_of lines [] n) → IsFree lines n
untaken_free lines n untaken = free_of lines n untaken.uid untaken.looks

-- the numbers of a line without a sighter
pub own_alone : (lines : List ConnectionLine) (l : ConnectionLine) → l.sighter ≡ None → IsUntaken (place_of lines [] l.number) → HasOwnNumbers lines l
own_alone lines l alone untaken = record {
  sighter = (λ s is. let never : None ≡ Some s = sym alone ∙ is in absurd (cc (never)));
  others = (λ n is. of n (l.number == n) refl is);
}
  where
    of : (n : ℕ) (b : Bool) → (l.number == n) ≡ b → is_number l n ≡ true → IsFree lines n
    of n true same is = subst (IsFree lines) (eqb-true l.number n same) (untaken_free lines l.number untaken)
    of n false same is = let never : false ≡ true = cc (alone, same, is) in absurd (cc (never))

-- the numbers of a line and its sighter
pub own_both : (lines : List ConnectionLine) (l : ConnectionLine) (s : ℕ) → l.sighter ≡ Some s → s ≢ 0 → IsUntaken (place_of lines [] l.number)
    → IsUntaken (if l.number == s then with_uid l.uid (place_of lines [] s) else place_of lines [] s) → HasOwnNumbers lines l
own_both lines l s looks some untaken other = at (l.number == s) refl other
  where
    own : l.number ≢ s → IsUntaken (place_of lines [] s) → HasOwnNumbers lines l
    own differ free = record {
      sighter = (λ t is. let same : s ≡ t = cc (looks, is) in (λ zero. some (same ∙ zero), λ one. differ (sym (same ∙ one))));
      others = (λ n is. of n (l.number == n) refl (s == n) refl is);
    }
      where
        of : (n : ℕ) (a : Bool) → (l.number == n) ≡ a → (b : Bool) → (s == n) ≡ b → is_number l n ≡ true → IsFree lines n
        of n true first b second is = subst (IsFree lines) (eqb-true l.number n first) (untaken_free lines l.number untaken)
        of n false first true second is = subst (IsFree lines) (eqb-true s n second) (untaken_free lines s free)
        of n false first false second is = let never : false ≡ true = cc (looks, first, second, is) in absurd (cc (never))

    at : (b : Bool) → (l.number == s) ≡ b → IsUntaken (if b then with_uid l.uid (place_of lines [] s) else place_of lines [] s) → HasOwnNumbers lines l
    at true is free = let never : Some l.uid ≡ None = free.uid in absurd (cc (never))
    at false is free = own (eqb-false l.number s is) free

written : (b : Bool) (uid : ℕ) (p : Place) → (if b then with_uid uid p else p) ≡ record { uid = (if b then Some uid else p.uid); looks = p.looks; stage = p.stage }
written true uid p = refl
written false uid p = refl

watched : (b : Bool) (p : Place) → (if b then with_sighter p else p) ≡ record { uid = p.uid; looks = b || p.looks; stage = p.stage }
watched true p = refl
watched false p = refl

or_none : (o : Option ℕ) → or_else o None ≡ o
or_none None = refl
or_none (Some x) = refl

either_way : (a b : Bool) → (a || b) ≡ (b || a)
either_way true true = refl
either_way true false = refl
either_way false true = refl
either_way false false = refl

-- the uid of a number after one more line
uid_more : (lines : List ConnectionLine) (l : ConnectionLine) (c : ℕ) → IsUntaken (place_of lines [] l.number) → (if l.number == c then Some l.uid else uid_on lines c) ≡ uid_on (lines ++ l ∷ []) c
uid_more lines l c untaken = of (l.number == c) refl ∙ sym (uid_push lines l c)
  where
    of : (b : Bool) → (l.number == c) ≡ b → (if b then Some l.uid else uid_on lines c) ≡ or_else (uid_on lines c) (if b then Some l.uid else None)
    of true is =
        let none : uid_on lines c ≡ None = subst (λ (n : ℕ). uid_on lines n ≡ None) (eqb-true l.number c is) untaken.uid in
        ap (λ (o : Option ℕ). or_else o (Some l.uid)) (sym none)
    of false is = sym (or_none (uid_on lines c))

abbrev place : Option ℕ → Bool → ℕ → Place
place uid looks c = record { uid = uid; looks = looks; stage = stage_of [] c }

same_place : {u v : Option ℕ} {a b : Bool} (c : ℕ) → u ≡ v → a ≡ b → place u a c ≡ place v b c
same_place c p q = cc

-- the place of a number after one more line without a sighter
pub place_alone : (lines : List ConnectionLine) (l : ConnectionLine) (c : ℕ) → l.sighter ≡ None → IsUntaken (place_of lines [] l.number)
    → (if l.number == c then with_uid l.uid (place_of lines [] c) else place_of lines [] c) ≡ place_of (lines ++ l ∷ []) [] c
place_alone lines l c alone untaken =
    let none : watched_by l c ≡ false = ap (λ (o : Option ℕ). option_map_or (λ s. s == c) o false) alone in
    let looks : is_sighter (lines ++ l ∷ []) c ≡ is_sighter lines c = sighter_push lines l c ∙ (ap (λ (b : Bool). is_sighter lines c || b) none ∙ or-false (is_sighter lines c)) in
    written (l.number == c) l.uid (place_of lines [] c) ∙ same_place c (uid_more lines l c untaken) (sym looks)

-- the place of a number after one more line with a sighter
pub place_both : (lines : List ConnectionLine) (l : ConnectionLine) (s c : ℕ) → l.sighter ≡ Some s → IsUntaken (place_of lines [] l.number)
    → (if s == c then with_sighter (if l.number == c then with_uid l.uid (place_of lines [] c) else place_of lines [] c) else (if l.number == c then with_uid l.uid (place_of lines [] c) else place_of lines [] c)) ≡ place_of (lines ++ l ∷ []) [] c
place_both lines l s c watches untaken =
    let some : watched_by l c ≡ (s == c) = ap (λ (o : Option ℕ). option_map_or (λ t. t == c) o false) watches in
    let looks : is_sighter (lines ++ l ∷ []) c ≡ ((s == c) || is_sighter lines c) = sighter_push lines l c ∙ (ap (λ (b : Bool). is_sighter lines c || b) some ∙ either_way (is_sighter lines c) (s == c)) in
    let inner : Place = if l.number == c then with_uid l.uid (place_of lines [] c) else place_of lines [] c in
    watched (s == c) inner
    ∙ (ap (λ (p : Place). record { uid = p.uid; looks = (s == c) || p.looks; stage = p.stage }) (written (l.number == c) l.uid (place_of lines [] c))
    ∙ same_place c (uid_more lines l c untaken) (sym looks))

-- the place of one number is written
pub place_set : (size n : ℕ) (f : ℕ → Place) (g : Place → Place) (rows : List Place) (old : Place) → IsTable size (λ c place. place ≡ f c) rows → n < length rows → old ≡ slice_index_or rows n old
    → (old ≡ f n) × IsTable size (λ c place. place ≡ (if n == c then g (f c) else f c)) (slice_set rows n (g old))
place_set size n f g rows old table inside is =
    let old_is : old ≡ f n = is ∙ table.each n old inside in
    let new_is : g old ≡ (if n == n then g (f n) else f n) = ap g old_is ∙ ap (λ (b : Bool). if b then g (f n) else f n) (sym (eq-eqb n n refl)) in (
      old_is,
      table_set size (λ c place. place ≡ f c) (λ c place. place ≡ (if n == c then g (f c) else f c)) rows n (g old) table inside new_is
          (λ c x other holds. holds ∙ ap (λ (b : Bool). if b then g (f c) else f c) (sym (ne_eqb n c (λ e. other (sym e))))),
    )

-- numbers below one bound are below a greater one
pub each_below : (n m : ℕ) (lines : List ConnectionLine) → n ≤ m → Each (λ l. l.number < n) lines → Each (λ l. l.number < m) lines
each_below n m [] le each = tt
each_below n m (l ∷ lines) le each = let below : l.number < n = each.0 in (omega (arith, below, le), each_below n m lines le each.1)
