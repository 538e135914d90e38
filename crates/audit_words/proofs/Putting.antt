-- Bytes that are put into a buffer, one after the other.
use Rattle.std.proofs.Common.{◌≡◌, ◌≤◌, ◌<◌, ◌+◌, ◌-◌, ◌/◌, ◌%◌, ◌^◌, ◌++◌, [], ◌∷◌, Bool, true, false, cond, min, List, ℕ, suc, refl, sym, ◌∙◌, ap, length, take, get_or, append_assoc, length-append, arith}
use Rattle.std.specs.Prelude.{nat_le}
use Rattle.std.proofs.lemmas.List.{append-nil, take_more, take_all}
use Rattle.std.proofs.lemmas.Bool.Decides.{nat_tests}
use Rattle.authority_model.specs.Cookies.{hex, hex_digit}
use Rattle.audit_words.specs.Codecs.{Piece, Codec, spell_items}
use Rattle.audit_words.specs.Escapes.{escaped, escaped_byte}
use Rattle.audit_words.specs.Lines.{written}
use Rattle.audit_words.specs.Buffers.{Buffered, counted, kept_within, put}
use Rattle.audit_words.proofs.Written.{written_append, written_cons, written_nil}

abbrev pub buffered : ℕ → ℕ → List ℕ → Buffered
buffered room count kept = record { room = room; count = count; kept = kept }

same_buffer : (room c d : ℕ) (k l : List ℕ) → c ≡ d → k ≡ l → buffered room c k ≡ buffered room d l
same_buffer room c d k l e f = rw (e, f) refl

counted_twice : (count : ℕ) (a b : List ℕ) → counted (counted count (length a)) (length b) ≡ counted count (length (a ++ b))
counted_twice count a b = rw length-append (omega arith)

fits_before : (room count more : ℕ) → count ≤ 2 ^ 64 - 1 → nat_le (counted count more) room ≡ true → nat_le count room ≡ true
fits_before room count more most e = grind (arith, nat_tests)

kept_twice : (p q : Bool) (k a b : List ℕ) → (q ≡ true → p ≡ true) → cond q (cond p (k ++ a) [] ++ b) [] ≡ cond q (k ++ (a ++ b)) []
kept_twice true true k a b h = append_assoc k a b
kept_twice false true k a b h = let e : false ≡ true = h refl in absurd cc
kept_twice p false k a b h = refl

pub put_put : (s : Buffered) (a b : List ℕ) → put (put s a) b ≡ put s (a ++ b)
unfolding put
put_put s a b =
    let n : ℕ = counted s.count (length a) in
    let e : counted n (length b) ≡ counted s.count (length (a ++ b)) = counted_twice s.count a b in
    let most : n ≤ 2 ^ 64 - 1 = omega arith in
    same_buffer s.room _ _ _ _ e
    (kept_twice (nat_le n s.room) (nat_le (counted n (length b)) s.room) s.kept a b (fits_before s.room n (length b) most)
    ∙ ap (λ (m : ℕ). kept_within s.room m (s.kept ++ (a ++ b))) e)

pub ruleset put_rules = (put_put, written_append, written_cons, written_nil, append_assoc, append-nil)

-- there was room
pub put_kept : (room count after : ℕ) (kept bytes new : List ℕ) → after ≡ counted count (length bytes) → after ≤ room → new ≡ kept ++ bytes
    → buffered room after new ≡ put (buffered room count kept) bytes
unfolding put
put_kept room count after kept bytes new e fits is =
    let t : nat_le after room ≡ true = grind (arith, nat_tests) in
    same_buffer room _ _ _ _ e (is ∙ sym (ap (λ (m : ℕ). kept_within room m (kept ++ bytes)) (sym e) ∙ ap (λ (b : Bool). cond b (kept ++ bytes) []) t))

-- there was none
pub put_lost : (room count after : ℕ) (kept bytes new : List ℕ) → after ≡ counted count (length bytes) → room < after → new ≡ []
    → buffered room after new ≡ put (buffered room count kept) bytes
unfolding put
put_lost room count after kept bytes new e over is =
    let t : nat_le after room ≡ false = grind (arith, nat_tests) in
    same_buffer room _ _ _ _ e (is ∙ sym (ap (λ (m : ℕ). kept_within room m (kept ++ bytes)) (sym e) ∙ ap (λ (b : Bool). cond b (kept ++ bytes) []) t))

-- ---- one after the other

pub then_put : (old mid new : Buffered) (a b : List ℕ) → mid ≡ put old a → new ≡ put mid b → new ≡ put old (a ++ b)
then_put old mid new a b e f = f ∙ ap (λ (s : Buffered). put s b) e ∙ put_put old a b

escaped_append : (xs ys : List ℕ) → escaped (xs ++ ys) ≡ escaped xs ++ escaped ys
escaped_append [] ys = refl
escaped_append (x ∷ xs) ys = ap (λ (t : List ℕ). escaped_byte x ++ t) (escaped_append xs ys) ∙ sym (append_assoc (escaped_byte x) (escaped xs) (escaped ys))

-- one more byte of a text
pub byte_put : (old line new : Buffered) (bytes : List ℕ) (i d : ℕ) → i < length bytes → new ≡ put line (escaped_byte (get_or bytes i d))
    → line ≡ put old (32 ∷ escaped (take i bytes)) → new ≡ put old (32 ∷ escaped (take (i + 1) bytes))
byte_put old line new bytes i d lt push so_far =
    let b : ℕ = get_or bytes i d in
    let grown : escaped (take (i + 1) bytes) ≡ escaped (take i bytes) ++ escaped_byte b =
    ap escaped (take_more bytes i d lt) ∙ escaped_append (take i bytes) (b ∷ [])
    ∙ ap (λ (t : List ℕ). escaped (take i bytes) ++ t) (append-nil (escaped_byte b)) in
    then_put old line new (32 ∷ escaped (take i bytes)) (escaped_byte b) so_far push ∙ ap (λ (t : List ℕ). put old (32 ∷ t)) (sym grown)

-- all bytes of a text
pub bytes_put : (old line : Buffered) (bytes : List ℕ) (i : ℕ) → length bytes ≤ i → line ≡ put old (32 ∷ escaped (take i bytes)) → line ≡ put old (32 ∷ escaped bytes)
bytes_put old line bytes i le so_far = so_far ∙ ap (λ (t : List ℕ). put old (32 ∷ escaped t)) (take_all i bytes le)

items_append : (A : Type 0) (c : Codec A) (xs ys : List A) → spell_items c (xs ++ ys) ≡ spell_items c xs ++ spell_items c ys
items_append A c [] ys = refl
items_append A c (x ∷ xs) ys = ap (λ (t : List Piece). c.spell x ++ t) (items_append A c xs ys) ∙ sym (append_assoc (c.spell x) (spell_items c xs) (spell_items c ys))

-- one more item, behind the words that stand before the items
pub item_put : (A : Type 0) (c : Codec A) (old line new : Buffered) (front : List Piece) (items : List A) (i : ℕ) (item : A) → i < length items → item ≡ get_or items i item
    → new ≡ put line (written (c.spell item)) → line ≡ put old (written (front ++ spell_items c (take i items))) → new ≡ put old (written (front ++ spell_items c (take (i + 1) items)))
item_put A c old line new front items i item lt is push so_far =
    let grown : spell_items c (take (i + 1) items) ≡ spell_items c (take i items) ++ c.spell item =
    ap (spell_items c) (take_more items i item lt ∙ ap (λ (x : A). take i items ++ x ∷ []) (sym is)) ∙ items_append A c (take i items) (item ∷ [])
    ∙ ap (λ (t : List Piece). spell_items c (take i items) ++ t) (append-nil (c.spell item)) in
    let whole : front ++ spell_items c (take (i + 1) items) ≡ (front ++ spell_items c (take i items)) ++ c.spell item =
    ap (λ (t : List Piece). front ++ t) grown ∙ sym (append_assoc front (spell_items c (take i items)) (c.spell item)) in
    then_put old line new (written (front ++ spell_items c (take i items))) (written (c.spell item)) so_far push
    ∙ ap (put old) (sym (written_append (front ++ spell_items c (take i items)) (c.spell item)) ∙ ap written (sym whole))

-- all items
pub items_put : (A : Type 0) (c : Codec A) (old line : Buffered) (front : List Piece) (items : List A) (i : ℕ) → length items ≤ i
    → line ≡ put old (written (front ++ spell_items c (take i items))) → line ≡ put old (written (front ++ spell_items c items))
items_put A c old line front items i le so_far = so_far ∙ ap (λ (vs : List A). put old (written (front ++ spell_items c vs))) (take_all i items le)

-- what one call put after another
pub words_put : (old mid new : Buffered) (a b : List Piece) → mid ≡ put old (written a) → new ≡ put mid (written b) → new ≡ put old (written (a ++ b))
words_put old mid new a b e f = then_put old mid new (written a) (written b) e f ∙ ap (put old) (sym (written_append a b))

-- ---- hexadecimal digits, from the first one

hex_more : (digits less n : ℕ) → digits ≡ suc less → hex digits n ≡ hex less (n / 16) ++ hex_digit (n % 16) ∷ []
unfolding hex
hex_more digits less n e = rw e refl

-- the last one is the only one
pub one_digit : (old new : Buffered) (digits n digit : ℕ) → digits ≡ 1 → digit ≡ hex_digit (n % 16) → new ≡ put old (digit ∷ []) → new ≡ put old (hex digits n)
unfolding hex
one_digit old new digits n digit one is push = rw (one, push, is) refl

-- the last one stands behind those of the sixteenth
pub last_digit : (old mid new : Buffered) (digits n digit : ℕ) → 0 < digits → digit ≡ hex_digit (n % 16) → mid ≡ put old (hex (digits - 1) (n / 16)) → new ≡ put mid (digit ∷ [])
    → new ≡ put old (hex digits n)
last_digit old mid new digits n digit some is front push =
    let k : digits ≡ suc (digits - 1) = omega arith in
    then_put old mid new (hex (digits - 1) (n / 16)) (digit ∷ []) front push
    ∙ ap (λ (d : ℕ). put old (hex (digits - 1) (n / 16) ++ d ∷ [])) is ∙ ap (put old) (sym (hex_more digits (digits - 1) n k))
