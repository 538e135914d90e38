-- The lines of a text, one after the other, and how long they are.
use Rattle.std.proofs.Common.{◌≡◌, ◌<◌, ◌≤◌, ◌+◌, ◌^◌, ℕ, Bool, true, cond, List, [], ◌∷◌, ◌++◌, codes, length, get_or, take, drop, All, arith, refl, sym, ◌∙◌, ap, subst, append-nil, add-one, drop-cons}
use Rattle.std.specs.Prelude.{nat_le}
use Rattle.std.specs.List.{concat, flat_map}
use Rattle.std.proofs.lemmas.Bool.Decides.{nat_tests}
use Rattle.std.proofs.lemmas.List.{take_more, take_all, take-append-drop, take-append-le, drop-append-le, drop_all}
use Rattle.std.proofs.lemmas.List.Concat.{flat_map-append}
use Rattle.std.proofs.lemmas.List.Folds.{concat-append}
use Rattle.std.proofs.lemmas.List.Elements.{All-nil, All-cons, All-same, All-append, All-weaker, All-take, All-drop}
use Rattle.authority_model.specs.declared.journal.History.{History}
use Rattle.authority_model.specs.declared.load.Loaded.{Loaded}
use Rattle.audit_words.specs.Buffers.{Buffered, counted, emptied, put}
use Rattle.audit_words.specs.Escapes.{text}
use Rattle.audit_values.specs.Policies.{action, rule_entry, file_fault}
use Rattle.audit_values.specs.Worlds.{user, group, session, process}
use Rattle.audit_values.specs.Entries.{entry}
use Rattle.audit_text.specs.declared.writing.TheConstants.{PIECE}
use Rattle.audit_text.specs.Audit.{load, load_head, load_head_of, first_line, history_headed, audit_text}
use Rattle.audit_text.specs.Lines.{LineCodec, line, spell_items}
use Rattle.audit_text.specs.Writes.{item_lines, load_lines, history_lines, IsWithin, HasRoom}

-- ---- the lines of several values

-- those of one more value
pub more_lines : {V : Type 0} (f : V → List (List ℕ)) (vs : List V) (i : ℕ) (v : V) → i < length vs → v ≡ get_or vs i v → flat_map f (take (i + 1) vs) ≡ flat_map f (take i vs) ++ f v
more_lines {V} f vs i v lt is =
    ap (flat_map f) (take_more vs i v lt ∙ ap (λ (x : V). take i vs ++ x ∷ []) (sym is))
    ∙ flat_map-append f (take i vs) (v ∷ [])
    ∙ ap (λ (t : List (List ℕ)). flat_map f (take i vs) ++ t) (append-nil (f v))

pub all_lines : {V : Type 0} (f : V → List (List ℕ)) (vs : List V) (i : ℕ) → length vs ≤ i → flat_map f (take i vs) ≡ flat_map f vs
all_lines f vs i le = ap (flat_map f) (take_all i vs le)

-- those of the first values, those of this one, and those of the others
pub split_lines : {V : Type 0} (f : V → List (List ℕ)) (vs : List V) (i : ℕ) (v : V) → i < length vs → v ≡ get_or vs i v
    → flat_map f vs ≡ flat_map f (take i vs) ++ (f v ++ flat_map f (drop (i + 1) vs))
split_lines {V} f vs i v lt is =
    let parts : drop i vs ≡ v ∷ drop (i + 1) vs = drop-cons vs i v lt ∙ rw (← is, add-one) refl in
    ap (flat_map f) (sym (take-append-drop i vs))
    ∙ flat_map-append f (take i vs) (drop i vs)
    ∙ ap (λ (t : List V). flat_map f (take i vs) ++ flat_map f t) parts

-- ---- the bytes of the lines

pub items_text : {V : Type 0} (c : LineCodec V) (vs : List V) → concat (item_lines c vs) ≡ spell_items c vs
items_text c [] = refl
items_text c (v ∷ vs) = ap (λ (t : List ℕ). c.spell v ++ t) (items_text c vs)

then_text : {V : Type 0} (c : LineCodec V) (vs : List V) (ls : List (List ℕ)) (t : List ℕ) → concat ls ≡ t → concat (item_lines c vs ++ ls) ≡ spell_items c vs ++ t
then_text c vs ls t e =
    concat-append (item_lines c vs) ls
    ∙ ap (λ (s : List ℕ). s ++ concat ls) (items_text c vs)
    ∙ ap (λ (s : List ℕ). spell_items c vs ++ s) e

pub load_text : (l : Loaded) → concat (load_lines l) ≡ load.spell l
load_text l = ap (λ (t : List ℕ). (line (codes "load") load_head).spell (load_head_of l) ++ t)
    (then_text (line (codes "action") action) l.policy.actions _ _
    (then_text (line (codes "rule") rule_entry) l.policy.entries _ _
    (then_text (line (codes "admin") text) l.policy.admins _ _
    (then_text (line (codes "user") user) l.world.users _ _
    (then_text (line (codes "group") group) l.world.groups _ _
    (then_text (line (codes "session") session) l.world.sessions _ _
    (then_text (line (codes "process") process) l.world.processes _ _
    (items_text (line (codes "fault") file_fault) l.faults))))))))

loads_text : (ls : List Loaded) → concat (flat_map load_lines ls) ≡ spell_items load ls
loads_text [] = refl
loads_text (l ∷ ls) =
    concat-append (load_lines l) (flat_map load_lines ls)
    ∙ ap (λ (t : List ℕ). t ++ concat (flat_map load_lines ls)) (load_text l)
    ∙ ap (λ (t : List ℕ). load.spell l ++ t) (loads_text ls)

pub history_text : (h : History) → concat (history_lines h) ≡ audit_text h
history_text h =
    let c : LineCodec _ = line (codes "entry") entry in
    ap (λ (t : List ℕ). first_line.spell (history_headed.head_of h) ++ t)
    (concat-append (flat_map load_lines h.loads) (item_lines c h.entries)
    ∙ ap (λ (t : List ℕ). t ++ concat (item_lines c h.entries)) (loads_text h.loads)
    ∙ ap (λ (t : List ℕ). spell_items load h.loads ++ t) (items_text c h.entries))

-- ---- what holds of each line

pub all_front : {X : Type 0} (P : X → Type 0) (xs ys : List X) → All P (xs ++ ys) → All P xs
all_front P xs ys h =
    All-same P xs _ (sym (take-append-le (length xs) xs ys (omega arith) ∙ take_all (length xs) xs (omega arith))) (All-take P (length xs) (xs ++ ys) h)

pub all_back : {X : Type 0} (P : X → Type 0) (xs ys : List X) → All P (xs ++ ys) → All P ys
all_back {X} P xs ys h =
    All-same P ys _
    (sym (drop-append-le (length xs) xs ys (omega arith) ∙ ap (λ (t : List X). t ++ ys) (drop_all (length xs) xs (omega arith))))
    (All-drop P (length xs) (xs ++ ys) h)

pub one_line : (P : List ℕ → Type 0) (t : List ℕ) → P t → All P (t ∷ [])
one_line P t h = All-cons P t [] h (All-nil P)

within_more : (most more : ℕ) → most ≤ more → (t : List ℕ) → IsWithin most t → IsWithin more t
within_more most more le t h = omega (arith, h, le)

-- lines within a length, and others within a greater one
pub then_within : (most more : ℕ) (xs ys : List (List ℕ)) → most ≤ more → All (IsWithin most) xs → All (IsWithin more) ys → All (IsWithin more) (xs ++ ys)
then_within most more xs ys le h g = All-append (IsWithin more) xs ys (All-weaker (IsWithin most) (IsWithin more) (within_more most more le) xs h) g

-- the lines of one more value
pub more_within : {V : Type 0} (f : V → List (List ℕ)) (most more : ℕ) (vs : List V) (i : ℕ) (v : V) → i < length vs → v ≡ get_or vs i v
    → most ≤ more → All (IsWithin most) (flat_map f (take i vs)) → All (IsWithin more) (f v) → All (IsWithin more) (flat_map f (take (i + 1) vs))
more_within f most more vs i v lt is le h g = All-same (IsWithin more) _ _ (more_lines f vs i v lt is) (then_within most more _ _ le h g)

pub all_within : {V : Type 0} (f : V → List (List ℕ)) (most : ℕ) (vs : List V) (i : ℕ) → length vs ≤ i → All (IsWithin most) (flat_map f (take i vs)) → All (IsWithin most) (flat_map f vs)
all_within f most vs i le h = All-same (IsWithin most) _ _ (sym (all_lines f vs i le)) h

-- what is within a length has room after a piece
room_after : (most : ℕ) → PIECE + most < 2 ^ 64 → (t : List ℕ) → IsWithin most t → HasRoom (PIECE + most) t
room_after most small t h = omega (arith, h, small)

pub all_room : (most : ℕ) (ls : List (List ℕ)) → PIECE + most < 2 ^ 64 → All (IsWithin most) ls → All (HasRoom (PIECE + most)) ls
all_room most ls small h = All-weaker (IsWithin most) (HasRoom (PIECE + most)) (room_after most small) ls h

-- ---- what a buffer counts

-- the count of an emptied buffer into which a line was put
pub count_put : (room most : ℕ) (mid new : Buffered) (t : List ℕ) → mid ≡ emptied room → new ≡ put mid t → new.count ≤ most → IsWithin most t
unfolding put
count_put room most mid new t e f le =
    subst (λ (n : ℕ). n ≤ most) (ap (λ (b : Buffered). b.count) (f ∙ ap (λ (b : Buffered). put b t) e)) le

-- what was counted has room in as many bytes
pub kept_exact : (room : ℕ) (start counter empty full : Buffered) (bytes : List ℕ) → start ≡ emptied 0 → counter ≡ put start bytes → room ≡ counter.count → empty ≡ emptied room → full ≡ put empty bytes
    → full.kept ≡ bytes
unfolding put
kept_exact room start counter empty full bytes s e r f g =
    let n : room ≡ counted 0 (length bytes) = r ∙ ap (λ (b : Buffered). b.count) (e ∙ ap (λ (b : Buffered). put b bytes) s) in
    let t : nat_le (counted 0 (length bytes)) room ≡ true = grind (arith, nat_tests, n) in
    ap (λ (b : Buffered). b.kept) (g ∙ ap (λ (b : Buffered). put b bytes) f) ∙ ap (λ (b : Bool). cond b bytes []) t
