-- A history that is cut into segments, and the text of segments one after another.
use Rattle.std.proofs.Common.{◌≡◌, ℕ, ◌+◌, ◌++◌, Bool, true, false, List, [], ◌∷◌, refl, ap, sym, ◌∙◌, length, arith, append_assoc, append-nil}
use Rattle.std.specs.Prelude.{if◌then◌else◌, flat_map, reverse}
use Rattle.std.proofs.lemmas.Grind.{flat_map-append}
use Rattle.std.proofs.lemmas.List.{reverse-append}
use Rattle.authority_model.specs.declared.journal.Item.{Item}
use Rattle.journal_segments.specs.Due.{is_due}
use Rattle.journal_segments.specs.Text.{onto, onto_all, segment_text, segments_text}
use Rattle.scenario_run.specs.Cuts.{Cut, cut, cut_more, rest_of, segments_of}

-- the items of segments, one after another
abbrev joined : List (List Item) → List Item
joined segments = flat_map (λ items. items) segments

-- one more item comes last
joined_more : (b : Bool) (c : Cut) (i : Item)
    → joined (if◌then◌else◌ {A = Cut} b (record { full = c.full ++ c.last ∷ []; last = i ∷ [] }) (record { full = c.full; last = c.last ++ i ∷ [] })).full
    ++ (if◌then◌else◌ {A = Cut} b (record { full = c.full ++ c.last ∷ []; last = i ∷ [] }) (record { full = c.full; last = c.last ++ i ∷ [] })).last
    ≡ (joined c.full ++ c.last) ++ i ∷ []
joined_more true c i = ap (λ t. t ++ i ∷ []) (flat_map-append (λ (items : List Item). items) c.full (c.last ∷ []) ∙ ap (λ t. joined c.full ++ t) (append-nil c.last))
joined_more false c i = sym (append_assoc (joined c.full) c.last (i ∷ []))

cut_joined : (per : ℕ) (past : List Item) → joined (cut per past).full ++ (cut per past).last ≡ reverse past
cut_joined per [] = refl
cut_joined per (i ∷ past) =
    joined_more (is_due per (cut per past).last) (cut per past) i ∙ ap (λ t. t ++ i ∷ []) (cut_joined per past) ∙ sym (reverse-append (i ∷ []) past)

rest_joined : (items : List Item) → joined (rest_of items) ≡ items
rest_joined [] = refl
rest_joined (i ∷ items) = append-nil (i ∷ items)

-- each item of a history stands once in its segments, in order
pub each_once : (per : ℕ) (past : List Item) → joined (segments_of per past) ≡ reverse past
each_once per past =
    flat_map-append (λ (items : List Item). items) (cut per past).full (rest_of (cut per past).last)
    ∙ ap (λ t. joined (cut per past).full ++ t) (rest_joined (cut per past).last) ∙ cut_joined per past

-- one more item begins the next segment where the one so far is full
pub cut_due : (per : ℕ) (i : Item) (c : Cut) → is_due per c.last ≡ true → cut_more per i c ≡ record { full = c.full ++ c.last ∷ []; last = i ∷ [] }
cut_due per i c e = rw e refl

pub cut_on : (per : ℕ) (i : Item) (c : Cut) → is_due per c.last ≡ false → cut_more per i c ≡ record { full = c.full; last = c.last ++ i ∷ [] }
cut_on per i c e = rw e refl

-- one more segment
pub onto_all_more : (done : List Item) (segments : List (List Item)) (items : List Item) → onto_all done (segments ++ items ∷ []) ≡ onto (onto_all done segments) items
onto_all_more done [] items = refl
onto_all_more done (s ∷ segments) items = onto_all_more (onto done s) segments items

pub text_more : (n : ℕ) (done : List Item) (segments : List (List Item)) (items : List Item)
    → segments_text n done (segments ++ items ∷ []) ≡ segments_text n done segments ++ segment_text (n + length segments + 1) (onto_all done segments) items
text_more n done [] items =
    let same : n + 1 ≡ n + 0 + 1 = omega arith in
    append-nil (segment_text (n + 1) done items) ∙ ap (λ k. segment_text k done items) same
text_more n done (s ∷ segments) items =
    let same : n + 1 + length segments + 1 ≡ n + length (s ∷ segments) + 1 = omega arith in
    ap (λ t. segment_text (n + 1) done s ++ t) (text_more (n + 1) (onto done s) segments items)
    ∙ sym (append_assoc (segment_text (n + 1) done s) (segments_text (n + 1) (onto done s) segments) (segment_text (n + 1 + length segments + 1) (onto_all (onto done s) segments) items))
    ∙ ap (λ k. segments_text n done (s ∷ segments) ++ segment_text k (onto_all (onto done s) segments) items) same
