-- How far a connection is after one more item.
use Rattle.std.proofs.Common.{◌≡◌, ℕ, ◌<◌, List, ◌∷◌, Bool, true, false, ◌||◌, ◌&&◌, refl, ap, sym, ◌∙◌, subst}
use Rattle.std.specs.Prelude.{◌==◌, if◌then◌else◌, length, slice_index_or, slice_set}
use Rattle.std.proofs.Math.Bool.{or-false}
use Rattle.std.proofs.lemmas.Bool.{eq-eqb, ne_eqb}
use Rattle.authority_model.specs.declared.event.Event.{Event}
use Rattle.authority_model.specs.declared.journal.Item.{Item}
use Rattle.authority_model.specs.Lists.{any_of}
use Rattle.authority_model.specs.Peers.{is_by, departs, is_depart}
use Rattle.journal_scan.specs.declared.callers.Place.{Place}
use Rattle.journal_scan.specs.declared.callers.Stage.{Stage}
use Rattle.journal_scan.specs.declared.callers.Stage.TheVariants.{Unseen, Live, Departed}
use Rattle.journal_scan.specs.declared.lines.ConnectionLine.{ConnectionLine}
use Rattle.journal_scan.specs.Standing.{place_of, stage_after, stage_of}
use Rattle.journal_scan.specs.Tables.{IsTable}
use Rattle.journal_scan.proofs.Tables.{table_set}

or_true : (b : Bool) → (b || true) ≡ true
or_true true = refl
or_true false = refl

live_after : (b : Bool) (e : Event) → stage_after (if b then Live else Unseen) e ≡ (if is_depart e then Departed else Live)
live_after true e = refl
live_after false e = refl

-- the stage of the caller of an item
own_stage : (past : List Item) (i : Item) → stage_after (stage_of past i.entry.caller) i.entry.event ≡ stage_of (i ∷ past) i.entry.caller
own_stage past i = of (any_of (departs i.entry.caller) past) (any_of (is_by i.entry.caller) past) (i.entry.caller == i.entry.caller) (eq-eqb i.entry.caller i.entry.caller refl)
  where
    of : (a b own : Bool) → own ≡ true → stage_after (if a then Departed else (if b then Live else Unseen)) i.entry.event ≡ (if (own && is_depart i.entry.event) || a then Departed else (if own || b then Live else Unseen))
    of a b false is = absurd (cc (is))
    of true b true is = ap (λ (d : Bool). if d then Departed else Live) (sym (or_true (is_depart i.entry.event)))
    of false b true is = live_after b i.entry.event ∙ ap (λ (d : Bool). if d then Departed else Live) (sym (or-false (is_depart i.entry.event)))

-- the stage of another number
other_stage : (past : List Item) (i : Item) (c : ℕ) → (i.entry.caller == c) ≡ false → stage_of past c ≡ stage_of (i ∷ past) c
other_stage past i c other = ap (λ (own : Bool). if (own && is_depart i.entry.event) || any_of (departs c) past then Departed else (if own || any_of (is_by c) past then Live else Unseen)) (sym other)

-- the stage of the caller is written
pub places_more : (size : ℕ) (lines : List ConnectionLine) (past : List Item) (i : Item) (n : ℕ) (rows : List Place) (old : Place) (stage : Stage)
    → i.entry.caller ≡ n → IsTable size (λ c place. place ≡ place_of lines past c) rows → n < length rows → old ≡ slice_index_or rows n old → stage ≡ stage_after (stage_of past n) i.entry.event
    → IsTable size (λ c place. place ≡ place_of lines (i ∷ past) c) (slice_set rows n (record { uid = old.uid; looks = old.looks; stage = stage }))
places_more size lines past i n rows old stage caller table inside is after =
    let old_is : old ≡ place_of lines past n = is ∙ table.each n old inside in
    let moved : stage ≡ stage_of (i ∷ past) n = after ∙ subst (λ (m : ℕ). stage_after (stage_of past m) i.entry.event ≡ stage_of (i ∷ past) m) caller (own_stage past i) in
    let new : Place = record { uid = old.uid; looks = old.looks; stage = stage } in
    let new_is : new ≡ place_of lines (i ∷ past) n = cc (ap (λ (p : Place). p.uid) old_is, ap (λ (p : Place). p.looks) old_is, moved) in
    table_set size (λ c place. place ≡ place_of lines past c) (λ c place. place ≡ place_of lines (i ∷ past) c) rows n new table inside new_is
    (λ c x other holds. holds ∙ cc (other_stage past i c (ne_eqb i.entry.caller c (λ e. other (sym e ∙ caller)))))
