-- What the desk's next entry makes of a segment, and what the text of a segment is made of.
use Rattle.std.proofs.Common.{◌≡◌, ℕ, ◌+◌, ◌-◌, ◌<◌, ◌≤◌, ◌^◌, ◌==◌, ◌++◌, suc, true, false, List, [], ◌∷◌, Option, Some, None, Result, Ok, Err, ap, sym, ◌∙◌, subst, length, arith}
use Rattle.std.specs.Prelude.{if◌then◌else◌, nat_lt}
use Rattle.std.specs.Result.{IsErrAnd}
use Rattle.std.proofs.lemmas.Bool.Decides.{nat_tests}
use Rattle.pk_outside.specs.Streams.{GotFront}
use Rattle.authority_model.specs.declared.event.Event.{Event}
use Rattle.authority_model.specs.declared.journal.Entry.{Entry}
use Rattle.authority_model.specs.declared.journal.Item.{Item}
use Rattle.authority_model.specs.declared.load.Loaded.{Loaded}
use Rattle.authority_model.specs.Given.{Given, IsStepped, event_given, load_given, next}
use Rattle.authority_model.specs.Legal.{Legal}
use Rattle.authority_desk.specs.declared.counts.DeskCounts.{DeskCounts}
use Rattle.authority_desk.specs.Counts.{counts_of}
use Rattle.authority_desk.specs.Seen.{DeskSeen, IsDeskFor}
use Rattle.authority_desk.proofs.Stepping.{stepped_proper}
use Rattle.journal_segments.specs.declared.segmented.TheConstants.{MAX_ENTRIES}
use Rattle.journal_segments.specs.declared.segmented.SegmentRefused.{SegmentRefused}
use Rattle.journal_segments.specs.declared.segmented.SegmentRefused.TheVariants as refused
use Rattle.journal_segments.specs.Segments.{IsSegmented, IsSegmentedFor, Segments, due_text, rest_text}
use Rattle.journal_segments.specs.Due.{is_due}
use Rattle.journal_segments.specs.Steps.{IsAdded, WritesAll}
use Rattle.journal_segments.specs.Text.{onto, segment_text, segment_with}
use Rattle.journal_segments.proofs.Onto.{added, entries_are}

-- the item of an entry without a load
abbrev pub item_with : Entry → Item
item_with e = record { entry = e; loaded = None }

-- the item of an entry with a load
abbrev pub item_loading : Loaded → Entry → Item
item_loading l e = record { entry = e; loaded = Some l }

-- the entry of an event is added
pub event_added : (caller moment salt : ℕ) (event : Event) (done : List Item) (old new : Segments) (e : Entry) → IsStepped event → moment ≤ 2 ^ 62 → IsSegmentedFor done old → new.per ≡ old.per → new.written ≡ old.written
    → new.items ≡ old.items ++ item_with e ∷ [] → e ≡ (next (onto done old.items) (event_given caller moment salt event)).entry
    → IsDeskFor (next (onto done old.items) (event_given caller moment salt event) ∷ onto done old.items) new.desk → IsAdded (event_given caller moment salt event) done old new
event_added caller moment salt event done old new e stepped bounded is per written items made desk =
    added (event_given caller moment salt event) done old new (item_with e) (bounded, stepped_proper (event_given caller moment salt event) event stepped) is per written items (ap item_with made) desk

-- the entry of a load is added with the load
pub load_added : (caller moment : ℕ) (loaded kept : Loaded) (done : List Item) (old new : Segments) (e : Entry) → kept ≡ loaded → moment ≤ 2 ^ 62 → IsSegmentedFor done old → new.per ≡ old.per → new.written ≡ old.written
    → new.items ≡ old.items ++ item_loading kept e ∷ [] → e ≡ (next (onto done old.items) (load_given caller moment loaded)).entry
    → IsDeskFor (next (onto done old.items) (load_given caller moment loaded) ∷ onto done old.items) new.desk → IsAdded (load_given caller moment loaded) done old new
load_added caller moment loaded kept done old new e same bounded is per written items made desk =
    added (load_given caller moment loaded) done old new (item_loading kept e) (bounded, tt) is per written items (ap (λ l. item_loading l e) same ∙ ap (item_loading loaded) made) desk

-- with it there is still a history
pub added_is : (g : Given) (old new : Segments) (h : IsSegmented old) → IsAdded g h.done old new → old.desk.peers.entries < MAX_ENTRIES → IsSegmented new
added_is g old new h a room =
    let before = h.is.desk_is.peers_are.entries_are in
    let after = a.is.desk_is.peers_are.entries_are in
    let longer : length (onto h.done new.items) ≡ suc (length (onto h.done old.items)) = ap (λ (xs : List Item). length xs) a.history in
    record { done = h.done; is = a.is; few = omega (arith, room, before, after, longer); some = subst (λ n. 0 < n) (sym a.per) h.some }

-- the entry of an event that the desk made is added with it
pub event_so : (caller moment salt : ℕ) (event : Event) (old new inside : Segments) (desk : DeskSeen) (e : Entry) (items : List Item) → inside ≡ old → desk ≡ inside.desk → IsStepped event → moment ≤ 2 ^ 62
    → ((past : List Item) → Legal past → IsDeskFor past desk → e ≡ (next past (event_given caller moment salt event)).entry)
    → ((past : List Item) → Legal past → IsDeskFor past desk → IsDeskFor (next past (event_given caller moment salt event) ∷ past) new.desk)
    → new.per ≡ inside.per → new.written ≡ inside.written → items ≡ inside.items → new.items ≡ items ++ item_with e ∷ []
    → (done : List Item) → IsSegmentedFor done old → IsAdded (event_given caller moment salt event) done old new
event_so caller moment salt event old new inside desk e items is at stepped bounded made stands per written same push =
    subst (λ (s : Segments). (done : List Item) → IsSegmentedFor done s → IsAdded (event_given caller moment salt event) done s new) is
    (λ done for. let held = subst (IsDeskFor (onto done inside.items)) (sym at) for.desk_is in
    event_added caller moment salt event done inside new e stepped bounded for per written (push ∙ ap (λ xs. xs ++ item_with e ∷ []) same)
    (made (onto done inside.items) for.legal held) (stands (onto done inside.items) for.legal held))

-- and so is that of a load
pub load_so : (caller moment : ℕ) (loaded kept : Loaded) (old new inside : Segments) (desk : DeskSeen) (e : Entry) (items : List Item) → inside ≡ old → desk ≡ inside.desk → kept ≡ loaded → moment ≤ 2 ^ 62
    → ((past : List Item) → Legal past → IsDeskFor past desk → e ≡ (next past (load_given caller moment loaded)).entry)
    → ((past : List Item) → Legal past → IsDeskFor past desk → IsDeskFor (next past (load_given caller moment loaded) ∷ past) new.desk)
    → new.per ≡ inside.per → new.written ≡ inside.written → items ≡ inside.items → new.items ≡ items ++ item_loading kept e ∷ []
    → (done : List Item) → IsSegmentedFor done old → IsAdded (load_given caller moment loaded) done old new
load_so caller moment loaded kept old new inside desk e items is at copied bounded made stands per written same push =
    subst (λ (s : Segments). (done : List Item) → IsSegmentedFor done s → IsAdded (load_given caller moment loaded) done s new) is
    (λ done for. let held = subst (IsDeskFor (onto done inside.items)) (sym at) for.desk_is in
    load_added caller moment loaded kept done inside new e copied bounded for per written (push ∙ ap (λ xs. xs ++ item_loading kept e ∷ []) same)
    (made (onto done inside.items) for.legal held) (stands (onto done inside.items) for.legal held))

-- before the first entry
pub started : (per : ℕ) (items : List Item) (desk d : DeskSeen) → items ≡ [] → desk ≡ d → IsDeskFor [] d → IsSegmentedFor [] (record { per = per; written = 0; items = items; desk = desk })
started per items desk d none same is =
    subst (λ xs. IsSegmentedFor [] (record { per = per; written = 0; items = xs; desk = desk })) (sym none) (record { legal = tt; desk_is = subst (IsDeskFor []) (sym same) is })

pub started_is : (per : ℕ) (items : List Item) (desk d : DeskSeen) → items ≡ [] → desk ≡ d → IsDeskFor [] d → 0 < per → IsSegmented (record { per = per; written = 0; items = items; desk = desk })
started_is per items desk d none same is some =
    let for = started per items desk d none same is in
    let e : d.peers.entries ≡ 0 = is.peers_are.entries_are in
    record { done = []; is = for; few = subst (λ (x : DeskSeen). x.peers.entries ≤ MAX_ENTRIES) (sym same) (omega (arith, e)); some = some }

-- so there is once the segment so far is forgotten
pub forgotten : (s : Segments) (number : ℕ) (items : List Item) → IsSegmented s → items ≡ [] → IsSegmented (record { per = s.per; written = number; items = items; desk = s.desk })
forgotten s number items h none =
    subst (λ xs. IsSegmented (record { per = s.per; written = number; items = xs; desk = s.desk })) (sym none)
    (record { done = onto h.done s.items; is = record { legal = h.is.legal; desk_is = h.is.desk_is }; few = h.few; some = h.some })

-- no more items are in the segment than entries were made
pub items_short : (s : Segments) → IsSegmented s → length s.items ≤ s.desk.peers.entries
items_short s h = let e = entries_are h.done s h.is in omega (arith, e)

-- the text of the segment so far is that of its items after each history
pub text_is : (number : ℕ) (done : List Item) (s : Segments) (counts : DeskCounts) → IsSegmentedFor done s → s.desk.peers.entries ≤ MAX_ENTRIES → counts.entries ≡ s.desk.peers.entries
    → ((past : List Item) → IsDeskFor past s.desk → length past < 2 ^ 32 → counts ≡ counts_of past)
    → segment_with number (counts.entries - length s.items) s.items counts ≡ segment_text number done s.items
text_is number done s counts is few same counted =
    ap (λ n. segment_with number n s.items counts) first ∙ ap (segment_with number (length done) s.items) (counted (onto done s.items) is.desk_is short)
  where
    first : counts.entries - length s.items ≡ length done
    first = let e = entries_are done s is in omega (arith, same, e)

    short : length (onto done s.items) < 2 ^ 32
    short = let e = is.desk_is.peers_are.entries_are in omega (arith, few, e)

-- the file failed in the text of a segment
pub segment_failed : {F : Type 0} (held : F → Option (List ℕ)) (text whole : List ℕ) (file now : F) (r : Result (Unit {0}) SegmentRefused) → IsErrAnd r (λ (y : SegmentRefused). y ≡ refused.SegmentFault) → text ≡ whole
    → GotFront (held file) (held now) text → WritesAll held whole file now r
segment_failed held text whole file now (Ok u) is e front = absurd is
segment_failed held text whole file now (Err y) is e front =
    subst (λ (y : SegmentRefused). WritesAll held whole file now (Err y)) (sym is) (subst (λ (t : List ℕ). GotFront (held file) (held now) t) e front)

some_test : (n : ℕ) → 0 < n → nat_lt 0 n ≡ true
some_test n some = grind (arith, nat_tests)

some_of : (xs : List Item) → false ≡ (length xs == 0) → nat_lt 0 (length xs) ≡ true
some_of [] e = absurd (cc)
some_of (x ∷ xs) e = some_test (length (x ∷ xs)) (omega arith)

-- the rest of a segment that has an entry is its text
pub rest_is : (done : List Item) (s : Segments) → false ≡ (length s.items == 0) → rest_text done s ≡ segment_text (s.written + 1) done s.items
rest_is done s some = ap (λ b. if b then segment_text (s.written + 1) done s.items else []) (some_of s.items some)

-- what is written of a segment that is full is its text
pub due_is : (done : List Item) (s : Segments) → true ≡ is_due s.per s.items → due_text done s ≡ segment_text (s.written + 1) done s.items
due_is done s due = ap (λ b. if b then segment_text (s.written + 1) done s.items else []) (sym due)
