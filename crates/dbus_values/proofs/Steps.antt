-- What the steps of a walk compute, in the terms that the code tests.
use Rattle.std.proofs.Common.{◌≡◌, ℕ, zero, suc, ◌+◌, ◌-◌, ◌≤◌, List, [], ◌∷◌, length, get_or, drop, Bool, true, false, eqb, Result, Ok, Err, None, Some, refl, ap, arith}
use Rattle.std.specs.Prelude.{◌==◌, if◌then◌else◌}
use Rattle.dbus_values.specs.declared.fault.Fault.{Fault}
use Rattle.dbus_values.specs.declared.fault.FaultKind.TheVariants as fault
use Rattle.dbus_values.specs.Reading.{◌>>=◌, bad, spot_at}
use Rattle.dbus_values.specs.Parts.{Piece}
use Rattle.dbus_values.specs.Parts as part
use Rattle.dbus_values.specs.Opened.{Open, innermost, outer}
use Rattle.dbus_values.specs.Opened as open_part
use Rattle.dbus_values.specs.Types.{class_of, align_of, is_basic}
use Rattle.dbus_values.specs.Basics.{pad}
use Rattle.dbus_values.specs.Walk.{State, state, resume, resumed, enter, enter_by, enter_struct, enter_entry, enter_item, in_members, in_key, in_closing, next_in, step, parts, Lasts, Walked, walked, walk, is_done, values_at, most_parts}
use Rattle.dbus_values.specs.Messages.{body_at}

pub resume_none : (fs : List Open) (types : List ℕ) (at : ℕ) → None ≡ innermost fs → resume fs types at ≡ Ok (fs, types)
unfolding resume
resume_none [] types at is = refl
resume_none (f ∷ fs) types at is = absurd cc

pub resume_empty : (fs : List Open) (types : List ℕ) (at : ℕ) → length fs ≡ 0 → resume fs types at ≡ Ok (fs, types)
unfolding resume
resume_empty [] types at is = refl
resume_empty (f ∷ fs) types at is = absurd (omega arith)

pub resume_inner : (fs : List Open) (types behind : List ℕ) (at : ℕ) → Some (open_part.Inner behind) ≡ innermost fs → length types ≡ 0 → resume fs types at ≡ resume (outer fs) behind at
unfolding resume
resume_inner [] types behind at is none = absurd cc
resume_inner (f ∷ fs) [] behind at is none = let e : f ≡ open_part.Inner behind = cc in rw e refl
resume_inner (f ∷ fs) (c ∷ types) behind at is none = absurd (omega arith)

pub resume_left : (fs : List Open) (types behind : List ℕ) (at : ℕ) → Some (open_part.Inner behind) ≡ innermost fs → 1 ≤ length types → resume fs types at ≡ bad fault.Text at
unfolding resume
resume_left [] types behind at is long = absurd cc
resume_left (f ∷ fs) [] behind at is long = absurd (omega arith)
resume_left (f ∷ fs) (c ∷ types) behind at is long = let e : f ≡ open_part.Inner behind = cc in rw e refl

pub resume_items : (fs : List Open) (types item behind : List ℕ) (place : ℕ) (outside : List ℕ) (at : ℕ) → Some (open_part.Items item behind place outside) ≡ innermost fs → resume fs types at ≡ Ok (fs, types)
unfolding resume
resume_items [] types item behind place outside at is = absurd cc
resume_items (f ∷ fs) types item behind place outside at is = let e : f ≡ open_part.Items item behind place outside = cc in rw e refl

pub resume_members : (fs : List Open) (types : List ℕ) (at : ℕ) → Some open_part.Members ≡ innermost fs → resume fs types at ≡ Ok (fs, types)
unfolding resume
resume_members [] types at is = absurd cc
resume_members (f ∷ fs) types at is = let e : f ≡ open_part.Members = cc in rw e refl

pub resume_key : (fs : List Open) (types : List ℕ) (at : ℕ) → Some open_part.Key ≡ innermost fs → resume fs types at ≡ Ok (fs, types)
unfolding resume
resume_key [] types at is = absurd cc
resume_key (f ∷ fs) types at is = let e : f ≡ open_part.Key = cc in rw e refl

pub resume_value : (fs : List Open) (types : List ℕ) (at : ℕ) → Some open_part.Value ≡ innermost fs → resume fs types at ≡ Ok (fs, types)
unfolding resume
resume_value [] types at is = absurd cc
resume_value (f ∷ fs) types at is = let e : f ≡ open_part.Value = cc in rw e refl

pub resume_closing : (fs : List Open) (types : List ℕ) (at : ℕ) → Some open_part.Closing ≡ innermost fs → resume fs types at ≡ Ok (fs, types)
unfolding resume
resume_closing [] types at is = absurd cc
resume_closing (f ∷ fs) types at is = let e : f ≡ open_part.Closing = cc in rw e refl

pub length-outer : (fs : List Open) → length (outer fs) ≡ length fs - 1
length-outer [] = refl
length-outer (f ∷ fs) = omega arith

pub nothing_open : (fs : List Open) → None ≡ innermost fs → length fs ≡ 0
nothing_open [] is = refl
nothing_open (f ∷ fs) is = absurd cc

pub ruleset resume_rules = (resume_none, resume_empty, resume_inner, resume_left, resume_items, resume_members, resume_key, resume_value, resume_closing, length-outer, nothing_open)

pub enter_none : (limit : ℕ) (big : Bool) (fs : List Open) (sig : List ℕ) (at : ℕ) (bytes : List ℕ) → length sig ≡ 0 → enter limit big fs sig at bytes ≡ bad fault.Text at
unfolding enter
enter_none limit big fs [] at bytes e = refl
enter_none limit big fs (c ∷ sig) at bytes e = absurd (omega arith)

pub enter_at : (limit : ℕ) (big : Bool) (fs : List Open) (sig : List ℕ) (at : ℕ) (bytes : List ℕ) → 1 ≤ length sig
    → enter limit big fs sig at bytes ≡ (pad (align_of (class_of (get_or sig 0 0))) at bytes >>= λ p. enter_by (class_of (get_or sig 0 0)) limit big fs (get_or sig 0 0) (drop 1 sig) p.at p.rest)
unfolding enter
enter_at limit big fs [] at bytes e = absurd (omega arith)
enter_at limit big fs (c ∷ sig) at bytes e = refl

pub ruleset enter_rules = (enter_none, enter_at)

pub struct_none : (fs : List Open) (sig : List ℕ) (at : ℕ) (bytes : List ℕ) → length sig ≡ 0 → enter_struct fs sig at bytes ≡ bad fault.Text at
unfolding enter_struct
struct_none fs [] at bytes e = refl
struct_none fs (c ∷ sig) at bytes e = absurd (omega arith)

pub struct_at : (fs : List Open) (sig : List ℕ) (at : ℕ) (bytes : List ℕ) → 1 ≤ length sig
    → enter_struct fs sig at bytes ≡ (if get_or sig 0 0 == 41 then bad fault.Text at else Ok (part.Enter 40, state (open_part.Members ∷ fs) sig at bytes))
unfolding enter_struct
struct_at fs [] at bytes e = absurd (omega arith)
struct_at fs (c ∷ sig) at bytes e = refl

pub ruleset struct_rules = (struct_none, struct_at)

pub item_none : (limit : ℕ) (big : Bool) (fs : List Open) (sig : List ℕ) (at : ℕ) (bytes : List ℕ) → length sig ≡ 0 → enter_item limit big fs sig at bytes ≡ bad fault.Text at
item_none limit big fs [] at bytes e = refl
item_none limit big fs (c ∷ sig) at bytes e = absurd (omega arith)

pub item_at : (limit : ℕ) (big : Bool) (fs : List Open) (sig : List ℕ) (at : ℕ) (bytes : List ℕ) → 1 ≤ length sig
    → enter_item limit big fs sig at bytes ≡ (if get_or sig 0 0 == 123 then enter_entry limit fs (drop 1 sig) at bytes else enter limit big fs sig at bytes)
item_at limit big fs [] at bytes e = absurd (omega arith)
item_at limit big fs (c ∷ sig) at bytes e = refl

pub ruleset item_rules = (item_none, item_at)

pub with_outer : (fs : List Open) (f : Open) → Some f ≡ innermost fs → f ∷ outer fs ≡ fs
with_outer [] f is = absurd cc
with_outer (g ∷ fs) f is = cc

pub members_none : (limit : ℕ) (big : Bool) (fs : List Open) (sig : List ℕ) (at : ℕ) (bytes : List ℕ) → length sig ≡ 0 → in_members limit big fs sig at bytes ≡ bad fault.Text at
unfolding in_members
members_none limit big fs [] at bytes e = refl
members_none limit big fs (c ∷ sig) at bytes e = absurd (omega arith)

pub members_at : (limit : ℕ) (big : Bool) (fs : List Open) (sig : List ℕ) (at : ℕ) (bytes : List ℕ) → Some open_part.Members ≡ innermost fs → 1 ≤ length sig
    → in_members limit big (outer fs) sig at bytes ≡ (if get_or sig 0 0 == 41 then resumed (part.Leave 40) (outer fs) (drop 1 sig) at bytes else enter limit big fs sig at bytes)
unfolding in_members
members_at limit big fs [] at bytes is e = absurd (omega arith)
members_at limit big fs (c ∷ sig) at bytes is e = let k = with_outer fs open_part.Members is in rw k refl

pub ruleset members_rules = (members_none, members_at)

pub key_none : (limit : ℕ) (big : Bool) (fs : List Open) (sig : List ℕ) (at : ℕ) (bytes : List ℕ) → length sig ≡ 0 → in_key limit big fs sig at bytes ≡ bad fault.Text at
unfolding in_key
key_none limit big fs [] at bytes e = refl
key_none limit big fs (c ∷ sig) at bytes e = absurd (omega arith)

pub key_at : (limit : ℕ) (big : Bool) (fs : List Open) (sig : List ℕ) (at : ℕ) (bytes : List ℕ) → 1 ≤ length sig
    → in_key limit big fs sig at bytes ≡ (if is_basic (class_of (get_or sig 0 0)) then enter limit big (open_part.Value ∷ fs) sig at bytes else bad fault.Text at)
unfolding in_key
key_at limit big fs [] at bytes e = absurd (omega arith)
key_at limit big fs (c ∷ sig) at bytes e = refl

pub ruleset key_rules = (key_none, key_at, length-outer)

pub closing_none : (fs : List Open) (sig : List ℕ) (at : ℕ) (bytes : List ℕ) → length sig ≡ 0 → in_closing fs sig at bytes ≡ bad fault.Text at
unfolding in_closing
closing_none fs [] at bytes e = refl
closing_none fs (c ∷ sig) at bytes e = absurd (omega arith)

pub closing_at : (fs : List Open) (sig : List ℕ) (at : ℕ) (bytes : List ℕ) → 1 ≤ length sig
    → in_closing fs sig at bytes ≡ (if get_or sig 0 0 == 125 then resumed (part.Leave 123) fs (drop 1 sig) at bytes else bad fault.Text at)
unfolding in_closing
closing_at fs [] at bytes e = absurd (omega arith)
closing_at fs (c ∷ sig) at bytes e = refl

pub ruleset closing_rules = (closing_none, closing_at)

pub next_none : (limit : ℕ) (big : Bool) (fs : List Open) (sig : List ℕ) (at : ℕ) (bytes : List ℕ) → None ≡ innermost fs → next_in limit big fs sig at bytes ≡ enter limit big fs sig at bytes
next_none limit big [] sig at bytes is = refl
next_none limit big (f ∷ fs) sig at bytes is = absurd cc

pub next_open : (limit : ℕ) (big : Bool) (fs : List Open) (f : Open) (sig : List ℕ) (at : ℕ) (bytes : List ℕ) → Some f ≡ innermost fs → next_in limit big fs sig at bytes ≡ next_in limit big (f ∷ outer fs) sig at bytes
next_open limit big [] f sig at bytes is = absurd cc
next_open limit big (g ∷ fs) f sig at bytes is = let e : f ≡ g = cc in rw e refl

pub ruleset next_rules = (next_none, next_open, with_outer, length-outer)

pub parts_none : (n limit : ℕ) (big : Bool) (s : State) → n ≡ 0 → parts n limit big s ≡ []
unfolding parts
parts_none zero limit big s is = refl
parts_none (suc n) limit big s is = absurd (omega arith)

-- a walk that comes to its end has as many parts as it counts
pub lasts_walk : (n so_far limit : ℕ) (big : Bool) (s : State) (w : Walked) → walk n so_far limit big s ≡ Ok w → (so_far ≤ w.parts) × Lasts (w.parts - so_far) limit big s
unfolding walk Lasts
lasts_walk zero so_far limit big s w is = absurd cc
lasts_walk (suc n) so_far limit big s w is = go (λ t. lasts_walk n (so_far + 1) limit big t w) (is_done s) is where
  on : ((t : State) → walk n (so_far + 1) limit big t ≡ Ok w → (so_far + 1 ≤ w.parts) × Lasts (w.parts - (so_far + 1)) limit big t)
      → (r : Result (Piece × State) Fault) → step limit big s ≡ r → (r >>= λ x. walk n (so_far + 1) limit big x.1) ≡ Ok w → (so_far ≤ w.parts) × Lasts (w.parts - so_far) limit big s
  on ih (Err e) stepped h = absurd cc
  on ih (Ok x) stepped h =
      let rest = ih x.1 h in
      let k : w.parts - so_far ≡ suc (w.parts - (so_far + 1)) = omega (arith, rest.0) in
      (omega (arith, rest.0), rw (k, stepped) rest.1)

  ended : ◌≡◌ {A = Result Walked Fault} (Ok (walked so_far (spot_at s.at s.rest))) (Ok w) → so_far ≡ w.parts
  ended h = let same : walked so_far (spot_at s.at s.rest) ≡ w = cc in ap (λ (v : Walked). v.parts) same

  go : ((t : State) → walk n (so_far + 1) limit big t ≡ Ok w → (so_far + 1 ≤ w.parts) × Lasts (w.parts - (so_far + 1)) limit big t)
      → (b : Bool) → (if b then Ok (record { parts = so_far; at = s.at; rest = s.rest }) else (step limit big s >>= λ x. walk n (so_far + 1) limit big x.1)) ≡ Ok w → (so_far ≤ w.parts) × Lasts (w.parts - so_far) limit big s
  go ih true h =
      let e : so_far ≡ w.parts = ended h in
      let k : w.parts - so_far ≡ 0 = omega (arith, e) in
      (omega (arith, e), rw k tt)
  go ih false h = on ih (step limit big s) refl h

pub lasts_whole : (big : Bool) (sig : List ℕ) (at : ℕ) (rest : List ℕ) (n : ℕ) → body_at big sig at rest ≡ Ok n → Lasts n 64 big (state [] sig at rest)
unfolding body_at
lasts_whole big sig at rest n is = on (values_at 64 big sig at rest) refl is where
  on : (r : Result Walked Fault) → values_at 64 big sig at rest ≡ r → (r >>= λ w. if length w.rest == 0 then Ok w.parts else bad fault.Length w.at) ≡ Ok n → Lasts n 64 big (state [] sig at rest)
  on (Err e) read h = absurd cc
  on (Ok w) read h = go (eqb (length w.rest) 0) h where
    go : (b : Bool) → (if b then Ok w.parts else bad fault.Length w.at) ≡ Ok n → Lasts n 64 big (state [] sig at rest)
    go true same =
        let e : w.parts ≡ n = cc in
        let all = lasts_walk most_parts 0 64 big (state [] sig at rest) w read in
        let k : w.parts - 0 ≡ n = omega (arith, e) in
        rw k at all.1
    go false same = absurd cc

-- the next part, and those behind it
pub parts_more : (n limit : ℕ) (big : Bool) (s t : State) (p : Piece) → (n ≡ 0 → ⊥) → step limit big s ≡ Ok (p, t) → parts n limit big s ≡ p ∷ parts (n - 1) limit big t
unfolding parts
parts_more zero limit big s t p pos is = absurd (pos refl)
parts_more (suc n) limit big s t p pos is = let k : suc n - 1 ≡ n = omega arith in rw (is, k) refl

pub lasts_more : (n limit : ℕ) (big : Bool) (s t : State) (p : Piece) → (n ≡ 0 → ⊥) → step limit big s ≡ Ok (p, t) → Lasts n limit big s → Lasts (n - 1) limit big t
unfolding Lasts
lasts_more zero limit big s t p pos is lasts = absurd (pos refl)
lasts_more (suc n) limit big s t p pos is lasts = let k : suc n - 1 ≡ n = omega arith in rw k (rw is at lasts)

pub lasts_not : (n limit : ℕ) (big : Bool) (s : State) (e : Fault) → (n ≡ 0 → ⊥) → step limit big s ≡ Err e → Lasts n limit big s → ⊥
unfolding Lasts
lasts_not zero limit big s e pos is lasts = pos refl
lasts_not (suc n) limit big s e pos is lasts = rw is at lasts
