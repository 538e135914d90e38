-- The links of an agent are hung up.
use Rattle.std.proofs.Common.{◌≡◌, ℕ, ◌+◌, ◌≤◌, ◌⊎◌, Bool, true, false, IsTrue, List, [], ◌∷◌, ◌++◌, map, Option, Some, None, refl, ap, sym, ◌∙◌, subst, append_assoc, inl, inr, arith}
use Rattle.std.specs.Option.{option_to_list}
use Rattle.pk_outside.specs.Causes.{Rose, RoseWhere}
use Rattle.pk_outside.specs.Links.{Origin, Hung, EndsTell, bytes_of}
use Rattle.pk_outside.specs.Stations.{StationTold, Dials, Hangs}
use Rattle.pk_outside.specs.Streams.{Gave, IsUsedUp}
use Rattle.authority_model.specs.Words.{Bytes}
use Rattle.script_agent.specs.declared.status.AgentStatus.{AgentStatus}
use Rattle.script_agent.specs.declared.status.AgentStatus.TheVariants as status
use Rattle.script_agent.specs.declared.task.Task.{Task}
use Rattle.script_agent.specs.Lines.{LineNow, LineStory, Holds, IsToldBy}
use Rattle.script_agent.specs.Runs.{CountsRose, links_of}
use Rattle.script_agent.specs.Stations.{IsHung, HungUp, HangsLine, HangsUp, CountsLinks, AreUsedUp}
use Rattle.script_agent.specs.Steps.{Outside, IsStoryOf, IsCaused, IsHelperTold, IsHelperPath, DialsHelper, link_fails, helper_fails}
use Rattle.script_agent.specs.Stories.{Story}
use Rattle.script_agent.proofs.Firsts.{some_same}

-- one link came back
is_hung : (path bytes : Bytes) (now : LineNow) (line : LineStory) (back : Hung) → now.origin ≡ Some (record { path = path; bytes = bytes }) → EndsTell now.origin now.left now.held now.read_faults now.write_faults back.path back.link → IsToldBy now line → line.path ≡ path
    → (IsTrue now.ended → IsUsedUp now.left) → IsHung line back
is_hung path bytes now line back origin e told line_path used = record {
  path = ap (λ (o : Origin). o.path) (some_same (sym e.given ∙ origin)) ∙ sym line_path;
  given = subst (λ (l : Option Bytes). Gave (Some back.link.given) l line.read) e.left (subst (λ (o : Option Origin). Gave (bytes_of o) now.left line.read) e.given told.gave);
  ended = λ ended. subst IsUsedUp e.left (used (told.ended ended));
  written = subst (λ (h : Option Bytes). Holds h line.written) e.written told.holds;
}

given_is : (path bytes : Bytes) (now : LineNow) (back : Hung) → now.origin ≡ Some (record { path = path; bytes = bytes }) → EndsTell now.origin now.left now.held now.read_faults now.write_faults back.path back.link → bytes ≡ back.link.given
given_is path bytes now back origin e = ap (λ (o : Origin). o.bytes) (some_same (sym origin ∙ e.given))

hung_one : (path : Bytes) (a b c : Option StationTold) (now : LineNow) (line : LineStory) → Dials path a b now.origin → HangsLine b c now → IsToldBy now line → line.path ≡ path → (IsTrue now.ended → IsUsedUp now.left) → HungUp a c (line ∷ [])
hung_one path None None None now line d h told p used = tt
hung_one path None None (Some c) now line d h told p used = elim h [ ]
hung_one path None (Some b) c now line d h told p used = elim d [ ]
hung_one path (Some a) None c now line d h told p used = elim d [ ]
hung_one path (Some a) (Some b) None now line d h told p used = elim h [ ]
hung_one path (Some a) (Some b) (Some c) now line d h told p used = (
  h.0 ∷ [],
  (is_hung path d.0 now line h.0 d.2 h.1 told p used, tt),
  subst (λ (x : StationTold). a ≡ record x { links = h.0.link.given ∷ x.links; hung = a.hung }) (sym h.2)
      (d.1 ∙ ap (λ (x : List ℕ). record b { links = x ∷ b.links }) (given_is path d.0 now h.0 d.2 h.1) ∙ ap (λ (x : List Hung). record b { links = h.0.link.given ∷ b.links; hung = x }) (sym same)),
  ap (λ (x : StationTold). x.hung) h.2 ∙ ap (λ x. x ++ h.0 ∷ []) (sym same),
)
  where
    same : a.hung ≡ b.hung
    same = ap (λ (x : StationTold). x.hung) d.1

hung_two : (path helper : Bytes) (a b m x c : Option StationTold) (now later : LineNow) (line behind : LineStory) → Dials path a b now.origin → Dials helper b m later.origin → HangsLine m x now → HangsLine x c later
    → IsToldBy now line → line.path ≡ path → (IsTrue now.ended → IsUsedUp now.left) → IsToldBy later behind → behind.path ≡ helper → (IsTrue later.ended → IsUsedUp later.left) → HungUp a c (line ∷ behind ∷ [])
hung_two path helper None None None None None now later line behind d e h k told p used told' p' used' = tt
hung_two path helper None None None None (Some c) now later line behind d e h k told p used told' p' used' = elim k [ ]
hung_two path helper None None None (Some x) c now later line behind d e h k told p used told' p' used' = elim h [ ]
hung_two path helper None None (Some m) x c now later line behind d e h k told p used told' p' used' = elim e [ ]
hung_two path helper None (Some b) m x c now later line behind d e h k told p used told' p' used' = elim d [ ]
hung_two path helper (Some a) None m x c now later line behind d e h k told p used told' p' used' = elim d [ ]
hung_two path helper (Some a) (Some b) None x c now later line behind d e h k told p used told' p' used' = elim e [ ]
hung_two path helper (Some a) (Some b) (Some m) None c now later line behind d e h k told p used told' p' used' = elim h [ ]
hung_two path helper (Some a) (Some b) (Some m) (Some x) None now later line behind d e h k told p used told' p' used' = elim k [ ]
hung_two path helper (Some a) (Some b) (Some m) (Some x) (Some c) now later line behind d e h k told p used told' p' used' = (
  h.0 ∷ k.0 ∷ [],
  (is_hung path d.0 now line h.0 d.2 h.1 told p used, (is_hung helper e.0 later behind k.0 e.2 k.1 told' p' used', tt)),
  subst (λ (y : StationTold). a ≡ record y { links = h.0.link.given ∷ k.0.link.given ∷ y.links; hung = a.hung }) (sym (k.2 ∙ ap (λ (y : StationTold). record y { hung = y.hung ++ k.0 ∷ [] }) h.2))
      (d.1 ∙ ap (λ (y : StationTold). record y { links = d.0 ∷ y.links }) e.1
      ∙ ap (λ (y : List ℕ). record m { links = y ∷ e.0 ∷ m.links }) (given_is path d.0 now h.0 d.2 h.1)
      ∙ ap (λ (y : List ℕ). record m { links = h.0.link.given ∷ y ∷ m.links }) (given_is helper e.0 later k.0 e.2 k.1)
      ∙ ap (λ (y : List Hung). record m { links = h.0.link.given ∷ k.0.link.given ∷ m.links; hung = y }) (sym same)),
  ap (λ (y : StationTold). y.hung) k.2 ∙ ap (λ y. y ++ k.0 ∷ []) (ap (λ (y : StationTold). y.hung) h.2) ∙ append_assoc m.hung (h.0 ∷ []) (k.0 ∷ []) ∙ ap (λ y. y ++ h.0 ∷ k.0 ∷ []) (sym same),
)
  where
    same : a.hung ≡ m.hung
    same = ap (λ (y : StationTold). y.hung) d.1 ∙ ap (λ (y : StationTold). y.hung) e.1

-- all links came back
pub hung_up : (t : Task) (start now : Outside) (after : Option StationTold) (desk : LineNow) (helper : Option LineNow) (s : Story) → IsStoryOf t start now desk helper s → HangsUp now.station after desk helper → AreUsedUp desk helper → HungUp start.station after (links_of s)
hung_up t start now after desk helper s of h used = by helper s.helper of.helper_told of.helper_path of.dialled.2 h used
  where
    by : (helper : Option LineNow) (line : Option LineStory) → IsHelperTold helper line → IsHelperPath t.helper line → DialsHelper t.helper of.dialled.0 now.station None helper → HangsUp now.station after desk helper → AreUsedUp desk helper
        → HungUp start.station after (s.desk ∷ option_to_list line)
    by None None told path d h used =
        hung_one t.path start.station of.dialled.0 after desk s.desk of.dialled.1 (subst (λ (x : Option StationTold). HangsLine x after desk) d h) of.desk_told of.desk_path used
    by None (Some line) told path d h used = elim told [ ]
    by (Some helper) None told path d h used = elim told [ ]
    by (Some helper) (Some line) told path d h used =
        hung_two t.path t.helper start.station of.dialled.0 now.station h.0 after desk helper s.desk line of.dialled.1 d h.1 h.2 of.desk_told of.desk_path used.0 told path used.1

-- # Counts

where_later : (b : Bool) (before now : ℕ) → RoseWhere b before now → before ≤ now
where_later true before now r = r.0
where_later false before now r = omega (arith, r)

where_rose : (b : Bool) (before now : ℕ) → b ≡ true → RoseWhere b before now → Rose before now
where_rose b before now e r = let at : RoseWhere true before now = subst (λ (x : Bool). RoseWhere x before now) e r in at.1

pub links_later : (before now : ℕ) (desk : LineNow) (helper : Option LineNow) → CountsLinks before now desk helper → before ≤ now
links_later before now desk None c = where_later (link_fails desk) before now c
links_later before now desk (Some helper) c =
    let a : before ≤ c.0 = where_later (link_fails desk) before c.0 c.1 in
    let b : c.0 ≤ now = where_later (link_fails helper) c.0 now c.2 in omega arith

rose_later : (before now after : ℕ) → Rose before now → now ≤ after → Rose before after
rose_later before now after r h = omega (arith, r, h)

rose_earlier : (start before now : ℕ) → start ≤ before → Rose before now → Rose start now
rose_earlier start before now h r = omega (arith, r, h)

desk_rose : (before now : ℕ) (desk : LineNow) (helper : Option LineNow) → link_fails desk ≡ true → CountsLinks before now desk helper → Rose before now
desk_rose before now desk None e c = where_rose (link_fails desk) before now e c
desk_rose before now desk (Some helper) e c = rose_later before c.0 now (where_rose (link_fails desk) before c.0 e c.1) (where_later (link_fails helper) c.0 now c.2)

helper_rose : (before now : ℕ) (desk : LineNow) (helper : Option LineNow) → helper_fails helper ≡ true → CountsLinks before now desk helper → Rose before now
helper_rose before now desk None e c = absurd (no e)
  where
    no : false ≡ true → ⊥
    no e = cc
helper_rose before now desk (Some helper) e c = rose_earlier before c.0 now (where_later (link_fails desk) before c.0 c.1) (where_rose (link_fails helper) c.0 now e c.2)

-- a fault that an agent is stopped with was counted once its links are hung up
pub counts_rose : (start now after : Outside) (desk : LineNow) (helper : Option LineNow) (why : AgentStatus) → IsCaused start now desk helper why → start.station_faults ≤ now.station_faults → CountsLinks now.station_faults after.station_faults desk helper
    → after.output_faults ≡ now.output_faults → CountsRose start after why
counts_rose start now after desk helper status.Done c later links out = tt
counts_rose start now after desk helper status.Refused c later links out = tt
counts_rose start now after desk helper status.Usage c later links out = tt
counts_rose start now after desk helper status.TreeFault c later links out = tt
counts_rose start now after desk helper status.RuleFile c later links out = tt
counts_rose start now after desk helper status.WriteFault c later links out = rose_later start.output_faults now.output_faults after.output_faults c (omega (arith, out))
counts_rose start now after desk helper (status.BadShake fault) c later links out = tt
counts_rose start now after desk helper (status.BadBytes kind at) c later links out = tt
counts_rose start now after desk helper status.Cut c later links out = tt
counts_rose start now after desk helper status.NoMemory c later links out = tt
counts_rose start now after desk helper status.StationFault (inl r) later links out = rose_later start.station_faults now.station_faults after.station_faults r (links_later now.station_faults after.station_faults desk helper links)
counts_rose start now after desk helper status.StationFault (inr (inl f)) later links out = rose_earlier start.station_faults now.station_faults after.station_faults later (desk_rose now.station_faults after.station_faults desk helper f links)
counts_rose start now after desk helper status.StationFault (inr (inr f)) later links out = rose_earlier start.station_faults now.station_faults after.station_faults later (helper_rose now.station_faults after.station_faults desk helper f links)
