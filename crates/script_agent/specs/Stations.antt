-- What a station tells of the links that an agent dialled and hung up.
use Rattle.std.specs.Prelude.{◌≡◌, ℕ, Bool, IsTrue, List, [], ◌∷◌, ◌++◌, map, Option, None, Some}
use Rattle.pk_outside.specs.Causes.{RoseWhere}
use Rattle.pk_outside.specs.Links.{Hung, EndsTell}
use Rattle.pk_outside.specs.Stations.{StationTold, Hangs}
use Rattle.pk_outside.specs.Streams.{IsUsedUp}
use Rattle.script_agent.specs.Lines.{LineNow, LineStory}
use Rattle.script_agent.specs.Steps.{link_fails}

-- This link came back: it was dialled at the story's path, it had the bytes that were read and those
-- that are left, of which there are none where it was read to its end, and these were written to it.
pub record IsHung (line : LineStory) (back : Hung) : Type 0 where
  pub path : back.path ≡ line.path
  pub given : back.link.given ≡ line.read ++ back.link.left
  pub ended : IsTrue line.ended → back.link.left ≡ []
  pub written : back.link.written ≡ line.written

-- each of them came back, in this order
abbrev pub AreHung : List LineStory → List Hung → Type 0
AreHung [] [] = Unit {0}
AreHung [] (back ∷ backs) = ⊥
AreHung (line ∷ lines) [] = ⊥
AreHung (line ∷ lines) (back ∷ backs) = IsHung line back × AreHung lines backs

-- A station that tells its links gave these, the next that it had, and took them back behind those
-- before. One that tells nothing goes on telling nothing.
abbrev pub HungUp : Option StationTold → Option StationTold → List LineStory → Type 0
HungUp None None lines = Unit {0}
HungUp None (Some after) lines = ⊥
HungUp (Some before) None lines = ⊥
HungUp (Some before) (Some after) lines =
    (backs : List Hung) × AreHung lines backs
    × (before ≡ record after { links = map (λ back. back.link.given) backs ++ after.links; hung = before.hung })
    × (after.hung ≡ before.hung ++ backs)

-- # Hanging up

-- the link came back, with what its two ends tell
abbrev pub HangsLine : Option StationTold → Option StationTold → LineNow → Type 0
HangsLine before after now = Hangs before after (EndsTell now.origin now.left now.held now.read_faults now.write_faults)

-- the link to the authority came back, and then that to the helper, where it was dialled
abbrev pub HangsUp : Option StationTold → Option StationTold → LineNow → Option LineNow → Type 0
HangsUp before after desk None = HangsLine before after desk
HangsUp before after desk (Some helper) = (between : Option StationTold) × HangsLine before between desk × HangsLine between after helper

-- the station counted a fault for each link that failed, and no other
abbrev pub CountsLinks : ℕ → ℕ → LineNow → Option LineNow → Type 0
CountsLinks before after desk None = RoseWhere (link_fails desk) before after
CountsLinks before after desk (Some helper) = (between : ℕ) × RoseWhere (link_fails desk) before between × RoseWhere (link_fails helper) between after

-- nothing is left of a link that was read to its end
abbrev pub AreUsedUp : LineNow → Option LineNow → Type 0
AreUsedUp desk None = IsTrue desk.ended → IsUsedUp desk.left
AreUsedUp desk (Some helper) = (IsTrue desk.ended → IsUsedUp desk.left) × (IsTrue helper.ended → IsUsedUp helper.left)
