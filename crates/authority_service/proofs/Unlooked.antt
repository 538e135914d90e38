-- Lines of connections as of connections that never looked at a process.
use Rattle.std.proofs.Common.{◌≡◌, ◌<◌, ◌+◌, ◌++◌, [], ◌∷◌, List, ℕ, suc, Bool, true, false, Option, None, arith, get_or, length, take, refl, subst, sym, ap, ◌∙◌}
use Rattle.std.specs.Prelude.{All, map}
use Rattle.std.proofs.lemmas.List.{map-append}
use Rattle.std.proofs.lemmas.List.Elements.{All-append, All-cons, All-nil}
use Rattle.std.proofs.Math.Seq.{take-suc}
use Rattle.authority_model.specs.declared.journal.Item.{Item}
use Rattle.connection_serve.specs.declared.ends.LiveEnd.TheVariants as live
use Rattle.connection_serve.specs.Ends.{plain_of}
use Rattle.pk_outside.specs.Links.{LinkBack}
use Rattle.pk_outside.specs.Stations.{DoorBack, StationTold}
use Rattle.service_slots.specs.declared.line.Line.{Line}
use Rattle.service_slots.specs.Served.{Served, Slots, SlotsOf, Spoke}
use Rattle.authority_service.specs.Looks.{NeverLooked}

-- the line of a connection without its looks
abbrev pub unlooked : Line → Line
unlooked line = record line { sighter = None; end = live.Plain (plain_of line.end) }

-- lines without looks never looked
pub all_unlooked : (lines : List Line) → All NeverLooked (map unlooked lines)
all_unlooked [] = All-nil NeverLooked
all_unlooked (line ∷ lines) = All-cons NeverLooked (unlooked line) (map unlooked lines) (record { sighter = refl; plain = refl }) (all_unlooked lines)

-- lines that never looked, and one more
pub all_more : (lines : List Line) (i : ℕ) (d : Line) → i < length lines → All NeverLooked (take i lines) → NeverLooked (get_or lines i d) → All NeverLooked (take (i + 1) lines)
all_more lines i d lt so one =
    let next : i + 1 ≡ suc i = omega arith in
    let is : take (i + 1) lines ≡ take i lines ++ get_or lines i d ∷ [] = ap (λ (n : ℕ). take n lines) next ∙ take-suc lines i d lt in
    subst (All NeverLooked) (sym is) (All-append NeverLooked (take i lines) (get_or lines i d ∷ []) so (All-cons NeverLooked (get_or lines i d) [] one (All-nil NeverLooked)))

-- what a line says of a link
spoke_unlooked : (H : List Item) (uid : ℕ) (link : LinkBack) (line : Line) (readings words : List ℕ) → Spoke H uid link line readings words → Spoke H uid link (unlooked line) readings words
spoke_unlooked H uid link line readings words s = record {
  history = s.history;
  begins = s.begins;
  read = s.read;
  given = s.given;
  of_owner = s.of_owner;
  connection = s.connection;
  watched = tt;
  wrote = tt;
}

-- what the lines of a slot say of its links
served_unlooked : (H : List Item) (uid : ℕ) (links : List LinkBack) (lines : List Line) (readings words : List ℕ) → Served H uid links lines readings words → Served H uid links (map unlooked lines) readings words
served_unlooked H uid [] [] readings words s = s
served_unlooked H uid [] (line ∷ lines) readings words s = absurd s
served_unlooked H uid (link ∷ links) [] readings words s = absurd s
served_unlooked H uid (link ∷ links) (line ∷ lines) readings words (used, later, drawn, others, r, w, spoke, rest) =
    (used, later, drawn, others, r, w, spoke_unlooked H uid link line used drawn spoke, served_unlooked H uid links lines later others rest)

-- the same of all slots
all_slots_unlooked : (H : List Item) (backs : List DoorBack) (lines : List Line) → Slots H backs lines → Slots H backs (map unlooked lines)
all_slots_unlooked H [] lines s = ap (map unlooked) s
all_slots_unlooked H (back ∷ backs) lines (mine, others, is, served, rest) =
    (map unlooked mine, map unlooked others, ap (map unlooked) is ∙ map-append unlooked mine others, served_unlooked H back.door.uid back.door.taken mine back.readings back.words served, all_slots_unlooked H backs others rest)

-- the same where the station tells
pub slots_unlooked : (H : List Item) (told : Option StationTold) (lines : List Line) → SlotsOf H told lines → SlotsOf H told (map unlooked lines)
slots_unlooked H told lines s = record { where_told = (λ t e. all_slots_unlooked H t.shut lines (s.where_told t e)) }

-- a plan is not both
pub never_both : {P : Type 0} (live : Bool) → live ≡ true → live ≡ false → P
never_both live is other = absurd (cc (sym is ∙ other))
