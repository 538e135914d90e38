-- What a slot has done goes on to hold as its history grows, and as one more link comes back.
use Rattle.std.proofs.Common.{◌≡◌, ◌++◌, [], ◌∷◌, List, ℕ, Option, Some, IfSome, refl, sym, ap, ◌∙◌, subst, append_assoc, append-nil}
use mathlib.Core.List.{IsPrefix}
use Rattle.history_lock.proofs.Prefixes.{prefix_trans}
use Rattle.history_lock.specs.Known.{Known}
use Rattle.pk_outside.specs.Links.{Origin, LinkBack, EndsTell, bytes_of}
use Rattle.pk_outside.specs.Doors.{DoorTold, GivesLink, TakesBack}
use Rattle.pk_outside.specs.Streams.{Gave, IsUsedUp}
use Rattle.authority_model.specs.declared.journal.Item.{Item}
use Rattle.authority_model.specs.declared.journal.Limits.{Limits}
use Rattle.connection_serve.specs.declared.ends.LiveEnd.{LiveEnd}
use Rattle.connection_serve.specs.declared.ends.LiveEnd.TheVariants as live
use Rattle.connection_serve.specs.Ends.{OnSightFault, plain_of}
use Rattle.connection_serve.specs.Headline.{Serves, sent_texts}
use Rattle.connection_serve.specs.Live.{WroteAll}
use Rattle.shared_authority.specs.Journals.{past_of}
use Rattle.service_slots.specs.declared.line.Line.{Line}
use Rattle.service_slots.specs.Served.{HasWatched, Spoke, Served, SlotOf}
use Rattle.service_slots.proofs.Told.{got_from, takes_from, gives_from, link_read, link_written}

-- the same of a longer history
spoke_longer : (H more : List Item) (uid : ℕ) (link : LinkBack) (line : Line) (readings words : List ℕ) → IsPrefix H more → Spoke H uid link line readings words → Spoke more uid link line readings words
spoke_longer H more uid link line readings words longer s =
    record {
      history = s.history;
      begins = prefix_trans s.history H more s.begins longer;
      read = s.read;
      given = s.given;
      of_owner = s.of_owner;
      connection = s.connection;
      watched = s.watched;
      wrote = s.wrote;
    }

-- the same of a longer history
pub served_longer : (H more : List Item) (uid : ℕ) (links : List LinkBack) (lines : List Line) (readings words : List ℕ) → IsPrefix H more → Served H uid links lines readings words → Served more uid links lines readings words
served_longer H more uid [] [] readings words longer s = s
served_longer H more uid [] (line ∷ lines) readings words longer s = absurd s
served_longer H more uid (link ∷ links) [] readings words longer s = absurd s
served_longer H more uid (link ∷ links) (line ∷ lines) readings words longer (used, later, drawn, others, r, w, spoke, rest) =
    (used, later, drawn, others, r, w, spoke_longer H more uid link line used drawn longer spoke, served_longer H more uid links lines later others longer rest)

-- one more link came back
pub served_more : (H : List Item) (uid : ℕ) (links : List LinkBack) (lines : List Line) (readings words : List ℕ) (link : LinkBack) (line : Line) (used drawn : List ℕ)
    → Served H uid links lines readings words → Spoke H uid link line used drawn → Served H uid (links ++ link ∷ []) (lines ++ line ∷ []) (readings ++ used) (words ++ drawn)
served_more H uid [] [] readings words link line used drawn s spoke =
    (used, [], drawn, [], ap (λ (r : List ℕ). r ++ used) s.0 ∙ sym (append-nil used), ap (λ (w : List ℕ). w ++ drawn) s.1 ∙ sym (append-nil drawn), spoke, (refl, refl))
served_more H uid [] (l ∷ lines) readings words link line used drawn s spoke = absurd s
served_more H uid (k ∷ links) [] readings words link line used drawn s spoke = absurd s
served_more H uid (k ∷ links) (l ∷ lines) readings words link line used drawn (u, later, d, others, r, w, first, rest) spoke = (
  u,
  later ++ used,
  d,
  others ++ drawn,
  ap (λ (x : List ℕ). x ++ used) r ∙ append_assoc u later used,
  ap (λ (x : List ℕ). x ++ drawn) w ∙ append_assoc d others drawn,
  first,
  served_more H uid links lines later others link line used drawn rest spoke,
)

-- the same of a longer history
pub slot_longer : (H more : List Item) (owner : ℕ) (told : Option DoorTold) (gave drawn : Option (List ℕ)) (lines : List Line) → IsPrefix H more → SlotOf H owner told gave drawn lines → SlotOf more owner told gave drawn lines
slot_longer H more owner told gave drawn lines longer s = record {
  where_told = (λ door readings words t g d.
      let p = s.where_told door readings words t g d in (p.0, served_longer H more owner door.taken lines readings words longer p.1));
}

-- what was written behind a look that failed is what the link holds
wrote_link : (e : LiveEnd) (H : List Item) (held0 held : Option (List ℕ)) (written : List ℕ) (number named : ℕ) → named ≡ number → IsUsedUp held0 → held ≡ Some written → OnSightFault e (WroteAll number H held0 held)
    → OnSightFault e ((replies : List ℕ) × (written ≡ replies ++ sent_texts (past_of H) named))
wrote_link live.SightFault H held0 held written number named is unused e (replies, got) =
    (replies, link_written held0 held (replies ++ sent_texts (past_of H) number) written got unused e ∙ ap (λ (n : ℕ). replies ++ sent_texts (past_of H) n) (sym is))
wrote_link (live.Plain _) H held0 held written number named is unused e fact = fact

-- a link was accepted, served and given back
pub slot_step : (H more : List Item) (limits : Limits) (owner served : ℕ) (told0 told1 told2 : Option DoorTold) (origin back_origin : Option Origin) (v w : Known Item)
    (left0 left held0 held gave0 gave drawn0 drawn : Option (List ℕ)) (read_faults0 read_faults write_faults0 write_faults : ℕ) (lines : List Line) (line : Line)
    → SlotOf H owner told0 gave0 drawn0 lines → IsPrefix H more → IsPrefix w.history more
    → GivesLink told0 told1 origin → Serves limits served v w left0 left held0 held gave0 gave drawn0 drawn read_faults0 read_faults write_faults0 write_faults (plain_of line.end) → IsUsedUp held0
    → TakesBack told1 told2 (EndsTell back_origin left held read_faults write_faults)
    → IfSome line.sighter (λ n. HasWatched n w.number served w.history) → OnSightFault line.end (WroteAll v.number w.history held0 held)
    → line.number ≡ w.number → line.uid ≡ served → served ≡ owner → left0 ≡ bytes_of origin → back_origin ≡ origin
    → SlotOf more owner told2 gave drawn (lines ++ line ∷ [])
slot_step H more limits owner served told0 told1 told2 origin back_origin v w left0 left held0 held gave0 gave drawn0 drawn read_faults0 read_faults write_faults0 write_faults lines line slot longer known gives s unused takes watched wrote_all number uid is_owner unread same_origin = record {
  where_told = (λ door readings words t g d.
      let (b1, is1, path, link, e, taken) = takes_from told1 told2 (EndsTell back_origin left held read_faults write_faults) door takes t in
      let (b0, is0, same, same_uid) = gives_from told0 told1 origin b1 gives is1 in
      let (r0, r_is, r) = got_from gave0 gave s.readings readings s.has_used g in
      let (w0, w_is, ww) = got_from drawn0 drawn s.drawn words s.has_drawn d in
      let (of, before) = slot.where_told b0 r0 w0 is0 r_is w_is in
      let wrote : link.written ≡ s.written = link_written held0 held s.written link.written s.has_written unused e.written in
      let spoke : Spoke more owner link line s.readings s.drawn = record {
        history = w.history;
        begins = known;
        read = s.read;
        given = link_read origin left path link.given link.left s.read (subst (λ (x : Option (List ℕ)). Gave x left s.read) unread s.has_read) (sym same_origin ∙ e.given) e.left;
        of_owner = uid ∙ is_owner;
        connection = rw (number, sym is_owner, sym e.left, wrote, sym e.read_faults, sym e.write_faults) s.connection;
        watched = rw (number, sym is_owner) watched;
        wrote = wrote_link line.end w.history held0 held link.written v.number line.number (number ∙ s.number) unused e.written wrote_all;
      } in
      let all = served_more more owner b0.taken lines r0 w0 link line s.readings s.drawn (served_longer H more owner b0.taken lines r0 w0 longer before) spoke in (
        ap (λ (x : DoorTold). x.uid) taken ∙ sym same_uid ∙ of,
        rw (ap (λ (x : DoorTold). x.taken) taken, sym same, r, ww) all,
      ));
}

-- a refused turn left the door as it was
pub slot_same : (H : List Item) (owner now : ℕ) (told after : Option DoorTold) (gave drawn : Option (List ℕ)) (lines : List Line) → SlotOf H owner told gave drawn lines → after ≡ told → now ≡ owner → SlotOf H now after gave drawn lines
slot_same H owner now told after gave drawn lines s t e = subst (λ (n : ℕ). SlotOf H n after gave drawn lines) (sym e) (subst (λ (d : Option DoorTold). SlotOf H owner d gave drawn lines) (sym t) s)

-- the same of a door of the same user, and of the same lines
pub slot_named : (H : List Item) (owner now : ℕ) (told : Option DoorTold) (gave drawn : Option (List ℕ)) (lines all : List Line) → SlotOf H owner told gave drawn lines → now ≡ owner → all ≡ lines → SlotOf H now told gave drawn all
slot_named H owner now told gave drawn lines all s e l = subst (λ (n : ℕ). SlotOf H n told gave drawn all) (sym e) (subst (λ (x : List Line). SlotOf H owner told gave drawn x) (sym l) s)
