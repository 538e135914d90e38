-- The table of connections, and whose history it stands for.
use Rattle.std.specs.Prelude.{◌≡◌, ℕ, ◌+◌, ◌<◌, ◌^◌, ⊤, List, ◌∷◌, Option, Some, None, if◌then◌else◌, ◌-◌, length, map, option_and_then, slice_get}
use Rattle.authority_model.specs.declared.journal.Entry.{Entry}
use Rattle.authority_model.specs.declared.message.Output.{Output}
use Rattle.entry_changes.specs.declared.peer.Peer.{Peer}
use Rattle.authority_model.specs.declared.world.World.{World}
use Rattle.authority_model.specs.declared.journal.Item.{Item}
use Rattle.authority_model.specs.Items.{sent as sent_count, world_of}
use Rattle.authority_model.specs.Legal.{Legal}
use Rattle.entry_changes.specs.Known.{known}
use Rattle.authority_model.specs.Peers.{live_connections}
use Rattle.authority_model.specs.Sent.{collected, sent_to}
use Rattle.peer_book.specs.declared.places.OutputPlace.{OutputPlace}
use Rattle.peer_book.specs.Rows.{row_in}
use Rattle.peer_book.specs.Places.{CanTake, PlaceRows, count_in, output_at, output_shown, places_in, places_of}
use Rattle.peer_book.specs.Counts.{collected_in}

-- What the table tells: what is known of each connection, the live ones by rising number, where the outputs to each stand, how many of them each other one has collected, and how many entries there are; and the receivers of the outputs of the entry that is staged.
pub record Peers : Type 0 where
  pub rows : List (ℕ × Peer)
  pub live : List ℕ
  pub places : List (ℕ × List OutputPlace)
  pub counts : List ((ℕ × ℕ) × ℕ)
  pub entries : ℕ
  pub staged : Option (List ℕ)

-- the table stands for this history: it tells of each connection what the history says
pub record IsPeersOf (past : List Item) (t : Peers) : Type 0 where
  pub rows_are : (c : ℕ) → row_in t.rows c ≡ known past c
  pub live_are : t.live ≡ live_connections past
  pub places_are : (c : ℕ) → map (output_shown past) (places_of t.places c) ≡ map Some (sent_to past c)
  pub sent_are : (c : ℕ) → length (places_of t.places c) ≡ sent_count past c
  pub collected_are : (by c : ℕ) → collected_in t.counts by c ≡ collected past by c
  pub entries_are : t.entries ≡ length past

-- the uid of a row of a live connection
abbrev pub live_uid : Peer → Option ℕ
live_uid row = if row.departed then None else Some row.uid

-- in each history that the table stands for, the output to a connection that has this number among those that it was sent, counted from 1, stands at this place
abbrev pub ShowsOutput : Peers → ℕ → ℕ → Option (ℕ × ℕ) → Type 0
ShowsOutput t c k place = (past : List Item) → IsPeersOf past t → 0 < k → option_and_then (output_at past) place ≡ slice_get (sent_to past c) (k - 1)

-- who the outputs are sent to
abbrev pub receivers : List Output → List ℕ
receivers outputs = map (λ o. o.to) outputs

-- the table tells the same, with this staged
abbrev pub staged_for : Option (List ℕ) → Peers → Peers
staged_for staged t = record { rows = t.rows; live = t.live; places = t.places; counts = t.counts; entries = t.entries; staged = staged }

-- of each history that the old table stands for, the new one stands for that history with this entry, which is legal and leaves this world in force
abbrev pub StandsAfter : Entry → World → Peers → Peers → Type 0
StandsAfter entry world old new = (past : List Item) (i : Item) → i.entry ≡ entry → world ≡ world_of (i ∷ past) → Legal (i ∷ past) → IsPeersOf past old → IsPeersOf (i ∷ past) new

-- What an entry with outputs to these receivers needs: a row more and a count more have room, one entry more can be counted, and so can the outputs, whose places have room.
pub record HasRoomFor (rows : ℕ) (places : PlaceRows) (counts entries : ℕ) (to : List ℕ) : Type 0 where
  pub row : 0 < rows
  pub count : 0 < counts
  pub entry : entries + 1 < 2 ^ 64
  pub few : length to < 2 ^ 32
  pub can : (c : ℕ) → CanTake places c (count_in c to)

-- the same of what is staged
abbrev pub IsReady : ℕ → PlaceRows → ℕ → ℕ → Option (List ℕ) → Type 0
IsReady rows places counts entries None = ⊤
IsReady rows places counts entries (Some to) = HasRoomFor rows places counts entries to

-- 32 bits count the outputs to each connection, and what is staged has its room
pub record IsBook (rows : ℕ) (places : PlaceRows) (counts entries : ℕ) (staged : Option (List ℕ)) : Type 0 where
  pub few : (c : ℕ) → length (places_in places c) < 2 ^ 32
  pub ready : IsReady rows places counts entries staged
