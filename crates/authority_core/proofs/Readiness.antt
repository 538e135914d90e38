-- Whether something can be collected, by the table of connections.
use Rattle.std.proofs.Common.{◌≡◌, ℕ, ◌≤◌, Bool, true, false, List, refl, ap, sym, ◌∙◌, Option, Some, None, length, arith}
use Rattle.std.specs.Prelude.{◌<◌, ◌||◌, nat_lt, option_map}
use Rattle.std.specs.Option.{option_map_or}
use Rattle.std.proofs.lemmas.Bool.Decides.{nat_tests}
use Rattle.authority_model.specs.declared.journal.Item.{Item}
use Rattle.authority_model.specs.Items.{sent}
use Rattle.authority_model.specs.Peers.{departed, last_announced, uid_of}
use Rattle.authority_model.specs.Sent.{collected, is_ready}
use Rattle.authority_laws.proofs.LiveSteps.{departed_connected}
use Rattle.entry_changes.specs.declared.peer.Peer.{Peer}
use Rattle.entry_changes.specs.Known.{known}
use Rattle.peer_book.specs.Book.{IsPeersOf, Peers}
use Rattle.peer_book.specs.Counts.{collected_in}
use Rattle.peer_book.specs.Places.{places_of}
use Rattle.peer_book.specs.Rows.{row_in}

-- a connection departed where its row says so
departed_known : (past : List Item) (c : ℕ) → option_map_or (λ (row : Peer). row.departed) (known past c) false ≡ departed past c
departed_known past c = of (uid_of past c) refl
  where
    of : (u : Option ℕ) → uid_of past c ≡ u → option_map_or (λ (row : Peer). row.departed) (option_map (λ uid. record { uid = uid; departed = departed past c; announced = last_announced past c }) u) false ≡ departed past c
    of None is = sym (departed_connected past c is)
    of (Some uid) is = refl

module _ (past : List Item) (t : Peers) (is : IsPeersOf past t) (by c : ℕ) where
  -- there is something to collect, or the connection has departed
  ready_is : (nat_lt (collected_in t.counts by c) (length (places_of t.places c)) || option_map_or (λ (row : Peer). row.departed) (row_in t.rows c) false) ≡ is_ready past by c
  ready_is =
      ap (λ n. nat_lt n (length (places_of t.places c)) || option_map_or (λ (row : Peer). row.departed) (row_in t.rows c) false) (is.collected_are by c)
      ∙ ap (λ n. nat_lt (collected past by c) n || option_map_or (λ (row : Peer). row.departed) (row_in t.rows c) false) (is.sent_are c)
      ∙ ap (λ (o : Option Peer). nat_lt (collected past by c) (sent past c) || option_map_or (λ row. row.departed) o false) (is.rows_are c)
      ∙ ap (λ b. nat_lt (collected past by c) (sent past c) || b) (departed_known past c)

  pub ready_then : (m n : ℕ) → m ≡ collected_in t.counts by c → n ≡ length (places_of t.places c) → m < n → true ≡ is_ready past by c
  ready_then m n held had less =
      let test : nat_lt (collected_in t.counts by c) (length (places_of t.places c)) ≡ true = grind (arith, nat_tests) in
      sym (ap (λ b. b || option_map_or (λ (row : Peer). row.departed) (row_in t.rows c) false) test) ∙ ready_is

  pub ready_else : (m n : ℕ) (d : Bool) → m ≡ collected_in t.counts by c → n ≡ length (places_of t.places c) → n ≤ m → d ≡ option_map_or (λ (row : Peer). row.departed) (row_in t.rows c) false → d ≡ is_ready past by c
  ready_else m n d held had most told =
      let test : nat_lt (collected_in t.counts by c) (length (places_of t.places c)) ≡ false = grind (arith, nat_tests) in
      told ∙ sym (ap (λ b. b || option_map_or (λ (row : Peer). row.departed) (row_in t.rows c) false) test) ∙ ready_is
