-- Rows by the number of a connection, of which one is put down anew.
use Rattle.std.proofs.Common.{◌≡◌, ℕ, ◌==◌, Bool, true, false, not, List, [], ◌∷◌, ◌++◌, refl, ap, sym, ◌∙◌, Option, Some, None}
use Rattle.std.proofs.lemmas.Bool.Decides.{Decides-eqb}
use Rattle.std.specs.Prelude.{if◌then◌else◌, filter, find, option_map}
use Rattle.std.specs.Option.{option_map_or}
use Rattle.entry_changes.specs.declared.peer.Peer.{Peer}
use Rattle.plain_view.specs.declared.rows.PeerRow.{PeerRow}
use Rattle.plain_view.specs.declared.rows.SentRow.{SentRow}
use Rattle.plain_view.specs.Plain.{count_among, peer_among}

-- the rows of all other numbers, and then a new one
abbrev pub put : {A : Type 0} → (A → ℕ) → A → List A → List A
put key new rows = filter (λ r. not (key r == key new)) rows ++ new ∷ []

-- the new row is found by its number, and any other by its own
find_put : {A : Type 0} (key : A → ℕ) (new : A) (c : ℕ) (rows : List A) → find (λ r. key r == c) (put key new rows) ≡ (if key new == c then Some new else find (λ r. key r == c) rows)
find_put key new c [] = refl
find_put {A} key new c (r ∷ rows) = go (key r == key new) (key r == c) (key new == c) refl refl refl (find_put key new c rows)
  where
    rest : List A
    rest = put key new rows

    found : Option A
    found = find (λ r. key r == c) rows

    go : (a b d : Bool) → (key r == key new) ≡ a → (key r == c) ≡ b → (key new == c) ≡ d → find (λ r. key r == c) rest ≡ (if key new == c then Some new else found)
        → find (λ r. key r == c) ((if not a then r ∷ filter (λ r. not (key r == key new)) rows else filter (λ r. not (key r == key new)) rows) ++ new ∷ []) ≡ (if d then Some new else (if b then Some r else found))
    go true true true is here there more = more ∙ ap (λ t. if t then Some new else found) there
    go true false true is here there more = more ∙ ap (λ t. if t then Some new else found) there
    go true false false is here there more = more ∙ ap (λ t. if t then Some new else found) there
    go true true false is here there more = absurd (cc (ap (λ k. k == c) ((Decides-eqb (key r) (key new)).0 is)))
    go false true true is here there more = absurd (cc ((Decides-eqb (key r) (key new)).1 ((Decides-eqb (key r) c).0 here ∙ sym ((Decides-eqb (key new) c).0 there))))
    go false true false is here there more = ap (λ t. if t then Some r else find (λ r. key r == c) rest) here
    go false false true is here there more = ap (λ t. if t then Some r else find (λ r. key r == c) rest) here ∙ more ∙ ap (λ t. if t then Some new else found) there
    go false false false is here there more = ap (λ t. if t then Some r else find (λ r. key r == c) rest) here ∙ more ∙ ap (λ t. if t then Some new else found) there

-- what is known of a connection after its row was put down anew
pub peer_put : (caller : ℕ) (peer : Peer) (rows : List PeerRow) (c : ℕ) → peer_among (put (λ (r : PeerRow). r.caller) (record { caller = caller; peer = peer }) rows) c ≡ (if caller == c then Some peer else peer_among rows c)
peer_put caller peer rows c = ap (option_map (λ (r : PeerRow). r.peer)) (find_put (λ (r : PeerRow). r.caller) (record { caller = caller; peer = peer }) c rows) ∙ go (caller == c)
  where
    go : (b : Bool) → option_map (λ (r : PeerRow). r.peer) (if b then Some (record { caller = caller; peer = peer }) else find (λ (r : PeerRow). r.caller == c) rows) ≡ (if b then Some peer else peer_among rows c)
    go true = refl
    go false = refl

-- how many outputs went to a connection after its row was put down anew
pub count_put : (caller count : ℕ) (rows : List SentRow) (c : ℕ) → count_among (put (λ (r : SentRow). r.caller) (record { caller = caller; count = count }) rows) c ≡ (if caller == c then count else count_among rows c)
count_put caller count rows c = ap (λ o. option_map_or (λ (r : SentRow). r.count) o 0) (find_put (λ (r : SentRow). r.caller) (record { caller = caller; count = count }) c rows) ∙ go (caller == c)
  where
    go : (b : Bool) → option_map_or (λ (r : SentRow). r.count) (if b then Some (record { caller = caller; count = count }) else find (λ (r : SentRow). r.caller == c) rows) 0 ≡ (if b then count else count_among rows c)
    go true = refl
    go false = refl
