-- The indexes: which entry each of their keys names.
use Rattle.std.specs.Prelude.{◌≡◌, ◌≤◌, ℕ, ◌==◌, ◌&&◌, Bool, not, if◌then◌else◌, List, Option, bytes_eq, find, length}
use Rattle.std.specs.Option.{option_map}
use Rattle.std.specs.Map.{lookup}
use Rattle.std.specs.Cow.{cow_slice_items}
use Rattle.std.specs.declared.alloc.Global.{Global}
use Rattle.std.specs.declared.borrow.CowSlice.{CowSlice}
use Rattle.pk_types.specs.Decimals.{is_empty}
use Rattle.authority_model.specs.declared.pending.Pending.{Pending}
use Rattle.authority_model.specs.Words.{Bytes}
use Rattle.authority_model.specs.Cookies.{cookie_text}
use Rattle.entry_changes.specs.Finding.{is_sent, has_id}
use Rattle.entry_changes.specs.Changes.{AreApart}
use Rattle.challenge_book.specs.declared.indexed.TheConstants.{MAX_CHALLENGES}
use Rattle.challenge_book.specs.Users.{AreCounted}

-- a text, owned or borrowed
abbrev pub KeyText : Type 0
KeyText = CowSlice ℕ Global

-- whether a key is this text
abbrev pub is_text : Bytes → KeyText → Bool
is_text text q = bytes_eq text (cow_slice_items q)

-- whether a key is this agent with this serial
abbrev pub is_pair : ℕ → ℕ → ℕ × ℕ → Bool
is_pair agent serial q = (agent == q.0) && (serial == q.1)

-- whether a key is this asker with this cancellation id
abbrev pub is_id : ℕ → Bytes → ℕ × KeyText → Bool
is_id asker id q = (asker == q.0) && is_text id q.1

-- whether a key is this asker with this cancellation id, which is not empty
abbrev pub is_full_id : ℕ → Bytes → ℕ × KeyText → Bool
is_full_id asker id q = not (is_empty id) && is_id asker id q

-- the entry at a cookie's text
abbrev pub entry_of_cookie : List (KeyText × ℕ) → KeyText → Option ℕ
entry_of_cookie es q = lookup (is_text (cow_slice_items q)) es

-- the entry at an agent and the serial that it was asked with
abbrev pub entry_at : List ((ℕ × ℕ) × ℕ) → ℕ × ℕ → Option ℕ
entry_at es q = lookup (is_pair q.0 q.1) es

-- the entry at an asker and a cancellation id
abbrev pub entry_named : List ((ℕ × KeyText) × ℕ) → ℕ × KeyText → Option ℕ
entry_named es q = lookup (is_id q.0 (cow_slice_items q.1)) es

-- a look-up gives this at the keys that pass the test, and at the others what it gave before
abbrev pub Sets : {Q E : Type 0} → (List E → Q → Option ℕ) → (Q → Bool) → Option ℕ → List E → List E → Type 0
Sets {Q} look test entry old new = (q : Q) → look new q ≡ (if test q then entry else look old q)

-- whether a challenge has a cookie with this text
abbrev pub has_cookie : KeyText → Pending → Bool
has_cookie q ch = is_text (cookie_text ch.cookie) q

-- whether a challenge's Begin was sent to this agent with this serial
abbrev pub is_asked : ℕ × ℕ → Pending → Bool
is_asked q ch = is_sent q.0 q.1 ch

-- whether a challenge is of this connection's check with this cancellation id, which is not empty
abbrev pub is_named : ℕ × KeyText → Pending → Bool
is_named q ch = not (is_empty (cow_slice_items q.1)) && has_id q.0 (cow_slice_items q.1) ch

-- an index names the entry of the first challenge that the test of its key finds
abbrev pub Indexes : {Q : Type 0} → (Q → Pending → Bool) → (Q → Option ℕ) → List Pending → Type 0
Indexes {Q} test index items = (q : Q) → index q ≡ option_map (λ (ch : Pending). ch.entry) (find (test q) items)

-- No two challenges can be mistaken for each other, they can be counted in a u32, each index names the entries of those that its look-up finds, and those of each user are counted.
pub record AreIndexed (items : List Pending) (cookies : List (KeyText × ℕ)) (agents : List ((ℕ × ℕ) × ℕ)) (ids : List ((ℕ × KeyText) × ℕ)) (users : List (ℕ × ℕ)) : Type 0 where
  pub apart : AreApart items
  pub few : length items ≤ MAX_CHALLENGES
  pub cookies_are : Indexes has_cookie (entry_of_cookie cookies) items
  pub agents_are : Indexes is_asked (entry_at agents) items
  pub ids_are : Indexes is_named (entry_named ids) items
  pub users_are : AreCounted users items
