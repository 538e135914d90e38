-- How an opening ends a connection, or begins its messages.
use Rattle.std.proofs.Common.{◌≡◌, ℕ, List, [], Option, refl, ap, sym, ◌∙◌, subst}
use Rattle.std.specs.Prelude.{Bool, IsTrue}
use Rattle.std.proofs.lemmas.List.{append-nil}
use Rattle.connection_serve.specs.declared.ends.End.TheVariants as end
use Rattle.connection_serve.specs.Halves.{HasBegun, HasEnded}
use Rattle.connection_serve.specs.Headline.{greeting}
use Rattle.connection_serve.proofs.Causes.{front_got, rose_above}
use Rattle.link_handshake.specs.declared.server.ShakeFault.{ShakeFault}
use Rattle.link_handshake.specs.Replies.{reply_lines}
use Rattle.link_handshake.specs.Shakes.{Shaken, shake}
use Rattle.link_opening.specs.declared.ends.Opening.{Opening}
use Rattle.link_opening.specs.declared.ends.Opening.TheVariants as opening
use Rattle.link_opening.specs.Opens.{Opens}
use Rattle.pk_outside.proofs.Written.{Gave-none, Got-none}
use Rattle.pk_outside.specs.Causes.{Rose}
use Rattle.pk_outside.specs.Streams.{IsUsedUp}

module _ (uid guid : ℕ) (first : List ℕ) (none : first ≡ []) (left_before left held_before held : Option (List ℕ)) (ended : Bool) (rest : List ℕ) (read_before read_faults write_before write_faults : ℕ) where
  -- so an opening speaks whose buffer had these bytes
  abbrev pub Speaks : List ℕ → Opening → Type 0
  Speaks bytes opened = Opens uid guid bytes left_before left ended held_before held rest opened

  plain : (opened : Opening) → Speaks first opened → Speaks [] opened
  plain opened o = subst (λ (bytes : List ℕ). Speaks bytes opened) none o

  -- the messages began
  pub begins : Speaks first opening.Begun → HasBegun uid guid left_before left held_before held rest
  begins opens = let o = plain opening.Begun opens in record { read = o.read; gave = o.gave; settles = o.ends }

  -- the handshake had a fault
  pub ends_by_fault : (fault : ShakeFault) → Speaks first (opening.BadShake fault) → HasEnded uid guid left_before left held_before held read_before read_faults write_before write_faults (end.BadShake fault)
  ends_by_fault fault opens =
      let o = plain (opening.BadShake fault) opens in
      let is = ap (shake uid) (sym (append-nil o.read)) ∙ o.ends.answered [] in
      record {
        read = o.read;
        written = reply_lines guid o.ends.replies;
        gave = o.gave;
        got = o.ends.wrote;
        ends = (ap (λ (s : Shaken). s.standing) is, sym (ap (λ (s : Shaken). reply_lines guid s.replies) is));
        faults = tt;
      }

  -- the source ended in the handshake
  pub ends_by_cut : (IsTrue ended → IsUsedUp left) → Speaks first opening.Cut → HasEnded uid guid left_before left held_before held read_before read_faults write_before write_faults end.ShakeCut
  ends_by_cut used opens = let o = plain opening.Cut opens in record { read = o.read; written = greeting uid guid o.read; gave = o.gave; got = o.ends.0.wrote; ends = (o.ends.0.standing, used o.ends.1, refl); faults = tt }

  -- or failed there
  pub ends_by_read : Rose read_before read_faults → Speaks first opening.ReadFault → HasEnded uid guid left_before left held_before held read_before read_faults write_before write_faults end.ReadFault
  ends_by_read rose opens = let o = plain opening.ReadFault opens in record { read = o.read; written = greeting uid guid o.read; gave = o.gave; got = o.ends.wrote; ends = (rose_above read_before read_faults rose, o.ends.standing, refl); faults = rose }

  -- the sink failed there
  pub ends_by_write : Rose write_before write_faults → Speaks first opening.WriteFault → HasEnded uid guid left_before left held_before held read_before read_faults write_before write_faults end.WriteFault
  ends_by_write rose opens =
      let o = plain opening.WriteFault opens in
      let w = front_got held_before held (greeting uid guid o.read) o.ends in
      record { read = o.read; written = w.0; gave = o.gave; got = w.1; ends = (rose_above write_before write_faults rose, w.2); faults = rose }

  -- memory was refused there
  pub ends_by_memory : Speaks first opening.NoMemory → HasEnded uid guid left_before left held_before held read_before read_faults write_before write_faults end.NoMemory
  ends_by_memory opens =
      let o = plain opening.NoMemory opens in
      let w = front_got held_before held (greeting uid guid o.read) o.ends in
      record { read = o.read; written = w.0; gave = o.gave; got = w.1; ends = w.2; faults = tt }

-- memory was refused before anything was read
pub ends_at_once : (uid guid : ℕ) (left held : Option (List ℕ)) (read_faults write_faults : ℕ) → HasEnded uid guid left left held held read_faults read_faults write_faults write_faults end.NoMemory
ends_at_once uid guid left held read_faults write_faults = record { read = []; written = []; gave = Gave-none left; got = Got-none held; ends = (greeting uid guid [], refl); faults = tt }
