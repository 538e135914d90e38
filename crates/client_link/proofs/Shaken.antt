-- The bytes that a client was fed, and how its handshake stands after them.
use Rattle.std.proofs.Common.{◌≡◌, ℕ, List, [], ◌∷◌, ◌++◌, Option, Some, None, refl, sym, ap, ◌∙◌, append_assoc, append-nil, subst}
use Rattle.pk_outside.specs.Streams.{Gave}
use Rattle.pk_outside.proofs.Written.{Gave-none, Gave-more}
use Rattle.link_handshake.specs.Clients.{ClientShaking, awaited, client_over, client_over_in, client_to_come, client_to_come_in}
use Rattle.link_handshake.specs.Lines.{front}
use Rattle.link_handshake.specs.Shakes.{Standing, Open, Begun, Failed}
use Rattle.link_handshake.specs.declared.client.ClientState.{ClientState}
use Rattle.link_handshake.specs.declared.client.ClientState.TheVariants as state
use Rattle.link_handshake.specs.declared.client.ClientStep.TheVariants as step
use Rattle.link_handshake.specs.declared.server.ShakeFault.{ShakeFault}

-- a client that was accepted takes no more bytes for its handshake
begun_in : (s : ClientState) (line more : List ℕ) → client_over_in s ≡ Some step.SendBegin → client_to_come_in s line more ≡ Begun more
begun_in state.Awaiting line more over = cc
begun_in state.Accepted line more over = refl
begun_in (state.Fault cause) line more over = cc

pub begun_now : (c : ClientShaking) (more : List ℕ) → client_over c ≡ Some step.SendBegin → client_to_come c more ≡ Begun more
begun_now c more over = begun_in c.state c.line more over

-- neither does one that met a fault
failed_in : (s : ClientState) (line more : List ℕ) (fault : ShakeFault) → client_over_in s ≡ Some (step.Fault fault) → client_to_come_in s line more ≡ Failed fault
failed_in state.Awaiting line more fault over = cc
failed_in state.Accepted line more fault over = cc
failed_in (state.Fault cause) line more fault over = cc

pub failed_now : (c : ClientShaking) (more : List ℕ) (fault : ShakeFault) → client_over c ≡ Some (step.Fault fault) → client_to_come c more ≡ Failed fault
failed_now c more fault over = failed_in c.state c.line more fault over

-- before any byte the line is awaited
pub open_first : awaited [] ≡ Open
unfolding front
open_first = refl

-- these bytes were read, and the client that was fed them awaits the rest of the line
pub record Fed (left_before left : Option (List ℕ)) (shake : ClientShaking) : Type 0 where
  pub read : List ℕ
  pub gave : Gave left_before left read
  pub same : (more : List ℕ) → awaited (read ++ more) ≡ client_to_come shake more

pub fed_first : (left : Option (List ℕ)) (shake : ClientShaking) → ((bytes : List ℕ) → client_to_come shake bytes ≡ awaited bytes) → Fed left left shake
fed_first left shake all = record { read = []; gave = Gave-none left; same = λ more. sym (all more) }

-- more was read and fed
pub fed_more : (a b c : Option (List ℕ)) (shake shake' : ClientShaking) (bytes : List ℕ) → Fed a b shake → Gave b c bytes
    → ((more : List ℕ) → client_to_come shake (bytes ++ more) ≡ client_to_come shake' more) → Fed a c shake'
fed_more a b c shake shake' bytes f gave fed = record {
  read = f.read ++ bytes;
  gave = Gave-more a b c f.read bytes f.gave gave;
  same = λ more. ap awaited (append_assoc f.read bytes more) ∙ f.same (bytes ++ more) ∙ fed more;
}

-- how the handshake stands after these last bytes and those that follow
pub fed_shows_more : (a b c : Option (List ℕ)) (shake : ClientShaking) (bytes : List ℕ) (P : List ℕ → Standing) → Fed a b shake → Gave b c bytes → ((more : List ℕ) → client_to_come shake (bytes ++ more) ≡ P more)
    → (read : List ℕ) × Gave a c read × ((more : List ℕ) → awaited (read ++ more) ≡ P more)
fed_shows_more a b c shake bytes P f gave shows = (
  f.read ++ bytes,
  Gave-more a b c f.read bytes f.gave gave,
  λ more. ap awaited (append_assoc f.read bytes more) ∙ f.same (bytes ++ more) ∙ shows more,
)

-- how the handshake stands after these last bytes
pub fed_shows : (a b c : Option (List ℕ)) (shake : ClientShaking) (bytes : List ℕ) (s : Standing) → Fed a b shake → Gave b c bytes → client_to_come shake bytes ≡ s
    → (read : List ℕ) × Gave a c read × (awaited read ≡ s)
fed_shows a b c shake bytes s f gave shows = (f.read ++ bytes, Gave-more a b c f.read bytes f.gave gave, f.same bytes ∙ shows)
