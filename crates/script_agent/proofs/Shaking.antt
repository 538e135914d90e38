-- A connection that shook hands.
use Rattle.std.proofs.Common.{◌≡◌, ℕ, ◌+◌, Bool, true, false, List, [], ◌∷◌, ◌++◌, length, Option, Some, None, Result, Ok, Err, refl, ap, sym, ◌∙◌, subst, append_assoc, append-nil, inl, inr, arith, IsTrue, ◌⊎◌}
use Rattle.pk_outside.specs.Causes.{one_more}
use Rattle.pk_outside.specs.Links.{Origin, bytes_of}
use Rattle.pk_outside.specs.Streams.{Gave}
use Rattle.pk_outside.proofs.Written.{Gave-more}
use Rattle.authority_model.specs.Words.{Bytes}
use Rattle.client_link.specs.declared.stop.LinkStop.{LinkStop}
use Rattle.client_link.specs.declared.stop.LinkStop.TheVariants as stop
use Rattle.client_link.specs.Faults.{LinkFaults, OneFailed}
use Rattle.pk_outside.specs.Allowing.{IsFront}
use Rattle.client_link.specs.Shakings.{client_bytes, ShakesHands}
use Rattle.script_agent.specs.declared.status.AgentStatus.TheVariants as status
use Rattle.script_agent.specs.Challenges.{Ask, ask_bytes, helper_bytes}
use Rattle.script_agent.specs.Lines.{LineNow, LineStory, IsToldBy, IsBegun, IsSound, dialled}
use Rattle.script_agent.specs.Steps.{HelperStands, IsDialled, LineStopped, link_fails, asked}
use Rattle.script_agent.specs.Stops.{status_of}
use Rattle.script_agent.proofs.Fronts.{fails_read, fails_write, front_along}
use Rattle.script_agent.proofs.Moves.{Holds-more}

-- what a shake of hands by this user comes to
abbrev pub Shook : ℕ → LineNow → LineNow → Result (Unit {0}) LinkStop → Type 0
Shook uid before now result = ShakesHands uid before.left now.left now.ended before.held now.held now.rest result

-- a connection on which hands were shaken, and nothing else
abbrev pub shaken : Bytes → LineNow → Bytes → Bytes → LineStory
shaken path now read written = record { path = path; read = read; ended = now.ended; messages = []; rest = now.rest; written = written }

pub shaken_told : (uid : ℕ) (before now : LineNow) (result : Result (Unit {0}) LinkStop) (path : Bytes) (s : Shook uid before now result) → IsDialled path before → now.origin ≡ before.origin → IsToldBy now (shaken path now s.read s.written)
shaken_told uid before now result path s d origin = record {
  gave = subst (λ (o : Option Origin). Gave (bytes_of o) now.left s.read) (sym origin) (Gave-more _ _ _ [] s.read d.told.gave s.gave);
  holds = Holds-more before.held now.held [] s.written d.told.holds s.got;
  ended = λ e. e;
}

pub shaken_begun : (uid : ℕ) (before now : LineNow) (path : Bytes) (s : Shook uid before now (Ok tt)) → IsBegun (shaken path now s.read s.written)
shaken_begun uid before now path s = record { behind = now.rest; begun = s.shakes.0; follow = refl }

-- the counts behind it
pub still_sound : (before now : LineNow) → IsSound before → LinkFaults {A = Unit {0}} before.read_faults now.read_faults before.write_faults now.write_faults (Ok tt) → IsSound now
still_sound before now s f = record { reads = f.0 ∙ s.reads; writes = f.1 ∙ s.writes }

pub one_fails : (before now : LineNow) → IsSound before → OneFailed before.read_faults now.read_faults before.write_faults now.write_faults → link_fails now ≡ true
one_fails before now s (inl f) = fails_read now (f.0 ∙ ap one_more s.reads) (f.1 ∙ s.writes)
one_fails before now s (inr f) = fails_write now (f.0 ∙ s.reads) (f.1 ∙ ap one_more s.writes)

-- a prefix of the handshake is one of all that is due
pub front_longer : (written due more : Bytes) → IsFront written due → IsFront written (due ++ more)
front_longer written due more f = (f.0 ++ more, ap (λ x. x ++ more) f.1 ∙ append_assoc written f.0 more)

-- # The helper

pub helper_shaken : (path : Bytes) (before now : LineNow) (s : Shook 0 before now (Ok tt)) → IsDialled path before → now.origin ≡ before.origin → now.sent ≡ before.sent → IsSound now → HelperStands path [] now (shaken path now s.read s.written)
helper_shaken path before now s d origin sent sound = record {
  told = shaken_told 0 before now _ path s d origin;
  replied = record { path_is = refl; begun = shaken_begun 0 before now path s; replies = refl; written = s.shakes.1 ∙ sym (append-nil (client_bytes 0)) };
  rest = refl;
  sent = sent ∙ d.sent;
  sound = sound;
}

pub helper_unshaken : (path : Bytes) (before now : LineNow) (last : Ask) (why : LinkStop) → Shook 0 before now (Err why) → IsDialled path before → now.origin ≡ before.origin
    → LinkFaults {A = Unit {0}} before.read_faults now.read_faults before.write_faults now.write_faults (Err why) → LineStopped path [] last now (status_of why)
helper_unshaken path before now last why s d origin f = by why s f
  where
    by : (why : LinkStop) → Shook 0 before now (Err why) → LinkFaults {A = Unit {0}} before.read_faults now.read_faults before.write_faults now.write_faults (Err why) → LineStopped path [] last now (status_of why)
    by stop.Failed s f = record {
      line = shaken path now s.read s.written;
      told = shaken_told 0 before now _ path s d origin;
      stops = (refl, front_longer s.written (client_bytes 0) (ask_bytes 1 last ++ []) s.shakes);
      cause = one_fails before now d.sound f;
    }
    by (stop.BadShake fault) s f = record {
      line = shaken path now s.read s.written;
      told = shaken_told 0 before now _ path s d origin;
      stops = (shaken path now s.read s.written, refl, refl, record { path_is = refl; written = s.shakes.1 }, s.shakes.0);
      cause = tt;
    }
    by (stop.BadBytes kind at) s f = elim s.shakes [ ]
    by stop.Cut s f = record {
      line = shaken path now s.read s.written;
      told = shaken_told 0 before now _ path s d origin;
      stops = (shaken path now s.read s.written, refl, s.shakes.1, inl (refl, record { path_is = refl; written = s.shakes.2 }, s.shakes.0));
      cause = tt;
    }
    by stop.NoMemory s f = record {
      line = shaken path now s.read s.written;
      told = shaken_told 0 before now _ path s d origin;
      stops = (refl, front_longer s.written (client_bytes 0) (ask_bytes 1 last ++ []) s.shakes);
      cause = tt;
    }
