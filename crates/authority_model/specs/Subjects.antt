-- What is known of a subject, after a history.
use Rattle.std.specs.Prelude.{ℕ, List, Option, option_map, option_and_then, codes}
use Rattle.pk_types.specs.declared.values.Subject.{Subject}
use Rattle.authority_model.specs.declared.key.Key.{Key}
use Rattle.authority_model.specs.declared.process_id.ProcessId.{ProcessId}
use Rattle.authority_model.specs.declared.world.World.{World}
use Rattle.pk_types.specs.Decimals.{number_of}
use Rattle.authority_model.specs.Words.{Bytes, after_front}
use Rattle.authority_model.specs.Worlds.{process_row, session_row}
use Rattle.authority_model.specs.Facts.{Facts, facts_of_process, facts_of_session}
use Rattle.authority_model.specs.Items.{Item, world_of}
use Rattle.authority_model.specs.Peers.{announced}

-- the connection that a bus name names: `:1.` and its number
abbrev pub caller_named : Bytes → Option ℕ
caller_named name = option_and_then number_of (after_front (codes ":1.") name)

-- what is known in a world of the process with this pid and start
abbrev pub facts_of_row : World → ℕ → ℕ → Option Facts
facts_of_row world pid start = option_map (facts_of_process world) (process_row world pid start)

-- the process that a pair of a pid and a start names
abbrev pub process_id : ℕ × ℕ → ProcessId
process_id pair = let (pid, start) = pair in record { pid = pid; start = start }

-- what is known in a world of a subject, where a bus name stands for this process
abbrev pub facts_in : World → Option ProcessId → Subject → Option Facts
facts_in world announced (Subject.Process pid start) = facts_of_row world pid start
facts_in world announced (Subject.Session id) = option_map facts_of_session (session_row world id)
facts_in world announced (Subject.BusName name) = option_and_then (λ p. facts_of_row world p.pid p.start) announced

-- what is known of the process with this pid and start
abbrev pub facts_of_pid : List Item → ℕ → ℕ → Option Facts
facts_of_pid past pid start = facts_of_row (world_of past) pid start

-- what is known of a subject: by its row, and for a bus name by the process that its live connection announced
abbrev pub facts : List Item → Subject → Option Facts
facts past (Subject.Process pid start) = facts_of_pid past pid start
facts past (Subject.Session id) = option_map facts_of_session (session_row (world_of past) id)
facts past (Subject.BusName name) = option_and_then (λ p. facts_of_pid past p.pid p.start) (option_and_then (announced past) (caller_named name))

-- the key of a subject
abbrev pub key_of : List Item → Subject → Option Key
key_of past subject = option_map (λ f. f.key) (facts past subject)
