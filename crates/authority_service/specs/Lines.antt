-- What a service prints of its closed journal.
use Rattle.std.specs.Prelude.{ℕ, Bool, true, false, List, [], ◌∷◌, ◌++◌, codes}
use Rattle.std.specs.Fmt.{decimal}
use Rattle.std.specs.List.{flat_map}
use Rattle.authority_model.specs.declared.journal.History.{History}
use Rattle.authority_model.specs.declared.journal.Item.{Item}
use Rattle.authority_model.specs.declared.load.Loaded.{Loaded}
use Rattle.authority_model.specs.Items.{items_of}
use Rattle.audit_text.specs.Audit.{audit_text}
use Rattle.scenario_text.specs.Skipped.{skipped_lines}
use Rattle.connection_serve.specs.declared.ends.End.{End}
use Rattle.connection_serve.specs.declared.ends.End.TheVariants as end
use Rattle.connection_serve.specs.declared.ends.LiveEnd.{LiveEnd}
use Rattle.connection_serve.specs.declared.ends.LiveEnd.TheVariants as live
use Rattle.journal_scan.specs.declared.counts.Tally.{Tally}
use Rattle.journal_scan.specs.declared.counts.Totals.{Totals}
use Rattle.journal_scan.specs.declared.lines.ConnectionLine.{ConnectionLine}
use Rattle.journal_scan.specs.Counts.{tally_of, totals_of}
use Rattle.service_slots.specs.declared.line.Line.{Line}

-- the word for how a connection ended, where no look at a process failed
abbrev pub plain_word : End → List ℕ
plain_word (end.Ended cause) = codes "ended"
plain_word end.WriteFault = codes "write-fault"
plain_word end.ReadFault = codes "read-fault"
plain_word (end.BadShake fault) = codes "bad-handshake"
plain_word end.ShakeCut = codes "bad-handshake"
plain_word (end.BadBytes _ at) = codes "bad-bytes"
plain_word (end.Truncated rest) = codes "truncated"
plain_word end.Done = codes "done"
plain_word end.NoMemory = codes "no-memory"

-- the word for how a connection ended
abbrev pub end_word : LiveEnd → List ℕ
end_word live.SightFault = codes "sight-fault"
end_word (live.Plain e) = plain_word e

-- `connection N UID END MESSAGES ANSWERS`
abbrev pub connection_line : Line → Tally → List ℕ
connection_line line tally =
    codes "connection " ++ (decimal line.number ++ (codes " " ++ (decimal line.uid ++ (codes " "
    ++ (end_word line.end ++ (codes " " ++ (decimal tally.messages ++ (codes " " ++ (decimal tally.answers ++ 10 ∷ [])))))))))

-- the lines of all connections, in their order, with what is counted of each in a history
abbrev pub connection_lines : List Item → List Line → List ℕ
connection_lines past lines = flat_map (λ line. connection_line line (tally_of past line.number)) lines

-- `entries E loads L refused R`
abbrev pub entries_line : Totals → List ℕ
entries_line totals = codes "entries " ++ (decimal totals.entries ++ (codes " loads " ++ (decimal totals.loads ++ (codes " refused " ++ (decimal totals.refused ++ 10 ∷ [])))))

-- all lines of a history and of the connections that were served
abbrev pub service_text : List Item → List Line → List ℕ
service_text past lines = connection_lines past lines ++ entries_line (totals_of past)

-- what a service writes of its first load: what this skipped, or nothing where the audit text is asked for
abbrev pub opening_text : Bool → Loaded → List ℕ
opening_text true first = []
opening_text false first = skipped_lines first.faults

-- what a service writes at its end: all lines, or in their place the audit text of its journal where that is asked for
abbrev pub closing_text : Bool → History → List Line → List ℕ
closing_text true journal lines = audit_text journal
closing_text false journal lines = service_text (items_of journal) lines

-- what a `connection` line tells to whoever looks through the journal
abbrev pub scanned : Line → ConnectionLine
scanned line = record { number = line.number; uid = line.uid; sighter = line.sighter }
