use Rattle.std.proofs.Common.{◌≡◌, ◌++◌, map, drop}
use Rattle.pkla_files.specs.Entries.{entry_of}
use Rattle.pkla_files.specs.Faults.{fault_from, first_fault}
use Rattle.pkla_files.proofs.entry.entries.Given as goal

-- the entries so far and those to come; the groups so far have no fault
abbrev pub invariant-loop-place : goal.invariant-loop-place
invariant-loop-place l = record {
  entries : l.entries ++ map entry_of (drop l.place l.groups) ≡ map entry_of l.groups;
  fault : fault_from l.place (drop l.place l.groups) ≡ first_fault l.groups;
}
