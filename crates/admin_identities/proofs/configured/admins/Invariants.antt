use Rattle.std.proofs.Common.{◌≡◌, drop}
use Rattle.authority_model.specs.Lists.{or_else}
use Rattle.admin_identities.specs.Configured.{fault_from, first_fault, last_configured}
use Rattle.admin_identities.proofs.configured.admins.Given as goal

-- the items of the last file so far that has the key count where no later file has it; the files so far have no fault
abbrev pub invariant-loop-file : goal.invariant-loop-file
invariant-loop-file l = record {
  last : or_else (last_configured (drop l.file l.confs)) l.last ≡ last_configured l.confs;
  fault : fault_from l.file (drop l.file l.confs) ≡ first_fault l.confs;
}
