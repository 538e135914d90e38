-- What the status of a service says of the input.
use Rattle.std.proofs.Common.{ℕ, List, Option, refl, sym, subst}
use Rattle.authority_service.specs.declared.ends.ServiceEnd.{ServiceEnd}
use Rattle.authority_service.specs.declared.ends.ServiceEnd.TheVariants as end
use Rattle.polkit_daemon.specs.declared.status.Status.{Status}
use Rattle.polkit_daemon.specs.Faults.{InputFaults}
use Rattle.polkit_daemon.specs.Served.{IsServiceStatus, status_of}

unread : {S : Type 0} (left : S → Option (List ℕ)) (faults : S → ℕ) (input : S) (e : ServiceEnd) → InputFaults left faults input input (status_of e)
unread left faults input end.Done = refl
unread left faults input (end.TreeFault count) = refl
unread left faults input (end.LoadRefused refused) = refl
unread left faults input end.WriteFault = refl
unread left faults input (end.Full full) = refl
unread left faults input (end.Admissions admitted) = refl
unread left faults input end.DoorFault = refl
unread left faults input end.NoMemory = refl

-- a service reads nothing
pub service_reads : {S : Type 0} (left : S → Option (List ℕ)) (faults : S → ℕ) (input : S) (s : Status) → IsServiceStatus s → InputFaults left faults input input s
service_reads left faults input s of = subst (λ (x : Status). InputFaults left faults input input x) (sym of.1) (unread left faults input of.0)
