-- How what a reader answers agrees with what the text says.
use Rattle.std.specs.Prelude.{◌≡◌, Option, None, Some, Result, Ok, Err}
use Rattle.pk_types.specs.declared.text.TextFault.{TextFault}
use Rattle.pk_types.specs.declared.text.TextFault.TheVariants as text_fault
use Rattle.pk_types.specs.declared.action_id.IdFault.{IdFault}
use Rattle.pk_types.specs.declared.action_id.IdFault.TheVariants as id_fault
use Rattle.scenario_text.specs.declared.fault.LineKind.{LineKind}
use Rattle.scenario_text.specs.declared.fault.LineKind.TheVariants as kind

-- the second step, where the first gave a value
infixl 10 ◌>>=◌
abbrev pub ◌>>=◌ : {A B : Type 0} → Result A LineKind → (A → Result B LineKind) → Result B LineKind
(Ok x) >>= f = f x
(Err k) >>= f = Err k

-- the value, or else this fault
abbrev pub or_fault : {A : Type 0} → LineKind → Option A → Result A LineKind
or_fault k None = Err k
or_fault k (Some x) = Ok x

-- the fault, where there is one
abbrev pub fault_in : {A : Type 0} → Result A LineKind → Option LineKind
fault_in (Ok x) = None
fault_in (Err k) = Some k

-- the fault is the one that is due, and want of memory is free
abbrev pub IsFaultOf : {A : Type 0} → LineKind → Result A LineKind → Type 0
IsFaultOf kind.NoMemory due = Unit {0}
IsFaultOf k due = due ≡ Err k

-- a word that is not a text is out of its form
abbrev pub kind_of_text : TextFault → LineKind
kind_of_text text_fault.NoMemory = kind.NoMemory
kind_of_text other = kind.Value

-- and so is one that is not an action id
abbrev pub kind_of_id : IdFault → LineKind
kind_of_id id_fault.NoMemory = kind.NoMemory
kind_of_id other = kind.Value

-- the answer is the one that is due, and want of memory is free
abbrev pub Gives : {A : Type 0} → Result A LineKind → Result A LineKind → Type 0
Gives (Ok x) due = due ≡ Ok x
Gives (Err k) due = IsFaultOf k due
