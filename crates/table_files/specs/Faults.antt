-- Which fault is due.
use Rattle.std.specs.Prelude.{◌≡◌, Result, Ok, Err}
use Rattle.table_files.specs.declared.fault.TableFault.{TableFault}
use Rattle.table_files.specs.declared.fault.TableFault.TheVariants.{NoMemory}

-- the second step, where the first gave a value
infixl 10 ◌>>=◌
abbrev pub ◌>>=◌ : {A B : Type 0} → Result A TableFault → (A → Result B TableFault) → Result B TableFault
(Ok value) >>= next = next value
(Err fault) >>= next = Err fault

-- the fault is the one that is due, and want of memory is free
abbrev pub IsDueFault : {A : Type 0} → TableFault → Result A TableFault → Type 0
IsDueFault NoMemory due = Unit {0}
IsDueFault fault due = due ≡ Err fault

-- what was read stands for the value that is due, or it is the fault that is due
abbrev pub Reads : {A B : Type 0} → (A → B) → Result A TableFault → Result B TableFault → Type 0
Reads seen (Ok value) due = due ≡ Ok (seen value)
Reads seen (Err fault) due = IsDueFault fault due
