-- What a function that reads words returned.
use Rattle.std.specs.Prelude.{◌≡◌, ℕ, List, Result, Ok, Err, Option, Some, None}
use Rattle.audit_words.specs.declared.fault.Kind.{Kind}
use Rattle.audit_words.specs.declared.fault.Stop.{Stop}
use Rattle.audit_words.specs.declared.fault.Stop.TheVariants as stops
use Rattle.audit_words.specs.Codecs.{Reading}

abbrev pub Fails : {Y : Type 0} → Stop → Result Y Kind → Type 0
Fails stops.Memory read = Unit {0}
Fails (stops.Fault k) read = read ≡ Err k

-- It gave the value and left the words, or it gave the fault, or memory ran out.
abbrev pub Gives : {V : Type 0} → Result V Stop → List (List ℕ) → Reading V → Type 0
Gives (Ok v) left read = read ≡ Ok (v, left)
Gives (Err e) left read = Fails e read

-- It gave the value of all words, or the fault, or memory ran out.
abbrev pub GivesAll : {V : Type 0} → Result V Stop → Result V Kind → Type 0
GivesAll (Ok v) read = read ≡ Ok v
GivesAll (Err e) read = Fails e read

abbrev pub WordFails : {V : Type 0} → Kind → Option V → Stop → Type 0
WordFails kind value stops.Memory = Unit {0}
WordFails kind value (stops.Fault k) = (k ≡ kind) × (value ≡ None)

-- It gave the value of the word, or the word has none and it gave this kind, or memory ran out.
abbrev pub WordGives : {V : Type 0} → Result V Stop → Kind → Option V → Type 0
WordGives (Ok v) kind value = value ≡ Some v
WordGives (Err e) kind value = WordFails kind value e
