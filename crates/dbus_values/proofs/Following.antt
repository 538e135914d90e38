-- Messages that follow one another.
use Rattle.std.proofs.Common.{◌≡◌, ℕ, List, [], ◌∷◌, ◌++◌, refl, ap, sym, ◌∙◌, append_assoc, take, drop}
use Rattle.std.proofs.lemmas.List.{take-append-drop}
use Rattle.dbus_values.specs.declared.fault.FaultKind.{FaultKind}
use Rattle.dbus_values.specs.Next.{Seen, Whole, Partial, Bad, next_of}
use Rattle.dbus_values.specs.Streams.{Follow, IsForm, NoneWhole, Stream}
use Rattle.dbus_values.proofs.Streaming.{form_whole}

-- more bytes at the end
pub follow_bytes : (bytes : List ℕ) (messages : List Seen) (rest more : List ℕ) → Follow bytes messages rest → Follow (bytes ++ more) messages (rest ++ more)
follow_bytes bytes [] rest more f = ap (λ b. b ++ more) f
follow_bytes bytes (m ∷ messages) rest more f = (f.0, f.1 ++ more, f.2, ap (λ b. b ++ more) f.3 ∙ append_assoc f.0 f.1 more, follow_bytes f.1 messages rest more f.4)

-- one more message
pub follow_text : (bytes : List ℕ) (messages : List Seen) (rest text behind : List ℕ) (m : Seen) → Follow bytes messages rest → IsForm text m → rest ≡ text ++ behind → Follow bytes (messages ++ m ∷ []) behind
follow_text bytes [] rest text behind m f form is = (text, behind, form, f ∙ is, refl)
follow_text bytes (n ∷ messages) rest text behind m f form is = (f.0, f.1, f.2, f.3, follow_text f.1 messages rest text behind m f.4 form is)

-- the next message, which has so many bytes
pub follow_next : (bytes : List ℕ) (messages : List Seen) (rest : List ℕ) (used : ℕ) (m : Seen) → Follow bytes messages rest → IsForm (take used rest) m → Follow bytes (messages ++ m ∷ []) (drop used rest)
follow_next bytes messages rest used m f form = follow_text bytes messages rest (take used rest) (drop used rest) m f form (sym (take-append-drop used rest))

-- it is a stream where the rest begins with no message
pub to_stream : (bytes : List ℕ) (messages : List Seen) (rest : List ℕ) → Follow bytes messages rest → NoneWhole rest → Stream bytes messages rest
to_stream bytes [] rest f none = (f, none)
to_stream bytes (m ∷ messages) rest f none = (f.0, f.1, f.2, f.3, to_stream f.1 messages rest f.4 none)

-- less than a message begins with none
pub none_partial : (rest : List ℕ) → next_of rest ≡ Partial → NoneWhole rest
none_partial rest partial = λ text more seen form is. other (sym partial ∙ form_whole (next_of rest) rest text more seen refl form is)
  where
    other : {seen : Seen} {n : ℕ} → Partial ≡ Whole seen n → ⊥
    other e = cc

-- neither do bytes with a fault
pub none_bad : (rest : List ℕ) (fault : FaultKind) (at : ℕ) → next_of rest ≡ Bad fault at → NoneWhole rest
none_bad rest fault at bad = λ text more seen form is. other (sym bad ∙ form_whole (next_of rest) rest text more seen refl form is)
  where
    other : {seen : Seen} {n : ℕ} → Bad fault at ≡ Whole seen n → ⊥
    other e = cc
