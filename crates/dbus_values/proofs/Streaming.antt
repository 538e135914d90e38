-- The messages of a stream are no others, and the clauses of the reader.
use Rattle.std.proofs.Common.{◌≡◌, ℕ, List, [], ◌∷◌, ◌++◌, length, take, drop, refl, sym, ap, subst, ◌∙◌}
use Rattle.std.proofs.lemmas.List.{drop_at}
use Rattle.dbus_values.specs.Next.{Seen, Answer, Whole, Partial, Bad, next_of}
use Rattle.dbus_values.specs.Form.{message_bytes, shown_of}
use Rattle.dbus_values.specs.Streams.{IfWhole, IsForm, Stream, IsBytes}
use Rattle.dbus_values.proofs.Whole.{read_again}
use Rattle.dbus_values.proofs.WholeFound.{whole_found, one_message}

tails : (a x y : List ℕ) → a ++ x ≡ a ++ y → x ≡ y
tails a x y same = sym (drop_at a x (length a) refl) ∙ ap (λ (z : List ℕ). drop (length a) z) same ∙ drop_at a y (length a) refl

-- no message begins another
pub one_form : (a b x y : List ℕ) (s t : Seen) → IsForm a s → IsForm b t → a ++ x ≡ b ++ y → (a ≡ b) × (s ≡ t)
one_form a b x y s t p q same =
    let h = one_message a b x y p.0 q.0 p.1 q.1 same in
    (h.0, p.2 ∙ h.1 ∙ sym q.2)

-- the messages of a stream are no others
pub one_stream : (bytes : List ℕ) (ss ts : List Seen) (r q : List ℕ) → Stream bytes ss r → Stream bytes ts q → (ss ≡ ts) × (r ≡ q)
one_stream bytes [] [] r q a b = (refl, sym a.0 ∙ b.0)
one_stream bytes [] (t ∷ ts) r q a b = absurd (a.1 b.0 b.1 t b.2 (sym a.0 ∙ b.3))
one_stream bytes (s ∷ ss) [] r q a b = absurd (b.1 a.0 a.1 s a.2 (sym b.0 ∙ a.3))
one_stream bytes (s ∷ ss) (t ∷ ts) r q a b =
    let h = one_form a.0 b.0 a.1 b.1 s t a.2 b.2 (sym a.3 ∙ b.3) in
    let rest : a.1 ≡ b.1 = tails a.0 a.1 b.1 (sym a.3 ∙ b.3 ∙ ap (λ (z : List ℕ). z ++ b.1) (sym h.0)) in
    let others = one_stream b.1 ss ts r q (subst (λ (z : List ℕ). Stream z ss r) rest a.4) b.4 in
    (cc (h.1, others.0), others.1)

-- what is read whole has the form of a message, and lies within the bytes
pub whole_form : (a : Answer) (bytes : List ℕ) → IsBytes bytes → a ≡ next_of bytes → IfWhole a (λ seen used. IsForm (take used bytes) seen)
whole_form (Whole seen used) bytes fits e = let r = whole_found bytes seen used fits (sym e) in (r.message, r.form, r.shown_is)
whole_form Partial bytes fits e = tt
whole_form (Bad _ _) bytes fits e = tt

-- what has the form of a message is read, whatever follows it
pub form_whole : (a : Answer) (bytes text more : List ℕ) (seen : Seen) → a ≡ next_of bytes → IsForm text seen → bytes ≡ text ++ more → a ≡ Whole seen (length text)
form_whole a bytes text more seen e form same =
    let w = form.1 in
    let again = read_again w.big form.0 more w.is in
    let bytes_are : bytes ≡ message_bytes w.big form.0 ++ more = same ∙ ap (λ (z : List ℕ). z ++ more) w.bytes_are in
    e ∙ ap next_of bytes_are ∙ again ∙ ap (λ (n : ℕ). Whole (shown_of form.0) n) (ap length (sym w.bytes_are)) ∙ ap (λ (z : Seen). Whole z (length text)) (sym form.2)
