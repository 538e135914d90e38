-- Which messages may be sent: those of the four types, with values that have a form.
use Rattle.std.proofs.Common.{◌≡◌, ℕ, ◌<◌, ◌^◌, List, [], ◌∷◌, true, false, Option, Some, None, refl, ap, lit<, inl}
use Rattle.std.specs.Option.{unwrap_or}
use Rattle.pk_types.specs.Text.{IsText}
use Rattle.dbus_values.specs.Basics.{is_path}
use Rattle.dbus_values.specs.Signatures.{is_signature, type_end, are_types}
use Rattle.dbus_values.specs.Header.{Header, no_fields, has, lacks}
use Rattle.dbus_values.specs.Messages.{signature_of}
use Rattle.dbus_values.specs.Trees.{Tree, types_of, AllFit}
use Rattle.dbus_values.specs.Form.{AreFields, header_from}
use Rattle.dbus_values.specs.Written.{signature_field}
use Rattle.dbus_values.proofs.TextForm.{text_is}
use Rattle.authority_model.specs.Words.{Bytes}
use Rattle.authority_messages.specs.Values.{row}
use Rattle.authority_messages.specs.Outgoing.{return_to, error_to, call_at, signal_of, MayBeSent}
use Rattle.authority_messages.proofs.Building.{string_fits}

-- ---- SIGNATURE behind the other fields

sig_fields : (h : Header) (sig : Bytes) → has h 8 ≡ false → is_signature sig ≡ true → AreFields h (signature_field sig)
sig_fields h [] once is = tt
sig_fields h (c ∷ sig) once is = (record { low = lit< tt; high = lit< tt; once = once; value = inl (lit< tt, (refl, is)) }, tt)

sig_lacks : (kind : ℕ) (h : Header) (sig : Bytes) → lacks kind h ≡ false → lacks kind (header_from h (signature_field sig)) ≡ false
sig_lacks kind h [] e = e
sig_lacks kind h (c ∷ sig) e = e

sig_told : (h : Header) (sig : Bytes) → h.signature ≡ None → signature_of (header_from h (signature_field sig)) ≡ sig
sig_told h [] e = ap (λ (o : Option Bytes). unwrap_or o []) e
sig_told h (c ∷ sig) e = refl

-- ---- the four types

abbrev return_header : ℕ → Header
return_header answered = record no_fields { reply_serial = Some answered }

pub return_is : (answered : ℕ) (ts : List Tree) → 0 < answered → answered < 2 ^ 32 → is_signature (types_of (row ts)) ≡ true → AllFit 64 (row ts) → MayBeSent (return_to answered ts)
return_is answered ts low high sig fit serial some small short = record {
  kind = (lit< tt, lit< tt);
  flags = lit< tt;
  serial = (some, small);
  fields = (record { low = lit< tt; high = lit< tt; once = refl; value = inl (lit< tt, (refl, refl, high, λ _. low)) }, sig_fields (return_header answered) (types_of (row ts)) refl sig);
  needs = sig_lacks 2 (return_header answered) (types_of (row ts)) refl;
  signature = sig_told (return_header answered) (types_of (row ts)) refl;
  body = fit;
  short = short;
}

pub error_is : (answered : ℕ) (name text : Bytes) → 0 < answered → answered < 2 ^ 32 → IsText name → IsText text → MayBeSent (error_to answered name text)
unfolding type_end are_types
error_is answered name text low high name-is text-is serial some small short = record {
  kind = (lit< tt, lit< tt);
  flags = lit< tt;
  serial = (some, small);
  fields = (
    record { low = lit< tt; high = lit< tt; once = refl; value = inl (lit< tt, (refl, text_is name name-is)) },
    (
      record { low = lit< tt; high = lit< tt; once = refl; value = inl (lit< tt, (refl, refl, high, λ _. low)) },
      (record { low = lit< tt; high = lit< tt; once = refl; value = inl (lit< tt, (refl, refl)) }, tt),
    ),
  );
  needs = refl;
  signature = refl;
  body = (string_fits false 64 text text-is, tt);
  short = short;
}

abbrev member_header : Bytes → Bytes → Bytes → Header
member_header path interface member = record no_fields { path = Some path; interface = Some interface; member = Some member }

pub call_is : (flags : ℕ) (path interface member : Bytes) (ts : List Tree) → flags < 256 → IsText path → is_path path ≡ true → IsText interface → IsText member → is_signature (types_of (row ts)) ≡ true → AllFit 64 (row ts) → MayBeSent (call_at flags path interface member ts)
call_is flags path interface member ts fl path-is path-form interface-is member-is sig fit serial some small short = record {
  kind = (lit< tt, lit< tt);
  flags = fl;
  serial = (some, small);
  fields = (
    record { low = lit< tt; high = lit< tt; once = refl; value = inl (lit< tt, (refl, (text_is path path-is, path-form))) },
    (
      record { low = lit< tt; high = lit< tt; once = refl; value = inl (lit< tt, (refl, text_is interface interface-is)) },
      (
        record { low = lit< tt; high = lit< tt; once = refl; value = inl (lit< tt, (refl, text_is member member-is)) },
        sig_fields (member_header path interface member) (types_of (row ts)) refl sig,
      ),
    ),
  );
  needs = sig_lacks 1 (member_header path interface member) (types_of (row ts)) refl;
  signature = sig_told (member_header path interface member) (types_of (row ts)) refl;
  body = fit;
  short = short;
}

pub signal_is : (path interface member : Bytes) → IsText path → is_path path ≡ true → IsText interface → IsText member → MayBeSent (signal_of path interface member)
signal_is path interface member path-is path-form interface-is member-is serial some small short = record {
  kind = (lit< tt, lit< tt);
  flags = lit< tt;
  serial = (some, small);
  fields = (
    record { low = lit< tt; high = lit< tt; once = refl; value = inl (lit< tt, (refl, (text_is path path-is, path-form))) },
    (
      record { low = lit< tt; high = lit< tt; once = refl; value = inl (lit< tt, (refl, text_is interface interface-is)) },
      (record { low = lit< tt; high = lit< tt; once = refl; value = inl (lit< tt, (refl, text_is member member-is)) }, tt),
    ),
  );
  needs = refl;
  signature = refl;
  body = tt;
  short = short;
}
