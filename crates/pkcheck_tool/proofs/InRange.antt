-- The one call is short: it has no details.
use Rattle.std.proofs.Common.{◌≡◌, ◌<◌, ◌≤◌, ◌^◌, ℕ, Bool, true, false, List, [], length, refl, sym, subst, arith, lit<}
use Rattle.std.proofs.lemmas.Str.{IsUtf8-nil}
use Rattle.pk_types.specs.Text.{IsText}
use Rattle.pk_types.specs.declared.values.Pair.{Pair}
use Rattle.pk_types.specs.declared.values.Subject.{Subject}
use Rattle.authority_model.specs.declared.event.Call.TheVariants as call
use Rattle.authority_messages.specs.Messages.{is_over}
use Rattle.pk_types.proofs.Texts.{text_of}
use Rattle.client_messages.specs.Calls.{call_for}
use Rattle.client_messages.specs.Told.{PairsInRange}
use Rattle.client_messages.proofs.Short.{short}
use Rattle.pkcheck_tool.specs.Asking.{flags_of}

flags_small : (ask : Bool) → flags_of ask < 2 ^ 32
flags_small true = lit< tt
flags_small false = lit< tt

no_text : IsText []
no_text = text_of [] IsUtf8-nil tt (omega arith)

pub check_short : (pid start : ℕ) (action text : List ℕ) (details : List Pair) (flags : ℕ) (cancel : List ℕ) (ask : Bool) → text ≡ action → details ≡ [] → flags ≡ flags_of ask → cancel ≡ [] → pid < 2 ^ 32 → IsText action
    → is_over (call_for (call.Check (Subject.Process pid start) text details flags cancel)) ≡ false
check_short pid start action text details flags cancel ask same none is empty small good =
    short (call.Check (Subject.Process pid start) text details flags cancel) refl (
      small,
      subst IsText (sym same) good,
      subst PairsInRange (sym none) tt,
      subst (λ (n : ℕ). n < 2 ^ 32) (sym is) (flags_small ask),
      subst IsText (sym empty) no_text,
    )
    none
