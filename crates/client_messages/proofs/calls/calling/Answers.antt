use Rattle.std.proofs.Common.{◌≡◌, List, refl, sym, subst, ◌∙◌, lit<, lit≤}
use Rattle.dbus_values.specs.Trees.{Tree}
use Rattle.authority_calls.specs.declared.methods.TheConstants.{AUTHORITY_PATH}
use Rattle.authority_calls.specs.Methods.{row_of}
use Rattle.authority_messages.specs.Built.{Rows}
use Rattle.authority_messages.specs.Outgoing.{outgoing, MayBeSent}
use Rattle.authority_messages.proofs.Plain.{plain_text}
use Rattle.authority_messages.proofs.Sent.{call_is}
use Rattle.authority_messages.proofs.Sending.{call_same}
use Rattle.client_messages.specs.Calls.{calling}
use Rattle.client_messages.proofs.Calling.{interface_plain, name_plain, takes_sig}
use Rattle.client_messages.proofs.calls.calling.Goals as goal

pub returns : goal.returns
returns c =
    let message : (ts : List Tree) → Rows 4 c.args.values ts → outgoing c.call_at.result ≡ calling c.args.method ts = λ ts rows. c.call_at.ensures.message 4 ts rows ∙ call_same 0 _ _ _ _ _ _ ts ts c.in_ok-member.ensures.path c.in_ok-member.ensures.interface c.in_ok-member.ensures.member refl in
    record {
      message = message;
      form = λ ts typed rows. subst MayBeSent (sym (message ts rows))
          (call_is 0 AUTHORITY_PATH.now (row_of c.args.method).interface (row_of c.args.method).name ts (lit< tt) (plain_text AUTHORITY_PATH.now refl) refl
          (plain_text (row_of c.args.method).interface (interface_plain c.args.method)) (plain_text (row_of c.args.method).name (name_plain c.args.method))
          (takes_sig c.args.method ts typed) (rows.fit 64 (lit≤ tt)));
    }
