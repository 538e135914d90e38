use Rattle.std.proofs.Common.{ℕ, List, ◌∙◌, ◌++◌, ap, arith, rules, ◌-◌, ◌<◌, ◌^◌}
use Rattle.dbus_values.specs.Written.{message_out}
use Rattle.dbus_values.proofs.Sending.{start, body_forms, body_fits, sizes_fit, message_done, written_form, written_again}
use Rattle.dbus_values.proofs.posting.write_message.Goals as goal

pub put_values-requires-clause-forms : goal.put_values-requires-clause-forms
put_values-requires-clause-forms c = body_forms _ c.requires.body

pub put_values-requires-clause-short : goal.put_values-requires-clause-short
put_values-requires-clause-short c = body_fits (message_out c.args.out.now c.args.serial) _ _ _ c.requires (c.in_ok-put_start.ensures.exact ∙ ap (λ (x : List ℕ). x ++ start (message_out c.args.out.now c.args.serial)) c.in_ok-bytes.ensures.items) c.in_ok-put_fields.ensures.exact c.in_ok-pad_to.ensures.exact

pub overflow_cast-size : goal.overflow_cast-size
overflow_cast-size c = let small : c.length_of.result - c.length_of-begin.result < 2 ^ 32 = sizes_fit c.pad_to.new.out.items c.put_values.new.out.items _ (c.length_of.result - c.length_of-begin.result) c.in_ok-put_values.ensures.exact (body_fits (message_out c.args.out.now c.args.serial) c.put_start.new.out.items c.put_fields.new.out.items c.pad_to.new.out.items c.requires (c.in_ok-put_start.ensures.exact ∙ ap (λ (x : List ℕ). x ++ start (message_out c.args.out.now c.args.serial)) c.in_ok-bytes.ensures.items) c.in_ok-put_fields.ensures.exact c.in_ok-pad_to.ensures.exact) (omega (arith, c.length_of.ensures.exact, c.length_of-begin.ensures.exact)) in search (rules, small)

pub returns-clause-exact : goal.returns-clause-exact
returns-clause-exact c = c.from_vec.ensures.items ∙ message_done (message_out c.args.out.now c.args.serial) _ _ _ _ _ _ _ _ (c.in_ok-put_start.ensures.exact ∙ ap (λ (x : List ℕ). x ++ start (message_out c.args.out.now c.args.serial)) c.in_ok-bytes.ensures.items) c.in_ok-put_fields.ensures.exact c.in_ok-pad_to.ensures.exact c.in_ok-put_values.ensures.exact
    (omega (arith, c.length_of-fields.ensures.exact)) (omega (arith, c.length_of.ensures.exact, c.length_of-begin.ensures.exact)) c.patch.ensures.exact c.patch-2.ensures.exact

pub returns-clause-form : goal.returns-clause-form
returns-clause-form c = written_form _ _ c.requires (returns-clause-exact c)

pub returns-clause-again : goal.returns-clause-again
returns-clause-again c = λ more. written_again _ _ more c.requires (returns-clause-exact c)
