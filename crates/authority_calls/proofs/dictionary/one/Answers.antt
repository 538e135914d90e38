use Rattle.std.proofs.Common.{◌≡◌, Some, None, sym, ◌∙◌}
use Rattle.std.specs.Option.{option_map}
use Rattle.dbus_values.specs.Parts.{piece}
use Rattle.dbus_values.specs.Walk.{most_parts}
use Rattle.authority_calls.specs.Dictionaries.{keyed, next_entry}
use Rattle.authority_calls.proofs.Many.{one_begins, one_more, one_found}
use Rattle.authority_calls.proofs.dictionary.one.Goals as goal

pub returns-in-None : goal.returns-in-None
returns-in-None c =
    let read : next_entry c.loop-i.parts ≡ Some (None, c.next_entry.new.parts) = rw c.in-None.is at c.in_ok-next_entry.ensures.exact in
    record {
      exact =
          one_begins c.args.key.now c.args.parts.now c.enter.new.parts c.in_ok-enter.ensures.exact
          ∙ (sym c.loop-i.invariant
          ∙ one_found most_parts c.loop-i.i (option_map piece c.loop-i.found) (piece c.in_ok-value-in-None.value) c.args.key.now c.loop-i.parts c.next_entry.new.parts c.loop-i-test.true read c.in_ok-value-in-None.ensures.exact);
    }

pub loop-i-preserved : goal.loop-i-preserved
loop-i-preserved c =
    let read : next_entry c.loop-i.parts ≡ Some (Some (keyed c.in-Some.entry), c.next_entry.new.parts) = rw c.in-Some.is at c.in_ok-next_entry.ensures.exact in
    sym (one_more most_parts c.loop-i.i (option_map piece c.loop-i.found) (option_map piece c.in_ok-found-in-Some.found) c.args.key.now (keyed c.in-Some.entry) c.loop-i.parts c.next_entry.new.parts c.loop-i-test.true read c.in_ok-found-in-Some.ensures.exact)
    ∙ c.loop-i.invariant
