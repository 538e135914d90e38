use Rattle.std.proofs.Common.{[]}
use Rattle.authority_messages.proofs.actions.told_texts.Goals as goal

pub returns : goal.returns
returns c = record { texts = c.in_ok-add_string-3.ensures.ok _ 0 (c.in_ok-add_string-2.ensures.ok _ 0 (c.in_ok-add_string.ensures.ok _ 0 (c.in_ok-add_localized-2.ensures.ok _ 0 (c.in_ok-add_localized.ensures.ok _ 0 (c.in_ok-add_id.ensures.ok [] 0 c.no_values-members.ensures.none))))) }
