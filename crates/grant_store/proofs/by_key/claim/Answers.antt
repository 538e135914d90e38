use Rattle.std.proofs.Common.{sym, ◌∙◌, subst}
use Rattle.std.specs.Prelude.{OnOk}
use Rattle.authority_model.specs.declared.key.Key.{Key}
use Rattle.grant_store.specs.Listed.{HasRoomFor}
use Rattle.grant_store.proofs.Writing.{none_from, there_from}
use Rattle.grant_store.proofs.by_key.claim.Goals as goal

pub widen-requires : goal.widen-requires
widen-requires c = record { there = there_from _ (sym c.contains_key.ensures ∙ c.if-contains_key.true) }

pub begin-requires : goal.begin-requires
begin-requires c = record { absent = none_from _ (sym c.contains_key.ensures ∙ c.if-contains_key.false) }

pub returns-then-contains_key-clause-ok : goal.returns-then-contains_key-clause-ok
returns-then-contains_key-clause-ok c = subst (λ (k : Key). OnOk c.widen.result (HasRoomFor k c.widen.new.lists.entries)) c.in_ok-own.ensures.key c.widen.ensures.ok

pub returns-else-contains_key-clause-ok : goal.returns-else-contains_key-clause-ok
returns-else-contains_key-clause-ok c = subst (λ (k : Key). OnOk c.begin.result (HasRoomFor k c.begin.new.lists.entries)) c.in_ok-own.ensures.key c.begin.ensures.ok
