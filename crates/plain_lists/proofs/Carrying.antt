-- The lists after an entry are those of the history with its item.
use Rattle.std.proofs.Common.{◌≡◌, ℕ, ◌+◌, ◌<◌, ◌^◌, List, ◌∷◌, Option, ap, sym, ◌∙◌, subst, length, arith}
use Rattle.std.specs.List.Sorted.{IsStrictlySortedBy}
use Rattle.std.specs.Ordering.{nat_cmp}
use Rattle.authority_model.specs.declared.journal.Entry.{Entry}
use Rattle.authority_model.specs.declared.journal.Item.{Item}
use Rattle.authority_model.specs.declared.pending.Agent.{Agent}
use Rattle.authority_model.specs.declared.pending.Pending.{Pending}
use Rattle.authority_model.specs.declared.verdict.GrantRow.{GrantRow}
use Rattle.authority_model.specs.declared.world.World.{World}
use Rattle.authority_model.specs.Agents.{in_force}
use Rattle.authority_model.specs.Challenges.{pending}
use Rattle.authority_model.specs.Grants.{kept}
use Rattle.authority_model.specs.Items.{count_to, sent, world_of}
use Rattle.authority_model.specs.Peers.{live_connections}
use Rattle.entry_changes.specs.declared.change.EntryChange.{EntryChange}
use Rattle.entry_changes.specs.declared.peer.Peer.{Peer}
use Rattle.entry_changes.specs.Changes.{after_agents, after_challenges, after_grants}
use Rattle.entry_changes.specs.Known.{known}
use Rattle.journal_view.specs.declared.counts.ViewCounts.{ViewCounts}
use Rattle.journal_view.specs.Seen.{counts_of}
use Rattle.plain_view.specs.declared.rows.PeerRow.{PeerRow}
use Rattle.plain_view.specs.declared.rows.SentRow.{SentRow}
use Rattle.plain_view.specs.Plain.{count_among, peer_among}
use Rattle.change_laws.proofs.AgentChanges.{agents_after}
use Rattle.change_laws.proofs.ChallengesAfter.{challenges_after}
use Rattle.change_laws.proofs.GrantChanges.{grants_after}
use Rattle.peer_changes.specs.Next.{known_by, live_after, row_after}
use Rattle.peer_changes.proofs.Living.{live_next, live_sorted}
use Rattle.peer_changes.proofs.Stepping.{known_next, known_own}
use Rattle.plain_lists.specs.declared.lists.PlainLists.{PlainLists}
use Rattle.plain_lists.specs.Lists.{AreListsOf, AreNext, AreNextOf, change_of, counts_after}
use Rattle.plain_lists.proofs.Counting.{counts_next}

-- the live connections stand in rising order
pub live_rise : (e : Entry) (world : World) (change : EntryChange) (l : PlainLists) → AreNext e world change l → IsStrictlySortedBy nat_cmp l.live.items
live_rise e world change l one = subst (IsStrictlySortedBy nat_cmp) (sym one.next.lists_are.live_are) (live_sorted one.past)

module _ (e : Entry) (world : World) (change : EntryChange) (l : PlainLists) (past : List Item) (i : Item) (next : AreNextOf e world change l past i) (few : l.counts.entries < 2 ^ 62) where
  -- what is known of the caller after the entry
  abbrev pub own : Option Peer
  own = row_after world (peer_among l.peers.items e.caller) e.event

  own_is : own ≡ known (i ∷ past) i.entry.caller
  own_is =
      ap (λ row. row_after world row e.event) (next.lists_are.peers_are e.caller)
      ∙ ap (λ (x : Entry). row_after world (known past x.caller) x.event) (sym next.entry_is)
      ∙ ap (λ w. row_after w (known past i.entry.caller) i.entry.event) next.world_is
      ∙ sym (known_own past i next.legal.0.numbered)

  short : length past < 2 ^ 63
  short = let entries = ap (λ (n : ViewCounts). n.entries) next.lists_are.counts_are in omega (arith, few, entries)

  -- what is known of each connection
  peers_next : (rows : List PeerRow) → ((c : ℕ) → peer_among rows c ≡ known_by e.caller own c (peer_among l.peers.items c)) → (c : ℕ) → peer_among rows c ≡ known (i ∷ past) c
  peers_next rows carried c =
      carried c
      ∙ ap (λ row. known_by e.caller row c (peer_among l.peers.items c)) (own_is ∙ known_own past i next.legal.0.numbered)
      ∙ ap (known_by e.caller (row_after (world_of (i ∷ past)) (known past i.entry.caller) i.entry.event) c) (next.lists_are.peers_are c)
      ∙ ap (λ (x : Entry). known_by x.caller (row_after (world_of (i ∷ past)) (known past i.entry.caller) i.entry.event) c (known past c)) (sym next.entry_is)
      ∙ sym (known_next past i next.legal.0.numbered c)

  -- the live connections
  live_are_next : (live : List ℕ) → live ≡ live_after e.caller own l.live.items → live ≡ live_connections (i ∷ past)
  live_are_next live carried =
      carried
      ∙ ap (live_after e.caller own) next.lists_are.live_are
      ∙ ap (λ row. live_after e.caller row (live_connections past)) own_is
      ∙ ap (λ (x : Entry). live_after x.caller (known (i ∷ past) i.entry.caller) (live_connections past)) (sym next.entry_is)
      ∙ live_next past i

  -- how much went to each connection
  sent_next : (rows : List SentRow) → ((c : ℕ) → count_among rows c ≡ count_among l.sent.items c + count_to c e.outputs) → (c : ℕ) → count_among rows c ≡ sent (i ∷ past) c
  sent_next rows carried c =
      carried c
      ∙ ap (λ n. n + count_to c e.outputs) (next.lists_are.sent_is c)
      ∙ ap (λ (x : Entry). sent past c + count_to c x.outputs) (sym next.entry_is)

  -- the agents in force
  agents_next : (agents : List Agent) → agents ≡ after_agents e world change.agent l.agents.items → agents ≡ in_force (i ∷ past)
  agents_next agents carried =
      carried
      ∙ ap (λ (ch : EntryChange). after_agents e world ch.agent l.agents.items) next.change_is
      ∙ ap (after_agents e world (change_of past i).agent) next.lists_are.agents_are
      ∙ ap (λ (x : Entry). after_agents x world (change_of past i).agent (in_force past)) (sym next.entry_is)
      ∙ ap (λ w. after_agents i.entry w (change_of past i).agent (in_force past)) next.world_is
      ∙ agents_after past i next.legal.0

  -- the temporary authorizations that nothing ended
  grants_next : (grants : List GrantRow) → grants ≡ after_grants e world change.grant l.grants.items → grants ≡ kept (i ∷ past)
  grants_next grants carried =
      carried
      ∙ ap (λ (ch : EntryChange). after_grants e world ch.grant l.grants.items) next.change_is
      ∙ ap (after_grants e world (change_of past i).grant) next.lists_are.grants_are
      ∙ ap (λ (x : Entry). after_grants x world (change_of past i).grant (kept past)) (sym next.entry_is)
      ∙ ap (λ w. after_grants i.entry w (change_of past i).grant (kept past)) next.world_is
      ∙ grants_after past i next.legal.1 next.legal.0 short

  -- the pending challenges
  challenges_next : (challenges : List Pending) → challenges ≡ after_challenges change.challenge l.challenges.items → challenges ≡ pending (i ∷ past)
  challenges_next challenges carried =
      carried
      ∙ ap (λ (ch : EntryChange). after_challenges ch.challenge l.challenges.items) next.change_is
      ∙ ap (after_challenges (change_of past i).challenge) next.lists_are.challenges_are
      ∙ challenges_after past next.legal.1 i next.legal.0 short

  -- what is counted
  counts_are_next : (counts : ViewCounts) → counts ≡ counts_after e change l.counts → counts ≡ counts_of (i ∷ past)
  counts_are_next counts carried =
      carried
      ∙ ap (counts_after e change) next.lists_are.counts_are
      ∙ ap (λ ch. counts_after e ch (counts_of past)) next.change_is
      ∙ ap (λ (x : Entry). counts_after x (change_of past i) (counts_of past)) (sym next.entry_is)
      ∙ counts_next past i next.legal

  -- all lists
  pub lists_next : (new : PlainLists)
      → ((c : ℕ) → peer_among new.peers.items c ≡ known_by e.caller own c (peer_among l.peers.items c))
      → new.live.items ≡ live_after e.caller own l.live.items
      → ((c : ℕ) → count_among new.sent.items c ≡ count_among l.sent.items c + count_to c e.outputs)
      → new.agents.items ≡ after_agents e world change.agent l.agents.items
      → new.grants.items ≡ after_grants e world change.grant l.grants.items
      → new.challenges.items ≡ after_challenges change.challenge l.challenges.items
      → new.counts ≡ counts_after e change l.counts → AreListsOf (i ∷ past) new
  lists_next new peers live sends agents grants challenges counts = record {
    peers_are = peers_next new.peers.items peers;
    live_are = live_are_next new.live.items live;
    sent_is = sent_next new.sent.items sends;
    agents_are = agents_next new.agents.items agents;
    grants_are = grants_next new.grants.items grants;
    challenges_are = challenges_next new.challenges.items challenges;
    counts_are = counts_are_next new.counts counts;
  }
