-- The tables after an entry stand for the history with its item, and what an entry adds to a table is new there.
use Rattle.std.proofs.Common.{◌≡◌, ℕ, ◌<◌, List, ◌∷◌, ap, sym, ◌∙◌, subst, Option, Some, None, arith}
use Rattle.authority_model.specs.declared.journal.Entry.{Entry}
use Rattle.authority_model.specs.declared.journal.Item.{Item}
use Rattle.authority_model.specs.declared.pending.Agent.{Agent}
use Rattle.authority_model.specs.declared.pending.Pending.{Pending}
use Rattle.authority_model.specs.declared.verdict.GrantRow.{GrantRow}
use Rattle.authority_model.specs.declared.world.World.{World}
use Rattle.authority_model.specs.Agents.{agent_of, in_force}
use Rattle.authority_model.specs.Challenges.{pending}
use Rattle.authority_model.specs.Grants.{kept}
use Rattle.authority_model.specs.Lists.{Each}
use Rattle.entry_changes.specs.declared.change.AgentChange.{AgentChange}
use Rattle.entry_changes.specs.declared.change.ChallengeChange.{ChallengeChange}
use Rattle.entry_changes.specs.declared.change.GrantChange.{GrantChange}
use Rattle.entry_changes.specs.Changes.{IsFresh, after_agents, after_challenges, after_grants}
use Rattle.peer_book.specs.Book.{IsPeersOf, Peers, StandsAfter, staged_for}
use Rattle.change_laws.proofs.AgentChanges.{agents_after, agent_fresh}
use Rattle.change_laws.proofs.ChallengesAfter.{challenges_after}
use Rattle.change_laws.proofs.Fresh.{begun_is_fresh}
use Rattle.change_laws.proofs.GrantChanges.{grants_after, grant_fresh}
use Rattle.authority_desk.specs.declared.tables.Tables.{Tables}
use Rattle.authority_desk.specs.Stored.{AreReadyFor, change_of}

-- a table of connections stands for the same histories, whatever is staged
pub peers_staged : (past : List Item) (staged : Option (List ℕ)) (t : Peers) → IsPeersOf past t → IsPeersOf past (staged_for staged t)
peers_staged past staged t h = record { rows_are = h.rows_are; live_are = h.live_are; places_are = h.places_are; sent_are = h.sent_are; collected_are = h.collected_are; entries_are = h.entries_are }

-- and the other way round
pub peers_unstaged : (past : List Item) (staged : Option (List ℕ)) (t : Peers) → IsPeersOf past (staged_for staged t) → IsPeersOf past t
peers_unstaged past staged t h = record { rows_are = h.rows_are; live_are = h.live_are; places_are = h.places_are; sent_are = h.sent_are; collected_are = h.collected_are; entries_are = h.entries_are }

-- what is there is one thing
same_some : {A : Type 0} (x y : A) → Some x ≡ Some y → x ≡ y
same_some x y h = cc

module _ (e : Entry) (world : World) (t : Tables) (past : List Item) (i : Item) (ready : AreReadyFor e world t past i) where
  -- an agent that is staged has a key that no agent has
  pub agent_is_new : (a : Agent) → t.agents.staged ≡ Some (AgentChange.Add a) → agent_of a.key t.agents.items ≡ None
  agent_is_new a is = ap (agent_of a.key) ready.tables_are.agents_are ∙ agent_fresh past i a (same_some _ _ (sym ready.staged.agents_are ∙ is))

  -- a temporary authorization that is staged has a number above all
  pub grant_is_new : (g : GrantRow) → t.grants.staged ≡ Some (GrantChange.Add g) → Each (λ r. r.id < g.id) t.grants.items
  grant_is_new g is = subst (Each (λ r. r.id < g.id)) (sym ready.tables_are.grants_are) (grant_fresh past i ready.legal.1 g (same_some _ _ (sym ready.staged.grants_are ∙ is)))

  -- a challenge that is staged can be mistaken for none
  pub challenge_is_new : (row : Pending) → t.challenges.staged ≡ Some (ChallengeChange.Begun row) → IsFresh row t.challenges.items
  challenge_is_new row is = subst (IsFresh row) (sym ready.tables_are.challenges_are) (begun_is_fresh past ready.legal.1 i ready.legal.0 ready.short row (same_some _ _ (sym ready.staged.challenges_are ∙ is)))

  -- the agents after the entry
  pub agents_next : (new : List Agent) → ((change : AgentChange) → t.agents.staged ≡ Some change → new ≡ after_agents e world change t.agents.items) → new ≡ in_force (i ∷ past)
  agents_next new carried =
      carried (change_of past i).agent ready.staged.agents_are
      ∙ ap (after_agents e world (change_of past i).agent) ready.tables_are.agents_are
      ∙ ap (λ (x : Entry). after_agents x world (change_of past i).agent (in_force past)) (sym ready.entry_is)
      ∙ ap (λ w. after_agents i.entry w (change_of past i).agent (in_force past)) ready.world_is
      ∙ agents_after past i ready.legal.0

  -- the temporary authorizations after the entry
  pub grants_next : (new : List GrantRow) → ((change : GrantChange) → t.grants.staged ≡ Some change → new ≡ after_grants e world change t.grants.items) → new ≡ kept (i ∷ past)
  grants_next new carried =
      carried (change_of past i).grant ready.staged.grants_are
      ∙ ap (after_grants e world (change_of past i).grant) ready.tables_are.grants_are
      ∙ ap (λ (x : Entry). after_grants x world (change_of past i).grant (kept past)) (sym ready.entry_is)
      ∙ ap (λ w. after_grants i.entry w (change_of past i).grant (kept past)) ready.world_is
      ∙ grants_after past i ready.legal.1 ready.legal.0 (let short = ready.short in omega (arith, short))

  -- the pending challenges after the entry
  pub challenges_next : (new : List Pending) → ((change : ChallengeChange) → t.challenges.staged ≡ Some change → new ≡ after_challenges change t.challenges.items) → new ≡ pending (i ∷ past)
  challenges_next new carried =
      carried (change_of past i).challenge ready.staged.challenges_are
      ∙ ap (after_challenges (change_of past i).challenge) ready.tables_are.challenges_are
      ∙ challenges_after past ready.legal.1 i ready.legal.0 (let short = ready.short in omega (arith, short))

  -- the connections after the entry
  pub peers_next : (new : Peers) → StandsAfter e world t.peers new → IsPeersOf (i ∷ past) (staged_for None new)
  peers_next new carried = peers_staged (i ∷ past) None new (carried past i ready.entry_is ready.world_is ready.legal (peers_unstaged past None t.peers ready.tables_are.peers_are))
