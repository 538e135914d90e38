-- What each look makes of what a sighter has done.
use Rattle.std.proofs.Common.{◌≡◌, ◌≤◌, ◌<◌, ℕ, suc, Bool, true, false, cond, get_or, length, arith, List, [], ◌∷◌, ◌++◌, Option, Some, None, refl, ap, sym, ◌∙◌, subst, append-nil, append_assoc, map, inl, inr}
use Rattle.std.specs.Prelude.{◌+◌, ◌⊎◌, All, filter, not}
use Rattle.std.specs.List.{cons_option}
use Rattle.std.proofs.lemmas.List.{map-append}
use Rattle.std.proofs.lemmas.List.Elements.{All-append, All-cons, All-nil, filter_map-append}
use mathlib.Core.List.{IsPrefix}
use Rattle.authority_model.specs.declared.event.Event.{Event}
use Rattle.authority_model.specs.declared.journal.Item.{Item}
use Rattle.connection_laws.proofs.Growing.{knows_entered, knows_learned}
use Rattle.connection_lookout.proofs.Unlisting.{unlist_entered, unlist_learned, unlist_none}
use Rattle.connection_lookout.specs.Unlistings.{DidUnlist}
use Rattle.connection_lookout.proofs.Betweens.{filter_more, look_out, turned_more, turned_quiet, were_out, were_out_same}
use Rattle.connection_lookout.specs.Watching.{AllLooked, AllTaken, HasMet, IsFresh, IsOut, Looks, LooksAt, Meets, Own, Takes, TookOut, TookTurn, Turn, Turned, WasOut, Watch, Watched, Watching, has_ended, has_seen, look_of, names, own, process_of, processes}
use Rattle.history_lock.proofs.Prefixes.{prefix_self, prefix_trans}
use Rattle.history_lock.specs.Known.{Known}
use Rattle.history_lock.specs.declared.machine.EndCause.{EndCause}
use Rattle.pk_outside.specs.declared.sights.Sighted.{Sighted}
use Rattle.pk_outside.specs.Sightings.{GivesSighting, Look, Looked}
use Rattle.history_lock.proofs.Growth.{learned_begins, learned_trans}
use Rattle.history_lock.specs.Calls.{Learned}
use Rattle.history_lock.specs.Entries.{entries_by}
use Rattle.shared_authority.specs.Journals.{IsJournal, caller_of, past_of}
use Rattle.sight_events.specs.Named.{named}

-- the processes of one turn more
processes_more : (test : Turn → Bool) (turns : List Turn) (t : Turn) (b : Bool) → test t ≡ b → processes test (turns ++ t ∷ []) ≡ processes test turns ++ cond b (process_of t ∷ []) []
processes_more test [] t b is = ap (λ (x : Bool). map process_of (cond x (t ∷ []) [])) is ∙ one b
  where
    one : (x : Bool) → map process_of (cond x (t ∷ []) []) ≡ cond x (process_of t ∷ []) []
    one true = refl
    one false = refl
processes_more test (u ∷ turns) t b is = one (test u) (processes_more test turns t b is)
  where
    one : (x : Bool) → processes test (turns ++ t ∷ []) ≡ processes test turns ++ cond b (process_of t ∷ []) []
        → map process_of (cond x (u ∷ filter test (turns ++ t ∷ [])) (filter test (turns ++ t ∷ []))) ≡ map process_of (cond x (u ∷ filter test turns) (filter test turns)) ++ cond b (process_of t ∷ []) []
    one true rest = ap (λ (l : List (ℕ × ℕ)). process_of u ∷ l) rest
    one false rest = rest

-- what one event more names
names_more : (events : List Event) (event : Event) (p : ℕ × ℕ) → named event ≡ Some p → names (events ++ event ∷ []) ≡ names events ++ p ∷ []
names_more events event p is = filter_map-append named events (event ∷ []) ∙ ap (λ (x : Option (ℕ × ℕ)). names events ++ cons_option x []) is

no_names_more : (events : List Event) (event : Event) → named event ≡ None → names (events ++ event ∷ []) ≡ names events
no_names_more events event none = filter_map-append named events (event ∷ []) ∙ ap (λ (x : Option (ℕ × ℕ)). names events ++ cons_option x []) none ∙ append-nil (names events)

-- one sighting more
takes_more : (a b c : List Sighted) (seen : List Sighted) (s : Sighted) → Takes a b seen → GivesSighting (Some b) (Some c) s → Takes a c (seen ++ s ∷ [])
takes_more [] b c [] s t g = subst (λ (l : List Sighted). GivesSighting (Some l) (Some c) s) t g
takes_more (x ∷ a) b c [] s t g = subst (λ (l : List Sighted). GivesSighting (Some l) (Some c) s) t g
takes_more [] b c (u ∷ seen) s t g = (t.0, takes_more [] b c seen s t.1 g)
takes_more (x ∷ a) b c (u ∷ seen) s t g = (t.0, takes_more a b c seen s t.1 g)

taken_more : (a b c : Option (List Sighted)) (seen : List Sighted) (s : Sighted) → AllTaken a b seen → GivesSighting b c s → AllTaken a c (seen ++ s ∷ [])
taken_more None None None seen s t g = tt
taken_more None None (Some c) seen s t g = absurd g
taken_more None (Some b) c seen s t g = absurd t
taken_more (Some a) None c seen s t g = absurd t
taken_more (Some a) (Some b) None seen s t g = absurd g
taken_more (Some a) (Some b) (Some c) seen s t g = takes_more a b c seen s t g

taken_none : (a : Option (List Sighted)) → AllTaken a a []
taken_none None = tt
taken_none (Some a) = refl

-- one look more
looked_more : (a b c : Option (List Look)) (looks : List Look) (pid : ℕ) (s : Sighted) → AllLooked a b looks → Looked b c pid s → AllLooked a c (looks ++ record { pid = pid; sighted = s } ∷ [])
looked_more None None None looks pid s t g = tt
looked_more None None (Some c) looks pid s t g = absurd g
looked_more None (Some b) c looks pid s t g = absurd t
looked_more (Some a) None c looks pid s t g = absurd t
looked_more (Some a) (Some b) None looks pid s t g = absurd g
looked_more (Some a) (Some b) (Some c) looks pid s t g = g ∙ ap (λ (l : List Look). l ++ record { pid = pid; sighted = s } ∷ []) t ∙ append_assoc a looks (record { pid = pid; sighted = s } ∷ [])

looked_none : (a : Option (List Look)) → AllLooked a a []
looked_none None = tt
looked_none (Some a) = sym (append-nil a)

-- what was taken out, or not
out_number : (b : Bool) (pid start : ℕ) (v w : Known Item) → TookOut b pid start v w → w.number ≡ v.number
out_number true pid start v w out = (knows_entered v _ w out.1.submitted.entered).number
out_number false pid start v w (inl same) = ap (λ (k : Known Item). k.number) same
out_number false pid start v w (inr l) = l.number

out_begins : (b : Bool) (pid start : ℕ) (v w : Known Item) → TookOut b pid start v w → IsPrefix v.history w.history
out_begins true pid start v w out = (knows_entered v _ w out.1.submitted.entered).begins
out_begins false pid start v w (inl same) = subst (λ (k : Known Item). IsPrefix v.history k.history) (sym same) (prefix_self v.history)
out_begins false pid start v w (inr l) = (knows_learned v w l).begins

out_did : (n : ℕ) (b : Bool) (pid start : ℕ) (v w : Known Item) (ps : List (ℕ × ℕ)) → v.number ≡ n → TookOut b pid start v w → DidUnlist n (past_of v.history) ps → DidUnlist n (past_of w.history) (ps ++ cond b ((pid, start) ∷ []) [])
out_did n true pid start v w ps is out did = unlist_entered n v pid start out.0 w ps is out.1 did
out_did n false pid start v w ps is (inl same) did = subst (λ (k : Known Item). DidUnlist n (past_of k.history) (ps ++ [])) (sym same) (subst (λ (l : List (ℕ × ℕ)). DidUnlist n (past_of v.history) l) (sym (append-nil ps)) did)
out_did n false pid start v w ps is (inr l) did = unlist_learned n v w (ps ++ []) is l (subst (λ (l : List (ℕ × ℕ)). DidUnlist n (past_of v.history) l) (sym (append-nil ps)) did)

-- a lock that has ended has ended for good
stays_ended : (b : Bool) (pid start : ℕ) (v w : Known Item) → TookOut b pid start v w → (cause : EndCause) → v.ended ≡ Some cause → w.ended ≡ Some cause
stays_ended true pid start v w out cause is = absurd (other (sym is ∙ out.1.submitted.entered.learned.knew_none))
  where
    other : Some cause ≡ None → ⊥
    other e = cc
stays_ended false pid start v w (inl same) cause is = ap (λ (k : Known Item). k.ended) same ∙ is
stays_ended false pid start v w (inr l) cause is = (l.ended cause is).0

-- a process that is out since a later history is out since an earlier one
out_since : (first later : List Item) (pid start : ℕ) (w : Known Item) → IsPrefix first later → IsOut later pid start w → IsOut first pid start w
out_since first later pid start w p (inl x) = inl (record { known = x.known; after = prefix_trans first later x.known p x.after; within = x.within; lacks = x.lacks })
out_since first later pid start w p (inr x) = inr x

-- and goes on to be
out_on : (first : List Item) (pid start : ℕ) (v w : Known Item) → IsPrefix v.history w.history → ((cause : EndCause) → v.ended ≡ Some cause → w.ended ≡ Some cause) → IsOut first pid start v → IsOut first pid start w
out_on first pid start v w p ends (inl x) = inl (record { known = x.known; after = x.after; within = prefix_trans x.known v.history w.history x.within p; lacks = x.lacks })
out_on first pid start v w p ends (inr (cause, is)) = inr (cause, ends cause is)

-- the turns whose processes have ended, of which each is out
abbrev AreOut : List Item → Known Item → Turn → Type 0
AreOut first w t = has_ended t.start t.sighted ≡ true → IsOut first t.pid t.start w

all_out_on : (first : List Item) (turns : List Turn) (v w : Known Item) → IsPrefix v.history w.history → ((cause : EndCause) → v.ended ≡ Some cause → w.ended ≡ Some cause) → All (AreOut first v) turns → All (AreOut first w) turns
all_out_on first turns v w p ends all = λ k d lt ended. let t : Turn = get_or turns k d in out_on first t.pid t.start v w p ends (all k d lt ended)

-- one turn more; where its look failed no event more was handed in
turn_more : (o now : Own) (events more : List Event) (u v w : Watch) (p : ℕ × ℕ) (failed : Bool) (x : Watching o events u v) (t : TookTurn p v w failed) → names more ≡ names events ++ cond (not failed) (p ∷ []) []
    → Turned (WasOut now) 1 more (filter (λ (t : Turn). has_seen t.sighted) (x.turns ++ t.turn ∷ [])) → Watching now more u w
turn_more o now events more u v w p failed x t is between = record {
  number = out_number t.turn.unlisted t.turn.pid t.turn.start v.pass w.pass t.out ∙ x.number;
  begins = prefix_trans u.pass.history v.pass.history w.pass.history x.begins (out_begins t.turn.unlisted t.turn.pid t.turn.start v.pass w.pass t.out);
  turns = x.turns ++ t.turn ∷ [];
  looked = processes_more (λ (t : Turn). has_seen t.sighted) x.turns t.turn (not failed) t.failed_is
      ∙ ap (λ (q : ℕ × ℕ). processes (λ (t : Turn). has_seen t.sighted) x.turns ++ cond (not failed) (q ∷ []) []) t.process
      ∙ ap (λ (l : List (ℕ × ℕ)). l ++ cond (not failed) (p ∷ []) []) x.looked
      ∙ sym is;
  left = subst (AllTaken u.left w.left) (sym (map-append (λ (t : Turn). t.sighted) x.turns (t.turn ∷ []))) (taken_more u.left v.left w.left (map (λ (t : Turn). t.sighted) x.turns) t.turn.sighted x.left t.left);
  gave = subst (AllLooked u.gave w.gave) (sym (map-append look_of x.turns (t.turn ∷ []))) (looked_more u.gave v.gave w.gave (map look_of x.turns) t.turn.pid t.turn.sighted x.gave t.gave);
  did = subst (λ (l : List (ℕ × ℕ)). DidUnlist u.pass.number (past_of w.pass.history) l) (sym (processes_more (λ (t : Turn). t.unlisted) x.turns t.turn t.turn.unlisted refl))
      (out_did u.pass.number t.turn.unlisted t.turn.pid t.turn.start v.pass w.pass (processes (λ (t : Turn). t.unlisted) x.turns) x.number t.out x.did);
  ended = All-append (λ (t : Turn). t.unlisted ≡ true → has_ended t.start t.sighted ≡ true) x.turns (t.turn ∷ []) x.ended
      (All-cons (λ (t : Turn). t.unlisted ≡ true → has_ended t.start t.sighted ≡ true) t.turn [] t.ended (All-nil (λ (t : Turn). t.unlisted ≡ true → has_ended t.start t.sighted ≡ true)));
  gone = All-append (AreOut u.pass.history w.pass) x.turns (t.turn ∷ [])
      (all_out_on u.pass.history x.turns v.pass w.pass (out_begins t.turn.unlisted t.turn.pid t.turn.start v.pass w.pass t.out) (stays_ended t.turn.unlisted t.turn.pid t.turn.start v.pass w.pass t.out) x.gone)
      (All-cons (AreOut u.pass.history w.pass) t.turn [] (λ ended. out_since u.pass.history v.pass.history t.turn.pid t.turn.start w.pass x.begins (t.gone ended)) (All-nil (AreOut u.pass.history w.pass)));
  between = between;
}

-- no turn more
no_turn_more : (o now : Own) (events more : List Event) (u v : Watch) (x : Watching o events u v) → names more ≡ names events → Turned (WasOut now) 1 more (filter (λ (t : Turn). has_seen t.sighted) x.turns) → Watching now more u v
no_turn_more o now events more u v x is between = record {
  number = x.number;
  begins = x.begins;
  turns = x.turns;
  looked = x.looked ∙ sym is;
  left = x.left;
  gave = x.gave;
  did = x.did;
  ended = x.ended;
  gone = x.gone;
  between = between;
}

-- the sighter met another pass
met_more : (o : Own) (events : List Event) (p : Known Item) (u v w : Watch) → Watching o events u v → Meets p v w → Watching o events u w
met_more o events p u v w x m = record {
  number = m.learned.number ∙ x.number;
  begins = prefix_trans u.pass.history v.pass.history w.pass.history x.begins (knows_learned v.pass w.pass m.learned).begins;
  turns = x.turns;
  looked = x.looked;
  left = subst (λ (l : Option (List Sighted)). AllTaken u.left l (map (λ (t : Turn). t.sighted) x.turns)) (sym m.left) x.left;
  gave = subst (λ (l : Option (List Look)). AllLooked u.gave l (map look_of x.turns)) (sym m.gave) x.gave;
  did = unlist_learned u.pass.number v.pass w.pass (processes (λ (t : Turn). t.unlisted) x.turns) x.number m.learned x.did;
  ended = x.ended;
  gone = all_out_on u.pass.history x.turns v.pass w.pass (knows_learned v.pass w.pass m.learned).begins (λ cause is. (m.learned.ended cause is).0) x.gone;
  between = x.between;
}

-- whether the turns of the looks that succeeded are one more
seen_more : (turns : List Turn) (t : Turn) (failed : Bool) → has_seen t.sighted ≡ not failed → filter (λ (t : Turn). has_seen t.sighted) (turns ++ t ∷ []) ≡ filter (λ (t : Turn). has_seen t.sighted) turns ++ cond (not failed) (t ∷ []) []
seen_more turns t failed is = filter_more (λ (t : Turn). has_seen t.sighted) turns t (not failed) is

module _ (n m : ℕ) (h : List Item) (events : List Event) where
  -- a longer history that has no entry of the connection more
  pub watched_on : (g : List Item) (a b : Option Watch) → IsPrefix h g → Watched (own n m h) events a b → Watched (own n m g) events a b
  watched_on g None None p x = tt
  watched_on g None (Some b) p x = absurd x
  watched_on g (Some a) None p x = absurd x
  watched_on g (Some a) (Some b) p x =
      no_turn_more (own n m h) (own n m g) events events a b x refl (were_out_same n m h g events (filter (λ (t : Turn). has_seen t.sighted) x.turns) p x.between)

  -- or has some, of which each event has one already
  pub watched_grown : (more : ℕ) (g : List Item) (a b : Option Watch) → IsPrefix h g → suc (length events) ≤ m → Watched (own n m h) events a b → Watched (own n more g) events a b
  watched_grown more g None None p enough x = tt
  watched_grown more g None (Some b) p enough x = absurd x
  watched_grown more g (Some a) None p enough x = absurd x
  watched_grown more g (Some a) (Some b) p enough x =
      no_turn_more (own n m h) (own n more g) events events a b x refl (were_out n m more h g events (filter (λ (t : Turn). has_seen t.sighted) x.turns) p enough x.between)

  -- a sighter that met a pass
  pub watched_met : (p : Known Item) (a b c : Option Watch) → Watched (own n m h) events a b → HasMet p b c → Watched (own n m h) events a c
  watched_met p None None None x meets = tt
  watched_met p None None (Some c) x meets = absurd meets
  watched_met p None (Some b) c x meets = absurd x
  watched_met p (Some a) None c x meets = absurd x
  watched_met p (Some a) (Some b) None x meets = absurd meets
  watched_met p (Some a) (Some b) (Some c) x meets = met_more (own n m h) events p a b c x meets

-- a connection's pass learned of others' items alone in a look, or of none
pub look_learned : (event : Event) (p q : Known Item) (b c : Option Watch) (failed : Bool) → Looks event p q b c failed → (q ≡ p) ⊎ Learned caller_of IsJournal p q
look_learned event p q None None failed l = inl l.0
look_learned event p q None (Some c) failed l = absurd l
look_learned event p q (Some b) None failed l = absurd l
look_learned event p q (Some b) (Some c) failed l = at (named event) l
  where
    at : (n : Option (ℕ × ℕ)) → LooksAt n p q b c failed → (q ≡ p) ⊎ Learned caller_of IsJournal p q
    at None x = inl x.0
    at (Some process) x = inr (learned_trans caller_of IsJournal p x.met q x.learned x.knows)

pub look_begins : (event : Event) (p q : Known Item) (b c : Option Watch) (failed : Bool) → Looks event p q b c failed → IsPrefix p.history q.history
look_begins event p q b c failed l = either (look_learned event p q b c failed l)
  where
    either : (q ≡ p) ⊎ Learned caller_of IsJournal p q → IsPrefix p.history q.history
    either (inl same) = subst (λ (k : Known Item). IsPrefix p.history k.history) (sym same) (prefix_self p.history)
    either (inr x) = learned_begins caller_of IsJournal p q x

module _ (n m : ℕ) (events : List Event) (event : Event) (p q : Known Item) (enough : suc (length events) ≤ m) where
  -- It looked before one event more. Where this is entered, the pass knew of no end of the lock.
  pub watched_more : (more : ℕ) (g : List Item) (a b c : Option Watch) → p.number ≡ n → length (entries_by caller_of n p.history) ≡ suc (length events) → IsPrefix q.history g → (suc (length events) < more → q.ended ≡ None)
      → Watched (own n m p.history) events a b → Looks event p q b c false → Watched (own n more g) (events ++ event ∷ []) a c
  watched_more more g None None None is count longer unended x l = tt
  watched_more more g None None (Some c) is count longer unended x l = absurd l
  watched_more more g None (Some b) c is count longer unended x l = absurd x
  watched_more more g (Some a) None c is count longer unended x l = absurd x
  watched_more more g (Some a) (Some b) None is count longer unended x l = absurd l
  watched_more more g (Some a) (Some b) (Some c) is count longer unended x l = at (named event) refl l
    where
      begins : IsPrefix p.history g
      begins = prefix_trans p.history q.history g (look_begins event p q (Some b) (Some c) false l) longer

      before : (turns : List Turn) → Turned (WasOut (own n m p.history)) 1 events turns → Turned (WasOut (own n more g)) 1 events turns
      before turns y = were_out n m more p.history g events turns begins enough y

      counted : length (entries_by caller_of n p.history) ≡ 1 + length events
      counted = omega (arith, count)

      at : (k : Option (ℕ × ℕ)) → named event ≡ k → LooksAt k p q b c false → Watching (own n more g) (events ++ event ∷ []) a c
      at None none y = subst (Watching (own n more g) (events ++ event ∷ []) a) (sym y.1)
          (no_turn_more (own n m p.history) (own n more g) events (events ++ event ∷ []) a b x (no_names_more events event none)
          (turned_quiet (WasOut (own n more g)) 1 events event (filter (λ (t : Turn). has_seen t.sighted) x.turns) none (before (filter (λ (t : Turn). has_seen t.sighted) x.turns) x.between)))
      at (Some process) named_is y =
          let first = met_more (own n m p.history) events y.met a b y.before x y.first in
          let turned : Turned (WasOut (own n more g)) 1 (events ++ event ∷ []) (filter (λ (t : Turn). has_seen t.sighted) (first.turns ++ y.took.turn ∷ [])) =
          subst (Turned (WasOut (own n more g)) 1 (events ++ event ∷ [])) (sym (seen_more first.turns y.took.turn false y.took.failed_is))
          (turned_more (WasOut (own n more g)) 1 events event process (filter (λ (t : Turn). has_seen t.sighted) first.turns) y.took.turn named_is y.took.process
          (λ ended has. look_out process p q b c false n more (1 + length events) g y is counted (unended (omega (arith, has))) longer ended)
          (before (filter (λ (t : Turn). has_seen t.sighted) first.turns) first.between)) in
          met_more (own n more g) (events ++ event ∷ []) q a y.after c
          (turn_more (own n m p.history) (own n more g) events (events ++ event ∷ []) a y.before y.after process false first y.took (names_more events event process named_is) turned) y.second

  -- the look before an event failed
  pub watched_failed : (a b c : Option Watch) → Watched (own n m p.history) events a b → Looks event p q b c true → Watched (own n m q.history) events a c
  watched_failed None None None x l = tt
  watched_failed None None (Some c) x l = absurd l
  watched_failed None (Some b) c x l = absurd x
  watched_failed (Some a) None c x l = absurd x
  watched_failed (Some a) (Some b) None x l = absurd l
  watched_failed (Some a) (Some b) (Some c) x l = at (named event) l
    where
      begins : IsPrefix p.history q.history
      begins = look_begins event p q (Some b) (Some c) true l

      at : (k : Option (ℕ × ℕ)) → LooksAt k p q b c true → Watching (own n m q.history) events a c
      at None y = absurd (cc (y.2))
      at (Some process) y =
          let first = met_more (own n m p.history) events y.met a b y.before x y.first in
          let turned : Turned (WasOut (own n m q.history)) 1 events (filter (λ (t : Turn). has_seen t.sighted) (first.turns ++ y.took.turn ∷ [])) =
          subst (Turned (WasOut (own n m q.history)) 1 events) (sym (seen_more first.turns y.took.turn true y.took.failed_is ∙ append-nil (filter (λ (t : Turn). has_seen t.sighted) first.turns)))
          (were_out n m m p.history q.history events (filter (λ (t : Turn). has_seen t.sighted) first.turns) begins enough first.between) in
          met_more (own n m q.history) events q a y.after c
          (turn_more (own n m p.history) (own n m q.history) events events a y.before y.after process true first y.took (sym (append-nil (names events))) turned) y.second

-- a sighter that has not looked yet
pub watched_self : (o : Own) (a : Option Watch) → IsFresh a → Watched o [] a a
watched_self o None fresh = tt
watched_self o (Some v) fresh = record {
  number = refl;
  begins = prefix_self v.pass.history;
  turns = [];
  looked = refl;
  left = taken_none v.left;
  gave = looked_none v.gave;
  did = unlist_none v.pass.number v.pass.history fresh;
  ended = All-nil (λ (t : Turn). t.unlisted ≡ true → has_ended t.start t.sighted ≡ true);
  gone = All-nil (AreOut v.pass.history v.pass);
  between = refl;
}
