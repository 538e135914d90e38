-- For each list that is handed in there is one legal history.
use Rattle.std.proofs.Common.{◌≡◌, ℕ, ◌+◌, ◌^◌, ◌≤◌, true, List, [], ◌∷◌, refl, ap, ◌∙◌, Option, Some, None, subst, arith}
use Rattle.std.proofs.Math.Nat.{le-max_left, max-le, max-eq_left}
use Rattle.std.specs.Prelude.{max}
use Rattle.authority_model.specs.declared.journal.Entry.{Entry}
use Rattle.authority_model.specs.declared.event.Event.{Event}
use Rattle.authority_model.specs.declared.event.Event.TheVariants.{Load, Collect}
use Rattle.authority_model.specs.declared.journal.Item.{Item}
use Rattle.authority_model.specs.declared.load.Loaded.{Loaded}
use Rattle.authority_model.specs.Lists.{Each}
use Rattle.authority_model.specs.Items.{is_load}
use Rattle.authority_model.specs.Answers.{loads}
use Rattle.authority_model.specs.Legal.{Legal, Follows, IsNumbered, IsCollected, last_moment}
use Rattle.authority_model.specs.Given.{What, Given, event_of, load_in, item_of, next, history_of, IsProper, IsProperWhat, IsProperEvent, Shows, IsHistoryOf}

-- the moments of a legal history are at most 2^62
last_bound : (past : List Item) → Legal past → last_moment past ≤ 2 ^ 62
last_bound [] legal = omega arith
last_bound (i ∷ past) legal = legal.0.bounded

-- what is handed in is numbered as a load, or has no load
numbered : (n : ℕ) (g : Given) (w : What) → IsProperWhat g w → IsNumbered n (event_of n w) (load_in w)
numbered n g (What.Loads l) p = refl
numbered n g (What.Of event) p = of event p
  where
    of : (event : Event) → IsProperEvent g event → IsNumbered n event None
    of (Load load) p = p
    of event p = refl

-- a Collect that is handed in has the moment before it and the salt 0
collected : (n t : ℕ) (g : Given) (e : Entry) → e.moment ≡ max t g.moment → e.salt ≡ g.salt → (w : What) → IsProperWhat g w → IsCollected t e (event_of n w)
collected n t g e m s (What.Loads l) p = tt
collected n t g e m s (What.Of event) p = of event p
  where
    of : (event : Event) → IsProperEvent g event → IsCollected t e event
    of (Collect other) p = (m ∙ ap (max t) p.0 ∙ max-eq_left (omega arith), s ∙ p.1)
    of event p = tt

-- what is properly handed in makes an item that follows
pub follows : (past : List Item) → Legal past → (g : Given) → IsProper g → Follows past (next past g)
follows past legal g p = record {
  rises = le-max_left (last_moment past) g.moment;
  bounded = max-le (last_bound past legal) p.0;
  numbered = numbered (loads past) g g.what p.1;
  collected = collected (loads past) (last_moment past) g (next past g).entry refl refl g.what p.1;
  answered = refl;
}

shows : (past : List Item) (g : Given) (w : What) (c t salt : ℕ) → Shows (item_of past c t salt (event_of (loads past) w) (load_in w)) w
shows past g (What.Of event) c t salt = refl
shows past g (What.Loads l) c t salt = (refl, refl)

-- an item that follows and has what was handed in is the next one
event_is : (past : List Item) (i : Item) → Follows past i → (g : Given) (w : What) → IsProperWhat g w → Shows i w → (i.entry.event ≡ event_of (loads past) w) × (i.loaded ≡ load_in w)
event_is past i f g (What.Of event) p s = (s, of event p (subst (λ (e : Event). IsNumbered (loads past) e i.loaded) s f.numbered))
  where
    of : (event : Event) → IsProperEvent g event → IsNumbered (loads past) event i.loaded → i.loaded ≡ None
    of (Load load) p h = absurd p
    of event p h = h
event_is past i f g (What.Loads l) p s = (of i.entry.event s.0 (subst (λ (o : Option Loaded). IsNumbered (loads past) i.entry.event o) s.1 f.numbered), s.1)
  where
    of : (event : Event) → is_load event ≡ true → IsNumbered (loads past) event (Some l) → event ≡ Load (loads past + 1)
    of (Load load) e h = ap Load h
    of event e h = absurd (cc)

next_only : (past : List Item) (i : Item) → Follows past i → (g : Given) → IsProper g → i.entry.caller ≡ g.caller → i.entry.moment ≡ max (last_moment past) g.moment → i.entry.salt ≡ g.salt → Shows i g.what → i ≡ next past g
next_only past i f g p c m s w =
    let e = event_is past i f g g.what p.1 w in
    ap (λ o. record i { entry = record i.entry { outputs = o } }) f.answered
    ∙ ap (λ c. item_of past c i.entry.moment i.entry.salt i.entry.event i.loaded) c
    ∙ ap (λ m. item_of past g.caller m i.entry.salt i.entry.event i.loaded) m
    ∙ ap (λ s. item_of past g.caller (max (last_moment past) g.moment) s i.entry.event i.loaded) s
    ∙ ap (λ e. item_of past g.caller (max (last_moment past) g.moment) g.salt e i.loaded) e.0
    ∙ ap (item_of past g.caller (max (last_moment past) g.moment) g.salt (event_of (loads past) g.what)) e.1

-- the history is legal, and has what was handed in
pub history_legal : (given : List Given) → Each IsProper given → Legal (history_of given) × IsHistoryOf (history_of given) given
history_legal [] p = (tt, tt)
history_legal (g ∷ given) p =
    let ih = history_legal given p.1 in
    ((follows (history_of given) ih.0 g p.0, ih.0), (refl, refl, refl, shows (history_of given) g g.what g.caller (max (last_moment (history_of given)) g.moment) g.salt, ih.1))

-- and is the only one
pub history_only : (given : List Given) → Each IsProper given → (past : List Item) → Legal past → IsHistoryOf past given → past ≡ history_of given
history_only [] p [] legal h = refl
history_only [] p (i ∷ past) legal h = absurd h
history_only (g ∷ given) p [] legal h = absurd h
history_only (g ∷ given) p (i ∷ past) legal h =
    let same = history_only given p.1 past legal.1 h.4 in
    ap (λ x. x ∷ past) (next_only past i legal.0 g p.0 h.0 h.1 h.2 h.3) ∙ ap (λ xs. next xs g ∷ xs) same
