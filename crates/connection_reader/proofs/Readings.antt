-- What each thing that is handed in makes of what a reader has done.
use Rattle.std.proofs.Common.{◌≡◌, ◌<◌, ℕ, suc, Bool, true, false, cond, List, [], ◌∷◌, ◌++◌, Option, None, refl, ap, sym, ◌∙◌, subst, append_assoc, append-nil, arith, length, length-append, take, drop, map, inl, inr}
use Rattle.std.specs.Prelude.{◌+◌, ◌==◌, ◌⊎◌, Ok, Err, filter, reverse}
use Rattle.std.proofs.lemmas.List.{length-map, map-append, reverse-append}
use Rattle.std.proofs.lemmas.List.Elements.{filter-append}
use mathlib.Core.List.{IsPrefix}
use Rattle.pk_outside.specs.Streams.{Gave, Got}
use Rattle.pk_outside.proofs.Written.{Gave-more, Gave-none, Got-more}
use Rattle.history_lock.specs.Known.{Known}
use Rattle.history_lock.proofs.Prefixes.{prefix_self}
use Rattle.history_lock.specs.Entries.{NoneBy, entries_by}
use Rattle.history_lock.specs.Calls.{Learned}
use Rattle.history_lock.specs.declared.machine.EndCause.{EndCause}
use Rattle.authority_model.specs.declared.event.Event.{Event}
use Rattle.authority_model.specs.declared.event.Event.TheVariants.{Connect, Depart}
use Rattle.authority_model.specs.declared.journal.Item.{Item}
use Rattle.authority_model.specs.declared.journal.Limits.{Limits}
use Rattle.authority_model.specs.Given.{Given, What, event_given}
use Rattle.authority_calls.specs.Events.{event_of}
use Rattle.dbus_values.specs.Next.{Seen}
use Rattle.dbus_values.specs.Streams.{Follow, IsForm}
use Rattle.shared_authority.specs.Journals.{IsJournal, caller_of, past_of}
use Rattle.connection_laws.specs.Doings.{Did, DidLast}
use Rattle.connection_laws.specs.Knowing.{KnowsMore}
use Rattle.shared_authority.specs.Passes.{Entered}
use Rattle.connection_laws.proofs.Doing.{did_entered, did_learned, did_none}
use Rattle.connection_laws.proofs.Growing.{knows_entered, knows_learned, knows_trans}
use Rattle.connection_reader.specs.Hands.{HandsIn}
use Rattle.connection_reader.specs.Reading.{Hand, IsRefused, IsThrough, IsUnderway, Reading, due, hand}
use Rattle.dbus_values.proofs.Following.{follow_bytes, follow_next}
use Rattle.connection_lookout.proofs.Watching.{look_learned, watched_failed, watched_grown, watched_more, watched_on, watched_self}
use Rattle.connection_lookout.specs.Watching.{IsFresh, Looks, Watch, Watched, own}

-- one number more was drawn
drawn : (a b c : Option (List ℕ)) (f : Given → ℕ) (handed : List Given) (g : Given) → Got a b (map f (handed ++ [])) → Got b c (f g ∷ []) → Got a c (map f (handed ++ g ∷ []))
drawn a b c f handed g p q =
    let all : map f (handed ++ []) ++ f g ∷ [] ≡ map f (handed ++ g ∷ []) = ap (λ (gs : List Given). map f gs ++ f g ∷ []) (append-nil handed) ∙ sym (map-append f handed (g ∷ [])) in
    subst (Got a c) all (Got-more a b c (map f (handed ++ [])) (f g ∷ []) p q)

-- one thing more was handed in
asks_more : (uid : ℕ) (messages more : List Seen) (tail : List What) (handed : List Given) (g : Given) → map (λ (g : Given). g.what) (handed ++ []) ≡ due uid messages ++ [] → due uid messages ++ g.what ∷ [] ≡ due uid more ++ tail
    → map (λ (g : Given). g.what) (handed ++ g ∷ []) ≡ due uid more ++ tail
asks_more uid messages more tail handed g asks now =
    let what : Given → What = λ g. g.what in
    map-append what handed (g ∷ [])
    ∙ ap (λ (ws : List What). ws ++ g.what ∷ []) (ap (map what) (sym (append-nil handed)) ∙ asks ∙ append-nil (due uid messages))
    ∙ now

-- what one message more asks
due_more : (uid : ℕ) (messages : List Seen) (m : Seen) → due uid messages ++ What.Of (event_of m) ∷ [] ≡ due uid (messages ++ m ∷ []) ++ []
due_more uid messages m =
    ap (λ (ws : List What). What.Of (Connect uid) ∷ ws) (sym (map-append (λ (s : Seen). What.Of (event_of s)) messages (m ∷ [])))
    ∙ sym (append-nil (due uid (messages ++ m ∷ [])))

due_event : (uid : ℕ) (messages : List Seen) (m : Seen) (event : Event) → event ≡ event_of m → due uid messages ++ What.Of event ∷ [] ≡ due uid (messages ++ m ∷ []) ++ []
due_event uid messages m event is = ap (λ (e : Event). due uid messages ++ What.Of e ∷ []) is ∙ due_more uid messages m

-- a list that nothing was refused behind
entered_only : {B : Type 0} (f : Given → B) (handed : List Given) (g : Given) → map f (handed ++ g ∷ []) ≡ map f ((handed ++ g ∷ []) ++ [])
entered_only f handed g = ap (map f) (sym (append-nil (handed ++ g ∷ [])))

-- all that was handed in has its entry
count_back : (n : ℕ) (past : List Item) → length (filter (λ (i : Item). caller_of i == n) (reverse past)) ≡ length (filter (λ (i : Item). caller_of i == n) past)
count_back n [] = refl
count_back n (i ∷ past) =
    let test : Item → Bool = λ i. caller_of i == n in
    ap (λ (l : List Item). length (filter test l)) (reverse-append (i ∷ []) past)
    ∙ ap length (filter-append test (reverse past) (i ∷ []))
    ∙ length-append (filter test (reverse past)) (filter test (i ∷ []))
    ∙ (let rest = count_back n past in
    let first : length (filter test (i ∷ past)) ≡ length (filter test (i ∷ [])) + length (filter test past) = ap length (filter-append test (i ∷ []) past) ∙ length-append (filter test (i ∷ [])) (filter test past) in
    let sum : length (filter test (reverse past)) + length (filter test (i ∷ [])) ≡ length (filter test (i ∷ past)) = omega (arith, rest, first) in
    sum)

count_did : (n : ℕ) (past : List Item) (given : List Given) → Did n past given → length (filter (λ (i : Item). caller_of i == n) past) ≡ length given
count_did n [] given did = sym (ap length did)
count_did n (i ∷ past) given did = go (i.entry.caller == n) (λ g d. count_did n past g d) did
  where
    others : List Item
    others = filter (λ (i : Item). caller_of i == n) past

    go : (b : Bool) → ((g : List Given) → Did n past g → length others ≡ length g) → DidLast b past i given (Did n past) → length (cond b (i ∷ others) others) ≡ length given
    go true so (g, before, is, _, rest) =
        let one : length given ≡ length before + 1 = ap length is ∙ length-append before (g ∷ []) in
        let less = so before rest in
        let sum : suc (length others) ≡ length given = omega (arith, one, less) in
        sum
    go false so rest = so given rest

handed_all : (n : ℕ) (history : List Item) (handed : List Given) → Did n (past_of history) handed → length (entries_by caller_of n history) ≡ length handed
handed_all n history handed did = sym (count_back n history) ∙ count_did n (past_of history) handed did

-- how much was handed in while the connection goes on
handed_length : (uid : ℕ) (messages : List Seen) (handed : List Given) → map (λ (g : Given). g.what) (handed ++ []) ≡ due uid messages ++ [] → length handed ≡ suc (length (map event_of messages))
handed_length uid messages handed asks =
    sym (length-map handed (λ (g : Given). g.what))
    ∙ ap length (ap (map (λ (g : Given). g.what)) (sym (append-nil handed)) ∙ asks ∙ append-nil (due uid messages))
    ∙ ap suc (length-map messages (λ (m : Seen). What.Of (event_of m)) ∙ sym (length-map messages event_of))

-- the pass of a connection before a message is handed in: it stands as it stood, or a look taught it others' items
abbrev pub IsOn : Known Item → Known Item → Type 0
IsOn p q = (q ≡ p) ⊎ Learned caller_of IsJournal p q

knows_on : (s p q : Known Item) → IsOn p q → KnowsMore s p → KnowsMore s q
knows_on s p q (inl same) k = subst (KnowsMore s) (sym same) k
knows_on s p q (inr l) k = knows_trans s p q k (knows_learned p q l)

did_on : (n : ℕ) (p q : Known Item) (handed : List Given) → p.number ≡ n → IsOn p q → Did n (past_of p.history) handed → Did n (past_of q.history) handed
did_on n p q handed is (inl same) did = subst (λ (k : Known Item). Did n (past_of k.history) handed) (sym same) did
did_on n p q handed is (inr l) did = did_learned n p q handed is l did

on_begins : (p q : Known Item) → IsOn p q → IsPrefix p.history q.history
on_begins p q (inl same) = subst (λ (k : Known Item). IsPrefix p.history k.history) (sym same) (prefix_self p.history)
on_begins p q (inr l) = (knows_learned p q l).begins

-- the sighter looked before what one message more asks, which was entered or was not
one_more : (uid : ℕ) (s t : Hand) (r : IsUnderway uid s t) (q : Known Item) (m : Seen) (event : Event) (now : Option Watch) (entries : ℕ) (history : List Item) → event ≡ event_of m → Looks event t.pass q t.watch now false → IsPrefix q.history history
    → (length r.handed < entries → q.ended ≡ None) → Watched (own s.pass.number entries history) (map event_of (r.messages ++ m ∷ [])) s.watch now
one_more uid s t r q m event now entries history is looked longer unended =
    let events = map event_of r.messages in
    let many : length r.handed ≡ suc (length events) = handed_length uid r.messages r.handed r.asks in
    subst (λ (events : List Event). Watched (own s.pass.number entries history) events s.watch now) (ap (λ (e : Event). events ++ e ∷ []) is ∙ sym (map-append event_of r.messages (m ∷ [])))
    (watched_more s.pass.number (length r.handed) events event t.pass q (omega (arith, many)) entries history s.watch t.watch now r.knows.number (handed_all s.pass.number t.pass.history r.handed r.did ∙ many) longer
    (λ has. unended (subst (λ (k : ℕ). k < entries) (sym many) has)) r.watched looked)

-- it was entered
entered : (uid : ℕ) (s t : Hand) (r : IsUnderway uid s t) (q : Known Item) (on : IsOn t.pass q) (w : Known Item) (g : Given) (readings words : Option (List ℕ)) (unread : List ℕ) (now : Option Watch) (more : List Seen) (tail : List What)
    → Entered q g w → Got t.readings readings (g.moment ∷ []) → Got t.words words (g.salt ∷ []) → Follow (s.unread ++ r.read) more unread → due uid r.messages ++ g.what ∷ [] ≡ due uid more ++ tail
    → Watched (own s.pass.number (length (r.handed ++ g ∷ [])) w.history) (map event_of more) s.watch now
    → Reading uid [] tail s (hand w t.left readings words unread now)
entered uid s t r q on w g readings words unread now more tail e reading drew stream next watched = record {
  knows = knows_trans s.pass q w (knows_on s.pass t.pass q on r.knows) (knows_entered q g w e);
  read = r.read;
  gave = r.gave;
  messages = more;
  stream = stream;
  handed = r.handed ++ g ∷ [];
  did = did_entered s.pass.number q g w r.handed (knows_on s.pass t.pass q on r.knows).number e (did_on s.pass.number t.pass q r.handed r.knows.number on r.did);
  asks = sym (entered_only (λ (g : Given). g.what) r.handed g) ∙ asks_more uid r.messages more tail r.handed g r.asks next;
  readings = subst (Got s.readings readings) (entered_only (λ (g : Given). g.moment) r.handed g) (drawn s.readings t.readings readings (λ (g : Given). g.moment) r.handed g r.readings reading);
  words = subst (Got s.words words) (entered_only (λ (g : Given). g.salt) r.handed g) (drawn s.words t.words words (λ (g : Given). g.salt) r.handed g r.words drew);
  watched = watched;
}

-- it was refused
refused : (uid : ℕ) (s t : Hand) (r : IsUnderway uid s t) (q : Known Item) (on : IsOn t.pass q) (w : Known Item) (g : Given) (readings words : Option (List ℕ)) (unread : List ℕ) (now : Option Watch) (more : List Seen) (tail : List What)
    → Learned caller_of IsJournal q w → Got t.readings readings (g.moment ∷ []) → Got t.words words (g.salt ∷ []) → Follow (s.unread ++ r.read) more unread → due uid r.messages ++ g.what ∷ [] ≡ due uid more ++ tail
    → Watched (own s.pass.number (length r.handed) w.history) (map event_of more) s.watch now
    → Reading uid (g ∷ []) tail s (hand w t.left readings words unread now)
refused uid s t r q on w g readings words unread now more tail l reading drew stream next watched = record {
  knows = knows_trans s.pass q w (knows_on s.pass t.pass q on r.knows) (knows_learned q w l);
  read = r.read;
  gave = r.gave;
  messages = more;
  stream = stream;
  handed = r.handed;
  did = did_learned s.pass.number q w r.handed (knows_on s.pass t.pass q on r.knows).number l (did_on s.pass.number t.pass q r.handed r.knows.number on r.did);
  asks = asks_more uid r.messages more tail r.handed g r.asks next;
  readings = drawn s.readings t.readings readings (λ (g : Given). g.moment) r.handed g r.readings reading;
  words = drawn s.words t.words words (λ (g : Given). g.salt) r.handed g r.words drew;
  watched = watched;
}

module _ {T : Type 0} (limits : Limits) (uid : ℕ) (s : Hand) (w : Known Item) (readings words : Option (List ℕ)) (fresh : NoneBy caller_of s.pass.number s.pass.history) (fresh_sighter : IsFresh s.watch) where
  -- the beginning of the connection was entered
  pub begun : (done : T) → HandsIn {T = T} limits (Connect uid) s.pass w s.readings readings s.words words (Ok done) → IsUnderway uid s (hand w s.left readings words s.unread s.watch)
  begun done h = record {
    knows = knows_entered s.pass (event_given s.pass.number h.moment h.word (Connect uid)) w h.enters;
    read = [];
    gave = Gave-none s.left;
    messages = [];
    stream = append-nil s.unread;
    handed = event_given s.pass.number h.moment h.word (Connect uid) ∷ [];
    did = did_entered s.pass.number s.pass (event_given s.pass.number h.moment h.word (Connect uid)) w [] refl h.enters (did_none s.pass.number s.pass.history fresh);
    asks = refl;
    readings = h.reading;
    words = h.drawn;
    watched = watched_self (own s.pass.number 1 w.history) s.watch fresh_sighter;
  }

  -- it was refused
  pub begun_not : (cause : EndCause) → HandsIn {T = T} limits (Connect uid) s.pass w s.readings readings s.words words (Err cause) → IsRefused uid s (hand w s.left readings words s.unread s.watch)
  begun_not cause h = (
    event_given s.pass.number h.moment h.word (Connect uid),
    inl (record {
      knows = knows_learned s.pass w h.enters.learned;
      read = [];
      gave = Gave-none s.left;
      messages = [];
      stream = append-nil s.unread;
      handed = [];
      did = did_learned s.pass.number s.pass w [] refl h.enters.learned (did_none s.pass.number s.pass.history fresh);
      asks = refl;
      readings = h.reading;
      words = h.drawn;
      watched = watched_self (own s.pass.number 0 w.history) s.watch fresh_sighter;
    }),
  )

module _ {T : Type 0} (limits : Limits) (uid : ℕ) (s t : Hand) (r : IsUnderway uid s t) (w : Known Item) (readings words : Option (List ℕ)) where
  module _ (m : Seen) (used : ℕ) (form : IsForm (take used t.unread) m) (event : Event) (is : event ≡ event_of m) (q : Known Item) (now : Option Watch) (looked : Looks event t.pass q t.watch now false) where
    -- what a message asks was entered
    pub message_entered : (done : T) → HandsIn {T = T} limits event q w t.readings readings t.words words (Ok done) → IsUnderway uid s (hand w t.left readings words (drop used t.unread) now)
    message_entered done h =
        let g = event_given q.number h.moment h.word event in
        let on = look_learned event t.pass q t.watch now false looked in
        entered uid s t r q on w g readings words (drop used t.unread) now (r.messages ++ m ∷ []) [] h.enters h.reading h.drawn
        (follow_next (s.unread ++ r.read) r.messages t.unread used m r.stream form) (due_event uid r.messages m event is)
        (one_more uid s t r q m event now (length (r.handed ++ g ∷ [])) w.history is looked (knows_entered q g w h.enters).begins (λ _. h.enters.learned.knew_none))

    -- it was refused
    pub message_refused : (cause : EndCause) → HandsIn {T = T} limits event q w t.readings readings t.words words (Err cause) → IsRefused uid s (hand w t.left readings words (drop used t.unread) now)
    message_refused cause h =
        let g = event_given q.number h.moment h.word event in
        let on = look_learned event t.pass q t.watch now false looked in (
          g,
          inl
              (refused uid s t r q on w g readings words (drop used t.unread) now (r.messages ++ m ∷ []) [] h.enters.learned h.reading h.drawn
              (follow_next (s.unread ++ r.read) r.messages t.unread used m r.stream form) (due_event uid r.messages m event is)
              (one_more uid s t r q m event now (length r.handed) w.history is looked (knows_learned q w h.enters.learned).begins (λ has. absurd (omega (arith, has))))),
        )

  -- the end of the connection was entered
  pub depart_entered : (done : T) → HandsIn {T = T} limits Depart t.pass w t.readings readings t.words words (Ok done) → IsThrough uid s (hand w t.left readings words t.unread t.watch)
  depart_entered done h =
      let g = event_given t.pass.number h.moment h.word Depart in
      let many : length r.handed ≡ suc (length (map event_of r.messages)) = handed_length uid r.messages r.handed r.asks in
      entered uid s t r t.pass (inl refl) w g readings words t.unread t.watch r.messages (What.Of Depart ∷ []) h.enters h.reading h.drawn r.stream refl
      (watched_grown s.pass.number (length r.handed) t.pass.history (map event_of r.messages) (length (r.handed ++ g ∷ [])) w.history s.watch t.watch (knows_entered t.pass g w h.enters).begins (omega (arith, many)) r.watched)

  -- it was refused
  pub depart_refused : (cause : EndCause) → HandsIn {T = T} limits Depart t.pass w t.readings readings t.words words (Err cause) → IsRefused uid s (hand w t.left readings words t.unread t.watch)
  depart_refused cause h =
      let g = event_given t.pass.number h.moment h.word Depart in (
        g,
        inr
            (refused uid s t r t.pass (inl refl) w g readings words t.unread t.watch r.messages (What.Of Depart ∷ []) h.enters.learned h.reading h.drawn r.stream refl
            (watched_on s.pass.number (length r.handed) t.pass.history (map event_of r.messages) w.history s.watch t.watch (knows_learned t.pass w h.enters.learned).begins r.watched)),
      )

-- bytes were read
pub more_read : (uid : ℕ) (s t : Hand) (left : Option (List ℕ)) (more : List ℕ) → IsUnderway uid s t → Gave t.left left more → IsUnderway uid s (hand t.pass left t.readings t.words (t.unread ++ more) t.watch)
more_read uid s t left more r gave = record {
  knows = r.knows;
  read = r.read ++ more;
  gave = Gave-more s.left t.left left r.read more r.gave gave;
  messages = r.messages;
  stream = subst (λ (bytes : List ℕ). Follow bytes r.messages (t.unread ++ more)) (append_assoc s.unread r.read more) (follow_bytes (s.unread ++ r.read) r.messages t.unread more r.stream);
  handed = r.handed;
  did = r.did;
  asks = r.asks;
  readings = r.readings;
  words = r.words;
  watched = r.watched;
}

-- the look before the next message failed
pub look_failed : (uid : ℕ) (s t : Hand) (event : Event) (q : Known Item) (now : Option Watch) → IsUnderway uid s t → Looks event t.pass q t.watch now true → IsUnderway uid s (record t { pass = q; watch = now })
look_failed uid s t event q now r looked =
    let on : IsOn t.pass q = look_learned event t.pass q t.watch now true looked in
    let many : length r.handed ≡ suc (length (map event_of r.messages)) = handed_length uid r.messages r.handed r.asks in
    record {
      knows = knows_on s.pass t.pass q on r.knows;
      read = r.read;
      gave = r.gave;
      messages = r.messages;
      stream = r.stream;
      handed = r.handed;
      did = did_on s.pass.number t.pass q r.handed r.knows.number on r.did;
      asks = r.asks;
      readings = r.readings;
      words = r.words;
      watched = watched_failed s.pass.number (length r.handed) (map event_of r.messages) event t.pass q (omega (arith, many)) s.watch t.watch now r.watched looked;
    }
