-- One challenge more, and one more thing that the helper is asked.
use Rattle.std.proofs.Common.{◌≡◌, ℕ, ◌+◌, ◌≤◌, List, [], ◌∷◌, ◌++◌, length, map, Option, Some, None, refl, ap, sym, ◌∙◌, append_assoc, append-nil, arith, length-append}
use Rattle.std.specs.List.{filter_map, flat_map, cons_option}
use Rattle.std.specs.Option.{option_to_list}
use Rattle.std.proofs.lemmas.List.{map-append}
use Rattle.std.proofs.lemmas.List.Elements.{filter_map-append}
use Rattle.std.proofs.lemmas.Grind.{flat_map-append}
use Rattle.dbus_values.specs.Next.{Seen}
use Rattle.agent_rules.specs.declared.line.Rule.{Rule}
use Rattle.agent_rules.specs.Rules.{handling_for}
use Rattle.script_agent.specs.Challenges.{Challenge, Ask, ask_of, asks_of, ask_bytes, asks_from, reply_bytes, replies_from, line_of, lines_of}
use Rattle.script_agent.specs.Stories.{AreReplies, AreRepliesBut, AreByRules, begins_of}
use Rattle.script_agent.specs.Waits.{first_of, refusal_of}
use Rattle.script_agent.proofs.Firsts.{first_of-none, first_of-some}

pub replies_from-last : (serial : ℕ) (met : List Challenge) (c : Challenge) (n : ℕ) → n ≡ serial + length met → replies_from serial (met ++ c ∷ []) ≡ replies_from serial met ++ reply_bytes n c
replies_from-last serial [] c n e = append-nil (reply_bytes serial c) ∙ ap (λ k. reply_bytes k c) (omega (arith, e))
replies_from-last serial (d ∷ met) c n e =
    ap (λ bytes. reply_bytes serial d ++ bytes) (replies_from-last (serial + 1) met c n (omega (arith, e)))
    ∙ sym (append_assoc (reply_bytes serial d) (replies_from (serial + 1) met) (reply_bytes n c))

pub asks_from-last : (serial : ℕ) (asks : List Ask) (a : Ask) (n : ℕ) → n ≡ serial + length asks → asks_from serial (asks ++ a ∷ []) ≡ asks_from serial asks ++ ask_bytes n a
asks_from-last serial [] a n e = append-nil (ask_bytes serial a) ∙ ap (λ k. ask_bytes k a) (omega (arith, e))
asks_from-last serial (b ∷ asks) a n e =
    ap (λ bytes. ask_bytes serial b ++ bytes) (asks_from-last (serial + 1) asks a n (omega (arith, e)))
    ∙ sym (append_assoc (ask_bytes serial b) (asks_from (serial + 1) asks) (ask_bytes n a))

pub lines_of-last : (met : List Challenge) (c : Challenge) → lines_of (met ++ c ∷ []) ≡ lines_of met ++ line_of c
lines_of-last met c = flat_map-append line_of met (c ∷ []) ∙ ap (λ bytes. lines_of met ++ bytes) (append-nil (line_of c))

pub asks_of-last : (met : List Challenge) (c : Challenge) → asks_of (met ++ c ∷ []) ≡ asks_of met ++ option_to_list (ask_of c)
asks_of-last met c = filter_map-append ask_of met (c ∷ []) ∙ ap (λ asks. asks_of met ++ asks) (one (ask_of c))
  where
    one : (o : Option Ask) → cons_option o [] ≡ option_to_list o
    one None = refl
    one (Some a) = refl

pub begins_of-last : (met : List Challenge) (c : Challenge) → begins_of (met ++ c ∷ []) ≡ begins_of met ++ c.begin ∷ []
begins_of-last met c = map-append (λ (d : Challenge). d.begin) met (c ∷ [])

pub by_rules_last : (rules : List Rule) (met : List Challenge) (c : Challenge) → AreByRules rules met → c.handling ≡ handling_for rules c.begin.action → AreByRules rules (met ++ c ∷ [])
by_rules_last rules [] c by last = (last, tt)
by_rules_last rules (d ∷ met) c by last = (by.0, by_rules_last rules met c by.1 last)

-- not more is asked than met
pub length-asks_of : (met : List Challenge) → length (asks_of met) ≤ length met
length-asks_of [] = omega arith
length-asks_of (c ∷ met) = go (ask_of c) (length-asks_of met)
  where
    go : (o : Option Ask) → length (asks_of met) ≤ length met → length (cons_option o (asks_of met)) ≤ length (c ∷ met)
    go None h = omega arith
    go (Some a) h = omega arith

-- the last reply
pub replies_last : (serial : ℕ) (asks : List Ask) (a : Ask) (messages more : List Seen) (n : ℕ) → n ≡ serial + length asks → AreReplies serial asks messages
    → first_of (refusal_of n) more ≡ Some (a.refused, []) → AreReplies serial (asks ++ a ∷ []) (messages ++ more)
replies_last serial [] a messages more n e none h = ([], first messages none, refl)
  where
    at : first_of (refusal_of serial) more ≡ Some (a.refused, [])
    at = let same : n ≡ serial = omega (arith, e) in rw (← same) h

    first : (ms : List Seen) → ms ≡ [] → first_of (refusal_of serial) (ms ++ more) ≡ Some (a.refused, [])
    first ms is = rw is at
replies_last serial (b ∷ asks) a messages more n e replies h =
    (replies.0 ++ more, first_of-some (refusal_of serial) messages more b.refused replies.0 replies.1, replies_last (serial + 1) asks a replies.0 more n (omega (arith, e)) replies.2 h)

-- the last reply lacks
pub replies_but_last : (serial : ℕ) (asks : List Ask) (messages more : List Seen) (n : ℕ) → n ≡ serial + length asks → AreReplies serial asks messages
    → first_of (refusal_of n) more ≡ None → AreRepliesBut serial asks (messages ++ more)
replies_but_last serial [] messages more n e none h = first messages none
  where
    at : first_of (refusal_of serial) more ≡ None
    at = let same : n ≡ serial = omega (arith, e) in rw (← same) h

    first : (ms : List Seen) → ms ≡ [] → first_of (refusal_of serial) (ms ++ more) ≡ None
    first ms is = rw is at
replies_but_last serial (b ∷ asks) messages more n e replies h =
    (replies.0 ++ more, first_of-some (refusal_of serial) messages more b.refused replies.0 replies.1, replies_but_last (serial + 1) asks replies.0 more n (omega (arith, e)) replies.2 h)
