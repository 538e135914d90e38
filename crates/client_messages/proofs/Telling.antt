-- What an answer that was written tells, and what a question asks.
use Rattle.std.proofs.Common.{◌≡◌, ℕ, ◌+◌, ◌<◌, ◌≤◌, ◌^◌, List, [], ◌∷◌, ◌++◌, map, length, Bool, true, false, ◌==◌, ◌||◌, Option, Some, None, refl, ap, ◌∙◌, arith, append_assoc, length-append}
use Rattle.std.proofs.lemmas.Bool.Decides.{nat_tests}
use Rattle.std.specs.Prelude.{if◌then◌else◌, is_some, codes, unwrap_or}
use Rattle.std.specs.Option.{option_map, option_map_or}
use Rattle.pk_types.specs.Text.{IsText, text_fault_of}
use Rattle.pk_types.specs.declared.text.TextFault.{TextFault}
use Rattle.pk_types.specs.declared.values.Identity.{Identity}
use Rattle.pk_types.specs.declared.values.Pair.{Pair}
use Rattle.dbus_values.specs.Basics.{gap}
use Rattle.dbus_values.specs.Next.{Seen}
use Rattle.dbus_values.specs.Parts.{Piece}
use Rattle.dbus_values.specs.Parts as part
use Rattle.dbus_values.specs.Trees.{Trees, none, pieces, all_pieces, padding, marshalled, all_marshalled}
use Rattle.dbus_values.specs.Trees as trees
use Rattle.dbus_values.specs.Form.{shown_of}
use Rattle.authority_model.specs.declared.load.Loaded.{Loaded}
use Rattle.authority_model.specs.declared.message.Answer.{Answer}
use Rattle.authority_model.specs.declared.message.Answer.TheVariants as told_by
use Rattle.authority_model.specs.declared.message.Message.TheVariants as message
use Rattle.authority_model.specs.declared.verdict.Cookie.{Cookie}
use Rattle.authority_model.specs.declared.verdict.Reason.{Reason}
use Rattle.authority_model.specs.declared.verdict.Verdict.{Verdict}
use Rattle.authority_model.specs.Causes.{error_name, error_text}
use Rattle.authority_model.specs.Cookies.{cookie_text}
use Rattle.authority_model.specs.Details.{decided_by, dismissed_detail, keep_detail, grant_detail, details_of}
use Rattle.authority_model.specs.Reasons.{reason_text}
use Rattle.authority_model.specs.Words.{Bytes}
use Rattle.authority_calls.specs.Arguments.{go_on, ◌>>=◌, given, part_as, as_leave, behind, many}
use Rattle.authority_calls.specs.Dictionaries.{next_pair}
use Rattle.authority_messages.specs.declared.replies.TheConstants.{LIMITS_EXCEEDED, TOO_LONG}
use Rattle.authority_messages.specs.Values.{row, struct, string, boolean, array, pairs as pairs_tree, identity}
use Rattle.authority_messages.specs.Outgoing.{under, return_to, error_to}
use Rattle.authority_messages.specs.Messages.{is_over, is_unspoken, too_long, answering, message_for, asking}
use Rattle.authority_messages.proofs.Causes.{name_plain}
use Rattle.authority_messages.proofs.Plain.{plain_text, grant_is_text, cookie_is_text}
use Rattle.client_messages.specs.declared.agent.AgentBegin.{AgentBegin}
use Rattle.client_messages.specs.declared.answer.ClientAnswer.{ClientAnswer}
use Rattle.client_messages.specs.declared.answer.ClientAnswer.TheVariants as answer
use Rattle.client_messages.specs.Agents.{question, begin_of}
use Rattle.client_messages.specs.Answers.{verdict, is_serial, replied, answer_of}
use Rattle.client_messages.specs.Told.{PairsInRange, GrantInRange, AnswerInRange, told, told_of}
use Rattle.client_messages.proofs.Reading.{after, text_ok, text_read, inside, many_read, behind_read}
use Rattle.client_messages.proofs.Understood.{dictionary_size, first_size, later_size, few_in}

-- ---- a reply to the call

same : (n : ℕ) → (n == n) ≡ true
same n = grind (arith, nat_tests)

picked : (m : Seen) (answered : ℕ) → m.reply_serial ≡ Some answered → answer_of answered m ≡ replied m
picked m answered is =
    ap (λ (o : Option ℕ). if is_serial answered o then replied m else answer.Other) is
    ∙ ap (λ (b : Bool). if b then replied m else answer.Other) (same answered)

error_told : (answered serial : ℕ) (name said : Bytes) → IsText name → answer_of answered (shown_of (under serial (error_to answered name said))) ≡ answer.ErrorNamed name
error_told answered serial name said is =
    picked (shown_of (under serial (error_to answered name said))) answered refl
    ∙ ap (λ (o : Option Bytes). answer.ErrorNamed (unwrap_or o [])) (text_ok name is)

abbrev pub judged : Option (ClientAnswer × List Piece) → ClientAnswer
judged r = option_map_or (λ x. x.0) r answer.Other

name_told : (answered serial : ℕ) (name : Bytes) → IsText name → answer_of answered (shown_of (under serial (return_to answered (string name ∷ [])))) ≡ answer.Name name
name_told answered serial name is =
    picked (shown_of (under serial (return_to answered (string name ∷ [])))) answered refl
    ∙ ap (λ r. judged (go_on (λ (bytes : Bytes). given (answer.Name bytes)) r)) (text_read name [] is)

-- ---- the details of a verdict

range_append : (ps qs : List Pair) → PairsInRange ps → PairsInRange qs → PairsInRange (ps ++ qs)
range_append [] qs first second = second
range_append (p ∷ ps) qs first second = (first.0, first.1, range_append ps qs first.2 second)

dismissed_range : (r : Reason) → PairsInRange (dismissed_detail r)
dismissed_range Reason.Root = tt
dismissed_range (Reason.Default category) = tt
dismissed_range (Reason.Entry place) = tt
dismissed_range (Reason.Grant id) = tt
dismissed_range (Reason.Imply id) = tt
dismissed_range Reason.Challenge = tt
dismissed_range Reason.Dismissed = (plain_text (codes "polkit.dismissed") refl, plain_text (codes "true") refl, tt)
dismissed_range Reason.AgentGone = tt
dismissed_range Reason.SubjectGone = tt
dismissed_range Reason.ActionGone = tt
dismissed_range Reason.IdentityGone = tt

keep_range : (b : Bool) → PairsInRange (keep_detail b)
keep_range true = (plain_text (codes "polkit.retains_authorization_after_challenge") refl, plain_text (codes "1") refl, tt)
keep_range false = tt

grant_range : (grant : Option ℕ) → GrantInRange grant → PairsInRange (grant_detail grant)
grant_range None range = tt
grant_range (Some n) range = (plain_text (codes "polkit.temporary_authorization_id") refl, grant_is_text n range, tt)

details_range : (v : Verdict) → PairsInRange v.pairs → GrantInRange v.grant → IsText (reason_text v.reason) → PairsInRange (details_of v)
details_range v pairs-in grant-in reason-is =
    let reason : PairsInRange (decided_by v.reason) = (plain_text (codes "polkit.decided-by") refl, reason-is, tt) in
    let a = range_append (decided_by v.reason) (dismissed_detail v.reason) reason (dismissed_range v.reason) in
    let b = range_append (decided_by v.reason ++ dismissed_detail v.reason) (keep_detail v.keep) a (keep_range v.keep) in
    let c = range_append (decided_by v.reason ++ dismissed_detail v.reason ++ keep_detail v.keep) (grant_detail v.grant) b (grant_range v.grant grant-in) in
    range_append (decided_by v.reason ++ dismissed_detail v.reason ++ keep_detail v.keep ++ grant_detail v.grant) v.pairs c pairs-in

spoken_text : (o : Option TextFault) → is_some o ≡ false → o ≡ None
spoken_text None e = refl
spoken_text (Some fault) e = absurd (cc)

-- ---- a verdict

pub struct_size : (big : Bool) (n : ℕ) (ts : Trees) → ((at : ℕ) → n ≤ length (all_marshalled big at ts)) → (at : ℕ) → n ≤ length (marshalled big at (trees.Struct ts))
struct_size big n ts le at = omega (arith, length-append (padding (gap 8 at)) (all_marshalled big (at + gap 8 at) ts), le (at + gap 8 at))

abbrev pub behind_pairs : List Piece → List Piece
behind_pairs xs = (((xs ++ part.Leave 97 ∷ []) ++ []) ++ part.Leave 40 ∷ []) ++ []

pub behind_is : (xs : List Piece) → behind_pairs xs ≡ xs ++ part.Leave 97 ∷ part.Leave 40 ∷ []
behind_is xs = simp append_assoc

abbrev pub whole : Bool → Bool → Option (List Pair × List Piece) → Option (ClientAnswer × List Piece)
whole is_yes challenge r = go_on (λ (details : List Pair). part_as as_leave >>= λ ends. given (answer.Verdict is_yes challenge details)) r

details_read : (is_yes challenge : Bool) (ds : List Pair) → length ds < 4294967296 → PairsInRange ds → whole is_yes challenge (many 4294967296 next_pair (behind_pairs (inside ds))) ≡ Some (answer.Verdict is_yes challenge ds, [])
details_read is_yes challenge ds few range =
    ap (λ (parts : List Piece). whole is_yes challenge (many 4294967296 next_pair parts)) (behind_is (inside ds))
    ∙ ap (whole is_yes challenge) (many_read 4294967296 ds (part.Leave 40 ∷ []) few range)

pub verdict_read : (is_yes challenge : Bool) (ds : List Pair) → length ds < 4294967296 → PairsInRange ds → verdict (all_pieces (row (struct (boolean is_yes ∷ boolean challenge ∷ pairs_tree ds ∷ []) ∷ []))) ≡ Some (answer.Verdict is_yes challenge ds, [])
unfolding verdict
verdict_read true true ds few range = details_read true true ds few range
verdict_read true false ds few range = details_read true false ds few range
verdict_read false true ds few range = details_read false true ds few range
verdict_read false false ds few range = details_read false false ds few range

verdict_told : (loads : List Loaded) (v : Verdict) (answered serial : ℕ) → AnswerInRange (told_by.Verdict v) → is_unspoken (told_by.Verdict v) ≡ false → is_over (answering loads answered (told_by.Verdict v)) ≡ false
    → answer_of answered (shown_of (under serial (answering loads answered (told_by.Verdict v)))) ≡ told (told_by.Verdict v)
verdict_told loads v answered serial range spoken fits =
    let ds = details_of v in
    let few : length ds < 4294967296 =
    few_in (answering loads answered (told_by.Verdict v)) (length ds)
    (first_size false (length ds) (struct (boolean v.yes ∷ boolean v.challenge ∷ pairs_tree ds ∷ [])) none
    (struct_size false (length ds) (row (boolean v.yes ∷ boolean v.challenge ∷ pairs_tree ds ∷ []))
    (later_size false (length ds) (boolean v.yes) (row (boolean v.challenge ∷ pairs_tree ds ∷ []))
    (later_size false (length ds) (boolean v.challenge) (row (pairs_tree ds ∷ []))
    (first_size false (length ds) (pairs_tree ds) none (dictionary_size false ds)))))) fits in
    picked (shown_of (under serial (answering loads answered (told_by.Verdict v)))) answered refl
    ∙ ap judged (verdict_read v.yes v.challenge ds few (details_range v range.0 range.1 (spoken_text (text_fault_of (reason_text v.reason)) spoken)))

-- ---- what an answer tells

whole_told : (loads : List Loaded) (said : Answer) (answered serial : ℕ) → AnswerInRange said → is_unspoken said ≡ false → is_over (answering loads answered said) ≡ false
    → answer_of answered (shown_of (under serial (answering loads answered said))) ≡ told said
whole_told loads (told_by.Verdict v) answered serial range spoken fits = verdict_told loads v answered serial range spoken fits
whole_told loads told_by.Done answered serial range spoken fits = picked (shown_of (under serial (return_to answered []))) answered refl
whole_told loads (told_by.Name name) answered serial range spoken fits = name_told answered serial name range
whole_told loads (told_by.Actions load locale) answered serial range spoken fits = picked (shown_of (under serial (answering loads answered (told_by.Actions load locale)))) answered refl
whole_told loads (told_by.Grants rows) answered serial range spoken fits = picked (shown_of (under serial (answering loads answered (told_by.Grants rows)))) answered refl
whole_told loads (told_by.Refused cause) answered serial range spoken fits = error_told answered serial (error_name cause) (error_text cause) (plain_text (error_name cause) (name_plain cause))

pub answer_told : (loads : List Loaded) (said : Answer) (answered serial : ℕ) → AnswerInRange said → answer_of answered (shown_of (under serial (message_for loads (message.Reply answered said)))) ≡ told_of loads answered said
answer_told loads said answered serial range = by (is_unspoken said) (is_over (answering loads answered said)) refl refl
  where
    cut : answer_of answered (shown_of (under serial (too_long answered))) ≡ answer.ErrorNamed LIMITS_EXCEEDED.now
    cut = error_told answered serial LIMITS_EXCEEDED.now TOO_LONG.now (plain_text LIMITS_EXCEEDED.now refl)

    by : (a b : Bool) → is_unspoken said ≡ a → is_over (answering loads answered said) ≡ b
        → answer_of answered (shown_of (under serial (if a then too_long answered else (if b then too_long answered else answering loads answered said)))) ≡ (if a || b then answer.ErrorNamed LIMITS_EXCEEDED.now else told said)
    by true b e f = cut
    by false true e f = cut
    by false false e f = whole_told loads said answered serial range e f

-- ---- a question

question_read : (serial : ℕ) (action shown icon : Bytes) (details : List Pair) (cookie : Bytes) (rest : List Piece) → IsText action → IsText cookie
    → question serial (part.Text 115 action ∷ part.Text 115 shown ∷ part.Text 115 icon ∷ (pieces (pairs_tree details) ++ part.Text 115 cookie ∷ rest)) ≡ Some (record { serial = serial; action = action; cookie = cookie }, rest)
unfolding question
question_read serial action shown icon details cookie rest action-is cookie-is =
    after _ _ (text_read action (part.Text 115 shown ∷ part.Text 115 icon ∷ (pieces (pairs_tree details) ++ part.Text 115 cookie ∷ rest)) action-is)
    (after _ _ (ap (behind 1) (append_assoc (inside details) (part.Leave 97 ∷ []) (part.Text 115 cookie ∷ rest)) ∙ behind_read details (part.Text 115 cookie ∷ rest))
    (after _ _ (text_read cookie rest cookie-is) refl))

asking_read : (path action shown icon : Bytes) (details : List Pair) (cookie : Cookie) (identities : List Identity) (serial : ℕ) → IsText action → cookie.serial < 2 ^ 64
    → begin_of (shown_of (under serial (asking path action shown icon details cookie identities))) ≡ Some (record { serial = serial; action = action; cookie = cookie_text cookie })
asking_read path action shown icon details cookie identities serial is small =
    ap (λ (o : Option (AgentBegin × List Piece)). option_map (λ x. x.0) o) (question_read serial action shown icon details (cookie_text cookie) (pieces (array (codes "(sa{sv})") (map identity identities)) ++ []) is (cookie_is_text cookie small))

pub question_asked : (loads : List Loaded) (path action shown icon : Bytes) (details : List Pair) (cookie : Cookie) (identities : List Identity) (serial : ℕ) → IsText action → cookie.serial < 2 ^ 64
    → begin_of (shown_of (under serial (message_for loads (message.Begin path action shown icon details cookie identities)))) ≡ Some (record { serial = serial; action = action; cookie = cookie_text cookie })
question_asked loads path action shown icon details cookie identities serial is small = by (is_over (asking path action shown icon details cookie identities))
  where
    by : (b : Bool) → begin_of (shown_of (under serial (if b then asking path action shown icon [] cookie [] else asking path action shown icon details cookie identities))) ≡ Some (record { serial = serial; action = action; cookie = cookie_text cookie })
    by true = asking_read path action shown icon [] cookie [] serial is small
    by false = asking_read path action shown icon details cookie identities serial is small
