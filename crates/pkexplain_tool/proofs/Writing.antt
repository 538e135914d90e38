-- What was written and what is ready, as more comes.
use Rattle.std.proofs.Common.{◌≡◌, ℕ, ◌+◌, ◌<◌, length, List, [], ◌∷◌, ◌++◌, Option, None, Some, option_map, replicate, slice_get, flat_map, take, drop, zero, suc, refl, sym, ap, ◌∙◌, subst, append_assoc, append-nil, get_or}
use Rattle.std.proofs.lemmas.Grind.{flat_map-append}
use Rattle.std.proofs.lemmas.List.{take-append-drop, take_more}
use Rattle.pk_outside.proofs.Written.{Got-more, Got-none}
use Rattle.pk_outside.specs.Streams.{Got, GotFront, GotUpTo}
use Rattle.authority_model.specs.declared.load.Loaded.{Loaded}
use Rattle.authority_model.specs.declared.world.User.{User}
use Rattle.authority_model.specs.Lists.{or_else}
use Rattle.authority_model.specs.Words.{Bytes}
use Rattle.pkexplain_tool.specs.Accounts.{AreFirsts, Notes, Tells}
use Rattle.pkexplain_tool.specs.Cases.{cases_of, cases_of_user, first_decided}
use Rattle.pkexplain_tool.specs.Lines.{Line, case_lines, text_of}
use Rattle.pkexplain_tool.specs.declared.account.Account.{Account}
use Rattle.pkexplain_tool.specs.declared.case.Case.{Case}
use Rattle.pkexplain_tool.proofs.Explaining.{case_lines_more, text_more}
use Rattle.pkexplain_tool.proofs.Firsts.{notes_more}

-- # Texts

-- nothing was written
pub up_to_none : (held : Option (List ℕ)) (text : Bytes) → GotUpTo held held text text
up_to_none held text = ([], refl, Got-none held)

-- nothing of the text was written
pub front_none : (held : Option (List ℕ)) (text : Bytes) → GotFront held held text
front_none held text = (text, up_to_none held text)

regrouped : (text written rest more : Bytes) → text ≡ written ++ rest → text ++ more ≡ written ++ (rest ++ more)
regrouped text written rest more e = ap (λ r. r ++ more) e ∙ append_assoc written rest more

joined : (text first ready more second rest : Bytes) → text ≡ first ++ ready → ready ++ more ≡ second ++ rest → text ++ more ≡ (first ++ second) ++ rest
joined text first ready more second rest e f = regrouped text first ready more e ∙ ap (λ r. first ++ r) f ∙ sym (append_assoc first second rest)

-- more was made ready behind what was, and some of it was written
pub up_to_more : (a b c : Option (List ℕ)) (text ready more rest : Bytes) → GotUpTo a b text ready → GotUpTo b c (ready ++ more) rest → GotUpTo a c (text ++ more) rest
up_to_more a b c text ready more rest p q = (p.0 ++ q.0, joined text p.0 ready more q.0 rest p.1 q.1, Got-more a b c p.0 q.0 p.2 q.2)

-- the same, where a write failed
pub front_more : (a b c : Option (List ℕ)) (text ready more : Bytes) → GotUpTo a b text ready → GotFront b c (ready ++ more) → GotFront a c (text ++ more)
front_more a b c text ready more p q = (q.0, up_to_more a b c text ready more q.0 p q.1)

-- the same, where all was written
pub got_more : (a b c : Option (List ℕ)) (text ready more : Bytes) → GotUpTo a b text ready → Got b c (ready ++ more) → Got a c (text ++ more)
got_more a b c text ready more p got = subst (λ (t : Bytes). Got a c t) (sym (regrouped text p.0 ready more p.1)) (Got-more a b c p.0 (ready ++ more) p.2 got)

-- a prefix of a text is one of a longer text
pub front_longer : (a b : Option (List ℕ)) (text more : Bytes) → GotFront a b text → GotFront a b (text ++ more)
front_longer a b text more p = (p.0 ++ more, (p.1.0, regrouped text p.1.0 p.0 more p.1.1, p.1.2))

-- # Cases

-- the text of cases
abbrev pub cases_text : Loaded → List Case → Bytes
cases_text loaded cases = text_of (case_lines loaded cases)

behind : (loaded : Loaded) (text : Bytes) (cases more : List Case) → (text ++ cases_text loaded cases) ++ cases_text loaded more ≡ text ++ cases_text loaded (cases ++ more)
behind loaded text cases more = append_assoc text (cases_text loaded cases) (cases_text loaded more) ∙ ap (λ r. text ++ r) (sym (case_lines_more loaded cases more))

-- some cases, and then more
pub tells_more : (loaded : Loaded) (cases more : List Case) (a b c : Account) (h i j : Option (List ℕ)) → Tells loaded cases a b h i → Tells loaded more b c i j → Tells loaded (cases ++ more) a c h j
tells_more loaded cases more a b c h i j first then = record {
  written = subst (λ (text : Bytes). GotUpTo h j text c.text.items) (behind loaded a.text.items cases more)
      (up_to_more h i j (a.text.items ++ cases_text loaded cases) b.text.items (cases_text loaded more) c.text.items first.written then.written);
  firsts = notes_more loaded cases more a.firsts b.firsts c.firsts first.firsts then.firsts;
}

-- some cases, and then more that were not told whole
pub tells_front : (loaded : Loaded) (cases more : List Case) (a b : Account) (h i j : Option (List ℕ)) → Tells loaded cases a b h i → GotFront i j (b.text.items ++ cases_text loaded more)
    → GotFront h j (a.text.items ++ cases_text loaded (cases ++ more))
tells_front loaded cases more a b h i j first then =
    subst (λ (text : Bytes). GotFront h j text) (behind loaded a.text.items cases more) (front_more h i j (a.text.items ++ cases_text loaded cases) b.text.items (cases_text loaded more) first.written then)

-- cases that were not told whole, and more
pub front_cases : (loaded : Loaded) (cases more : List Case) (text : Bytes) (h i : Option (List ℕ)) → GotFront h i (text ++ cases_text loaded cases) → GotFront h i (text ++ cases_text loaded (cases ++ more))
front_cases loaded cases more text h i front =
    subst (λ (t : Bytes). GotFront h i t) (behind loaded text cases more) (front_longer h i (text ++ cases_text loaded cases) (cases_text loaded more) front)

-- # Users

-- the cases of users
abbrev pub users_cases : Loaded → List User → List Case
users_cases loaded users = flat_map (cases_of_user loaded.policy) users

-- the cases of one user more
pub users_more : (loaded : Loaded) (users : List User) (i : ℕ) (user : User) → i < length users → user ≡ get_or users i user
    → users_cases loaded (take (i + 1) users) ≡ users_cases loaded (take i users) ++ cases_of_user loaded.policy user
users_more loaded users i user lt is =
    ap (users_cases loaded) (take_more users i user lt ∙ ap (λ (u : User). take i users ++ u ∷ []) (sym is))
    ∙ flat_map-append (cases_of_user loaded.policy) (take i users) (user ∷ [])
    ∙ ap (λ (r : List Case). users_cases loaded (take i users) ++ r) (append-nil (cases_of_user loaded.policy user))

-- the first users, one more, and the others
pub users_split : (loaded : Loaded) (users : List User) (i : ℕ) (user : User) → i < length users → user ≡ get_or users i user
    → (users_cases loaded (take i users) ++ cases_of_user loaded.policy user) ++ users_cases loaded (drop (i + 1) users) ≡ users_cases loaded users
users_split loaded users i user lt is =
    ap (λ (r : List Case). r ++ users_cases loaded (drop (i + 1) users)) (sym (users_more loaded users i user lt is))
    ∙ sym (flat_map-append (cases_of_user loaded.policy) (take (i + 1) users) (drop (i + 1) users))
    ∙ ap (users_cases loaded) (take-append-drop (i + 1) users)

-- a user that was not told whole ends it
pub users_front : (loaded : Loaded) (users : List User) (i : ℕ) (user : User) (a b : Account) (h j k : Option (List ℕ)) → i < length users → user ≡ get_or users i user
    → Tells loaded (users_cases loaded (take i users)) a b h j → GotFront j k (b.text.items ++ cases_text loaded (cases_of_user loaded.policy user))
    → GotFront h k (a.text.items ++ cases_text loaded (users_cases loaded users))
users_front loaded users i user a b h j k lt is told front =
    subst (λ (cases : List Case). GotFront h k (a.text.items ++ cases_text loaded cases)) (users_split loaded users i user lt is)
    (front_cases loaded (users_cases loaded (take i users) ++ cases_of_user loaded.policy user) (users_cases loaded (drop (i + 1) users)) a.text.items h k
    (tells_front loaded (users_cases loaded (take i users)) (cases_of_user loaded.policy user) a b h j k told front))

-- one user more was told
pub users_told : (loaded : Loaded) (users : List User) (i : ℕ) (user : User) (a b c : Account) (h j k : Option (List ℕ)) → i < length users → user ≡ get_or users i user
    → Tells loaded (users_cases loaded (take i users)) a b h j → Tells loaded (cases_of_user loaded.policy user) b c j k → Tells loaded (users_cases loaded (take (i + 1) users)) a c h k
users_told loaded users i user a b c h j k lt is told then =
    subst (λ (cases : List Case). Tells loaded cases a c h k) (sym (users_more loaded users i user lt is))
    (tells_more loaded (users_cases loaded (take i users)) (cases_of_user loaded.policy user) a b c h j k told then)

-- # Rules

abbrev no_case : Option Case
no_case = None

none_at : {A : Type 0} (xs : List A) (p : ℕ) → slice_get (replicate (length xs) no_case) p ≡ option_map (λ _. no_case) (slice_get xs p)
none_at [] p = refl
none_at (x ∷ xs) zero = refl
none_at (x ∷ xs) (suc p) = none_at xs p

first_of_none : {A B : Type 0} (o : Option A) (found : Option B) → option_map (λ first. or_else first found) (option_map (λ _. None) o) ≡ option_map (λ _. found) o
first_of_none None found = refl
first_of_none (Some x) found = refl

-- after all cases each rule has the first that it decides
pub are_firsts : (loaded : Loaded) (before now : List (Option Case)) → before ≡ replicate (length loaded.policy.entries) None → Notes (first_decided loaded (cases_of loaded)) before now → AreFirsts loaded now
are_firsts loaded before now none notes p =
    notes p ∙ ap (λ (xs : List (Option Case)). option_map (λ first. or_else first (first_decided loaded (cases_of loaded) p)) (slice_get xs p)) none
    ∙ ap (option_map (λ first. or_else first (first_decided loaded (cases_of loaded) p))) (none_at loaded.policy.entries p)
    ∙ first_of_none (slice_get loaded.policy.entries p) (first_decided loaded (cases_of loaded) p)

lines_behind : (text : Bytes) (lines more : List Line) → (text ++ text_of lines) ++ text_of more ≡ text ++ text_of (lines ++ more)
lines_behind text lines more = append_assoc text (text_of lines) (text_of more) ∙ ap (λ r. text ++ r) (sym (text_more lines more))

-- the cases were told, and the rest not whole
pub book_front : (text ready : Bytes) (lines more : List Line) (h i j : Option (List ℕ)) → GotUpTo h i (text ++ text_of lines) ready → GotFront i j (ready ++ text_of more) → GotFront h j (text ++ text_of (lines ++ more))
book_front text ready lines more h i j told front = subst (λ (t : Bytes). GotFront h j t) (lines_behind text lines more) (front_more h i j (text ++ text_of lines) ready (text_of more) told front)

-- the cases were not told whole
pub book_cut : (text : Bytes) (lines more : List Line) (h i : Option (List ℕ)) → GotFront h i (text ++ text_of lines) → GotFront h i (text ++ text_of (lines ++ more))
book_cut text lines more h i front = subst (λ (t : Bytes). GotFront h i t) (lines_behind text lines more) (front_longer h i (text ++ text_of lines) (text_of more) front)
