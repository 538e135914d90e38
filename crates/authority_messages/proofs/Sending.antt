-- The calls to an agent and the signal, of which none is too long.
use Rattle.std.proofs.Common.{◌≡◌, ℕ, ◌+◌, ◌<◌, ◌≤◌, ◌^◌, List, [], ◌∷◌, length, Bool, true, false, refl, ap, ◌∙◌, lit<, lit≤}
use Rattle.std.specs.Prelude.{codes, if◌then◌else◌}
use Rattle.pk_types.specs.Text.{IsText}
use Rattle.dbus_values.specs.Basics.{is_path}
use Rattle.dbus_values.specs.Trees.{Tree, none, AllFit}
use Rattle.dbus_values.specs.Trees as trees
use Rattle.dbus_values.specs.Form.{Field}
use Rattle.authority_model.specs.declared.verdict.Cookie.{Cookie}
use Rattle.authority_model.specs.Cookies.{cookie_text}
use Rattle.authority_model.specs.Words.{Bytes}
use Rattle.authority_calls.specs.declared.methods.TheConstants.{AUTHORITY, AUTHORITY_PATH}
use Rattle.authority_messages.specs.declared.calls.TheConstants.{AGENT}
use Rattle.authority_messages.specs.declared.replies.TheConstants.{LIMITS_EXCEEDED, TOO_LONG}
use Rattle.authority_messages.specs.Values.{string, pairs, array, row}
use Rattle.authority_messages.specs.Outgoing.{under, call_at, MayBeSent, IsSent}
use Rattle.authority_messages.specs.Messages.{agent_path, cancel, changed, too_long, asking}
use Rattle.authority_messages.proofs.Plain.{plain_text, text_length}
use Rattle.authority_messages.proofs.Building.{string_fits}
use Rattle.authority_messages.proofs.Signatures.{s_sig}
use Rattle.authority_messages.proofs.Sent.{call_is, signal_is, error_is}
use Rattle.authority_messages.proofs.Bounds.{FieldsWithin, string_within, empty_within, none_within, more_within, fields_none, string_field, path_field, number_field, signature_field, message_within}

path_text_by : (p : Bytes) (b : Bool) → IsText p → IsText (if b then p else codes "/")
path_text_by p true is = is
path_text_by p false is = plain_text (codes "/") refl

pub path_text : (p : Bytes) → IsText p → IsText (agent_path p)
path_text p is = path_text_by p (is_path p) is

path_form_by : (p : Bytes) (b : Bool) → is_path p ≡ b → is_path (if b then p else codes "/") ≡ true
path_form_by p true is = is
path_form_by p false is = refl

pub path_form : (p : Bytes) → is_path (agent_path p) ≡ true
path_form p = path_form_by p (is_path p) refl

pub call_same : (flags : ℕ) (p p' i i' m m' : Bytes) (ts ts' : List Tree) → p ≡ p' → i ≡ i' → m ≡ m' → ts ≡ ts' → call_at flags p i m ts ≡ call_at flags p' i' m' ts'
call_same flags p p' i i' m m' ts ts' a b c d =
    ap (λ (x : Bytes). call_at flags x i m ts) a ∙ ap (λ (x : Bytes). call_at flags p' x m ts) b ∙ ap (λ (x : Bytes). call_at flags p' i' x ts) c ∙ ap (λ (x : List Tree). call_at flags p' i' m' x) d

-- the fields of a member
pub members_within : (path interface member : Bytes) (rest : List Field) (m : ℕ) → length path ≤ 65535 → length interface ≤ 64 → length member ≤ 32 → FieldsWithin m rest
    → FieldsWithin (65554 + (83 + (51 + m))) (record { code = 1; value = trees.Text 111 path } ∷ record { code = 2; value = trees.Text 115 interface } ∷ record { code = 3; value = trees.Text 115 member } ∷ rest)
members_within path interface member rest m path-short interface-short member-short within =
    path_field 65535 (83 + (51 + m)) path (record { code = 2; value = trees.Text 115 interface } ∷ record { code = 3; value = trees.Text 115 member } ∷ rest) path-short
    (string_field 64 (51 + m) 2 interface (record { code = 3; value = trees.Text 115 member } ∷ rest) interface-short
    (string_field 32 m 3 member rest member-short within))

pub sig_within : (sig : Bytes) (n : ℕ) → length sig ≤ n → FieldsWithin (n + 13 + 0) (record { code = 8; value = trees.Text 103 sig } ∷ [])
sig_within sig n le = signature_field n 0 sig [] le fields_none

pub cancel_sent : (path : Bytes) (cookie : Cookie) → IsText path → IsText (cookie_text cookie) → length (cookie_text cookie) ≤ 53 → IsSent (cancel path cookie)
cancel_sent path cookie path-is cookie-is short serial some small =
    let long : length (agent_path path) ≤ 65535 = text_length (agent_path path) (path_text path path-is) in
    let fit : AllFit 64 (row (string (cookie_text cookie) ∷ [])) = (string_fits false 64 (cookie_text cookie) cookie-is, tt) in
    call_is 1 (agent_path path) AGENT.now (codes "CancelAuthentication") (string (cookie_text cookie) ∷ []) (lit< tt) (path_text path path-is) (path_form path) (plain_text AGENT.now refl) (plain_text (codes "CancelAuthentication") refl) s_sig fit serial some small
    (message_within (under serial (cancel path cookie)) (65554 + (83 + (51 + 14))) 61
    (members_within (agent_path path) AGENT.now (codes "CancelAuthentication") (record { code = 8; value = trees.Text 103 (codes "s") } ∷ []) 14 long (lit≤ tt) (lit≤ tt) (sig_within (codes "s") 1 (lit≤ tt)))
    (more_within 61 0 (string (cookie_text cookie)) none (string_within (cookie_text cookie) 53 short) none_within)
    (lit≤ tt))

pub changed_sent : IsSent changed
changed_sent serial some small =
    signal_is AUTHORITY_PATH.now AUTHORITY.now (codes "Changed") (plain_text AUTHORITY_PATH.now refl) refl (plain_text AUTHORITY.now refl) (plain_text (codes "Changed") refl) serial some small
    (message_within (under serial changed) (65554 + (83 + (51 + 0))) 0
    (members_within AUTHORITY_PATH.now AUTHORITY.now (codes "Changed") [] 0 (lit≤ tt) (lit≤ tt) (lit≤ tt) fields_none)
    none_within
    (lit≤ tt))

-- the error in place of a reply that is too long
pub error_fields_within : (answered : ℕ) (name : Bytes) → length name ≤ 64
    → FieldsWithin (83 + (18 + 14)) (record { code = 4; value = trees.Text 115 name } ∷ record { code = 5; value = trees.Number 117 answered } ∷ record { code = 8; value = trees.Text 103 (codes "s") } ∷ [])
error_fields_within answered name short =
    string_field 64 (18 + 14) 4 name (record { code = 5; value = trees.Number 117 answered } ∷ record { code = 8; value = trees.Text 103 (codes "s") } ∷ []) short
    (number_field 14 answered (record { code = 8; value = trees.Text 103 (codes "s") } ∷ []) (sig_within (codes "s") 1 (lit≤ tt)))

pub too_long_sent : (answered : ℕ) → 0 < answered → answered < 2 ^ 32 → IsSent (too_long answered)
too_long_sent answered low high serial some small =
    error_is answered LIMITS_EXCEEDED.now TOO_LONG.now low high (plain_text LIMITS_EXCEEDED.now refl) (plain_text TOO_LONG.now refl) serial some small
    (message_within (under serial (too_long answered)) (83 + (18 + 14)) 72
    (error_fields_within answered LIMITS_EXCEEDED.now (lit≤ tt))
    (more_within 72 0 (string TOO_LONG.now) none (string_within TOO_LONG.now 64 (lit≤ tt)) none_within)
    (lit≤ tt))

-- BeginAuthentication without details and identities
pub begin_sent : (path action text icon : Bytes) (cookie : Cookie) → IsText path → IsText action → IsText text → IsText icon → IsText (cookie_text cookie) → length (cookie_text cookie) ≤ 53
    → MayBeSent (asking path action text icon [] cookie []) → IsSent (asking path action text icon [] cookie [])
begin_sent path action text icon cookie path-is action-is text-is icon-is cookie-is short may serial some small =
    let long : length (agent_path path) ≤ 65535 = text_length (agent_path path) (path_text path path-is) in
    may serial some small
    (message_within (under serial (asking path action text icon [] cookie [])) (65554 + (83 + (51 + 45))) (65543 + (65543 + (65543 + (14 + (61 + (14 + 0))))))
    (members_within (agent_path path) AGENT.now (codes "BeginAuthentication") (record { code = 8; value = trees.Text 103 (codes "sssa{ss}sa(sa{sv})") } ∷ []) 45 long (lit≤ tt) (lit≤ tt) (sig_within (codes "sssa{ss}sa(sa{sv})") 32 (lit≤ tt)))
    (more_within 65543 (65543 + (65543 + (14 + (61 + (14 + 0))))) (string action) (row (string text ∷ string icon ∷ pairs [] ∷ string (cookie_text cookie) ∷ array (codes "(sa{sv})") [] ∷ [])) (string_within action 65535 (text_length action action-is))
    (more_within 65543 (65543 + (14 + (61 + (14 + 0)))) (string text) (row (string icon ∷ pairs [] ∷ string (cookie_text cookie) ∷ array (codes "(sa{sv})") [] ∷ [])) (string_within text 65535 (text_length text text-is))
    (more_within 65543 (14 + (61 + (14 + 0))) (string icon) (row (pairs [] ∷ string (cookie_text cookie) ∷ array (codes "(sa{sv})") [] ∷ [])) (string_within icon 65535 (text_length icon icon-is))
    (more_within 14 (61 + (14 + 0)) (pairs []) (row (string (cookie_text cookie) ∷ array (codes "(sa{sv})") [] ∷ [])) (empty_within (codes "{ss}") refl)
    (more_within 61 (14 + 0) (string (cookie_text cookie)) (row (array (codes "(sa{sv})") [] ∷ [])) (string_within (cookie_text cookie) 53 short)
    (more_within 14 0 (array (codes "(sa{sv})") []) none (empty_within (codes "(sa{sv})") refl) none_within))))))
    (lit≤ tt))
