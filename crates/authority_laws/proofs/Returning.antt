-- What the verdict on a return rests on.
use Rattle.std.proofs.Common.{◌≡◌, ℕ, ◌==◌, true, ◌&&◌, List, refl, ap, sym, ◌∙◌, inl, inr, Some, ◌⊎◌, subst}
use Rattle.std.proofs.lemmas.Bool.Decides.{Decides-eqb}
use Rattle.std.specs.Prelude.{find, bytes_eq}
use Rattle.pk_types.specs.declared.values.Identity.{Identity}
use Rattle.pk_types.specs.declared.values.Implicit.{Implicit}
use Rattle.authority_model.specs.declared.key.Key.{Key}
use Rattle.authority_model.specs.declared.verdict.Reason.{Reason}
use Rattle.authority_model.specs.declared.verdict.RuleSource.{RuleSource}
use Rattle.authority_model.specs.declared.verdict.Verdict.{Verdict}
use Rattle.authority_model.specs.declared.world.World.{World}
use Rattle.authority_model.specs.declared.world.Process.{Process as ProcessRow}
use Rattle.authority_model.specs.declared.world.Session.{Session as SessionRow}
use Rattle.authority_model.specs.Words.{Bytes}
use Rattle.authority_model.specs.Lists.{any_of, when}
use Rattle.authority_model.specs.Values.{same_identity, is_keep}
use Rattle.authority_model.specs.Keys.{uid_of_key}
use Rattle.authority_model.specs.Facts.{Facts, facts_of_key, facts_of_process, facts_of_session}
use Rattle.authority_model.specs.Admins.{allowed}
use Rattle.authority_model.specs.declared.journal.Item.{Item}
use Rattle.authority_model.specs.Items.{world_of, policy_of, implicit_for}
use Rattle.authority_model.specs.Grants.{kept}
use Rattle.authority_model.specs.Deciding.{Decision, decided, decision_for, decision_of}
use Rattle.authority_model.specs.Verdicts.{granted_by, no_by, may_answer, redecided}
use Rattle.authority_model.specs.Licensed.{Permits, MayAnswer}
use Rattle.authority_model.proofs.Cases.{by_test, both, map_some, then_some, find_has}
use Rattle.authority_laws.proofs.Deciding.{Backed, decided_backed, backed_verdict}

-- a reason permits now, or the identity may answer now
abbrev pub PermitsNow : List Item → Facts → Bytes → ℕ → Identity → Reason → Type 0
PermitsNow past f a t identity reason = Permits past f a t reason ⊎ ((reason ≡ Reason.Challenge) × MayAnswer past f a identity)

-- the uid in a key is that of its facts
key_uid : (world : World) (key : Key) (f : Facts) → facts_of_key world key ≡ Some f → f.uid ≡ uid_of_key key
key_uid world (Key.Process pid start uid) f e =
    let row = map_some (facts_of_process world) (find (λ (p : ProcessRow). (p.pid == pid) && (p.start == start) && (p.uid == uid)) world.processes) f e in
    let found = find_has (λ (p : ProcessRow). (p.pid == pid) && (p.start == start) && (p.uid == uid)) world.processes row.0 row.1 in
    let parts = both ((row.0.pid == pid) && (row.0.start == start)) (row.0.uid == uid) found.1 in
    sym (ap (λ (f : Facts). f.uid) row.2) ∙ (Decides-eqb row.0.uid uid).0 parts.1
key_uid world (Key.Session id uid) f e =
    let row = map_some facts_of_session (find (λ (s : SessionRow). bytes_eq s.id id && (s.uid == uid)) world.sessions) f e in
    let found = find_has (λ (s : SessionRow). bytes_eq s.id id && (s.uid == uid)) world.sessions row.0 row.1 in
    let parts = both (bytes_eq row.0.id id) (row.0.uid == uid) found.1 in
    sym (ap (λ (f : Facts). f.uid) row.2) ∙ (Decides-eqb row.0.uid uid).0 parts.1

-- a yes by the decision taken again is permitted now
pub redecided_backed : (past : List Item) (n t : ℕ) (key : Key) (a : Bytes) (identity : Identity) (d : Decision) → decision_of past (kept past) t key a ≡ Some d → (redecided past n key identity d).yes ≡ true
    → (f : Facts) × (facts_of_key (world_of past) key ≡ Some f) × PermitsNow past f a t identity (redecided past n key identity d).reason
redecided_backed past n t key a identity d e =
    let f = then_some (λ f. decision_for past (kept past) f t a) (facts_of_key (world_of past) key) d e in
    let v = map_some (decided past (kept past) f.0 t a) (implicit_for past f.0 a) d f.2 in
    let rests : Backed past f.0 a t d = subst (Backed past f.0 a t) v.2 (decided_backed past f.0 t a v.0 v.1) in
    λ ok. (f.0, f.1, of f.0 (key_uid (world_of past) key f.0 f.1) d rests ok)
  where
    challenge : (f : Facts) → f.uid ≡ uid_of_key key → (value : Implicit) (source : RuleSource) → Backed past f a t (Decision.Challenge value source)
        → (redecided past n key identity (Decision.Challenge value source)).yes ≡ true → PermitsNow past f a t identity (redecided past n key identity (Decision.Challenge value source)).reason
    challenge f uid value source h = by_test (λ (v : Verdict). v.yes ≡ true → PermitsNow past f a t identity v.reason) (may_answer past value (uid_of_key key) identity) (granted_by (when (is_keep value) n)) (no_by Reason.IdentityGone)
        (λ may ok. inr (refl, record { value = value; source = source; value_is = h.0; auth = h.1; may_answer = ap (λ u. any_of (same_identity identity) (allowed (world_of past) (policy_of past).admins value u)) uid ∙ may }))
        (λ _ ok. absurd (cc))

    of : (f : Facts) → f.uid ≡ uid_of_key key → (d : Decision) → Backed past f a t d → (redecided past n key identity d).yes ≡ true → PermitsNow past f a t identity (redecided past n key identity d).reason
    of f uid Decision.Root h ok = inl (backed_verdict past f a t Decision.Root h ok)
    of f uid (Decision.Yes source) h ok = inl (backed_verdict past f a t (Decision.Yes source) h ok)
    of f uid (Decision.Granted g) h ok = inl (backed_verdict past f a t (Decision.Granted g) h ok)
    of f uid (Decision.Imply b) h ok = inl (backed_verdict past f a t (Decision.Imply b) h ok)
    of f uid (Decision.No source) h ok = inl (backed_verdict past f a t (Decision.No source) h ok)
    of f uid (Decision.Challenge value source) h ok = challenge f uid value source h ok
