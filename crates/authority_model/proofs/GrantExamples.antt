-- Grants, and actions that imply others.
use Rattle.std.proofs.Common.{ℕ, List, [], ◌∷◌, ◌++◌, refl, Some}
use Rattle.std.specs.Prelude.{codes}
use Rattle.std.specs.Fmt.{digits}
use Rattle.pk_types.specs.declared.values.Subject.{Subject}
use Rattle.pk_types.specs.declared.values.Implicit.{Implicit}
use Rattle.pk_types.specs.declared.values.Category.{Category}
use Rattle.authority_model.specs.declared.event.Call.{Call}
use Rattle.authority_model.specs.declared.message.ErrorCause.{ErrorCause}
use Rattle.authority_model.specs.declared.message.Answer.{Answer}
use Rattle.authority_model.specs.declared.message.Output.{Output}
use Rattle.authority_model.specs.declared.key.Key.{Key}
use Rattle.authority_model.specs.declared.verdict.Reason.{Reason}
use Rattle.authority_model.specs.declared.load.Loaded.{Loaded}
use Rattle.authority_model.specs.declared.policy.Action.{Action}
use Rattle.authority_model.specs.Words.{Bytes}
use Rattle.authority_model.specs.Cookies.{hex}
use Rattle.authority_model.proofs.Setup.{Line, Shown, peers_of, with_grant, asked_at, setup, load_of, other_actions, other_processes, in_s1, a_self, action, annotated, process, check, return, call, load, done, refused, to, challenge, yes, yes_granted, keep_challenge, changed_1_to_4}

-- a challenge of a keep value makes a grant
answered_challenge_makes_grant : Shown with_grant
unfolding hex digits
answered_challenge_makes_grant = refl

-- a grant of 50 is live at 349, and over at 350
grant_ends_at_its_moment : Shown (with_grant ++ check 349 2 (codes "a.self") (yes 1 2 (Reason.Grant 0)) ∷ check 350 3 (codes "a.self") (keep_challenge 1 3) ∷ [])
unfolding hex digits
grant_ends_at_its_moment = refl

-- the greatest moment handed in so far counts, so what is over stays over
moment_never_falls : Shown (with_grant ++ check 400 2 (codes "a.self") (keep_challenge 1 2) ∷ check 100 3 (codes "a.self") (keep_challenge 1 3) ∷ [])
unfolding hex digits
moment_never_falls = refl

-- an action that implies another
abbrev implying : Bytes → Bytes → Implicit → Implicit → Implicit → Action
implying id other any inactive active = annotated id any inactive active (record { key = codes "org.freedesktop.policykit.imply"; value = other } ∷ [])

-- i.c implies i.b, and i.b implies i.a
abbrev chained : Loaded
chained = load_of (a_self ∷ action (codes "i.a") Implicit.AuthAdmin Implicit.AuthAdmin Implicit.AuthAdmin ∷ implying (codes "i.b") (codes "i.a") Implicit.AuthAdmin Implicit.AuthAdmin Implicit.AuthAdmin ∷ implying (codes "i.c") (codes "i.b") Implicit.No Implicit.No Implicit.AuthSelfKeep ∷ other_actions) [] (in_s1 ∷ other_processes)

-- with a grant for i.c, i.b is yes by i.c, and i.a is not, since i.b is only implied
imply_goes_one_level : Shown (peers_of chained ++ asked_at 50 (codes "i.c")
    ++ return 50 2 (yes_granted 1 1 (Some 0) ++ changed_1_to_4)
    ∷ check 50 2 (codes "i.a") (challenge 1 2 Category.Active)
    ∷ check 50 3 (codes "i.b") (yes 1 3 (Reason.Imply (codes "i.c"))) ∷ [])
unfolding hex digits
imply_goes_one_level = refl

-- A grant ends with its subject, and does not come back with it. A process of the same pid and another start is another one.
grant_ends_with_its_subject : Shown (with_grant
    ++ load 50 (load_of (a_self ∷ other_actions) [] other_processes) changed_1_to_4
    ∷ check 50 2 (codes "a.self") (refused 1 2 ErrorCause.UnknownSubject)
    ∷ load 50 setup changed_1_to_4
    ∷ check 50 3 (codes "a.self") (keep_challenge 1 3)
    ∷ load 50 (load_of (a_self ∷ other_actions) [] (process 50 8 1000 (Some (codes "s1")) ∷ other_processes)) changed_1_to_4
    ∷ check 50 4 (codes "a.self") (refused 1 4 ErrorCause.UnknownSubject) ∷ [])
unfolding hex digits
grant_ends_with_its_subject = refl

-- the grants of alice's process are asked for
abbrev grants_call : ℕ → List Output → Line
grants_call serial outputs = call 50 1 serial (Call.EnumerateGrants (Subject.Process 50 7)) outputs

-- a grant is listed and revoked by its user alone
grants_listed_and_revoked : Shown (with_grant
    ++ grants_call 2 (to 1 2 (Answer.Grants (record { id = 0; action = codes "a.self"; key = Key.Process 50 7 1000; obtained = 50; expires = 350 } ∷ [])) ∷ [])
    ∷ call 50 3 1 (Call.RevokeOne (codes "tmpauthz0")) (refused 3 1 ErrorCause.NotYours)
    ∷ call 50 1 3 (Call.RevokeOne (codes "tmpauthz0")) (done 1 3 ++ changed_1_to_4)
    ∷ call 50 1 4 (Call.RevokeOne (codes "tmpauthz0")) (refused 1 4 ErrorCause.NoSuchGrant)
    ∷ grants_call 5 (to 1 5 (Answer.Grants []) ∷ []) ∷ [])
unfolding hex digits
grants_listed_and_revoked = refl
