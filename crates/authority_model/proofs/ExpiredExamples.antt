-- A grant that has expired is neither listed nor revoked.
use Rattle.std.proofs.Common.{[], ◌∷◌, ◌++◌, refl}
use Rattle.std.specs.Prelude.{codes}
use Rattle.std.specs.Fmt.{digits}
use Rattle.pk_types.specs.declared.values.Subject.{Subject}
use Rattle.authority_model.specs.declared.event.Call.{Call}
use Rattle.authority_model.specs.declared.message.ErrorCause.{ErrorCause}
use Rattle.authority_model.specs.declared.message.Answer.{Answer}
use Rattle.authority_model.specs.Cookies.{hex}
use Rattle.authority_model.proofs.Setup.{Shown, with_grant, call, done, refused, to, changed_1_to_4}

-- the grant of 50 has expired at 350, so its number names nothing
expired_grant_is_not_revoked : Shown (with_grant ++ call 350 1 2 (Call.RevokeOne (codes "tmpauthz0")) (refused 1 2 ErrorCause.NoSuchGrant) ∷ [])
unfolding hex digits
expired_grant_is_not_revoked = refl

-- at 349 it is revoked
live_grant_is_revoked : Shown (with_grant ++ call 349 1 2 (Call.RevokeOne (codes "tmpauthz0")) (done 1 2 ++ changed_1_to_4) ∷ [])
unfolding hex digits
live_grant_is_revoked = refl

-- it is not listed, and a RevokeAll finds nothing to revoke, so nobody is told that something changed
expired_grant_is_not_listed : Shown (with_grant
    ++ call 350 1 2 (Call.EnumerateGrants (Subject.Process 50 7)) (to 1 2 (Answer.Grants []) ∷ [])
    ∷ call 350 1 3 (Call.RevokeAll (Subject.Process 50 7)) (done 1 3) ∷ [])
unfolding hex digits
expired_grant_is_not_listed = refl
