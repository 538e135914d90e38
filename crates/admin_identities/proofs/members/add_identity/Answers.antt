use Rattle.std.proofs.Common.{◌∙◌, ap, sym}
use Rattle.std.specs.Prelude.{flat_map, fold}
use Rattle.authority_model.specs.Admins.{members}
use Rattle.admin_identities.specs.Adding.{added, member_of}
use Rattle.admin_identities.proofs.Once.{flat_map-member_of, ok_alike}
use Rattle.admin_identities.proofs.members.add_identity.Goals as goal

pub returns-in-Group : goal.returns-in-Group
returns-in-Group c =
    record {
      ok = ok_alike c.add_members.result c.add_members.new.found _ _ c.add_members.ensures.ok
          (ap (λ us. fold added c.args.found.now (flat_map (member_of c.in-Group.gid) us)) c.as_slice.ensures.items
          ∙ ap (fold added c.args.found.now) (flat_map-member_of c.in-Group.gid c.args.world.now.users)
          ∙ ap (λ i. fold added c.args.found.now (members c.args.world.now i)) (sym c.in-Group.is));
    }
