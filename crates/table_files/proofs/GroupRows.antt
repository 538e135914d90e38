-- The rows of groups, and what stands for them.
use Rattle.std.proofs.Common.{◌≡◌, ◌==◌, ◌||◌, List, [], ◌∷◌, map, refl, ap, ◌∙◌}
use Rattle.std.specs.Prelude.{bytes_eq}
use Rattle.std.specs.List.{list_any}
use Rattle.authority_model.specs.declared.world.Group.{Group}
use Rattle.table_files.specs.declared.kept.GroupRow.{GroupRow}
use Rattle.table_files.specs.Groups.{Listing, group_stands}
use Rattle.table_files.specs.Kept.{listing_in}
use Rattle.table_files.proofs.Keys.{list_any-map}

-- a group stands among the rows where its keys do
pub stands-rows : (g : Group) (rows : List GroupRow)
    → group_stands g (map listing_in rows) ≡ (list_any (λ r. g.gid == r.gid) rows || list_any (λ r. bytes_eq g.name r.name.now) rows)
stands-rows g rows =
    ap (λ t. t || list_any (λ (r : Listing). bytes_eq g.name r.group.name) (map listing_in rows)) (list_any-map (λ (r : Listing). g.gid == r.group.gid) listing_in rows)
    ∙ ap (λ t. list_any (λ (r : GroupRow). g.gid == r.gid) rows || t) (list_any-map (λ (r : Listing). bytes_eq g.name r.group.name) listing_in rows)

pub groups_of_rows : (rows : List GroupRow) → map (λ r. r.group) (map listing_in rows) ≡ map (λ r. (listing_in r).group) rows
groups_of_rows [] = refl
groups_of_rows (r ∷ rows) = ap (λ gs. (listing_in r).group ∷ gs) (groups_of_rows rows)
