use Rattle.std.proofs.Common.{refl, arith, ap, sym, ◌∙◌}
use Rattle.std.specs.Prelude.{codes}
use Rattle.policy_load.specs.Paths.{names_at}
use Rattle.pk_types.proofs.Texts.{plain_text}
use Rattle.policy_load.proofs.Gathered.{entries_added}
use Rattle.policy_load.proofs.order.turn_order.add_entries.Goals as goal

pub below-requires : goal.below-requires
below-requires g c = plain_text (codes "var/lib/polkit-1/localauthority") refl (omega arith)

pub below-requires-2 : goal.below-requires-2
below-requires-2 g c = plain_text (codes "etc/polkit-1/localauthority") refl (omega arith)

pub returns-clause-added : goal.returns-clause-added
returns-clause-added g c =
    λ told e.
    let vendor = c.in_ok-vendor.ensures.same ∙ e in
    let site = c.in_ok-site.ensures.same ∙ vendor in
    let first = c.in_ok-listing.ensures.same ∙ site in
    entries_added told c.args.root.now _ _ _ _ _ _ _ _ _ _ _
    (c.in_ok-vendor.ensures.path ∙ c.in_ok-below.ensures.path)
    (c.in_ok-vendor.ensures.found told e ∙ ap (names_at told) (sym c.in_ok-vendor.ensures.path))
    (c.in_ok-site.ensures.path ∙ c.in_ok-below-2.ensures.path)
    (c.in_ok-site.ensures.found told vendor ∙ ap (names_at told) (sym c.in_ok-site.ensures.path))
    c.new.ensures.none
    (c.in_ok-listing.ensures.listing told site)
    (c.in_ok-listing-2.ensures.listing told first)
    c.in_ok-add_report.ensures.added
    c.in_ok-add_report-2.ensures.added
    c.in_ok-add_turns.ensures.added
