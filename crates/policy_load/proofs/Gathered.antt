-- The turns of a load, put together from those of its parts.
use Rattle.std.proofs.Common.{◌≡◌, List, [], ◌++◌, Option, Result, ap, ◌∙◌, subst, append_assoc}
use Rattle.std.specs.Prelude.{IfOk}
use Rattle.pk_outside.specs.Trees.{TreeTold}
use Rattle.pk_outside.specs.declared.tree.Names.{Names}
use Rattle.authority_model.specs.Words.{Bytes}
use Rattle.pkla_files.specs.declared.directories.Root.{Root}
use Rattle.policy_load.specs.Paths.{names_at}
use Rattle.policy_load.specs.Turns.{vendor_directory, site_directory, action_directory, admin_directory, with_all_below, no_directories, reported, turns_of, entry_listing, single_listing}
use Rattle.policy_load.specs.declared.order.listing.Listing.{Listing}
use Rattle.policy_load.specs.declared.order.turn.FileKind.TheVariants as kind
use Rattle.policy_load.specs.declared.order.turn.Turn.{Turn}

-- a value is another that is the same
pub is_same : {A E : Type 0} (r : Result A E) (x y : A) → x ≡ y → IfOk r (λ a. a ≡ x) → IfOk r (λ a. a ≡ y)
is_same r x y e is = subst (λ z. IfOk r (λ a. a ≡ z)) e is

pub entries_added : (tree : TreeTold) (root : Bytes) (vendor site : Option Bytes) (vendor_names site_names : Names) (none first both : Listing) (old reported_first reported_both all : List Turn)
    → vendor ≡ vendor_directory root → vendor_names ≡ names_at tree vendor → site ≡ site_directory root → site_names ≡ names_at tree site
    → none ≡ no_directories → first ≡ with_all_below tree Root.VarLib vendor vendor_names none → both ≡ with_all_below tree Root.Etc site site_names first
    → reported_first ≡ old ++ reported vendor vendor_names → reported_both ≡ reported_first ++ reported site site_names → all ≡ reported_both ++ turns_of kind.Entries both
    → all ≡ old ++ (reported (vendor_directory root) (names_at tree (vendor_directory root)) ++ (reported (site_directory root) (names_at tree (site_directory root)) ++ turns_of kind.Entries (entry_listing tree root)))
entries_added tree root vendor site vendor_names site_names none first both old reported_first reported_both all ve ne se me nothing fe be re se2 te =
    let V = vendor_directory root in
    let S = site_directory root in
    let NV = names_at tree V in
    let NS = names_at tree S in
    let names : vendor_names ≡ NV = ne ∙ ap (names_at tree) ve in
    let more_names : site_names ≡ NS = me ∙ ap (names_at tree) se in
    let report : reported vendor vendor_names ≡ reported V NV = ap (λ p. reported p vendor_names) ve ∙ ap (reported V) names in
    let report_site : reported site site_names ≡ reported S NS = ap (λ p. reported p site_names) se ∙ ap (reported S) more_names in
    let listing : first ≡ with_all_below tree Root.VarLib V NV no_directories =
    fe ∙ ap (λ p. with_all_below tree Root.VarLib p vendor_names none) ve ∙ ap (λ n. with_all_below tree Root.VarLib V n none) names ∙ ap (with_all_below tree Root.VarLib V NV) nothing in
    let listing_both : both ≡ entry_listing tree root =
    be ∙ ap (λ p. with_all_below tree Root.Etc p site_names first) se ∙ ap (λ n. with_all_below tree Root.Etc S n first) more_names ∙ ap (with_all_below tree Root.Etc S NS) listing in
    te
    ∙ ap (λ t. t ++ turns_of kind.Entries both) se2
    ∙ ap (λ t. (t ++ reported site site_names) ++ turns_of kind.Entries both) re
    ∙ ap (λ l. ((old ++ reported vendor vendor_names) ++ reported site site_names) ++ turns_of kind.Entries l) listing_both
    ∙ ap (λ r. ((old ++ reported vendor vendor_names) ++ r) ++ turns_of kind.Entries (entry_listing tree root)) report_site
    ∙ ap (λ r. ((old ++ r) ++ reported S NS) ++ turns_of kind.Entries (entry_listing tree root)) report
    ∙ append_assoc (old ++ reported V NV) (reported S NS) (turns_of kind.Entries (entry_listing tree root))
    ∙ append_assoc old (reported V NV) (reported S NS ++ turns_of kind.Entries (entry_listing tree root))

pub all_added : (tree : TreeTold) (root : Bytes) (actions admins : Option Bytes) (none first both all entries : List Turn) → actions ≡ action_directory root → admins ≡ admin_directory root
    → none ≡ [] → first ≡ none ++ turns_of kind.Actions (single_listing tree kind.Actions actions) → both ≡ first ++ turns_of kind.Admins (single_listing tree kind.Admins admins) → all ≡ both ++ entries
    → all ≡ turns_of kind.Actions (single_listing tree kind.Actions (action_directory root)) ++ (turns_of kind.Admins (single_listing tree kind.Admins (admin_directory root)) ++ entries)
all_added tree root actions admins none first both all entries ae de nothing fe be te =
    let A : Option Bytes → List Turn = λ p. turns_of kind.Actions (single_listing tree kind.Actions p) in
    let B : Option Bytes → List Turn = λ p. turns_of kind.Admins (single_listing tree kind.Admins p) in
    te
    ∙ ap (λ t. t ++ entries) (be ∙ ap (λ t. t ++ B admins) (fe ∙ ap (λ t. t ++ A actions) nothing) ∙ ap (λ p. A p ++ B admins) ae ∙ ap (λ p. A (action_directory root) ++ B p) de)
    ∙ append_assoc (A (action_directory root)) (B (admin_directory root)) entries
