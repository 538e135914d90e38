-- Files are compared by a total order, in which only one file ties with another: itself.
use Rattle.std.proofs.Common.{◌≡◌, ℕ, ◌+◌, ◌<◌, List, [], ◌∷◌, length, get_or, map, refl, ap, sym, ◌∙◌, arith}
use Rattle.std.specs.Cmp.{IsTotalOrder}
use Rattle.std.specs.Cmp.Lexicographic.{slice_cmp}
use Rattle.std.specs.FinMap.{IsAntisymmetric, nat_cmp-IsAntisymmetric, slice_cmp-IsAntisymmetric}
use Rattle.std.specs.List.Sorted.{IsSorted}
use Rattle.std.specs.Ordering.{is_lt, nat_cmp, ordering_then}
use Rattle.std.specs.declared.cmp.Ordering.{Ordering}
use Rattle.std.specs.declared.cmp.Ordering.TheVariants.{Less, Equal, Greater}
use Rattle.std.proofs.lemmas.Cmp.{on_total, then_total, nat_cmp_total, nat_list_cmp_total}
use Rattle.std.proofs.lemmas.List.{get_or-map, length-map}
use Rattle.authority_model.specs.Words.{Bytes}
use Rattle.pkla_files.specs.declared.directories.Root.{Root}
use Rattle.pkla_files.specs.declared.directories.FilePlace.{FilePlace}
use Rattle.pkla_files.specs.declared.file_order.FileRef.{FileRef}
use Rattle.pkla_files.specs.contracts.directories.RootOrd.TheImpl as roots
use Rattle.pkla_files.specs.contracts.file_order.FileRefOrd.TheImpl as files
use Rattle.pkla_files.specs.Orders.{FileKey, file_key, root_rank, compare_places, compare_files}

places_total : IsTotalOrder compare_places
places_total = then_total (on_total (λ p. p.dir) nat_cmp_total) (on_total (λ p. p.file) nat_cmp_total)

pub files_total : IsTotalOrder compare_files
files_total =
    then_total (on_total (λ f. f.directory) nat_list_cmp_total)
    (then_total (on_total (λ f. root_rank f.root) nat_cmp_total)
    (then_total (on_total (λ f. f.name) nat_list_cmp_total) (on_total (λ f. f.place) places_total)))

both_tie : (r s : Ordering) → ordering_then r s ≡ Equal → (r ≡ Equal) × (s ≡ Equal)
both_tie Less s e = absurd (cc)
both_tie Equal s e = (refl, e)
both_tie Greater s e = absurd (cc)

same_root : (x y : Root) → root_rank x ≡ root_rank y → x ≡ y
same_root Root.VarLib Root.VarLib e = refl
same_root Root.VarLib Root.Etc e = absurd (omega arith)
same_root Root.Etc Root.VarLib e = absurd (omega arith)
same_root Root.Etc Root.Etc e = refl

abbrev place_at : ℕ → ℕ → FilePlace
place_at dir file = record { dir = dir; file = file }

same_place : (x y : FilePlace) → compare_places x y ≡ Equal → x ≡ y
same_place x y e =
    let both = both_tie (nat_cmp x.dir y.dir) (nat_cmp x.file y.file) e in
    let dir : x.dir ≡ y.dir = nat_cmp-IsAntisymmetric x.dir y.dir both.0 in
    let file : x.file ≡ y.file = nat_cmp-IsAntisymmetric x.file y.file both.1 in
    at_place x.dir y.dir x.file y.file dir file
  where
    at_place : (a b c d : ℕ) → a ≡ b → c ≡ d → place_at a c ≡ place_at b d
    at_place a b c d e f = ap (λ n. place_at n c) e ∙ ap (place_at b) f

abbrev file_at : Bytes → Root → Bytes → FilePlace → FileKey
file_at directory root name place = record { directory = directory; root = root; name = name; place = place }

pub files_same : IsAntisymmetric compare_files
files_same x y e =
    let directories = both_tie (slice_cmp nat_cmp x.directory y.directory) (ordering_then (nat_cmp (root_rank x.root) (root_rank y.root)) (ordering_then (slice_cmp nat_cmp x.name y.name) (compare_places x.place y.place))) e in
    let roots = both_tie (nat_cmp (root_rank x.root) (root_rank y.root)) (ordering_then (slice_cmp nat_cmp x.name y.name) (compare_places x.place y.place)) directories.1 in
    let names = both_tie (slice_cmp nat_cmp x.name y.name) (compare_places x.place y.place) roots.1 in
    let directory : x.directory ≡ y.directory = slice_cmp-IsAntisymmetric nat_cmp-IsAntisymmetric x.directory y.directory directories.0 in
    let root : x.root ≡ y.root = same_root x.root y.root (nat_cmp-IsAntisymmetric (root_rank x.root) (root_rank y.root) roots.0) in
    let name : x.name ≡ y.name = slice_cmp-IsAntisymmetric nat_cmp-IsAntisymmetric x.name y.name names.0 in
    let place : x.place ≡ y.place = same_place x.place y.place names.1 in
    ap (λ d. file_at d x.root x.name x.place) directory
    ∙ ap (λ r. file_at y.directory r x.name x.place) root
    ∙ ap (λ n. file_at y.directory y.root n x.place) name
    ∙ ap (file_at y.directory y.root y.name) place

-- what is sorted by what it is seen as, is seen as a sorted list
pub sorted_map : {X Y : Type 0} (f : X → Y) (R : Y → Y → Ordering) (S : X → X → Ordering) (xs : List X) → IsSorted S xs → ((a b : X) → S a b ≡ R (f a) (f b)) → IsSorted R (map f xs)
sorted_map f R S [] up same = λ k d low high. absurd (omega arith)
sorted_map f R S (x ∷ xs) up same = λ k d low high.
    let within : k + 1 < length (x ∷ xs) = omega (arith, length-map (x ∷ xs) f) in
    let before : k < length (x ∷ xs) = omega arith in
    ap (λ a. is_lt (R a (get_or (map f (x ∷ xs)) k d))) (get_or-map f (x ∷ xs) (k + 1) x d within)
    ∙ ap (λ b. is_lt (R (f (get_or (x ∷ xs) (k + 1) x)) b)) (get_or-map f (x ∷ xs) k x d before)
    ∙ ap is_lt (sym (same (get_or (x ∷ xs) (k + 1) x) (get_or (x ∷ xs) k x)))
    ∙ up k x low within

pub places_map : (files : List FileRef) → map (λ f. f.place) (map file_key files) ≡ map (λ f. f.place) files
places_map [] = refl
places_map (f ∷ files) = ap (λ ps. f.place ∷ ps) (places_map files)

-- the derived comparisons
roots_compared : (x y : Root) → roots.ghosts.cmp x y ≡ nat_cmp (root_rank x) (root_rank y)
roots_compared Root.VarLib Root.VarLib = refl
roots_compared Root.VarLib Root.Etc = refl
roots_compared Root.Etc Root.VarLib = refl
roots_compared Root.Etc Root.Etc = refl

pub compared : (x y : FileRef) → files.ghosts.cmp x y ≡ compare_files (file_key x) (file_key y)
compared x y =
    ap (λ r. ordering_then (slice_cmp nat_cmp x.directory.now y.directory.now) (ordering_then r (ordering_then (slice_cmp nat_cmp x.name.now y.name.now) (compare_places x.place y.place))))
    (roots_compared x.root y.root)
