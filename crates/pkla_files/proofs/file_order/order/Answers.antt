-- The sorted files, seen as their keys.
use Rattle.std.proofs.Common.{◌∙◌, ap, map, subst, sym}
use Rattle.std.specs.List.Sorted.{IsPermutation}
use Rattle.std.proofs.lemmas.List.Sorted.{IsPermutation-map}
use Rattle.pkla_files.specs.Orders.{all_files, compare_files, file_key}
use Rattle.pkla_files.proofs.Comparing.{sorted_map, places_map, compared}
use Rattle.pkla_files.specs.contracts.file_order.FileRefOrd.TheImpl as files
use Rattle.pkla_files.proofs.file_order.order.Goals as goal

pub returns : goal.returns
returns c =
    let sorted = c.sort.new.self.items in
    record {
      order = record {
        files = map file_key sorted;
        each_once = subst (λ files. IsPermutation files (map file_key sorted)) (c.in_ok-files.ensures.files ∙ ap all_files c.as_slice.ensures.items) (IsPermutation-map file_key c.in_ok-files.files.items sorted c.in_ok-sort.ensures.permutation);
        ascending = sorted_map file_key compare_files files.ghosts.cmp sorted c.in_ok-sort.ensures.sorted compared;
        places = c.from_vec.ensures.items ∙ c.in_ok-places.ensures.places ∙ ap (map (λ f. f.place)) c.as_slice-2.ensures.value ∙ sym (places_map sorted);
      };
    }
