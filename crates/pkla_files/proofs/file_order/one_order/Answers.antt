-- Both lists have the places of one sorted list.
use Rattle.std.proofs.Common.{map, ap, sym, ◌∙◌}
use Rattle.pkla_files.specs.Orders.{all_files, compare_files}
use Rattle.pkla_files.proofs.OneSorted.{one_sorted}
use Rattle.pkla_files.proofs.Comparing.{files_total, files_same}
use Rattle.pkla_files.proofs.file_order.one_order.Goals as goal

pub returns : goal.returns
returns c = record {
  one = λ dirs one other first second.
      first.places
      ∙ ap (map (λ f. f.place)) (one_sorted compare_files files_total files_same (all_files dirs) first.files second.files first.each_once second.each_once first.ascending second.ascending)
      ∙ sym second.places;
}
