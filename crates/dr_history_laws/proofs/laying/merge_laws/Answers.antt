use Rattle.dr_history_laws.proofs.{Merging.{merge-laid_below, laid-whole}, Ordered.view-distinct}
use Rattle.dr_history_laws.proofs.laying.merge_laws.Goals as goal

pub returns : goal.returns
returns c = record {
  all = merge-laid_below;
  whole = λ o sent before v p ends goes all. laid-whole o sent before v p goes (view-distinct before v ends) all;
}
