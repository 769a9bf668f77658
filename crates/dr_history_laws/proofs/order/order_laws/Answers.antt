use Rattle.dr_history_laws.proofs.{Counting.index-next, Ordered.{InOrder-laid, view-distinct}, Steady.InOrder-steady}
use Rattle.dr_history_laws.proofs.order.order_laws.Goals as goal

pub returns : goal.returns
returns c = record {
  laid = InOrder-laid;
  next_index = λ o sent before v p s i ends goes at. index-next o sent before v p s i goes
      (view-distinct before v ends) at;
  steady = InOrder-steady;
}
