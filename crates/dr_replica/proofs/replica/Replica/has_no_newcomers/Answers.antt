use Rattle.std.proofs.Common.{◌==◌, ap, ◌∙◌}
use Rattle.dr_program.specs.Replica.{Replica}
use Rattle.dr_words.specs.Masks.{without}
use Rattle.dr_replica.proofs.replica.Replica.has_no_newcomers.Goals as goal

pub returns : goal.returns
returns c = ap (λ mask. mask == 0) (c.bits.ensures ∙ c.newcomers.ensures.value)
    ∙ ap (λ (r : Replica). without r.members r.came_from == 0) c.self.view_is
