use Rattle.std.proofs.lemmas.List.{length-map}
use Rattle.dr_trim.proofs.rest.next_rest.Goals as goal

pub merge_next-requires-clause-some : goal.merge_next-requires-clause-some
merge_next-requires-clause-some c =
    rw (c.as_slice.ensures.value, c.trims_by_rank-trims.ensures, length-map) c.requires
