use Rattle.std.proofs.Common.{subst}
use Rattle.dr_faithful.specs.Chosen.{views_by}
use Rattle.dr_vote_laws.specs.Moments.{AcceptsOfMoments}
use Rattle.dr_world_laws.proofs.{HeldViews.view-is, Telling.{moments-by, votes-by, words-by}}
use Rattle.dr_world_laws.proofs.Worlds.{known, known_way, no_later, told, waits}
use Rattle.dr_world_laws.proofs.words_tell_the_truth.Goals as goal

pub returns : goal.returns
returns c = record {
  faithful = λ g w is r. let y = known g w is r in (
    views_by g y.values,
    λ v members h. view-is g y.values w v members is y.chosen h,
    y.chosen.faithful,
  );
  words = λ g V w is r are. words-by g V w is (known g w is r) are;
  suspicions = λ g w is r. told g w is (known g w is r);
  promise = λ g w m is r l some. waits g w m is (known g w is r) l some;
  votes = λ g V w is r are. votes-by g V w is (known g w is r) are;
  moments = λ g V before w is way are. subst (λ us. AcceptsOfMoments g V us w)
      (known_way g before w is way) (moments-by g V w is (known g w is (before, way)) are);
  later = λ g w is r. no_later g w is (known g w is r);
}
