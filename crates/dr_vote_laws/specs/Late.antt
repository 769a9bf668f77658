-- What the accept words that are on their way tell.
-- V gives the members of each view, as a mask, by the view's number.
use Rattle.std.specs.Prelude.{◌≡◌, ℕ, List, true}
use Rattle.dr_words.specs.Rewrites.{is_accept_of}
use Rattle.dr_machine.specs.{Group.{Group, roster}, Run.WasOwn, World.World}
use Rattle.dr_faithful.specs.Tells.{Views}
use Rattle.dr_vote_laws.specs.Tells.{TellsVote}

-- each accept word that was an own one at some of these moments tells of its owner's votes what is true now
abbrev pub VotesBacked : Group → Views → List World → World → Type 0
VotesBacked g V moments w =
    (v i c word : ℕ) → WasOwn moments v i c word → is_accept_of (roster g) (V v) c ≡ true
    → TellsVote g w.past.own w.past.votes i v c word
