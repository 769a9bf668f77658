-- The steps of the wire as which appends come to logs.
use Rattle.std.proofs.Common.{◌≡◌, refl, ap, sym, subst, ℕ, ◌<◌, arith, [], ◌∷◌, ◌++◌, Contains, Option, Some, length, length-append}
use Rattle.dr_calls.specs.Wire.{Place, Rises, Runs, Votes, Wire, vote_of}
use Rattle.dr_entry.specs.declared.record.{AgeVote.AgeVote, Record.Record}
use Rattle.dr_entry.specs.declared.record.Record.TheVariants as records
use Rattle.std.proofs.lemmas.List.Elements.{Contains-append_left}
use Rattle.dr_history.specs.{History.IsPrefixOf, declared.opening.Opening.Opening}
use Rattle.dr_log_bytes.specs.Content.{OnLog, with_record}
use Rattle.dr_opening.specs.Lists.{as_lists}
use Rattle.dr_restart.specs.Trying.{age_vote_of}
use Rattle.dr_seat_laws.specs.Sitting.{HasGrown, InAge, Trying, Written, long_of}
use Rattle.dr_seat_laws.proofs.{Holding.{Ghost, RiseDue, RunDue, VoteDue}, Putting.{put, put-other, put-own}}

pub grown-longer : (old new : Written) → HasGrown old new → long_of old < long_of new
grown-longer old new x = omega (arith, ap length x.opened, length-append old.bytes (1 ∷ x.rest))

pub grown-front : (old new : Written) → HasGrown old new → IsPrefixOf old.bytes new.bytes
grown-front old new x = (1 ∷ x.rest, sym x.opened)

-- the wire where this stands at member m
abbrev pub placed : Wire → ℕ → Place → Wire
placed w m place = record { places = put w.places m place; given = w.given; votes = w.votes; ages = w.ages }

-- ---- a vote

module _ (o : Opening) (g : Ghost) (m : ℕ) (log : OnLog) (try : Option Trying) (age : Option InAge) (next : Written)
    (x : VoteDue o g m log try age next) where
  abbrev pub voted-place : Place
  voted-place = record {
    lists = record (g.wire.places m).lists {
      age_votes = (g.wire.places m).lists.age_votes ++ age_vote_of x.start ∷ [];
    };
    long = long_of next;
    handed = Some (g.wire.places m).long;
    tries = Some (vote_of g.wire m x.call x.logs x.start);
  }

  abbrev pub voted-wire : Wire
  voted-wire = record {
    places = put g.wire.places m voted-place;
    given = g.wire.given;
    votes = g.wire.votes ++ vote_of g.wire m x.call x.logs x.start ∷ [];
    ages = g.wire.ages;
  }

  abbrev pub vote-step : (g.wire.places m).long < long_of next → Votes o g.wire voted-wire
  vote-step longer = record {
    member = m;
    call = x.call;
    start = x.start;
    logs = x.logs;
    waits = x.waits;
    handed = x.handed;
    inside = x.inside;
    own = x.own;
    given = x.given;
    chosen = x.chosen;
    present = x.present;
    members = x.members;
    age = x.same_age;
    long = long_of next;
    longer = longer;
    comes = record {
      own = put-own g.wire.places m voted-place;
      others = λ k n. put-other g.wire.places m voted-place k n;
    };
    stays = refl;
    votes = refl;
    ages = refl;
  }

-- ---- a cut, or the start

module _ (g : Ghost) (m : ℕ) (log : OnLog) (try : Option Trying) (age : Option InAge) (next : Written)
    (x : RiseDue g m log try age next) where
  abbrev pub raised-place : Place
  raised-place = record {
    lists = record (g.wire.places m).lists { entries = next.content.entries };
    long = long_of next;
    handed = (g.wire.places m).handed;
    tries = Some x.vote;
  }

  abbrev pub rise-step : (g.wire.places m).long < long_of next → Rises g.wire (placed g.wire m raised-place)
  rise-step longer = record {
    member = m;
    vote = x.vote;
    tries = x.tries;
    opened = x.opened;
    entries = next.content.entries;
    long = long_of next;
    longer = longer;
    brought = x.entries;
    comes = record {
      own = put-own g.wire.places m raised-place;
      others = λ k n. put-other g.wire.places m raised-place k n;
    };
    given = refl;
    votes = refl;
    ages = refl;
  }

-- ---- what a door appends

-- no record takes an age vote away
pub keeps-age-votes : (what : Record) (c : OnLog) (v : AgeVote) → Contains c.age_votes v
    → Contains (with_record what c).age_votes v
keeps-age-votes (records.Entry entry) c v d = d
keeps-age-votes (records.Vote vote) c v d = d
keeps-age-votes (records.AgeVote vote) c v d = Contains-append_left _ _ v d
keeps-age-votes (records.Cut keep) c v d = d
keeps-age-votes records.Upgrade c v d = d

module _ (g : Ghost) (m : ℕ) (log : OnLog) (try : Option Trying) (age : Option InAge) (next : Written)
    (x : RunDue g m log try age next) where
  abbrev pub run-place : Place
  run-place = record {
    lists = as_lists next.content;
    long = long_of next;
    handed = (g.wire.places m).handed;
    tries = Some x.vote;
  }

  abbrev pub run-step : (g.wire.places m).lists ≡ as_lists log → (g.wire.places m).long < long_of next
      → Runs g.wire (placed g.wire m run-place)
  run-step lists longer = record {
    member = m;
    vote = x.vote;
    tries = x.tries;
    runs = x.began;
    lists = as_lists next.content;
    long = long_of next;
    longer = longer;
    keeps = λ v d. subst (λ c. Contains c.age_votes v) (sym x.content)
        (keeps-age-votes x.what log v (subst (λ l. Contains l.age_votes v) lists d));
    comes = record {
      own = put-own g.wire.places m run-place;
      others = λ k n. put-other g.wire.places m run-place k n;
    };
    given = refl;
    votes = refl;
    ages = refl;
  }
