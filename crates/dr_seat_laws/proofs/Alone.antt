-- The seat of a group of one member runs.
use Rattle.std.specs.Prelude.{Bool}
use Rattle.std.proofs.Common.{◌≡◌, refl, ap, sym, ◌∙◌, inl, inr, subst, ℕ, zero, suc, ◌-◌, ◌*◌, ◌^◌, ◌<◌, ◌≤◌, ◌==◌, if◌then◌else◌, arith, true, false, List, [], ◌∷◌, ◌++◌, append_assoc, Contains, Option, None, Some, length, slice_get}
use Rattle.std.proofs.lemmas.{Bool.ltb-true, Option.{none-some, same_Some}}
use Rattle.dr_door.specs.{Begun.begun_lone, Lone.Lone}
use Rattle.dr_entry.specs.declared.record.Record.{Record}
use Rattle.dr_entry.specs.declared.record.Record.TheVariants as records
use Rattle.dr_history.specs.History.{view_after, view_of}
use Rattle.dr_history.specs.{Members.{has, members_below, members_of}, Soundness.whole_roster}
use Rattle.dr_history.proofs.{Bits.has_ones, Lists.prefix-trans}
use Rattle.dr_log_bytes.specs.{Content.{ArePlaced, content_after, empty_of}, Grammar.{AreSpelled, blocks, newer_magic}}
use Rattle.dr_opening.specs.Lists.{as_lists}
use Rattle.dr_packet.specs.declared.Call.{Call}
use Rattle.dr_restart.specs.{Choosing.{HasAge, HasQuorum, IsChosenStart, handed_of, of_set}, Groups.first_group_of, Trying.{age_vote_of, first_view_of}}
use Rattle.dr_restart.{specs.declared.{lists.LogLists.LogLists, start.Start.Start}, proofs.Handing.set-log}
use Rattle.dr_script.specs.{Ranges.HasGroupRanges, declared.script.Script.Script}
use Rattle.dr_words.specs.Masks.{mask_below, mask_of, with_member}
use Rattle.dr_seat_laws.specs.Seats.{AreNew, HaveRun, RunsIn, Seats, SeatsStep}
use Rattle.dr_seat_laws.specs.Sitting.{HasGrown, InAge, IsNewSitting, IsWritten, Moves, Rises, Sitting, Step, Trying, Up, Voted as HasTheVote, Votes as Casting, Written, begins, casts, hands_in, nothing, raises, settles, synced}
use Rattle.dr_seat_laws.proofs.{Fresh.{Plan, fresh-setup, setup_for}, Putting.{put, put-other}}

-- ---- logs of these records

abbrev of-records : List Record → Written
of-records rs = record { bytes = newer_magic ++ blocks rs; content = content_after (empty_of true) rs }

are-written : (rs : List Record) → AreSpelled rs → ArePlaced (empty_of true) rs → IsWritten (of-records rs)
are-written rs spelled placed = record {
  newer = true;
  records = rs;
  log = record {
    spelled = spelled;
    placed = placed;
    gate = 0;
    closed = λ e. absurd (omega (arith, e));
    rest = [];
    parts = append_assoc newer_magic (blocks rs) (0 ∷ []);
  };
  content = refl;
}

-- the start of age 0
abbrev start : Start
start = record { age = 0; members = 1; present = 1; entries = [] }

abbrev the-vote : Record
the-vote = records.AgeVote (age_vote_of start)

abbrev the-view : Record
the-view = records.Entry (first_view_of start)

-- nothing, with the vote, and with View 0
abbrev bare : Written
bare = of-records []

abbrev voted : Written
voted = of-records (the-vote ∷ [])

abbrev raised : Written
raised = of-records (the-vote ∷ the-view ∷ [])

voted-grown : HasGrown bare voted
voted-grown = record {
  rest = _;
  opened = refl;
  stands = are-written (the-vote ∷ []) ((omega arith, (omega arith, omega arith)), tt) (refl, tt);
}

raised-grown : HasGrown voted raised
raised-grown = record {
  rest = _;
  opened = refl;
  stands = are-written (the-vote ∷ the-view ∷ [])
      ((omega arith, (omega arith, omega arith)), ((omega arith, (omega arith, omega arith, omega arith)), tt))
      (refl, (tt, tt));
}

-- ---- the choice

call : Call
call = record { set = 1; lengths = 9 ∷ []; age = 0 }

abbrev logs : List LogLists
logs = as_lists (empty_of true) ∷ []

only-log : (m : ℕ) (log : LogLists) → slice_get logs m ≡ Some log → log ≡ as_lists (empty_of true)
only-log zero log e = sym (same_Some _ _ e)
only-log (suc m) log e = absurd (none-some log e)

all-handed : handed_of (of_set logs 1) 1 ≡ 1
unfolding mask_of mask_below
all-handed = refl

counted-one : with_member 0 0 ≡ 1
unfolding mask_of mask_below
counted-one = refl

no-view : view_of [] ≡ None
unfolding view_after
no-view = refl

alone-quorum : HasQuorum (of_set logs 1) 1
unfolding members_of members_below
alone-quorum = subst (λ n. length (members_of 1) < 2 * length (members_of n)) (sym all-handed) (omega arith)

module _ (script : Script) (ranges : HasGroupRanges script) (turns : 1 ≤ script.turns)
    (one : script.members ≡ 1) where
  roster : whole_roster (first_group_of script).opening ≡ 1
  roster = ap (λ n. 2 ^ n - 1) (ranges.lists ∙ one)

  -- what was handed in is the log without records
  handed-bare : (m : ℕ) (log : LogLists) → of_set logs 1 m ≡ Some log → log ≡ as_lists (empty_of true)
  handed-bare m log e = only-log m log (set-log logs 1 m log e).1

  choice : IsChosenStart (first_group_of script).opening (of_set logs call.set) start
  unfolding call
  choice = record {
    sound = λ m log e i x f. absurd (none-some x
        (ap (λ (l : LogLists). slice_get l.entries i) (sym (handed-bare m log e)) ∙ f));
    quorum = subst (λ n. HasQuorum (of_set logs 1) n) (sym roster) alone-quorum;
    entries = inr (record {
      nobody = λ m log e. ap (λ (l : LogLists). view_of l.entries) (handed-bare m log e) ∙ no-view;
      none = refl;
    });
    age = record {
      above = λ m a log e f. absurd (ageless a (subst (λ l. HasAge l a) (handed-bare m log e) f));
      next = inl refl;
    };
    left = omega arith;
    present = sym (ap (handed_of (of_set logs 1)) roster ∙ all-handed);
    members = λ n e. e;
    some = omega arith;
  }
    where
      none : {X : Type 0} (x : X) → Contains [] x → ⊥
      none x c = omega (arith, c.1)

      ageless : (a : ℕ) → HasAge (as_lists (empty_of true)) a → ⊥
      ageless a (inl h) = none _ h.2
      ageless a (inr (inl h)) = none h.0 h.1
      ageless a (inr (inr h)) = none h.0 h.1

  -- ---- the seat, one moment after the other

  plan : Plan
  plan = record { script = script; ranges = ranges; turns = turns }

  abbrev tries : Step → ℕ → ℕ → Trying
  tries step voted up = record { call = call; start = start; step = step; voted = voted; up = up }

  abbrev sits : Written → Option Written → Bool → Option ℕ → Option Trying → Option InAge → Sitting
  sits log coming opens handed try age = record {
    log = log;
    coming = coming;
    opens = opens;
    handed = handed;
    hands = λ k. nothing;
    try = try;
    age = age;
  }

  abbrev first : Sitting
  first = sits bare None true None None None

  -- where this seat stands so
  abbrev with-seat : Sitting → Seats
  with-seat s = record { seats = put (λ k. first) 0 s; sent = [] }

  are-new : AreNew (with-seat first)
  are-new = record { each = λ m. by (m == 0); sent = refl }
    where
      is : IsNewSitting first
      is = record {
        stands = are-written [] tt tt;
        coming = refl;
        opens = refl;
        handed = refl;
        hands = λ k. refl;
        try = refl;
        age = refl;
      }

      by : (b : Bool) → IsNewSitting (if b then first else first)
      by true = is
      by false = is

  step : (s next : Sitting) → Moves script [] 0 s next → SeatsStep script (with-seat s) (with-seat next)
  step s next moves = inl (record {
    member = 0;
    within = omega (arith, one);
    moves = moves;
    others = λ k n. put-other (λ j. first) 0 next k n ∙ sym (put-other (λ j. first) 0 s k n);
    sent = refl;
  })

  abbrev synced-seat : Sitting
  synced-seat = sits bare None false None None None

  abbrev handed-seat : Sitting
  handed-seat = sits bare None false (Some 9) None None

  abbrev casting : Sitting
  casting = sits bare (Some voted) false (Some 9) (Some (tries Casting 0 0)) None

  abbrev cast : Sitting
  cast = sits voted None false (Some 9) (Some (tries HasTheVote (with_member 0 0) 0)) None

  abbrev rising : Sitting
  rising = sits voted (Some raised) false (Some 9) (Some (tries Rises (with_member 0 0) 0)) None

  abbrev risen : Sitting
  risen = sits raised None false (Some 9) (Some (tries Up (with_member (with_member 0 0) 0) (with_member 0 0))) None

  abbrev door : Lone
  door = begun_lone (setup_for plan start 0)

  abbrev running : Sitting
  running = record risen { age = Some (record { door = door; batch = [] }) }

  ran : HaveRun script (with-seat first) (with-seat running)
  unfolding call plan
  ran = (
    with-seat risen ∷ with-seat rising ∷ with-seat cast ∷ with-seat casting ∷ with-seat handed-seat
        ∷ with-seat synced-seat ∷ with-seat first ∷ [],
    (
      (
        (
          (
            (
              (
                (
                  refl,
                  step first synced-seat
                      (synced (record { opens = refl; log = bare; either = inl refl; made = refl })),
                ),
                step synced-seat handed-seat
                    (hands_in (record { rest = (refl, refl); gathers = refl; first = refl; made = refl })),
              ),
              step handed-seat casting (casts (record {
                rest = (refl, refl);
                gathers = refl;
                handed = refl;
                call = call;
                inside = refl;
                own = refl;
                logs = logs;
                read = λ k log inside is. inl (own k inside, only-log k log is);
                start = start;
                chosen = choice;
                present = refl;
                members = refl;
                age = refl;
                next = voted;
                grown = voted-grown;
                content = refl;
                made = refl;
              })),
            ),
            step casting cast (settles (record { runs = refl; next = voted; coming = refl; made = refl })),
          ),
          step cast rising (raises (record {
            rest = (refl, refl);
            no_age = refl;
            try = _;
            tries = refl;
            voted = refl;
            all = counted-one;
            step = Rises;
            next = raised;
            grown = raised-grown;
            content = (
              refl,
              refl,
              inr (
                (([], refl)),
                λ front p q. prefix-trans front [] (first_view_of start ∷ []) p
                    (first_view_of start ∷ [], refl),
              ),
              inr (refl, refl),
            );
            made = refl;
          })),
        ),
        step rising risen (settles (record { runs = refl; next = raised; coming = refl; made = refl })),
      ),
      step risen running (begins (record {
        rest = (refl, refl);
        no_age = refl;
        try = _;
        tries = refl;
        up = refl;
        all = counted-one;
        door = door;
        begun = (setup_for plan start 0, fresh-setup plan start 0 refl, refl);
        made = refl;
      })),
    ),
  )
    where
      own : (k : ℕ) → has 1 k ≡ true → k ≡ 0
      own k e = omega (arith, ltb-true k 1 (sym (has_ones 1 k) ∙ e))

  pub alone-runs : (new : Seats) × (s : Seats) × (d : Lone) × AreNew new × HaveRun script new s
      × RunsIn (s.seats 0) 0 d
  unfolding call plan
  alone-runs = (
    with-seat first,
    with-seat running,
    door,
    are-new,
    ran,
    record {
      try = _;
      tries = refl;
      same = refl;
      inside = _;
      runs = refl;
      door = refl;
    },
  )
