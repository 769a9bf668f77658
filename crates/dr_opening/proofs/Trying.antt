-- What an opening leaves wherever it stops is what a try leaves.
use Rattle.std.specs.Prelude.{if◌then◌else◌, is_some, option_map, slice_get}
use Rattle.std.proofs.Common.{◌≡◌, refl, ap, sym, ◌∙◌, subst, inl, inr, ◌⊎◌, ⊎_elim, ℕ, zero, suc, ◌<◌, ◌≤◌, ◌&&◌, nat_lt, arith, Bool, true, false, List, length, Contains, Option, None, Some}
use Rattle.std.proofs.{Math.Path.fun_ext, lemmas.{Bool.cases_lt, Option.same_Some}}
use Rattle.dr_entry.{specs.declared.record.AgeVote.AgeVote, proofs.ListPlaces.within_places}
use Rattle.dr_history.specs.{Members.has, Soundness.whole_roster, declared.opening.Opening.Opening}
use Rattle.dr_history.proofs.Bits.{has_ones}
use Rattle.dr_log_bytes.specs.Content.{OnLog}
use Rattle.dr_restart.specs.Choosing.{Handed, IsChosenStart, of_set}
use Rattle.dr_restart.specs.Trying.{HaveAgeVote, IsTry, MayBeBroughtUp, MayHaveAgeVote, age_vote_of}
use Rattle.dr_restart.specs.declared.{lists.{Attempt.Attempt, LogLists.LogLists}, start.Start.Start}
use Rattle.dr_quorum.specs.Handing.{handed_by}
use Rattle.dr_words.proofs.Masks.{has_mask_of}
use Rattle.dr_opening.specs.{Contents.{IsRising, IsVoting, voted_for}, Lists.{all_as_lists, as_lists}}
use Rattle.dr_opening.specs.Tries.{AreAmong, CameSo, HasStoppedSo, IsChosenOf, IsToldBy, content_at, try_of}
use Rattle.dr_opening.proofs.Lists.{handed_is}
use Rattle.dr_opening.proofs.Ways.{KeepsVotes, rising_brought, rising_has, rising_keeps, voted_has, voting_brought, voting_keeps, voting_lists, voting_waits}

-- ---- who is in the set

-- who is there by the start are those whose logs are there
present_are : (o : Opening) (contents : List (Option OnLog)) (start : Start) (m : ℕ) (b : Bool)
    → IsChosenOf o contents start → length o.messages ≤ 16 → is_some (content_at contents m) ≡ b
    → (b ≡ true → m < length o.messages) → has start.present m ≡ b
present_are o contents start m b is few there within = ap (λ x. has x m) is.chosen.present
    ∙ has_mask_of (λ i. has (whole_roster o) i && is_some (handed_by (all_as_lists contents) i)) m
    ∙ by b (ap is_some (handed_is contents m) ∙ same (content_at contents m) ∙ there) within
  where
    same : (c : Option OnLog) → is_some (option_map as_lists c) ≡ is_some c
    same None = refl
    same (Some c) = refl

    by : (b : Bool) → is_some (handed_by (all_as_lists contents) m) ≡ b → (b ≡ true → m < length o.messages)
        → (nat_lt m 16 && (has (whole_roster o) m && is_some (handed_by (all_as_lists contents) m))) ≡ b
    by true e l =
        let below = l refl in grind (arith, e, below, few, has_ones (length o.messages) m)
    by false e l = grind (arith, e)

pub in_set : (o : Opening) (contents : List (Option OnLog)) (start : Start) (m : ℕ) (c : OnLog)
    → IsChosenOf o contents start → length o.messages ≤ 16 → content_at contents m ≡ Some c
    → has start.present m ≡ true
in_set o contents start m c is few at = present_are o contents start m true is few (ap is_some at)
    (λ e. omega (arith, within_places contents m c at, is.all))

pub out_of_set : (o : Opening) (contents : List (Option OnLog)) (start : Start) (m : ℕ) → IsChosenOf o contents start
    → length o.messages ≤ 16 → content_at contents m ≡ None → has start.present m ≡ false
out_of_set o contents start m is few at =
    present_are o contents start m false is few (ap is_some at) (λ e. absurd (cc))

-- ---- the choice, of lists of all members

-- a log that was handed in, by the set
handed_so : (o : Opening) (contents : List (Option OnLog)) (before : List LogLists) (start : Start) (m : ℕ)
    → IsChosenOf o contents start → length o.messages ≤ 16 → AreAmong contents before → (c : Option OnLog)
    → content_at contents m ≡ c → handed_by (all_as_lists contents) m ≡ of_set before start.present m
handed_so o contents before start m is few among (Some c) at = handed_is contents m ∙ ap (option_map as_lists) at
    ∙ sym (ap (λ b. if b then slice_get before m else None) (in_set o contents start m c is few at) ∙ among m c at)
handed_so o contents before start m is few among None at = handed_is contents m ∙ ap (option_map as_lists) at
    ∙ sym (ap (λ b. if b then slice_get before m else None) (out_of_set o contents start m is few at))

pub chosen_by : (o : Opening) (contents : List (Option OnLog)) (before : List LogLists) (start : Start)
    → IsChosenOf o contents start → length o.messages ≤ 16 → AreAmong contents before
    → IsChosenStart o (of_set before start.present) start
chosen_by o contents before start is few among =
    let same : handed_by (all_as_lists contents) ≡ of_set before start.present = fun_ext λ m.
    handed_so o contents before start m is few among (content_at contents m) refl in
    subst (λ (h : Handed). IsChosenStart o h start) same is.chosen

-- ---- the try

-- what is known of logs that came to something, over which a start was chosen
pub record Knows (P : OnLog → OnLog → Type 0) (o : Opening) (contents : List (Option OnLog))
    (before after : List LogLists) (start : Start) : Type 0 where
  pub is : IsChosenOf o contents start
  pub few : length o.messages ≤ 16
  pub among : AreAmong contents before
  pub came : CameSo P contents before after

-- a log of the set was there, and came to something
there : (P : OnLog → OnLog → Type 0) (o : Opening) (contents : List (Option OnLog)) (before after : List LogLists)
    (start : Start) (m : ℕ) → Knows P o contents before after start → has start.present m ≡ true → (c : OnLog)
    × (now : OnLog) × (content_at contents m ≡ Some c) × P c now × (slice_get after m ≡ Some (as_lists now))
there P o contents before after start m k inside = by (content_at contents m) refl
  where
    by : (d : Option OnLog) → content_at contents m ≡ d → (c : OnLog)
        × (now : OnLog) × (content_at contents m ≡ Some c) × P c now × (slice_get after m ≡ Some (as_lists now))
    by None at = absurd (let e = sym (out_of_set o contents start m k.is k.few at) ∙ inside in cc)
    by (Some c) at = let one = k.came.each m c at in (c, one.0, at, one.1, one.2)

-- of a log that is not in the set nothing changed
beside : (P : OnLog → OnLog → Type 0) (o : Opening) (contents : List (Option OnLog)) (before after : List LogLists)
    (start : Start) (m : ℕ) → Knows P o contents before after start → has start.present m ≡ false
    → slice_get after m ≡ slice_get before m
beside P o contents before after start m k outside = by (content_at contents m) refl
  where
    by : (c : Option OnLog) → content_at contents m ≡ c → slice_get after m ≡ slice_get before m
    by None at = k.came.others m at
    by (Some c) at = absurd (let e = sym (in_set o contents start m c k.is k.few at) ∙ outside in cc)

-- what was on a log of the set, and what is on it now
pub record Both (P : OnLog → OnLog → Type 0) (old new : LogLists) : Type 0 where
  pub c : OnLog
  pub now : OnLog
  pub was : old ≡ as_lists c
  pub are : new ≡ as_lists now
  pub way : P c now

both_there : (P : OnLog → OnLog → Type 0) (o : Opening) (contents : List (Option OnLog))
    (before after : List LogLists) (start : Start) (m : ℕ) (old new : LogLists)
    → Knows P o contents before after start → has start.present m ≡ true → slice_get before m ≡ Some old
    → slice_get after m ≡ Some new → Both P old new
both_there P o contents before after start m old new k inside was are =
    let one = there P o contents before after start m k inside in
    record {
      c = one.0;
      now = one.1;
      was = same_Some old (as_lists one.0) (sym was ∙ k.among m one.0 one.2);
      are = same_Some new (as_lists one.1) (sym are ∙ one.4);
      way = one.3;
    }

-- the votes of either kind stay
abbrev Stay : LogLists → LogLists → Type 0
Stay old new = (new.votes ≡ old.votes) × ((x : AgeVote) → Contains old.age_votes x → Contains new.age_votes x)

votes_stay : (P : OnLog → OnLog → Type 0) (o : Opening) (contents : List (Option OnLog))
    (before after : List LogLists) (start : Start) (m : ℕ) (old new : LogLists)
    → Knows P o contents before after start → ((c now : OnLog) → P c now → KeepsVotes c now)
    → slice_get before m ≡ Some old → slice_get after m ≡ Some new → Stay old new
votes_stay P o contents before after start m old new k keeps was are = by (has start.present m) refl
  where
    by : (b : Bool) → has start.present m ≡ b → Stay old new
    by false outside =
        let same = same_Some old new (sym was ∙ sym (beside P o contents before after start m k outside) ∙ are) in
        subst (Stay old) same (refl, λ x here. here)
    by true inside =
        let two = both_there P o contents before after start m old new k inside was are in
        let kept = keeps two.c two.now two.way in (
          ap (λ (l : LogLists). l.votes) two.are ∙ kept.votes ∙ sym (ap (λ (l : LogLists). l.votes) two.was),
          λ x here. subst (λ l. Contains l x) (sym (ap (λ (l : LogLists). l.age_votes) two.are))
              (kept.age_votes x (subst (λ l. Contains l x) (ap (λ (l : LogLists). l.age_votes) two.was) here)),
        )

pub try_made : (P : OnLog → OnLog → Type 0) (o : Opening) (contents : List (Option OnLog))
    (before after : List LogLists) (start : Start) (opened : Bool) → Knows P o contents before after start
    → ((c now : OnLog) → P c now → KeepsVotes c now)
    → ((c now : OnLog) → P c now → MayBeBroughtUp start c.entries now.entries)
    → (opened ≡ false → (c now : OnLog) → P c now → MayHaveAgeVote start (as_lists c) (as_lists now))
    → (opened ≡ true → HaveAgeVote after start.present start)
    → (opened ≡ false → ¬ HaveAgeVote after start.present start) → IsTry o before after (try_of start opened)
try_made P o contents before after start opened k keeps brought waits have lack = record {
  choice = chosen_by o contents before start k.is k.few k.among;
  set = refl;
  places = k.came.all;
  others = λ m outside. beside P o contents before after start m k outside;
  votes = λ m old new was are. votes_stay P o contents before after start m old new k keeps was are;
  opened = have;
  unopened = lack;
  waits = λ e m old new in_set are.
      let two = both_there P o contents before after start m old new k in_set.0 in_set.1 are in
      subst (λ l. MayHaveAgeVote start l new) (sym two.was)
      (subst (MayHaveAgeVote start (as_lists two.c)) (sym two.are) (waits e two.c two.now two.way));
  brought = λ e m old new in_set are.
      let two = both_there P o contents before after start m old new k in_set.0 in_set.1 are in
      subst (λ (l : LogLists). MayBeBroughtUp start l.entries new.entries) (sym two.was)
      (subst (λ (l : LogLists). MayBeBroughtUp start two.c.entries l.entries) (sym two.are)
      (brought two.c two.now two.way));
}

-- ---- in the second phase

-- the second phase is that of an opened try
all_rising : (o : Opening) (contents : List (Option OnLog)) (before after : List LogLists) (start : Start)
    → Knows (λ c now. IsRising start (voted_for start c) now) o contents before after start
    → HaveAgeVote after start.present start
all_rising o contents before after start k m log inside =
    let one = there (λ c now. IsRising start (voted_for start c) now) o contents before after start m k inside.0 in
    subst (λ (l : LogLists). Contains l.age_votes (age_vote_of start))
    (same_Some (as_lists one.1) log (sym one.4 ∙ inside.1)) (rising_has start one.0 one.1 one.3)

pub tried_rising : (o : Opening) (contents : List (Option OnLog)) (before after : List LogLists) (start : Start)
    → Knows (λ c now. IsRising start (voted_for start c) now) o contents before after start
    → IsTry o before after (try_of start true)
tried_rising o contents before after start k = try_made (λ c now. IsRising start
    (voted_for start c) now) o contents before after start true k (rising_keeps start)
    (rising_brought start) (λ e. absurd (cc)) (λ e. all_rising o contents before after start k) (λ e. absurd (cc))

-- ---- in the first phase

-- all of the first logs have the vote
abbrev HaveVoted : List (Option OnLog) → List LogLists → Start → ℕ → Type 0
HaveVoted contents after start n = (m : ℕ) (c : OnLog) → m < n → content_at contents m ≡ Some c
    → (now : OnLog) × (slice_get after m ≡ Some (as_lists now)) × (now ≡ voted_for start c)

-- one that is there has its lists from before
abbrev HasOne : List (Option OnLog) → List LogLists → Type 0
HasOne contents after = (m : ℕ) × (c : OnLog) × (content_at contents m ≡ Some c)
    × (slice_get after m ≡ Some (as_lists c))

-- so it is of one more
next_voted : (contents : List (Option OnLog)) (before after : List LogLists) (start : Start) (n : ℕ)
    → CameSo (IsVoting start) contents before after → HaveVoted contents after start n
    → (c : Option OnLog) → content_at contents n ≡ c → HaveVoted contents after start (suc n) ⊎ HasOne contents after
next_voted contents before after start n came all None at = inl (λ m c l here. ⊎_elim
    (λ (below : m < n). all m c below here) (λ (above : n ≤ m).
    let same : m ≡ n = omega (arith, above, l) in
    absurd (let e = sym at ∙ ap (content_at contents) (sym same) ∙ here in cc)) (cases_lt m n))
next_voted contents before after start n came all (Some c) at =
    let one = came.each n c at in by one.0 one.2 (voting_lists start c one.0 one.1)
  where
    by : (now : OnLog) → slice_get after n ≡ Some (as_lists now) → (as_lists now ≡ as_lists c)
        ⊎ (now ≡ voted_for start c) → HaveVoted contents after start (suc n) ⊎ HasOne contents after
    by now are (inl same) = inr (n, c, at, are ∙ ap Some same)
    by now are (inr voted) = inl (λ m d l here. ⊎_elim (λ (below : m < n). all m d below here) (λ (above : n ≤ m).
        let same : m ≡ n = omega (arith, above, l) in
        let mine : c ≡ d = same_Some c d (sym at ∙ ap (content_at contents) (sym same) ∙ here) in (
          now,
          ap (slice_get after) same ∙ are,
          voted ∙ ap (voted_for start) mine,
        )) (cases_lt m n))

all_voted : (contents : List (Option OnLog)) (before after : List LogLists) (start : Start)
    → CameSo (IsVoting start) contents before after → (n : ℕ)
    → HaveVoted contents after start n ⊎ HasOne contents after
all_voted contents before after start came zero = inl (λ m c l here. absurd (omega (arith, l)))
all_voted contents before after start came (suc n) = by (all_voted contents before after start came n)
  where
    by : HaveVoted contents after start n ⊎ HasOne contents after
        → HaveVoted contents after start (suc n) ⊎ HasOne contents after
    by (inl all) = next_voted contents before after start n came all (content_at contents n) refl
    by (inr one) = inr one

-- a log that was handed in had no vote for the age
new_vote : (o : Opening) (contents : List (Option OnLog)) (start : Start) (m : ℕ) (c : OnLog)
    → IsChosenOf o contents start → content_at contents m ≡ Some c → Contains c.age_votes (age_vote_of start) → ⊥
new_vote o contents start m c is at here =
    let below : start.age < start.age = is.chosen.age.above m start.age (as_lists c)
    (handed_is contents m ∙ ap (option_map as_lists) at) (inr (inr (age_vote_of start, here, refl))) in
    absurd (omega (arith, below))

pub tried_voting : (o : Opening) (contents : List (Option OnLog)) (before after : List LogLists) (start : Start)
    → Knows (IsVoting start) o contents before after start
    → (opened : Bool) × IsTry o before after (try_of start opened)
tried_voting o contents before after start k = by (all_voted contents before after start k.came (length contents))
  where
    by : HaveVoted contents after start (length contents) ⊎ HasOne contents after
        → (opened : Bool) × IsTry o before after (try_of start opened)
    by (inl all) = (
      true,
      try_made (IsVoting start) o contents before after start true k (voting_keeps start) (voting_brought start)
          (λ e. absurd (cc)) (λ e m log inside.
          let one = there (IsVoting start) o contents before after start m k inside.0 in
          let mine = all m one.0 (within_places contents m one.0 one.2) one.2 in
          subst (λ (l : LogLists). Contains l.age_votes (age_vote_of start)) (same_Some (as_lists mine.0) log
          (sym mine.1 ∙ inside.1)) (voted_has start one.0 mine.0 mine.2)) (λ e. absurd (cc)),
    )
    by (inr (m, c, at, are)) = (
      false,
      try_made (IsVoting start) o contents before after start false k (voting_keeps start) (voting_brought start)
          (λ e. voting_waits start) (λ e. absurd (cc)) (λ e have. new_vote o contents start m c k.is at
          (have m (as_lists c) (in_set o contents start m c k.is k.few at, are))),
    )

-- ---- in either phase, by what the logs tell

told_so : (o : Opening) (contents : List (Option OnLog)) (before after : List LogLists) (start : Start)
    (opened : Bool) → length o.messages ≤ 16 → IsChosenOf o contents start → AreAmong contents before
    → HasStoppedSo start contents before after → IsToldBy after (try_of start opened)
    → IsTry o before after (try_of start opened)
told_so o contents before after start opened few is among (inl came) told =
    try_made (IsVoting start) o contents before after start opened
    (record { is = is; few = few; among = among; came = came }) (voting_keeps start) (voting_brought start)
    (λ e. voting_waits start) told.opened told.unopened
told_so o contents before after start opened few is among (inr came) told =
    let k : Knows (λ c now. IsRising start (voted_for start c) now) o contents before after start = record {
      is = is;
      few = few;
      among = among;
      came = came;
    } in
    try_made (λ c now. IsRising start (voted_for start c) now) o contents before after start opened k
    (rising_keeps start) (rising_brought start)
    (λ e. absurd (told.unopened e (all_rising o contents before after start k))) told.opened told.unopened

pub told_try : (o : Opening) (contents : List (Option OnLog)) (before after : List LogLists) (try : Attempt)
    → length o.messages ≤ 16 → IsChosenOf o contents try.start → AreAmong contents before
    → HasStoppedSo try.start contents before after → IsToldBy after try → IsTry o before after try
told_try o contents before after try few is among came told =
    let same : try ≡ try_of try.start try.opened =
    ap (λ s. record { set = s; start = try.start; opened = try.opened }) told.set in
    subst (IsTry o before after) (sym same)
    (told_so o contents before after try.start try.opened few is among came (subst (IsToldBy after) same told))

pub some_try : (o : Opening) (contents : List (Option OnLog)) (before after : List LogLists) (start : Start)
    → length o.messages ≤ 16 → IsChosenOf o contents start → AreAmong contents before
    → HasStoppedSo start contents before after → (opened : Bool) × IsTry o before after (try_of start opened)
some_try o contents before after start few is among (inl came) =
    tried_voting o contents before after start (record { is = is; few = few; among = among; came = came })
some_try o contents before after start few is among (inr came) =
    (true, tried_rising o contents before after start (record { is = is; few = few; among = among; came = came }))
