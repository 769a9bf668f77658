-- The next age keeps what the one before has delivered durably.
use Rattle.std.specs.{Option.option_map_or, Prelude.{Option, None, Some, option_map, slice_get}}
use Rattle.std.proofs.Common.{◌≡◌, refl, ap, sym, ◌∙◌, ◌⊎◌, inl, inr, subst, ℕ, ◌+◌, ◌<◌, ◌≤◌, arith, List, [], ◌∷◌, length, map, take, Contains}
use Rattle.std.proofs.lemmas.List.{length-map, Elements.Contains-append_cases}
use Rattle.std.proofs.lemmas.Option.{none-some, same_Some, slice_get-map}
use Rattle.dr_entry.specs.declared.{end.MemberEnd.MemberEnd, entry.Entry.TheVariants.View}
use Rattle.dr_entry.{specs.declared.record.AgeVote.AgeVote, proofs.ListParts.{in-cases, in-nothing}}
use Rattle.dr_history.specs.{Agreement.accounts_of, History.IsPrefixOf, Order.first_entries, Restarting.Kept}
use Rattle.dr_history.proofs.Lists.{prefix-in}
use Rattle.dr_log_bytes.specs.Content.{OnLog}
use Rattle.dr_machine.{specs.{Group.{Group, IsPresent}, Run.accounts_in, World.World}, proofs.Presence.in_roster}
use Rattle.dr_program.specs.{Presence.present_at, Program.{Program, end_at}, Reading.{table_of, world}}
use Rattle.dr_program.{specs.Running.Running, proofs.Holdings.{Holding, held, held_of, holding_of}}
use Rattle.dr_program.proofs.{Present.{present_slice, slice_present, replica_at}, Replicas.replicas_of}
use Rattle.dr_restart.specs.{Choosing.{HasAge, IsChosenStart, of_set}, Groups.{first_group_of, group_of}}
use Rattle.dr_restart.specs.{Left.{IsLeftByOther, votes_of_age}, Trying.age_vote_of, declared.lists.LogLists.LogLists}
use Rattle.dr_restart.{specs.declared.start.Start.Start, proofs.{ByMessages.start-by-messages, Groups.nothing_left}}
use Rattle.dr_restart.proofs.{Handing.left-entries, Trying.nothing_on}
use Rattle.dr_script.{specs.{Ranges.HasGroupRanges, declared.script.Script.Script}, proofs.Ranges.few}
use Rattle.dr_world_laws.proofs.{Ended.no-later, Worlds.agreed}
use Rattle.dr_quorum_laws.proofs.{Chosen.chosen-keeps, Grown.first-kept, Handing.{Since, first-there}}
use Rattle.dr_quorum_laws.proofs.Keeping.{choice-keeps, since-left}
use Rattle.dr_quorum.specs.Handing.{handed_by}
use Rattle.dr_opening.specs.{Lists.{all_as_lists, as_lists}, Tries.{AreAmong, IsChosenOf, content_at}}
use Rattle.dr_opening.proofs.{Lists.{handed_is, handed_there}, Trying.chosen_by, Ways.base_age_votes}
use Rattle.dr_kept.specs.Leaving.{AreLeftFrom, IsAgeOfChoice, IsLeftAt}
use Rattle.dr_kept.proofs.{Behind.{AreLeftByOthers, left_behind}, Leaving.{age_votes_stay, left_by_member}}
use Rattle.dr_kept.proofs.Chosen.{IsKnownAge, age_above, behind_there, known_age}

-- ---- logs of all members: those that are there, and of each other one an empty one

abbrev pub lists_with : List (Option OnLog) → List LogLists
lists_with contents = map (λ o. option_map_or as_lists o nothing_on) contents

pub among_lists : (contents : List (Option OnLog)) → AreAmong contents (lists_with contents)
among_lists contents m c at = slice_get-map (λ o. option_map_or as_lists o nothing_on) contents m
    ∙ ap (option_map (λ o. option_map_or as_lists o nothing_on)) (present_slice contents m c at)

others_nothing : (script : Script) (start : Start) (nth : ℕ) (found after : List (Option OnLog)) (p : Program)
    → HasGroupRanges script → IsAgeOfChoice script start nth found p → AreLeftFrom start found p after
    → AreLeftByOthers script start (lists_with after)
others_nothing script start nth found after p ranges is left m log absent at = by (slice_get after m) refl
    (sym (slice_get-map (λ o. option_map_or as_lists o nothing_on) after m) ∙ at)
  where
    by : (o : Option (Option OnLog)) → slice_get after m ≡ o
        → option_map (λ o. option_map_or as_lists o nothing_on) (slice_get after m) ≡ Some log
        → IsLeftByOther (group_of script start) log
    by None here e = absurd (none-some log
        (ap (option_map (λ o. option_map_or as_lists o nothing_on)) (sym here) ∙ e))
    by (Some None) here e = subst (IsLeftByOther (group_of script start)) (same_Some nothing_on log
        (ap (option_map (λ o. option_map_or as_lists o nothing_on)) (sym here) ∙ e)) (nothing_left script start)
    by (Some (Some c)) here e = absurd (absent
        (behind_there script start nth found after p m c ranges is left (slice_present after m (Some c) here)))

-- what is known behind the age
pub since_age : (script : Script) (start : Start) (nth : ℕ) (found after : List (Option OnLog)) (p : Program)
    → HasGroupRanges script → IsAgeOfChoice script start nth found p → IsKnownAge script start p
    → AreLeftFrom start found p after
    → Since (group_of script start) (world (group_of script start) p) (lists_with after) [] (lists_with after)
since_age script start nth found after p ranges is k left =
    since-left (group_of script start) (world (group_of script start) p) (lists_with after) k.group k.known k.majority
    (left_behind script start nth found after p (lists_with after) ranges is k left long (among_lists after)
    (others_nothing script start nth found after p ranges is left))
  where
    long : length (lists_with after) ≡ script.members
    long = length-map after (λ o. option_map_or as_lists o nothing_on) ∙ left.all ∙ is.chosen.all ∙ ranges.lists

-- the next start, as one of these lists
pub next_of_set : (script : Script) (start next : Start) (after : List (Option OnLog)) → HasGroupRanges script
    → IsChosenOf (first_group_of script).opening after next
    → IsChosenStart (group_of script start).opening (of_set (lists_with after) next.present) next
next_of_set script start next after ranges chosen = start-by-messages (first_group_of script).opening
    (group_of script start).opening
    (of_set (lists_with after) next.present) next refl (chosen_by (first_group_of script).opening after
    (lists_with after) next chosen (few script ranges) (among_lists after))

-- ---- the accounts of the members that were there

pub record IsAccountOf (g : Group) (p : Program) (m : ℕ) : Type 0 where
  pub history : (accounts_of (map end_at p.members) m).history ≡ (world g p).past.history m
  pub durable : (accounts_of (map end_at p.members) m).durable ≡ (world g p).past.durable m

pub account_of : (script : Script) (start : Start) (p : Program) (m : ℕ) → IsKnownAge script start p
    → IsPresent (group_of script start) m → IsAccountOf (group_of script start) p m
account_of script start p m k present = record {
  history = ap (λ o. option_map_or (λ (e : MemberEnd). e.history) o []) end
      ∙ sym (ap (λ (h : Holding). h.history) has_of);
  durable = ap (λ o. option_map_or (λ (e : MemberEnd). e.durable) o 0) end
      ∙ sym (ap (λ (h : Holding). h.durable) has_of);
}
  where
    there : (r : Running) × (present_at p.members m ≡ Some r)
    there = k.form.there m (in_roster (group_of script start) m k.group present) present

    end : slice_get (map end_at p.members) m ≡ Some (end_at (Some there.0))
    end = slice_get-map end_at p.members m ∙ ap (option_map end_at) (present_slice p.members m there.0 there.1)

    has_of : held (world (group_of script start) p) m ≡ holding_of (group_of script start) there.0.replica
    has_of = held_of (group_of script start) (replicas_of p) (table_of p) m there.0.replica
        (replica_at p m there.0 there.1)

kept_by_ends : (script : Script) (start next : Start) (p : Program) → IsKnownAge script start p
    → Kept (group_of script start).opening (accounts_in (world (group_of script start) p))
    (group_of script next).opening
    → Kept (group_of script start).opening (accounts_of (map end_at p.members)) (group_of script next).opening
kept_by_ends script start next p k kept = record {
  later = kept.later;
  delivered = (
    kept.delivered.0,
    kept.delivered.1,
    subst (IsPrefixOf next.entries) (sym (account_of script start p kept.delivered.0 k kept.delivered.1).history)
        kept.delivered.2,
  );
  durable = λ m present.
      let a = account_of script start p m k present in
      subst (λ n. IsPrefixOf (take n (accounts_of (map end_at p.members) m).history) next.entries) (sym a.durable)
      (subst (λ h. IsPrefixOf (take ((world (group_of script start) p).past.durable m) h) next.entries)
      (sym a.history) (kept.durable m present));
}

-- ---- the next age

kept_in : (script : Script) (start next : Start) (nth : ℕ) (found after : List (Option OnLog)) (p : Program)
    → HasGroupRanges script → IsAgeOfChoice script start nth found p → IsKnownAge script start p
    → AreLeftFrom start found p after → IsChosenOf (first_group_of script).opening after next
    → Kept (group_of script start).opening (accounts_in (world (group_of script start) p))
    (group_of script next).opening
kept_in script start next nth found after p ranges is k left chosen =
    let since = since_age script start nth found after p ranges is k left in
    let choice = next_of_set script start next after ranges chosen in
    choice-keeps (group_of script start) (world (group_of script start) p) (lists_with after) next.present next
    (group_of script next).opening since choice refl (chosen-keeps (group_of script start)
    (world (group_of script start) p) (lists_with after) (lists_with after) [] next.present next since choice).later

pub next_keeps : (script : Script) (start next : Start) (nth : ℕ) (found after : List (Option OnLog)) (p : Program)
    → HasGroupRanges script → 1 ≤ script.turns → IsAgeOfChoice script start nth found p
    → AreLeftFrom start found p after → IsChosenOf (first_group_of script).opening after next
    → Kept (group_of script start).opening (accounts_of (map end_at p.members)) (group_of script next).opening
next_keeps script start next nth found after p ranges some is left chosen =
    let k = known_age script start nth found p ranges some is in
    kept_by_ends script start next p k (kept_in script start next nth found after p ranges is k left chosen)

pub next_begins : (script : Script) (start next : Start) (nth : ℕ) (found after : List (Option OnLog)) (p : Program)
    → HasGroupRanges script → 1 ≤ script.turns → IsAgeOfChoice script start nth found p
    → AreLeftFrom start found p after → IsChosenOf (first_group_of script).opening after next
    → IsPrefixOf (first_entries (group_of script start).opening) next.entries
next_begins script start next nth found after p ranges some is left chosen =
    let k = known_age script start nth found p ranges some is in
    first-kept (group_of script start) (world (group_of script start) p) (lists_with after) (lists_with after) []
    (since_age script start nth found after p ranges is k left) next.entries
    (kept_in script start next nth found after p ranges is k left chosen).durable

-- ---- the ages that are known on the logs

-- what is on the log of a member is a front of its history, with all first entries
pub record IsFrontAt (g : Group) (w : World) (m : ℕ) (c : OnLog) : Type 0 where
  pub present : IsPresent g m
  pub front : IsPrefixOf c.entries (w.past.history m)
  pub first : IsPrefixOf (first_entries g.opening) c.entries

pub front_at : (script : Script) (start : Start) (nth : ℕ) (found after : List (Option OnLog)) (p : Program) (m : ℕ)
    (c : OnLog) → HasGroupRanges script → IsAgeOfChoice script start nth found p → IsKnownAge script start p
    → AreLeftFrom start found p after → content_at after m ≡ Some c
    → IsFrontAt (group_of script start) (world (group_of script start) p) m c
front_at script start nth found after p m c ranges is k left at = record {
  present = present;
  front = (left-entries g w m c.entries (votes_of_age start.age c.votes) ((agreed g w k.group k.known).logged m present)
      (left_by_member script start nth found p m c is k (left.each m c at)).left).1;
  first = first-there g w (lists_with after) (lists_with after) []
      (since_age script start nth found after p ranges is k left) m (as_lists c) present (among_lists after m c at);
}
  where
    g : Group
    g = group_of script start

    w : World
    w = world g p

    present : IsPresent (group_of script start) m
    present = behind_there script start nth found after p m c ranges is left at

-- none is above that of the age
pub ages_within : (script : Script) (start : Start) (nth : ℕ) (found after : List (Option OnLog)) (p : Program) (m a : ℕ)
    (c : OnLog) → HasGroupRanges script → IsAgeOfChoice script start nth found p → IsKnownAge script start p
    → AreLeftFrom start found p after → content_at after m ≡ Some c → HasAge (as_lists c) a → a ≤ start.age
ages_within script start nth found after p m a c ranges is k left at = by
  where
    l : IsLeftAt start found p m c
    l = left.each m c at

    f : IsFrontAt (group_of script start) (world (group_of script start) p) m c
    f = front_at script start nth found after p m c ranges is k left at

    voted : (x : AgeVote) → Contains l.first.age_votes x ⊎ Contains (age_vote_of start ∷ []) x → x.age ≤ start.age
    voted x (inl old) = omega (
      arith,
      age_above script start nth found p m x.age l.first is l.on (inr (inr (x, old, refl))),
    )
    voted x (inr new) = own (in-cases (age_vote_of start) x [] new)
      where
        own : (age_vote_of start ≡ x) ⊎ Contains [] x → x.age ≤ start.age
        own (inl e) = omega (arith, ap (λ (z : AgeVote). z.age) e)
        own (inr none) = absurd (in-nothing x none)

    by : HasAge (as_lists c) a → a ≤ start.age
    by (inl (number, members, h)) = no-later (group_of script start) (world (group_of script start) p) m a number members
        k.group k.known f.present
        (prefix-in c.entries ((world (group_of script start) p).past.history m) (View a number members) f.front h)
    by (inr (inl (x, h, e))) = omega (arith, (left_by_member script start nth found p m c is k l).votes x h, e)
    by (inr (inr (x, h, e))) = omega (
      arith,
      voted x (Contains-append_cases l.first.age_votes (age_vote_of start ∷ []) x (subst (λ votes. Contains votes x)
          (age_votes_stay l.base l.member c (k.form.form m l.member l.there) l.leaves
          ∙ base_age_votes start l.first l.base l.opened) h)),
      e,
    )

pub next_number : (script : Script) (start next : Start) (nth : ℕ) (found after : List (Option OnLog)) (p : Program)
    → HasGroupRanges script → 1 ≤ script.turns → IsAgeOfChoice script start nth found p
    → AreLeftFrom start found p after → IsChosenOf (first_group_of script).opening after next
    → next.age ≡ start.age + 1
next_number script start next nth found after p ranges some is left chosen = by chosen.chosen.age.next
  where
    k : IsKnownAge script start p
    k = known_age script start nth found p ranges some is

    later : start.age < next.age
    later = (kept_in script start next nth found after p ranges is k left chosen).later

    by : (next.age ≡ 0) ⊎ ((a : ℕ) × (m : ℕ) × (log : LogLists) × (handed_by (all_as_lists after) m ≡ Some log)
        × HasAge log a × (next.age ≡ a + 1)) → next.age ≡ start.age + 1
    by (inl none) = absurd (omega (arith, later, none))
    by (inr (a, m, log, at, has_age, e)) =
        let t = handed_there after m log (sym (handed_is after m) ∙ at) in
        omega (
          arith,
          ages_within script start nth found after p m a t.0 ranges is k left t.1
              (subst (λ l. HasAge l a) (sym t.2) has_age),
          later,
          e,
        )
