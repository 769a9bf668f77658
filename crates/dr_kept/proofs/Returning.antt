-- What is on the same logs behind an age is refused only where no number is left.
use Rattle.std.specs.Prelude.{Option, None, Some, is_some, option_map}
use Rattle.std.proofs.Common.{◌≡◌, refl, ap, sym, ◌∙◌, ◌⊎◌, inl, inr, subst, ℕ, ◌≤◌, ◌&&◌, arith, true, List, [], Contains}
use Rattle.std.proofs.{Math.Path.fun_ext, lemmas.Option.none-some}
use Rattle.dr_entry.specs.{declared.entry.Entry.{Entry, TheVariants.View}, declared.record.Vote.Vote}
use Rattle.dr_history.specs.{History.IsPrefixOf, Members.has, Restarting.AllStand, Soundness.whole_roster}
use Rattle.dr_history.proofs.{Keeping.{front_of, both_along}, LastViews.{last-view, view-come, view-late}}
use Rattle.dr_history.proofs.{Lists.{prefix-in, prefix-trans}, Standing.part-stands}
use Rattle.dr_log_bytes.specs.Content.{OnLog}
use Rattle.dr_machine.{specs.{Group.{Group, IsPresent}, World.World}, proofs.{Ends.first-in, Presence.is_there}}
use Rattle.dr_program.specs.{Program.Program, Reading.world}
use Rattle.dr_restart.specs.Choosing.{AreFirst, AreOfHolders, AreOfNobody, AreOnHolder, EndsInAge, Handed, HasAge, HasQuorum, handed_of}
use Rattle.dr_restart.specs.{Groups.{first_group_of, group_of}, declared.{lists.LogLists.LogLists, start.Start.Start}}
use Rattle.dr_restart.specs.Refusing.{AreHoldersAlong, HaveNothingForeign, IsRefusedFor, Refusal, Refusal.AgesUsedUp}
use Rattle.dr_restart.proofs.{ByMessages.refused-by-messages, Handing.left-vote, Refusals.one-first}
use Rattle.dr_script.{specs.{Ranges.HasGroupRanges, declared.script.Script.Script}, proofs.Ranges.few}
use Rattle.dr_words.specs.Masks.{IsMajorityOf, mask_of}
use Rattle.dr_world_laws.proofs.Ended.{no-later, stands}
use Rattle.dr_quorum.specs.Handing.{handed_by}
use Rattle.dr_quorum_laws.{specs.Returning.{HasHandedIn, HaveReturned}, proofs.AllThere.returned-pass}
use Rattle.dr_quorum_laws.proofs.{Extra.vote-present, Handing.Since}
use Rattle.dr_opening.specs.{Lists.{all_as_lists, as_lists}, Tries.{IsChosenOf, content_at}}
use Rattle.dr_opening.proofs.Lists.{handed_is, handed_there}
use Rattle.dr_kept.{specs.Leaving.{AreLeftFrom, IsAgeOfChoice}, proofs.Chosen.{IsKnownAge, has_log, known_age}}
use Rattle.dr_kept.proofs.Following.{IsFrontAt, ages_within, front_at, lists_with, since_age}
use Rattle.dr_kept.proofs.Leaving.{left_by_member}

-- an age that has ended, and what is on the same logs behind it
pub record IsBehindAge (script : Script) (start : Start) (nth : ℕ) (found after : List (Option OnLog)) (p : Program)
    : Type 0 where
  pub ranges : HasGroupRanges script
  pub is : IsAgeOfChoice script start nth found p
  pub knows : IsKnownAge script start p
  pub left : AreLeftFrom start found p after

-- the logs that are handed in
abbrev pub handed_from : List (Option OnLog) → Handed
handed_from after = handed_by (all_as_lists after)

-- each of them is one of those that are there
record IsThere (g : Group) (w : World) (after : List (Option OnLog)) (m : ℕ) (log : LogLists) : Type 0 where
  content : OnLog
  at : content_at after m ≡ Some content
  is : as_lists content ≡ log
  front : IsFrontAt g w m content

there_so : (script : Script) (start : Start) (nth : ℕ) (found after : List (Option OnLog)) (p : Program) (m : ℕ)
    (log : LogLists) → IsBehindAge script start nth found after p → handed_from after m ≡ Some log
    → IsThere (group_of script start) (world (group_of script start) p) after m log
there_so script start nth found after p m log b at =
    let t = handed_there after m log (sym (handed_is after m) ∙ at) in record {
      content = t.0;
      at = t.1;
      is = t.2;
      front = front_at script start nth found after p m t.0 b.ranges b.is b.knows b.left t.1;
    }

-- all their entries may stand
sound_behind : (script : Script) (start : Start) (nth : ℕ) (found after : List (Option OnLog)) (p : Program)
    → IsBehindAge script start nth found after p
    → HaveNothingForeign (group_of script start).opening (handed_from after)
sound_behind script start nth found after p b m log at =
    let t = there_so script start nth found after p m log b at in
    subst (λ (l : LogLists). AllStand (group_of script start).opening l.entries) t.is
    (part-stands (group_of script start).opening t.content.entries
    ((world (group_of script start) p).past.history m) t.front.front
    (stands (group_of script start) (world (group_of script start) p) m b.knows.group b.knows.known t.front.present))

-- they are those that were handed in before
quorum_behind : (script : Script) (start : Start) (nth : ℕ) (found after : List (Option OnLog)) (p : Program)
    → IsBehindAge script start nth found after p
    → HasQuorum (handed_from after) (whole_roster (group_of script start).opening)
quorum_behind script start nth found after p b =
    subst (λ mask. IsMajorityOf mask whole) same b.is.chosen.chosen.quorum
  where
    whole : ℕ
    whole = whole_roster (group_of script start).opening

    some_lists : (o : Option OnLog) → is_some (option_map as_lists o) ≡ is_some o
    some_lists None = refl
    some_lists (Some c) = refl

    is_there_both : (m : ℕ) → is_some (handed_from found m) ≡ is_some (handed_from after m)
    is_there_both m = ap is_some (handed_is found m) ∙ some_lists (content_at found m) ∙ sym (b.left.same m)
        ∙ sym (ap is_some (handed_is after m) ∙ some_lists (content_at after m))

    same : handed_of (handed_from found) (whole_roster (group_of script start).opening)
        ≡ handed_of (handed_from after) (whole_roster (group_of script start).opening)
    same = ap mask_of (fun_ext λ m. ap (λ x. has whole m && x) (is_there_both m))

-- of any two holders one is a front of the other
along_behind : (script : Script) (start : Start) (nth : ℕ) (found after : List (Option OnLog)) (p : Program) (age : ℕ)
    → IsBehindAge script start nth found after p → AreHoldersAlong (handed_from after) age
along_behind script start nth found after p age b f g x y = both_along f g since.held.history (part f x) (part g y)
  where
    since : Since (group_of script start) (world (group_of script start) p) (lists_with after) [] (lists_with after)
    since = since_age script start nth found after p b.ranges b.is b.knows b.left

    part : (es : List Entry) → AreOnHolder (handed_from after) age es → IsPrefixOf es since.held.history
    part es (m, log, at, ends, e) =
        let t = there_so script start nth found after p m log b at in
        subst (λ l. IsPrefixOf l since.held.history) (ap (λ (l : LogLists). l.entries) t.is ∙ sym e)
        (prefix-trans t.content.entries ((world (group_of script start) p).past.history m) since.held.history
        t.front.front (since.held.longest.longest m t.front.present))

-- the last View on each is of the age
age_behind : (script : Script) (start : Start) (nth : ℕ) (found after : List (Option OnLog)) (p : Program) (m age : ℕ)
    (log : LogLists) → IsBehindAge script start nth found after p → handed_from after m ≡ Some log
    → EndsInAge log age → age ≡ start.age
age_behind script start nth found after p m age log b at (v, last, same) = omega (arith, early, late, same)
  where
    g : Group
    g = group_of script start

    w : World
    w = world g p

    t : IsThere (group_of script start) (world (group_of script start) p) after m log
    t = there_so script start nth found after p m log b at

    entries : t.content.entries ≡ log.entries
    entries = ap (λ (l : LogLists). l.entries) t.is

    first : Contains log.entries (View start.age 0 start.members)
    first = subst (λ es. Contains es (View start.age 0 start.members)) entries
        (first-in g t.content.entries t.front.first)

    late : start.age ≤ v.age
    late = view-late g.opening log.entries start.age 0 start.members v
        (sound_behind script start nth found after p b m log at) first last

    early : v.age ≤ start.age
    early =
        let x = last-view log.entries v last in
        no-later g w m v.age v.number x.0 b.knows.group b.knows.known t.front.present
        (prefix-in t.content.entries (w.past.history m) (View v.age v.number x.0) t.front.front
        (subst (λ es. Contains es (View v.age v.number x.0)) (sym entries) x.1))

-- and View 0 of it has the members of the start
first_behind : (script : Script) (start : Start) (nth : ℕ) (found after : List (Option OnLog)) (p : Program)
    (age first : ℕ) → IsBehindAge script start nth found after p → AreFirst (handed_from after) age first
    → first ≡ start.members
first_behind script start nth found after p age first b (es, (m, log, at, ends, e), c) =
    one-first (group_of script start).opening (handed_from after) age first start.members
    (sound_behind script start nth found after p b) (along_behind script start nth found after p age b)
    (es, (m, log, at, ends, e), c)
    (es, (m, log, at, ends, e), subst (λ a. Contains es (View a 0 start.members)) (sym same) own)
  where
    same : age ≡ start.age
    same = age_behind script start nth found after p m age log b at ends

    t : IsThere (group_of script start) (world (group_of script start) p) after m log
    t = there_so script start nth found after p m log b at

    own : Contains es (View start.age 0 start.members)
    own = subst (λ l. Contains l (View start.age 0 start.members)) (ap (λ (l : LogLists). l.entries) t.is ∙ sym e)
        (first-in (group_of script start) t.content.entries t.front.first)

returned : (script : Script) (start : Start) (nth : ℕ) (found after : List (Option OnLog)) (p : Program)
    → IsBehindAge script start nth found after p → HaveReturned (group_of script start).opening (handed_from after)
returned script start nth found after p b = record {
  enough = (sound_behind script start nth found after p b, quorum_behind script start nth found after p b);
  along = λ age last. along_behind script start nth found after p age b;
  first = λ age first m last of there. back m (is_there (group_of script start) m b.knows.group
      (subst (λ mask. has mask m ≡ true) (first_behind script start nth found after p age first b of) there));
  named = λ age k m log x last at c same l named. back m (voted k m log x at c
      (same ∙ age_behind script start nth found after p last.some.0 age last.some.1 b last.some.2 last.some.3) named);
}
  where
    -- whom a vote of the age names is there
    voted : (k m : ℕ) (log : LogLists) (x : Vote) → handed_from after k ≡ Some log → Contains log.votes x
        → x.age ≡ start.age → has x.value.leavers m ≡ true → IsPresent (group_of script start) m
    voted k m log x at c same named =
        let t = there_so script start nth found after p k log b at in
        vote-present (group_of script start) (world (group_of script start) p) k m x b.knows.group b.knows.known
        (left-vote (group_of script start) (world (group_of script start) p) k (as_lists t.content) x
        (left_by_member script start nth found p k t.content b.is b.knows (b.left.each k t.content t.at))
        (subst (λ (l : LogLists). Contains l.votes x) (sym t.is) c) same) named

    some_handed : (o : Option OnLog) → is_some o ≡ true → is_some (option_map as_lists o) ≡ true
    some_handed (Some c) e = refl
    some_handed None e = absurd (cc)

    back : (m : ℕ) → IsPresent (group_of script start) m → HasHandedIn (handed_from after) m
    back m present = ap is_some (handed_is after m)
        ∙ some_handed (content_at after m) (b.left.same m ∙ has_log script start nth found p m b.ranges b.is present)

-- they are refused only as no number is left
refused_last : (script : Script) (start : Start) (nth : ℕ) (found after : List (Option OnLog)) (p : Program)
    → IsBehindAge script start nth found after p
    → IsRefusedFor (group_of script start).opening (handed_from after) AgesUsedUp → start.age ≡ 65535
refused_last script start nth found after p b (enough, path, m, log, at, has_age) =
    let t = there_so script start nth found after p m log b at in
    omega (
      arith,
      ages_within script start nth found after p m 65535 t.content b.ranges b.is b.knows b.left t.at
          (subst (λ l. HasAge l 65535) (sym t.is) has_age),
      b.knows.group.age,
    )

pub refused_behind : (script : Script) (start : Start) (nth : ℕ) (found after : List (Option OnLog)) (p : Program)
    (why : Refusal) → HasGroupRanges script → 1 ≤ script.turns → IsAgeOfChoice script start nth found p
    → AreLeftFrom start found p after → IsRefusedFor (first_group_of script).opening (handed_from after) why
    → (why ≡ AgesUsedUp) × (start.age ≡ 65535)
refused_behind script start nth found after p why ranges some is left x = (
  last,
  refused_last script start nth found after p b
      (subst (IsRefusedFor (group_of script start).opening (handed_from after)) last refused),
)
  where
    b : IsBehindAge script start nth found after p
    b = record { ranges = ranges; is = is; knows = known_age script start nth found p ranges some is; left = left }

    refused : IsRefusedFor (group_of script start).opening (handed_from after) why
    refused = refused-by-messages (first_group_of script).opening (group_of script start).opening
        (handed_from after) why refl x

    last : why ≡ AgesUsedUp
    last = returned-pass (group_of script start).opening (handed_from after) why (few script ranges)
        (returned script start nth found after p b) refused

-- ---- the next start has all that is on them

-- each ends in a view of the age
ends_behind : (script : Script) (start : Start) (nth : ℕ) (found after : List (Option OnLog)) (p : Program) (m : ℕ)
    (c : OnLog) → IsBehindAge script start nth found after p → content_at after m ≡ Some c
    → EndsInAge (as_lists c) start.age
ends_behind script start nth found after p m c b at =
    let f = front_at script start nth found after p m c b.ranges b.is b.knows b.left at in
    let come = view-come (group_of script start).opening c.entries start.age 0 start.members
    (sound_behind script start nth found after p b m (as_lists c) handed)
    (first-in (group_of script start) c.entries f.first) in
    (come.0, come.1, age_behind script start nth found after p m come.0.age (as_lists c) b handed (come.0, come.1, refl))
  where
    handed : handed_from after m ≡ Some (as_lists c)
    handed = handed_is after m ∙ ap (option_map as_lists) at

pub next_has_all : (script : Script) (start next : Start) (nth : ℕ) (found after : List (Option OnLog)) (p : Program)
    (m : ℕ) (c : OnLog) → HasGroupRanges script → 1 ≤ script.turns → IsAgeOfChoice script start nth found p
    → AreLeftFrom start found p after → IsChosenOf (first_group_of script).opening after next
    → content_at after m ≡ Some c → IsPrefixOf c.entries next.entries
next_has_all script start next nth found after p m c ranges some is left chosen at = by chosen.chosen.entries
  where
    b : IsBehindAge script start nth found after p
    b = record { ranges = ranges; is = is; knows = known_age script start nth found p ranges some is; left = left }

    ends : EndsInAge (as_lists c) start.age
    ends = ends_behind script start nth found after p m c b at

    handed : handed_from after m ≡ Some (as_lists c)
    handed = handed_is after m ∙ ap (option_map as_lists) at

    by : AreOfHolders (first_group_of script).opening (handed_from after) next.entries
        ⊎ AreOfNobody (handed_from after) next.entries → IsPrefixOf c.entries next.entries
    by (inl held) =
        let last = age_behind script start nth found after p held.last.some.0 held.age held.last.some.1 b
        held.last.some.2 held.last.some.3 in
        let own : AreOnHolder (handed_from after) held.age c.entries =
        (m, as_lists c, handed, (ends.0, ends.1, ends.2 ∙ sym last), refl) in
        front_of c.entries next.entries (held.along c.entries next.entries own held.held) (held.longest c.entries own)
    by (inr nobody) = absurd (none-some ends.0 (sym (nobody.nobody m (as_lists c) handed) ∙ ends.1))
