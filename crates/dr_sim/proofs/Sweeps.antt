-- Sweeps: what comes of a program, and of a log, by looks and pushes of one member.
use Rattle.std.{specs.Prelude.{Option, None, Some}, proofs.lemmas.List.Sums.sum_by-set}
use Rattle.std.proofs.Common.{◌≡◌, refl, sym, ap, ◌∙◌, ◌⊎◌, subst, inl, inr, ℕ, zero, suc, ◌<◌, ◌≤◌, true, false, List, length, le_of_eq, arith}
use Rattle.dr_disk.specs.Disk.{Told}
use Rattle.dr_log.specs.State.{LogState}
use Rattle.dr_machine.specs.Group.{Group}
use Rattle.dr_member.{specs.{Alone.{IsAtSweep, LeadsTo, SeesAlong}, Deeds.table_size}, proofs.Alone.look_step}
use Rattle.dr_program.specs.{Presence.{present_at, with_present}, Program.{Move, Program, next_sight}, Sight.MaySee}
use Rattle.dr_program.specs.{Reading.step_of_member, Schedule.{IsTurn, is_between_turns}, Steps.stored}
use Rattle.dr_program.{specs.Running.{Running, after_step, next_step}, proofs.Present.{present_within, present_set}}
use Rattle.dr_entry.{specs.declared.entry.Entry.Entry, proofs.ListPlaces.set_twice}
use Rattle.dr_turn.specs.Work.{deeds_left}
use Rattle.dr_play.specs.Persisted.{HasPersisted, IsToPersist, persisted, words_persisted}
use Rattle.dr_play.proofs.Persisting.{are_persisting, is_persisted}
use Rattle.dr_play.{specs.Sound.IsSound, proofs.{Deeds.{at_sweep, swept_ready, swept_served}, Sound.whole_table}}
use Rattle.dr_sim.specs.{Deeds.IsTaken, Lists.HasSpare, Places.{HasServedAt, IsReadyAt}, Simulated.WentWell}
use Rattle.dr_sim.specs.{Sound.{IsAmong, IsSomewhere, all_left, left_at, program_over, with_member}, Sweeps.{ComesTo, HasGoneOn, PersistsTo}}
use Rattle.dr_sim.{specs.Watched.{TakesNoNote, WasTold}, proofs.{Deeds.{act_taken, append_taken, other_taken}, Lists.{lists_still, taken_told}}}
use Rattle.dr_sim.proofs.Steps.{HasStepped, sees_well, stepped}
use Rattle.dr_sim.proofs.Turns.{HasTurn, IsInTurn, IsUnderWay, more_moves, stands, turn_ends, turn_goes_on}
use Rattle.dr_world.specs.Posts.{PostsOf}
use Rattle.dr_served.proofs.Appends.{IsSweeping}

-- ---- a member at a look or a push

-- what its next deed makes of it and of the table
pub swept_taken : (words : List ℕ) (posts : List (Option (List Entry))) (r : Running) → IsSweeping r
    → IsTaken words posts r (stored words r.replica (next_step r)) posts (after_step (next_sight words r) r)
swept_taken words posts r is =
    other_taken words posts r _ posts _ is.none is.other is.no_join refl refl (sym (is.posts posts))

-- ---- a member of some sound program

-- it is one of a sound program after its next deed too
pub somewhere_on : (r x : Running) (words cells : List ℕ) (posts mails : List (Option (List Entry)))
    → IsSomewhere r words posts → r.replica.end ≡ None → IsTaken words posts r cells mails x
    → IsSomewhere x cells mails
somewhere_on r x words cells posts mails (g, p, m, is) none taken =
    let now = stepped g p m r x cells mails is.sound is.there none
    (subst (λ (t : List ℕ). IsTaken t p.letters r cells mails x) (sym is.table)
    (subst (λ (t : List (Option (List Entry))). IsTaken words t r cells mails x) (sym is.letters) taken)) in (
      g,
      program_over (with_present p.members m x) cells mails,
      m,
      record {
        sound = now.sound;
        there = present_set p.members m x (present_within p.members m r is.there);
        table = refl;
        letters = refl;
      },
    )

-- so it is wherever looks and pushes lead it
pub leads_somewhere : (n : ℕ) (words : List ℕ) (posts : List (Option (List Entry))) (r : Running)
    (cells : List ℕ) (q : Running) → LeadsTo n words r cells q → IsSomewhere r words posts → IsSomewhere q cells posts
leads_somewhere zero words posts r cells q (same, is) somewhere = subst (λ t. IsSomewhere q t posts) same
    (subst (λ x. IsSomewhere x words posts) is somewhere)
leads_somewhere (suc n) words posts r cells q (due, rest) somewhere = leads_somewhere n _ posts _ cells q rest
    (somewhere_on r (after_step (next_sight words r) r) words (stored words r.replica (next_step r)) posts posts
    somewhere (at_sweep r due).none (swept_taken words posts r (at_sweep r due)))

-- and it may see there what it looks at
pub sees_along : (words : List ℕ) (posts : List (Option (List Entry))) (r : Running) → IsSomewhere r words posts
    → SeesAlong words r
sees_along words posts r somewhere n q lead due =
    let (g, p, m, is) = leads_somewhere n words posts r words q lead somewhere in
    subst (λ t. MaySee q (step_of_member q) (next_sight t q)) is.table
    (sees_well g p m q is.sound is.there q.place.row q.place.column
    (look_step q (is.sound.form.form m q is.there) due))

-- the table has all words that it may name
pub whole_words : (words : List ℕ) (posts : List (Option (List Entry))) (r : Running) → IsSomewhere r words posts
    → table_size r ≤ length words
whole_words words posts r (g, p, m, is) = le_of_eq (whole_table g p m r is.sound is.there ∙ ap length is.table)

-- ---- a turn

-- the program in which the member has gone so far is sound
pub record IsOnWay {W : Type 0} (sees : W → Running → List ℕ → W → Type 0) (old new : W) (g : Group)
    (p : Program) (m : ℕ) (q : Program) : Type 0 where
  pub sound : IsSound g q
  pub turn : IsInTurn sees old new m p q

-- the member has ended its turn
pub record HasTurned {W : Type 0} (sees : W → Running → List ℕ → W → Type 0) (old new : W) (g : Group)
    (p : Program) (m : ℕ) (q : Program) : Type 0 where
  pub sound : IsSound g q
  pub turn : (es : List Move) × IsTurn m p es q × WentWell es q × WasTold sees p es old new

-- it has, or it is still amid it, as its place says
pub record HasGone {W : Type 0} (sees : W → Running → List ℕ → W → Type 0) (old new : W) (g : Group)
    (p : Program) (m : ℕ) (x : Running) (cells : List ℕ) (posts : List (Option (List Entry))) : Type 0 where
  pub amid : is_between_turns (Some x) ≡ false → IsOnWay sees old new g p m (with_member p m x cells posts)
  pub whole : is_between_turns (Some x) ≡ true → HasTurned sees old new g p m (with_member p m x cells posts)

-- its next deed there
steps_there : (g : Group) (p : Program) (m : ℕ) (x y : Running) (cells next : List ℕ)
    (posts mails : List (Option (List Entry))) → m < length p.members
    → IsSound g (with_member p m x cells posts) → x.replica.end ≡ None → IsTaken cells posts x next mails y
    → HasStepped g (with_member p m x cells posts) m (with_member p m y next mails)
steps_there g p m x y cells next posts mails within sound none taken = subst (λ rs. HasStepped g
    (with_member p m x cells posts) m (program_over rs next mails)) (set_twice p.members m (Some x) (Some y))
    (stepped g (with_member p m x cells posts) m x y next mails sound (present_set p.members m x within) none taken)

gone_by : {W : Type 0} {sees : W → Running → List ℕ → W → Type 0} {old mid : W} (new : W)
    (g : Group) (p : Program) (m : ℕ) (x y : Running) (cells next : List ℕ) (posts mails : List (Option (List Entry)))
    → m < length p.members → IsOnWay sees old mid g p m (with_member p m x cells posts) → x.replica.end ≡ None
    → IsTaken cells posts x next mails y → sees mid x cells new → HasGone sees old new g p m y next mails
gone_by new g p m x y cells next posts mails within way none taken seen =
    let step = steps_there g p m x y cells next posts mails within way.sound none taken in
    let there = present_set p.members m x within in
    record {
      amid = λ amid. record {
        sound = step.sound;
        turn = turn_goes_on new m step.outcome p (with_member p m x cells posts) (with_member p m y next mails) x
            way.turn step.step step.well (stands p m y next mails false within amid) there seen;
      };
      whole = λ whole.
          let turn = turn_ends new m step.outcome p (with_member p m x cells posts) (with_member p m y next mails) x
          way.turn step.step step.well (stands p m y next mails true within whole) there seen in
          record {
            sound = step.sound;
            turn = (more_moves m step.outcome p (with_member p m x cells posts) way.turn, turn.0, turn.1, turn.2);
          };
    }

-- where the watcher takes no note
module _ {W : Type 0} (sees : W → Running → List ℕ → W → Type 0) (old now : W) (idle : TakesNoNote sees now)
    (g : Group) (p : Program) (m : ℕ) (within : m < length p.members) (posts : List (Option (List Entry))) where
  -- by a look or a push
  gone_swept : (words : List ℕ) (r : Running) → IsOnWay sees old now g p m (with_member p m r words posts)
      → IsAtSweep r → HasGone sees old now g p m (after_step (next_sight words r) r)
      (stored words r.replica (next_step r)) posts
  gone_swept words r way due =
      gone_by now g p m r (after_step (next_sight words r) r) words (stored words r.replica (next_step r)) posts posts
      within way (at_sweep r due).none (swept_taken words posts r (at_sweep r due)) (idle r words)

  -- and where it has come by several
  gone_sweeping : (n : ℕ) (words : List ℕ) (r : Running) (cells : List ℕ) (q : Running)
      → IsOnWay sees old now g p m (with_member p m r words posts) → is_between_turns (Some r) ≡ false
      → LeadsTo n words r cells q → HasGone sees old now g p m q cells posts
  gone_sweeping zero words r cells q way amid (same, is) = subst (λ x. HasGone sees old now g p m x cells posts) is
      (subst (λ t. HasGone sees old now g p m r t posts) same (record {
        amid = λ e. way;
        whole = λ whole. absurd (cc);
      }))
  gone_sweeping (suc zero) words r cells q way amid (due, (same, is)) =
      subst (λ x. HasGone sees old now g p m x cells posts) is
      (subst (λ t. HasGone sees old now g p m (after_step (next_sight words r) r) t posts) same
      (gone_swept words r way due))
  gone_sweeping (suc (suc n)) words r cells q way amid (due, (then, rest)) =
      let x = after_step (next_sight words r) r in
      gone_sweeping (suc n) (stored words r.replica (next_step r)) x cells q
      ((gone_swept words r way due).amid (at_sweep x then).amid) (at_sweep x then).amid (then, rest)

  -- by an append of an entry and the act behind it
  gone_persisted : (words : List ℕ) (r : Running) → IsOnWay sees old now g p m (with_member p m r words posts)
      → IsToPersist r → HasGone sees old now g p m (persisted r)
      (stored words (after_step 0 r).replica (next_step (after_step 0 r))) posts
  gone_persisted words r way is =
      let are = are_persisting words r is in
      let q = after_step 0 r in
      gone_by now g p m q (persisted r) words (stored words q.replica (next_step q)) posts posts within
      ((gone_by now g p m r q words words posts posts within way is.none
      (append_taken words posts r _ q are.append are.after) (idle r words)).amid are.amid_then) are.none
      (act_taken words posts q _ _ (stored words q.replica (next_step q)) (persisted r) are.publish are.published
      are.stores) (idle q words)

  -- and of several
  gone_persisting : (n : ℕ) (words : List ℕ) (r q : Running)
      → IsOnWay sees old now g p m (with_member p m r words posts) → 0 < n → HasPersisted n r q
      → HasGone sees old now g p m q (words_persisted n words r) posts
  gone_persisting zero words r q way some has = absurd (omega (arith, some))
  gone_persisting (suc zero) words r q way some (is, same) =
      subst (λ x. HasGone sees old now g p m x (words_persisted 1 words r) posts) same (gone_persisted words r way is)
  gone_persisting (suc (suc n)) words r q way some (is, (then, rest)) =
      gone_persisting (suc n) (stored words (after_step 0 r).replica (next_step (after_step 0 r))) (persisted r) q
      ((gone_persisted words r way is).amid (are_persisting words (persisted r) then).amid) (omega arith) (then, rest)

-- fewer deeds are left to all, where a member has fewer left
left_falls : (p : Program) (m : ℕ) (r x y : Running) (cells next : List ℕ)
    (posts mails : List (Option (List Entry))) → present_at p.members m ≡ Some r → deeds_left y < deeds_left x
    → all_left (with_member p m y next mails) < all_left (with_member p m x cells posts)
left_falls p m r x y cells next posts mails there falls = omega (
  arith,
  sum_by-set left_at p.members m (Some x) None (present_within p.members m r there),
  sum_by-set left_at p.members m (Some y) None (present_within p.members m r there),
  falls,
)

-- a member that goes on is under way still, or has ended its turn, as its place says
pub way_on : {W : Type 0} {sees : W → Running → List ℕ → W → Type 0} {old mid : W} (new : W) (g : Group) (p : Program)
    (m : ℕ) (r x y : Running) (table cells next : List ℕ) (letters posts mails : List (Option (List Entry)))
    → IsAmong g p m r table letters → IsUnderWay sees old mid g p m (with_member p m x cells posts)
    → x.replica.end ≡ None → HasGoneOn sees mid new cells posts x next mails y → deeds_left y < deeds_left x
    → (is_between_turns (Some y) ≡ false → IsUnderWay sees old new g p m (with_member p m y next mails))
    × (is_between_turns (Some y) ≡ true → HasTurn sees old new g p m (with_member p m y next mails))
way_on {W} {sees} {old} {mid} new g p m r x y table cells next letters posts mails is way none goes falls = (
  λ amid. let on = (gone goes).amid amid in
      record { sound = on.sound; turn = on.turn; falls = omega (arith, less, way.falls) },
  λ whole.
      let done = (gone goes).whole whole in
      let (es, turn, well, told) = done.turn in (
        record { moves = es; turn = turn; well = well; sound = done.sound; falls = omega (arith, less, way.falls) },
        told,
      ),
)
  where
    less : all_left (with_member p m y next mails) < all_left (with_member p m x cells posts)
    less = left_falls p m r x y cells next posts mails is.there falls

    within : m < length p.members
    within = present_within p.members m r is.there

    here : IsOnWay sees old mid g p m (with_member p m x cells posts)
    here = record { sound = way.sound; turn = way.turn }

    gone : HasGoneOn sees mid new cells posts x next mails y → HasGone sees old new g p m y next mails
    gone (inl (taken, seen)) = gone_by new g p m x y cells next posts mails within here none taken seen
    gone (inr (come, stay, same, idle)) = subst (λ w. HasGone sees old w g p m y next mails) same
        (subst (HasGone sees old mid g p m y next) (sym stay) (by come))
      where
        by : ComesTo cells x next y → HasGone sees old mid g p m y next posts
        by (inl (due, (n, taken))) =
            gone_sweeping sees old mid idle g p m within posts n cells x next y here (at_sweep x due).amid taken
        by (inr (n, some, has, are)) = subst (λ t. HasGone sees old mid g p m y t posts) (sym are)
            (gone_persisting sees old mid idle g p m within posts n cells x y here some has)

-- ---- an append

-- it is the next deed, or others go with it
pub goes_alone : {W : Type 0} (sees : W → Running → List ℕ → W → Type 0) (w : W) (words cells : List ℕ)
    (posts : List (Option (List Entry))) (r x : Running) → TakesNoNote sees w
    → IsTaken words posts r cells posts x ⊎ PersistsTo words r cells x
    → HasGoneOn sees w w words posts r cells posts x
goes_alone sees w words cells posts r x idle (inl taken) = inl (taken, idle r words)
goes_alone sees w words cells posts r x idle (inr persists) = inr (inr persists, refl, refl, idle)

-- and lists are left for it as before
pub lists_alone : (posts : PostsOf) (words cells : List ℕ) (r x : Running) → r.replica.end ≡ None
    → IsTaken words posts.letters r cells posts.letters x ⊎ PersistsTo words r cells x
    → HasSpare posts r → HasSpare posts x
lists_alone posts words cells r x none (inl taken) =
    lists_still posts r x (taken_told words posts.letters r cells posts.letters x none taken)
lists_alone posts words cells r x none (inr (n, some, has, are)) = lists_still posts r x (is_persisted n r x has).same

-- ---- logs

-- so it is where looks and pushes have led it
pub come_ready : {D : Type 0} (place : Option (LogState D)) (words : List ℕ) (r : Running) (cells : List ℕ)
    (q : Running) → ((n : ℕ) × LeadsTo n words r cells q) → IsReadyAt place r → IsReadyAt place q
come_ready place words r cells q (n, taken) (log, at, ready) =
    (log, at, swept_ready log n words r cells q taken ready)

-- and lists are left for it as before
swept_lists : (posts : PostsOf) (n : ℕ) (words : List ℕ) (r : Running) (cells : List ℕ) (q : Running)
    → LeadsTo n words r cells q → HasSpare posts r → HasSpare posts q
swept_lists posts zero words r cells q (same, is) lists = subst (HasSpare posts) is lists
swept_lists posts (suc n) words r cells q (due, rest) lists =
    let is = at_sweep r due in
    swept_lists posts n _ _ cells q rest (lists_still posts r (after_step (next_sight words r) r)
    (taken_told words posts.letters r _ posts.letters _ is.none (swept_taken words posts.letters r is)) lists)

pub come_lists : (posts : PostsOf) (words : List ℕ) (r : Running) (cells : List ℕ) (q : Running)
    → ((n : ℕ) × LeadsTo n words r cells q) → HasSpare posts r → HasSpare posts q
come_lists posts words r cells q (n, taken) lists = swept_lists posts n words r cells q taken lists

pub come_served : {D : Type 0} (told : D → Option Told) (faults : D → ℕ) (base : LogState D)
    (place : Option (LogState D)) (words : List ℕ) (r : Running) (cells : List ℕ) (q : Running)
    → ((n : ℕ) × LeadsTo n words r cells q) → r.replica.logged ≤ length r.replica.history
    → HasServedAt told faults base place r → HasServedAt told faults base place q
come_served told faults base place words r cells q (n, taken) within served = λ log at.
    swept_served told faults base log n words r cells q taken within (served log at)

-- a running member has logged no more than there is
pub somewhere_logged : (r : Running) (words : List ℕ) (posts : List (Option (List Entry)))
    → IsSomewhere r words posts → r.replica.logged ≤ length r.replica.history
somewhere_logged r words posts (g, p, m, is) = (is.sound.form.form m r is.there).replica.logged
