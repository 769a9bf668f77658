-- A letter is given and taken: each step of that keeps the rule.
use Rattle.std.specs.{Prelude.{Option, None, Some, Vec, slice_get, slice_set, sum_by}, declared.alloc.Global.Global}
use Rattle.std.proofs.Common.{◌≡◌, ◌≢◌, ◌⊎◌, inl, inr, refl, sym, ap, ◌∙◌, subst, ℕ, ◌+◌, ◌<◌, ◌≤◌, true, List, [], ◌∷◌, ◌++◌, length, length-set, slice_index, arith}
use Rattle.std.proofs.lemmas.{Bool.cases_lt, List.get_or-set_same, Option.same_Some}
use Rattle.atomic_table.proofs.Lists.{set_else, set_here}
use Rattle.dr_play.{specs.Sound.IsSound, proofs.Deeds.{deed_tells, give_ran, take_ran}}
use Rattle.dr_entry.{specs.declared.entry.Entry.Entry, proofs.ListPlaces.{behind_set, slot_within, sum_again}}
use Rattle.dr_entry.proofs.NumberFacts.{below_two}
use Rattle.dr_history.{specs.{History.up_to_view, Members.has}, proofs.Ranks.at_rank_of}
use Rattle.dr_machine.{specs.Group.{Group, IsGroup, late_members}, proofs.Presence.{in_roster, late_in}}
use Rattle.dr_member.specs.Deeds.{table_size}
use Rattle.dr_program.{specs.Form.IsOf, proofs.StepsAt.taking}
use Rattle.dr_program.{specs.Presence.{present_at, with_present}, proofs.Fixed.{Told, join_told, told, after_told}}
use Rattle.dr_program.{specs.Program.{IsRanFrom, Program, begun_program}, proofs.Deeds.{settle_replica, after_later}}
use Rattle.dr_program.specs.{Reading.letters_of, Running.{Running, after_step, next_deed, settled, took_letter}}
use Rattle.dr_program.{specs.{Replica.{Replica, joined}, declared.outcome.Outcome.Outcome}, proofs.Replicas.IsTaking}
use Rattle.dr_program.proofs.Present.{present_kept, present_set, present_within, further_same, further_set}
use Rattle.dr_program.specs.declared.deed.Deed.TheVariants as deeds
use Rattle.dr_program_laws.proofs.{Keeping.deeds_kept, Letters.letters_are}
use Rattle.dr_refine.specs.Programs.{IsLetterFor}
use Rattle.dr_words.specs.Layout.{words_of}
use Rattle.dr_table.specs.Rule.{HasSuchProgram, Stands, hands, number}
use Rattle.dr_table.specs.{Slots.{HaveSlots, IsAbout, IsBlankList, IsPosted, Slot, slot_number}, Steps.HasAppended}
use Rattle.dr_table.specs.declared.rule.{Errand.Errand, View.View}
use Rattle.dr_table.proofs.Deeds.{appends_ran, appends_told, same_number}
use Rattle.dr_table.proofs.{Errands.{SlotChange, slots_changed, slots_stay}, Later.appends_later, Places.stands_set}
use Rattle.dr_table.proofs.{Seats.{hands_get, hands_same, hands_set}, Welcoming.{IsNewcomer, newcomer, one_welcomer}}
use mathlib.Core.Option.{Option as Maybe, some, none}
use lib.ListN.{get_elem?}

-- ---- slots

-- two late members have two slots
slots_apart : (g : Group) (i j : ℕ) → IsGroup g → has (late_members g) i ≡ true → has (late_members g) j ≡ true
    → i ≢ j → slot_number (late_members g) i ≢ slot_number (late_members g) j
slots_apart g i j is one two other same = other (same_Some i j (sym (at_rank_of (late_members g) i (below i one) one)
    ∙ ap (slice_get _) same ∙ at_rank_of (late_members g) j (below j two) two))
  where
    below : (k : ℕ) → has (late_members g) k ≡ true → k < 16
    below k late = omega (arith, in_roster g k is (late_in g k is late).0, is.most_members)

-- so a slot that changes leaves the others
slot_else : (g : Group) (homes : List (Maybe Slot)) (slot i j : ℕ) (home : Maybe Slot) → IsGroup g
    → slot ≡ slot_number (late_members g) j → has (late_members g) i ≡ true → has (late_members g) j ≡ true → i ≢ j
    → get_elem? (slice_set homes slot home) (slot_number (late_members g) i)
    ≡ get_elem? homes (slot_number (late_members g) i)
slot_else g homes slot i j home is at one two other =
    set_else homes slot (slot_number (late_members g) i) home (λ same. slots_apart g i j is one two other (same ∙ at))

-- and has what was put there
slot_here : (homes : List (Maybe Slot)) (slot at : ℕ) (old : Maybe Slot) (home : Maybe Slot) → slot ≡ at
    → get_elem? homes at ≡ some old → get_elem? (slice_set homes slot home) at ≡ some home
slot_here homes slot at old home same there = ap (get_elem? (slice_set homes slot home)) (sym same)
    ∙ set_here homes slot home (subst (λ n. n < length homes) (sym same) (slot_within homes at old there))

-- ---- the program of the rule

-- a seat about nothing, with these members
abbrev pub free : List (Option Running) → View
free members = record { members = members; errand = None }

-- one of this member
abbrev pub one : Running → View
one r = free (Some r ∷ [])

-- a seat with this member alone that is about this letter
abbrev pub about : Running → Errand → View
about r e = record { members = Some r ∷ []; errand = Some e }

module _ {dealt : List (Option Running)} {words : List ℕ} {homes : List (Maybe Slot)} {views : List View}
    (k : HasSuchProgram dealt words homes views) where
  abbrev pub kept : Program
  kept = record { members = k.members; table = k.table; letters = k.letters }

  pub sound : IsSound k.opening.group kept
  sound =
      let all = deeds_kept k.opening.group k.opening.turns k.opening.setups kept k.opening.is k.opening.some
      k.opening.are k.ran in
      record { group = k.opening.is; form = all.0; reached = all.1 }

  pub stood : (id : ℕ) (v : View) (r : Running) → slice_get views id ≡ Some v → v.members ≡ Some r ∷ []
      → present_at k.members (number r) ≡ Some r
  stood id v r is here = k.stands.each id 0 r (v.members, hands_get views id v is, ap (λ l. present_at l 0) here)

  -- two seats with one member are one
  one_seat : (s id : ℕ) (u v : View) (q r : Running) → slice_get views s ≡ Some u → u.members ≡ Some q ∷ []
      → slice_get views id ≡ Some v → v.members ≡ Some r ∷ [] → number q ≡ number r → s ≡ id
  one_seat s id u v q r there stands is here same =
      (k.stands.once s 0 id 0 q r (u.members, hands_get views s u there, ap (λ l. present_at l 0) stands)
      (v.members, hands_get views id v is, ap (λ l. present_at l 0) here) same).0

  pub of_group : (r : Running) → present_at k.members (number r) ≡ Some r → IsOf k.opening.group (number r) r.replica
  of_group r there = sound.form.of (number r) r there

  -- its table is as long as the member knows
  pub sized : (r : Running) → present_at k.members (number r) ≡ Some r → length k.table ≡ table_size r
  sized r there =
      let of = of_group r there in sound.form.table ∙ sym (λ z. words_of (of.members z) (of.window z) (of.banks z))

  -- the word of a member of the roster stands behind it
  laid_set : (r : Running) (index j n : ℕ) → present_at k.members (number r) ≡ Some r → index ≡ table_size r + j
      → slice_set words index n ≡ k.table ++ slice_set k.flags j n
  laid_set r index j n there is = ap (λ ws. slice_set ws index n) k.laid
      ∙ behind_set k.table k.flags index j n (omega (arith, is, sized r there))

  -- ---- one seat changes

  -- it is about this now
  about_now : (id : ℕ) (v : View) (r : Running) (e : Errand) (cells flags : List ℕ) (shelves : List (Maybe Slot))
      → slice_get views id ≡ Some v → v.members ≡ Some r ∷ [] → length flags ≡ length k.flags → cells ≡ k.table
      ++ flags → HaveSlots k.opening.group k.members k.letters k.most flags shelves (slice_set views id (about r e))
      → HasSuchProgram dealt cells shelves (slice_set views id (about r e))
  about_now id v r e cells flags shelves is here long laid slots =
      let same = hands_same views id v (about r e) is (sym here) in record {
        opening = k.opening;
        members = k.members;
        table = k.table;
        letters = k.letters;
        flags = flags;
        most = k.most;
        ran = k.ran;
        laid = laid;
        all = long ∙ k.all;
        stands = subst (λ hs. Stands hs k.members) (sym same) k.stands;
        places = ap (sum_by length) same ∙ k.places;
        slots = slots;
      }

  -- its member has gone on, and it is about nothing
  member_now : (id : ℕ) (v : View) (r x : Running)
      (table cells flags : List ℕ) (letters : List (Option (List Entry))) (shelves : List (Maybe Slot))
      → slice_get views id ≡ Some v → v.members ≡ Some r ∷ [] → number x ≡ number r → length flags ≡ length k.flags
      → cells ≡ table ++ flags → IsRanFrom (begun_program k.opening.group k.opening.setups)
      (record { members = with_present k.members (number r) x; table = table; letters = letters })
      → HaveSlots k.opening.group (with_present k.members (number r) x) letters k.most flags shelves
      (slice_set views id (one x)) → HasSuchProgram dealt cells shelves (slice_set views id (one x))
  member_now id v r x table cells flags letters shelves is here named long laid ran slots =
      let same = hands_set views id (one x) in
      let mine = hands_get views id v is ∙ ap Some here in record {
        opening = k.opening;
        members = with_present k.members (number r) x;
        table = table;
        letters = letters;
        flags = flags;
        most = k.most;
        ran = ran;
        laid = laid;
        all = long ∙ k.all;
        stands = subst (λ hs. Stands hs (with_present k.members (number r) x)) (sym same)
            (stands_set (hands views) k.members id r x mine named k.stands);
        places = ap (sum_by length) same
            ∙ sum_again length (hands views) id (Some r ∷ []) (Some x ∷ []) mine refl ∙ k.places;
        slots = slots;
      }

  -- no letter and no slot changes
  pub member_on : (id : ℕ) (r x : Running) (table cells : List ℕ) → slice_get views id ≡ Some (one r)
      → told x.replica ≡ told r.replica → r.replica.view ≤ x.replica.view → cells ≡ table ++ k.flags
      → IsRanFrom (begun_program k.opening.group k.opening.setups)
      (record { members = with_present k.members (number r) x; table = table; letters = k.letters })
      → HasSuchProgram dealt cells homes (slice_set views id (one x))
  member_on id r x table cells is same later laid ran =
      member_now id (one r) r x table cells k.flags k.letters homes is refl (same_number r x same) refl laid ran
      (slots_stay k.opening.group k.members (with_present k.members (number r) x) k.letters k.most k.flags homes
      views id (one r) (one x) is refl
      (further_set k.members (number r) r x (stood id (one r) r is refl) later (ap (λ (t : Told). t.room) same))
      (λ e busy. absurd (cc busy)) k.slots)

  -- appends since the seat's last step are counted
  pub caught_up : (id : ℕ) (r q : Running) (os : List Outcome) → slice_get views id ≡ Some (one r)
      → HasAppended os r q → HasSuchProgram dealt words homes (slice_set views id (one q))
  caught_up id r q os is more =
      member_on id r q k.table words is (appends_told os r q more) (appends_later os r q more) k.laid
      (appends_ran (begun_program k.opening.group k.opening.setups) k.table k.letters os k.members (number r) r q
      more (stood id (one r) r is refl) k.ran)

  -- ---- a letter is given

  -- of the seats only this one can be about a letter that its member is to give
  gives_alone : (id : ℕ) (v : View) (j : ℕ) (r : Running) → slice_get views id ≡ Some v
      → v.members ≡ Some r ∷ [] → next_deed r ≡ deeds.Give j → (s : ℕ) (u : View) (e : Errand)
      → slice_get views s ≡ Some u → u.errand ≡ Some e → e.late ≡ j → e.word ≡ 1 → s ≡ id
  gives_alone id v j r is here next s u e there busy named single =
      let (q, stands, due) = (k.slots.abouts s u e there busy).member in
      one_seat s id u v q r there stands is here (one_welcomer k.opening.group kept (number r) (number q) j r q sound
      (stood id v r is here) (stood s u q there stands) next (due.gives single ∙ ap (λ n. deeds.Give n) named))

  -- the word of the late member is still 0
  unopened : (id j : ℕ) (r : Running) → slice_get views id ≡ Some (one r) → next_deed r ≡ deeds.Give j
      → slice_index k.flags j ≡ 0
  unopened id j r is next = elim (cases_lt (slice_index k.flags j) 1) [
    | inl below ↦ omega (arith, below)
    | inr past ↦
        let first : slice_index k.flags j ≡ 1 = omega (arith, past, few) in
        let (s, u, e, there, busy, named) = k.slots.out j (inl first) in
        let mine = gives_alone id (one r) j r is refl next s u e there busy named
        (sym (k.slots.abouts s u e there busy).word ∙ ap (slice_index k.flags) named ∙ first) in
        absurd (cc (
          busy,
          ap (λ (z : View). z.errand) (same_Some (one r) u (sym is ∙ ap (slice_get views) (sym mine) ∙ there)),
        ))
  ]
    where
      new : IsNewcomer k.opening.group kept j
      new = newcomer k.opening.group kept (number r) j r sound (stood id (one r) r is refl) next

      few : slice_index k.flags j < 2
      few = elim (cases_lt (slice_index k.flags j) 2) [
        | inl below ↦ below
        | inr past ↦
            let (list, letter) = (k.slots.late j new.late).there past in absurd (cc (new.none, letter))
      ]

  -- the member takes the slot, with a blank list
  pub opened : (id : ℕ) (e : Errand) (slot index : ℕ) (r : Running) → slice_get views id ≡ Some (one r) → e.word ≡ 1
      → next_deed r ≡ deeds.Give e.late → slot ≡ slot_number r.replica.late e.late → index ≡ table_size r + e.late
      → (list : Vec Entry Global) × (get_elem? homes slot ≡ some (some (Some list))) × IsBlankList r.replica.room list
      × HasSuchProgram dealt (slice_set words index 1) (slice_set homes slot none) (slice_set views id (about r e))
  opened id e slot index r is first next same_slot same_index = (
    list.0,
    ap (get_elem? homes) at_slot ∙ list.1,
    record { empty = list.2.empty; fits = omega (arith, list.2.fits, k.slots.room (number r) r there) },
    about_now id (one r) r e (slice_set words index 1) (slice_set k.flags j 1) (slice_set homes slot none) is refl
        (length-set k.flags j 1) (laid_set r index j 1 there same_index)
        (slots_changed g k.members k.members k.letters k.letters k.most k.flags homes (slice_set homes slot none)
        views id (one r) (about r e) j 1 change k.slots),
  )
    where
      g : Group
      g = k.opening.group

      j : ℕ
      j = e.late

      there : present_at k.members (number r) ≡ Some r
      there = stood id (one r) r is refl

      new : IsNewcomer g kept j
      new = newcomer g kept (number r) j r sound there next

      at_slot : slot ≡ slot_number (late_members g) j
      at_slot = same_slot ∙ ap (λ mask. slot_number mask j) (of_group r there).late

      zero : slice_index k.flags j ≡ 0
      zero = unopened id j r is next

      list : (list : Vec Entry Global) × (get_elem? homes (slot_number (late_members g) j) ≡ some (some (Some list)))
          × IsBlankList k.most list
      list = (k.slots.late j new.late).blank zero

      within : j < length k.flags
      within = omega (arith, k.all, new.within)

      change : SlotChange g k.members k.members k.letters k.letters k.most k.flags homes (slice_set homes slot none)
          views id (one r) (about r e) j 1
      change = record {
        late = new.late;
        within = within;
        is = is;
        mine = λ f busy. absurd (cc busy);
        alone = λ s u f apart at busy same.
            let was = k.slots.abouts s u f at busy in
            let still : f.word ≡ 0 = sym was.word ∙ ap (slice_index k.flags) same ∙ zero in
            let begun = was.begun in absurd (omega (arith, still, begun));
        posts_stay = λ i other. refl;
        homes_stay = λ i late other. slot_else g homes slot i j none k.opening.is at_slot late new.late other;
        posted = record {
          yet = λ below. new.none;
          there = λ two. absurd (omega (arith, two));
          blank = λ still. absurd (omega (arith, still));
          full = λ two. absurd (omega (arith, two));
          empty = λ four. absurd (omega (arith, four));
          away = λ out. slot_here homes slot (slot_number (late_members g) j) (some (Some list.0)) none at_slot list.1;
          last = omega arith;
        };
        further = further_same k.members;
        about = λ f busy. subst (IsAbout k.letters (slice_set k.flags j 1) (Some r ∷ [])) (same_Some e f busy) (record {
          word = get_or-set_same k.flags j 1 0 within ∙ sym first;
          begun = omega (arith, first);
          member = (r, refl, record { gives = λ _. next; takes = λ two. absurd (omega (arith, first, two)) });
          letter = λ three. absurd (omega (arith, first, three));
        });
        out = λ _. (e, refl, refl);
        joined = λ x four. absurd (omega (arith, four));
      }

  -- it puts the slot back, with the letter
  pub homed : (id : ℕ) (e : Errand) (slot index : ℕ) (list : Vec Entry Global) (r : Running)
      → slice_get views id ≡ Some (about r e) → e.word ≡ 1
      → next_deed r ≡ deeds.Give e.late → slot ≡ slot_number r.replica.late e.late → index ≡ table_size r + e.late
      → list.items ≡ up_to_view r.replica.history
      → HasSuchProgram dealt (slice_set words index 2) (slice_set homes slot (some (Some list)))
      (slice_set views id (one (after_step 0 r)))
  homed id e slot index list r is first next same_slot same_index items = member_now id (about r e) r x k.table
      (slice_set words index 2) (slice_set k.flags j 2) posts (slice_set homes slot (some (Some list))) is refl
      (same_number r x (after_told 0 r)) (length-set k.flags j 2) (laid_set r index j 2 there same_index)
      (give_ran (begun_program k.opening.group k.opening.setups) k.table k.letters k.members
      (number r) j r there next k.ran)
      (slots_changed g k.members (with_present k.members (number r) x) k.letters posts k.most k.flags homes
      (slice_set homes slot (some (Some list))) views id (about r e) (one x) j 2 change k.slots)
    where
      g : Group
      g = k.opening.group

      j : ℕ
      j = e.late

      x : Running
      x = after_step 0 r

      posts : List (Option (List Entry))
      posts = slice_set k.letters j (Some (up_to_view r.replica.history))

      there : present_at k.members (number r) ≡ Some r
      there = stood id (about r e) r is refl

      new : IsNewcomer g kept j
      new = newcomer g kept (number r) j r sound there next

      at_slot : slot ≡ slot_number (late_members g) j
      at_slot = same_slot ∙ ap (λ mask. slot_number mask j) (of_group r there).late

      flag : slice_index k.flags j ≡ 1
      flag = (k.slots.abouts id (about r e) e is refl).word ∙ first

      change : SlotChange g k.members (with_present k.members (number r) x) k.letters posts k.most k.flags homes
          (slice_set homes slot (some (Some list))) views id (about r e) (one x) j 2
      change = record {
        late = new.late;
        within = omega (arith, k.all, new.within);
        is = is;
        mine = λ f other. ap (λ (z : Errand). z.late) (sym (same_Some e f other));
        alone = λ s u f apart at other same. apart (gives_alone id (about r e) j r is refl next s u f at other same
            (sym (k.slots.abouts s u f at other).word ∙ ap (slice_index k.flags) same ∙ flag));
        posts_stay = λ i other. present_kept k.letters j i (up_to_view r.replica.history) other;
        homes_stay = λ i late other.
            slot_else g homes slot i j (some (Some list)) k.opening.is at_slot late new.late other;
        posted = record {
          yet = λ below. absurd (omega (arith, below));
          there = λ two. (up_to_view r.replica.history, written);
          blank = λ still. absurd (omega (arith, still));
          full = λ two. (
            list,
            slot_here homes slot (slot_number (late_members g) j) none (some (Some list)) at_slot
                ((k.slots.late j new.late).away (inl flag)),
            written ∙ ap Some (sym items),
          );
          empty = λ four. absurd (omega (arith, four));
          away = λ out. absurd (neither out);
          last = omega arith;
        };
        further = further_set k.members (number r) r x there (after_later 0 r)
            (ap (λ (t : Told). t.room) (after_told 0 r));
        about = λ f never. absurd (cc never);
        out = λ out. absurd (neither out);
        joined = λ x four. absurd (omega (arith, four));
      }
        where
          written : letters_of posts j ≡ Some (up_to_view r.replica.history)
          written = present_set k.letters j (up_to_view r.replica.history)
              (omega (arith, sound.form.posts, new.within))

          neither : ◌≡◌ {A = ℕ} 2 1 ⊎ ◌≡◌ {A = ℕ} 2 3 → ⊥
          neither (inl one) = omega (arith, one)
          neither (inr three) = omega (arith, three)

  -- ---- a letter is taken

  -- what is known of a member that is to take its letter
  pub taker : (id : ℕ) (v : View) (r : Running) → slice_get views id ≡ Some v → v.members ≡ Some r ∷ []
      → next_deed r ≡ deeds.Take → IsTaking r × (has (late_members k.opening.group) (number r) ≡ true)
  taker id v r is here next =
      let there = stood id v r is here in
      let form = sound.form.form (number r) r there in
      let t = deed_tells k.table r deeds.Take next in
      let takes = taking r form (record { unended = t.none; due = t.says }) in (
        takes,
        ap (λ mask. has mask (number r)) (sym (of_group r there).late) ∙ (form.replica.outside takes.outside).late,
      )

  -- of the seats only this one can be about the letter of its member that it saw or has
  takes_alone : (id : ℕ) (v : View) (r : Running) → slice_get views id ≡ Some v → v.members ≡ Some r ∷ []
      → (s : ℕ) (u : View) (e : Errand) → slice_get views s ≡ Some u → u.errand ≡ Some e → e.late ≡ number r
      → 2 ≤ e.word → s ≡ id
  takes_alone id v r is here s u e there busy named two =
      let (q, stands, due) = (k.slots.abouts s u e there busy).member in
      one_seat s id u v q r there stands is here ((due.takes two).1 ∙ named)

  -- where the word isn't 2, there is no letter
  pub no_letter : (id : ℕ) (r : Running) → slice_get views id ≡ Some (one r) → next_deed r ≡ deeds.Take
      → slice_index k.flags (number r) ≢ 2 → letters_of k.letters (number r) ≡ None
  no_letter id r is next other = posted.yet few
    where
      take : IsTaking r × (has (late_members k.opening.group) (number r) ≡ true)
      take = taker id (one r) r is refl next

      posted : IsPosted k.most (slice_index k.flags (number r))
          (get_elem? homes (slot_number (late_members k.opening.group) (number r))) (letters_of k.letters (number r))
      posted = k.slots.late (number r) take.1

      third : slice_index k.flags (number r) ≢ 3
      third three =
          let (s, u, e, there, busy, named) = k.slots.out (number r) (inr three) in
          let word : e.word ≡ 3 =
          sym (k.slots.abouts s u e there busy).word ∙ ap (slice_index k.flags) named ∙ three in
          let mine = takes_alone id (one r) r is refl s u e there busy named (omega (arith, word)) in
          absurd (cc (
            busy,
            ap (λ (z : View). z.errand) (same_Some (one r) u (sym is ∙ ap (slice_get views) (sym mine) ∙ there)),
          ))

      fourth : slice_index k.flags (number r) ≢ 4
      fourth four =
          let view = k.slots.joined (number r) r four (stood id (one r) r is refl) in
          absurd (omega (arith, view, take.0.first))

      few : slice_index k.flags (number r) < 2
      few = below_two (slice_index k.flags (number r)) posted.last other third fourth

  -- it finds none, and its turn ends
  pub missed : (id : ℕ) (r : Running) → slice_get views id ≡ Some (one r) → next_deed r ≡ deeds.Take
      → letters_of k.letters (number r) ≡ None
      → HasSuchProgram dealt words homes (slice_set views id (one (settled (took_letter None r))))
  missed id r is next nothing =
      let x = settled (took_letter None r) in
      let same : x.replica ≡ r.replica = settle_replica _ (took_letter None r) in
      member_on id r x k.table words is (ap told same) (subst (λ (q : Replica). r.replica.view ≤ q.view) (sym same)
      (omega arith)) k.laid (take_ran (begun_program k.opening.group k.opening.setups) k.table k.letters k.members
      (number r) r None (stood id (one r) r is refl) next nothing k.ran)

  -- it sees that the letter is there
  pub noticed : (id : ℕ) (e : Errand) (r : Running) → slice_get views id ≡ Some (one r)
      → e.word ≡ 2 → next_deed r ≡ deeds.Take → number r ≡ e.late → slice_index k.flags (number r) ≡ 2
      → HasSuchProgram dealt words homes (slice_set views id (about r e))
  noticed id e r is second next named two = about_now id (one r) r e words k.flags homes is refl refl k.laid
      (slots_stay k.opening.group k.members k.members k.letters k.most k.flags homes views id (one r) (about r e)
      is refl (further_same k.members)
      (λ f busy. subst (IsAbout k.letters k.flags (Some r ∷ [])) (same_Some e f busy) (record {
        word = ap (slice_index k.flags) (sym named) ∙ two ∙ sym second;
        begun = omega (arith, second);
        member = (
          r,
          refl,
          record { gives = λ first. absurd (omega (arith, second, first)); takes = λ more. (next, named) },
        );
        letter = λ three. absurd (omega (arith, second, three));
      })) k.slots)

  -- it takes the slot, with the letter
  pub fetched : (id : ℕ) (e : Errand) (slot index : ℕ) (r : Running) → slice_get views id ≡ Some (about r e)
      → e.word ≡ 2 → next_deed r ≡ deeds.Take → number r ≡ e.late → slot ≡ slot_number r.replica.late e.late
      → index ≡ table_size r + e.late → (list : Vec Entry Global) × (get_elem? homes slot ≡ some (some (Some list)))
      × (letters_of k.letters (number r) ≡ Some list.items)
      × HasSuchProgram dealt (slice_set words index 3) (slice_set homes slot none)
      (slice_set views id (about r (record e { word = 3; letter = list.items })))
  fetched id e slot index r is two next named same_slot same_index = (
    list.0,
    ap (get_elem? homes) at_slot ∙ list.1,
    ap (letters_of k.letters) named ∙ list.2,
    about_now id (about r e) r f (slice_set words index 3) (slice_set k.flags j 3) (slice_set homes slot none) is refl
        (length-set k.flags j 3) (laid_set r index j 3 there same_index)
        (slots_changed g k.members k.members k.letters k.letters k.most k.flags homes (slice_set homes slot none)
        views id (about r e) (about r f) j 3 change k.slots),
  )
    where
      g : Group
      g = k.opening.group

      j : ℕ
      j = e.late

      there : present_at k.members (number r) ≡ Some r
      there = stood id (about r e) r is refl

      late : has (late_members g) j ≡ true
      late = ap (has (late_members g)) (sym named) ∙ (taker id (about r e) r is refl next).1

      at_slot : slot ≡ slot_number (late_members g) j
      at_slot = same_slot ∙ ap (λ mask. slot_number mask j) (of_group r there).late

      second : slice_index k.flags j ≡ 2
      second = (k.slots.abouts id (about r e) e is refl).word ∙ two

      list : (list : Vec Entry Global) × (get_elem? homes (slot_number (late_members g) j) ≡ some (some (Some list)))
          × (letters_of k.letters j ≡ Some list.items)
      list = (k.slots.late j late).full second

      f : Errand
      f = record e { word = 3; letter = list.0.items }

      within : j < length k.flags
      within = omega (arith, k.all, in_roster g j k.opening.is (late_in g j k.opening.is late).0)

      change : SlotChange g k.members k.members k.letters k.letters k.most k.flags homes (slice_set homes slot none)
          views id (about r e) (about r f) j 3
      change = record {
        late = late;
        within = within;
        is = is;
        mine = λ o other. ap (λ (z : Errand). z.late) (sym (same_Some e o other));
        alone = λ s u o apart at other same.
            let word : o.word ≡ 2 = sym (k.slots.abouts s u o at other).word ∙ ap (slice_index k.flags) same ∙ second in
            apart (takes_alone id (about r e) r is refl s u o at other (same ∙ sym named) (omega (arith, word)));
        posts_stay = λ i other. refl;
        homes_stay = λ i one other. slot_else g homes slot i j none k.opening.is at_slot one late other;
        posted = record {
          yet = λ below. absurd (omega (arith, below));
          there = λ two. (list.0.items, list.2);
          blank = λ still. absurd (omega (arith, still));
          full = λ two. absurd (omega (arith, two));
          empty = λ four. absurd (omega (arith, four));
          away = λ out. slot_here homes slot (slot_number (late_members g) j) (some (Some list.0)) none at_slot list.1;
          last = omega arith;
        };
        further = further_same k.members;
        about = λ o busy. subst (IsAbout k.letters (slice_set k.flags j 3) (Some r ∷ [])) (same_Some f o busy) (record {
          word = get_or-set_same k.flags j 3 0 within;
          begun = omega arith;
          member = (
            r,
            refl,
            record { gives = λ first. absurd (omega (arith, first)); takes = λ more. (next, named) },
          );
          letter = λ three. list.2;
        });
        out = λ three. (f, refl, refl);
        joined = λ x four. absurd (omega (arith, four));
      }

  -- it puts the slot back, empty, and has joined
  pub returned : (id : ℕ) (e : Errand) (slot index : ℕ) (r : Running) → slice_get views id ≡ Some (about r e)
      → e.word ≡ 3 → next_deed r ≡ deeds.Take → number r ≡ e.late → slot ≡ slot_number r.replica.late e.late
      → index ≡ table_size r + e.late → HasSuchProgram dealt (slice_set words index 4) (slice_set homes slot
      (some None)) (slice_set views id (one (settled (took_letter (Some e.letter) r))))
  returned id e slot index r is three next named same_slot same_index = member_now id (about r e) r x k.table
      (slice_set words index 4) (slice_set k.flags j 4) k.letters (slice_set homes slot (some None)) is refl
      (same_number r x same) (length-set k.flags j 4) (laid_set r index j 4 there same_index)
      (take_ran (begun_program k.opening.group k.opening.setups) k.table k.letters k.members
      (number r) r (Some e.letter) there next letter k.ran)
      (slots_changed g k.members (with_present k.members (number r) x) k.letters k.letters k.most k.flags homes
      (slice_set homes slot (some None)) views id (about r e) (one x) j 4 change k.slots)
    where
      g : Group
      g = k.opening.group

      j : ℕ
      j = e.late

      x : Running
      x = settled (took_letter (Some e.letter) r)

      there : present_at k.members (number r) ≡ Some r
      there = stood id (about r e) r is refl

      take : IsTaking r × (has (late_members g) (number r) ≡ true)
      take = taker id (about r e) r is refl next

      late : has (late_members g) j ≡ true
      late = ap (has (late_members g)) (sym named) ∙ take.1

      at_slot : slot ≡ slot_number (late_members g) j
      at_slot = same_slot ∙ ap (λ mask. slot_number mask j) (of_group r there).late

      third : slice_index k.flags j ≡ 3
      third = (k.slots.abouts id (about r e) e is refl).word ∙ three

      letter : letters_of k.letters (number r) ≡ Some e.letter
      letter = ap (letters_of k.letters) named ∙ (k.slots.abouts id (about r e) e is refl).letter three

      fits : IsLetterFor r.replica e.letter
      fits = letters_are g kept k.opening.is sound.form sound.reached (number r) r e.letter there take.0.outside letter

      replica : x.replica ≡ joined r.replica e.letter
      replica = settle_replica _ (took_letter (Some e.letter) r)

      same : told x.replica ≡ told r.replica
      same = ap told replica ∙ join_told r.replica e.letter

      later : 0 < x.replica.view
      later = subst (λ (q : Replica). 0 < q.view) (sym replica) fits.later

      change : SlotChange g k.members (with_present k.members (number r) x) k.letters k.letters k.most k.flags homes
          (slice_set homes slot (some None)) views id (about r e) (one x) j 4
      change = record {
        late = late;
        within = omega (arith, k.all, in_roster g j k.opening.is (late_in g j k.opening.is late).0);
        is = is;
        mine = λ o other. ap (λ (z : Errand). z.late) (sym (same_Some e o other));
        alone = λ s u o apart at other same.
            let word : o.word ≡ 3 = sym (k.slots.abouts s u o at other).word ∙ ap (slice_index k.flags) same ∙ third in
            apart (takes_alone id (about r e) r is refl s u o at other (same ∙ sym named) (omega (arith, word)));
        posts_stay = λ i other. refl;
        homes_stay = λ i one other. slot_else g homes slot i j (some None) k.opening.is at_slot one late other;
        posted = record {
          yet = λ below. absurd (omega (arith, below));
          there = λ two. (e.letter, ap (letters_of k.letters) (sym named) ∙ letter);
          blank = λ still. absurd (omega (arith, still));
          full = λ two. absurd (omega (arith, two));
          empty = λ four. slot_here homes slot (slot_number (late_members g) j) none (some None) at_slot
              ((k.slots.late j late).away (inr third));
          away = λ out. absurd (neither out);
          last = omega arith;
        };
        further = further_set k.members (number r) r x there (omega (arith, take.0.first))
            (ap (λ (t : Told). t.room) same);
        about = λ o never. absurd (cc never);
        out = λ out. absurd (neither out);
        joined = λ y four at. subst (λ (z : Running). 0 < z.replica.view)
            (same_Some x y (sym (present_set k.members (number r) x (present_within k.members (number r) r there))
            ∙ ap (present_at (with_present k.members (number r) x)) named ∙ at)) later;
      }
        where
          neither : ◌≡◌ {A = ℕ} 4 1 ⊎ ◌≡◌ {A = ℕ} 4 3 → ⊥
          neither (inl one) = omega (arith, one)
          neither (inr three) = omega (arith, three)
