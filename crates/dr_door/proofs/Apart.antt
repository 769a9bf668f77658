-- The doors of a group are at each moment a program whose words are carried.
use Rattle.std.specs.Prelude.{All, IfSome, max, slice_set, Option, None, Some, option_map}
use Rattle.std.proofs.Common.{◌≡◌, ◌≢◌, ◌⊎◌, ◌∙◌, inl, inr, refl, sym, ap, subst, ℕ, zero, suc, ◌+◌, ◌<◌, ◌≤◌, true, List, [], ◌∷◌, Contains, length, map, replicate, slice_index, arith}
use Rattle.std.proofs.lemmas.{Bool.cases_eq, List.{length-map, map-set}}
use Rattle.std.proofs.lemmas.{List.Elements.{All-cons, All-contains, All-nil, All-weaker}, Option.same_Some}
use Rattle.dr_play.{specs.Sound.IsSound, proofs.Sound.history_there}
use Rattle.dr_play.proofs.Deeds.{deed_tells, acts, appends, fails, gives, looks, sends, takes, look_place, push_place, misses}
use Rattle.dr_entry.specs.{Spelling.IsValidEntry, declared.entry.Entry.Entry}
use Rattle.dr_machine.{specs.{Group.{Group, IsGroup, roster}, Run.PastGrew}, proofs.Groups.{IsPlace, place_in}}
use Rattle.dr_machine.proofs.Worlds.{past_on, past_same}
use Rattle.dr_history.{specs.{Agreement.EndsAgreed, History.up_to_view}, proofs.Histories.up_to_view_valid}
use Rattle.dr_program.specs.{Presence.{present_at, with_present}, declared.{packet.Packet.Packet, setup.Setup.Setup}}
use Rattle.dr_program.{specs.Program.{Program, begun_program, end_at}, proofs.RunningPrograms.{act_is, with_member}}
use Rattle.dr_program.{specs.Reading.world, proofs.Copies.IsToOther}
use Rattle.dr_program.specs.{Running.{after_step, begun_running, deed, next_deed, next_step}, declared.deed.Deed.Deed}
use Rattle.dr_program.proofs.Present.{MayGet, present_kept, present_map, present_set, present_within, set_itself}
use Rattle.dr_program.specs.declared.deed.Deed.TheVariants as deeds
use Rattle.dr_program_laws.{specs.Carried.{IsCarried, WasSent}, proofs.Ending.ends_agreed}
use Rattle.dr_program_laws.proofs.{Carried.{carried_begins, carried_comes, IsCarriedOn}, Programs.begun_program_of}
use Rattle.dr_restart.specs.{Groups.group_of, Setups.{AreSetupsOf, IsSetupOf}, declared.start.Start.Start}
use Rattle.dr_restart.proofs.Setups.{age_begins_reached}
use Rattle.dr_script.specs.declared.script.Script.{Script}
use Rattle.dr_words.specs.Layout.{word_index_of, words_of}
use Rattle.dr_world_laws.proofs.{Messages.valid_history, Worlds.{holds_messages, known}}
use Rattle.dr_member.proofs.Deeds.{append_due}
use Rattle.dr_door.specs.Apart.{Apart, ApartStep, ApartWay, AreCopies, Gives, HaveBegunApart, IsRanApart, Letter, Sends, members_of_doors, with_door}
use Rattle.dr_door.{specs.Begun.{HasBegun, begun_lone}, proofs.Copies.{copies_elsewhere, copies_kept, copies_written}}
use Rattle.dr_door.specs.{Coming.{came_by, refusal}, declared.refused.Refused.Refused}
use Rattle.dr_door.specs.Lone.{Lone, after_alone, after_asking, after_push, failed, is_alone, went_on}

-- the letter stands at its member's place
abbrev pub StandsIn : List (Option (List Entry)) → Letter → Type 0
StandsIn letters one = present_at letters one.to ≡ Some one.entries

-- its entries are valid
abbrev pub HasValidEntries : Letter → Type 0
HasValidEntries one = All IsValidEntry one.entries

-- the doors are those of this program, whose words are carried by what they have sent, and which has the letters
-- that they have given
pub record IsOfDoors (g : Group) (a : Apart) (p : Program) : Type 0 where
  pub carried : IsCarried g p a.sent
  pub members : p.members ≡ members_of_doors a.doors
  pub copies : AreCopies g a.doors p.table
  pub others : All (IsToOther g) a.sent
  pub letters : All (StandsIn p.letters) a.letters
  pub valid : All HasValidEntries a.letters

-- ---- who stands there

pub there_is : (g : Group) (a : Apart) (p : Program) (m : ℕ) (d : Lone) → IsOfDoors g a p
    → present_at a.doors m ≡ Some d → present_at p.members m ≡ Some d.member
there_is g a p m d is there = ap (λ ms. present_at ms m) is.members ∙ present_map (λ (x : Lone). x.member) a.doors m
    ∙ ap (option_map (λ (x : Lone). x.member)) there

as_many : (g : Group) (a : Apart) (p : Program) → IsOfDoors g a p → length a.doors ≡ roster g
as_many g a p is = sym (length-map a.doors (option_map (λ (x : Lone). x.member)))
    ∙ sym (ap length is.members) ∙ is.carried.form.all

members_on : (g : Group) (a : Apart) (p : Program) (m : ℕ) (x : Lone) → IsOfDoors g a p
    → with_present p.members m x.member ≡ members_of_doors (with_present a.doors m x)
members_on g a p m x is = ap (λ ms. with_present ms m x.member) is.members
    ∙ sym (map-set (option_map (λ (y : Lone). y.member)) a.doors m (Some x))

-- ---- a step

-- the doors are then those of a program that has all that this one had done
abbrev pub Keeps : Group → Program → Apart → Type 0
Keeps g p b = (q : Program) × IsOfDoors g b q × PastGrew (world g p).past (world g q).past

-- after a deed of its member
goes : (g : Group) (a : Apart) (p : Program) (m : ℕ) (x : Lone) (cells : List ℕ) (net : List Packet) → IsOfDoors g a p
    → IsCarriedOn g p (with_member p m x.member cells) net → AreCopies g (with_present a.doors m x) cells
    → All (IsToOther g) net → Keeps g p (record { doors = with_present a.doors m x; sent = net; letters = a.letters })
goes g a p m x cells net is on copies others = (
  with_member p m x.member cells,
  record {
    carried = on.carried;
    members = members_on g a p m x is;
    copies = copies;
    others = others;
    letters = is.letters;
    valid = is.valid;
  },
  on.grew,
)

-- where its member is as before
stays : (g : Group) (a : Apart) (p : Program) (m : ℕ) (d x : Lone) (cells : List ℕ)
    → IsOfDoors g a p → present_at a.doors m ≡ Some d → x.member ≡ d.member
    → IsCarried g (record { members = p.members; table = cells; letters = p.letters }) a.sent
    → AreCopies g (with_present a.doors m x) cells → Keeps g p (with_door a m x)
stays g a p m d x cells is there same carried copies = (
  record { members = p.members; table = cells; letters = p.letters },
  record {
    carried = carried;
    members = sym (set_itself p.members m d.member (there_is g a p m d is there))
        ∙ ap (with_present p.members m) (sym same) ∙ members_on g a p m x is;
    copies = copies;
    others = is.others;
    letters = is.letters;
    valid = is.valid;
  },
  past_same (world g p).past,
)

-- it sees the word of the program's table
looks_alike : (g : Group) (a : Apart) (p : Program) (m : ℕ) (d : Lone) (index : ℕ) → IsOfDoors g a p
    → present_at a.doors m ≡ Some d → next_deed d.member ≡ deeds.Look index
    → (after_alone d (deeds.Look index)).member ≡ after_step (slice_index p.table index) d.member
looks_alike g a p m d index is there due =
    let at = look_place g p a.sent m d.member index is.carried (there_is g a p m d is there) due in
    ap (λ w. after_step w d.member) (ap (slice_index d.words) at.at
    ∙ is.copies.same m d there d.member.replica.view at.row at.column at.is.bank at.is.row at.is.column
    ∙ ap (slice_index p.table) (sym at.at))

-- a deed that concerns nobody else
alone_kept : (g : Group) (a : Apart) (p : Program) (m : ℕ) (d : Lone) → IsOfDoors g a p
    → present_at a.doors m ≡ Some d → (due : Deed) → next_deed d.member ≡ due → is_alone due ≡ true
    → Keeps g p (with_door a m (after_alone d due))
alone_kept g a p m d is there (deeds.Look index) due alone =
    let x = after_alone d (deeds.Look index) in
    goes g a p m x p.table a.sent is
    (looks g p a.sent m d.member x.member index is.carried (there_is g a p m d is there) due
    (looks_alike g a p m d index is there due)) (copies_kept g a.doors p.table m d x there refl is.copies) is.others
alone_kept g a p m d is there (deeds.Act index word) due alone =
    let x = after_alone d (deeds.Act index word) in
    let r = d.member in
    let member = there_is g a p m d is there in
    let t = deed_tells p.table r (deeds.Act index word) due in
    let of = is.carried.form.of m r member in
    let form = is.carried.form.form m r member in
    let at = act_is r (next_step r) index word (sym (ap (deed r) t.none) ∙ due) in
    let within : m < roster g = omega (arith, present_within p.members m r member, is.carried.form.all) in
    let place : IsPlace g r.replica.view m m 0 = record {
      bank = omega (arith, form.replica.bank, of.banks);
      copy = within;
      row = within;
      column = omega arith;
    } in
    goes g a p m x (slice_set p.table index word) a.sent is
    (acts g p a.sent m r x.member index word is.carried member due refl)
    (copies_written g a.doors p.table m d x r.replica.view m 0 index word (as_many g a p is)
    is.carried.form.table there place
    (sym at ∙ (λ z. word_index_of (of.members z) (of.window z) r.replica.view (of.number z) (of.number z) 0))
    refl is.copies) is.others
alone_kept g a p m d is there due same alone = absurd (cc)

-- a packet that comes
comes_kept : (g : Group) (a : Apart) (p : Program) (m : ℕ) (d : Lone) (packet : Packet) → IsOfDoors g a p
    → present_at a.doors m ≡ Some d → Contains a.sent packet → (o : Option Refused)
    → Keeps g p (with_door a m (came_by o d packet.index packet.word))
comes_kept g a p m d packet is there among (Some cause) =
    stays g a p m d d p.table is there refl is.carried (copies_kept g a.doors p.table m d d there refl is.copies)
comes_kept g a p m d packet is there among None = by (cases_eq one.copy m)
  where
    one : WasSent g (world g p ∷ is.carried.before) packet
    one = All-contains (WasSent g (world g p ∷ is.carried.before)) a.sent packet is.carried.sent among

    x : Lone
    x = came_by None d packet.index packet.word

    by : (one.copy ≡ m) ⊎ (one.copy ≢ m) → Keeps g p (with_door a m (came_by None d packet.index packet.word))
    by (inl e) =
        let word = max (slice_index p.table packet.index) packet.word in
        let place : packet.index ≡ place_in g one.view m one.row one.column =
        one.place ∙ ap (λ j. place_in g one.view j one.row one.column) e in
        let same : slice_index d.words packet.index ≡ slice_index p.table packet.index =
        ap (slice_index d.words) place
        ∙ is.copies.same m d there one.view one.row one.column one.bank one.from one.cell
        ∙ ap (slice_index p.table) (sym place) in
        stays g a p m d x (slice_set p.table packet.index word) is there refl
        (carried_comes g p a.sent packet is.carried among)
        (copies_written g a.doors p.table m d x one.view one.row one.column packet.index word
        (as_many g a p is) is.carried.form.table there
        (record { bank = one.bank; copy = subst (λ j. j < roster g) e one.to; row = one.from; column = one.cell })
        place (ap (λ w. slice_set d.words packet.index (max w packet.word)) same) is.copies)
    by (inr elsewhere) = stays g a p m d x p.table is there refl is.carried
        (copies_elsewhere g a.doors p.table m d x one.view one.copy one.row one.column packet.index
        (max (slice_index d.words packet.index) packet.word) (as_many g a p is) there
        (record { bank = one.bank; copy = one.to; row = one.from; column = one.cell })
        (λ e. elsewhere (sym e)) one.place refl is.copies)

-- a push: its word is kept where the member doesn't look
sends_kept : (g : Group) (a b : Apart) (p : Program) → IsOfDoors g a p → (s : Sends a b) → Keeps g p (record {
  doors = with_present a.doors s.number (after_push s.door (next_deed s.door.member));
  sent = s.packet ∷ a.sent;
  letters = a.letters;
})
sends_kept g a b p is s =
    let x = after_push s.door (deeds.Push s.packet.index s.packet.word) in
    let member = there_is g a p s.number s.door is s.there in
    let to = push_place g p a.sent s.number s.door.member s.packet is.carried member s.due in
    subst (λ due. Keeps g p (record {
      doors = with_present a.doors s.number (after_push s.door due);
      sent = s.packet ∷ a.sent;
      letters = a.letters;
    })) (sym s.due) (goes g a p s.number x p.table (s.packet ∷ a.sent) is
    (sends g p a.sent s.number s.door.member x.member s.packet is.carried member s.due refl)
    (copies_elsewhere g a.doors p.table s.number s.door x to.0.view to.0.copy to.0.row to.0.column s.packet.index
    s.packet.word (as_many g a p is) s.there to.0.is (λ e. to.0.other (to.1 ∙ e)) to.0.at refl is.copies)
    (All-cons (IsToOther g) s.packet a.sent to.0 is.others))

-- a letter that is given
gives_kept : (g : Group) (a b : Apart) (p : Program) → IsOfDoors g a p → (s : Gives a b) → Keeps g p (record {
  doors = with_present a.doors s.number (went_on s.door);
  sent = a.sent;
  letters = record { to = s.late; entries = up_to_view s.door.member.replica.history } ∷ a.letters;
})
gives_kept g a b p is s = (
  on.0,
  record {
    carried = on.1.carried;
    members = on.2 ∙ members_on g a p s.number x is;
    copies = subst (AreCopies g (with_present a.doors s.number x)) (sym on.3)
        (copies_kept g a.doors p.table s.number s.door x s.there refl is.copies);
    others = is.others;
    letters = subst (λ ls. All (StandsIn ls) (new ∷ a.letters)) (sym on.4) (All-cons (StandsIn after) new a.letters
        (present_set p.letters s.late new.entries on.5.within)
        (All-weaker (StandsIn p.letters) (StandsIn after) stands a.letters is.letters));
    valid = All-cons HasValidEntries new a.letters valid is.valid;
  },
  on.1.grew,
)
  where
    x : Lone
    x = went_on s.door

    new : Letter
    new = record { to = s.late; entries = up_to_view s.door.member.replica.history }

    on : (q : Program) × IsCarriedOn g p q a.sent × (q.members ≡ with_present p.members s.number x.member)
        × (q.table ≡ p.table) × (q.letters ≡ with_present p.letters s.late new.entries) × MayGet g p.letters s.late
    on = gives g p a.sent s.number s.late s.door.member x.member is.carried
        (there_is g a p s.number s.door is s.there) s.due refl

    member : present_at p.members s.number ≡ Some s.door.member
    member = there_is g a p s.number s.door is s.there

    sound : IsSound g p
    sound = record { group = is.carried.group; form = is.carried.form; reached = (is.carried.before, is.carried.way) }

    -- the giver's history is valid
    valid : HasValidEntries new
    valid = up_to_view_valid s.door.member.replica.history
        (subst (All IsValidEntry) (history_there g p s.number s.door.member sound member)
        (valid_history g ((world g p).past.history s.number) is.carried.group
        (holds_messages g (world g p) s.number is.carried.group (known g (world g p) is.carried.group sound.reached)
        (omega (arith, present_within p.members s.number s.door.member member, is.carried.form.all)))))

    after : List (Option (List Entry))
    after = with_present p.letters s.late new.entries

    stands : (one : Letter) → StandsIn p.letters one → StandsIn after one
    stands one old = present_kept p.letters s.late one.to new.entries
        (λ same. absurd (cc (ap (present_at p.letters) (sym same) ∙ old, on.5.none))) ∙ old

-- a letter that is asked for, and taken where one has come
asks_kept : (g : Group) (a : Apart) (p : Program) (m : ℕ) (d : Lone) → IsOfDoors g a p → present_at a.doors m ≡ Some d
    → next_deed d.member ≡ deeds.Take → (letter : Option (List Entry)) → IfSome letter (λ entries. Contains a.letters
    (record { to = m; entries = entries })) → Keeps g p (with_door a m (after_asking letter d))
asks_kept g a p m d is there due None given =
    let x = after_asking None d in
    goes g a p m x p.table a.sent is (misses g p a.sent m d.member x.member is.carried
    (there_is g a p m d is there) due refl) (copies_kept g a.doors p.table m d x there refl is.copies) is.others
asks_kept g a p m d is there due (Some entries) given =
    let x = after_asking (Some entries) d in
    goes g a p m x p.table a.sent is
    (takes g p a.sent m d.member x.member entries is.carried (there_is g a p m d is there) due
    (All-contains (StandsIn p.letters) a.letters (record { to = m; entries = entries }) is.letters given) refl)
    (copies_kept g a.doors p.table m d x there refl is.copies) is.others

-- whatever happens next
step_kept : (g : Group) (a b : Apart) (p : Program) → IsOfDoors g a p → ApartStep a b → Keeps g p b
step_kept g a b p is (inl s) = subst (Keeps g p) (sym s.made)
    (alone_kept g a p s.number s.door is s.there (next_deed s.door.member) refl s.due)
step_kept g a b p is (inr (inl s)) = subst (Keeps g p) (sym s.made) (sends_kept g a b p is s)
step_kept g a b p is (inr (inr (inl s))) =
    let x = went_on s.door in
    let due = append_due (next_deed s.door.member) s.due in
    subst (Keeps g p) (sym s.made)
    (goes g a p s.number x p.table a.sent is (appends g p a.sent s.number s.door.member x.member due.0 is.carried
    (there_is g a p s.number s.door is s.there) due.1 refl)
    (copies_kept g a.doors p.table s.number s.door x s.there refl is.copies) is.others)
step_kept g a b p is (inr (inr (inr (inl s)))) =
    let x = failed s.why s.door in
    let due = append_due (next_deed s.door.member) s.due in
    subst (Keeps g p) (sym s.made)
    (goes g a p s.number x p.table a.sent is (fails g p a.sent s.number s.why s.door.member x.member due.0 is.carried
    (there_is g a p s.number s.door is s.there) due.1 refl)
    (copies_kept g a.doors p.table s.number s.door x s.there refl is.copies) is.others)
step_kept g a b p is (inr (inr (inr (inr (inl s))))) = subst (Keeps g p) (sym s.made) (gives_kept g a b p is s)
step_kept g a b p is (inr (inr (inr (inr (inr (inl s)))))) = subst (Keeps g p) (sym s.made)
    (asks_kept g a p s.number s.door is s.there s.due s.letter s.given)
step_kept g a b p is (inr (inr (inr (inr (inr (inr s)))))) = subst (Keeps g p) (sym s.made)
    (comes_kept g a p s.number s.door s.packet is s.there s.sent (refusal s.door s.packet.index s.packet.word))

-- and so on
pub way_kept : (g : Group) (begun a : Apart) (before : List Apart) (p : Program) → IsOfDoors g begun p
    → ApartWay begun before a → Keeps g p a
way_kept g begun a [] p is way = (p, subst (λ c. IsOfDoors g c p) (sym way) is, past_same (world g p).past)
way_kept g begun a (x ∷ xs) p is way =
    let so = way_kept g begun x xs p is way.0 in
    let on = step_kept g x a so.0 so.1 way.1 in
    (on.0, on.1, past_on (world g p).past (world g so.0).past (world g on.0).past so.2 on.2)

-- ---- the beginning

members_begun : (setups : List (Option Setup)) → map (option_map begun_running) setups
    ≡ members_of_doors (map (option_map begun_lone) setups)
members_begun [] = refl
members_begun (None ∷ xs) = ap (λ ms. None ∷ ms) (members_begun xs)
members_begun (Some s ∷ xs) = ap (λ ms. Some (begun_running s) ∷ ms) (members_begun xs)

-- whoever stands there was told a setup
door_begun : (setups : List (Option Setup)) (m : ℕ) (d : Lone)
    → present_at (map (option_map begun_lone) setups) m ≡ Some d
    → (s : Setup) × (present_at setups m ≡ Some s) × (begun_lone s ≡ d)
door_begun setups m d there = by (present_at setups m) refl
  where
    by : (o : Option Setup) → present_at setups m ≡ o
        → (s : Setup) × (present_at setups m ≡ Some s) × (begun_lone s ≡ d)
    by None e = absurd (cc (sym (present_map begun_lone setups m ∙ ap (option_map begun_lone) e) ∙ there))
    by (Some s) e = (
      s,
      e,
      same_Some (begun_lone s) d (sym (present_map begun_lone setups m ∙ ap (option_map begun_lone) e) ∙ there),
    )

-- setups by which these doors have begun, as members from number k on
record AreSetUp (script : Script) (start : Start) (nth k : ℕ) (doors : List (Option Lone)) : Type 0 where
  setups : List (Option Setup)
  each : (m : ℕ) (s : Setup) → present_at setups m ≡ Some s → IsSetupOf script start nth (k + m) s
  made : doors ≡ map (option_map begun_lone) setups

-- with one more in front
one_more : (script : Script) (start : Start) (nth k : ℕ) (o : Option Lone) (doors : List (Option Lone))
    → ((d : Lone) → o ≡ Some d → HasBegun script start nth k d) → AreSetUp script start nth (suc k) doors
    → AreSetUp script start nth k (o ∷ doors)
one_more script start nth k None doors begun are = record {
  setups = None ∷ are.setups;
  each = behind;
  made = ap (λ xs. None ∷ xs) are.made;
}
  where
    behind : (m : ℕ) (s : Setup) → present_at (None ∷ are.setups) m ≡ Some s → IsSetupOf script start nth (k + m) s
    behind zero s there = absurd (cc)
    behind (suc m) s there = subst (λ n. IsSetupOf script start nth n s) (omega arith) (are.each m s there)
one_more script start nth k (Some d) doors begun are = record {
  setups = Some one.0 ∷ are.setups;
  each = behind;
  made = ap (λ x. Some x ∷ doors) one.2 ∙ ap (λ xs. Some (begun_lone one.0) ∷ xs) are.made;
}
  where
    one : HasBegun script start nth k d
    one = begun d refl

    behind : (m : ℕ) (s : Setup) → present_at (Some one.0 ∷ are.setups) m ≡ Some s
        → IsSetupOf script start nth (k + m) s
    behind zero s there = subst (λ n. IsSetupOf script start nth n s) (omega arith)
        (subst (IsSetupOf script start nth k) (same_Some one.0 s there) one.1)
    behind (suc m) s there = subst (λ n. IsSetupOf script start nth n s) (omega arith) (are.each m s there)

set_up : (script : Script) (start : Start) (nth k : ℕ) (doors : List (Option Lone))
    → ((m : ℕ) (d : Lone) → present_at doors m ≡ Some d → HasBegun script start nth (k + m) d)
    → AreSetUp script start nth k doors
set_up script start nth k [] begun = record { setups = []; each = λ m s there. absurd (cc); made = refl }
set_up script start nth k (o ∷ doors) begun = one_more script start nth k o doors
    (λ d same. subst (λ n. HasBegun script start nth n d) (omega arith) (begun zero d same)) (set_up script start nth
    (suc k) doors (λ m d there. subst (λ n. HasBegun script start nth n d) (omega arith) (begun (suc m) d there)))

-- the doors of those that are there have begun by setups of the group
setups_begun : (script : Script) (start : Start) (nth : ℕ) (a : Apart) → HaveBegunApart script start nth a
    → (setups : List (Option Setup)) × AreSetupsOf script start nth setups
    × (a ≡ record { doors = map (option_map begun_lone) setups; sent = []; letters = [] })
setups_begun script start nth a begun = (
  are.setups,
  record {
    all = sym (length-map are.setups (option_map begun_lone)) ∙ sym (ap length are.made) ∙ begun.all;
    each = λ m s there. subst (λ n. IsSetupOf script start nth n s) (omega arith) (are.each m s there);
    there = λ m within here. let d = begun.there m within here in
        let s = door_begun are.setups m d.0 (ap (λ xs. present_at xs m) (sym are.made) ∙ d.1) in (s.0, s.1);
  },
  λ z. record { doors = are.made z; sent = begun.sent z; letters = begun.letters z },
)
  where
    are : AreSetUp script start nth 0 a.doors
    are = set_up script start nth 0 a.doors
        (λ m d there. subst (λ n. HasBegun script start nth n d) (omega arith) (begun.each m d there))

pub begun_kept : (script : Script) (start : Start) (nth : ℕ) (a : Apart) → IsGroup (group_of script start)
    → length script.messages ≡ script.members → 1 ≤ script.turns → HaveBegunApart script start nth a
    → (p : Program) × IsOfDoors (group_of script start) a p
begun_kept script start nth a group lists some begun = subst (λ c. (p : Program) × IsOfDoors g c p) (sym all.2) (
  p,
  record {
    carried = carried_begins g p group (begun_program_of script start nth p group lists some begins)
        (age_begins_reached script start nth p group lists begins);
    members = members_begun setups;
    copies = record {
      whole = λ m d there. ap length (same m d there);
      same = λ m d there v i c bank row column. ap (λ ws. slice_index ws (place_in g v m i c)) (same m d there);
    };
    others = All-nil (IsToOther g);
    letters = All-nil (StandsIn p.letters);
    valid = All-nil HasValidEntries;
  },
)
  where
    g : Group
    g = group_of script start

    all : (xs : List (Option Setup)) × AreSetupsOf script start nth xs
        × (a ≡ record { doors = map (option_map begun_lone) xs; sent = []; letters = [] })
    all = setups_begun script start nth a begun

    setups : List (Option Setup)
    setups = all.0

    p : Program
    p = begun_program (group_of script start) setups

    begins : (xs : List (Option Setup)) × AreSetupsOf script start nth xs × (p ≡ begun_program g xs)
    begins = (setups, all.1, refl)

    same : (m : ℕ) (d : Lone) → present_at (map (option_map begun_lone) setups) m ≡ Some d → d.words ≡ p.table
    same m d there =
        let one = door_begun setups m d there in
        let is = all.1.each m one.0 one.1 in
        ap (λ (x : Lone). x.words) (sym one.2)
        ∙ (λ z. replicate (words_of (is.setup.members z) (is.setup.window z) (is.setup.banks z)) 0)

-- ---- the law

pub doors_kept : (script : Script) (start : Start) (nth : ℕ) (begun a : Apart) → IsGroup (group_of script start)
    → length script.messages ≡ script.members → 1 ≤ script.turns → HaveBegunApart script start nth begun
    → IsRanApart begun a → (p : Program) × IsOfDoors (group_of script start) a p
doors_kept script start nth begun a group lists some begins (before, way) =
    let first = begun_kept script start nth begun group lists some begins in
    let so = way_kept (group_of script start) begun a before first.0 first.1 way in (so.0, so.1)

pub doors_carried : (script : Script) (start : Start) (nth : ℕ) (begun a : Apart) → IsGroup (group_of script start)
    → length script.messages ≡ script.members → 1 ≤ script.turns → HaveBegunApart script start nth begun
    → IsRanApart begun a → (p : Program) × IsCarried (group_of script start) p a.sent
    × (p.members ≡ members_of_doors a.doors) × AreCopies (group_of script start) a.doors p.table
doors_carried script start nth begun a group lists some begins ran =
    let so = doors_kept script start nth begun a group lists some begins ran in
    (so.0, so.1.carried, so.1.members, so.1.copies)

pub doors_agreed : (script : Script) (start : Start) (nth : ℕ) (begun a : Apart) → IsGroup (group_of script start)
    → length script.messages ≡ script.members → 1 ≤ script.turns → HaveBegunApart script start nth begun
    → IsRanApart begun a → EndsAgreed (group_of script start).opening (map end_at (members_of_doors a.doors))
doors_agreed script start nth begun a group lists some begins ran =
    let so = doors_carried script start nth begun a group lists some begins ran in
    subst (λ ms. EndsAgreed (group_of script start).opening (map end_at ms)) so.2
    (ends_agreed (group_of script start) so.0 group so.1.form (so.1.before, so.1.way))
