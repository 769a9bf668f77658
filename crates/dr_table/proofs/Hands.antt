-- What is known of the members of a hand, as it is dealt, and as hands are cut and put together.
use Rattle.std.specs.Prelude.{All, None, Some, option_map, Option, Vec, slice_get, slice_index, ◌^◌}
use Rattle.std.specs.declared.alloc.Global.{Global}
use Rattle.std.proofs.Common.{◌≡◌, ◌⊎◌, inl, inr, refl, sym, ap, ◌∙◌, subst, ℕ, zero, suc, ◌+◌, ◌-◌, ◌<◌, ◌≤◌, List, [], ◌∷◌, get_or, length, map, replicate, arith}
use Rattle.std.proofs.lemmas.List.{get_or_default, length-map, length-replicate, replicate-append-replicate}
use Rattle.std.proofs.lemmas.{List.Sums.sum_by-cons, Option.{same_Some, slice_get_within}}
use Rattle.dr_entry.{specs.declared.entry.Entry.Entry, proofs.ListPlaces.no_trim}
use Rattle.dr_history.{specs.Members.members_of, proofs.{MemberLemmas.few_members, Orders.some_of, Ranks.at_rank_of}}
use Rattle.dr_machine.{specs.Group.{banks, late_members, roster}, proofs.Presence.{in_roster, late_in}}
use Rattle.dr_member.specs.Deeds.{table_size}
use Rattle.dr_program.specs.{Form.IsRunningMember, Presence.present_at, Program.{Program, begun_program, ran}}
use Rattle.dr_program.{specs.{Reading.letters_of, Running.{Running, begun_running}}, proofs.Opening.begun_reached}
use Rattle.dr_program.proofs.{Present.{present_map, none_read}, Programs.none_ran}
use Rattle.dr_refine.{specs.Programs.IsProgram, proofs.Steps.begun_is_program}
use Rattle.dr_words.{specs.{Columns.columns_of, Layout.words_of}, proofs.Layouts.words_small}
use Rattle.dr_words.proofs.Places.{word_index_within}
use Rattle.dr_table.{specs.{Cards.{AreOf, AreReached, Cards, opened}, declared.rule.View.View}, proofs.Posting.free}
use Rattle.dr_table.specs.{Rule.{Found, HasSuchProgram, IsDealt, no_posts, number}, declared.rule.Errand.Errand}
use Rattle.dr_table.specs.Slots.{HaveSlots, IsBlankList, IsBlankSlot, IsPosted, Slot, slot_number}
use Rattle.atomic_table.proofs.Lists.{at_index, at_map}
use mathlib.Core.Option.{some}
use lib.ListN.{get_elem?}

-- ---- members as they are dealt

dealt_program : (dealt : List (Option Running)) (d : IsDealt dealt) → IsProgram d.group
    (begun_program d.group d.setups)
dealt_program dealt d = begun_is_program d.group d.turns d.setups d.is d.some d.are

dealt_there : (dealt : List (Option Running)) (d : IsDealt dealt) (k : ℕ) (r : Running) → present_at dealt k ≡ Some r
    → present_at (begun_program d.group d.setups).members k ≡ Some r
dealt_there dealt d k r there = ap (λ l. present_at l k) (sym d.begun) ∙ there

pub dealt_number : (dealt : List (Option Running)) (d : IsDealt dealt) (k : ℕ) (r : Running) → present_at dealt k ≡ Some r
    → number r ≡ k
dealt_number dealt d k r there = ((dealt_program dealt d).of k r (dealt_there dealt d k r there)).number

pub dealt_reached : (dealt : List (Option Running)) (d : IsDealt dealt) → AreReached dealt
dealt_reached dealt d k r there = (
  d.group,
  begun_program d.group d.setups,
  record {
    sound = record {
      group = d.is;
      form = dealt_program dealt d;
      reached = begun_reached d.group d.turns d.setups d.is d.are;
    };
    there = ap (present_at (begun_program d.group d.setups).members) (dealt_number dealt d k r there)
        ∙ dealt_there dealt d k r there;
  },
)

-- the number of words of the group's table, which is not 0
pub dealt_words : (dealt : List (Option Running)) (d : IsDealt dealt)
    → 0 < words_of (roster d.group) d.group.window (banks d.group)
dealt_words dealt d =
    let some : 0 < roster d.group = let s = d.is.some_member in omega arith in
    let column : 0 < columns_of (roster d.group) d.group.window = omega arith in
    let bank : 0 < banks d.group = omega (arith, some) in
    let below = word_index_within (roster d.group) d.group.window (banks d.group) 0 0 0 0 bank some some column in
    omega (arith, below)

-- each of its members knows the number, and that of the board's words
pub dealt_table : (dealt : List (Option Running)) (d : IsDealt dealt) (k : ℕ) (r : Running)
    → present_at dealt k ≡ Some r → table_size r ≡ words_of (roster d.group) d.group.window (banks d.group)
dealt_table dealt d k r there =
    let of = (dealt_program dealt d).of k r (dealt_there dealt d k r there) in
    λ z. words_of (of.members z) (of.window z) (of.banks z)

pub dealt_of : (dealt : List (Option Running)) (d : IsDealt dealt) → AreOf
    (words_of (roster d.group) d.group.window (banks d.group) + roster d.group) dealt
dealt_of dealt d k r there =
    let of = (dealt_program dealt d).of k r (dealt_there dealt d k r there) in
    λ z. dealt_table dealt d k r there z + of.members z

-- it is in form
pub dealt_form : (dealt : List (Option Running)) (d : IsDealt dealt) (k : ℕ) (r : Running)
    → present_at dealt k ≡ Some r → IsRunningMember r
dealt_form dealt d k r there = (dealt_program dealt d).form k r (dealt_there dealt d k r there)

-- the words of the table are few
pub dealt_small : (dealt : List (Option Running)) (d : IsDealt dealt)
    → words_of (roster d.group) d.group.window (banks d.group) < 2 ^ 32
dealt_small dealt d = words_small (roster d.group) d.group.window (banks d.group) d.is.most_members d.is.most_slots
    (omega (arith, d.is.most_members, few_members (late_members d.group)))

pub dealt_few : (dealt : List (Option Running)) (d : IsDealt dealt) → length dealt ≡ roster d.group
dealt_few dealt d = ap length d.begun ∙ length-map d.setups (option_map begun_running) ∙ d.are.all

-- somebody is dealt
pub dealt_some : (dealt : List (Option Running)) (d : IsDealt dealt) → (k : ℕ) × (r : Running)
    × (present_at dealt k ≡ Some r)
dealt_some dealt d =
    let sound = d.is.sound in
    let (m, of) = some_of (roster d.group) d.group.opening.members sound.members in
    let (s, at) = d.are.there m (sound.members.within m of) (sound.part m of) in (
      m,
      begun_running s,
      ap (λ l. present_at l m) d.begun ∙ present_map begun_running d.setups m ∙ ap (option_map begun_running) at,
    )

-- one of them knows the late members of the group
pub dealt_late : (dealt list : List (Option Running)) (d : IsDealt dealt) (r : Running) (mask : ℕ)
    → list ≡ dealt → (k : ℕ) × (present_at list k ≡ Some r) → mask ≡ r.replica.late → mask ≡ late_members d.group
dealt_late dealt list d r mask same (k, there) is = is
    ∙ ((dealt_program dealt d).of k r (dealt_there dealt d k r (ap (λ l. present_at l k) (sym same) ∙ there))).late

-- and the number of the words of its table
pub dealt_size : (dealt list : List (Option Running)) (d : IsDealt dealt) (r : Running) (size : ℕ)
    → list ≡ dealt → (k : ℕ) × (present_at list k ≡ Some r) → size ≡ table_size r
    → size ≡ words_of (roster d.group) d.group.window (banks d.group)
dealt_size dealt list d r size same (k, there) is =
    is ∙ dealt_table dealt d k r (ap (λ l. present_at l k) (sym same) ∙ there)

-- the board opens with the program of the group
pub dealt_opened : (dealt : List (Option Running)) (d : IsDealt dealt) (words : ℕ)
    → words ≡ words_of (roster d.group) d.group.window (banks d.group)
    → ◌≡◌ {A = Program} (record { members = dealt; table = replicate words 0; letters = no_posts dealt })
    (begun_program d.group d.setups)
dealt_opened dealt d words same = λ z. record {
  members = d.begun z;
  table = replicate (same z) 0;
  letters = replicate (dealt_few dealt d z) None;
}

-- what is in a slot of blank lists
blank_there : (room : ℕ) (slots : List Slot) (i : ℕ) → i < length slots → All (IsBlankSlot room) slots
    → (list : Vec Entry Global) × (get_elem? (map some slots) i ≡ some (some (Some list))) × IsBlankList room list
blank_there room slots i within all = by (get_or slots i None) refl (all i None within)
  where
    by : (o : Slot) → get_or slots i None ≡ o → IsBlankSlot room o
        → (list : Vec Entry Global) × (get_elem? (map some slots) i ≡ some (some (Some list))) × IsBlankList room list
    by None same blank = absurd blank
    by (Some list) same blank = (
      list,
      at_map some slots i (Some list)
          (at_index slots i (Some list) within (sym same ∙ get_or_default slots i None (Some list) within)),
      blank,
    )

-- the slots of an age as it opens: for each late member one with a blank list, with room for each history
pub record AreBlank (dealt : List (Option Running)) (late most : ℕ) (slots : List Slot) : Type 0 where
  pub count : length slots ≡ length (members_of late)
  pub blank : All (IsBlankSlot most) slots
  pub room : (m : ℕ) (r : Running) → present_at dealt m ≡ Some r → r.replica.room ≤ most

slots_dealt : (dealt : List (Option Running)) (d : IsDealt dealt) (n room : ℕ) (slots : List Slot)
    → AreBlank dealt (late_members d.group) room slots
    → HaveSlots d.group dealt (no_posts dealt) room (replicate n 0) (map some slots) (free dealt ∷ [])
slots_dealt dealt d n room slots are = record {
  late = λ j late.
      let rank = at_rank_of (late_members d.group) j
      (omega (arith, in_roster d.group j d.is (late_in d.group j d.is late).0, d.is.most_members)) late in
      subst (λ word. IsPosted room word (get_elem? (map some slots) (slot_number (late_members d.group) j))
      (letters_of (no_posts dealt) j)) (sym (no_trim n j)) (record {
        yet = λ below. none_read (length dealt) j;
        there = λ two. absurd (omega (arith, two));
        blank = λ none. blank_there room slots (slot_number (late_members d.group) j) (omega (
          arith,
          are.count,
          slice_get_within (members_of (late_members d.group)) (slot_number (late_members d.group) j) j rank,
        )) are.blank;
        full = λ two. absurd (omega (arith, two));
        empty = λ four. absurd (omega (arith, four));
        away = λ out. absurd (neither out);
        last = omega arith;
      });
  others = λ j no. no_trim n j;
  abouts = λ s u e at busy. absurd (first s u e at busy);
  out = λ j out. absurd (neither (which (slice_index (replicate n 0) j) (no_trim n j) out));
  joined = λ j r four there. absurd (omega (arith, no_trim n j, four));
  room = are.room;
}
  where
    neither : ◌≡◌ {A = ℕ} 0 1 ⊎ ◌≡◌ {A = ℕ} 0 3 → ⊥
    neither (inl one) = omega (arith, one)
    neither (inr three) = omega (arith, three)

    which : (a : ℕ) → a ≡ 0 → (a ≡ 1) ⊎ (a ≡ 3) → ◌≡◌ {A = ℕ} 0 1 ⊎ ◌≡◌ {A = ℕ} 0 3
    which a none (inl one) = inl (sym none ∙ one)
    which a none (inr three) = inr (sym none ∙ three)

    first : (s : ℕ) (u : View) (e : Errand) → slice_get (free dealt ∷ []) s ≡ Some u → u.errand ≡ Some e → ⊥
    first zero u e at busy = cc (ap (λ (z : View). z.errand) (same_Some (free dealt) u at), busy)
    first (suc s) u e at busy = cc at

-- the rule holds as the members are dealt, in one hand
pub dealt_kept : (dealt : List (Option Running)) (d : IsDealt dealt) (words room : ℕ) (slots : List Slot)
    → words ≡ words_of (roster d.group) d.group.window (banks d.group)
    → AreBlank dealt (late_members d.group) room slots
    → HasSuchProgram dealt (replicate (words + length dealt) 0) (map some slots) (free dealt ∷ [])
dealt_kept dealt d words room slots same are = record {
  opening = d;
  members = dealt;
  table = replicate words 0;
  letters = no_posts dealt;
  flags = replicate (length dealt) 0;
  most = room;
  ran = none_ran (begun_program d.group d.setups) (record {
    members = dealt;
    table = replicate words 0;
    letters = no_posts dealt;
  }) (dealt_opened dealt d words same);
  laid = sym (replicate-append-replicate words (length dealt) 0);
  all = length-replicate (length dealt) 0 ∙ dealt_few dealt d;
  stands = record {
    each = λ s a r f. let at = only s a r f in
        ap (present_at dealt) (dealt_number dealt d a r at.1) ∙ at.1;
    once = λ s a t b r q f g e.
        let x = only s a r f in
        let y = only t b q g in
        (x.0 ∙ sym y.0, sym (dealt_number dealt d a r x.1) ∙ e ∙ dealt_number dealt d b q y.1);
    all = λ k r there. (0, k, r, (dealt, refl, there), dealt_number dealt d k r there);
  };
  places = omega (arith, sum_by-cons length dealt []);
  slots = slots_dealt dealt d (length dealt) room slots are;
}
  where
    only : (s a : ℕ) (r : Running) → Found (dealt ∷ []) s a r → (s ≡ 0) × (present_at dealt a ≡ Some r)
    only zero a r (v, is, there) = (refl, ap (λ l. present_at l a) (same_Some dealt v is) ∙ there)
    only (suc s) a r (v, is, there) = absurd (cc)

-- ---- boards

pub board_opened : (inside board : Cards) → inside ≡ board → inside.table.places ≡ length inside.members
    → (d : IsDealt inside.members) → AreOf inside.table.id.words inside.members
    → opened board ≡ begun_program d.group d.setups
board_opened inside board is places d are =
    let (k, r, there) = dealt_some inside.members d in
    let size = sym (are k r there) ∙ dealt_of inside.members d k r there in
    ap opened (sym is) ∙ dealt_opened inside.members d (inside.table.id.words - inside.table.places)
    (omega (arith, size, places, dealt_few inside.members d))
