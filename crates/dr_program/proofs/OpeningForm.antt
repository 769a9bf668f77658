-- The members of a program as its age opens have their form.
use Rattle.std.specs.Prelude.{Option, Some, None, option_map}
use Rattle.std.proofs.Common.{◌≡◌, ◌≢◌, refl, sym, ap, ◌∙◌, subst, ℕ, zero, ◌+◌, ◌-◌, ◌*◌, ◌<◌, ◌≤◌, inl, false, true, ◌||◌, Bool, List, [], ◌∷◌, length, map, if◌then◌else◌, arith, length-append, ◌^◌}
use Rattle.std.proofs.lemmas.{List.length-replicate, Option.same_Some}
use Rattle.dr_entry.{specs.declared.entry.Entry.TheVariants.View, proofs.ListPlaces.{copy_at, greatest_within}}
use Rattle.dr_entry.proofs.NumberFacts.{other_number, product_within}
use Rattle.dr_history.{specs.{Members.{has, members_of}, Places.first}, proofs.{Bits.has_zero, Lengths.start-short}}
use Rattle.dr_history.proofs.{MemberLemmas.few_members, Places.front_of_none}
use Rattle.dr_rows.{specs.Words.{begun, own}, proofs.WordsLemmas.{IsWords-begun, IsWords-looked, IsFresh-begun}}
use Rattle.dr_words.{specs.Columns.{columns_of, recv_column}, proofs.Masks.{some_of, in_roster_small}}
use Rattle.dr_words.specs.{Packing.{accept_promise, accept_tag, accept_value, recv_word}, declared.shape.Shape.Shape}
use Rattle.dr_words.specs.declared.column.TheConstants.{LOGGED_COLUMN, RECEIVED_COLUMN, SUSPECTED_COLUMN}
use Rattle.dr_words.proofs.Layouts.{first_in_form}
use Rattle.dr_ring.specs.Slots.{slot_column}
use Rattle.dr_program.specs.{Form.{CanBegin, HasForm, IsOf, IsRunningMember}, declared.setup.Setup.Setup}
use Rattle.dr_program.{specs.Presence.present_at, proofs.{Deeds.settle_replica, Programs.with_one_turn}}
use Rattle.dr_program.{specs.Program.{IsSetup, AreSetups}, proofs.Opening.{first_own, setup_of, setup_is, shape_is}}
use Rattle.dr_program.specs.Replica.{Replica, begun_replica, first_entries_of, count, greatest, members_in_view}
use Rattle.dr_program.{specs.Running.{begun_running, Running, settled}, proofs.Present.{present_map, present_within}}
use Rattle.dr_program.proofs.{Beside.beside_form, Replicas.unended}
use Rattle.dr_machine.{specs.Group.{Group, IsGroup, IsPresent, roster}, proofs.Worlds.no_part}
use Rattle.dr_machine.proofs.Groups.{IsShape, base_within, totals_of, first_of_roster, late_of_roster, late_apart, first_or_late}

-- ---- the replica

-- a member that can begin is of the roster, and where it is not in View 0, it is late
known_within : (s : Setup) → CanBegin s → s.me < s.shape.members
known_within s can = by (has s.members s.me) refl
  where
    by : (b : Bool) → has s.members s.me ≡ b → s.me < s.shape.members
    by true e = can.roster s.me e
    by false e = can.late s.me (sym (ap (λ b. b || has s.late s.me) e) ∙ can.present)

late_outside : (s : Setup) → CanBegin s → has s.members s.me ≡ false → has s.late s.me ≡ true
late_outside s can e = sym (ap (λ b. b || has s.late s.me) e) ∙ can.present

-- a replica that can begin begins in its form
pub begun_in_form : (s : Setup) → CanBegin s → HasForm (begun_replica s)
begun_in_form s can =
    let r : Replica = begun_replica s in
    let n : ℕ = s.shape.members in
    let k : ℕ = columns_of s.shape.members s.shape.window in
    let logged : ℕ = length (first_entries_of s) in
    let few : n ≤ 16 = s.shape.most_members in
    let narrow : k ≤ 1024 = omega (arith, s.shape.most_slots, few) in
    let low : LOGGED_COLUMN < k = omega arith in
    let inside : s.me < n = known_within s can in
    let shown : ℕ = if has s.members s.me then logged else 0 in
    let word : (c : ℕ) → c ≢ LOGGED_COLUMN → own r.rows c ≡ 0 =
    λ c other. first_own n k s.me shown c few narrow inside low
    ∙ ap (λ b. if b then shown else 0) (other_number c LOGGED_COLUMN other) in
    let most_banks : length (members_of s.late) ≤ 16 = few_members s.late in
    let none : (i : ℕ) → count r i ≡ 0 = copy_at {X = ℕ} n 0 in
    let most : greatest r.totals ≤ 4096 = greatest_within s.totals 0 4096 (omega arith) can.few in
    let one : length s.start + 1 ≡ logged = sym (length-append s.start (View s.age 0 s.members ∷ [])) in
    record {
      rows = IsWords-looked (begun n k s.me) s.me LOGGED_COLUMN shown
          (IsWords-begun n k s.me few narrow inside) inside;
      members = refl;
      columns = refl;
      words = first_in_form n k s.me shown (omega (arith, inside));
      some_slot = s.shape.some_slot;
      most_slots = s.shape.most_slots;
      number = inside;
      trusted = has_zero s.me;
      named = λ i there. absurd (grind (arith, has_zero i, there));
      frozen = λ i. (IsFresh-begun n k s.me).unfrozen i ∙ sym (has_zero i);
      suspected = word SUSPECTED_COLUMN (omega arith);
      bank = omega (arith, can.banks, inside);
      left = refl;
      roster = can.roster;
      late = can.late;
      outside = λ e. record {
        late = late_outside s can e;
        first = refl;
        trusting = refl;
        none = refl;
        idle = refl;
        all = refl;
      };
      counts = length-replicate n 0;
      bounded = λ i. omega (arith, none i);
      few = most;
      items = length-replicate (greatest r.totals * n) _;
      recv = λ i l. word (recv_column i) (omega arith) ∙ sym (ap (λ x. recv_word x false) (none i));
      accept = λ c is. ap accept_promise (word c (λ e. absurd (grind (arith, is, e))));
      tagged = λ c is. ap accept_tag (word c (λ e. absurd (grind (arith, is, e))));
      valued = λ c is. ap accept_value (word c (λ e. absurd (grind (arith, is, e)))) ∙ sym (no_part n c);
      low = omega arith;
      decided = λ x e. absurd (cc e);
      given = omega arith;
      waits = λ x e. absurd (cc e);
      votes = omega arith;
      received = word RECEIVED_COLUMN (omega arith) ∙ sym (front_of_none n (members_in_view r));
      beat = omega (arith, word 0 (omega arith));
      acts = omega arith;
      published = first_published (has s.members s.me) logged
          (first_own n k s.me shown LOGGED_COLUMN few narrow inside low);
      ring = λ i part l. let zero = word (slot_column n s.shape.window i + part) (omega arith) in
          omega (arith, zero);
      messages = can.messages;
      short = can.short;
      bytes = can.bytes;
      put = sym (none s.me);
      order = record {
        index = λ k l. absurd (omega (arith, l));
        left = omega (arith, can.base);
        nulls = λ l. absurd (omega (arith, l));
      };
      logged = omega arith;
      room = omega (arith, one, can.banks, inside);
      small = let product = product_within (greatest r.totals) n most few in
          omega (arith, product, can.start, can.banks, most_banks, few);
    }
  where
    first_published : (b : Bool) (logged : ℕ) {x : ℕ} → x ≡ (if b then logged else 0) → x ≤ logged
    first_published true logged e = omega (arith, e)
    first_published false logged e = omega (arith, e)

-- a setup of the group can begin
setups_can_begin : (g : Group) (limit m : ℕ) (shape : Shape) (told : Setup) → IsGroup g
    → IsShape g shape → IsPresent g m → CanBegin (setup_of g limit m shape told)
setups_can_begin g limit m shape told is of there = record {
  banks = omega (arith, of.banks, of.members);
  some = is.sound.members.some;
  roster = rw of.members (first_of_roster g is);
  late = rw of.members (late_of_roster g is);
  apart = λ i late. late_apart g i is late;
  present = first_or_late g m is there;
  few = λ i. omega (arith, totals_of g i is, is.messages i);
  messages = sym (totals_of g m is);
  short = is.short m;
  bytes = is.bytes m;
  base = base_within g m is;
  start = start-short g.opening is.sound is.age is.some_member is.most_members is.messages;
}

-- a member can begin with its setup
pub can_begin : (g : Group) (limit m : ℕ) (s : Setup) → IsGroup g → IsSetup g limit m s → CanBegin s
can_begin g limit m s is setup = rw (setup_is g limit m s setup)
    (setups_can_begin g limit m s.shape s is (shape_is g limit m s setup) setup.present)

begun_form : (g : Group) (limit m : ℕ) (shape : Shape) (told : Setup) → IsGroup g → IsShape g shape
    → IsPresent g m → HasForm (begun_replica (setup_of g limit m shape told))
begun_form g limit m shape told is of there =
    begun_in_form (setup_of g limit m shape told) (setups_can_begin g limit m shape told is of there)

begun_is_of : (g : Group) (limit m : ℕ) (shape : Shape) (told : Setup) → IsGroup g → IsShape g shape
    → IsPresent g m → IsOf g m (begun_replica (setup_of g limit m shape told))
begun_is_of g limit m shape told is of there = record {
  present = there;
  number = refl;
  age = refl;
  members = of.members;
  window = of.window;
  banks = of.banks;
  messages = refl;
  totals = λ s. totals_of g s is;
  late = refl;
  room = rw (of.banks, of.members) (omega arith);
}

begun_runs : (g : Group) (limit m : ℕ) (shape : Shape) (told : Setup) → IsGroup g → IsShape g shape
    → IsPresent g m → 1 ≤ limit → IsRunningMember (begun_running (setup_of g limit m shape told))
begun_runs g limit m shape told is of there some = record {
  replica = begun_form g limit m shape told is of there;
  place = record { part = omega arith; row = omega arith; column = omega arith };
  due = λ e. refl;
  free = inl refl;
  turns = omega arith;
  waits = record { counts = length-replicate {A = ℕ} 16 0; beats = length-replicate {A = ℕ} 16 0 };
  left = λ e b. some;
}

-- and begins in form
pub begins_in_form : (g : Group) (limit m : ℕ) (s : Setup) → IsGroup g → 1 ≤ limit
    → IsSetup g limit m s → IsRunningMember (begun_running s) × IsOf g m (begun_running s).replica
begins_in_form g limit m s is some setup =
    let shape = shape_is g limit m s setup in
    rw (setup_is g limit m s setup) (
      begun_runs g limit m s.shape s is shape setup.present some,
      begun_is_of g limit m s.shape s is shape setup.present,
    )

-- somebody is in the first view
pub someone : (s : Setup) → CanBegin s → 0 < length (members_of s.members)
someone s can = some_of s.members s.shape.members can.roster s.shape.most_members can.some

pub begins : (g : Group) (limit m : ℕ) (s : Setup) → IsGroup g → IsSetup g limit m s → m < roster g
    → HasForm (begun_replica s) × IsOf g m (begun_replica s)
begins g limit m s is setup within =
    let begun = begins_in_form g 1 m (record s { turns = 1 }) is (omega arith) (with_one_turn g limit m s setup) in
    (begun.0.replica, begun.1)

-- each replica has begun with the setup of its number
pub begun_at : (g : Group) (limit : ℕ) (setups : List (Option Setup)) → AreSetups g limit setups
    → (P : Replica → Type 0) (m : ℕ) (r : Replica) → present_at (map (option_map begun_replica) setups) m ≡ Some r
    → ((s : Setup) → IsSetup g limit m s → m < roster g → P (begun_replica s)) → P r
begun_at g limit setups are P m r there begins =
    by (present_at setups m) refl (sym (present_map begun_replica setups m) ∙ there)
  where
    by : (o : Option Setup) → present_at setups m ≡ o → option_map begun_replica o ≡ Some r → P r
    by None e is = absurd (cc)
    by (Some s) e is = subst P (same_Some (begun_replica s) r is)
        (begins s (are.each m s e) (omega (arith, present_within setups m s e, are.all)))

pub of_settled : (g : Group) (m : ℕ) (x : Running) → IsOf g m x.replica → IsOf g m (settled x).replica
of_settled g m x of = subst (IsOf g m) (sym (settle_replica _ x)) of

-- who a replica suspects are of its roster, so that they have 16 bits
pub suspects_small : (r : Replica) → HasForm r → r.suspects < 2 ^ 16
suspects_small r form = in_roster_small 16 r.suspects
    (λ n h. omega (arith, form.named n h, form.rows.few, form.members))

pub unended_form : (r : Replica) → HasForm r → HasForm (unended r)
unended_form r f = beside_form r r.next r.logged r.durable r.turns r.acts r.history None r.committed r.pending
    r.votes f (omega arith) f.logged f.room (omega arith) f.acts f.waits f.votes f.decided
    (λ outside. let waits = f.outside outside in (waits.none, waits.idle, waits.all))
