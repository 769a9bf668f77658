-- Which of the next items of another member are there: the mask behind each deed.
use Rattle.std.{specs.{Int.bit_at, Prelude.is_some}, proofs.lemmas.{Bool.Decides.nat_tests, List.get_or-set_same}}
use Rattle.std.proofs.Common.{◌≡◌, ◌≢◌, sym, ap, ◌∙◌, subst, inl, inr, ℕ, ◌+◌, ◌-◌, ◌*◌, ◌/◌, ◌<◌, ◌≤◌, ◌==◌, ◌&&◌, ◌↔◌, not, true, false, nat_lt, bit_and, arith}
use Rattle.std.proofs.lemmas.{Bool.{and_parts, cases_lt, eq-eqb, eqb-true}, Nat.Bits.{and_pow, bit_at-suc}}
use Rattle.dr_entry.proofs.BoolFacts.{same_test, order}
use Rattle.dr_ring.{specs.Slots.{IsReady, slot_of}, proofs.Readiness.{not_yet, ready_test}}
use Rattle.dr_words.specs.Columns.{columns_of}
use Rattle.dr_machine.specs.declared.{event.Act.Act, step.Step.TheVariants.Do}
use Rattle.dr_machine.specs.declared.event.Act.TheVariants as acts
use Rattle.dr_program.{specs.{Acts.{may, taken}, Form.HasForm}, proofs.Parts.is_receive}
use Rattle.dr_program.specs.Replica.{Replica, acted, count, greatest, is_other, is_wedged, may_receive, me, ready_item, received}
use Rattle.dr_program.specs.{Running.{goes, next_step, step_at}, declared.place.{Part.Part, Place.Place}}
use Rattle.dr_program.{specs.Turn.{IsIn, after, part_of}, proofs.{Replicas.slots_stay, Works.goes_receives}}
use Rattle.dr_program.specs.declared.place.Part.TheVariants as parts
use Rattle.dr_member.specs.{Inside.{IsInsideMember, member_inside}, Ready.{KeepsReady, TellsReady}}
use Rattle.dr_member.specs.declared.member.Member.TheInside.{Inside}

-- ---- where items are received

-- elsewhere in the turn nothing is kept
pub elsewhere : (q : Replica) (p : Place) (part : Part) (ready : ℕ) → part_of p ≡ part
    → is_receive part ≡ false → KeepsReady q p ready
elsewhere q p part ready at other here = absurd (cc (ap is_receive here, ap is_receive at ∙ other))

-- behind a deed of another part nothing is kept
pub gone_elsewhere : (n k : ℕ) (q : Replica) (p from : Place) (part : Part) (ready : ℕ) → IsIn n k p
    → part_of p ≡ part → is_receive part ≡ false → from ≡ goes n k (part_of p) p → KeepsReady q from ready
gone_elsewhere n k q p from part ready is at other gone here =
    let back : part_of p ≡ parts.Receive =
    goes_receives n k p is (subst (λ (x : Place). part_of x ≡ parts.Receive) gone here) in
    absurd (cc (ap is_receive back, ap is_receive at ∙ other))

-- ---- what the mask says

-- its lowest bit tells whether the next item is there
low_bit : (r : Replica) (s mask : ℕ) → 1 ≤ r.window → TellsReady r s mask
    → (bit_and mask 1 == 1) ≡ is_some (ready_item r s)
low_bit r s mask some tells =
    let slot = slot_of r.window r.rows s in
    let set : (bit_at mask 0 ≡ 1) ↔ IsReady (count r s) (slot (count r s)) =
    subst (λ (k : ℕ). (bit_at mask 0 ≡ 1) ↔ IsReady k (slot k)) (omega arith) (tells.set 0 (omega (arith, some))) in
    let test = ready_test (count r s) (slot (count r s)) in
    let low : bit_and mask 1 ≡ bit_at mask 0 * 1 = and_pow mask 0 in
    same_test _ _ (λ e. test.1 (set.0 (omega (arith, low, eqb-true (bit_and mask 1) 1 e))))
    (λ e. eq-eqb (bit_and mask 1) 1 (omega (arith, low, set.1 (test.0 e))))

-- so it is what the next receive asks
pub receives_by : (r : Replica) (p : Place) (mask : ℕ) → HasForm r → part_of p ≡ parts.Receive → KeepsReady r p mask
    → ((not (is_wedged r) && (nat_lt (count r p.row) (greatest r.totals) && is_other r p.row))
    && (bit_and mask 1 == 1)) ≡ may_receive r p.row
receives_by r p mask form at keeps = order (not (is_wedged r)) (nat_lt (count r p.row) (greatest r.totals))
    (is_other r p.row) _ _ (λ other. low_bit r p.row mask form.some_slot (keeps at other))

-- ---- behind a receive

-- the next items move up
received_tells : (r : Replica) (s mask : ℕ) → HasForm r → s < r.roster → s ≢ me r
    → IsReady (count r s) (slot_of r.window r.rows s (count r s)) → TellsReady r s mask
    → TellsReady (acted (received r s)) s (mask / 2)
received_tells r s mask form within other there tells = record {
  set = λ i l. elim (cases_lt (i + 1) r.window) [
    | inl inner ↦ subst (λ (x : ℕ → ℕ). (bit_at (mask / 2) i ≡ 1) ↔ IsReady (count q s + i) x)
        (sym (slots_stay r s (count q s + i) other))
        (subst (λ (k : ℕ). (bit_at (mask / 2) i ≡ 1) ↔ IsReady k (slot k)) (omega (arith, more))
        (subst (λ (b : ℕ). (b ≡ 1) ↔ IsReady (count r s + (i + 1)) (slot (count r s + (i + 1)))) (bit i)
        (tells.set (i + 1) inner)))
    | inr past ↦ (
      λ e. absurd (omega (arith, e, bit i, tells.clear (i + 1) past)),
      λ h. absurd (not_yet r.window r.rows s (count r s) form.some_slot there
          (subst (λ (k : ℕ). IsReady k (slot k)) (omega (arith, more, past, l))
          (subst (IsReady (count q s + i)) (slots_stay r s (count q s + i) other) h))),
    )
  ];
  clear = λ i l. sym (bit i) ∙ tells.clear (i + 1) (omega (arith, l));
}
  where
    q : Replica
    q = acted (received r s)

    slot : ℕ → ℕ → ℕ
    slot = slot_of r.window r.rows s

    more : count q s ≡ count r s + 1
    more = get_or-set_same r.counts s (count r s + 1) 0 (omega (arith, within, form.counts))

    bit : (i : ℕ) → bit_at mask (i + 1) ≡ bit_at (mask / 2) i
    bit i = ap (bit_at mask) (omega arith) ∙ bit_at-suc mask i

-- an act at a place where items are received is the receive of that row
act_is : (part : Part) (r : Inside) (i c : ℕ) (act : Act) → part ≡ parts.Receive
    → step_at (member_inside r) part i c ≡ Do act → act ≡ acts.Receive i
act_is parts.Receive r i c act at e = cc e
act_is part r i c act at e = absurd (cc at)

-- behind an act the mask is still right where the member stands
pub act_keeps : (a : Inside) (q : Replica) (act : Act) (from : Place) (ready : ℕ) → IsInsideMember a
    → next_step (member_inside a) ≡ Do act → may a.replica act ≡ true → q ≡ taken a.replica act
    → from ≡ goes a.replica.roster (columns_of a.replica.roster a.replica.window) (part_of a.place) a.place
    → ((s : ℕ) → act ≡ acts.Receive s → ready ≡ a.ready / 2) → KeepsReady q from ready
act_keeps a q act from ready is due allowed after gone moved here other_now =
    subst (λ (p : Place). TellsReady q p.row ready) (sym there)
    (subst (λ (x : Replica). TellsReady x row ready) (sym (after ∙ ap (taken a.replica) receive))
    (subst (TellsReady (acted (received a.replica row)) row) (sym (moved row receive))
    (received_tells a.replica row a.ready is.form.replica within apart (waits row may_it) (is.ready at other))))
  where
    row : ℕ
    row = a.place.row

    n : ℕ
    n = a.replica.roster

    k : ℕ
    k = columns_of a.replica.roster a.replica.window

    at : part_of a.place ≡ parts.Receive
    at = goes_receives n k a.place is.form.place (subst (λ (x : Place). part_of x ≡ parts.Receive) gone here)

    there : from ≡ a.place
    there = gone ∙ ap (λ x. goes n k x a.place) at

    receive : act ≡ acts.Receive row
    receive = act_is (part_of a.place) a row a.place.column act at due

    both : (nat_lt row a.replica.roster && may_receive a.replica row) ≡ true
    both = subst (λ (x : Act). may a.replica x ≡ true) receive allowed

    within : row < a.replica.roster
    within = let t = (and_parts (nat_lt row a.replica.roster) _ both).0 in grind (arith, nat_tests, t)

    may_it : may_receive a.replica row ≡ true
    may_it = (and_parts (nat_lt row a.replica.roster) _ both).1

    other : is_other a.replica row ≡ true
    other = (and_parts (is_other a.replica row) _ (and_parts (not (is_wedged a.replica)) _ may_it).1).0

    apart : row ≢ me a.replica
    apart = λ e. absurd (grind (arith, nat_tests, other, e))

    waits : (s : ℕ) → may_receive a.replica s ≡ true
        → IsReady (count a.replica s) (slot_of a.replica.window a.replica.rows s (count a.replica s))
    waits s e = (ready_test (count a.replica s) _).0 (and_parts (is_some (ready_item a.replica s)) _
        (and_parts (is_other a.replica s) _ (and_parts (not (is_wedged a.replica)) _ e).1).1).0
