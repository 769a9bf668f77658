-- The doors of the members of an age before their first deeds.
use Rattle.std.specs.{List.range_with_len, Prelude.{Bool, Option, Some, None}}
use Rattle.std.proofs.Common.{◌≡◌, refl, ap, sym, ◌∙◌, ◌⊎◌, inl, inr, ℕ, zero, suc, ◌<◌, ◌≤◌, if◌then◌else◌, arith, true, false, List, [], ◌∷◌, ◌++◌, append-nil, le_refl, length, length-append, map}
use Rattle.std.proofs.lemmas.Bool.{cases_eq, cases_lt}
use Rattle.std.proofs.lemmas.List.{get_or_append_left, get_or_past, get_or_push, take_all}
use Rattle.std.proofs.lemmas.Option.{none-some, same_Some}
use Rattle.dr_door.specs.{Apart.{Apart, HaveBegunApart}, Begun.{HasBegun, begun_lone}, Lone.Lone}
use Rattle.dr_history.specs.{History.messages_of, Members.has}
use Rattle.dr_kept.specs.Leaving.{HasJustLogged}
use Rattle.dr_log_bytes.specs.Content.{OnLog}
use Rattle.dr_machine.specs.Group.{Group, banks, late_members}
use Rattle.dr_program.{specs.{Presence.present_at, declared.setup.Setup.Setup}, proofs.Opening.{setup_is, setup_of}}
use Rattle.dr_restart.specs.{Groups.group_of, Setups.{IsSetupOf, crashes_of, suspicions_of}, declared.start.Start.Start}
use Rattle.dr_script.specs.{Ranges.HasGroupRanges, declared.script.Script.Script}
use Rattle.dr_restart.specs.Trying.{first_view_of}
use Rattle.dr_words.{specs.declared.shape.Shape.Shape, proofs.Unique.same_shape}

-- a script that a group goes by
pub record Plan : Type 0 where
  pub script : Script
  pub ranges : HasGroupRanges script
  pub turns : 1 ≤ script.turns

-- ---- a list with a place for each of the first n

below : (ℕ → Option Lone) → ℕ → List (Option Lone)
below f zero = []
below f (suc n) = below f n ++ f n ∷ []

length-below : (f : ℕ → Option Lone) (n : ℕ) → length (below f n) ≡ n
unfolding below
length-below f zero = refl
length-below f (suc n) = omega (arith, length-append (below f n) (f n ∷ []), length-below f n)

at-below : (f : ℕ → Option Lone) (n m : ℕ) → m < n → present_at (below f n) m ≡ f m
unfolding below
at-below f zero m l = absurd (omega (arith, l))
at-below f (suc n) m l = by (cases_eq m n) (at-below f n m)
  where
    by : (m ≡ n) ⊎ (m ≡ n → ⊥) → (m < n → present_at (below f n) m ≡ f m)
        → present_at (below f n ++ f n ∷ []) m ≡ f m
    by (inl e) rest = get_or_push (below f n) (f n) None m (length-below f n ∙ sym e) ∙ ap f (sym e)
    by (inr d) rest =
        let k : m < n = omega (arith, d, l) in
        get_or_append_left (below f n) (f n ∷ []) None m (omega (arith, length-below f n, k)) ∙ rest k

past-below : (f : ℕ → Option Lone) (n m : ℕ) → n ≤ m → present_at (below f n) m ≡ None
past-below f n m l = get_or_past (below f n) m None (omega (arith, length-below f n, l))

-- ---- the doors

abbrev pub shape_for : Plan → Start → Shape
shape_for p start = record {
  members = p.script.members;
  window = p.script.window;
  banks = banks (group_of p.script start);
  some_member = p.ranges.some_member;
  most_members = p.ranges.most_members;
  some_slot = p.ranges.some_slot;
  most_slots = p.ranges.most_slots;
}

-- what a member is told as the age of a start opens
abbrev pub setup_for : Plan → Start → ℕ → Setup
setup_for p start m = record {
  shape = shape_for p start;
  me = m;
  age = start.age;
  members = start.members;
  late = late_members (group_of p.script start);
  turns = p.script.turns;
  start = start.entries;
  messages = messages_of (group_of p.script start).opening m;
  totals = map (λ i. length (messages_of (group_of p.script start).opening i)) (range_with_len 0 16);
  patience = p.script.patience;
  crashes = crashes_of p.script.faults 0 m;
  suspicions = suspicions_of p.script.faults 0 m;
}

-- its door, where it is there
abbrev pub fresh_at : Plan → Start → ℕ → Option Lone
fresh_at p start m = if has start.present m then Some (begun_lone (setup_for p start m)) else None

-- the doors of all
pub fresh : Plan → Start → Apart
fresh p start = record { doors = below (fresh_at p start) p.script.members; sent = []; letters = [] }

pub fresh-setup : (p : Plan) (start : Start) (m : ℕ) → has start.present m ≡ true
    → IsSetupOf p.script start 0 m (setup_for p start m)
fresh-setup p start m there = record {
  setup = record {
    present = there;
    members = sym p.ranges.lists;
    window = refl;
    banks = refl;
    me = refl;
    age = refl;
    view = refl;
    late = refl;
    turns = refl;
    start = refl;
    messages = refl;
    totals = refl;
  };
  patience = refl;
  crashes = refl;
  suspicions = refl;
}

pub fresh-there : (p : Plan) (start : Start) (m : ℕ) → m < p.script.members → has start.present m ≡ true
    → present_at (fresh p start).doors m ≡ Some (begun_lone (setup_for p start m))
unfolding fresh
fresh-there p start m l there = at-below (fresh_at p start) p.script.members m l
    ∙ ap (λ b. if b then Some (begun_lone (setup_for p start m)) else None) there

fresh-is : (p : Plan) (start : Start) (m : ℕ) (d : Lone) → present_at (fresh p start).doors m ≡ Some d
    → (has start.present m ≡ true) × (d ≡ begun_lone (setup_for p start m))
unfolding fresh
fresh-is p start m d e = by (cases_lt m p.script.members)
  where
    which : (b : Bool) → has start.present m ≡ b
        → (if b then Some (begun_lone (setup_for p start m)) else None) ≡ Some d
        → (has start.present m ≡ true) × (d ≡ begun_lone (setup_for p start m))
    which true h f = (h, sym (same_Some _ _ f))
    which false h f = absurd (none-some d f)

    by : (m < p.script.members) ⊎ (p.script.members ≤ m)
        → (has start.present m ≡ true) × (d ≡ begun_lone (setup_for p start m))
    by (inl l) = which (has start.present m) refl (sym (at-below (fresh_at p start) p.script.members m l) ∙ e)
    by (inr l) = absurd (none-some d (sym (past-below (fresh_at p start) p.script.members m l) ∙ e))

pub fresh-begun : (p : Plan) (start : Start) → HaveBegunApart p.script start 0 (fresh p start)
unfolding fresh
fresh-begun p start = record {
  all = length-below (fresh_at p start) p.script.members;
  each = λ m d e. let is = fresh-is p start m d e in
      (setup_for p start m, fresh-setup p start m is.0, is.1);
  there = λ m l here. (begun_lone (setup_for p start m), fresh-there p start m l here);
  sent = refl;
  letters = refl;
}

-- a door that has begun is this one
pub one-fresh : (p : Plan) (start : Start) (m : ℕ) (d : Lone) → HasBegun p.script start 0 m d
    → d ≡ begun_lone (setup_for p start m)
one-fresh p start m d begun = begun.2 ∙ ap begun_lone (setup_is g p.script.turns m s is.setup
    ∙ ap (λ shape. setup_of g p.script.turns m shape s) shapes ∙ same)
  where
    g : Group
    g = group_of p.script start

    s : Setup
    s = begun.0

    is : IsSetupOf p.script start 0 m s
    is = begun.1

    shapes : s.shape ≡ shape_for p start
    shapes = same_shape s.shape (shape_for p start) (is.setup.members ∙ p.ranges.lists) is.setup.window is.setup.banks

    same : setup_of g p.script.turns m (shape_for p start) s ≡ setup_for p start m
    same = λ z. record (setup_for p start m) {
      patience = is.patience z;
      crashes = is.crashes z;
      suspicions = is.suspicions z;
    }

-- where a log has what the age begins with, the door has logged just that
pub fresh-just : (p : Plan) (start : Start) (m : ℕ) (log : OnLog)
    → log.entries ≡ start.entries ++ first_view_of start ∷ []
    → HasJustLogged log (begun_lone (setup_for p start m)).member.replica log
fresh-just p start m log e = record {
  entries = e ∙ sym (take_all (length (start.entries ++ first_view_of start ∷ []))
      (start.entries ++ first_view_of start ∷ []) (le_refl _));
  votes = sym (append-nil log.votes);
  age_votes = refl;
}
