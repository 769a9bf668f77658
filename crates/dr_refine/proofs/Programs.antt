-- Programs that stand for a world: their members, and how these end.
use Rattle.std.specs.Prelude.{Some, None, Option}
use Rattle.std.proofs.Common.{◌≡◌, ℕ, ◌<◌, arith, take, ◌∙◌, ◌⊎◌, refl, sym, ap, inl, inr, Bool, true, false, subst, slice_index, [], ◌≤◌, All, length, List}
use mathlib.Core.Path.{fun_ext}
use Rattle.dr_entry.specs.{declared.end.{End.End, MemberEnd.MemberEnd}, declared.record.Value.Value}
use Rattle.dr_history.specs.{Agreement.accounts_of, History.sent_of, Members.has, Order.IsLateIn}
use Rattle.dr_words.specs.Layout.{word_index_of}
use Rattle.dr_machine.specs.{Effects.vote_for, Group.{Group, IsGroup, roster, IsPresent, late_members, columns}}
use Rattle.dr_machine.{specs.{Run.IsReached, World.opening_world}, proofs.Groups.AreAccounts}
use Rattle.dr_machine.proofs.Presence.{late_in, in_roster}
use Rattle.dr_program.{specs.{Form.WaitsToJoin, Steps.found}, proofs.Holdings.{held_of, Holding, held, holding_of}}
use Rattle.dr_program.{specs.{Net.took_nothing, Reading.{world, table_of, Shared, world_of}}, proofs.Sent.sent_there}
use Rattle.dr_program.specs.{Presence.{present_at, with_present}, Replica.{is_inside, me, is_other, Replica, vote_of}}
use Rattle.dr_program.specs.Program.{Program}
use Rattle.dr_program.{specs.Running.{Running, AsksForLetter, settled, took_letter}, proofs.Programs.ends_of}
use Rattle.dr_program.proofs.{Deeds.{of_there, replicas, replica_there}, Outside.{IsApart, AreApart, takes_letter}}
use Rattle.dr_program.proofs.{OpeningForm.unended_form, Replicas.{word_inside, replicas_of, unended, unended_of}}
use Rattle.dr_program.proofs.Present.{present_within, replaced_either, end_told, absent_sent, present_map, of_end, all_ends, replica_at, present_set}
use Rattle.dr_refine.{specs.Programs.{IsProgram, IsMember}, proofs.Guards.other_within}

-- member m of a program of the group, in a world that is reached
pub record IsThere (g : Group) (p : Program) (m : ℕ) (r : Running) : Type 0 where
  pub group : IsGroup g
  pub program : IsProgram g p
  pub reached : IsReached g (world g p)
  pub there : present_at p.members m ≡ Some r

-- it is of the roster
pub within : (g : Group) (p : Program) (m : ℕ) (r : Running) → IsThere g p m r → m < roster g
within g p m r is = omega (arith, present_within p.members m r is.there, is.program.all)

pub there_is : (g : Group) (p : Program) (m : ℕ) (r : Running) → IsThere g p m r → IsPresent g m
there_is g p m r is = (is.program.of m r is.there).present

-- another one
pub beside : (g : Group) (p : Program) (m : ℕ) (r : Running) (i : ℕ) (q : Running) → IsThere g p m r
    → present_at p.members i ≡ Some q → IsThere g p i q
beside g p m r i q is at = record { group = is.group; program = is.program; reached = is.reached; there = at }

-- what the world has of it
pub history_is : (g : Group) (p : Program) (m : ℕ) (r : Running) → IsThere g p m r
    → (world g p).past.history m ≡ r.replica.history
history_is g p m r is = of_there p (λ q. q.history) (opening_world g).past.history m r is.there

pub log_is : (g : Group) (p : Program) (m : ℕ) (r : Running) → IsThere g p m r
    → (world g p).past.log m ≡ take r.replica.logged r.replica.history
log_is g p m r is = of_there p (λ q. take q.logged q.history) (opening_world g).past.log m r is.there

pub durable_is : (g : Group) (p : Program) (m : ℕ) (r : Running) → IsThere g p m r
    → (world g p).past.durable m ≡ r.replica.durable
durable_is g p m r is = of_there p (λ q. q.durable) (opening_world g).past.durable m r is.there

pub ended_is : (g : Group) (p : Program) (m : ℕ) (r : Running) (end : End) → IsThere g p m r
    → r.replica.end ≡ Some end → (world g p).end m ≡ Some end
ended_is g p m r end is e = of_there p (λ q. q.end) (opening_world g).end m r is.there ∙ e

pub view_is : (g : Group) (p : Program) (m : ℕ) (r : Running) → IsThere g p m r → (world g p).past.view m ≡ r.replica.view
view_is g p m r is = of_there p (λ q. q.view) (opening_world g).past.view m r is.there

pub members_are : (g : Group) (p : Program) (m : ℕ) (r : Running) → IsThere g p m r
    → (world g p).members m ≡ r.replica.members
members_are g p m r is = of_there p (λ q. q.members) (opening_world g).members m r is.there

-- and it is a member of it, or late, and has not joined
pub own_view : (g : Group) (p : Program) (m : ℕ) (r : Running) → IsThere g p m r
    → (has r.replica.members m ≡ true) ⊎ (IsLateIn g.opening m × (r.replica.view ≡ 0))
own_view g p m r is = by (is_inside r.replica) refl
  where
    number : me r.replica ≡ m
    number = (is.program.of m r is.there).number

    late : WaitsToJoin r.replica → IsLateIn g.opening m
    late out = late_in g m is.group (ap (λ k. has (late_members g) k) (sym number)
        ∙ ap (λ mask. has mask (me r.replica)) (sym (is.program.of m r is.there).late) ∙ out.late)

    by : (b : Bool) → is_inside r.replica ≡ b
        → (has r.replica.members m ≡ true) ⊎ (IsLateIn g.opening m × (r.replica.view ≡ 0))
    by true inside = inl (ap (has r.replica.members) (sym number) ∙ inside)
    by false outside = let out = (is.program.form m r is.there).replica.outside outside in
        inr (late out, out.first)

-- the world has it as none of its view
pub none_of_it : (g : Group) (p : Program) (m : ℕ) (r : Running) → IsThere g p m r
    → has r.replica.members m ≡ false → has ((world g p).members m) m ≡ false
none_of_it g p m r is outside = ap (λ mask. has mask m) (members_are g p m r is) ∙ outside

-- a take that finds no letter
pub missed_apart : (g : Group) (p : Program) (m : ℕ) (r : Running) → IsProgram g p → AreApart p
    → present_at p.members m ≡ Some r → AsksForLetter r → AreApart (took_nothing p m r)
missed_apart g p m r is all there asks k y found =
    elim (replaced_either p.members m r (settled (took_letter None r)) there k y found) [
      | inl here ↦ subst IsApart here.1 (takes_letter None r (is.form m r there) asks (all m r there))
      | inr other ↦ all k y other.1
    ]

-- the word that the look finds is that of the world's table
pub word_found : (g : Group) (p : Program) (m : ℕ) (r : Running) (i c : ℕ)
    → IsMember g (replicas p.members) (table_of p) m r.replica → m < roster g → is_other r.replica i ≡ true
    → c < columns g → (world g p).table ((world g p).past.view m) m i c ≡ found p.table r.replica i c
word_found g p m r i c member within other column = ap (λ v. (world g p).table v m i c)
    (ap (λ x. x.view) (held_of g (replicas p.members) (table_of p) m r.replica member.there))
    ∙ word_inside g p.table r.replica.view m i c (omega (arith, member.form.bank, member.of.banks)) within
    (other_within g (replicas p.members) (table_of p) m r.replica i member other) column
    ∙ ap (slice_index p.table) (λ z. word_index_of (sym member.of.members z)
    (sym member.of.window z) r.replica.view (sym member.of.number z) i c)

-- what was sent in the world of a program is what the ends of its members say
pub world_sent : (g : Group) (p : Program) → IsProgram g p → (world g p).past.sent ≡ sent_of (ends_of p)
world_sent g p program = fun_ext λ m. fun_ext λ v. by m v (present_at p.members m) refl
  where
    by : (m v : ℕ) (o : Option Running) → present_at p.members m ≡ o → (world g p).past.sent m v
        ≡ sent_of (ends_of p) m v
    by m v None e = rw (present_map (λ (x : Running). x.replica) p.members m, e) (sym (absent_sent p.members m v e))
    by m v (Some r) e = rw (replica_there p m r e, end_told p m r e)
        (sent_there r.replica v (program.form m r e).replica.left)

-- each member that is there stands at its place
pub stands_there : (g : Group) (p : Program) (m : ℕ) → IsGroup g → IsProgram g p → IsPresent g m
    → (r : Running) × (present_at p.members m ≡ Some r)
stands_there g p m is program here = program.there m (in_roster g m is here) here

-- the ends tell what the members have done in the world
pub are_accounts : (g : Group) (p : Program) → IsGroup g → IsProgram g p → AreAccounts g (world g p) (accounts_of (ends_of p))
are_accounts g p is program = record {
  sent = sym (world_sent g p program);
  history = λ m l. let x = at m l in
      of_end p (λ e. e.history) [] m x.0 x.1
      ∙ sym (of_there p (λ r. r.history) (opening_world g).past.history m x.0 x.1);
  log = λ m l. let x = at m l in
      of_end p (λ e. take e.logged e.history) [] m x.0 x.1
      ∙ sym (of_there p (λ r. take r.logged r.history) (opening_world g).past.log m x.0 x.1);
  durable = λ m l. let x = at m l in
      of_end p (λ e. e.durable) 0 m x.0 x.1
      ∙ sym (of_there p (λ r. r.durable) (opening_world g).past.durable m x.0 x.1);
}
  where
    at : (m : ℕ) → IsPresent g m → (r : Running) × (present_at p.members m ≡ Some r)
    at m here = stands_there g p m is program here

-- nobody has logged more than it has delivered
pub all_told : (g : Group) (p : Program) → IsProgram g p
    → All (λ (e : MemberEnd). e.logged ≤ length e.history) (ends_of p)
all_told g p program = all_ends (λ (e : MemberEnd). e.logged ≤ length e.history) p (omega arith)
    (λ m r there. (program.form m r there).replica.logged)

pub member_at : (g : Group) (p : Program) (m : ℕ) (r : Running) → IsGroup g → IsProgram g p
    → present_at p.members m ≡ Some r → IsMember g (replicas_of p) (table_of p) m r.replica
member_at g p m r group form there = record {
  group = group;
  cells = form.table;
  posts = form.posts;
  there = replica_at p m r there;
  form = (form.form m r there).replica;
  of = form.of m r there;
}

pub unended_member : (g : Group) (rs : List (Option Replica)) (table : Shared) (m : ℕ) (r : Replica)
    → IsMember g rs table m r → IsMember g (with_present rs m (unended r)) table m (unended r)
unended_member g rs table m r is = record {
  group = is.group;
  cells = is.cells;
  posts = is.posts;
  there = present_set rs m (unended r) (present_within rs m r is.there);
  form = unended_form r is.form;
  of = unended_of g m r is.of;
}

pub vote_is : (g : Group) (rs : List (Option Replica)) (table : Shared) (m : ℕ) (r : Replica) (v : Value)
    → IsMember g rs table m r → vote_of r v ≡ vote_for g (world_of g rs table) m v
vote_is g rs table m r v is =
    let h : held (world_of g rs table) m ≡ holding_of g r = held_of g rs table m r is.there in
    λ z. record {
      age = is.of.age z;
      view = sym (ap (λ (x : Holding). x.view) h) z;
      ballot = sym (ap (λ (x : Holding). x.promise) h) z;
      members = is.of.members z;
      value = v;
    }
