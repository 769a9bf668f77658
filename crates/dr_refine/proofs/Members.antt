-- A member of a world: what its replica shows there, and what a change of its replica makes of the world.
use Rattle.std.specs.Prelude.{Some, Option}
use Rattle.std.proofs.Common.{◌≡◌, refl, sym, ap, ◌∙◌, ℕ, ◌<◌, List, length, arith, set-set}
use Rattle.dr_rows.{specs.Words.{own, seen, with_own}, proofs.Grids.seen_kept}
use Rattle.dr_words.specs.declared.column.TheConstants.{BEAT_COLUMN}
use Rattle.dr_machine.specs.{Effects.{one_more, stamped}, Group.{Group, columns}, World.World, Writes.at₄}
use Rattle.dr_machine.specs.Effects as effects
use Rattle.dr_faithful.proofs.Copies.{Fits, own_written, inside}
use Rattle.dr_program.specs.{Presence.{present_at, with_present}, Reading.{Shared, world_of, kept_word}}
use Rattle.dr_program.{specs.Replica.{Replica, acted}, proofs.Present.present_set}
use Rattle.dr_program.proofs.Holdings.{Holding, holding_of, held_of, replaced, own_after, own_changes, stamp_after, stamp_changes}
use Rattle.dr_refine.{specs.Programs.{IsMember, IsTable, acted_table}, proofs.Tables.table_written}

-- ---- the rows

-- the rows of a member fit
pub fits : (g : Group) (rs : List (Option Replica)) (table : Shared) (m : ℕ) (r : Replica)
    → IsMember g rs table m r → Fits g m r.rows r.view
fits g rs table m r is = record {
  number = is.of.number;
  words = is.form.rows;
  members = is.form.members ∙ is.of.members;
  columns = is.form.columns ∙ rw (is.of.members, is.of.window) refl;
  bank = omega (arith, is.form.bank, is.of.banks);
}

-- ---- one own word, and acts

-- an own word of a replica is one of its world
pub own_world : (g : Group) (rs : List (Option Replica)) (table : Shared) (m : ℕ) (r : Replica) (c x : ℕ)
    → present_at rs m ≡ Some r → Fits g m r.rows r.view → c < columns g → world_of g (with_present rs m
    (record r { rows = with_own r.rows c x })) table ≡ effects.with_own (world_of g rs table) m c x
own_world g rs table m r c x there f within =
    let own = own_written r.rows (kept_word r) r.view c x f.words (omega (arith, f.columns, within)) in
    let seen = seen_kept r.rows c x in
    replaced g rs table table m r (record r { rows = with_own r.rows c x })
    (effects.with_own (world_of g rs table) m c x) (own_after c x) there (own_changes (world_of g rs table) m c x)
    (λ z. record (holding_of g r) { own = sym own z; seen = sym seen z }) refl refl

-- and a stamp of a replica is one of its world
pub acted_world : (g : Group) (rs : List (Option Replica)) (table : Shared) (m : ℕ) (r : Replica)
    → present_at rs m ≡ Some r → Fits g m r.rows r.view → IsTable g table.words
    → world_of g (with_present rs m (acted r)) (acted_table g table m r) ≡ stamped (world_of g rs table) m
acted_world g rs table m r there f whole =
    let w : World = world_of g rs table in
    let within : BEAT_COLUMN < columns g = omega arith in
    let member = inside g m r.rows r.view f in
    let own = own_written r.rows (kept_word r) r.view BEAT_COLUMN (one_more 64 r.acts) f.words
    (omega (arith, f.columns, within)) in
    let seen = seen_kept r.rows BEAT_COLUMN (one_more 64 r.acts) in
    let cell : (h : Holding) → ℕ → ℕ → ℕ → ℕ → ℕ = λ h. at₄ w.table h.view m m BEAT_COLUMN (one_more 64 h.acts) in
    replaced g rs table (acted_table g table m r) m r (acted r) (stamped w m) stamp_after there (stamp_changes w m)
    (λ z. record (holding_of g r) { acts = one_more 64 r.acts; own = sym own z; seen = sym seen z })
    (table_written g table.words r.view m m BEAT_COLUMN (one_more 64 r.acts) whole f.bank member member within
    ∙ ap cell (sym (held_of g rs table m r there))) refl

-- an act behind another change of the replica
pub then_acted : (g : Group) (rs : List (Option Replica)) (table : Shared) (m : ℕ) (r : Replica) (w : World)
    → m < length rs → Fits g m r.rows r.view → IsTable g table.words → world_of g (with_present rs m r) table ≡ w
    → world_of g (with_present rs m (acted r)) (acted_table g table m r) ≡ stamped w m
then_acted g rs table m r w within f whole before =
    ap (λ qs. world_of g qs (acted_table g table m r)) (sym (set-set rs m (Some r) (Some (acted r))))
    ∙ acted_world g (with_present rs m r) table m r (present_set rs m r within) f whole ∙ ap (λ v. stamped v m) before
