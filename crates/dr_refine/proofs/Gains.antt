-- What an item more makes of the world: items that are put and items that are received.
use Rattle.std.{specs.Prelude.{Some, slice_set, Option}, proofs.Math.Path.fun_ext}
use Rattle.std.proofs.Common.{◌≡◌, refl, sym, ap, ◌∙◌, ℕ, ◌+◌, ◌==◌, false, if◌then◌else◌, List, map, slice_index, arith}
use Rattle.dr_entry.specs.declared.entry.Item.{Item}
use Rattle.dr_history.specs.Places.{front_of}
use Rattle.dr_rows.{specs.Words.{Words, own, with_own}, proofs.Grids.seen_kept}
use Rattle.dr_words.specs.{Columns.recv_column, Packing.recv_word, declared.column.TheConstants.RECEIVED_COLUMN}
use Rattle.dr_machine.{specs.{Effects.gains, Group.Group, Writes.at}, proofs.{Ends.set_at, Writes.row_written}}
use Rattle.dr_faithful.proofs.{Copies.{Fits, fits_own}, ItemMore.own_two}
use Rattle.dr_program.specs.{Presence.{present_at, with_present}, Reading.{Shared, kept_count, kept_word, world_of}}
use Rattle.dr_program.{specs.Replica.{Replica, count, item, gained, members_in_view}, proofs.Replicas.MayGain}
use Rattle.dr_program.proofs.Holdings.{holding_of, replaced, gain_from, gain_after, gain_changes, own_here, count_here, gained_items}

-- ---- an item more

-- the words of a replica that has one item more of s
abbrev pub gained_rows : Replica → ℕ → Words
gained_rows r s = with_own (with_own r.rows (recv_column s) (recv_word (count r s + 1) false)) RECEIVED_COLUMN
    (front_of (map (slice_index (slice_set r.counts s (count r s + 1))) (members_in_view r)))

-- the rows still fit with an item more
pub fits_gained : (g : Group) (m : ℕ) (r : Replica) (s : ℕ) → Fits g m r.rows r.view
    → Fits g m (gained_rows r s) r.view
fits_gained g m r s f =
    fits_own g m (with_own r.rows (recv_column s) (recv_word (count r s + 1) false)) r.view RECEIVED_COLUMN
    (front_of (map (slice_index (slice_set r.counts s (count r s + 1))) (members_in_view r)))
    (fits_own g m r.rows r.view (recv_column s) (recv_word (count r s + 1) false) f)

-- an item more of a replica is one more in its world
pub gained_world : (g : Group) (rs : List (Option Replica)) (table : Shared) (m : ℕ) (r : Replica) (s : ℕ)
    (item : Item) → present_at rs m ≡ Some r → Fits g m r.rows r.view → MayGain g r s
    → world_of g (with_present rs m (gained r s item)) table ≡ gains (world_of g rs table) m s item
gained_world g rs table m r s x there f may =
    replaced g rs table table m r (gained r s x) (gains (world_of g rs table) m s x) (gain_after s x) there
    (gain_changes (world_of g rs table) m s x) same refl refl
  where
    counts : ◌≡◌ {A = ℕ → ℕ} (slice_index (slice_set r.counts s (count r s + 1)))
        (at (slice_index r.counts) s (count r s + 1))
    counts = set_at r.counts s (count r s + 1) (omega (arith, may.counts, may.sender))

    front : ℕ
    front = front_of (map (slice_index (slice_set r.counts s (count r s + 1))) (members_in_view r))

    same_front : front ≡ front_of (map (at (slice_index r.counts) s (count r s + 1)) (members_in_view r))
    same_front = ap (λ (h : ℕ → ℕ). front_of (map h (members_in_view r))) counts

    first : Fits g m (with_own r.rows (recv_column s) (recv_word (count r s + 1) false)) r.view
    first = fits_own g m r.rows r.view (recv_column s) (recv_word (count r s + 1) false) f

    words : (d : ℕ) → own (gained_rows r s) d
        ≡ at (at (own r.rows) (recv_column s) (recv_word (count r s + 1) false)) RECEIVED_COLUMN
        (front_of (map (at (slice_index r.counts) s (count r s + 1)) (members_in_view r))) d
    words d = own_two r.rows (recv_column s)
        (recv_word (count r s + 1) false) RECEIVED_COLUMN front d f.words first.words
        (omega (arith, f.columns, may.sender, may.roster)) (omega (arith, f.columns))
        ∙ ap (λ x. at (at (own r.rows) (recv_column s) (recv_word (count r s + 1) false)) RECEIVED_COLUMN
        x d) same_front

    own_is : (holding_of g (gained r s x)).own ≡ at (holding_of g r).own r.view
        (at (at (own r.rows) (recv_column s) (recv_word (count r s + 1) false)) RECEIVED_COLUMN
        (front_of (map (at (slice_index r.counts) s (count r s + 1)) (members_in_view r))))
    own_is = fun_ext λ v. fun_ext λ d. ap (λ x. if v == r.view then x else kept_word r v d) (words d)
        ∙ row_written (own r.rows) (at
        (at (own r.rows) (recv_column s) (recv_word (count r s + 1) false)) RECEIVED_COLUMN
        (front_of (map (at (slice_index r.counts) s (count r s + 1)) (members_in_view r)))) (kept_word r) r.view v d

    count_is : (holding_of g (gained r s x)).count
        ≡ at (holding_of g r).count r.view (at (slice_index r.counts) s (count r s + 1))
    count_is = fun_ext λ v. fun_ext λ t. ap (λ (h : ℕ → ℕ). if v == r.view then h t else kept_count r v t) counts
        ∙ row_written (slice_index r.counts) (at (slice_index r.counts) s (count r s + 1)) (kept_count r) r.view v t

    seen_is : (holding_of g (gained r s x)).seen ≡ (holding_of g r).seen
    seen_is = seen_kept (with_own r.rows (recv_column s) (recv_word (count r s + 1) false)) RECEIVED_COLUMN
        front ∙ seen_kept r.rows (recv_column s) (recv_word (count r s + 1) false)

    same : gain_after s x (holding_of g r) ≡ holding_of g (gained r s x)
    same = (λ z. gain_from s x (holding_of g r) (own_here g r z) (count_here g r z)) ∙ (λ z. record (holding_of g r) {
      count = sym count_is z;
      item = sym (gained_items g r s x may) z;
      own = sym own_is z;
      seen = sym seen_is z;
    })
