-- Which messages may stand, by what was read.
use Rattle.std.specs.Prelude.{Option, Contains, IsSomeAnd}
use Rattle.std.proofs.Common.{◌≡◌, refl, sym, ◌∙◌, subst, ℕ, Bool, Decides, List, [], Some, None, slice_get, get_or}
use Rattle.dr_entry.{specs.declared.entry.Entry.{Entry, TheVariants.Msg}, proofs.ListFacts.none_counted}
use Rattle.dr_history.{specs.{History.{GroupView, view_after}, Soundness.MayStand}, proofs.Orders.zero_at}
use Rattle.dr_restart.specs.Groups.{first_group_of}
use Rattle.dr_script.{specs.{Ranges.HasGroupRanges, declared.script.Script.Script}, proofs.Ranges.sender_small}
use Rattle.dr_quorum.specs.Reading.{IsRead}

-- a message may stand where it is the next by the counts
pub next_stands : (script : Script) (read : List Entry) (view : Option GroupView) (counts : List ℕ)
    (s i : ℕ) (b : List ℕ) (r : Bool) → HasGroupRanges script → IsRead read view counts → Decides r (IsSomeAnd view
    (λ v. Contains v.members s) × (i ≡ get_or counts s 0) × (slice_get (get_or script.messages s []) i ≡ Some b))
    → Decides r (MayStand (first_group_of script).opening read (Msg s i b))
next_stands script read view counts s i b r ranges is decides = (
  λ t. let p = decides.0 t in (
    subst (λ o. IsSomeAnd o (λ v. Contains v.members s)) is.in_view p.0,
    p.1 ∙ is.counted s (sender_small script s i b ranges p.2),
    p.2,
  ),
  λ stands. decides.1 (
    subst (λ o. IsSomeAnd o (λ v. Contains v.members s)) (sym is.in_view) stands.0,
    stands.1 ∙ sym (is.counted s (sender_small script s i b ranges stands.2)),
    stands.2,
  ),
)

pub none_read : IsRead [] None none_counted
unfolding view_after
none_read = record { in_view = refl; places = refl; counted = zero_at }
