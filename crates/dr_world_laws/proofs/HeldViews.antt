-- The Views of an age that histories hold are those of the views that members have come to, once each.
use Rattle.std.proofs.Common.{◌∷◌, List, ◌≡◌, ap, drop, length, sym, ℕ, ◌+◌, ◌++◌, ◌<◌, ◌∙◌, slice_get}
use Rattle.std.proofs.Math.Seq.{drop-append-add}
use Rattle.dr_entry.{specs.declared.entry.Entry.{Entry, TheVariants.View}, proofs.ListPlaces.slice_get-seam}
use Rattle.dr_history.proofs.{Standing.history-stands, ViewLemmas.{View-once, ViewsRise-standing}}
use Rattle.dr_machine.specs.{Group.{Group, IsGroup, roster}, World.World}
use Rattle.dr_faithful.specs.Chosen.{Values, views_by}
use Rattle.dr_world_laws.{specs.Views.HasView, proofs.{Agreeing.in-order, Holding.view-held, Reached.Known}}

pub view-is : (g : Group) (values : Values) (w : World) (v members : ℕ) → IsGroup g → Known g values w
    → HasView g w v members → views_by g values v ≡ members
view-is g values w v members is y h = (view-held g values w h.0 v members is y.laid.historic h.1 h.2).1

-- ---- what stands behind a View

-- each stands once, so what is behind it is one list
pub behind-is : (g : Group) (values : Values) (w : World) (k v m n : ℕ) (before behind first rest : List Entry)
    → IsGroup g → Known g values w → k < roster g → w.past.history k ≡ before ++ View g.opening.age v m ∷ behind
    → w.past.history k ≡ first ++ View g.opening.age v n ∷ rest → behind ≡ rest
behind-is g values w k v m n before behind first rest is y l e d =
    sym (drop-append-add before (View g.opening.age v m ∷ behind) 1) ∙ ap (drop (length before + 1)) (sym e)
    ∙ ap (λ i. drop (i + 1) (w.past.history k)) place ∙ ap (drop (length first + 1)) d
    ∙ drop-append-add first (View g.opening.age v n ∷ rest) 1
  where
    place : length before ≡ length first
    place = View-once (w.past.history k) (length before) (length first) g.opening.age v m n
        (ViewsRise-standing g.opening (w.past.history k)
        (history-stands g.opening w.past.sent (w.past.history k) is.sound (in-order g values w k is y l)))
        (ap (λ es. slice_get es (length before)) e ∙ slice_get-seam before (View g.opening.age v m) behind)
        (ap (λ es. slice_get es (length first)) d ∙ slice_get-seam first (View g.opening.age v n) rest)
