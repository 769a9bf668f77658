-- The view of no entries.
use Rattle.std.proofs.Common.{◌≡◌, [], None, refl}
use Rattle.dr_history.specs.History.{view_after, view_of}

-- no entries have no view
pub view_of-nil : view_of [] ≡ None
unfolding view_after
view_of-nil = refl
