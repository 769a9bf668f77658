use Rattle.dr_history.proofs.Letters.{up_to_view-Msg, up_to_view-View}
use Rattle.dr_install.proofs.is_view.Goals as goal

pub returns-in-View : goal.returns-in-View
returns-in-View c = rw c.in-View.is (up_to_view-View c.in-View.age c.in-View.number c.in-View.members)

pub returns-in_default : goal.returns-in_default
returns-in_default c =
    rw c.in_default.is (up_to_view-Msg c.in_default.field-0 c.in_default.field-1 c.in_default.field-2)
