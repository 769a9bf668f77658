-- First parts of the histories of an age: of any two one is a prefix of the other, and a later age of the
-- same script finds no entry in them that may not stand.
use Rattle.std.proofs.Common.{◌≡◌, List, take}
use Rattle.dr_entry.specs.declared.entry.Entry.{Entry}
use Rattle.dr_history.specs.{Agreement.{Accounts, Agreed, sent_by}, Restarting.{AreAllAlong, AreLeftBy, AreSound}}
use Rattle.dr_history.specs.{Soundness.Sound, declared.opening.Opening.Opening}
use Rattle.dr_history.proofs.{Keeping.{left_part, parts_along}, Standing.{history-stands, part-stands, stands-by}}
use Rattle.dr_history_laws.specs.Parts.{AreFirstParts}

pub parts_sound : (o next : Opening) (accounts : Accounts) (lists : List (List Entry)) → Sound o
    → Agreed o accounts → AreFirstParts o accounts lists → o.messages ≡ next.messages → AreSound next lists
parts_sound o next accounts lists sound agreed parts same m es at i e here =
    let part = parts m es at in
    let h = (accounts part.0).history in
    stands-by o next (take i es) e same
    (part-stands o es h part.2 (history-stands o (sent_by accounts) h sound (agreed.ordered part.0 part.1)) i e here)

pub parts_all_along : (o : Opening) (accounts : Accounts) (lists : List (List Entry)) → Agreed o accounts
    → AreFirstParts o accounts lists → AreAllAlong lists
parts_all_along o accounts lists agreed parts a b g h less at_a at_b =
    let p = parts a g at_a in
    let q = parts b h at_b in
    parts_along g h (accounts p.0).history (accounts q.0).history p.2 q.2 (agreed.prefix p.0 q.0 p.1 q.1)

-- the logs that members leave are such parts
pub left_parts : (o : Opening) (accounts : Accounts) (lists : List (List Entry)) → Agreed o accounts
    → AreLeftBy o accounts lists → AreFirstParts o accounts lists
left_parts o accounts lists agreed left m es at =
    let here = left.each m es at in (m, here.0, left_part (accounts m) es (agreed.logged m here.0) here.1)
