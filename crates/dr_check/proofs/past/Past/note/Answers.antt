use Rattle.std.proofs.{Common.{◌<◌, ◌-◌, ◌^◌, take, length, arith, subst, sym, List}, lemmas.List.length-take-le}
use Rattle.dr_entry.{specs.declared.entry.Entry.Entry, proofs.ListPlaces.take_read}
use Rattle.dr_check.specs.Past.{IsPast}
use Rattle.dr_check.proofs.past.Past.note.Goals as goal

pub returns : goal.returns
returns c =
    let entries = c.args.entries.now in
    let few : length (take c.args.at entries) < 2 ^ 64 - 1 =
    omega (arith, length-take-le c.args.at entries (omega (arith, c.requires.at)), c.requires.small) in
    subst (λ (es : List Entry). IsPast es c.add.new.self)
    (sym (take_read entries c.args.at c.index-entries-at.result c.requires.at c.index-entries-at.is))
    (c.add.ensures (take c.args.at entries) few c.requires.past)
