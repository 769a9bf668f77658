use Rattle.std.proofs.{Common.{length, refl}, lemmas.Iterator.YieldsList-from_chars}
use Rattle.std.proofs.lemmas.Iterator.Consumers.{count_from_yields_List}
use Rattle.dr_entry.proofs.Texts.{ascii_width}
use Rattle.dr_summary.proofs.columns.width_of.Goals as goal

pub returns-then-is_ascii : goal.returns-then-is_ascii
returns-then-is_ascii c = ascii_width c.is_ascii.result c.args.text.now
    (length c.args.text.now) c.is_ascii.ensures.cases c.if-is_ascii.true refl

pub returns-else-is_ascii : goal.returns-else-is_ascii
returns-else-is_ascii c = count_from_yields_List c.chars.result c.count.result c.count.ensures.ran
    (YieldsList-from_chars c.args.text.now c.utf8.text cc)
