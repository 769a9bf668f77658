use Rattle.std.proofs.Common.{string_bytes}
use Rattle.dr_text.proofs.Lines.{first_lines}
use Rattle.dr_text.proofs.printed.Printed.end_of.Goals as goal

pub returns : goal.returns
returns c =
    let self = c.args.self.now in
    first_lines self.entries.now (string_bytes self.text) self.ends.items c.args.count c.index.result.now
    self.printed c.requires c.index.ensures
