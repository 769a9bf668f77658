use Rattle.std.{specs.List.flat_map, proofs.Common.{◌≡◌, ◌*◌, length, take}}
use Rattle.dr_text.specs.Report.{hex_text}
use Rattle.dr_text.proofs.digits.write_hex.Given as goal

abbrev pub invariant-loop-i : goal.invariant-loop-i
invariant-loop-i l = record {
  long : length l.into ≡ 2 * length l.bytes;
  text : take (2 * l.i) l.into ≡ flat_map hex_text (take l.i l.bytes);
}
