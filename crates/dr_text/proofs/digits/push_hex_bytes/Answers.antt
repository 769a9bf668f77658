use Rattle.std.proofs.lemmas.Str.{IsUtf8-from_ascii}
use Rattle.dr_text.proofs.digits.push_hex_bytes.Goals as goal

pub from_utf8_unchecked-requires : goal.from_utf8_unchecked-requires
from_utf8_unchecked-requires c = IsUtf8-from_ascii c.write_hex.new.into c.write_hex.ensures.ascii
