use Rattle.std.proofs.{Common.{◌≡◌, ◌++◌, OnOk, codes, rules, string_bytes, subst, sym}, lemmas.Str.IsUtf8-from_ascii}
use Rattle.dr_entry.proofs.ListFacts.{three_pushed}
use Rattle.dr_quote.proofs.Plain.{plain_ascii, plain_message}
use Rattle.dr_quote.proofs.quoting.push_plain.Goals as goal

pub from_utf8_unchecked-requires : goal.from_utf8_unchecked-requires
from_utf8_unchecked-requires c = IsUtf8-from_ascii c.args.bytes.now (plain_ascii c.args.bytes.now c.requires)

pub returns : goal.returns
returns c = subst
    (λ t. OnOk c.push_str-3.result (string_bytes c.push_str-3.new.self ≡ string_bytes c.args.out.now ++ t))
    (sym (plain_message c.args.bytes.now c.requires))
    (three_pushed c.push_str-3.result (string_bytes c.args.out.now) (string_bytes c.push_str.new.self)
    (string_bytes c.push_str-2.new.self) (string_bytes c.push_str-3.new.self) (codes "\"")
    c.args.bytes.now (codes "\"") (search rules) (search rules) c.push_str-3.ensures.bytes)
