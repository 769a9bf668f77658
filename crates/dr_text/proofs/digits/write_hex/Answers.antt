use Rattle.std.{specs.List.flat_map, proofs.Common.{◌≡◌, ◌≤◌, ◌+◌, ◌*◌, length, set, sym, ap, subst, ◌∙◌, arith}}
use Rattle.std.{specs.Str.IsAscii, proofs.lemmas.List.{length-set, take_all}}
use Rattle.hex.specs.Hex.{IsBytes}
use Rattle.dr_text.{specs.Report.hex_text, proofs.Hex.{encoded_ascii, encoded_text, two_more}}
use Rattle.dr_text.proofs.digits.write_hex.Goals as goal

pub loop-i-preserved : goal.loop-i-preserved
loop-i-preserved c =
    let into = c.loop-i.into in
    let i = c.loop-i.i in
    let before = c.loop-i.invariant in
    record {
      long = length-set (set into (2 * i) c.digit.result) (2 * i + 1) c.digit-in-loop-i.result
          ∙ length-set into (2 * i) c.digit.result ∙ before.long;
      text = two_more into c.args.bytes.now i c.digit.result c.digit-in-loop-i.result before.long
          c.loop-i-test.true c.digit.ensures c.digit-in-loop-i.ensures before.text;
    }

-- behind the last byte all text is there
whole : (c : goal.After-loop-i) → c.loop-i.into ≡ flat_map hex_text c.args.bytes.now
whole c =
    let bytes = c.args.bytes.now in
    let end : length bytes ≤ c.loop-i.i = omega (arith, c.loop-i-test.false) in
    sym (take_all (2 * c.loop-i.i) c.loop-i.into (omega (arith, end, c.loop-i.invariant.long)))
    ∙ c.loop-i.invariant.text ∙ ap (flat_map hex_text) (take_all c.loop-i.i bytes end)

pub returns-clause-text : goal.returns-clause-text
returns-clause-text c = whole c

pub returns-clause-ascii : goal.returns-clause-ascii
returns-clause-ascii c =
    let bytes = c.args.bytes.now in
    let fits : IsBytes bytes = λ i. let f = c.type_inv.bytes i in omega arith in
    subst IsAscii (encoded_text bytes fits ∙ sym (whole c)) (encoded_ascii bytes)
