use Rattle.std.{specs.List.concat, proofs.Common.{◌∷◌, [], ◌+◌, ◌++◌, ◌∙◌, ap, arith, codes, string_bytes, sym}}
use Rattle.dr_entry.proofs.ListFacts.{numbered_texts_more}
use Rattle.dr_summary.specs.Table.{in_column, label_text, row_text}
use Rattle.dr_summary.proofs.rows.push_rows.Goals as goal

pub loop-index-preserved : goal.loop-index-preserved
loop-index-preserved c =
    let number = c.args.first + c.loop-index.index in
    let entry = c.index-entries-index.result in
    let same = c.in_ok-renew.ensures.marks number (omega arith) c.in_ok-renew.ensures.from in (
      numbered_texts_more (λ t. row_text c.args.members.now (c.args.first + t.0) t.1) c.args.entries.now
          c.loop-index.index entry (string_bytes c.args.out.now) (string_bytes c.loop-index.out)
          (string_bytes c.push_row.new.out) (omega arith) c.index-entries-index.is c.loop-index.invariant.0
          (c.in_ok-push_row.ensures
          ∙ ap (λ t. string_bytes c.loop-index.out
          ++ concat (in_column (label_text number entry) ∷ t ∷ codes "\n" ∷ [])) (c.as_str.ensures.value ∙ sym same)),
      λ n from until. c.in_ok-renew.ensures.marks n (omega (arith, from)) until,
    )
