use Rattle.std.proofs.Common.{◌≡◌, ℕ, inl, inr, ap, ◌∙◌, arith}
use Rattle.dr_rows.{specs.Words.{own, with_own}, proofs.Rewrites.{rewritten_none, rewritten_more, rewritten_whole}}
use Rattle.dr_replica.specs.Wedges.{accepted}
use Rattle.dr_words.proofs.Rewrites.{accepted_rest}
use Rattle.dr_replica.proofs.acceptance.Acceptance.rewrite.Goals as goal

pub loop-column-init : goal.loop-column-init
loop-column-init c =
    rewritten_none c.args.rows.now (accepted c.args.self.now) c.leavers_column-column.result c.requires.form
    (λ k l. accepted_rest c.args.self.now.shape.members c.args.self.now.members c.args.self.now.tag
    c.args.self.now.value k (own c.args.rows.now k) (inl (omega (arith, l, c.leavers_column-column.ensures))))

pub loop-column-preserved : goal.loop-column-preserved
loop-column-preserved c =
    let column : ℕ = c.loop-column.column in
    let word : c.word.result ≡ accepted c.args.self.now column (own c.loop-column.rows column) =
    c.word.ensures ∙ ap (accepted c.args.self.now column) c.own.ensures in
    rewritten_more c.args.rows.now c.loop-column.rows c.set_own.new.self (accepted c.args.self.now) column
    c.loop-column.invariant (omega (arith, c.head_column-column-end.ensures, c.requires.shape.columns))
    (c.set_own.ensures.after ∙ ap (λ (v : ℕ). with_own c.loop-column.rows column v) word) c.set_own.ensures.form

pub returns : goal.returns
returns c = rewritten_whole c.args.rows.now c.loop-column.rows (accepted c.args.self.now) c.loop-column.column
    c.loop-column.invariant
    (λ k l. accepted_rest c.args.self.now.shape.members c.args.self.now.members c.args.self.now.tag
    c.args.self.now.value k (own c.args.rows.now k) (inr (omega (arith, l, c.head_column-column-end.ensures))))
