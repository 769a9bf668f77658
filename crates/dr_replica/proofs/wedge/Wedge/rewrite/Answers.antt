use Rattle.std.proofs.Common.{◌≡◌, ℕ, inl, inr, ap, ◌∙◌, arith}
use Rattle.dr_rows.{specs.Words.{own, with_own}, proofs.Rewrites.{rewritten_none, rewritten_more, rewritten_whole}}
use Rattle.dr_replica.specs.Wedges.{wedged}
use Rattle.dr_words.proofs.Rewrites.{wedged_rest}
use Rattle.dr_replica.proofs.wedge.Wedge.rewrite.Goals as goal

pub loop-column-init : goal.loop-column-init
loop-column-init c = rewritten_none c.args.rows.now (wedged c.args.self.now) 1 c.requires.form
    (λ k l. wedged_rest c.args.self.now.shape.members c.args.self.now.members c.args.self.now.suspects
    c.args.self.now.promise k (own c.args.rows.now k) (λ e. omega (arith, l, e)) (inl (omega (arith, l))))

pub loop-column-preserved : goal.loop-column-preserved
loop-column-preserved c =
    let column : ℕ = c.loop-column.column in
    let word : c.word.result ≡ wedged c.args.self.now column (own c.loop-column.rows column) =
    c.word.ensures ∙ ap (wedged c.args.self.now column) c.own.ensures in
    rewritten_more c.args.rows.now c.loop-column.rows c.set_own.new.self (wedged c.args.self.now) column
    c.loop-column.invariant (omega (arith, c.head_column-column-end.ensures, c.requires.shape.columns))
    (c.set_own.ensures.after ∙ ap (λ (v : ℕ). with_own c.loop-column.rows column v) word) c.set_own.ensures.form

pub returns : goal.returns
returns c = rewritten_whole c.args.rows.now c.loop-column.rows (wedged c.args.self.now) c.loop-column.column
    c.loop-column.invariant
    (λ k l. wedged_rest c.args.self.now.shape.members c.args.self.now.members c.args.self.now.suspects
    c.args.self.now.promise k (own c.args.rows.now k) (λ e. omega (arith, l, c.head_column-column-end.ensures, e))
    (inr (omega (arith, l, c.head_column-column-end.ensures))))
