use Rattle.std.proofs.Common.{◌≡◌, sym, ap, ◌∙◌, true, false}
use Rattle.dr_program.specs.declared.deed.Deed.TheVariants as deeds
use Rattle.dr_machine.specs.Effects.{one_more}
use Rattle.dr_program.specs.{Replica.me, Running.{Running, crashes_now, deed_of, push_or_crash}, Steps.index_in}
use Rattle.dr_rows.specs.Words.{own}
use Rattle.dr_member.proofs.member.Member.push_deed.Goals as goal

pub returns-then-crashes_now-clause-deed : goal.returns-then-crashes_now-clause-deed
returns-then-crashes_now-clause-deed c = (λ z. deeds.Act (index z) (acts z))
    ∙ ap (λ b. deed_of c.args.self.now (push_or_crash b c.args.to c.args.column)) (sym crash)
  where
    crash : crashes_now c.args.self.now ≡ true
    crash = sym (c.crashes_now.ensures c.self.inside.replica c.self.inside.place c.self.invariant.fate
        ∙ ap crashes_now c.self.view_is) ∙ c.if-crashes_now.true

    index : c.look_index.result
        ≡ index_in c.args.self.now.replica (me c.args.self.now.replica) (me c.args.self.now.replica) 0
    index = c.look_index.ensures.index
        ∙ ap (λ k. index_in c.args.self.now.replica (me c.args.self.now.replica) k 0) c.me.ensures

    acts : c.acts_after.result ≡ one_more 64 c.args.self.now.replica.acts
    acts = c.acts_after.ensures ∙ ap (λ (r : Running). one_more 64 r.replica.acts) c.self.view_is

pub returns-clause-deed : goal.returns-clause-deed
returns-clause-deed c = (λ z. deeds.Push (c.push_index.ensures.index z) (word z))
    ∙ ap (λ b. deed_of c.args.self.now (push_or_crash b c.args.to c.args.column)) (sym later)
  where
    later : crashes_now c.args.self.now ≡ false
    later = sym (c.crashes_now.ensures c.self.inside.replica c.self.inside.place c.self.invariant.fate
        ∙ ap crashes_now c.self.view_is) ∙ c.if-crashes_now.false

    word : c.own.result ≡ own c.args.self.now.replica.rows c.args.column
    word = c.own.ensures ∙ ap (λ (r : Running). own r.replica.rows c.args.column) c.self.view_is
