use Rattle.std.proofs.{Common.{◌≡◌, sym, ◌∙◌, subst, All, [], ◌∷◌, ◌++◌}, lemmas.List.Elements.All-push}
use Rattle.dr_entry.specs.Messages.{IsMessage}
use Rattle.dr_history.specs.History.{IsPrefixOf}
use Rattle.dr_senders.{specs.Senders.{HaveGrown, taken_in}, proofs.Growth.{given_push, taken_push}}
use Rattle.dr_senders.proofs.senders.finish_all.Goals as goal

pub loop-sender-preserved : goal.loop-sender-preserved
loop-sender-preserved g c =
    let sender = c.in-Some.sender in
    let pushed : c.push.new.self.items ≡ c.loop-sender.lists.items ++ c.of.result ∷ [] = c.in_ok-push.ensures.items in
    let same : c.in_ok-finish.field-0.items ≡ c.of.result = sym c.of.ensures in
    record {
      all = pushed ∙ sym (given_push g.A.App.left c.loop-sender.yielded sender c.loop-sender.lists.items c.of.result
          (sym c.loop-sender.invariant.all) (sym c.in_ok-finish.ensures.all ∙ same));
      grown = subst (λ lists. HaveGrown (taken_in (c.loop-sender.yielded ++ sender ∷ [])) lists) (sym pushed)
          (taken_push c.loop-sender.yielded sender c.loop-sender.lists.items c.of.result c.loop-sender.invariant.grown
          (subst (IsPrefixOf sender.inbox.messages.items) same c.in_ok-finish.ensures.grown));
      fit = subst (All (λ list. All IsMessage list)) (sym pushed)
          (All-push (λ list. All IsMessage list) c.loop-sender.lists.items c.of.result c.loop-sender.invariant.fit
          (subst (All IsMessage) same c.in_ok-finish.ensures.fit));
    }
