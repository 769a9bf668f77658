use Rattle.std.proofs.Common.{◌≤◌, ap, sym, subst, All, List, ℕ, length}
use Rattle.dr_entry.{specs.declared.limits.TheConstants.MAX_MESSAGES, proofs.ListParts.each_of_map}
use Rattle.dr_senders.specs.{Pushing.given_by, Senders.{Lists, SendersState}, declared.sender.Sender.Sender}
use Rattle.dr_senders.proofs.senders.Senders.finish.Goals as goal

pub finish_all-requires-clause-few : goal.finish_all-requires-clause-few
finish_all-requires-clause-few g c κs within = each_of_map (λ (list : List (List ℕ)). length list ≤ MAX_MESSAGES)
    (λ (s : Sender _). given_by g.A.App.left s.pushing) c.self.inside.senders.items
    (subst (λ (lists : Lists). All (λ (list : List (List ℕ)). length list ≤ MAX_MESSAGES) lists)
    (sym (ap (λ (s : SendersState). s.given) c.self.view_is)) c.requires.few)
