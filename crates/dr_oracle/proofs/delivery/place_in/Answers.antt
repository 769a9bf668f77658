use Rattle.std.specs.List.{position}
use Rattle.std.proofs.Common.{◌≡◌, ◌≢◌, ◌==◌, List, take, All, slice_get, None, Some, sym, ap, subst, ◌∙◌}
use Rattle.dr_entry.specs.declared.end.SentItem.{SentItem, TheVariants.Index}
use Rattle.dr_history.specs.History.{sent_of}
use Rattle.dr_history.proofs.SentLemmas.{place_in-no_member, place_in-not_sent, place_in-sent}
use Rattle.dr_oracle.proofs.delivery.place_in.Goals as goal

pub returns-in_err-rank : goal.returns-in_err-rank
returns-in_err-rank c =
    let none : position (λ m. m == c.args.member) c.args.view.now.members ≡ None =
    rw c.members-members.ensures.same at (sym c.rank_of.ensures.rank ∙ c.in_err-rank.was) in
    cc (place_in-no_member (sent_of c.args.ends.now) c.args.view.now c.args.member c.args.index none)

pub returns-in_err-k : goal.returns-in_err-k
returns-in_err-k c =
    let at : position (λ m. m == c.args.member) c.args.view.now.members ≡ Some c.in_ok-rank.rank =
    rw c.members-members.ensures.same at (sym c.rank_of.ensures.rank ∙ c.in_ok-rank.was) in
    let items : c.items_of-items.result.now ≡ sent_of c.args.ends.now c.args.member c.args.view.now.number =
    c.items_of-items.ensures ∙ ap (sent_of c.args.ends.now c.args.member) c.number.ensures in
    let never = subst (λ (xs : List SentItem). All (λ item. item ≢ Index c.args.index) xs) items
    c.in_err-k.ensures.none in
    c.from_residual-in_err-k.ensures ∙
    sym (place_in-not_sent (sent_of c.args.ends.now) c.args.view.now c.args.member c.args.index
    c.in_ok-rank.rank at never)

pub returns : goal.returns
returns c =
    let at : position (λ m. m == c.args.member) c.args.view.now.members ≡ Some c.in_ok-rank.rank =
    rw c.members-members.ensures.same at (sym c.rank_of.ensures.rank ∙ c.in_ok-rank.was) in
    let items : c.items_of-items.result.now ≡ sent_of c.args.ends.now c.args.member c.args.view.now.number =
    c.items_of-items.ensures ∙ ap (sent_of c.args.ends.now c.args.member) c.number.ensures in
    let found = subst (λ (xs : List SentItem). slice_get xs c.in_ok-k.k ≡ Some (Index c.args.index))
    items c.in_ok-k.ensures.found in
    let first = subst (λ (xs : List SentItem). All (λ item. item ≢ Index c.args.index)
    (take c.in_ok-k.k xs)) items c.in_ok-k.ensures.first in
    rw c.members-members.ensures.same
    (sym (place_in-sent (sent_of c.args.ends.now) c.args.view.now c.args.member c.args.index
    c.in_ok-rank.rank c.in_ok-k.k at found first))
