-- Before any try the logs that were left hold.
use Rattle.std.proofs.Common.{◌≡◌, refl, ap, sym, ◌∙◌, inl, inr, subst, ℕ, ◌≤◌, arith, Bool, true, false, List, [], length, take, drop, Some, slice_get, append-nil, take-append-drop}
use Rattle.std.proofs.lemmas.Option.{none-some, same_Some}
use Rattle.dr_entry.specs.declared.entry.Entry.{Entry}
use Rattle.dr_history.specs.{History.IsPrefixOf, Members.has, Order.first_entries, Soundness.whole_roster}
use Rattle.dr_history.proofs.{Keeping.prefix_beside, Lists.{take-prefix, prefix-trans}}
use Rattle.dr_machine.{specs.{Group.{Group, IsGroup, IsPresent}, World.World}, proofs.Ends.first-in}
use Rattle.dr_machine.proofs.Groups.{somebody-there}
use Rattle.dr_restart.specs.{Left.{AreLeft, votes_of_age}, declared.lists.LogLists.LogLists}
use Rattle.dr_restart.proofs.Handing.{left-entries}
use Rattle.dr_words.specs.Masks.{IsMajorityOf, IsPartOf}
use Rattle.dr_world_laws.proofs.{Ended.{first-begins, first-durable, own-durable}, Worlds.{Known, agreed}}
use Rattle.dr_quorum_laws.specs.Holding.{HoldSince, IsLongestHistory, IsOfAgeOrEarlier}
use Rattle.dr_quorum_laws.proofs.Ended.{longest-history}

-- of the logs that were left
pub left-held : (g : Group) (w : World) (choice : List LogLists) → IsGroup g → Known g w
    → IsPartOf g.opening.present (whole_roster g.opening)
    → IsMajorityOf g.opening.present (whole_roster g.opening) → AreLeft g w choice → HoldSince g w choice [] choice
left-held g w choice is y part most left = record {
  history = longest.0;
  longest = longest.1;
  all = left.all;
  votes = λ m was log present at here. ap (λ (l : LogLists). l.votes) (same m was log at here);
  begins = λ m d k was log there at here l present durable. begins m d was log there at here l;
  grown = λ m log at. grown m log at (has g.opening.present m) refl;
  voted = λ try opened. absurd (none-some try opened.1);
  rising = λ i j one other l at o here p. absurd (none-some one at);
  above = λ try opened. absurd (none-some try opened.1);
  started = λ try m log before behind opened at e. absurd (none-some try opened.1);
  part = λ k try at. absurd (none-some try at);
  majority = λ k try at. absurd (none-some try at);
  kept = λ k try at. absurd (none-some try at);
}
  where
    longest : (history : List Entry) × IsLongestHistory g w history
    longest = let i = somebody-there g part most in longest-history g w i.0 is y i.1

    same : (m : ℕ) (was log : LogLists) → slice_get choice m ≡ Some was → slice_get choice m ≡ Some log → log ≡ was
    same m was log at here = same_Some log was (sym here ∙ at)

    entries : (m : ℕ) (log : LogLists) → IsPresent g m → slice_get choice m ≡ Some log
        → (length (w.past.log m) ≤ length log.entries) × IsPrefixOf log.entries (w.past.history m)
    entries m log there at = left-entries g w m log.entries (votes_of_age g.opening.age log.votes)
        ((agreed g w is y).logged m there) (left.members m log there at).left

    begins : (m d : ℕ) (was log : LogLists) → IsPresent g m → slice_get choice m ≡ Some was
        → slice_get choice m ≡ Some log → d ≤ length was.entries → IsPrefixOf (take d longest.0) log.entries
    begins m d was log there at here l =
        let e = entries m was there at in
        subst (λ (x : LogLists). IsPrefixOf (take d longest.0) x.entries) (sym (same m was log at here))
        (subst (λ es. IsPrefixOf es was.entries) (sym (take-prefix was.entries longest.0 d
        (prefix-trans was.entries (w.past.history m) longest.0 e.1 (longest.1.longest m there)) l))
        (drop d was.entries, take-append-drop d was.entries))

    grown : (m : ℕ) (log : LogLists) → slice_get choice m ≡ Some log → (b : Bool)
        → has g.opening.present m ≡ b → IsOfAgeOrEarlier g longest.0 [] log
    grown m log at false e =
        let t = left.others m log (λ there. absurd (cc (there, e))) at in inr (t.stands, t.earlier)
    grown m log at true e =
        let t = entries m log e at in
        let first : IsPrefixOf (first_entries g.opening) log.entries =
        prefix_beside (first_entries g.opening) log.entries (w.past.history m) (first-begins g w m is y e) t.1
        (omega (arith, first-durable g w m is y, own-durable g w m is y e, t.0)) in
        inl (
          (g.opening.members, first-in g log.entries first),
          log.entries,
          record {
            views = [];
            is = sym (append-nil log.entries);
            delivered = prefix-trans log.entries (w.past.history m) longest.0 t.1 (longest.1.longest m e);
            opened = λ k x here. absurd (none-some x here);
          },
        )
