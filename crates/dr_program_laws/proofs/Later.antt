-- The age after one whose members are all complete starts with their whole history, and has nothing left.
use Rattle.std.{specs.{Option.option_map_or, Prelude.{Option, None}}, proofs.lemmas.{Bool.and_parts, List.take_all}}
use Rattle.std.proofs.Common.{List, Some, [], ap, arith, inl, inr, length, length-append, slice_get, take, ℕ, ◌∙◌, ◌∷◌, ◌≡◌, ◌++◌, refl, subst, true}
use Rattle.dr_entry.specs.{declared.{end.MemberEnd.MemberEnd, entry.Entry.Entry}, declared.record.Value.Value}
use Rattle.dr_entry.proofs.ListPlaces.{slice_get-some}
use Rattle.dr_history.specs.{Agreement.accounts_of, Order.first_entries, Restarting.{IsLeftBy, AreLeftBy, IsLongest}}
use Rattle.dr_history.{specs.declared.opening.Opening.Opening, proofs.Keeping.prefix_shorter}
use Rattle.dr_history_laws.{specs.Remaining.remaining, proofs.Wholes.whole-leaves_none}
use Rattle.dr_machine.specs.{Group.{Group, IsGroup, roster}, Guards.CanLogVote, World.World}
use Rattle.dr_machine.proofs.Presence.{in_roster}
use Rattle.dr_program.specs.{Presence.with_present, Reading.{Shared, world_of}}
use Rattle.dr_program.{specs.Replica.{Replica, is_wedged, may_vote, vote_of}, proofs.Holdings.unended_world}
use Rattle.dr_program.proofs.{Replicas.unended, Voting.wedged_inside}
use Rattle.dr_refine.{specs.Programs.IsMember, proofs.{Programs.{unended_member, vote_is}, Votes.vote_guard}}
use Rattle.dr_restart.{specs.Left.MayLogVote, proofs.LeftVotes.ends_aside}
use Rattle.dr_program_laws.specs.Ended.{IsComplete, AreComplete}

-- a member that is complete leaves its whole history on its log, and there is no next entry
left_whole : (o : Opening) (ends : List MemberEnd) (m : ℕ) (e : MemberEnd) (es : List Entry)
    → slice_get ends m ≡ Some e → IsComplete o e → IsLeftBy (accounts_of ends m) es → es ≡ e.history
left_whole o ends m e es at complete = by
  where
    log : (accounts_of ends m).log ≡ e.history
    log = ap (λ (end : Option MemberEnd). option_map_or (λ (e : MemberEnd). take e.logged e.history) end []) at
        ∙ take_all e.logged e.history (omega (arith, complete.logged))

    history : (accounts_of ends m).history ≡ e.history
    history = ap (λ (end : Option MemberEnd). option_map_or (λ (e : MemberEnd). e.history) end []) at

    by : IsLeftBy (accounts_of ends m) es → es ≡ e.history
    by (inl is) = is ∙ log
    by (inr (inr whole)) = whole ∙ history
    by (inr (inl more)) = absurd (omega (
      arith,
      ap length more.1,
      length-append (accounts_of ends m).log (more.0 ∷ []),
      prefix_shorter es (accounts_of ends m).history more.2,
      ap length log,
      ap length history,
    ))

-- so the longest log has it
pub starts_whole : (g : Group) (next : Opening) (ends : List MemberEnd) (lists : List (List Entry))
    → IsGroup g → length ends ≡ roster g → AreComplete g.opening ends → AreLeftBy g.opening (accounts_of ends) lists
    → IsLongest lists next.start → next.start ≡ first_entries g.opening ++ remaining g.opening
starts_whole g next ends lists is all complete left longest =
    let here = left.each longest.place next.start longest.one in
    let e = slice_get-some ends longest.place (omega (arith, in_roster g longest.place is here.0, all)) in
    let whole = complete longest.place e.0 e.1 in
    left_whole g.opening ends longest.place e.0 next.start e.1 whole here.1 ∙ whole.history

pub leaves_none : (g : Group) (next : Opening) (ends : List MemberEnd) (lists : List (List Entry))
    → IsGroup g → length ends ≡ roster g → AreComplete g.opening ends
    → AreLeftBy g.opening (accounts_of ends) lists → IsLongest lists next.start
    → next.members ≡ g.opening.members → g.opening.messages ≡ next.messages → remaining next ≡ []
leaves_none g next ends lists is all complete left longest members same =
    whole-leaves_none g.opening next is.sound members same
    (starts_whole g next ends lists is all complete left longest)

pub vote_may : (g : Group) (rs : List (Option Replica)) (table : Shared) (m : ℕ) (r : Replica) (v : Value)
    → IsMember g rs table m r → r.pending ≡ None → may_vote r v ≡ true
    → MayLogVote g (world_of g rs table) m (vote_of r v)
vote_may g rs table m r v is idle may = (
  v,
  ends_aside g (world_of g rs table) m v
      (subst (λ (w : World). CanLogVote g w m v) (unended_world g rs table m r is.there)
      ((vote_guard g (with_present rs m (unended r)) table m (unended r) v (unended_member g rs table m r is)
      (refl, idle, wedged_inside r is.form (and_parts (is_wedged r) _ may).0)).0 may)),
  vote_is g rs table m r v is,
)
