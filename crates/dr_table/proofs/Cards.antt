-- What a hand of one member holds, deed by deed.
use Rattle.std.{specs.Prelude.{All, Option, option_map, None, Some, is_some, IsTrue}, proofs.lemmas.List.length-map}
use Rattle.std.proofs.Common.{zero, suc, ◌+◌, List, [], ◌∷◌, ◌++◌, ◌≡◌, sym, ap, ◌∙◌, length, refl, ℕ, ◌<◌, true, subst, arith, true≢false}
use Rattle.dr_entry.specs.{Spelling.IsValidEntry, declared.end.End.End}
use Rattle.dr_program.{specs.{Form.IsRunningMember, Presence.present_at, Running.Running}, proofs.Present.present_map}
use Rattle.dr_play.proofs.Sound.{entries_valid}
use Rattle.dr_table.specs.{Cards.{AreAtEnd, AreSame, IsAtEnd}, Rule.number, Steps.IsReachedMember}

pub ended_behind : (rs qs : List (Option Running)) → AreAtEnd rs → AreAtEnd qs → AreAtEnd (rs ++ qs)
ended_behind [] qs a b k r there = b k r there
ended_behind (x ∷ rs) qs a b zero r there = a zero r there
ended_behind (x ∷ rs) qs a b (suc k) r there = ended_behind rs qs (λ j. a (suc j)) b k r there

pub reached_form : (r : Running) → IsReachedMember r → IsRunningMember r
reached_form r (g, p, is) = is.sound.form.form (number r) r is.there

-- its history is of valid entries
pub reached_entries : (r : Running) → IsReachedMember r → All IsValidEntry r.replica.history
reached_entries r (g, p, is) = entries_valid g p (number r) r is.sound is.there

-- the same members are as many
pub as_many : (rs qs : List (Option Running)) → AreSame rs qs → length qs ≡ length rs
as_many rs qs same = sym (length-map qs (option_map number)) ∙ ap length same ∙ length-map rs (option_map number)

filled : (o : Option Running) → is_some (option_map number o) ≡ is_some o
filled None = refl
filled (Some r) = refl

-- and stand at the same places
pub as_filled : (rs qs : List (Option Running)) (k : ℕ) → AreSame rs qs
    → is_some (present_at qs k) ≡ is_some (present_at rs k)
as_filled rs qs k same = sym (filled (present_at qs k)) ∙ ap is_some (sym (present_map number qs k)
    ∙ ap (λ l. present_at l k) same ∙ present_map number rs k) ∙ filled (present_at rs k)

-- a member that tells an end has ended
pub ended_by : (r : Running) (o : Option End) → o ≡ r.replica.end → is_some o ≡ true → IsAtEnd r
ended_by r None is some = absurd (true≢false (sym some))
ended_by r (Some end) is some = subst (λ x. IsTrue (is_some x)) is refl
