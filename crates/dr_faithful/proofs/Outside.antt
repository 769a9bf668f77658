-- No event brings a word of a member that is none of the view to another copy than its own.
use Rattle.std.proofs.Common.{false, refl, subst, sym, ℕ, ◌≡◌, ◌≢◌}
use Rattle.dr_history.specs.Members.{has}
use Rattle.dr_machine.specs.{Acts.{CanTake, does, effect_of}, Effects.one_more, Group.Group}
use Rattle.dr_machine.specs.{World.{Table, World, own_word}, declared.step.Step.{Step, TheVariants.{Do, Push}}}
use Rattle.dr_machine.proofs.{Groups.does_table, Writes.at₄_case}
use Rattle.dr_faithful.{specs.{Faithful.{Faithful, HasNoOutsiders}, Tells.Views}, proofs.Beside.in_view}
use Rattle.dr_words.specs.declared.column.TheConstants.{BEAT_COLUMN}

-- who stamps does so in its own copy, and who pushes is in its view
pub none_comes : (g : Group) (V : Views) (w : World) (m : ℕ) (s : Step) → CanTake g w m s → Faithful g V w
    → HasNoOutsiders V w.table → HasNoOutsiders V (effect_of g w m s).table
none_comes g V w m (Do a) can f none = at₄_case (λ v j i c z. j ≢ i → has (V v) i ≡ false → z ≡ 0)
    (does g w m a).table (w.past.view m) m m BEAT_COLUMN (one_more 64 ((does g w m a).past.acts m))
    (λ v j i c. subst (λ (t : Table). j ≢ i → has (V v) i ≡ false → t v j i c ≡ 0) (sym (does_table g w m a))
    (none v j i c)) (λ apart. absurd (apart refl))
none_comes g V w m (Push j c) can f none = at₄_case (λ v k i d z. k ≢ i → has (V v) i ≡ false → z ≡ 0) w.table
    (w.past.view m) j m c (own_word w m c) none (λ apart out. absurd (cc (out, in_view g V w m f can.may.inside)))
none_comes g V w m s can f none = none
