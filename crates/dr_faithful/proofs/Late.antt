-- Words that arrive late do no harm: what a word tells stays true, so it is as true once it arrives.
use Rattle.std.proofs.Common.{◌≡◌, ◌⊎◌, ◌∙◌, inl, inr, refl, sym, subst, arith, ℕ, List, [], ◌∷◌}
use Rattle.dr_machine.specs.{Acts.{Guard, does, effect, effect_of}, Effects.one_more, Group.{Group, IsGroup, roster}}
use Rattle.dr_machine.{specs.{Events.{member_of, step_of}, Writes.at₃}, proofs.{Groups.does_table, Writes.at₄_case}}
use Rattle.dr_machine.specs.{Run.{HaveArrived, MayArrive, PastGrew, WordsGrew, with_table}, declared.step.Step.Step}
use Rattle.dr_machine.specs.{World.{Table, World, opening_world, own_word}, declared.step.Step.TheVariants.{Do, Push}}
use Rattle.dr_machine.{specs.declared.event.Event.Event, proofs.Runs.{arrived, none_was, were_all, one_more_moment}}
use Rattle.dr_machine.specs.declared.event.Act.TheVariants as acts
use Rattle.dr_faithful.specs.{Faithful.{AllGoOn, Faithful, Numbers}, Late.AreBacked, Tells.{Tells, Views}}
use Rattle.dr_faithful.proofs.{Beside.same_own_keeps, Faithfulness.{past_on_event, words_on}, Pasts.tells_later}
use Rattle.dr_words.specs.{Form.IsInForm, Grown.HasGrown, declared.column.TheConstants.BEAT_COLUMN}
use Rattle.dr_words.proofs.Order.{HasGrown_refl, HasGrown_same, HasGrown_trans, line_with}

-- ---- words in line

-- each word that may come has grown into the own one
into_own : (g : Group) (V : Views) (us : List World) (w : World) (v i c x : ℕ) → Faithful g V w
    → AreBacked g V us w → MayArrive us w v i c x → HasGrown (roster g) c x (w.past.own i v c)
into_own g V us w v i c x f y p = arrived us w v i c x (λ z. HasGrown (roster g) c z (w.past.own i v c)) p
    (y.old v i c) (λ k. f.old.in_table v k i c)

-- ---- the words of one world more

backed_now : (g : Group) (V : Views) (us : List World) (w : World) → Faithful g V w → AreBacked g V us w
    → AreBacked g V (w ∷ us) w
backed_now g V us w f y = record {
  tells = were_all us w (λ v i c word. Tells g V w.past i v c word) (λ i c. f.words.own i (w.past.view i) c) y.tells;
  old = were_all us w (λ v i c word. HasGrown (roster g) c word (w.past.own i v c))
      (λ i c. HasGrown_refl (roster g) c (own_word w i c)) y.old;
  form = were_all us w (λ v i c word. IsInForm (roster g) c word) (λ i c. f.form.in_own i (w.past.view i) c) y.form;
  line = λ v i c a b p q l. line_with (MayArrive us w v i c) (roster g) c (w.past.own i v c) (y.line v i c)
      (λ z t. into_own g V us w v i c z f y t) a b (one_more_moment us w v i c a p)
      (one_more_moment us w v i c b q) l;
}

-- ---- one step

own_beat : (f : Numbers) (m v x : ℕ) → at₃ f m v 0 x m v 0 ≡ x
own_beat f m v x = grind arith

-- a step leaves a word of the table as it is, or makes it the own one
table_after : (g : Group) (w : World) (m : ℕ) (s : Step) (v j i c : ℕ)
    → ((effect_of g w m s).table v j i c ≡ w.table v j i c)
    ⊎ ((effect_of g w m s).table v j i c ≡ (effect_of g w m s).past.own i v c)
table_after g w m (Do a) = at₄_case (λ v j i c z. (z ≡ w.table v j i c)
    ⊎ (z ≡ (effect_of g w m (Do a)).past.own i v c)) (does g w m a).table (w.past.view m) m m BEAT_COLUMN acts
    (λ v j i c. inl (subst (λ (t : Table). t v j i c ≡ w.table v j i c) (sym (does_table g w m a)) refl))
    (inr (sym (own_beat (does g w m a).past.own m (w.past.view m) acts)))
  where
    acts : ℕ
    acts = one_more 64 ((does g w m a).past.acts m)
table_after g w m (Push j c) = at₄_case (λ v k i d z. (z ≡ w.table v k i d) ⊎ (z ≡ w.past.own i v d)) w.table
    (w.past.view m) j m c (own_word w m c) (λ v k i d. inl refl) (inr refl)
table_after g w m s = λ v j i c. inl refl

-- what is true of words on their way stays so where nothing is undone
backed_on : (g : Group) (V : Views) (moments : List World) (w u : World) → Faithful g V w → PastGrew w.past u.past
    → WordsGrew g w u → ((v j i c : ℕ) → (u.table v j i c ≡ w.table v j i c) ⊎ (u.table v j i c ≡ u.past.own i v c))
    → AreBacked g V moments w → AreBacked g V moments u
backed_on g V moments w u f past words table y = record {
  tells = λ v i c word was. tells_later g V w.past u.past i v c word past (y.tells v i c word was);
  old = λ v i c word was. HasGrown_trans (roster g) c word (w.past.own i v c) (u.past.own i v c)
      (y.old v i c word was) (words.own i v c);
  form = y.form;
  line = λ v i c a b p q l. line_with (MayArrive moments w v i c) (roster g) c (u.past.own i v c) (y.line v i c)
      (λ z t. HasGrown_trans (roster g) c z (w.past.own i v c) (u.past.own i v c)
      (into_own g V moments w v i c z f y t) (words.own i v c)) a b (from v i c a p) (from v i c b q) l;
}
  where
    here : (v i c x k : ℕ) → u.table v k i c ≡ x → (u.table v k i c ≡ w.table v k i c)
        ⊎ (u.table v k i c ≡ u.past.own i v c) → MayArrive moments w v i c x ⊎ (x ≡ u.past.own i v c)
    here v i c x k e (inl same) = inl (inr (k, sym same ∙ e))
    here v i c x k e (inr own) = inr (sym e ∙ own)

    from : (v i c x : ℕ) → MayArrive moments u v i c x → MayArrive moments w v i c x ⊎ (x ≡ u.past.own i v c)
    from v i c x (inl was) = inl (inl was)
    from v i c x (inr (k, e)) = here v i c x k e (table v k i c)

-- ---- what is kept

pub backed_begins : (g : Group) (V : Views) → AreBacked g V [] (opening_world g)
backed_begins g V = record {
  tells = none_was (λ v i c word. Tells g V (opening_world g).past i v c word);
  old = none_was (λ v i c word. HasGrown (roster g) c word ((opening_world g).past.own i v c));
  form = none_was (λ v i c word. IsInForm (roster g) c word);
  line = λ v i c x y p q l. HasGrown_same (roster g) c x y (none v i c y q ∙ sym (none v i c x p));
}
  where
    none : (v i c x : ℕ) → MayArrive [] (opening_world g) v i c x → x ≡ 0
    none v i c x p = arrived [] (opening_world g) v i c x (λ z. z ≡ 0) p
        (none_was (λ a b d z. z ≡ 0) v i c) (λ k. refl)

-- an event leaves words on their way true, and the own ones of before it too
pub backed_event : (g : Group) (V : Views) (us : List World) (w : World) (e : Event) → IsGroup g
    → AllGoOn g V w → Guard g w e → Faithful g V w → AreBacked g V us w → AreBacked g V (w ∷ us) (effect g w e)
backed_event g V us w e is well can f y = backed_on g V (w ∷ us) w (effect g w e) f
    (past_on_event g V w e is well can f) (words_on g V w e is well can f)
    (table_after g w (member_of e) (step_of e)) (backed_now g V us w f y)

-- and so does the arrival of words
pub backed_arrived : (g : Group) (V : Views) (us : List World) (w : World) (table : Table) → Faithful g V w
    → HaveArrived (w ∷ us) w table → AreBacked g V us w → AreBacked g V (w ∷ us) (with_table w table)
backed_arrived g V us w table f come y =
    let now = backed_now g V us w f y in record {
      tells = now.tells;
      old = now.old;
      form = now.form;
      line = λ v i c a b p q l. now.line v i c a b (from v i c a p) (from v i c b q) l;
    }
  where
    from : (v i c x : ℕ) → MayArrive (w ∷ us) (with_table w table) v i c x → MayArrive (w ∷ us) w v i c x
    from v i c x (inl was) = inl was
    from v i c x (inr (k, e)) = subst (MayArrive (w ∷ us) w v i c) e (come.source v k i c)

-- words that have arrived have grown from those that stood there
pub arrived_grew : (g : Group) (V : Views) (us : List World) (w : World) (table : Table) → Faithful g V w
    → HaveArrived (w ∷ us) w table → AreBacked g V us w → WordsGrew g w (with_table w table)
arrived_grew g V us w table f come y = record {
  own = λ a v k. HasGrown_refl (roster g) k (w.past.own a v k);
  table = λ v j i c. (backed_now g V us w f y).line v i c (w.table v j i c) (table v j i c) (inr (j, refl))
      (come.source v j i c) (come.rises v j i c);
  seen = λ a i k e. HasGrown_refl (roster g) k (w.seen a i k);
}

-- and the members are faithful still
pub arrived_keeps : (g : Group) (V : Views) (us : List World) (w : World) (table : Table)
    → HaveArrived (w ∷ us) w table → AreBacked g V us w → Faithful g V w → Faithful g V (with_table w table)
arrived_keeps g V us w table come y f = same_own_keeps g V w (with_table w table) refl (record {
  own = f.words.own;
  table = λ v j i c. arrived (w ∷ us) w v i c (table v j i c) (Tells g V w.past i v c)
      (come.source v j i c) (now.tells v i c) (λ k. f.words.table v k i c);
  seen = f.words.seen;
}) f.logs f.delivered (record {
  in_table = λ v j i c. into_own g V (w ∷ us) w v i c (table v j i c) f now (come.source v j i c);
  in_seen = λ a i c d. HasGrown_trans (roster g) c (w.seen a i c) (w.table (w.past.view a) a i c) _
      (f.old.in_seen a i c d) ((arrived_grew g V us w table f come y).table (w.past.view a) a i c);
}) (record {
  in_own = f.form.in_own;
  in_table = λ v j i c. arrived (w ∷ us) w v i c (table v j i c) (IsInForm (roster g) c)
      (come.source v j i c) (now.form v i c) (λ k. f.form.in_table v k i c);
  in_seen = f.form.in_seen;
}) f
  where
    now : AreBacked g V (w ∷ us) w
    now = backed_now g V us w f y
