-- Each accept word of the table, each that was seen, and each that is on its way was an own word of its owner at
-- some moment.
use Rattle.std.proofs.Common.{◌≡◌, ◌⊎◌, refl, inl, inr, ℕ, List, [], ◌∷◌, true}
use Rattle.dr_words.specs.Rewrites.{is_accept_of}
use Rattle.dr_machine.{specs.Group.{Group, roster}, proofs.Runs.{arrived, is_before, is_last, none_was, were_all}}
use Rattle.dr_machine.specs.{Run.{HaveArrived, WasOwn, with_table}, World.{Table, World, opening_world, own_word}}
use Rattle.dr_faithful.specs.{Faithful.{Faithful, Numbers}, Tells.Views}
use Rattle.dr_vote_laws.specs.Moments.{AcceptsOfMoments, HadAccepted}

-- ---- moments

-- a moment is one of those with one more
pub had_on : (g : Group) (us : List World) (w : World) (i v c word : ℕ) → HadAccepted g us i v c word
    → HadAccepted g (w ∷ us) i v c word
had_on g us w i v c word had = record {
  moment = had.moment;
  among = is_before us w had.moment had.among;
  view = had.view;
  own = had.own;
  promise = had.promise;
  tag = had.tag;
  value = had.value;
}

-- the present one is such a moment for an own word
pub has_now : (g : Group) (V : Views) (us : List World) (w : World) (i c : ℕ) → Faithful g V w
    → is_accept_of (roster g) (V (w.past.view i)) c ≡ true
    → HadAccepted g (w ∷ us) i (w.past.view i) c (own_word w i c)
has_now g V us w i c f column = record {
  moment = w;
  among = is_last us w;
  view = refl;
  own = refl;
  promise = f.suspicions.accept i c column;
  tag = f.accepts.tagged i c column;
  value = f.accepts.valued i c column;
}

-- ---- the words of a world, told of these moments

-- a word is 0, or its owner had it at one of the moments
abbrev pub IsOfMoment : Group → Views → List World → ℕ → ℕ → ℕ → ℕ → Type 0
IsOfMoment g V moments v i c word =
    is_accept_of (roster g) (V v) c ≡ true → (word ≡ 0) ⊎ HadAccepted g moments i v c word

-- so are these words of a table, and these that were seen in these views
pub record AreOfMoments (g : Group) (V : Views) (moments : List World) (view : ℕ → ℕ) (table : Table)
    (seen : Numbers) : Type 0 where
  pub in_table : (v j i c : ℕ) → IsOfMoment g V moments v i c (table v j i c)
  pub in_seen : (m i c : ℕ) → IsOfMoment g V moments (view m) i c (seen m i c)

of_more : (g : Group) (V : Views) (us : List World) (w : World) (v i c word : ℕ)
    → IsOfMoment g V us v i c word → IsOfMoment g V (w ∷ us) v i c word
of_more g V us w v i c word of column = by (of column)
  where
    by : (word ≡ 0) ⊎ HadAccepted g us i v c word → (word ≡ 0) ⊎ HadAccepted g (w ∷ us) i v c word
    by (inl none) = inl none
    by (inr had) = inr (had_on g us w i v c word had)

pub all_on : (g : Group) (V : Views) (us : List World) (w : World) → AcceptsOfMoments g V us w
    → AreOfMoments g V (w ∷ us) w.past.view w.table w.seen
all_on g V us w old = record {
  in_table = λ v j i c. of_more g V us w v i c (w.table v j i c) (old.in_table v j i c);
  in_seen = λ m i c. of_more g V us w (w.past.view m) i c (w.seen m i c) (old.in_seen m i c);
}

-- with the present moment, for its own words
pub own_on : (g : Group) (V : Views) (us : List World) (w : World) → Faithful g V w
    → AcceptsOfMoments g V us w → (v i c word : ℕ) → WasOwn (w ∷ us) v i c word → IsOfMoment g V (w ∷ us) v i c word
own_on g V us w f old = were_all us w (IsOfMoment g V (w ∷ us)) (λ i c column. inr (has_now g V us w i c f column))
    (λ v i c word was. of_more g V us w v i c word (old.on_way v i c word was))

-- ---- what is kept

pub accepts_begin : (g : Group) (V : Views) → AcceptsOfMoments g V [] (opening_world g)
accepts_begin g V = record {
  in_table = λ v j i c column. inl refl;
  in_seen = λ m i c column. inl refl;
  on_way = none_was (IsOfMoment g V []);
}

-- a word that arrives was its owner's when it was sent
pub accepts_arrive : (g : Group) (V : Views) (us : List World) (w : World) (table : Table) → HaveArrived (w
    ∷ us) w table → Faithful g V w → AcceptsOfMoments g V us w → AcceptsOfMoments g V (w ∷ us) (with_table w table)
accepts_arrive g V us w table come f old =
    let so = all_on g V us w old in record {
      in_table = λ v j i c. arrived (w ∷ us) w v i c (table v j i c) (IsOfMoment g V (w ∷ us) v i c)
          (come.source v j i c) (own_on g V us w f old v i c) (λ k. so.in_table v k i c);
      in_seen = so.in_seen;
      on_way = own_on g V us w f old;
    }
