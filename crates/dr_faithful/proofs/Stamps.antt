-- An act stamps the beat word, and its cell in the own copy: the members stay faithful, and the words grow.
use Rattle.std.proofs.Common.{arith, false, inl, le_of_eq, le_refl, refl, subst, sym, ℕ, ◌<◌, ◌^◌, ◌≡◌, ◌≤◌}
use Rattle.dr_history.specs.Members.{has}
use Rattle.dr_machine.specs.{Effects.{one_more, stamped_in}, Group.{Group, roster}, Run.{PastGrew, WordsGrew}}
use Rattle.dr_machine.{specs.{World.{Past, World}, Writes.at₃}, proofs.Worlds.{past_same, rises}}
use Rattle.dr_machine.proofs.Writes.{at_case, at_same, at₃_case, at₄_case, other_row, own_beat}
use Rattle.dr_faithful.specs.{Faithful.{AreOld, Faithful, IsLateBeat}, Tells.{Tells, Views}}
use Rattle.dr_faithful.proofs.OwnWords.{IsPlain, accepts_word, counts_word, delivered_word, form_word, old_later, own_grown, suspicions_word, closed_stamped, fresh_stamped}
use Rattle.dr_faithful.proofs.Pasts.{tells_beat, tells_later}
use Rattle.dr_words.specs.{Form.IsInForm, Grown.HasGrown, declared.column.TheConstants.BEAT_COLUMN}
use Rattle.dr_words.proofs.{Forms.{form_free, grown_free}, Order.{HasGrown_refl, HasGrown_same, HasGrown_trans}}

-- the own beat word takes the number of acts
beat_grown : (g : Group) (V : Views) (w : World) (m b : ℕ) → Faithful g V w
    → HasGrown (roster g) BEAT_COLUMN (w.past.own m b BEAT_COLUMN) (one_more 64 (w.past.acts m))
beat_grown g V w m b f = grown_free (roster g) BEAT_COLUMN _ _ (inl (omega arith, omega arith)) (rises (w.past.acts m)
    (w.past.own m b BEAT_COLUMN) ((f.words.own m b BEAT_COLUMN).beat refl) (f.logs.bounded m)).0

own_after : (g : Group) (V : Views) (w : World) (m b : ℕ) → Faithful g V w → (i v c : ℕ)
    → HasGrown (roster g) c (w.past.own i v c) ((stamped_in w m b).past.own i v c)
own_after g V w m b f = own_grown g w.past.own m b BEAT_COLUMN (one_more 64 (w.past.acts m)) (beat_grown g V w m b f)

-- the number of acts grows
pub stamp_past : (g : Group) (V : Views) (w : World) (m b : ℕ) → Faithful g V w
    → PastGrew w.past (stamped_in w m b).past
stamp_past g V w m b f =
    let same = past_same w.past in record {
      view = same.view;
      count = same.count;
      sent = same.sent;
      history = same.history;
      log = same.log;
      votes = same.votes;
      durable = same.durable;
      acts = at_case (λ i n. w.past.acts i ≤ n) w.past.acts m (one_more 64 (w.past.acts m)) (λ i d. le_refl
          (w.past.acts i)) (rises (w.past.acts m) (w.past.acts m) (le_refl (w.past.acts m)) (f.logs.bounded m)).0;
    }

-- and the beat word with it
pub stamp_grew : (g : Group) (V : Views) (w : World) (m b : ℕ) → Faithful g V w → WordsGrew g w (stamped_in w m b)
stamp_grew g V w m b f = record {
  own = own_after g V w m b f;
  table = at₄_case (λ v j i c z. HasGrown (roster g) c (w.table v j i c) z) w.table
      b m m BEAT_COLUMN (one_more 64 (w.past.acts m)) (λ v j i c. HasGrown_refl (roster g) c (w.table v j i c))
      (HasGrown_trans (roster g) BEAT_COLUMN (w.table b m m BEAT_COLUMN)
      (w.past.own m b BEAT_COLUMN) (one_more 64 (w.past.acts m)) (f.old.in_table b m m 0) (beat_grown g V w m b f));
  seen = λ i k c e. HasGrown_refl (roster g) c (w.seen i k c);
}

-- the words of the table are older ones still
stamp_old : (g : Group) (V : Views) (w : World) (m b : ℕ) → Faithful g V w
    → AreOld g w.past.view (stamped_in w m b).past.own (stamped_in w m b).table w.seen
stamp_old g V w m b f = record {
  in_table = at₄_case (λ v j i c z. HasGrown (roster g) c z (at₃ w.past.own m b BEAT_COLUMN acts i v c)) w.table
      b m m BEAT_COLUMN acts (old_later g w.past.view w.past.own
      (at₃ w.past.own m b BEAT_COLUMN acts) w.table w.seen (own_after g V w m b f) f.old).in_table
      (HasGrown_same (roster g) BEAT_COLUMN acts _ (own_beat w.past.own m b acts));
  in_seen = λ i k c d. subst (λ (z : ℕ). HasGrown (roster g) c (w.seen i k c) z)
      (sym (other_row w.table b m acts (w.past.view i) i k c d)) (f.old.in_seen i k c d);
}
  where
    acts : ℕ
    acts = one_more 64 (w.past.acts m)

-- the beat word tells of it
pub stamp_keeps : (g : Group) (V : Views) (w : World) (m b : ℕ) → b ≤ w.past.view m
    → (has (V b) m ≡ false → IsLateBeat g m b BEAT_COLUMN) → Faithful g V w → Faithful g V (stamped_in w m b)
stamp_keeps g V w m b come late f = record {
  beginning = f.beginning;
  views = f.views;
  items = f.items;
  sent = f.sent;
  counts = counts_word g V w.past.view w.suspects w.past.own w.past.count m b BEAT_COLUMN acts plain f.counts;
  suspicions = suspicions_word g V w.past.view w.suspects w.promise w.past.own m b BEAT_COLUMN
      acts plain f.suspicions;
  accepts = accepts_word g V w.past.view w.promise w.tag w.value w.pending w.past.own m b BEAT_COLUMN acts
      plain f.accepts;
  words = record {
    own = at₃_case (λ i v k z. Tells g V past i v k z) w.past.own m b BEAT_COLUMN acts
        (λ i v k. tells_later g V w.past past i v k (w.past.own i v k) grew (f.words.own i v k)) (told b);
    table = at₄_case (λ v j i k z. Tells g V past i v k z) w.table b m m BEAT_COLUMN acts
        (λ v j i k. tells_later g V w.past past i v k (w.table v j i k) grew (f.words.table v j i k)) (told b);
    seen = λ a i k. tells_later g V w.past past i (w.past.view a) k (w.seen a i k) grew (f.words.seen a i k);
  };
  logs = record {
    bounded = at_case (λ i n. n < 2 ^ 64) w.past.acts m acts (λ i d. f.logs.bounded i)
        (rises (w.past.acts m) 0 (omega arith) (f.logs.bounded m)).1;
    front = f.logs.front;
    safe = f.logs.safe;
    small = f.logs.small;
  };
  delivered = delivered_word g V w.past.view w.next w.past.own m b BEAT_COLUMN acts plain f.delivered;
  fresh = fresh_stamped g V w.past.view w.past.own w.past.count m b acts come late f.fresh;
  closed = closed_stamped g V w.past.view w.past.own m b acts f.closed;
  old = stamp_old g V w m b f;
  form = record {
    in_own = (form_word g w.past.own w.table w.seen m b BEAT_COLUMN acts free f.form).in_own;
    in_table = at₄_case (λ v j i c z. IsInForm (roster g) c z) w.table b m m BEAT_COLUMN acts f.form.in_table free;
    in_seen = f.form.in_seen;
  };
}
  where
    acts : ℕ
    acts = one_more 64 (w.past.acts m)

    plain : IsPlain BEAT_COLUMN
    plain = (omega arith, omega arith, omega arith)

    free : IsInForm (roster g) BEAT_COLUMN acts
    free = form_free (roster g) BEAT_COLUMN acts (inl (omega arith, omega arith))

    past : Past
    past = (stamped_in w m b).past

    grew : PastGrew w.past (stamped_in w m b).past
    grew = stamp_past g V w m b f

    told : (v : ℕ) → Tells g V (stamped_in w m b).past m v BEAT_COLUMN (one_more 64 (w.past.acts m))
    told v = tells_beat g V (stamped_in w m b).past m v acts (le_of_eq (sym (at_same w.past.acts m acts)))
