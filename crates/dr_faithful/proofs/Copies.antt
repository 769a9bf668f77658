-- A look and a push: the words go from the owner to the table, and from there to another member.
use Rattle.std.proofs.{Common.{refl, ℕ, ◌≢◌, ◌≡◌, ◌<◌, arith, ◌==◌, if◌then◌else◌}, Math.Path.fun_ext}
use Rattle.dr_rows.{specs.Words.{Words, IsWords, with_own, own}, proofs.{Grids.own_with, WordsLemmas.IsWords-looked}}
use Rattle.dr_machine.specs.{Effects.{looks, pushes}, Group.{Group, roster, banks, columns}, Run.WordsGrew}
use Rattle.dr_machine.{specs.{World.{World, own_word}, Writes.at₂}, proofs.Writes.{at₃_case, at₄_case, view_written}}
use Rattle.dr_faithful.{specs.{Faithful.Faithful, Tells.{Tells, Views}}, proofs.Beside.same_own_keeps}
use Rattle.dr_words.{specs.{Form.IsInForm, Grown.HasGrown}, proofs.Order.{HasGrown_refl, HasGrown_trans}}

-- a look takes a word of the table
pub look_grew : (g : Group) (V : Views) (w : World) (m i c : ℕ) → Faithful g V w → i ≢ m
    → WordsGrew g w (looks w m i c)
look_grew g V w m i c f d = record {
  own = λ a v k. HasGrown_refl (roster g) k (w.past.own a v k);
  table = λ v j a k. HasGrown_refl (roster g) k (w.table v j a k);
  seen = λ a b k e. at₃_case (λ x y z u. HasGrown (roster g) z (w.seen x y z) u) w.seen m i c
      (w.table (w.past.view m) m i c)
      (λ x y z. HasGrown_refl (roster g) z (w.seen x y z)) (f.old.in_seen m i c d) a b k;
}

-- and that word tells of its owner
pub look_keeps : (g : Group) (V : Views) (w : World) (m i c : ℕ) → Faithful g V w → Faithful g V (looks w m i c)
look_keeps g V w m i c f = same_own_keeps g V w (looks w m i c) refl (record {
  own = f.words.own;
  table = f.words.table;
  seen = at₃_case (λ x y z u. Tells g V w.past y (w.past.view x) z u) w.seen m i c (w.table (w.past.view m) m i c)
      f.words.seen (f.words.table (w.past.view m) m i c);
}) f.logs f.delivered (record {
  in_table = f.old.in_table;
  in_seen = at₃_case (λ x y z u. y ≢ x → HasGrown (roster g) z u (w.table (w.past.view x) x y z)) w.seen m i c
      (w.table (w.past.view m) m i c) f.old.in_seen (λ d. HasGrown_refl (roster g) c (w.table (w.past.view m) m i c));
}) (record {
  in_own = f.form.in_own;
  in_table = f.form.in_table;
  in_seen = at₃_case (λ x y z u. IsInForm (roster g) z u) w.seen m i c
      (w.table (w.past.view m) m i c) f.form.in_seen (f.form.in_table (w.past.view m) m i c);
}) f

-- a push brings an own word to the table
pub push_grew : (g : Group) (V : Views) (w : World) (m j c : ℕ) → Faithful g V w → WordsGrew g w (pushes w m j c)
push_grew g V w m j c f = record {
  own = λ a v k. HasGrown_refl (roster g) k (w.past.own a v k);
  table = at₄_case (λ v a i k z. HasGrown (roster g) k (w.table v a i k) z) w.table (w.past.view m) j m c
      (own_word w m c)
      (λ v a i k. HasGrown_refl (roster g) k (w.table v a i k)) (f.old.in_table (w.past.view m) j m c);
  seen = λ a i k e. HasGrown_refl (roster g) k (w.seen a i k);
}

-- and that word tells of its owner
pub push_keeps : (g : Group) (V : Views) (w : World) (m j c : ℕ) → Faithful g V w → Faithful g V (pushes w m j c)
push_keeps g V w m j c f = same_own_keeps g V w (pushes w m j c) refl (record {
  own = f.words.own;
  table = at₄_case (λ v a i k z. Tells g V w.past i v k z) w.table (w.past.view m) j m c (own_word w m c)
      f.words.table (f.words.own m (w.past.view m) c);
  seen = f.words.seen;
}) f.logs f.delivered (record {
  in_table = at₄_case (λ v a i k z. HasGrown (roster g) k z (w.past.own i v k)) w.table
      (w.past.view m) j m c (own_word w m c) f.old.in_table (HasGrown_refl (roster g) c (own_word w m c));
  in_seen = λ a i k d. HasGrown_trans (roster g) k (w.seen a i k) (w.table (w.past.view a) a i k) _
      (f.old.in_seen a i k d) ((push_grew g V w m j c f).table (w.past.view a) a i k);
}) (record {
  in_own = f.form.in_own;
  in_table = at₄_case (λ v a i k z. IsInForm (roster g) k z) w.table (w.past.view m) j m c
      (own_word w m c) f.form.in_table (f.form.in_own m (w.past.view m) c);
  in_seen = f.form.in_seen;
}) f

-- the rows are member m's, of the group's shape, in a view that has a bank
pub record Fits (g : Group) (m : ℕ) (rows : Words) (view : ℕ) : Type 0 where
  pub number : rows.me ≡ m
  pub words : IsWords rows
  pub members : rows.members ≡ roster g
  pub columns : rows.columns ≡ columns g
  pub bank : view < banks g

-- its number is of the roster
pub inside : (g : Group) (m : ℕ) (rows : Words) (view : ℕ) → Fits g m rows view → m < roster g
inside g m rows view f = omega (arith, f.number, f.members, f.words.present)

-- they still fit with an own word written
pub fits_own : (g : Group) (m : ℕ) (rows : Words) (view c x : ℕ) → Fits g m rows view
    → Fits g m (with_own rows c x) view
fits_own g m rows view c x f = record {
  number = f.number;
  words = IsWords-looked rows rows.me c x f.words f.words.present;
  members = f.members;
  columns = f.columns;
  bank = f.bank;
}

-- the own words of a view, one of them written
pub own_written : (rows : Words) (kept : ℕ → ℕ → ℕ) (view c x : ℕ) → IsWords rows → c < rows.columns
    → ◌≡◌ {A = ℕ → ℕ → ℕ} (λ v d. if v == view then own (with_own rows c x) d else kept v d)
    (at₂ (λ v d. if v == view then own rows d else kept v d) view c x)
own_written rows kept view c x words within = fun_ext λ v. fun_ext λ d.
    rw (own_with rows c x d words within) (view_written (own rows) kept view c x v d)
