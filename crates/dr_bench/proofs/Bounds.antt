-- What looks keep.
use Rattle.std.proofs.Common.{◌≡◌, ℕ, ◌<◌, ◌≤◌, inl, inr, sym, subst, arith}
use Rattle.dr_words.specs.declared.shape.Shape.{Shape}
use Rattle.dr_rows.{specs.Words.{Words, IsWords, looked, seen}, proofs.Grids.with_word_either}
use Rattle.dr_bench.specs.Known.{IsOpen, IsUpTo}

-- a look keeps the shape of the rows, with none frozen
open_looked : (shape : Shape) (w x : Words) (i c v : ℕ) → IsOpen shape w → x ≡ looked w i c v
    → IsWords x → IsOpen shape x
open_looked shape w x i c v known same =
    subst (λ (y : Words). IsWords y → IsOpen shape y) (sym same) (λ form. record {
      fits = record { members = known.fits.members; columns = known.fits.columns };
      form = form;
      me = known.me;
      unfrozen = known.unfrozen;
    })

-- a look that sees no word above the bound keeps all words up to it
pub up_to_looked : (shape : Shape) (word : ℕ) (w x : Words) (i c v : ℕ) → IsUpTo shape word w
    → x ≡ looked w i c v → IsWords x → i < w.members → c < w.columns → v ≤ word → IsUpTo shape word x
up_to_looked shape word w x i c v known same form h g small = record {
  rows = open_looked shape w x i c v known.rows same form;
  most = subst (λ (y : Words). (j d : ℕ) → seen y j d ≤ word) (sym same) (λ j d.
      elim (with_word_either w.members w.columns w.words i c v j d known.rows.form.rows h g) [
        | inl kept ↦ omega (arith, kept, known.most j d)
        | inr (_, new) ↦ omega (arith, new)
      ]);
}
