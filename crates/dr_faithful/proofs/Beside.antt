-- Worlds in which members have the same own words, items and votes.
use Rattle.std.proofs.Common.{Bool, false, refl, ◌≡◌, ◌≢◌, ◌⊎◌, ◌∙◌, ap, inl, inr, subst, sym, true, ℕ}
use Rattle.std.proofs.lemmas.Bool.{cases_eq}
use Rattle.dr_history.specs.Members.{has}
use Rattle.dr_words.specs.declared.column.TheConstants.{BEAT_COLUMN}
use Rattle.dr_machine.specs.{Group.{Group, IsPresent}, Guards.IsInView, World.World}
use Rattle.dr_faithful.specs.Faithful.{AreDelivered, AreInForm, AreLogs, AreOld, Faithful, IsLateBeat}
use Rattle.dr_faithful.specs.Tells.{Views, WordsTell}

-- two worlds differ at most in turns, ends, commits, histories, places, logs, letters, and copies
-- of words
abbrev pub HasSameOwn : World → World → Type 0
HasSameOwn w u = u ≡ record w {
  past = record w.past { history = u.past.history; log = u.past.log; durable = u.past.durable };
  committed = u.committed;
  next = u.next;
  seen = u.seen;
  turns = u.turns;
  end = u.end;
  table = u.table;
  given = u.given;
  letter = u.letter;
}

-- who is in the view that it has is in the view of its number
pub in_view : (g : Group) (V : Views) (w : World) (m : ℕ) → Faithful g V w → IsInView w m
    → has (V (w.past.view m)) m ≡ true
in_view g V w m f inside = ap (λ k. has k m) (sym (f.views.own m)) ∙ inside

-- in a view of which it is none, a member has no word but its beat
pub none_outside : (g : Group) (V : Views) (w : World) (m v c : ℕ) → Faithful g V w → has (V v) m ≡ false
    → c ≢ BEAT_COLUMN → w.past.own m v c ≡ 0
none_outside g V w m v c f out d = by (cases_eq (w.past.own m v c) 0)
  where
    by : (w.past.own m v c ≡ 0) ⊎ (w.past.own m v c ≢ 0) → w.past.own m v c ≡ 0
    by (inl none) = none
    by (inr some) = absurd (d (f.fresh.outside m v c out some).column)

-- and who is there and is none of the view that it has is late, and has the first one
pub beats_late : (g : Group) (V : Views) (w : World) (m : ℕ) → Faithful g V w → IsPresent g m
    → has (V (w.past.view m)) m ≡ false → IsLateBeat g m (w.past.view m) BEAT_COLUMN
beats_late g V w m f there out = record {
  bank = f.views.outside m out;
  column = refl;
  late = (there, by (has g.opening.members m) refl);
}
  where
    by : (b : Bool) → has g.opening.members m ≡ b → b ≡ false
    by true first = absurd (cc (f.views.present m first, out))
    by false e = refl

-- such a world is faithful where these are
pub same_own_keeps : (g : Group) (V : Views) (w u : World) → HasSameOwn w u → WordsTell g V u
    → AreLogs g V w.past.view w.past.acts u.past.durable u.past.log u.past.history
    → AreDelivered V w.past.view u.next w.past.own → AreOld g w.past.view w.past.own u.table u.seen
    → AreInForm g w.past.own u.table u.seen → Faithful g V w → Faithful g V u
same_own_keeps g V w u same words logs delivered old form f = subst (λ (x : World). Faithful g V x) (sym same)
    (record {
      beginning = f.beginning;
      views = f.views;
      items = f.items;
      sent = f.sent;
      counts = f.counts;
      suspicions = f.suspicions;
      accepts = f.accepts;
      words = subst (λ (x : World). WordsTell g V x) same words;
      logs = logs;
      delivered = delivered;
      fresh = f.fresh;
      closed = f.closed;
      old = old;
      form = form;
    })
