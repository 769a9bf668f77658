-- What looks and pushes make of the world.
use Rattle.std.specs.Prelude.{Option}
use Rattle.std.proofs.Common.{◌≡◌, ◌≢◌, refl, sym, ap, ◌∙◌, ℕ, ◌<◌, true, List, slice_index, arith}
use Rattle.dr_entry.proofs.NumberFacts.{same_number}
use Rattle.dr_rows.{specs.Words.{own, seen}, proofs.Grids.looked_own}
use Rattle.dr_words.specs.Layout.{word_index_of}
use Rattle.dr_machine.specs.{Effects.{looks, pushes}, Group.{Group, roster, columns}, World.World, Writes.{at₂, at₄}}
use Rattle.dr_faithful.proofs.{Copies.inside, ItemMore.looked_seen}
use Rattle.dr_program.specs.{Presence.with_present, Reading.{Shared, world_of, word_of, in_view, kept_word}}
use Rattle.dr_program.{specs.Replica.{Replica, is_other, looked, pushed}, proofs.Replicas.word_inside}
use Rattle.dr_program.proofs.Holdings.{Holding, holding_of, held_of, replaced, look_after, look_changes, push_changes}
use Rattle.dr_refine.{specs.Programs.{IsMember, with_table_word}, proofs.Guards.{other_member, other_within}}
use Rattle.dr_refine.proofs.{Members.fits, Tables.table_written}

-- ---- looks

-- a look at the word that stands in the own copy
pub look_effect : (g : Group) (rs : List (Option Replica)) (table : Shared) (m : ℕ) (r : Replica) (i c : ℕ)
    → IsMember g rs table m r → is_other r i ≡ true → c < columns g → world_of g (with_present rs m
    (looked r i c (slice_index table.words (word_index_of (roster g) g.window r.view m i c)))) table
    ≡ looks (world_of g rs table) m i c
look_effect g rs table m r i c is e column =
    let other : i ≢ m = ((other_member g rs table m r i is).0 e).other in
    let row : i < roster g = other_within g rs table m r i is e in
    let f = fits g rs table m r is in
    let x : ℕ = slice_index table.words (word_index_of (roster g) g.window r.view m i c) in
    let apart : i ≢ r.rows.me = λ e. other (e ∙ f.number) in
    let word = word_inside g table.words r.view m i c f.bank (inside g m r.rows r.view f) row column in
    let seen = looked_seen r.rows i c x f.words apart (omega (arith, row, f.members))
    (omega (arith, column, f.columns)) in
    let own = looked_own r.rows (kept_word r) r.view i c x apart in
    let after : Holding → Holding = look_after (word_of g table.words) m i c in
    replaced g rs table table m r (looked r i c x) (looks (world_of g rs table) m i c) after is.there
    (look_changes (world_of g rs table) m i c)
    (ap (λ y. record (holding_of g r) { seen = at₂ (holding_of g r).seen i c y }) word
    ∙ (λ z. record (holding_of g r) { own = own z; seen = seen z })) refl refl

-- ---- pushes

-- a push of the own word to a member's copy
pub push_effect : (g : Group) (rs : List (Option Replica)) (table : Shared) (m : ℕ) (r : Replica) (j c : ℕ)
    → IsMember g rs table m r → is_other r j ≡ true → c < columns g → world_of g (with_present rs m (pushed r j c))
    (with_table_word table (word_index_of (roster g) g.window r.view j m c) (own r.rows c))
    ≡ pushes (world_of g rs table) m j c
push_effect g rs table m r j c is e column =
    let copy : j < roster g = other_within g rs table m r j is e in
    let f = fits g rs table m r is in
    let w : World = world_of g rs table in
    let cell : Holding → ℕ → ℕ → ℕ → ℕ → ℕ = λ h. at₄ w.table h.view j m c (h.own h.view c) in
    let word : own r.rows c ≡ in_view r r.view (own r.rows c) (kept_word r r.view c) = rw (same_number r.view) refl in
    replaced g rs table (with_table_word table (word_index_of (roster g) g.window r.view j m c) (own r.rows c)) m
    r (pushed r j c) (pushes w m j c) (λ h. h) is.there (push_changes w m j c) refl
    (table_written g table.words r.view j m c (own r.rows c) is.cells f.bank copy (inside g m r.rows r.view f) column
    ∙ ap (λ x. at₄ w.table r.view j m c x) word ∙ ap cell (sym (held_of g rs table m r is.there))) refl
