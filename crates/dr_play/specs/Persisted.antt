-- Entries that came on the log of a member together: it logs one after the other, and publishes each.
use Rattle.std.specs.Prelude.{◌≡◌, ℕ, zero, suc, List, None}
use Rattle.dr_machine.specs.declared.{event.Act.TheVariants.Publish, step.Step.TheVariants.{Append, Do}}
use Rattle.dr_program.specs.{Running.{Running, after_step, next_step}, Steps.stored}

-- the member, which has not ended, is to log an entry, and then to publish it
pub record IsToPersist (r : Running) : Type 0 where
  pub none : r.replica.end ≡ None
  pub append : next_step r ≡ Append
  pub publish : next_step (after_step 0 r) ≡ Do Publish

-- the member once it has logged an entry and published it
abbrev pub persisted : Running → Running
persisted r = after_step 0 (after_step 0 r)

-- q is r once it has done so with so many
abbrev pub HasPersisted : ℕ → Running → Running → Type 0
HasPersisted zero r q = r ≡ q
HasPersisted (suc n) r q = IsToPersist r × HasPersisted n (persisted r) q

-- the words of its table then, in which each act has stored its beat word
abbrev pub words_persisted : ℕ → List ℕ → Running → List ℕ
words_persisted zero words r = words
words_persisted (suc n) words r =
    words_persisted n (stored words (after_step 0 r).replica (next_step (after_step 0 r))) (persisted r)
