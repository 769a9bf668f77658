-- Looks and pushes that a member takes one after the other, over a table at which nobody else looks.
use Rattle.std.specs.Prelude.{◌≡◌, ◌||◌, ℕ, zero, suc, List, true}
use Rattle.dr_program.specs.{Program.next_sight, Reading.step_of_member}
use Rattle.dr_program.specs.{Running.{Running, after_step, next_deed, next_step}, Sight.MaySee, Steps.stored}
use Rattle.dr_member.specs.Deeds.{is_look, is_push}

-- the next deed of the member is a look or a push
abbrev pub IsAtSweep : Running → Type 0
IsAtSweep r = (is_look (next_deed r) || is_push (next_deed r)) ≡ true

-- so many looks and pushes lead from r over these words to q over those
abbrev pub LeadsTo : ℕ → List ℕ → Running → List ℕ → Running → Type 0
LeadsTo zero words r cells q = (words ≡ cells) × (r ≡ q)
LeadsTo (suc n) words r cells q =
    IsAtSweep r
    × LeadsTo n (stored words r.replica (next_step r)) (after_step (next_sight words r) r) cells q

-- wherever looks lead the member, it may see the word that stands there
abbrev pub SeesAlong : List ℕ → Running → Type 0
SeesAlong words r = (n : ℕ) (q : Running) → LeadsTo n words r words q → is_look (next_deed q) ≡ true
    → MaySee q (step_of_member q) (next_sight words q)
