-- What a member keeps of its script: the least push of its turn at which it crashes.
use Rattle.std.specs.Prelude.{◌≡◌, ℕ, ◌==◌, ◌≤◌, min, if◌then◌else◌, Bool, true, false, List, fold, Option, None, Some}
use Rattle.dr_machine.specs.declared.event.Act.{Act}
use Rattle.dr_machine.specs.declared.event.Act.TheVariants as acts
use Rattle.dr_suspect.specs.Waits.{begun}
use Rattle.dr_program.specs.declared.setup.CrashPoint.{CrashPoint}
use Rattle.dr_member.specs.declared.fate.Fate.{Fate}

-- the lesser of a push, if there is one, and another
abbrev pub lesser : Option ℕ → ℕ → ℕ
lesser None push = push
lesser (Some first) push = min first push

-- the least push of a turn, with one point more, and that of all these points
abbrev pub with_point : ℕ → Option ℕ → CrashPoint → Option ℕ
with_point turn first c = if c.turn == turn then Some (lesser first c.push) else first

abbrev pub first_push : ℕ → List CrashPoint → Option ℕ
first_push turn points = fold (with_point turn) None points

-- the push is this one
abbrev pub is_push_now : ℕ → Option ℕ → Bool
is_push_now now None = false
is_push_now now (Some push) = push == now

-- what is kept is that push of this turn, and it is still to come
pub record IsTimely (fate : Fate) (turn : ℕ) : Type 0 where
  pub crash : fate.crash ≡ first_push turn fate.crashes
  pub ahead : (push : ℕ) → fate.crash ≡ Some push → fate.pushes ≤ push

-- the fate as a turn begins, and as a view does
abbrev pub turned : Fate → ℕ → Fate
turned fate turn = record fate { pushes = 0; crash = first_push turn fate.crashes }

abbrev pub renewed : Fate → Fate
renewed fate = record fate { waits = begun fate.waits.limit }

-- one of the acts that come up most: only a member in its view does it, and stays there
abbrev pub is_of_view : Act → Bool
is_of_view (acts.Receive s) = true
is_of_view acts.Send = true
is_of_view acts.Null = true
is_of_view acts.Deliver = true
is_of_view acts.Publish = true
is_of_view acts.Report = true
is_of_view a = false
