-- What a door does by itself are steps of the doors of its group.
use Rattle.std.{specs.Prelude.{not, Some}, proofs.lemmas.{Bool.and_parts, List.set-set}}
use Rattle.std.proofs.Common.{◌≡◌, ◌∙◌, inl, refl, sym, ap, subst, ℕ, zero, suc, true, List, [], ◌∷◌, ◌++◌}
use Rattle.dr_member.specs.Deeds.{is_before_turn}
use Rattle.dr_program.specs.{Presence.{present_at, with_present}, Running.next_deed}
use Rattle.dr_program.proofs.Present.{present_set, present_within, set_itself}
use Rattle.dr_door.specs.Apart.{Apart, ApartStep, ApartWay, IsRanApart, with_door}
use Rattle.dr_door.{specs.Lone.{Leads, LeadsBy, Lone, done_alone, goes_on, is_alone}, proofs.Deeds.beat_alone}

-- so many deeds lead on
pub leads_on : (n : ℕ) (d x e : Lone) → LeadsBy n d x → Leads x e → Leads d e
leads_on zero d x e same more = subst (λ y. Leads y e) (sym same) more
leads_on (suc n) d x e by more = let on = leads_on n (done_alone d) x e by.1 more in (suc on.0, (by.0, on.1), on.2)

-- a deed that concerns nobody else
alone_step : (a : Apart) (m : ℕ) (d : Lone) → present_at a.doors m ≡ Some d
    → is_alone (next_deed d.member) ≡ true → ApartStep a (with_door a m (done_alone d))
alone_step a m d there due = inl (record { number = m; door = d; there = there; due = due; made = refl })

-- the beginning of a turn
pub turn_step : (a : Apart) (m : ℕ) (d : Lone) → present_at a.doors m ≡ Some d
    → is_before_turn d.member ≡ true → ApartStep a (with_door a m (done_alone d))
turn_step a m d there before = alone_step a m d there (beat_alone d.member before)

-- one way behind another is a way
pub ways_join : (a b c : Apart) (us vs : List Apart) → ApartWay a us b → ApartWay b vs c → ApartWay a (vs ++ us) c
ways_join a b c us [] way more = subst (ApartWay a us) (sym more) way
ways_join a b c us (v ∷ vs) way more = (ways_join a b v us vs way more.0, more.1)

-- a door that is put twice
put_twice : (a : Apart) (m : ℕ) (d e : Lone) → with_door (with_door a m d) m e ≡ with_door a m e
put_twice a m d e = λ z. record { doors = set-set a.doors m (Some d) (Some e) z; sent = a.sent; letters = a.letters }

led_to : (n : ℕ) (a : Apart) (m : ℕ) (d e : Lone) → present_at a.doors m ≡ Some d → LeadsBy n d e
    → IsRanApart a (with_door a m e)
led_to zero a m d e there same = (
  [],
  λ z. record {
    doors = (ap (with_present a.doors m) (sym same) ∙ set_itself a.doors m d there) z;
    sent = a.sent;
    letters = a.letters;
  },
)
led_to (suc n) a m d e there more =
    let x = done_alone d in
    let due = (and_parts (not (is_before_turn d.member)) (is_alone (next_deed d.member)) more.0).1 in
    let on = led_to n (with_door a m x) m x e (present_set a.doors m x (present_within a.doors m d there)) more.1 in (
      on.0 ++ a ∷ [],
      subst (ApartWay a (on.0 ++ a ∷ [])) (put_twice a m x e) (ways_join a
          (with_door a m x) (with_door (with_door a m x) m e) (a ∷ []) on.0 (refl, alone_step a m d there due) on.1),
    )

-- all that a door does by itself
pub led_steps : (a : Apart) (m : ℕ) (d e : Lone) → present_at a.doors m ≡ Some d → Leads d e
    → IsRanApart a (with_door a m e)
led_steps a m d e there led = led_to led.0 a m d e there led.1
