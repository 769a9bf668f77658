-- A take: where it finds a letter the member joins, and else its turn ends. It then has fewer deeds left.
use Rattle.std.{specs.Prelude.{List, Option, Some, None}, proofs.Common.{◌≡◌, refl, ◌-◌, ◌<◌, inl, arith}}
use Rattle.dr_entry.specs.declared.entry.Entry.{Entry}
use Rattle.dr_words.proofs.Order.{Grown_refl}
use Rattle.dr_suspect.proofs.Waiting.{begun_waits}
use Rattle.dr_program.specs.{Form.{HasForm, IsRunningMember}, Replica.joined}
use Rattle.dr_program.specs.Running.{Running, asks, columns, members, settled, took_letter, AsksForLetter}
use Rattle.dr_program.proofs.{Fixed.{join_told, of_told}, Order.ends_in, Replicas.IsTaking, StepsAt.taking}
use Rattle.dr_turn.specs.{Search.IsUnderway, Work.{HasGrownTo, IsAfterDeed, IsStill, LeadsOn, deeds_left, work}}
use Rattle.dr_turn.proofs.{Deeds.{lower, settled_done}, Fewer.fewer_here, Order.left_take, Search.settled_running}
use Rattle.dr_turn.proofs.Tasks.{joined_less}

-- ---- what it leads to

-- it is underway behind its take
took_underway : (letter : Option (List Entry)) (r : Running) → IsRunningMember r → IsTaking r
    → HasForm (took_letter letter r).replica → IsUnderway (took_letter letter r)
took_underway None r m t form = record {
  replica = form;
  place = ends_in (members r) (columns r);
  turns = m.turns;
  waits = m.waits;
  free = inl t.idle;
  left = λ none begins. absurd (cc begins);
}
took_underway (Some letter) r m t form = record {
  replica = form;
  place = ends_in (members r) (columns r);
  turns = m.turns;
  waits = begun_waits r.waits.limit;
  free = inl t.idle;
  left = λ none begins. absurd (cc begins);
}

-- with fewer deeds left
took_fewer : (letter : Option (List Entry)) (r : Running) → IsRunningMember r → r.replica.end ≡ None → IsTaking r
    → LeadsOn letter → deeds_left (took_letter letter r) < deeds_left r
took_fewer None r m none t later = lower r (took_letter None r) none refl
    (fewer_here (r.limit - r.replica.turns) _ _ _ (work r.replica) (work r.replica) _
    (omega (arith, left_take (members r) (columns r) r.place m.place t.at)))
took_fewer (Some letter) r m none t later = lower r (took_letter (Some letter) r) none refl
    (fewer_here (r.limit - r.replica.turns) _ _ _ (work r.replica) (work (joined r.replica letter)) _ (omega (
      arith,
      left_take (members r) (columns r) r.place m.place t.at,
      joined_less r.replica letter m.replica (omega (arith, t.first, later)),
    )))

-- no word of it has fallen in its view
took_grown : (letter : Option (List Entry)) (r : Running) → IsTaking r → LeadsOn letter
    → HasGrownTo r (took_letter letter r)
took_grown None r t later same = Grown_refl r.replica.roster r.replica.rows.words r.replica.rows.frozen
took_grown (Some letter) r t later same = absurd (omega (arith, t.first, later, same))

took_still : (letter : Option (List Entry)) (r : Running) → IsStill r (took_letter letter r)
took_still None r g m is = is
took_still (Some letter) r g m is = of_told g m r.replica (joined r.replica letter) (join_told r.replica letter) is

-- ---- the take as a deed

-- a running member stays one over its take
pub takes_keep_form : (letter : Option (List Entry)) (r : Running) → IsRunningMember r → AsksForLetter r
    → HasForm (took_letter letter r).replica → IsRunningMember (settled (took_letter letter r))
takes_keep_form letter r m asks form =
    settled_running (took_letter letter r) (took_underway letter r m (taking r m asks) form)

-- and has fewer deeds left
pub takes_done : (letter : Option (List Entry)) (r : Running) → IsRunningMember r → AsksForLetter r
    → HasForm (took_letter letter r).replica → LeadsOn letter → IsAfterDeed r (settled (took_letter letter r))
takes_done letter r m asks form later = let t = taking r m asks in
    settled_done r (took_letter letter r) (record {
      underway = took_underway letter r m t form;
      grown = took_grown letter r t later;
      fewer = took_fewer letter r m asks.unended t later;
      still = took_still letter r;
    })
