-- The answers of two halves are the answer of both.
use Rattle.std.specs.Prelude.{None, Option, Result, Ok, Err, Vec, is_some, option_map}
use Rattle.std.specs.declared.alloc.{AllocError.AllocError, Global.Global}
use Rattle.std.proofs.Common.{◌≡◌, refl, sym, ap, ◌∙◌, subst, inl, inr, ℕ, ◌+◌, List, ◌++◌, ◌-◌, length, length-take, map, min, take, drop, le_refl}
use Rattle.std.proofs.lemmas.{List.{get_or-drop, length-drop, map-append}, Option.same_Some}
use Rattle.dr_entry.proofs.OptionFacts.{some_there}
use Rattle.dr_disk.{specs.Disk.Told, proofs.Moments.lasts_still}
use Rattle.dr_log.{specs.{Standing.LosesNone, State.LogState}, proofs.Ordinary.has_itself}
use Rattle.dr_served.{specs.Served.{HaveSamePlaces, HaveServed}, proofs.{Served.places_behind, Serving.has_base}}
use Rattle.dr_program.specs.{Presence.present_at, Running.Running}
use Rattle.dr_program.proofs.Present.{pairs, triples, at_first, filled_first}
use Rattle.dr_table.specs.{Cards.{AreAtEnd, Cards, DealtTable}, Rule.number}
use Rattle.dr_table.proofs.Cards.{as_filled, as_many, ended_behind}
use Rattle.dr_threads.specs.{Answers.{IsHandAnswer, logs_of}, Course.HaveRun, Logs.{AreFor, AreLonger, IsLonger}}

-- ---- lists of one length

-- ---- answers

abbrev pub Answer : Type 0 → Type 0
Answer D = Result (Cards × Vec (Option (LogState D)) Global) (Vec (Option (LogState D)) Global × AllocError)

module _ {D : Type 0} (told : D → Option Told) (faults : D → ℕ) where
  -- both halves have run
  pub both_run : (table : DealtTable) (before after : List (Option Running)) (logs more : List (Option (LogState D)))
      (a b both : Cards) (news newer all : List (Option (LogState D))) → length logs ≡ length before
      → length more ≡ length after → both.table ≡ table → both.members ≡ a.members ++ b.members → all ≡ news
      ++ newer → HaveRun told faults table before logs a news → HaveRun told faults table after more b newer
      → HaveRun told faults table (before ++ after) (logs ++ more) both all
  both_run table before after logs more a b both news newer all m n home is to h k = record {
    over = record {
      home = home;
      same = ap (map (option_map number)) is ∙ map-append (option_map number) a.members b.members
          ∙ (λ z. h.over.same z ++ k.over.same z) ∙ sym (map-append (option_map number) before after);
      ended = subst AreAtEnd (sym is) (ended_behind a.members b.members h.over.ended k.over.ended);
    };
    places = subst (HaveSamePlaces (logs ++ more)) (sym to) (places_behind logs more news newer h.places k.places);
    served = subst (λ l. HaveServed told faults (logs ++ more) l both.members) (sym to)
        (subst (λ l. HaveServed told faults (logs ++ more) (news ++ newer) l) (sym is)
        (λ i base log r from there member.
        elim (triples logs more news newer a.members b.members i base log r (sym h.places.all)
        (m ∙ sym (as_many before a.members h.over.same)) from there member) [
          | inl first ↦ h.served i base log r first.0 first.1 first.2
          | inr second ↦ k.served second.0 base log r second.1 second.2 second.3
        ]));
  }

  -- the logs of an answer are as many
  pub as_many_logs : (table : DealtTable) (before : List (Option Running)) (logs : List (Option (LogState D)))
      (r : Answer D) → IsHandAnswer told faults table before logs r → length (logs_of r) ≡ length logs
  as_many_logs table before logs (Ok r) h = h.places.all
  as_many_logs table before logs (Err r) h = h.places.all

  -- and longer
  answer_longer : (table : DealtTable) (before : List (Option Running)) (logs : List (Option (LogState D))) (r : Answer D)
      → ((k : ℕ) → is_some (present_at logs k) ≡ is_some (present_at before k))
      → IsHandAnswer told faults table before logs r → AreLonger told faults logs (logs_of r)
  answer_longer table before logs (Err r) there h = h
  answer_longer table before logs (Ok r) there h = record {
    places = h.places;
    each = λ k old new from to.
        let (x, member) = some_there (present_at r.0.members k)
        (as_filled before r.0.members k h.over.same ∙ sym (there k) ∙ ap is_some from) in
        let come = h.served k old new x from to member in
        record {
          has = has_base told faults old new x.replica x.failed come.come;
          moments = inr come.come.moments;
          lasting = come.come.lasting;
          later = come.come.later;
        };
  }

  -- so are those of two answers
  pub both_longer : (table : DealtTable) (before after : List (Option Running))
      (logs more all : List (Option (LogState D))) (first second : Answer D) → all ≡ logs_of first ++ logs_of second
      → ((k : ℕ) → is_some (present_at logs k) ≡ is_some (present_at before k))
      → ((k : ℕ) → is_some (present_at more k) ≡ is_some (present_at after k))
      → IsHandAnswer told faults table before logs first
      → IsHandAnswer told faults table after more second → AreLonger told faults (logs ++ more) all
  both_longer table before after logs more all first second to m n h k = record {
    places = subst (HaveSamePlaces (logs ++ more)) (sym to)
        (places_behind logs more (logs_of first) (logs_of second) a.places b.places);
    each = λ i old new from there. elim (pairs logs more (logs_of first) (logs_of second) i old new
        (sym a.places.all) from (ap (λ l. present_at l i) (sym to) ∙ there)) [
          | inl left ↦ a.each i old new left.0 left.1
          | inr right ↦ b.each right.0 old new right.1 right.2
        ];
  }
    where
      a : AreLonger told faults logs (logs_of first)
      a = answer_longer table before logs first m h

      b : AreLonger told faults more (logs_of second)
      b = answer_longer table after more second n k

  -- logs as they were
  pub same_longer : (logs : List (Option (LogState D))) → AreLonger told faults logs logs
  same_longer logs = record {
    places = record { all = refl; each = λ k. refl };
    each = λ k old new from there.
        let is = same_Some old new (sym from ∙ there) in
        subst (λ x. IsLonger told faults old x) is (record {
          has = has_itself old.content;
          moments = inl refl;
          lasting = λ first. lasts_still (told old.disk) (LosesNone first);
          later = le_refl _;
        });
  }

-- ---- the two halves of logs and members

pub for_take : {D : Type 0} (n : ℕ) (logs : List (Option (LogState D))) (members : List (Option Running))
    → AreFor logs members → AreFor (take n logs) (take n members)
for_take n logs members are = record {
  all = length-take n logs ∙ ap (min n) are.all ∙ sym (length-take n members);
  there = filled_first n logs members are.all are.there;
  each = λ k log r there here. are.each k log r (at_first n logs k log there) (at_first n members k r here);
}

pub for_drop : {D : Type 0} (n : ℕ) (logs : List (Option (LogState D))) (members : List (Option Running))
    → AreFor logs members → AreFor (drop n logs) (drop n members)
for_drop n logs members are = record {
  all = length-drop n logs ∙ ap (λ m. m - n) are.all ∙ sym (length-drop n members);
  there = λ k. ap is_some (get_or-drop n logs k None) ∙ are.there (n + k)
      ∙ sym (ap is_some (get_or-drop n members k None));
  each = λ k log r there here. are.each (n + k) log r (sym (get_or-drop n logs k None) ∙ there)
      (sym (get_or-drop n members k None) ∙ here);
}
