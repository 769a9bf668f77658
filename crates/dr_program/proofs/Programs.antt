-- Programs of members, and the turns by which they go on.
use Rattle.std.{specs.List.{range_with_len, filter}, proofs.lemmas.List.Elements.{filter-append, All-drop, All-take}}
use Rattle.std.specs.Prelude.{unwrap_or, Option, All, replicate, slice_index_or, None, Some}
use Rattle.std.proofs.Common.{◌≡◌, ℕ, ◌+◌, List, [], ◌∷◌, length, refl, arith, ◌++◌, ap, ◌∙◌, Bool, not, ◌<◌, false, slice_index, cond, sym, true, append-nil, subst, ◌/◌, ◌^◌, zero, suc, inl, inr, ◌≤◌, map}
use Rattle.std.proofs.{Math.Seq.{drop-append_seam, take-append_seam}, lemmas.List.get_or_past}
use Rattle.dr_entry.specs.declared.end.{End.{End, TheVariants.Done}, MemberEnd.MemberEnd, ViewSent.ViewSent}
use Rattle.dr_entry.{specs.declared.entry.Entry.{Entry, TheVariants.View}, proofs.BoolFacts.not_so}
use Rattle.dr_entry.proofs.{ListFacts.count_more, ListPlaces.passes, NumberFacts.below_some}
use Rattle.dr_machine.specs.{Group.{Group, banks}, World.World, declared.step.Step.Step}
use Rattle.dr_machine.specs.declared.step.Step.TheVariants.{Append, LogVote}
use Rattle.dr_machine.specs.declared.step.Step.TheVariants as steps
use Rattle.dr_program.specs.Presence.{present_at}
use Rattle.dr_program.specs.Program.{sent_before, member_end, IsSetup, after_deed, appended_as, Move, Program, ran, step_of, has_ended, AllOk, ok, IsRanFrom, end_at, comes_to}
use Rattle.dr_program.specs.{Reading.world, Replica.{LeftView, Replica}, Running.{Running, begun_running, broken_off}}
use Rattle.dr_program.specs.{Schedule.{next_state, AreChosen, going, choice_of, TakesTurn}, Steps.IsAppend}
use Rattle.dr_program.specs.declared.{outcome.{LogWhy.LogWhy, Outcome.{Outcome, TheVariants.Ok}}, setup.Setup.Setup}
use Rattle.dr_program.proofs.{RunningPrograms.IsFresh, Schedules.IsChoice}
use Rattle.dr_program.specs.declared.outcome.Outcome.TheVariants as outcomes

-- there is a list of what was put for each view that was left, and for one view more there is one more
pub sent_before_long : (v : ℕ) (ls : List LeftView) → length (sent_before v ls) ≡ length ls
sent_before_long v [] = refl
sent_before_long v (l ∷ ls) = omega (arith, sent_before_long (v + 1) ls)

pub sent_before_more : (v : ℕ) (ls : List LeftView) (l : LeftView) → sent_before v (ls ++ l ∷ []) ≡ sent_before v ls
    ++ record { number = v + length ls; items = l.sent } ∷ []
sent_before_more v [] l = ap (λ (n : ℕ). record { number = n; items = l.sent } ∷ []) (omega arith)
sent_before_more v (k ∷ ls) l = ap (λ (x : List ViewSent). record { number = v; items = k.sent } ∷ x)
    (sent_before_more (v + 1) ls l) ∙ ap (λ (n : ℕ). record { number = v; items = k.sent }
    ∷ (sent_before (v + 1) ls ++ record { number = n; items = l.sent } ∷ [])) (omega arith)

-- a member's end is told by its parts
pub end_told : (r : Replica) (end : End) (sent : List ViewSent) (history : List Entry) → end ≡ unwrap_or r.end Done
    → sent ≡ sent_before 0 r.left ++ record { number = r.view; items = r.sent } ∷ [] → history ≡ r.history → record {
      end = end;
      turns = r.turns;
      sent = sent;
      history = history;
      logged = r.logged;
      durable = r.durable;
    } ≡ member_end r
end_told r end sent history how what which = cc

-- the same setup with another limit of turns, of which a replica knows nothing
pub with_one_turn : (g : Group) (limit m : ℕ) (s : Setup) → IsSetup g limit m s
    → IsSetup g 1 m (record s { turns = 1 })
with_one_turn g limit m s is = record {
  present = is.present;
  members = is.members;
  window = is.window;
  banks = is.banks;
  me = is.me;
  age = is.age;
  view = is.view;
  turns = refl;
  start = is.start;
  messages = is.messages;
  totals = is.totals;
  late = is.late;
}

-- an append is done by how it goes
pub after_append : (word : ℕ) (letter : Option (List Entry)) (o : Outcome) (r : Running) (s : Step)
    → IsAppend s → after_deed word letter o r s ≡ appended_as o r
after_append word letter o r Append is = refl
after_append word letter o r (LogVote v) is = refl
after_append word letter o r s is = absurd is

pub fresh : (g : Group) (limit m : ℕ) (s : Setup) → IsSetup g limit m s → IsFresh g (begun_running s)
fresh g limit m s is = record {
  history = λ z. is.start z ++ View (is.age z) 0 (is.view z) ∷ [];
  logged = refl;
  votes = refl;
  none = refl;
}

-- the state of the generator after so many choices
unfoldable pub state_after : ℕ → List Move → ℕ
state_after x [] = x
state_after x (e ∷ es) = state_after (next_state x) es

pub state_more : (x : ℕ) (es : List Move) (e : Move) → state_after x (es ++ e ∷ []) ≡ next_state (state_after x es)
unfolding state_after
state_more x [] e = refl
state_more x (k ∷ ks) e = state_more (next_state x) ks e

pub chosen_more : (x : ℕ) (p : Program) (es : List Move) (e : Move) → AreChosen x p es
    → IsChoice (state_after x es) (ran p es) e.member → AreChosen x p (es ++ e ∷ [])
unfolding state_after ran
chosen_more x p [] e are next = (next.some, next.choice, tt)
chosen_more x p (k ∷ ks) e are next = (are.0, are.1, chosen_more (next_state x) (step_of p k) ks e are.2 next)

-- member m goes on
abbrev pub goes : Program → ℕ → Bool
goes p m = not (has_ended (present_at p.members m))

-- whoever is chosen has not ended
chosen_goes : (p : Program) (j : ℕ) → j < length (going p)
    → has_ended (present_at p.members (slice_index (going p) j)) ≡ false
chosen_goes p j within = not_so _ (passes (goes p) (range_with_len 0 (length p.members)) j within)

-- the list of them, as it is made
going_more : (p : Program) (m : ℕ) → filter (goes p) (range_with_len 0 (m + 1))
    ≡ filter (goes p) (range_with_len 0 m) ++ cond (goes p m) (m ∷ []) []
going_more p m = ap (filter (goes p)) (count_more m) ∙ filter-append (goes p) (range_with_len 0 m) (m ∷ [])

-- a member that has not ended is found behind those before it
pub found_one : (p : Program) (m : ℕ) (xs ys : List ℕ) → xs ≡ filter (goes p) (range_with_len 0 m)
    → has_ended (present_at p.members m) ≡ false → ys ≡ xs ++ m ∷ [] → ys ≡ filter (goes p) (range_with_len 0 (m + 1))
found_one p m xs ys found going more = more ∙ ap (λ zs. zs ++ m ∷ []) found
    ∙ sym (going_more p m ∙ ap (λ b. filter (goes p) (range_with_len 0 m) ++ cond (not b) (m ∷ []) []) going)

-- a member that has ended is not found
pub found_none : (p : Program) (m : ℕ) (xs : List ℕ) → xs ≡ filter (goes p) (range_with_len 0 m)
    → has_ended (present_at p.members m) ≡ true → xs ≡ filter (goes p) (range_with_len 0 (m + 1))
found_none p m xs found ended = found ∙ sym (append-nil (filter (goes p) (range_with_len 0 m)))
    ∙ sym (going_more p m ∙ ap (λ b. filter (goes p) (range_with_len 0 m) ++ cond (not b) (m ∷ []) []) ended)

-- the place of the choice in the list of who goes on, and the member there
pub record IsPicked (x : ℕ) (p : Program) (j m : ℕ) : Type 0 where
  pub within : j < length (going p)
  pub choice : IsChoice x p m
  pub place : m ≡ slice_index (going p) j
  pub goes : has_ended (present_at p.members m) ≡ false

-- a member among those that go on is picked by the next state
pub picked : (x : ℕ) (p : Program) (xs ys : List ℕ) (n j : ℕ) → xs ≡ going p → ys ≡ xs → n
    ≡ length xs → 0 < n → j ≡ choice_of (next_state x) n → IsPicked x p j (slice_index ys j)
picked x p xs ys n j listed same counted left chosen = record {
  within = subst (λ k. k < length (going p)) (sym place) (below_some (next_state x / 2 ^ 33) (length (going p)) some);
  choice = record { some = some; choice = (λ z. slice_index ((same ∙ listed) z) (place z)) };
  place = ap (λ zs. slice_index zs j) (same ∙ listed);
  goes = subst (λ m. has_ended (present_at p.members m) ≡ false) (sym (ap (λ zs. slice_index zs j) (same ∙ listed)))
      (chosen_goes p j (subst (λ k. k < length (going p)) (sym place)
      (below_some (next_state x / 2 ^ 33) (length (going p)) some)));
}
  where
    count : n ≡ length (going p)
    count = counted ∙ ap length listed

    some : 0 < length (going p)
    some = subst (λ k. 0 < k) (counted ∙ ap length listed) left

    place : j ≡ choice_of (next_state x) (length (going p))
    place = chosen ∙ ap (choice_of (next_state x)) (counted ∙ ap length listed)

pub one_ok : (e : Move) → e.outcome ≡ Ok → AllOk (e ∷ [])
one_ok e h zero d within = h
one_ok e h (suc k) d within = absurd (omega (arith, within))

pub front_ok : (es fs : List Move) → AllOk (es ++ fs) → AllOk es
front_ok [] fs well k d within = absurd (omega (arith, within))
front_ok (e ∷ es) fs well zero d within = well 0 d (omega arith)
front_ok (e ∷ es) fs well (suc k) d within =
    front_ok es fs (λ j c there. well (suc j) c (omega (arith, there))) k d (omega (arith, within))

pub back_ok : (es fs : List Move) → AllOk (es ++ fs) → AllOk fs
back_ok [] fs well = well
back_ok (e ∷ es) fs well = back_ok es fs (λ j c there. well (suc j) c (omega (arith, there)))

-- so many moves of one member, whose appends go well, are told by their number
pub own_moves : (m : ℕ) (es : List Move) → All (λ (e : Move). e.member ≡ m) es → AllOk es
    → es ≡ replicate (length es) (ok m)
own_moves m [] own well = refl
own_moves m (e ∷ es) own well =
    let first : e ≡ ok m = λ z. record { member = own 0 e (omega arith) z; outcome = well 0 e (omega arith) z } in
    ap (λ (x : Move). x ∷ es) first ∙ ap (λ xs. ok m ∷ xs)
    (own_moves m es (λ k d within. own (suc k) d (omega arith)) (λ k d within. well (suc k) d (omega arith)))

pub ran_one : (q : Program) (e : Move) → ran q (e ∷ []) ≡ step_of q e
unfolding ran
ran_one q e = refl

-- no moves leave a program as it is
pub ran_none : (p : Program) → p ≡ ran p []
unfolding ran
ran_none p = refl

pub one : (P : Move → Type 0) (e : Move) → P e → All P (e ∷ [])
one P e h = by
  where
    by : (k : ℕ) (d : Move) → k < 1 → P (slice_index_or (e ∷ []) k d)
    by zero d within = h
    by (suc k) d within = absurd (omega arith)

-- where a turn leads to
pub took_turn : (m : ℕ) (p q : Program) (turn : List Move) → TakesTurn m p turn q → q ≡ ran p turn
took_turn m p q turn (inl (ended, none, same)) = same ∙ ran_none p ∙ ap (ran p) (sym none)
took_turn m p q turn (inr (going, is)) = is.taken

-- no deeds
pub none_ran : (begun p : Program) → p ≡ begun → IsRanFrom begun p
unfolding ran
none_ran begun p same = ([], same)

pub place_past : {X : Type 0} (xs : List (Option X)) (m : ℕ) → length xs ≤ m → present_at xs m ≡ None
place_past xs m past = get_or_past xs m None past

-- the ends of the members
abbrev pub ends_of : Program → List MemberEnd
ends_of p = map end_at p.members

-- the worlds that programs are
abbrev pub worlds : Group → List Program → List World
worlds g programs = map (world g) programs

pub still : (p q : Program) (es : List Move) → es ≡ [] → q ≡ p → q ≡ ran p es
unfolding ran
still p q es none same = rw none same

-- breaks its member off, and is no step of the machine
pub fails : (word : ℕ) (letter : Option (List Entry)) (why : LogWhy) (r : Running) (s : Step) → IsAppend s
    → (after_deed word letter (outcomes.Failed why) r s ≡ broken_off why r)
    × (comes_to letter (Some s) (outcomes.Failed why) ≡ None)
fails word letter why r steps.Append is = (refl, refl)
fails word letter why r (steps.LogVote v) is = (refl, refl)
fails word letter why r s is = absurd is

-- a move of m whose append goes well
pub is_move : (e : Move) (m : ℕ) → e.member ≡ m → e.outcome ≡ outcomes.Ok → e ≡ ok m
is_move e m own well = λ z. record { member = own z; outcome = well z }

-- where all appends go well, so do those of the first moves, and those of the others
pub ok_parts : (first rest : List Move) → AllOk (first ++ rest) → AllOk first × AllOk rest
ok_parts first rest well = (
  subst AllOk (take-append_seam first rest)
      (All-take (λ (e : Move). e.outcome ≡ outcomes.Ok) (length first) (first ++ rest) well),
  subst AllOk (drop-append_seam first rest)
      (All-drop (λ (e : Move). e.outcome ≡ outcomes.Ok) (length first) (first ++ rest) well),
)

-- how a move goes
abbrev pub move_by : ℕ → Outcome → Move
move_by m o = record { member = m; outcome = o }
