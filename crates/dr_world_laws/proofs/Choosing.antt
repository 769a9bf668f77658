-- Every world that is reached is reached by values: whenever somebody commits a value in a view in which
-- nobody has committed one before, nobody has left the view either, and so the value may be chosen for it,
-- as far as what came before goes.
use Rattle.std.specs.Prelude.{⊤, unwrap_or, false}
use Rattle.std.proofs.Common.{All, List, [], ◌∷◌, None, Option, Some, ap, arith, inl, inr, le_refl, refl, subst, sym, zero, ℕ, ◌+◌, ◌∙◌, ◌≡◌, ◌≢◌, ◌⊎◌}
use Rattle.std.proofs.lemmas.{Bool.cases_eq, List.Elements.{All-cons, All-head, All-nil, All-tail}, Option.none-some}
use Rattle.dr_entry.{specs.declared.record.Value.Value, proofs.{OptionFacts.some_same, Records.IsBefore}}
use Rattle.dr_history.specs.{History.last_view, Members.has}
use Rattle.dr_machine.specs.{Acts.{CanTake, Guard, effect, effect_of}, Effects.{commits as after_commit, joins}}
use Rattle.dr_machine.specs.{Events.{member_of, step_of}, Group.{Group, IsGroup}, Guards.{CanCommit, CanJoin}}
use Rattle.dr_machine.specs.{Run.{ComesNext, Way}, Votes.{IsOf, MajorityHas}, World.{World, no_value}, Writes.at}
use Rattle.dr_machine.{specs.declared.{event.Event.Event, step.Step.Step}, proofs.Events.standing_after}
use Rattle.dr_machine.proofs.Passed.{AreBefore, commit_back, finish_back, HasPassed, AreIdle, passed_or_before, others_idle}
use Rattle.dr_machine.proofs.{Runs.by_way, Writes.{at_both, at_case, at_other, at_same}}
use Rattle.dr_faithful.specs.Chosen.{AreChosen, Values, views_by}
use Rattle.dr_faithful.proofs.ChosenViews.{value_free, IsReachedSo, arrived_so, members_stay, IsReachedBy}
use Rattle.dr_vote_laws.{specs.Voting.IsChosen, proofs.{Accepting.commit_votes, Values.{chosen_once, commits}}}
use Rattle.dr_world_laws.proofs.Reached.{Known, known}

-- ---- back along a run

-- whoever joins had the first view, and had committed nothing
join_back : (g : Group) (values : Values) (w : World) (m v : ℕ) → IsGroup g → Known g values w → CanJoin g w m
    → AreBefore (joins w m) v → AreBefore w v
join_back g values w m v is y can after k = by (cases_eq k m)
  where
    to : ℕ
    to = (last_view (0, 0) (unwrap_or (w.letter m) [])).0

    out : has (views_by g values (w.past.view m)) m ≡ false
    out = ap (λ x. has x m) (sym (y.faithful.views.own m)) ∙ can.outside

    zero : w.past.view m ≡ 0
    zero = y.faithful.views.outside m out

    none : (c : Option Value) → w.committed m ≡ c → c ≡ None
    none None e = refl
    none (Some x) e = absurd (cc (y.faithful.suspicions.inside m (y.wedged m x e), out))

    by : (k ≡ m) ⊎ (k ≢ m) → IsBefore v (w.past.view k) (w.committed k)
    by (inl e) = subst (λ i. IsBefore v (w.past.view i) (w.committed i)) (sym e)
        (record { within = omega (arith, zero); none = λ same. none (w.committed m) refl })
    by (inr d) = subst (λ x. IsBefore v x (w.committed k))
        (at_other w.past.view m (last_view (0, 0) (unwrap_or (w.letter m) [])).0 k d)
        (subst (λ c. IsBefore v (at w.past.view m (last_view (0, 0) (unwrap_or (w.letter m) [])).0 k) c)
        (at_other w.committed m None k d) (after k))

-- where nobody has passed a view after a step, nobody had before
step_back : (g : Group) (values : Values) (w : World) (m : ℕ) (s : Step) (v : ℕ) → IsGroup g
    → Known g values w → CanTake g w m s → AreBefore (effect_of g w m s) v → AreBefore w v
step_back g values w m s v is y can = standing_after g w m s
    (λ x. ((k : ℕ) → IsBefore v (x.view k) (x.committed k)) → AreBefore w v) can (record {
      goes_on = λ can. finish_back g w m v;
      joins = λ can. join_back g values w m v is y can;
      chooses = λ can. commit_back g w m v can;
      wedges = λ j can before. before;
      stops = λ end alive why before. before;
      stays = λ before. before;
    })

follows_back : (g : Group) (values : Values) (us : List World) (w mid : World) (v : ℕ) → IsGroup g
    → Known g values w → ComesNext g us w mid → AreBefore mid v → AreBefore w v
follows_back g values us w mid v is y (inl (e, can, same)) b =
    step_back g values w (member_of e) (step_of e) v is y can (subst (λ u. AreBefore u v) same b)
follows_back g values us w mid v is y (inr (table, come, same)) b = subst (λ u. AreBefore u v) same b

way_free : (g : Group) (values : Values) (v : ℕ) (x : Value) (us : List World) (w : World) → IsGroup g
    → Way g us w → All (AreChosen values) us → AreBefore w v → All (AreChosen (at values v x)) us
way_free g values v x [] w is r all b = All-nil (AreChosen (at values v x))
way_free g values v x (u ∷ us) w is r all b =
    let rest = All-tail (AreChosen values) u us all in
    let here = follows_back g values us u w v is (known g values us u is r.0 rest) r.1 b in
    All-cons (AreChosen (at values v x)) u us (value_free u values v x here (All-head (AreChosen values) u us all))
    (way_free g values v x us u is r.0 rest here)

reached_free : (g : Group) (values : Values) (us : List World) (w : World) (v : ℕ) (x : Value)
    → IsGroup g → AreBefore w v → IsReachedBy g values us w → IsReachedBy g (at values v x) us w
reached_free g values us w v x is before r = record {
  way = r.way;
  before = way_free g values v x us w is r.way r.before before;
  now = value_free w values v x before r.now;
}

-- ---- which value is chosen

-- a value that more than half of a view has voted for is the chosen one, where somebody has passed the view
chosen_same : (g : Group) (values : Values) (w : World) (v b k : ℕ) (x : Value) → Known g values w
    → AreChosen values w → IsChosen (views_by g values) w.past.votes v b x → HasPassed w v k → x ≡ values v
chosen_same g values w v b k x y chosen voted passed = by passed
  where
    same : (z : Value) → (c : ℕ) × IsChosen (views_by g values) w.past.votes v c z → x ≡ z
    same z t = chosen_once g (views_by g values) w v b t.0 x z y.voting voted t.1

    by : HasPassed w v k → x ≡ values v
    by (inl l) = same (values v) (y.ballots k v l)
    by (inr (here, z, e)) =
        let t = commits g (views_by g values) w k z y.voting e in
        same z (t.0, subst (λ u. IsChosen (views_by g values) w.past.votes u t.0 z) here t.1)
        ∙ chosen k z e ∙ ap values here

-- so is the value that a member commits
commits_same : (g : Group) (values : Values) (w : World) (m k : ℕ) → Known g values w → AreChosen values w
    → CanCommit g w m → HasPassed w (w.past.view m) k → w.value m ≡ values (w.past.view m)
commits_same g values w m k y chosen can passed =
    let t = commits g (views_by g values) (after_commit w m) m (w.value m)
    (commit_votes g (views_by g values) w m can y.faithful y.voting) (at_same w.committed m (Some (w.value m))) in
    chosen_same g values w (w.past.view m) t.0 k (w.value m) y chosen t.1 passed

-- there are values by which a world is reached, and by which its next step goes
choose : (g : Group) (values : Values) (us : List World) (w : World) (m : ℕ) (s : Step) → IsGroup g
    → AreIdle g w → IsReachedBy g values us w → CanTake g w m s
    → (more : Values) × IsReachedBy g more us w × AreChosen more (effect_of g w m s)
choose g values us w m s is idle r can = standing_after g w m s (λ x. (more : Values) × IsReachedBy g more us w
    × ((k : ℕ) (y : Value) → x.committed k ≡ Some y → y ≡ more (x.view k))) can (record {
      goes_on = λ can. (
        values,
        r,
        at_both (λ k v (c : Option Value). (y : Value) → c ≡ Some y → y ≡ values v) w.past.view w.committed m
            (w.past.view m + 1) None r.now (λ y e. absurd (none-some y e)),
      );
      joins = λ can. (
        values,
        r,
        at_both (λ k v (c : Option Value). (y : Value) → c ≡ Some y → y ≡ values v) w.past.view w.committed m
            (last_view (0, 0) (unwrap_or (w.letter m) [])).0 None r.now (λ y e. absurd (none-some y e)),
      );
      chooses = λ can. by can (passed_or_before g w (w.past.view m) idle);
      wedges = λ j can. (values, r, r.now);
      stops = λ end alive why. (values, r, r.now);
      stays = (values, r, r.now);
    })
  where
    commit : (more : Values) → AreChosen more w → w.value m ≡ more (w.past.view m) → AreChosen more (after_commit w m)
    commit more now so = at_case (λ k (c : Option Value). (y : Value) → c ≡ Some y → y ≡ more (w.past.view k))
        w.committed m (Some (w.value m)) (λ k d. now k) (λ y e. sym (some_same (w.value m) y e) ∙ so)

    by : CanCommit g w m → ((k : ℕ) × HasPassed w (w.past.view m) k) ⊎ AreBefore w (w.past.view m)
        → (more : Values) × IsReachedBy g more us w × AreChosen more (after_commit w m)
    by can (inl t) = (
      values,
      r,
      commit values r.now (commits_same g values w m t.0 (known g values us w is r.way r.before) r.now can t.1),
    )
    by can (inr before) =
        let more : Values = at values (w.past.view m) (w.value m) in
        let free = reached_free g values us w (w.past.view m) (w.value m) is before r in
        (more, free, commit more free.now (sym (at_same values (w.past.view m) (w.value m))))

-- the values of no view
abbrev no_values : Values
no_values v = no_value

step_so : (g : Group) (us : List World) (w : World) (e : Event) → IsGroup g → Guard g w e
    → IsReachedSo g us w → IsReachedSo g (w ∷ us) (effect g w e)
step_so g us w e is can (r, idle) =
    let t = choose g r.0 us w (member_of e) (step_of e) is idle r.1 can in (
      (
        t.0,
        record {
          way = (t.1.way, inl (e, can, refl));
          before = All-cons (AreChosen t.0) w us t.1.now t.1.before;
          now = t.2;
        },
      ),
      others_idle g w (member_of e) (step_of e) is can idle,
    )

pub reached_so : (g : Group) (us : List World) (w : World) → IsGroup g → Way g us w → IsReachedSo g us w
reached_so g us w is r = by_way g (λ u. ⊤) (IsReachedSo g) (λ us u e run all can y. step_so g us u e is can y)
    (λ us u table run all come y. arrived_so g us u table come y) (
      (
        no_values,
        record { way = refl; before = All-nil (AreChosen no_values); now = λ m x e. absurd (none-some x e) },
      ),
      λ k l. (refl, refl),
    ) us w r (λ k d l. tt)

pub reached_by : (g : Group) (us : List World) (w : World) → IsGroup g → Way g us w
    → (values : Values) × IsReachedBy g values us w
reached_by g us w is r = (reached_so g us w is r).0

-- ---- a value that is voted for

pub nobody_else : (g : Group) (us : List World) (w : World) → IsGroup g → Way g us w → AreIdle g w
nobody_else g us w is r = (reached_so g us w is r).1

-- a world in which more than half of a view has voted for a value is reached by values of which it is one
pub voted_by : (g : Group) (values : Values) (us : List World) (w : World) (v b : ℕ) (x : Value) → IsGroup g
    → IsReachedBy g values us w → IsChosen (views_by g values) w.past.votes v b x
    → (more : Values) × IsReachedBy g more us w × (more v ≡ x) × IsChosen (views_by g more) w.past.votes v b (more v)
voted_by g values us w v b x is r voted = by (passed_or_before g w v (nobody_else g us w is r.way))
  where
    by : ((k : ℕ) × HasPassed w v k) ⊎ AreBefore w v → (more : Values) × IsReachedBy g more us w × (more v ≡ x)
        × IsChosen (views_by g more) w.past.votes v b (more v)
    by (inl t) =
        let same : x ≡ values v = chosen_same g values w v b t.0 x (known g values us w is r.way r.before) r.now voted t.1
        in (values, r, sym same, subst (λ y. IsChosen (views_by g values) w.past.votes v b y) same voted)
    by (inr before) = (
      at values v x,
      reached_free g values us w v x is before r,
      at_same values v x,
      subst (λ y. IsChosen (views_by g (at values v x)) w.past.votes v b y) (sym (at_same values v x))
          (subst (λ mask. MajorityHas w.past.votes mask (λ z. IsOf z v b × (z.value ≡ x)))
          (sym (members_stay g values v x v (le_refl v))) voted),
    )
