-- What is known of a world, told by the members of views as the histories have them.
use Rattle.std.proofs.Common.{List, [], ◌∷◌, ◌++◌, Contains, ap, arith, inl, inr, subst, sym, true, Some, ℕ, ◌+◌, ◌<◌, ◌∙◌, ◌≡◌, ◌≤◌, ◌⊎◌}
use Rattle.std.proofs.lemmas.Bool.{cases_lt}
use Rattle.dr_entry.specs.{declared.entry.Entry.{Entry, TheVariants.View}, declared.record.{Value.Value, Vote.Vote}}
use Rattle.dr_history.specs.{History.IsPrefixOf, Members.has}
use Rattle.dr_history_laws.proofs.{Courses.course-head, Heads.{course_views, head-last}}
use Rattle.dr_words.specs.{Masks.next_members, Rewrites.is_accept_of}
use Rattle.dr_machine.specs.{Group.{Group, IsGroup, roster}, Run.WasOwn, Votes.{HasLogged, IsOf, MajorityHas}}
use Rattle.dr_machine.specs.World.{World}
use Rattle.dr_faithful.specs.{Chosen.{endings_by, views_by}, Faithful.Faithful, Tells.{Tells, Views, WordsTell}}
use Rattle.dr_faithful.proofs.{ChosenViews.{views-come, IsLetter}, Faithfulness.unseen}
use Rattle.dr_faithful.proofs.Pasts.{tells_nothing, tells_by}
use Rattle.dr_vote_laws.{specs.Moments.{AcceptsOfMoments, HadAccepted}, proofs.Values.{majority_stays, vote_is}}
use Rattle.dr_vote_laws.specs.{Tells.{TellsVote, VotesTold}, Voting.{HaveVotedFor, IsCut}}
use Rattle.dr_vote_laws.proofs.{Ballots.{cut-changes, voted-cut as changed-cut, voted_come}, Cuts.vote_cut}
use Rattle.dr_vote_laws.proofs.Opening as opening
use Rattle.dr_world_laws.{specs.{Historic.head_by, Letters.IsHeadFor}, proofs.Choosing.{nobody_else, voted_by}}
use Rattle.dr_world_laws.{specs.Views.{AreViews, HasView, IsCovered}, proofs.Worlds.{Known, accepts_so, known_late}}
use Rattle.dr_world_laws.proofs.{HeldViews.view-is, Holding.{head-later, reaches, view-behind, view-held, view-there}}
use Rattle.dr_world_laws.proofs.Covering as covering
use Rattle.dr_world_laws.proofs.Reached as worlds

-- ---- views

-- the View of each view that a member has come to stands in a history
pub has-view : (g : Group) (w : World) (i v : ℕ) → IsGroup g → (y : Known g w) → v ≤ w.past.view i
    → HasView g w v (views_by g y.values v)
has-view g w i v is y come = by (cases_lt i (roster g))
  where
    by : (i < roster g) ⊎ (roster g ≤ i) → HasView g w v (views_by g y.values v)
    by (inl l) = (i, l, view-there g y.values w i v y.chosen.laid.historic l come)
    by (inr beyond) =
        let first = (nobody_else g y.run.0 w is y.run.1 i beyond).0 in (
          0,
          is.some_member,
          view-there g y.values w 0 v y.chosen.laid.historic is.some_member (omega (arith, first, come)),
        )

pub view-once : (g : Group) (w : World) (v one other : ℕ) → IsGroup g → Known g w → HasView g w v one
    → HasView g w v other → one ≡ other
view-once g w v one other is y h k =
    sym (view-is g y.values w v one is y.chosen h) ∙ view-is g y.values w v other is y.chosen k

-- a letter is the head of the first view that its member is in, and the welcomer gave it
pub head-for : (g : Group) (w : World) (j : ℕ) (l : List Entry) → IsGroup g → Known g w
    → w.letter j ≡ Some l → IsHeadFor g w j l
head-for g w j l is y e = record {
  giver = t.giver;
  within = t.within;
  delivered = subst (λ es. IsPrefixOf es (w.past.history t.giver)) (sym t.is)
      (reaches g y.values w t.giver t.view y.chosen.laid.historic t.within t.come);
  before = h.0;
  view = t.view;
  members = views_by g y.values t.view;
  is = t.is ∙ h.1;
  member = t.member;
  first = λ v others c there.
      let held = course_views g.opening w.past.sent (endings_by g.opening y.values) t.view 0 v others is.sound
      (subst (λ es. Contains es (View g.opening.age v others))
      (t.is ∙ sym (course-head g.opening w.past.sent (endings_by g.opening y.values) t.view)) c) in
      by v (ap (λ k. has k j) held.1 ∙ there) held.0 (cases_lt v t.view);
  from = t.from;
  next = t.next;
  earlier = views_by g y.values t.from;
  came = view-behind g y.values w t.from l (subst (IsPrefixOf (head_by g y.values w t.from)) (sym t.is)
      (head-later g y.values w t.from t.view (omega (arith, t.next))));
  welcomer = record { was = t.was; stays = t.stays; least = t.least };
  gave = (y.chosen.letters.letters j l e).1;
}
  where
    t : IsLetter g y.values w.past j l
    t = (y.chosen.letters.letters j l e).0

    h : (before : List Entry) × (head_by g y.values w t.view
        ≡ before ++ View g.opening.age t.view (views_by g y.values t.view) ∷ [])
    h = head-last g.opening w.past.sent (endings_by g.opening y.values) t.view

    by : (v : ℕ) → has (views_by g y.values v) j ≡ true → v ≤ t.view → (v < t.view) ⊎ (t.view ≤ v) → v ≡ t.view
    by v there low (inl less) = absurd (cc (there, t.new v less))
    by v there low (inr high) = omega (arith, low, high)

-- a member that was in the view that it came from was in the one of the number before, of which its history
-- has the View
pub came-before : (g : Group) (w : World) (m : ℕ) → IsGroup g → Known g w → has (w.came_from m) m ≡ true
    → (v : ℕ) × (w.past.view m ≡ v + 1) × Contains (w.past.history m) (View g.opening.age v (w.came_from m))
came-before g w m is y e =
    let f = y.chosen.faithful in
    let t = f.views.came m e in
    let l = f.views.within t.0 m (ap (λ k. has k m) (sym t.2) ∙ e) in (
      t.0,
      t.1,
      subst (λ k. Contains (w.past.history m) (View g.opening.age t.0 k)) (sym t.2)
          (view-there g y.values w m t.0 y.chosen.laid.historic l (omega (arith, t.1))),
    )

-- and who was in that one came from it
pub came-back : (g : Group) (w : World) (m v members : ℕ) → IsGroup g → Known g w → w.past.view m ≡ v + 1
    → HasView g w v members → has members m ≡ true → w.came_from m ≡ members
came-back g w m v members is y next h there =
    let same = view-is g y.values w v members is y.chosen h in
    y.chosen.faithful.views.back m v next (ap (λ k. has k m) same ∙ there) ∙ same

-- the members of the present view of a member
pub has-present : (g : Group) (w : World) (m : ℕ) → IsGroup g → Known g w → HasView g w (w.past.view m) (w.members m)
has-present g w m is y = subst (HasView g w (w.past.view m)) (sym (y.chosen.faithful.views.own m))
    (has-view g w m (w.past.view m) is y (omega arith))

-- a view that another one follows ended by votes
pub view-ended : (g : Group) (w : World) (v members next : ℕ) → IsGroup g → Known g w
    → HasView g w v members → HasView g w (v + 1) next
    → (b : ℕ) × (x : Value) × HaveVotedFor w.past.votes members v b x × (next ≡ next_members members x.leavers)
view-ended g w v members next is y h k =
    let same = view-is g y.values w v members is y.chosen h in
    let after = view-held g y.values w k.0 (v + 1) next is y.chosen.laid.historic k.1 k.2 in
    let t = y.chosen.ballots k.0 v (omega (arith, after.0)) in (
      t.0,
      y.values v,
      subst (λ mask. MajorityHas w.past.votes mask (λ z. IsOf z v t.0 × (z.value ≡ y.values v))) same t.1,
      sym after.1 ∙ views-come g y.values v is (cut-changes g y.values w.past.own v
          (changed-cut g y.values w v t.0 y.chosen.voting t.1))
          ∙ ap (λ mask. next_members mask (y.values v).leavers) same,
    )

-- ---- votes

pub majority-kept : (g : Group) (w : World) (i j members : ℕ) (x z : Vote) → IsGroup g → Known g w
    → HasView g w x.view members → HasLogged w.past.votes i x → HasLogged w.past.votes j z
    → MajorityHas w.past.votes members (λ a. IsOf a x.view x.ballot)
    → z.view ≡ x.view → x.ballot ≤ z.ballot → z.value ≡ x.value
majority-kept g w i j members x z is y held h k most view above =
    majority_stays g (views_by g y.values) w i j x z y.chosen.voting h k
    (subst (λ mask. MajorityHas w.past.votes mask (λ a. IsOf a x.view x.ballot))
    (sym (view-is g y.values w x.view members is y.chosen held)) most) view above

pub voted-cut : (g : Group) (w : World) (i : ℕ) (x : Vote) → IsGroup g → Known g w → HasLogged w.past.votes i x
    → (V : Views) × AreViews g w V × HasView g w x.view (V x.view) × IsCut g.opening V w.past.own x.view x.value
voted-cut g w i x is y h = (
  views_by g y.values,
  λ v members. view-is g y.values w v members is y.chosen,
  has-view g w i x.view is y (voted_come g (views_by g y.values) w i x.view x.ballot x.value y.chosen.faithful
      y.chosen.voting (vote_is g (views_by g y.values) w i x y.chosen.voting h)),
  vote_cut g (views_by g y.values) w i x y.chosen.voting h,
)

-- what more than half of a view have voted for covers what is delivered in it
pub voted-covered : (g : Group) (w : World) (v b members : ℕ) (x : Value) → IsGroup g → Known g w
    → HasView g w v members → HaveVotedFor w.past.votes members v b x → IsCovered g w v members x
voted-covered g w v b members x is y h voted =
    let t = voted_by g y.values y.run.0 w v b x is y.by
    (subst (λ mask. MajorityHas w.past.votes mask (λ z. IsOf z v b × (z.value ≡ x)))
    (sym (view-is g y.values w v members is y.chosen h)) voted) in
    let k = worlds.known g t.0 y.run.0 w is t.1.way t.1.before in
    subst (λ mask. IsCovered g w v mask x) (view-is g t.0 w v members is k h)
    (subst (λ z. IsCovered g w v (views_by g t.0 v) z) t.2 (covering.covered g t.0 w v b is k t.3))

-- ---- words

-- the members of a view that somebody has come to are as the histories have them
agrees : (g : Group) (V : Views) (w : World) (i v : ℕ) → IsGroup g → (y : Known g w) → AreViews g w V
    → v ≤ w.past.view i → V v ≡ views_by g y.values v
agrees g V w i v is y are come = are v (views_by g y.values v) (has-view g w i v is y come)

pub words-by : (g : Group) (V : Views) (w : World) → IsGroup g → Known g w → AreViews g w V → WordsTell g V w
words-by g V w is y are = record {
  own = λ i v c. own i v c (cases_lt (w.past.view i) v);
  table = λ v j i c. table v j i c (cases_lt (w.past.view i) v);
  seen = λ m i c. tells_by g V W w.past i (w.past.view m) c (w.seen m i c)
      (agrees g V w m (w.past.view m) is y are (omega arith)) (f.words.seen m i c);
}
  where
    W : Views
    W = views_by g y.values

    f : Faithful g (views_by g y.values) w
    f = y.chosen.faithful

    own : (i v c : ℕ) → (w.past.view i < v) ⊎ (v ≤ w.past.view i) → Tells g V w.past i v c (w.past.own i v c)
    own i v c (inl less) = subst (λ x. Tells g V w.past i v c x) (sym (f.fresh.unwritten i v c less))
        (tells_nothing g V w.past i v c)
    own i v c (inr come) = tells_by g V W w.past i v c (w.past.own i v c) (agrees g V w i v is y are come)
        (f.words.own i v c)

    table : (v j i c : ℕ) → (w.past.view i < v) ⊎ (v ≤ w.past.view i) → Tells g V w.past i v c (w.table v j i c)
    table v j i c (inl less) = subst (λ x. Tells g V w.past i v c x) (sym (unseen g W w v j i c f less))
        (tells_nothing g V w.past i v c)
    table v j i c (inr come) = tells_by g V W w.past i v c (w.table v j i c)
        (agrees g V w i v is y are come) (f.words.table v j i c)

pub votes-by : (g : Group) (V : Views) (w : World) → IsGroup g → Known g w → AreViews g w V → VotesTold g V w
votes-by g V w is y are = record {
  in_own = λ i v c column. own i v c column (cases_lt (w.past.view i) v);
  in_table = λ v j i c column. table v j i c column (cases_lt (w.past.view i) v);
  in_seen = λ m i c column. y.chosen.voting.words.in_seen m i c (subst (λ mask. is_accept_of (roster g) mask c ≡ true)
      (agrees g V w m (w.past.view m) is y are (omega arith)) column);
}
  where
    f : Faithful g (views_by g y.values) w
    f = y.chosen.faithful

    own : (i v c : ℕ) → is_accept_of (roster g) (V v) c ≡ true → (w.past.view i < v) ⊎ (v ≤ w.past.view i)
        → TellsVote g w.past.own w.past.votes i v c (w.past.own i v c)
    own i v c column (inl less) = subst (λ x. TellsVote g w.past.own w.past.votes i v c x)
        (sym (f.fresh.unwritten i v c less)) (opening.tells_nothing g w.past.own w.past.votes i v c)
    own i v c column (inr come) = y.chosen.voting.words.in_own i v c
        (subst (λ mask. is_accept_of (roster g) mask c ≡ true) (agrees g V w i v is y are come) column)

    table : (v j i c : ℕ) → is_accept_of (roster g) (V v) c ≡ true → (w.past.view i < v) ⊎ (v ≤ w.past.view i)
        → TellsVote g w.past.own w.past.votes i v c (w.table v j i c)
    table v j i c column (inl less) = subst (λ x. TellsVote g w.past.own w.past.votes i v c x)
        (sym (unseen g (views_by g y.values) w v j i c f less))
        (opening.tells_nothing g w.past.own w.past.votes i v c)
    table v j i c column (inr come) = y.chosen.voting.words.in_table v j i c
        (subst (λ mask. is_accept_of (roster g) mask c ≡ true) (agrees g V w i v is y are come) column)

pub moments-by : (g : Group) (V : Views) (w : World) → IsGroup g → (y : Known g w) → AreViews g w V
    → AcceptsOfMoments g V y.run.0 w
moments-by g V w is y are = record {
  in_table = λ v j i c column. table v j i c column (cases_lt (w.past.view i) v);
  in_seen = λ m i c column. so.in_seen m i c (subst (λ mask. is_accept_of (roster g) mask c ≡ true)
      (agrees g V w m (w.past.view m) is y are (omega arith)) column);
  on_way = λ v i c word was column. on_way v i c word was column (cases_lt (w.past.view i) v);
}
  where
    so : AcceptsOfMoments g (views_by g y.values) y.run.0 w
    so = accepts_so g y.values y.run.0 w is y.by

    table : (v j i c : ℕ) → is_accept_of (roster g) (V v) c ≡ true → (w.past.view i < v) ⊎ (v ≤ w.past.view i)
        → (w.table v j i c ≡ 0) ⊎ HadAccepted g y.run.0 i v c (w.table v j i c)
    table v j i c column (inl less) = inl (unseen g (views_by g y.values) w v j i c y.chosen.faithful less)
    table v j i c column (inr come) = so.in_table v j i c
        (subst (λ mask. is_accept_of (roster g) mask c ≡ true) (agrees g V w i v is y are come) column)

    on_way : (v i c word : ℕ) → WasOwn y.run.0 v i c word → is_accept_of (roster g) (V v) c ≡ true
        → (w.past.view i < v) ⊎ (v ≤ w.past.view i) → (word ≡ 0) ⊎ HadAccepted g y.run.0 i v c word
    on_way v i c word was column (inl less) = inl (omega (
      arith,
      ((known_late g w is y).backed.old v i c word was).number,
      y.chosen.faithful.fresh.unwritten i v c less,
    ))
    on_way v i c word was column (inr come) = so.on_way v i c word was
        (subst (λ mask. is_accept_of (roster g) mask c ≡ true) (agrees g V w i v is y are come) column)
