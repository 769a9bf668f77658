-- What is known of every world that is reached.
use Rattle.std.proofs.Common.{[], ◌∷◌, ◌⊎◌, Contains, List, None, refl, inl, inr, arith, ap, length, map, slice_index, subst, sym, false, ℕ, ◌++◌, ◌<◌, ◌∙◌, ◌≡◌, ◌≢◌, ◌≤◌, Some, ◌+◌, true, ◌-◌, ◌*◌, ◌^◌}
use Rattle.std.proofs.lemmas.{List.Elements.All-tail, Option.slice_get-get_or}
use Rattle.dr_entry.specs.{declared.end.End.TheVariants.Done, declared.record.{Value.Value, Vote.Vote}}
use Rattle.dr_history.specs.{Agreement.{Accounts, Agreed}, History.messages_of, Members.{has, members_of}}
use Rattle.dr_history.specs.{Order.{InOrder, first_entries, messages_from, IsLateIn, IsNewIn}, Places.front_of}
use Rattle.dr_history.proofs.{Keeping.prefix_shorter, MemberLemmas.member-has}
use Rattle.dr_history_laws.specs.{Courses.{counts_taken, ViewHasEnded}, Laid.{GoesOn, first_view, laid}}
use Rattle.dr_history_laws.{specs.Remaining.remaining, proofs.Courses.head-first}
use Rattle.dr_words.specs.Masks.{IsLeastOf}
use Rattle.dr_machine.{specs.{Acts.{Guard, effect}, Sending.IsPut, World.World}, proofs.Presence.in_roster}
use Rattle.dr_machine.specs.{Effects.counts_by, Guards.{CanFinish, HoldsAll, MayChoose, unsuspected_of, CanWelcome}}
use Rattle.dr_machine.{specs.{Events.{member_of, step_of}, declared.event.Event.Event}, proofs.Groups.AreAccounts}
use Rattle.dr_machine.{specs.Group.{Group, IsGroup, roster, IsPresent}, proofs.Runs.{by_way, last_or_before, reached}}
use Rattle.dr_machine.specs.Run.{ComesNext, IsReached, NoLaterItem, PastGrew, Way, WordsGrew, WorldAgreed}
use Rattle.dr_machine.{specs.Votes.{HasLogged, IsOf, MajorityHas}, proofs.Worlds.{past_on, past_same, AreQuiet}}
use Rattle.dr_faithful.specs.{Chosen.{AreChosen, Values, endings_by, views_by}, Faithful.{AllGoOn, Faithful}}
use Rattle.dr_faithful.{specs.Tells.SuspicionsTold, proofs.ChosenViews.{ending-next, IsReachedBy}}
use Rattle.dr_faithful.proofs.{Faithfulness.{none_later, past_on_event, words_on}, Late.arrived_grew}
use Rattle.dr_faithful.proofs.Suspicions.{promise_least, suspicions_told, step_quiet}
use Rattle.dr_vote_laws.specs.{Moments.AcceptsOfMoments, Voting.IsChosen}
use Rattle.dr_vote_laws.proofs.{Moments.{accepts_arrive, accepts_begin}, Steps.accepts_stay, Values.voted-since}
use Rattle.dr_vote_laws.proofs.Values as votes
use Rattle.dr_world_laws.{specs.Historic.{HoldsMessages, view_numbered}, proofs.Choosing.reached_by}
use Rattle.dr_world_laws.proofs.{Finishing.goes-any, Leavings.IsLeftSo, Once.same-views}
use Rattle.dr_world_laws.proofs.Agreeing as agreeing
use Rattle.dr_world_laws.proofs.Covering as covering
use Rattle.dr_world_laws.proofs.Ending as ending
use Rattle.dr_world_laws.proofs.Leavings as leavings
use Rattle.dr_world_laws.proofs.Messages as messages
use Rattle.dr_world_laws.proofs.Reached as worlds
use Rattle.dr_world_laws.proofs.Remaining as remainders

-- a world that is reached, and values by which it is
pub record Known (g : Group) (w : World) : Type 0 where
  pub run : IsReached g w
  pub values : Values
  pub by : IsReachedBy g values run.0 w
  pub chosen : worlds.Known g values w

pub known : (g : Group) (w : World) → IsGroup g → IsReached g w → Known g w
known g w is r =
    let t = reached_by g r.0 w is r.1 in record {
      run = r;
      values = t.0;
      by = t.1;
      chosen = worlds.known g t.0 r.0 w is t.1.way t.1.before;
    }

-- its way is the one by which it is reached
pub known_way : (g : Group) (us : List World) (w : World) (is : IsGroup g) (way : Way g us w)
    → (known g w is (us, way)).run.0 ≡ us
unfolding known
known_way g us w is way = refl

-- with what is known of the words that are on their way
pub known_late : (g : Group) (w : World) → IsGroup g → (y : Known g w) → worlds.KnownLate g y.values y.run.0 w
known_late g w is y = worlds.known-late g y.values y.run.0 w is y.by.way y.by.before

-- ---- what is told

-- the members are faithful
pub faithful : (g : Group) (w : World) (y : Known g w) → Faithful g (views_by g y.values) w
faithful g w y = y.chosen.faithful

-- whoever may end its view goes on as it should
pub all_go_on : (g : Group) (w : World) → IsGroup g → (y : Known g w) → AllGoOn g (views_by g y.values) w
all_go_on g w is y = worlds.all-go_on g y.values w is y.chosen y.by.now

pub told : (g : Group) (w : World) → IsGroup g → Known g w → SuspicionsTold g w
told g w is y = suspicions_told g (views_by g y.values) w y.chosen.faithful

pub waits : (g : Group) (w : World) (m : ℕ) → IsGroup g → Known g w → m < roster g → w.suspects m ≢ 0
    → IsLeastOf (unsuspected_of w m) (w.promise m)
waits g w m is y l some = promise_least g (views_by g y.values) w m is y.chosen.faithful some

-- the words grow at every event, and so does all else that only grows
pub words_grew : (g : Group) (w : World) (e : Event) → IsGroup g → Known g w → Guard g w e
    → WordsGrew g w (effect g w e)
words_grew g w e is y can = words_on g (views_by g y.values) w e is (all_go_on g w is y) can y.chosen.faithful

pub past_grew : (g : Group) (w : World) (e : Event) → IsGroup g → Known g w → Guard g w e
    → PastGrew w.past (effect g w e).past
past_grew g w e is y can = past_on_event g (views_by g y.values) w e is (all_go_on g w is y) can y.chosen.faithful

-- so it is in each world that comes next
pub words_next : (g : Group) (us : List World) (w after : World) → IsGroup g → Way g us w
    → ComesNext g us w after → WordsGrew g w after
words_next g us w after is way (inl (e, can, same)) =
    subst (WordsGrew g w) (sym same) (words_grew g w e is (known g w is (us, way)) can)
words_next g us w after is way (inr (table, come, same)) =
    let t = reached_by g us w is way in
    let y = worlds.known-late g t.0 us w is way t.1.before in subst (WordsGrew g w) (sym same)
    (arrived_grew g (views_by g t.0) us w table y.world.faithful come y.backed)

pub past_next : (g : Group) (us : List World) (w after : World) → IsGroup g → Way g us w
    → ComesNext g us w after → PastGrew w.past after.past
past_next g us w after is way (inl (e, can, same)) =
    subst (λ (u : World). PastGrew w.past u.past) (sym same) (past_grew g w e is (known g w is (us, way)) can)
past_next g us w after is way (inr (table, come, same)) =
    subst (λ (u : World). PastGrew w.past u.past) (sym same) (past_same w.past)

-- no later item stands in the slot of one that is waited for
pub no_later : (g : Group) (w : World) → IsGroup g → Known g w → NoLaterItem g w
no_later g w is y = none_later g (views_by g y.values) w is y.chosen.faithful

-- ---- votes

pub same_ballot : (g : Group) (w : World) (i j : ℕ) (x y : Vote) → Known g w
    → HasLogged w.past.votes i x → HasLogged w.past.votes j y → IsOf y x.view x.ballot → x ≡ y
same_ballot g w i j x y k h l of = votes.same_ballot g (views_by g k.values) w i j x y k.chosen.voting h l of

pub commits : (g : Group) (w : World) (m : ℕ) (v : Value) → Known g w → w.committed m ≡ Some v
    → (ballot : ℕ) × MajorityHas w.past.votes (w.members m) (λ z. IsOf z (w.past.view m) ballot × (z.value ≡ v))
commits g w m v k e =
    let t = votes.commits g (views_by g k.values) w m v k.chosen.voting e in (
      t.0,
      subst (λ mask. MajorityHas w.past.votes mask (λ z. IsOf z (w.past.view m) t.0 × (z.value ≡ v)))
          (sym (k.chosen.faithful.views.own m)) t.1,
    )

-- values that are committed in one view are equal, at whatever moments
pub one_commit : (g : Group) (early late : World) (m k : ℕ) (u v : Value) → Known g early → Known g late
    → PastGrew early.past late.past → early.committed m ≡ Some u → late.committed k ≡ Some v
    → early.past.view m ≡ late.past.view k → u ≡ v
one_commit g early late m k u v before y grew e d same =
    let one = votes.commits g (views_by g before.values) early m u before.chosen.voting e in
    let two = votes.commits g (views_by g y.values) late k v y.chosen.voting d in
    votes.chosen_once g (views_by g y.values) late (early.past.view m) one.0 two.0 u v y.chosen.voting
    (voted-since g before.values y.values early late (early.past.view m) one.0 u grew
    (same-views g before.values y.values early late m k (early.past.view m) before.chosen y.chosen grew
    (omega arith) (omega (arith, same))) one.1)
    (subst (λ n. IsChosen (views_by g y.values) late.past.votes n two.0 v) (sym same) two.1)

-- what a world has done, a later one on its way has done too
pub past_since : (g : Group) (us : List World) (early late : World) → IsGroup g → Way g us late
    → Contains (late ∷ us) early → PastGrew early.past late.past × IsReached g early
past_since g [] early late is way c = by (last_or_before [] late early c)
  where
    by : (late ≡ early) ⊎ Contains [] early → PastGrew early.past late.past × IsReached g early
    by (inl same) = subst (λ (u : World). PastGrew u.past late.past × IsReached g u) same
        (past_same late.past, ([], way))
    by (inr none) = absurd (omega (arith, none.1))
past_since g (u ∷ us) early late is way c =
    by (λ before. past_since g us early u is way.0 before) (last_or_before (u ∷ us) late early c)
  where
    by : (Contains (u ∷ us) early → PastGrew early.past u.past × IsReached g early)
        → (late ≡ early) ⊎ Contains (u ∷ us) early → PastGrew early.past late.past × IsReached g early
    by rest (inl same) = subst (λ (x : World). PastGrew x.past late.past × IsReached g x) same
        (past_same late.past, (u ∷ us, way))
    by rest (inr before) =
        let t = rest before in (past_on early.past u.past late.past t.0 (past_next g us u late is way.0 way.1), t.1)

-- what everybody has at the opening stays durable
pub first_durable : (g : Group) (w : World) → IsGroup g → IsReached g w
    → (m : ℕ) → length (first_entries g.opening) ≤ w.past.durable m
first_durable g w is r = reached g (λ u. (m : ℕ) → length (first_entries g.opening) ≤ u.past.durable m)
    (λ u e run can y m. omega (arith, y m, (past_grew g u e is (known g u is run) can).durable m))
    (λ u table y. y) (λ m. omega arith) w r

-- values that are committed in one view on one way are equal
pub commit_since : (g : Group) (us : List World) (early late : World) (m k : ℕ) (u v : Value) → IsGroup g
    → Way g us late → Contains (late ∷ us) early → early.committed m ≡ Some u → late.committed k ≡ Some v
    → early.past.view m ≡ late.past.view k → u ≡ v
commit_since g us early late m k u v is way on e d same =
    let since = past_since g us early late is way on in
    one_commit g early late m k u v (known g early is since.1) (known g late is (us, way)) since.0 e d same

-- each accept word of the table, each that was seen, and each that is on its way, was one of its owner at some
-- moment
pub accepts_so : (g : Group) (values : Values) (us : List World) (w : World) → IsGroup g
    → IsReachedBy g values us w → AcceptsOfMoments g (views_by g values) us w
accepts_so g values us w is r = by_way g (AreChosen values) (AcceptsOfMoments g (views_by g values))
    (λ us u e run all can y. accepts_stay g (views_by g values) us u e
    (worlds.known g values us u is run (All-tail (AreChosen values) u us all)).faithful y)
    (λ us u table run all come y. accepts_arrive g (views_by g values) us u table come
    (worlds.known g values us u is run (All-tail (AreChosen values) u us all)).faithful y)
    (accepts_begin g (views_by g values)) us w r.way r.before

-- ---- ends of views

-- what a committed value takes of each member, as the ending of the view takes it
taken_by : (g : Group) (w : World) (k : ℕ) (x : Value) (y : Known g w) → w.committed k ≡ Some x
    → counts_taken g.opening (endings_by g.opening y.values) (w.past.view k) ≡ counts_by w k x
taken_by g w k x y e = ap (λ mask. map (λ s. slice_index (y.values (w.past.view k)).trim s) (members_of mask))
    (sym (y.chosen.faithful.views.own k))
    ∙ ap (λ (z : Value). map (λ s. slice_index z.trim s) (members_of (w.members k))) (sym (y.by.now k x e))

-- nobody in the view has delivered a place that it cuts off
pub delivered_within : (g : Group) (w : World) (m k : ℕ) (x : Value) → IsGroup g → Known g w → m < roster g
    → w.committed k ≡ Some x → w.past.view m ≡ w.past.view k → w.next m ≤ front_of (counts_by w k x)
delivered_within g w m k x is y l e same = subst (λ cs. w.next m ≤ front_of cs)
    (ap (counts_taken g.opening (endings_by g.opening y.values)) same ∙ taken_by g w k x y e)
    (covering.delivered_within g y.values w m k x is y.chosen y.by.now l e same)

-- whoever has committed a value by which it stays may end its view
pub may-finish : (g : Group) (w : World) (m : ℕ) (x : Value) → IsGroup g → Known g w → MayChoose g w m
    → w.committed m ≡ Some x → has x.leavers m ≡ false → CanFinish g w m
may-finish g w m x is y may e stays = ending.may-finish g y.values w m x is y.chosen y.by.now may e stays

-- ---- histories

pub agreed : (g : Group) (w : World) → IsGroup g → Known g w → WorldAgreed g w
agreed g w is y = agreeing.agreed g y.values w is y.chosen

pub agreed-by : (g : Group) (w : World) (accounts : Accounts) → IsGroup g → Known g w
    → AreAccounts g w accounts → Agreed g.opening accounts
agreed-by g w accounts is y told = agreeing.agreed-by g y.values w accounts is y.chosen told

pub in-order : (g : Group) (w : World) (m : ℕ) → IsGroup g → Known g w → m < roster g
    → InOrder g.opening w.past.sent (w.past.history m)
in-order g w m is y l = agreeing.in-order g y.values w m is y.chosen l

pub done-durable : (g : Group) (w : World) (m : ℕ) → Known g w → m < roster g → w.end m ≡ Some Done
    → w.past.durable m ≡ length (w.past.history m)
done-durable g w m y l e = agreeing.done-durable g y.values w m y.chosen l e

pub done-whole : (g : Group) (w : World) (m : ℕ) → IsGroup g → Known g w → m < roster g
    → w.end m ≡ Some Done → HoldsAll g w m
done-whole g w m is y l e = agreeing.done-whole g y.values w m is y.chosen l e

pub history-first : (g : Group) (w : World) (m : ℕ) → Known g w → m < roster g → w.past.view m ≡ 0
    → w.past.history m ≡ first_entries g.opening ++ laid g.opening w.past.sent (first_view g.opening) (w.next m)
history-first g w m y l first = remainders.history-first g y.values w m y.chosen l first

pub goes_first : (g : Group) (w : World) → IsGroup g → Known g w
    → GoesOn g.opening w.past.sent (first_entries g.opening) (first_view g.opening)
goes_first g w is y = subst (GoesOn g.opening w.past.sent (first_entries g.opening))
    (remainders.view-first g y.values)
    (subst (λ es. GoesOn g.opening w.past.sent es (view_numbered g (views_by g y.values) 0))
    (head-first g.opening w.past.sent (endings_by g.opening y.values))
    (goes-any g y.values w 0 is y.chosen.faithful y.chosen.laid.historic))

pub put_first : (g : Group) (w : World) (s : ℕ) → IsGroup g → Known g w → s < roster g
    → IsPut (length (messages_from s g.opening.start)) (length (messages_of g.opening s)) (w.past.sent s 0)
put_first g w s is y l = remainders.put_first g y.values y.run.0 w s is y.by.way y.by.before l

pub holds-remaining : (g : Group) (w : World) (m : ℕ) → IsGroup g → Known g w → m < roster g
    → w.past.view m ≡ 0 → HoldsAll g w m → w.past.history m ≡ first_entries g.opening ++ remaining g.opening
holds-remaining g w m is y l first whole =
    remainders.holds-remaining g y.values y.run.0 w m is y.by.way y.by.before y.chosen l first whole

pub holds_messages : (g : Group) (w : World) (m : ℕ) → IsGroup g → Known g w → m < roster g
    → HoldsMessages g (w.past.history m)
holds_messages g w m is y l = messages.holds_messages g y.values w m is y.chosen l

pub left_so : (g : Group) (w : World) → IsGroup g → Known g w → (m : ℕ) → m < roster g → IsLeftSo w m (w.end m)
left_so g w is y m l = leavings.left_so g y.values y.run.0 w is y.by.way y.by.before m l

-- who suspects nobody has no vote that waits, and has committed nothing
pub quiet : (g : Group) (w : World) (m : ℕ) → IsGroup g → IsReached g w → w.suspects m ≡ 0
    → (w.pending m ≡ None) × (w.committed m ≡ None)
quiet g w m is r = reached g AreQuiet (λ u e run can y. let t = known g u is run in
    step_quiet g (views_by g t.values) u (member_of e) (step_of e) is (faithful g u t) can y)
    (λ u table y. y) (λ k calm. (refl, refl)) w r m

-- a newcomer of a view is late
pub newcomer_late : (g : Group) (w : World) (m j : ℕ) → IsGroup g → Known g w → CanWelcome g w m j
    → IsLateIn g.opening j
newcomer_late g w m j is y can = fresh (ended.newcomers j next)
  where
    f : Faithful g (views_by g y.values) w
    f = y.chosen.faithful

    was : (u : ℕ) × (w.past.view m ≡ u + 1) × (w.came_from m ≡ views_by g y.values u)
    was = f.views.came m can.welcomer

    ended : ViewHasEnded g.opening w.past.sent (endings_by g.opening y.values) was.0
    ended = (y.chosen.laid.left m was.0 (in_roster g m is can.may.alive.present) (omega (arith, was.1))).ended

    next : has (endings_by g.opening y.values was.0).next j ≡ true
    next = ap (λ k. has k j) (ending-next g y.values was.0) ∙ subst (λ v. has (views_by g y.values v) j ≡ true) was.1
        (ap (λ k. has k j) (sym (f.views.own m)) ∙ can.newcomer)

    fresh : Contains (members_of (views_by g y.values was.0)) j
        ⊎ IsNewIn g.opening (views_by g y.values) was.0 j → IsLateIn g.opening j
    fresh (inl c) =
        let there : has (views_by g y.values was.0) j ≡ true = member-has (views_by g y.values was.0) c.0 j
        (slice_get-get_or (members_of (views_by g y.values was.0)) c.0 j c.1 ∙ ap Some c.2) in
        absurd (cc (there, ap (λ k. has k j) (sym was.2) ∙ can.new))
    fresh (inr new) = new.late

-- a member has delivered all that it knows to be durable
pub durable_delivered : (g : Group) (w : World) (m : ℕ) → IsGroup g → IsReached g w → IsPresent g m
    → w.past.durable m ≤ length (w.past.history m)
durable_delivered g w m is reached there =
    let agrees = agreed g w is (known g w is reached) in
    omega (
      arith,
      (agrees.durable m there).own,
      prefix_shorter (w.past.log m) (w.past.history m) (agrees.logged m there),
    )

-- what is left of all acts
pub few : (x acts items next log durable rest some room turns : ℕ)
    → acts + (x + (items + ((2 ^ 64 - next) + (log + ((2 ^ 64 - durable) + rest)))))
    ≤ x + (some + 2 ^ 65 + 2 * room + 2 ^ 16 + 2 ^ 16 + 16 + 4) + turns
    → next ≤ 16 * 4096 → durable ≤ room → room < 2 ^ 32 → some ≤ 4096 * 16 → turns < 2 ^ 32 → acts + 1 < 2 ^ 64
few x acts items next log durable rest some room turns paid places known small messages early =
    omega (arith, paid, places, known, small, messages, early)

-- no word stands in the bank of a view that its member has not come to
pub none_ahead : (g : Group) (w : World) (m v j c : ℕ) → IsGroup g → IsReached g w → w.past.view m < v
    → w.table v j m c ≡ 0
none_ahead g w m v j c is run ahead =
    let f = faithful g w (known g w is run) in
    omega (arith, (f.old.in_table v j m c).number, f.fresh.unwritten m v c ahead)
