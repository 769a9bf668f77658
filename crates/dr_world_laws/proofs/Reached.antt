-- What holds of the histories of every world that is reached.
use Rattle.std.proofs.Common.{All, List, ◌∷◌, ◌≡◌, ◌≢◌, ◌⊎◌, inl, inr, refl, ap, ap₂, sym, ◌∙◌, subst, ℕ, ◌/◌, ◌%◌, ◌<◌, arith, true, Some, [], length, slice_get, take}
use Rattle.std.proofs.lemmas.{List.{take_all, Elements.All-head}, Option.none-some}
use Rattle.dr_entry.specs.{declared.end.SentItem.{SentItem, TheVariants.{Index, Null}}, declared.record.Value.Value}
use Rattle.dr_entry.proofs.ListPlaces.{Contains-slice_get}
use Rattle.dr_history.specs.{History.{GroupView, item_at, messages_of}, Members.has, Order.messages_from}
use Rattle.dr_history.proofs.{Bits.has_zero, Indices.item_at-parts, NumberedLemmas.messages_from-View}
use Rattle.dr_words.specs.declared.column.TheConstants.{RECEIVED_COLUMN, DONE_COLUMN}
use Rattle.dr_history_laws.{specs.Laid.GoesOn, proofs.{Counting.index-next, Ordered.view-distinct}}
use Rattle.dr_history_laws.proofs.{Courses.{course-head, head-ends, head-first}, SendingLemmas.GoesOn-none}
use Rattle.dr_machine.specs.{Acts.{Guard, effect}, Effects.{entries_of, joins}, Events.{member_of, step_of}}
use Rattle.dr_machine.specs.{Group.{Group, IsGroup, roster}, Guards.{CanDeliver, CanFinish}}
use Rattle.dr_machine.specs.{Run.{HaveArrived, Way, with_table}, World.{Table, World, opening_world, own_word}}
use Rattle.dr_machine.{specs.{Writes.at, declared.event.Event.Event}, proofs.{Events.letters, Groups.HasLeft}}
use Rattle.dr_machine.proofs.{Presence.in_roster, Runs.by_way, Worlds.{Complete, shows_own, added, opening-complete}}
use Rattle.dr_faithful.specs.{Chosen.{AreChosen, Values, endings_by, views_by}, Faithful.{AllGoOn, Faithful}}
use Rattle.dr_faithful.{specs.{Late.AreBacked, Tells.{Views, item_named}}, proofs.Ending.{Finishes, finishes, IsSafe}}
use Rattle.dr_faithful.proofs.{Begin.begun, Late.{arrived_keeps, backed_arrived, backed_begins, backed_event}}
use Rattle.dr_faithful.proofs.ChosenViews.{views-first, views-within, AreGiven, are-heads, left_or_ended}
use Rattle.dr_faithful.proofs.{Completion.event_completes, Faithfulness.{faithful_keeps, past_on_event, words_on}}
use Rattle.dr_faithful.proofs.Suspicions.{wedged_stay}
use Rattle.dr_vote_laws.specs.{Late.VotesBacked, Voting.Voting}
use Rattle.dr_vote_laws.proofs.{Ballots.{ballots-stay, voted-for, AreVotedFor}, Opening.begun as voting_begins}
use Rattle.dr_vote_laws.proofs.{Cuts.safe-value, Late.{arrived_votes, votes_backed, votes_on}, Steps.voting_keeps}
use Rattle.dr_world_laws.specs.Historic.{AreLaid, HasEndedSafely, head_by, view_numbered}
use Rattle.dr_world_laws.proofs.{ChosenViews.left-steady, Finishing.{finished-head, goes-any, goes-on_well, leaves}}
use Rattle.dr_world_laws.proofs.Histories.{AddsEntry, AreReady, event_keeps}
use Rattle.dr_world_laws.proofs.Items.{IsReceived, entries-next, held-next, item-received}
use Rattle.dr_world_laws.proofs.{Joining.{joins-head, joins-well, wishes-new}, Letters.letters-stay}

-- what is known of a world that is reached by chosen values
pub record Known (g : Group) (values : Values) (w : World) : Type 0 where
  pub faithful : Faithful g (views_by g values) w
  pub laid : AreLaid g values w
  pub complete : Complete g w
  pub voting : Voting g (views_by g values) w
  pub ballots : AreVotedFor g values w
  pub wedged : (m : ℕ) (x : Value) → w.committed m ≡ Some x → w.suspects m ≢ 0
  pub letters : AreGiven g values w.past (letters w)

-- so a value that somebody has committed is safe
pub safe : (g : Group) (values : Values) (w : World) (m : ℕ) (x : Value) → Known g values w
    → w.committed m ≡ Some x → IsSafe g (views_by g values) w m x
safe g values w m x y e = safe-value g (views_by g values) w m x y.faithful y.voting (y.wedged m x e) e

-- and whoever may end its view does so with a value of which that much is known
pub may-end : (g : Group) (values : Values) (w : World) (m : ℕ) → IsGroup g → Known g values w
    → AreChosen values w → (can : CanFinish g w m) → Finishes g values w m can.value
may-end g values w m is y chosen can =
    finishes g values w m is y.faithful chosen can (safe g values w m can.value y can.committed)

-- so it goes on as it should
pub all-go_on : (g : Group) (values : Values) (w : World) → IsGroup g → Known g values w
    → AreChosen values w → AllGoOn g (views_by g values) w
all-go_on g values w is y chosen = record {
  finish = λ m can. goes-on_well g values w m can.value is y.faithful y.laid (may-end g values w m is y chosen can);
  join = λ m can. joins-well g values w m is y.faithful y.laid can (y.letters.letters m can.letter can.given).0;
  wish = λ m j there may. wishes-new g values w m j is y.laid.historic there may;
}

-- ---- the next place

-- the message at the next place has the next index of its sender, and the script has it
index-delivered : (g : Group) (values : Values) (w : World) (m s i : ℕ) → IsGroup g → Known g values w → m < roster g
    → item_at w.past.sent (view_numbered g (views_by g values) (w.past.view m)) (w.next m) ≡ Some (s, Index i)
    → (i ≡ length (messages_from s (w.past.history m))) × (i < length (messages_of g.opening s))
index-delivered g values w m s i is y l place = (
  index-next g.opening w.past.sent (head_by g values w (w.past.view m)) v (w.next m) s i goes
      (view-distinct (head_by g values w (w.past.view m)) v
      (head-ends g.opening w.past.sent (endings_by g.opening values) (w.past.view m))) place
      ∙ ap (λ es. length (messages_from s es)) (sym (y.laid.historic.history m l)),
  goes.scripted s (w.next m / length v.members) i
      (Contains-slice_get v.members (w.next m % length v.members) s parts.0) parts.1,
)
  where
    v : GroupView
    v = view_numbered g (views_by g values) (w.past.view m)

    goes : GoesOn g.opening w.past.sent (head_by g values w (w.past.view m))
        (view_numbered g (views_by g values) (w.past.view m))
    goes = goes-any g values w (w.past.view m) is y.faithful y.laid.historic

    parts : (slice_get v.members (w.next m % length v.members) ≡ Some s)
        × (slice_get (w.past.sent s v.number) (w.next m / length v.members) ≡ Some (Index i))
    parts = item_at-parts w.past.sent v (w.next m) s (Index i) place

-- a member that may deliver has the item at the next place
item-next : (g : Group) (V : Views) (w : World) (m : ℕ) → Faithful g V w → CanDeliver g w m
    → IsReceived g V w m (w.next m)
item-next g V w m f can = item-received g V w m (w.next m) f
    (shows_own w m RECEIVED_COLUMN (w.next m) (can.received m can.may.inside))

adds-entry : (g : Group) (values : Values) (w : World) (m : ℕ) → IsGroup g → Known g values w
    → CanDeliver g w m → AddsEntry g (views_by g values) w m
adds-entry g values w m is y can =
    let x = item-next g (views_by g values) w m y.faithful can in
    let l = in_roster g m is can.may.alive.present in
    entries-next g (views_by g values) w m (w.next m) (w.past.history m) x.sender x.name x.place x.sent x.has_it
    (λ i e. index-delivered g values w m x.sender i is y l (x.place ∙ ap (λ n. Some (x.sender, n)) e))

-- a member that shows done has no message left to deliver
done-delivers_none : (g : Group) (values : Values) (w : World) (m : ℕ) → IsGroup g → Known g values w
    → CanDeliver g w m → m < roster g → own_word w m DONE_COLUMN ≡ 1 → added w m ≡ []
done-delivers_none g values w m is y can l e =
    let x = item-next g (views_by g values) w m y.faithful can in
    ap₂ (λ s item. entries_of (w.past.history m) s item) x.sent x.has_it ∙ none x.sender x.name x.member x.place
  where
    v : GroupView
    v = view_numbered g (views_by g values) (w.past.view m)

    all : take (w.past.durable m) (w.past.history m) ≡ w.past.history m
    all = take_all (w.past.durable m) (w.past.history m) (omega (arith, y.complete.durable m l e))

    none : (s : ℕ) (name : SentItem) → has (views_by g values (w.past.view m)) s ≡ true
        → item_at w.past.sent (view_numbered g (views_by g values) (w.past.view m)) (w.next m) ≡ Some (s, name)
        → entries_of (w.past.history m) s (item_named g s name) ≡ []
    none s Null member place = refl
    none s (Index i) member place =
        let at = index-delivered g values w m s i is y l place in
        absurd (omega (
          arith,
          at.0,
          at.1,
          ((y.faithful.words.own m (w.past.view m) DONE_COLUMN).done refl).1 e s member,
          ap (λ es. length (messages_from s es)) all,
        ))

-- ---- the views that are left

-- each of them ended well
all-left : (g : Group) (values : Values) (w : World) (e : Event) → IsGroup g → AreChosen values w → Guard g w e
    → Known g values w → (k v : ℕ) → k < roster g → v < (effect g w e).past.view k → HasEndedSafely g values w v
all-left g values w e is chosen can y k v l less =
    by (left_or_ended g values w (member_of e) (step_of e) k v (are-heads g values w.past (letters w) y.letters) can less)
  where
    by : HasLeft g w v k ⊎ (CanFinish g w k × (v ≡ w.past.view k)) → HasEndedSafely g values w v
    by (inl (inl before)) = y.laid.left k v l before
    by (inl (inr t)) = y.laid.left t.0 v t.1 t.2
    by (inr (finish, same)) = subst (HasEndedSafely g values w) (sym same)
        (leaves g values w k finish.value is y.faithful (may-end g values w k is y chosen finish))

-- ---- the induction

opening-laid : (g : Group) (values : Values) → AreLaid g values (opening_world g)
opening-laid g values = record {
  historic = record {
    history = λ m l. sym (course-head g.opening (λ _ _. []) (endings_by g.opening values) 0
        ∙ head-first g.opening (λ _ _. []) (endings_by g.opening values));
    goes = λ m v l come. GoesOn-none g.opening (λ _ _. []) (head_by g values (opening_world g) v)
        (view_numbered g (views_by g values) v) (λ s member. refl);
    based = λ m l. sym (ap (λ es. length (messages_from m es))
        (head-first g.opening (λ _ _. []) (endings_by g.opening values))
        ∙ ap length (messages_from-View m g.opening.start g.opening.age 0 g.opening.members));
  };
  left = λ m v l less. absurd (omega (arith, less));
}

pub begins : (g : Group) (values : Values) → IsGroup g → Known g values (opening_world g)
begins g values is = record {
  faithful = begun g (views_by g values) is (views-first g values) (λ v m. views-within g values v m is);
  laid = opening-laid g values;
  complete = opening-complete g;
  voting = voting_begins g (views_by g values);
  ballots = λ m v l. absurd (omega (arith, l));
  wedged = λ m x e. absurd (none-some x e);
  letters = record { letters = λ j l e. absurd (none-some l e); given = λ m j t. absurd (cc (has_zero j, t)) };
}

-- what is known stays, where the values are the chosen ones
pub event-known : (g : Group) (values : Values) (w : World) (e : Event) → IsGroup g → AreChosen values w
    → Guard g w e → Known g values w → Known g values (effect g w e)
event-known g values w e is chosen can y = record {
  faithful = now;
  laid = record {
    historic = event_keeps g values w e ready can y.laid.historic;
    left = λ k v l less. left-steady g values w (effect g w e) v is y.faithful now
        (past_on_event g (views_by g values) w e is well can y.faithful) (words_on g
        (views_by g values) w e is well can y.faithful) (all-left g values w e is chosen can y k v l less);
  };
  complete = event_completes g (views_by g values) w e y.faithful now
      (words_on g (views_by g values) w e is well can y.faithful)
      (λ m d. done-delivers_none g values w m is y d) (λ m can. (well.join m can).later) can y.complete;
  voting = voting_keeps g (views_by g values) w e is well can y.faithful y.voting;
  ballots = λ k v less. ballots-stay g values w (effect g w e) v
      (past_on_event g (views_by g values) w e is well can y.faithful)
      (voted-for g values w k v chosen y.voting y.ballots
      (left_or_ended g values w (member_of e) (step_of e) k v (are-heads g values w.past (letters w) y.letters) can less));
  wedged = wedged_stay g (views_by g values) w (member_of e) (step_of e) is can y.faithful y.wedged;
  letters = letters-stay g values w (member_of e) (step_of e) is y.faithful well y.laid
      (past_on_event g (views_by g values) w e is well can y.faithful) can y.letters;
}
  where
    well : AllGoOn g (views_by g values) w
    well = all-go_on g values w is y chosen

    now : Faithful g (views_by g values) (effect g w e)
    now = faithful_keeps g (views_by g values) w e is well can y.faithful

    ready : AreReady g values w
    ready = record {
      present = λ m there. in_roster g m is there;
      ended = λ m v l less. (y.laid.left m v l less).ended;
      held = λ m l. held-next g (views_by g values) w m y.faithful;
      adds = λ m d. adds-entry g values w m is y d;
      goes = λ u. goes-any g values w u is y.faithful y.laid.historic;
      comes = λ m can. finished-head g values w m can.value is y.faithful y.laid.historic
          (may-end g values w m is y chosen can);
      joins = λ m can. joins-head g values w m can.letter (y.letters.letters m can.letter can.given).0;
    }

-- what is known of a world and of the words that are on their way in it: those of the worlds before it
pub record KnownLate (g : Group) (values : Values) (us : List World) (w : World) : Type 0 where
  pub world : Known g values w
  pub backed : AreBacked g (views_by g values) us w
  pub votes : VotesBacked g (views_by g values) us w

-- an event keeps it
late_event : (g : Group) (values : Values) (us : List World) (w : World) (e : Event) → IsGroup g
    → AreChosen values w → Guard g w e → KnownLate g values us w → KnownLate g values (w ∷ us) (effect g w e)
late_event g values us w e is chosen can y =
    let well = all-go_on g values w is y.world chosen in record {
      world = event-known g values w e is chosen can y.world;
      backed = backed_event g (views_by g values) us w e is well can y.world.faithful y.backed;
      votes = votes_on g (views_by g values) us w e is well can y.world.faithful y.world.voting y.votes;
    }

-- and so does the arrival of words, as only what is said of the table speaks of them
arrived-known : (g : Group) (values : Values) (us : List World) (w : World) (table : Table)
    → HaveArrived (w ∷ us) w table → KnownLate g values us w → KnownLate g values (w ∷ us) (with_table w table)
arrived-known g values us w table come y = record {
  world = record {
    faithful = arrived_keeps g (views_by g values) us w table come y.backed y.world.faithful;
    laid = record {
      historic = record {
        history = y.world.laid.historic.history;
        goes = y.world.laid.historic.goes;
        based = y.world.laid.historic.based;
      };
      left = λ m v l less. let ended = y.world.laid.left m v l less in
          record { ended = ended.ended; least = ended.least; covered = ended.covered };
    };
    complete = record {
      durable = y.world.complete.durable;
      shown = y.world.complete.shown;
      inside = y.world.complete.inside;
    };
    voting = voted.0;
    ballots = y.world.ballots;
    wedged = y.world.wedged;
    letters = y.world.letters;
  };
  backed = backed_arrived g (views_by g values) us w table y.world.faithful come y.backed;
  votes = voted.1;
}
  where
    voted : Voting g (views_by g values) (with_table w table)
        × VotesBacked g (views_by g values) (w ∷ us) (with_table w table)
    voted = arrived_votes g (views_by g values) us w table come y.votes y.world.voting

-- so it is known of each world that is reached by them
pub known-late : (g : Group) (values : Values) (us : List World) (w : World) → IsGroup g → Way g us w
    → All (AreChosen values) us → KnownLate g values us w
known-late g values us w is r chosen = by_way g (AreChosen values) (KnownLate g values)
    (λ us u e run all can y. late_event g values us u e is (All-head (AreChosen values) u us all) can y)
    (λ us u table run all come y. arrived-known g values us u table come y) (record {
      world = begins g values is;
      backed = backed_begins g (views_by g values);
      votes = votes_backed g (views_by g values);
    }) us w r chosen

pub known : (g : Group) (values : Values) (us : List World) (w : World) → IsGroup g → Way g us w
    → All (AreChosen values) us → Known g values w
known g values us w is r chosen = (known-late g values us w is r chosen).world
