-- The world by members: what it has of each of them, and the table.
use Rattle.std.specs.Prelude.{Option, Some, None, take, nat_lt, slice_set, unwrap_or}
use Rattle.std.proofs.Common.{◌≡◌, ◌≢◌, refl, sym, ◌∙◌, ℕ, ◌<◌, ◌==◌, inl, inr, List, length, if◌then◌else◌, ◌+◌, ◌/◌, ◌%◌, ◌++◌, slice_index, drop, ◌-◌, ◌^◌, min, map, fold, [], ◌∷◌, false, ◌*◌, slice_index_or, arith, ap, true, ◌≤◌}
use Rattle.std.proofs.{Math.Path.fun_ext, lemmas.Bool.cases_eq}
use Rattle.dr_entry.specs.declared.{end.{End.End, SentItem.SentItem}, entry.Entry.{Entry, TheVariants.View}}
use Rattle.dr_entry.specs.{declared.entry.Item.{Item, TheVariants.Null}, declared.record.{Value.Value, Vote.Vote}}
use Rattle.dr_entry.proofs.{Items.item_set, NumberFacts.{same_number, other_number}}
use Rattle.dr_entry.proofs.Rounds.{HasCome, come_none, come_less}
use Rattle.dr_history.specs.{History.messages_of, Members.{members_of, has}, Order.messages_from}
use Rattle.dr_history.specs.Places.{rest_places, front_of}
use Rattle.dr_history_laws.specs.Remaining.{messages_left}
use Rattle.dr_rows.specs.Words.{own, seen}
use Rattle.dr_words.specs.{Columns.recv_column, Masks.{next_members, least_of, with_member, without}}
use Rattle.dr_words.specs.{Packing.recv_word, Rewrites.{wedged_word, accepted_word}}
use Rattle.dr_words.specs.declared.column.TheConstants.{LOGGED_COLUMN, RECEIVED_COLUMN, BEAT_COLUMN, DONE_COLUMN}
use Rattle.dr_machine.specs.Effects.{one_more, beats, entries_of, delivers, appends, reports, finishes_by, gains, looks, pushes, stamped, suspects, logs_vote, commits, accepts}
use Rattle.dr_machine.specs.{Group.{Group, roster}, World.{World, opening_world, no_value, shown, own_word, no_vote}}
use Rattle.dr_machine.{specs.{Votes.vote_in, Writes.{at₂, at}}, proofs.{Worlds.unended_in, Writes.item_written}}
use Rattle.dr_machine.specs.Effects as effects
use Rattle.dr_program.{specs.Presence.{present_at, with_present}, proofs.Replicas.{MayGain, shown_word, unended}}
use Rattle.dr_program.specs.Reading.{Shared, letters_of, world_of, word_of, in_view, kept_count, kept_word, left_in}
use Rattle.dr_program.specs.Replica.{Replica, me, count, item, promise, gained, greatest}
use Rattle.dr_program.proofs.Present.{present_kept, present_set, present_within}

-- all that the world has of one member
pub record Holding : Type 0 where
  pub view : ℕ
  pub own : ℕ → ℕ → ℕ
  pub count : ℕ → ℕ → ℕ
  pub item : ℕ → ℕ → Item
  pub sent : ℕ → List SentItem
  pub history : List Entry
  pub log : List Entry
  pub votes : List Vote
  pub durable : ℕ
  pub acts : ℕ
  pub members : ℕ
  pub came_from : ℕ
  pub given : ℕ
  pub suspects : ℕ
  pub promise : ℕ
  pub tag : ℕ
  pub value : Value
  pub committed : Option Value
  pub pending : Option Vote
  pub next : ℕ
  pub base : ℕ
  pub seen : ℕ → ℕ → ℕ
  pub turns : ℕ
  pub end : Option End

abbrev pub held : World → ℕ → Holding
held w m = record {
  view = w.past.view m;
  own = w.past.own m;
  count = w.past.count m;
  sent = w.past.sent m;
  history = w.past.history m;
  log = w.past.log m;
  votes = w.past.votes m;
  durable = w.past.durable m;
  acts = w.past.acts m;
  members = w.members m;
  came_from = w.came_from m;
  given = w.given m;
  suspects = w.suspects m;
  promise = w.promise m;
  tag = w.tag m;
  value = w.value m;
  committed = w.committed m;
  pending = w.pending m;
  item = w.item m;
  next = w.next m;
  base = w.base m;
  seen = w.seen m;
  turns = w.turns m;
  end = w.end m;
}

-- the world in which each member has this
abbrev pub gathered : (ℕ → Holding) → (ℕ → ℕ → ℕ → ℕ → ℕ) → (ℕ → Option (List Entry)) → World
gathered h table letter = record {
  past = record {
    view = λ m. (h m).view;
    own = λ m. (h m).own;
    count = λ m. (h m).count;
    sent = λ m. (h m).sent;
    history = λ m. (h m).history;
    log = λ m. (h m).log;
    votes = λ m. (h m).votes;
    durable = λ m. (h m).durable;
    acts = λ m. (h m).acts;
  };
  members = λ m. (h m).members;
  came_from = λ m. (h m).came_from;
  given = λ m. (h m).given;
  suspects = λ m. (h m).suspects;
  promise = λ m. (h m).promise;
  tag = λ m. (h m).tag;
  value = λ m. (h m).value;
  committed = λ m. (h m).committed;
  pending = λ m. (h m).pending;
  item = λ m. (h m).item;
  next = λ m. (h m).next;
  base = λ m. (h m).base;
  seen = λ m. (h m).seen;
  turns = λ m. (h m).turns;
  end = λ m. (h m).end;
  table = table;
  letter = letter;
}

-- worlds in which each member has the same, with the same table and letters, are one
pub same_worlds : (w v : World) → ((m : ℕ) → held w m ≡ held v m) → w.table ≡ v.table → w.letter ≡ v.letter → w ≡ v
same_worlds w v members table letter =
    let holdings : held w ≡ held v = fun_ext members in λ z. gathered (holdings z) (table z) (letter z)

-- what replica r has
abbrev pub holding_of : Group → Replica → Holding
holding_of g r = record {
  view = r.view;
  own = λ v c. in_view r v (own r.rows c) (kept_word r v c);
  count = λ v s. in_view r v (count r s) (kept_count r v s);
  item = λ s k. if nat_lt s (roster g) then item r s k else Null;
  sent = λ v. in_view r v r.sent (left_in r v).sent;
  history = r.history;
  log = take r.logged r.history;
  votes = r.votes;
  durable = r.durable;
  acts = r.acts;
  members = r.members;
  came_from = r.came_from;
  given = r.given;
  suspects = r.suspects;
  promise = promise r;
  tag = r.tag;
  value = r.value;
  committed = r.committed;
  pending = r.pending;
  next = r.next;
  base = r.base;
  seen = λ i c. if i == me r then 0 else seen r.rows i c;
  turns = r.turns;
  end = r.end;
}

-- the world has of a member what its replica has
pub held_of : (g : Group) (rs : List (Option Replica)) (table : Shared) (m : ℕ) (r : Replica)
    → present_at rs m ≡ Some r → held (world_of g rs table) m ≡ holding_of g r
held_of g rs table m r e = rw e refl

-- and of a member that is absent, what the opening has
pub held_past : (g : Group) (rs : List (Option Replica)) (table : Shared) (m : ℕ)
    → present_at rs m ≡ None → held (world_of g rs table) m ≡ held (opening_world g) m
held_past g rs table m e = rw e refl

-- the same where two lists have the same replica
pub held_same : (g : Group) (rs qs : List (Option Replica)) (table cells : Shared) (m : ℕ)
    → present_at rs m ≡ present_at qs m → held (world_of g rs table) m ≡ held (world_of g qs cells) m
held_same g rs qs table cells m e = rw e refl

-- the world after a change of member m alone, that leaves of it what stands in `after`
pub record Changes (w v : World) (m : ℕ) (after : Holding) : Type 0 where
  pub others : (k : ℕ) → k ≢ m → held v k ≡ held w k
  pub here : held v m ≡ after

-- where one replica is replaced, the world is the one in which it alone is changed
pub changed_world : (g : Group) (rs : List (Option Replica)) (table cells : Shared) (m : ℕ) (r : Replica)
    (v : World) → m < length rs → Changes (world_of g rs table) v m (holding_of g r) → word_of g cells.words ≡ v.table
    → letters_of cells.letters ≡ v.letter → world_of g (with_present rs m r) cells ≡ v
changed_world g rs table cells m r v within changes cell letter =
    same_worlds (world_of g (with_present rs m r) cells) v (λ k. elim (cases_eq k m) [
      | inl same ↦ rw same (held_of g (with_present rs m r) cells m r (present_set rs m r within) ∙ sym changes.here)
      | inr other ↦ held_same g (with_present rs m r) rs cells table k (present_kept rs m k r other)
          ∙ sym (changes.others k other)
    ]) cell letter

abbrev pub beat_after : Holding → Holding
beat_after h = record h { turns = one_more 32 h.turns }

pub beat_changes : (w : World) (m : ℕ) → Changes w (beats w m) m (beat_after (held w m))
beat_changes w m = record { others = λ k other. rw (other_number k m other) refl; here = rw (same_number m) refl }

abbrev pub end_after : End → Holding → Holding
end_after end h = record h { end = Some end }

pub end_changes : (w : World) (m : ℕ) (end : End) → Changes w (effects.ends w m end) m (end_after end (held w m))
end_changes w m end = record { others = λ k other. rw (other_number k m other) refl; here = rw (same_number m) refl }

abbrev pub deliver_after : Holding → Holding
deliver_after h =
    let ms = members_of h.members in
    let s = slice_index ms (h.next % length ms) in
    record h { history = h.history ++ entries_of h.history s (h.item s (h.next / length ms)); next = h.next + 1 }

pub deliver_changes : (w : World) (m : ℕ) → Changes w (delivers w m) m (deliver_after (held w m))
deliver_changes w m = record { others = λ k other. rw (other_number k m other) refl; here = rw (same_number m) refl }

abbrev pub append_after : Holding → Holding
append_after h = record h { log = h.log ++ take 1 (drop (length h.log) h.history) }

pub append_changes : (w : World) (m : ℕ) → Changes w (appends w m) m (append_after (held w m))
append_changes w m = record { others = λ k other. rw (other_number k m other) refl; here = rw (same_number m) refl }

abbrev pub report_after : ℕ → Holding → Holding
report_after m h = record h {
  durable = fold min (2 ^ 64 - 1)
      (map (λ i. if i == m then h.own h.view LOGGED_COLUMN else h.seen i LOGGED_COLUMN) (members_of h.members));
}

pub report_changes : (w : World) (m : ℕ) → Changes w (reports w m) m (report_after m (held w m))
report_changes w m = record { others = λ k other. rw (other_number k m other) refl; here = rw (same_number m) refl }

-- what a history comes to by a place, where this is what a member has
abbrev pub place_from : Holding → List Entry → ℕ → List Entry
place_from h history p =
    let ms = members_of h.members in
    let s = slice_index ms (p % length ms) in history ++ entries_of history s (h.item s (p / length ms))

abbrev pub history_from : Group → Value → Holding → List Entry
history_from g x h =
    fold (place_from h) h.history (rest_places (map (λ s. slice_index x.trim s) (members_of h.members)) h.next)
    ++ View g.opening.age (h.view + 1) (next_members h.members x.leavers) ∷ []

abbrev pub finish_after : Group → ℕ → Value → Holding → Holding
finish_after g m x h = record h {
  view = h.view + 1;
  own = at₂ h.own (h.view + 1) LOGGED_COLUMN (length h.log);
  history = history_from g x h;
  members = next_members h.members x.leavers;
  came_from = h.members;
  given = 0;
  suspects = 0;
  promise = 0;
  tag = 0;
  value = no_value;
  committed = None;
  item = λ s k. Null;
  next = 0;
  base = length (messages_from m (history_from g x h));
  seen = λ i c. 0;
}

pub finish_changes : (g : Group) (w : World) (m : ℕ) (x : Value)
    → Changes w (finishes_by g w m x) m (finish_after g m x (held w m))
finish_changes g w m x = record {
  others = λ k other. rw (other_number k m other) refl;
  here = rw (same_number m) refl;
}

-- what a member has with an item more of s, where these were its own words and its counts in its view
abbrev pub gain_from : ℕ → Item → Holding → (ℕ → ℕ) → (ℕ → ℕ) → Holding
gain_from s x h own count =
    let counts = at count s (count s + 1) in record h {
      count = at h.count h.view counts;
      item = at₂ h.item s (count s) x;
      own = at h.own h.view (at (at own (recv_column s) (recv_word (count s + 1) false)) RECEIVED_COLUMN
          (front_of (map counts (members_of h.members))));
    }

abbrev pub gain_after : ℕ → Item → Holding → Holding
gain_after s x h = gain_from s x h (h.own h.view) (h.count h.view)

pub gain_changes : (w : World) (m s : ℕ) (item : Item) → Changes w (gains w m s item) m (gain_after s item (held w m))
gain_changes w m s item = record {
  others = λ k other. rw (other_number k m other) refl;
  here = rw (same_number m) refl;
}

-- what a replica has in its own view
pub own_here : (g : Group) (r : Replica) → (holding_of g r).own r.view ≡ own r.rows
own_here g r = fun_ext λ d. rw (same_number r.view) refl

-- and the counts of a replica in its view
pub count_here : (g : Group) (r : Replica) → (holding_of g r).count r.view ≡ count r
count_here g r = fun_ext λ t. rw (same_number r.view) refl

-- the items of a replica with one more
pub gained_items : (g : Group) (r : Replica) (s : ℕ) (x : Item) → MayGain g r s
    → (holding_of g (gained r s x)).item ≡ at₂ (holding_of g r).item s (count r s) x
gained_items g r s x may = fun_ext λ t. fun_ext λ l. item_written
    (λ i j. slice_index_or r.items (j * r.roster + i) Null) (roster g) s
    (count r s) t l x (slice_index_or (slice_set r.items (count r s * r.roster + s) x) (l * r.roster + t) Null)
    (omega (arith, may.sender, may.roster)) (λ within. item_set r.items r.roster
    (count r s) s x (greatest r.totals) l t may.items may.few may.sender (omega (arith, within, may.roster)))

abbrev pub look_after : (ℕ → ℕ → ℕ → ℕ → ℕ) → ℕ → ℕ → ℕ → Holding → Holding
look_after table m i c h = record h { seen = at₂ h.seen i c (table h.view m i c) }

pub look_changes : (w : World) (m i c : ℕ) → Changes w (looks w m i c) m (look_after w.table m i c (held w m))
look_changes w m i c = record { others = λ k other. rw (other_number k m other) refl; here = rw (same_number m) refl }

pub push_changes : (w : World) (m j c : ℕ) → Changes w (pushes w m j c) m (held w m)
push_changes w m j c = record { others = λ k other. refl; here = refl }

-- the world with replica r of member m replaced by q, where a change of that member alone makes the same of
-- what it has
pub replaced : (g : Group) (rs : List (Option Replica)) (table cells : Shared) (m : ℕ) (r q : Replica)
    (v : World) (after : Holding → Holding) → present_at rs m ≡ Some r
    → Changes (world_of g rs table) v m (after (held (world_of g rs table) m)) → after (holding_of g r)
    ≡ holding_of g q → word_of g cells.words ≡ v.table → letters_of cells.letters ≡ v.letter
    → world_of g (with_present rs m q) cells ≡ v
replaced g rs table cells m r q v after there changes same cell letter =
    changed_world g rs table cells m q v (present_within rs m r there) (record {
      others = changes.others;
      here = changes.here ∙ ap after (held_of g rs table m r there) ∙ same;
    }) cell letter

abbrev pub own_after : ℕ → ℕ → Holding → Holding
own_after c x h = record h { own = at₂ h.own h.view c x }

pub own_changes : (w : World) (m c x : ℕ) → Changes w (effects.with_own w m c x) m (own_after c x (held w m))
own_changes w m c x = record { others = λ k other. rw (other_number k m other) refl; here = rw (same_number m) refl }

abbrev pub stamp_after : Holding → Holding
stamp_after h = record h { acts = one_more 64 h.acts; own = at₂ h.own h.view BEAT_COLUMN (one_more 64 h.acts) }

pub stamp_changes : (w : World) (m : ℕ) → Changes w (stamped w m) m (stamp_after (held w m))
stamp_changes w m = record { others = λ k other. rw (other_number k m other) refl; here = rw (same_number m) refl }

-- the word that a member shows is the seen one of its replica
pub shown_seen : (g : Group) (rs : List (Option Replica)) (table : Shared) (m : ℕ) (r : Replica) (i c : ℕ)
    → present_at rs m ≡ Some r → me r ≡ m → shown (world_of g rs table) m i c ≡ seen r.rows i c
shown_seen g rs table m r i c there number =
    let show : Holding → ℕ = λ h. if i == m then h.own h.view c else h.seen i c in
    ap show (held_of g rs table m r there) ∙ shown_word r m i c number

-- and its own word the own one
pub own_shown : (g : Group) (rs : List (Option Replica)) (table : Shared) (m : ℕ) (r : Replica) (c : ℕ)
    → present_at rs m ≡ Some r → own_word (world_of g rs table) m c ≡ own r.rows c
own_shown g rs table m r c there =
    let show : Holding → ℕ = λ h. h.own h.view c in
    ap show (held_of g rs table m r there) ∙ rw (same_number r.view) refl

-- what a member has once it suspects j too, where these were its own words in its view
abbrev pub suspect_from : Group → ℕ → Holding → (ℕ → ℕ) → Holding
suspect_from g j h own =
    let mask = with_member h.suspects j in
    let promise = least_of (without h.members mask) in record h {
      own = at h.own h.view (λ c. wedged_word (roster g) h.members mask promise c (own c));
      suspects = mask;
      promise = promise;
    }

abbrev pub suspect_after : Group → ℕ → Holding → Holding
suspect_after g j h = suspect_from g j h (h.own h.view)

pub suspect_changes : (g : Group) (w : World) (m j : ℕ) → Changes w (suspects g w m j) m (suspect_after g j (held w m))
suspect_changes g w m j = record {
  others = λ k other. rw (other_number k m other) refl;
  here = rw (same_number m) refl;
}

abbrev pub vote_after : Group → Value → Holding → Holding
vote_after g v h = record h {
  votes = h.votes ++ vote_in g h.view h.promise v ∷ [];
  pending = Some (vote_in g h.view h.promise v);
}

pub vote_changes : (g : Group) (w : World) (m : ℕ) (v : Value)
    → Changes w (logs_vote g w m v) m (vote_after g v (held w m))
vote_changes g w m v = record { others = λ k other. rw (other_number k m other) refl; here = rw (same_number m) refl }

abbrev pub commit_after : Holding → Holding
commit_after h = record h { committed = Some h.value }

pub commit_changes : (w : World) (m : ℕ) → Changes w (commits w m) m (commit_after (held w m))
commit_changes w m = record { others = λ k other. rw (other_number k m other) refl; here = rw (same_number m) refl }

-- what a member has once it has accepted this vote, where these were its own words in its view
abbrev pub accept_from : Group → Holding → Vote → (ℕ → ℕ) → Holding
accept_from g h vote own = record h {
  own = at h.own h.view (λ c. accepted_word (roster g) h.members (vote.ballot + 1) vote.value c (own c));
  tag = vote.ballot + 1;
  value = vote.value;
  pending = None;
}

abbrev pub accept_after : Group → Holding → Holding
accept_after g h = accept_from g h (unwrap_or h.pending no_vote) (h.own h.view)

pub accept_changes : (g : Group) (w : World) (m : ℕ) → Changes w (accepts g w m) m (accept_after g (held w m))
accept_changes g w m = record { others = λ k other. rw (other_number k m other) refl; here = rw (same_number m) refl }

-- the history that a member has is whole
abbrev pub IsWhole : Group → Holding → Type 0
IsWhole g h = (s : ℕ) → has h.members s ≡ true → length (messages_from s h.history) ≡ length (messages_of g.opening s)

-- what member m has come to after r rounds, where nobody has more than `most` messages left
pub record IsAlong (g : Group) (most r m : ℕ) (h : Holding) : Type 0 where
  -- to items
  pub come : HasCome (roster g) (messages_left g.opening) r m (h.count 0)
  -- to all messages, on its log, with a logged word that says so
  pub whole : 3 * most + 1 ≤ r → IsWhole g h × (length h.history ≤ h.own 0 LOGGED_COLUMN)
  -- to showing done
  pub done : 3 * most + 2 ≤ r → h.own 0 DONE_COLUMN ≡ 1

-- before the first round nothing is asked
pub along_none : (g : Group) (most m : ℕ) (h : Holding) → IsAlong g most 0 m h
along_none g most m h = record {
  come = come_none (roster g) (messages_left g.opening) m (h.count 0);
  whole = λ late. absurd (omega (arith, late));
  done = λ late. absurd (omega (arith, late));
}

-- who has come as far as a round more brings it has come so far before
pub along_less : (g : Group) (most r m : ℕ) (h : Holding) → IsAlong g most (r + 1) m h → IsAlong g most r m h
along_less g most r m h a = record {
  come = come_less (roster g) (messages_left g.opening) r m (h.count 0) a.come;
  whole = λ late. a.whole (omega (arith, late));
  done = λ late. a.done (omega (arith, late));
}

-- the world of the replicas is that world
pub unended_world : (g : Group) (rs : List (Option Replica)) (table : Shared) (m : ℕ) (r : Replica)
    → present_at rs m ≡ Some r → world_of g (with_present rs m (unended r)) table ≡ unended_in (world_of g rs table) m
unended_world g rs table m r there =
    changed_world g rs table table m (unended r) (unended_in w m) (present_within rs m r there) (record {
      others = λ k other. rw (other_number k m other) refl;
      here = here;
    }) refl refl
  where
    w : World
    w = world_of g rs table

    here : held (unended_in w m) m ≡ holding_of g (unended r)
    here = alone ∙ ap (λ (h : Holding). record h { end = None }) (held_of g rs table m r there)
      where
        alone : held (unended_in w m) m ≡ record (held w m) { end = None }
        alone = rw (same_number m) refl
