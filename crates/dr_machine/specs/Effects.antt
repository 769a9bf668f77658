-- What each event makes of the world.
use Rattle.std.specs.Prelude.{ℕ, ◌%◌, ◌+◌, ◌-◌, ◌^◌, ◌&&◌, nat_le, nat_lt, min, false, if◌then◌else◌, List, [], ◌∷◌, ◌++◌, length, map, fold, take, drop, slice_index, slice_index_or, unwrap_or, None, Some}
use Rattle.dr_entry.specs.declared.{end.{End.End, SentItem.{SentItem, TheVariants.Index}}, entry.Entry.Entry}
use Rattle.dr_entry.specs.declared.entry.{Entry.TheVariants.{View, Msg}, Item.{Item, TheVariants.{Null, Text}}}
use Rattle.dr_entry.specs.declared.record.{Value.Value, Vote.Vote}
use Rattle.dr_entry.specs.declared.end.SentItem.TheVariants as sent_items
use Rattle.dr_history.specs.{History.{last_view, messages_of, up_to_view}, Order.messages_from}
use Rattle.dr_history.specs.Places.{front_of, rest_places}
use Rattle.dr_ring.specs.{Pieces.pieces, Slots.{slot_column, item_in}}
use Rattle.dr_words.specs.{Columns.recv_column, Masks.{least_of, next_members, with_member, without}}
use Rattle.dr_words.specs.{Packing.{ring_word, recv_word}, Rewrites.{accepted_word, wedged_word}}
use Rattle.dr_words.specs.declared.column.TheConstants.{BEAT_COLUMN, RECEIVED_COLUMN, LOGGED_COLUMN, DONE_COLUMN}
use Rattle.dr_machine.specs.{Group.{Group, roster}, Guards.{next_index, seen_slot}, Votes.vote_in}
use Rattle.dr_machine.specs.World.{World, no_vote, own_word, items_received, shown, view_members, item_at_place, no_value}
use Rattle.dr_machine.specs.Writes.{at, at₂, at₃, at₄}

-- one more, and at most the greatest number of so many bits
abbrev pub one_more : ℕ → ℕ → ℕ
one_more bits n = min (n + 1) (2 ^ bits - 1)

-- an own word of m
abbrev pub with_own : World → ℕ → ℕ → ℕ → World
with_own w m c v = record w { past = record w.past { own = at₃ w.past.own m (w.past.view m) c v } }

-- an act of m in the view v: the number of acts rises by one, and the own beat word of that view takes it and
-- is stored in m's own copy
abbrev pub stamped_in : World → ℕ → ℕ → World
stamped_in w m v =
    let acts = one_more 64 (w.past.acts m) in record w {
      past = record w.past {
        acts = at w.past.acts m acts;
        own = at₃ w.past.own m v BEAT_COLUMN acts;
      };
      table = at₄ w.table v m m BEAT_COLUMN acts;
    }

-- in the view that m is in
abbrev pub stamped : World → ℕ → World
stamped w m = stamped_in w m (w.past.view m)

abbrev pub beats : World → ℕ → World
beats w m = record w { turns = at w.turns m (one_more 32 (w.turns m)) }

abbrev pub looks : World → ℕ → ℕ → ℕ → World
looks w m i c = record w { seen = at₃ w.seen m i c (w.table (w.past.view m) m i c) }

abbrev pub pushes : World → ℕ → ℕ → ℕ → World
pushes w m j c = record w { table = at₄ w.table (w.past.view m) j m c (own_word w m c) }

-- m has one item more of s: the recv word of s and the received word follow
abbrev pub gains : World → ℕ → ℕ → Item → World
gains w m s item =
    let v = w.past.view m in
    let k = items_received w m s in
    let counts = at (w.past.count m v) s (k + 1) in record w {
      past = record w.past {
        count = at₂ w.past.count m v counts;
        own = at₂ w.past.own m v (at
            (at (w.past.own m v) (recv_column s) (recv_word (k + 1) false)) RECEIVED_COLUMN
            (front_of (map counts (view_members w m))));
      };
      item = at₃ w.item m s k item;
    }

-- a row with these pieces of item k from a column on
abbrev pub row_with : (ℕ → ℕ) → ℕ → ℕ → List ℕ → ℕ → ℕ
row_with row from k list c =
    if nat_le from c && nat_lt c (from + length list) then ring_word k
    (slice_index list (c - from)) else row c

-- m puts an item: its pieces stand in the slot, with the item's number
abbrev pub puts : Group → World → ℕ → SentItem → Item → World
puts g w m name item =
    let v = w.past.view m in
    let k = items_received w m m in
    gains (record w {
      past = record w.past {
        own = at₂ w.past.own m v (row_with (w.past.own m v) (slot_column (roster g) g.window k) k
            (pieces item));
        sent = at₂ w.past.sent m v (w.past.sent m v ++ name ∷ []);
      };
    }) m m item

abbrev pub sends : Group → World → ℕ → World
sends g w m =
    let index = next_index w m in
    puts g w m (Index index) (Text (slice_index_or (messages_of g.opening m) index []))

abbrev pub nulls : Group → World → ℕ → World
nulls g w m = puts g w m sent_items.Null Null

-- the next item of s, as m has seen it
abbrev pub next_item : Group → World → ℕ → ℕ → Item
next_item g w m s = let k = items_received w m s in unwrap_or (item_in k (seen_slot g w m s k)) Null

abbrev pub receives : Group → World → ℕ → ℕ → World
receives g w m s = gains w m s (next_item g w m s)

-- what an item of s adds to a history: a null nothing, and a message its entry, with the next index of s
abbrev pub entries_of : List Entry → ℕ → Item → List Entry
entries_of history s Null = []
entries_of history s (Text bytes) = Msg s (length (messages_from s history)) bytes ∷ []

-- the sender of a place of m's view
abbrev pub sender_at : World → ℕ → ℕ → ℕ
sender_at w m p = let ms = view_members w m in slice_index ms (p % length ms)

-- a history, and behind it what the item that m has at a place of its view adds to it
abbrev pub with_place : World → ℕ → List Entry → ℕ → List Entry
with_place w m history p =
    history ++ entries_of history (sender_at w m p) (item_at_place w m p)

abbrev pub delivers : World → ℕ → World
delivers w m =
    record w {
      past = record w.past {
        history = at w.past.history m (with_place w m (w.past.history m) (w.next m));
      };
      next = at w.next m (w.next m + 1);
    }

-- the next entry of the history goes on the log
abbrev pub appends : World → ℕ → World
appends w m =
    let log = w.past.log m in
    record w {
      past =
          record w.past { log = at w.past.log m (log ++ take 1 (drop (length log) (w.past.history m))) };
    }

abbrev pub publishes : World → ℕ → World
publishes w m = with_own w m LOGGED_COLUMN (length (w.past.log m))

-- the least word of a column over the rows of m's view
abbrev pub least_shown : World → ℕ → ℕ → ℕ
least_shown w m c = fold min (2 ^ 64 - 1) (map (λ i. shown w m i c) (view_members w m))

abbrev pub reports : World → ℕ → World
reports w m = record w {
  past =
      record w.past { durable = at w.past.durable m (least_shown w m LOGGED_COLUMN) };
}

abbrev pub marks : World → ℕ → World
marks w m = with_own w m DONE_COLUMN 1

-- m suspects or wishes for j: it receives and sends no more in its view, and promises to accept what the least
-- member that it doesn't suspect proposes
abbrev pub suspects : Group → World → ℕ → ℕ → World
suspects g w m j =
    let v = w.past.view m in
    let mask = with_member (w.suspects m) j in
    let promise = least_of (without (w.members m) mask) in record w {
      past = record w.past {
        own = at₂ w.past.own m v
            (λ c. wedged_word (roster g) (w.members m) mask promise c (w.past.own m v c));
      };
      suspects = at w.suspects m mask;
      promise = at w.promise m promise;
    }

-- the vote of m for a value: of its view, and by the ballot of the member that it has promised
abbrev pub vote_for : Group → World → ℕ → Value → Vote
vote_for g w m v = vote_in g (w.past.view m) (w.promise m) v

-- it goes on the log of m, which then acts on it
abbrev pub logs_vote : Group → World → ℕ → Value → World
logs_vote g w m v = record w {
  past = record w.past { votes = at w.past.votes m (w.past.votes m ++ vote_for g w m v ∷ []) };
  pending = at w.pending m (Some (vote_for g w m v));
}

-- m accepts the value of the vote that it has logged, by the tag of that vote's ballot
abbrev pub accepts : Group → World → ℕ → World
accepts g w m =
    let v = w.past.view m in
    let vote = unwrap_or (w.pending m) no_vote in
    let tag = vote.ballot + 1 in record w {
      past = record w.past {
        own = at₂ w.past.own m v
            (λ c. accepted_word (roster g) (w.members m) tag vote.value c (w.past.own m v c));
      };
      tag = at w.tag m tag;
      value = at w.value m vote.value;
      pending = at w.pending m None;
    }

abbrev pub commits : World → ℕ → World
commits w m = record w { committed = at w.committed m (Some (w.value m)) }

-- the value that m has committed
abbrev pub committed_value : World → ℕ → Value
committed_value w m = unwrap_or (w.committed m) no_value

-- how many items a value gives to each member of m's view, by rank
abbrev pub counts_by : World → ℕ → Value → List ℕ
counts_by w m value = map (λ s. slice_index value.trim s) (view_members w m)

-- the history of m as it ends its view with a value: the rest of the merge is delivered, place by place, and
-- behind it stands the View of the members that come of this one
abbrev pub finished_history : Group → World → ℕ → Value → List Entry
finished_history g w m value =
    fold (with_place w m) (w.past.history m) (rest_places (counts_by w m value) (w.next m))
    ++ View g.opening.age (w.past.view m + 1) (next_members (w.members m) value.leavers) ∷ []

-- m goes on in a view of these members with this history, and all is as at the beginning of a view: it
-- suspects nobody, has accepted and committed nothing, and has no items and no words of others. Its own
-- words, counts and sent items of that view are none yet, as it has never written there. It puts its
-- messages from the first one on that its history lacks
abbrev pub enters : World → ℕ → ℕ → ℕ → List Entry → World
enters w m v members history = record w {
  past = record w.past {
    view = at w.past.view m v;
    own = at₃ w.past.own m v LOGGED_COLUMN (length (w.past.log m));
    history = at w.past.history m history;
  };
  members = at w.members m members;
  came_from = at w.came_from m (w.members m);
  given = at w.given m 0;
  suspects = at w.suspects m 0;
  promise = at w.promise m 0;
  tag = at w.tag m 0;
  value = at w.value m no_value;
  committed = at w.committed m None;
  item = at w.item m (λ s k. Null);
  next = at w.next m 0;
  base = at w.base m (length (messages_from m history));
  seen = at w.seen m (λ i c. 0);
}

-- m ends its view with a value, and goes on in the next one
abbrev pub finishes_by : Group → World → ℕ → Value → World
finishes_by g w m value = enters w m (w.past.view m + 1) (next_members (w.members m) value.leavers)
    (finished_history g w m value)

abbrev pub finishes : Group → World → ℕ → World
finishes g w m = finishes_by g w m (committed_value w m)

-- the letter for j is the history of m up to the View that m is in, and m has given it
abbrev pub welcomes : World → ℕ → ℕ → World
welcomes w m j = record w {
  given = at w.given m (with_member (w.given m) j);
  letter = at w.letter j (Some (up_to_view (w.past.history m)));
}

-- m goes on from its letter, in the view of the letter's last View
abbrev pub joins : World → ℕ → World
joins w m =
    let letter = unwrap_or (w.letter m) [] in
    let view = last_view (0, 0) letter in enters w m view.0 view.1 letter

abbrev pub ends : World → ℕ → End → World
ends w m end = record w { end = at w.end m (Some end) }
