-- Acts that put and take no items, before they stamp the beat word: turns, ends, logs, reports, marks and
-- deliveries.
use Rattle.std.{specs.Prelude.Option, proofs.lemmas.List.take_all}
use Rattle.std.proofs.Common.{List, ap, arith, drop, false, inl, le_of_eq, le_refl, le_trans, length, refl, sym, take, true, ℕ, ◌++◌, ◌+◌, ◌-◌, ◌<◌, ◌^◌, ◌∙◌, ◌≡◌, ◌≤◌}
use Rattle.dr_entry.specs.{declared.{end.End.End, entry.Entry.Entry}, declared.record.Value.Value}
use Rattle.dr_history.{specs.{History.{IsPrefixOf, messages_of}, Members.has}, proofs.Keeping.prefix_shorter}
use Rattle.dr_history.proofs.Lists.{least_all, least_most, least_some, prefix_more, prefix_next}
use Rattle.dr_machine.specs.Effects.{appends, beats, delivers, ends, entries_of, least_shown, marks, publishes, reports, sender_at, with_own}
use Rattle.dr_machine.specs.{Group.{Group, IsGroup, IsPresent, roster}, Writes.{at, at₃}}
use Rattle.dr_machine.specs.{Guards.{CanDeliver, CanMark, CanReport, IsInView}, Run.{PastGrew, WordsGrew}}
use Rattle.dr_machine.{specs.World.{Past, World, item_at_place, own_word, shown}, proofs.Writes.{at_case, at₃_case}}
use Rattle.dr_machine.proofs.Worlds.{past_same, word_past, append_past, up_to_view-entries, deliver_past}
use Rattle.dr_faithful.specs.{Faithful.{Faithful, StandsOnLogs}, Tells.{HasAll, Tells, Views}}
use Rattle.dr_faithful.proofs.Beside.{in_view, same_own_keeps}
use Rattle.dr_faithful.proofs.OwnWords.{IsPlain, accepts_word, counts_word, delivered_word, form_word, old_later, own_grown, suspicions_word, closed_written, fresh_written}
use Rattle.dr_faithful.proofs.{Pasts.{tells_done, tells_later, tells_logged, words_later}, Shown.shown_le}
use Rattle.dr_words.specs.{Form.IsInForm, Grown.HasGrown, declared.column.TheConstants.{DONE_COLUMN, LOGGED_COLUMN}}
use Rattle.dr_words.proofs.{Forms.{form_done, form_free, grown_done, grown_free}, Order.HasGrown_refl}

-- ---- turns and ends

-- nothing is told of turns, ends and what was committed
pub beside_keeps : (g : Group) (V : Views) (w : World) (turns : ℕ → ℕ) (end : ℕ → Option End)
    (committed : ℕ → Option Value) → Faithful g V w
    → Faithful g V (record w { turns = turns; end = end; committed = committed })
beside_keeps g V w turns end committed f =
    let u : World = record w { turns = turns; end = end; committed = committed } in
    same_own_keeps g V w u refl (words_later g V w u (past_same w.past) refl refl refl refl f.words)
    f.logs f.delivered f.old f.form f

-- nor of letters
pub beside_letters : (g : Group) (V : Views) (w : World) (given : ℕ → ℕ) (letter : ℕ → Option (List Entry))
    → Faithful g V w → Faithful g V (record w { given = given; letter = letter })
beside_letters g V w given letter f =
    let u : World = record w { given = given; letter = letter } in
    same_own_keeps g V w u refl (words_later g V w u (past_same w.past) refl refl refl refl f.words)
    f.logs f.delivered f.old f.form f

-- a turn begins
pub beat_keeps : (g : Group) (V : Views) (w : World) (m : ℕ) → Faithful g V w → Faithful g V (beats w m)
beat_keeps g V w m f = beside_keeps g V w (beats w m).turns w.end w.committed f

-- a member ends
pub end_keeps : (g : Group) (V : Views) (w : World) (m : ℕ) (end : End) → Faithful g V w → Faithful g V (ends w m end)
end_keeps g V w m end f = beside_keeps g V w w.turns (ends w m end).end w.committed f

-- ---- one own word

-- the words after one own word has grown
pub word_grew : (g : Group) (w : World) (m c x : ℕ) → HasGrown (roster g) c (own_word w m c) x
    → WordsGrew g w (with_own w m c x)
word_grew g w m c x grown = record {
  own = own_grown g w.past.own m (w.past.view m) c x grown;
  table = λ v j i k. HasGrown_refl (roster g) k (w.table v j i k);
  seen = λ a i k e. HasGrown_refl (roster g) k (w.seen a i k);
}

-- one own word has grown, and tells
word_keeps : (g : Group) (V : Views) (w : World) (m c x : ℕ) → IsPlain c → IsInView w m
    → HasGrown (roster g) c (own_word w m c) x → IsInForm (roster g) c x
    → Tells g V w.past m (w.past.view m) c x → Faithful g V w → Faithful g V (with_own w m c x)
word_keeps g V w m c x plain inside grown form told f = record {
  beginning = f.beginning;
  views = f.views;
  items = f.items;
  sent = f.sent;
  counts = counts_word g V w.past.view w.suspects w.past.own w.past.count m (w.past.view m) c x plain f.counts;
  suspicions = suspicions_word g V w.past.view w.suspects w.promise w.past.own m (w.past.view m) c x plain
      f.suspicions;
  accepts = accepts_word g V w.past.view w.promise w.tag w.value w.pending w.past.own m (w.past.view m) c x
      plain f.accepts;
  words = record {
    own = at₃_case (λ i v k z. Tells g V past i v k z) w.past.own m (w.past.view m) c x
        (λ i v k. tells_later g V w.past past i v k (w.past.own i v k) grew (f.words.own i v k))
        (tells_later g V w.past past m (w.past.view m) c x grew told);
    table = λ v j i k. tells_later g V w.past past i v k (w.table v j i k) grew (f.words.table v j i k);
    seen = λ a i k. tells_later g V w.past past i (w.past.view a) k (w.seen a i k) grew (f.words.seen a i k);
  };
  logs = f.logs;
  delivered = delivered_word g V w.past.view w.next w.past.own m (w.past.view m) c x plain f.delivered;
  fresh = fresh_written g V w.past.view w.past.own w.past.count m (w.past.view m) _ (le_refl (w.past.view m))
      (in_view g V w m f inside) f.fresh;
  closed = closed_written g V w.past.view w.past.own m _ f.closed;
  old = old_later g w.past.view w.past.own (at₃ w.past.own m (w.past.view m) c x) w.table w.seen
      (own_grown g w.past.own m (w.past.view m) c x grown) f.old;
  form = form_word g w.past.own w.table w.seen m (w.past.view m) c x form f.form;
}
  where
    past : Past
    past = (with_own w m c x).past

    grew : PastGrew w.past (with_own w m c x).past
    grew = word_past w m c x

publish_grown : (g : Group) (V : Views) (w : World) (m : ℕ) → Faithful g V w
    → HasGrown (roster g) LOGGED_COLUMN (own_word w m LOGGED_COLUMN) (length (w.past.log m))
publish_grown g V w m f = grown_free (roster g) LOGGED_COLUMN _ _ (inl (omega arith, omega arith))
    ((f.words.own m (w.past.view m) LOGGED_COLUMN).logged refl)

-- the logged word grows
pub publish_grew : (g : Group) (V : Views) (w : World) (m : ℕ) → Faithful g V w → WordsGrew g w (publishes w m)
publish_grew g V w m f = word_grew g w m LOGGED_COLUMN (length (w.past.log m)) (publish_grown g V w m f)

-- the logged word tells of the log
pub publish_keeps : (g : Group) (V : Views) (w : World) (m : ℕ) → IsInView w m → Faithful g V w
    → Faithful g V (publishes w m)
publish_keeps g V w m inside f =
    let log : ℕ = length (w.past.log m) in
    word_keeps g V w m LOGGED_COLUMN log (omega arith, omega arith, omega arith) inside (publish_grown g V w m f)
    (form_free (roster g) LOGGED_COLUMN log (inl (omega arith, omega arith)))
    (tells_logged g V w.past m (w.past.view m) log (le_refl log)) f

mark_grown : (g : Group) (V : Views) (w : World) (m : ℕ) → Faithful g V w
    → HasGrown (roster g) DONE_COLUMN (own_word w m DONE_COLUMN) 1
mark_grown g V w m f = grown_done (roster g) (own_word w m DONE_COLUMN)
    ((f.words.own m (w.past.view m) DONE_COLUMN).done refl).0

-- the done word grows
pub mark_grew : (g : Group) (V : Views) (w : World) (m : ℕ) → Faithful g V w → WordsGrew g w (marks w m)
mark_grew g V w m f = word_grew g w m DONE_COLUMN 1 (mark_grown g V w m f)

-- the done word tells that all is there
pub mark_keeps : (g : Group) (V : Views) (w : World) (m : ℕ) → CanMark g w m → Faithful g V w
    → Faithful g V (marks w m)
mark_keeps g V w m can f = word_keeps g V w m DONE_COLUMN 1 (omega arith, omega arith, omega arith) can.may.inside
    (mark_grown g V w m f) (form_done (roster g) 1 (le_refl 1)) (tells_done g V w.past m (w.past.view m) mine) f
  where
    mine : HasAll g (V (w.past.view m)) (take (w.past.durable m) (w.past.history m))
    mine s h =
        let all : take (w.past.durable m) (w.past.history m)
        ≡ w.past.history m = take_all (w.past.durable m) (w.past.history m) (le_of_eq (sym can.durable)) in
        rw (all, can.whole s (ap (λ k. has k s) (f.views.own m) ∙ h)) (le_refl (length (messages_of g.opening s)))

-- ---- the log

-- and is a front of the history still
pub append_keeps : (g : Group) (V : Views) (w : World) (m : ℕ) → Faithful g V w → Faithful g V (appends w m)
append_keeps g V w m f = same_own_keeps g V w (appends w m) refl
    (words_later g V w (appends w m) (append_past w m) refl refl refl refl f.words) (record {
      bounded = f.logs.bounded;
      front = at_case (λ i l. IsPrefixOf l (w.past.history i)) w.past.log m (w.past.log m ++ one)
          (λ i d. f.logs.front i) (prefix_next (w.past.log m) (w.past.history m) (f.logs.front m));
      safe = λ a l. let old = f.logs.safe a l in record {
        own = le_trans old.own (longer a);
        since = old.since;
        come = old.come;
        before = old.before;
        logged = λ i h. le_trans (old.logged i h) (longer i);
        stayed = λ i h e. le_trans (old.stayed i h e) (longer i);
      };
      small = f.logs.small;
    }) f.delivered f.old f.form f
  where
    one : List Entry
    one = take 1 (drop (length (w.past.log m)) (w.past.history m))

    longer : (i : ℕ) → length (w.past.log i) ≤ length (at w.past.log m (w.past.log m ++ one) i)
    longer i = prefix_shorter (w.past.log i) (at w.past.log m (w.past.log m ++ one) i) ((append_past w m).log i)

-- ---- what is durable

-- every member of the view shows more than was known to be durable
report_rises : (g : Group) (V : Views) (w : World) (m : ℕ) → CanReport g w m → Faithful g V w
    → w.past.durable m ≤ least_shown w m LOGGED_COLUMN
report_rises g V w m can f = least_all (λ i. shown w m i LOGGED_COLUMN) (w.members m) (2 ^ 64 - 1) (w.past.durable m)
    (omega (arith, f.logs.small m)) (λ i h. omega (arith, can.logged i h))

-- more is known to be durable
pub report_past : (g : Group) (V : Views) (w : World) (m : ℕ) → CanReport g w m → Faithful g V w
    → PastGrew w.past (reports w m).past
report_past g V w m can f =
    let same = past_same w.past in record {
      view = same.view;
      count = same.count;
      sent = same.sent;
      history = same.history;
      log = same.log;
      votes = same.votes;
      durable = at_case (λ i d. w.past.durable i ≤ d) w.past.durable m (least_shown w m LOGGED_COLUMN)
          (λ i d. le_refl (w.past.durable i)) (report_rises g V w m can f);
      acts = same.acts;
    }

-- and stands on the logs of all members of the view
pub report_keeps : (g : Group) (V : Views) (w : World) (m : ℕ) → IsGroup g → CanReport g w m
    → Faithful g V w → Faithful g V (reports w m)
report_keeps g V w m is can f = same_own_keeps g V w (reports w m) refl
    (words_later g V w (reports w m) (report_past g V w m can f) refl refl refl refl f.words) (record {
      bounded = f.logs.bounded;
      front = f.logs.front;
      safe = at_case (λ a d. IsPresent g a → StandsOnLogs g V w.past.log (w.past.history a) a (w.past.view a) d)
          w.past.durable m least (λ a d. f.logs.safe a) (λ l. record {
            own = logged m (in_view g V w m f can.may.inside);
            since = w.past.view m;
            come = le_refl (w.past.view m);
            before = λ less. absurd (omega (arith, less));
            logged = logged;
            stayed = λ i h e. logged i h;
          });
      small = at_case (λ a d. d < 2 ^ 64) w.past.durable m least (λ a d. f.logs.small a)
          (omega (arith, least_most (λ i. shown w m i LOGGED_COLUMN) (w.members m) (2 ^ 64 - 1)));
    }) f.delivered f.old f.form f
  where
    least : ℕ
    least = least_shown w m LOGGED_COLUMN

    logged : (i : ℕ) → has (V (w.past.view m)) i ≡ true → least ≤ length (w.past.log i)
    logged i h =
        let member : has (w.members m) i ≡ true = ap (λ k. has k i) (f.views.own m) ∙ h in
        let few : i < 16 = le_trans (f.views.within (w.past.view m) i h) is.most_members in
        le_trans (least_some (λ k. shown w m k LOGGED_COLUMN) (w.members m) (2 ^ 64 - 1) i few member)
        (le_trans (shown_le g V w m i LOGGED_COLUMN f) ((f.words.own i (w.past.view m) LOGGED_COLUMN).logged refl))

-- ---- the next place

-- a place is delivered that every member of the view holds
pub deliver_keeps : (g : Group) (V : Views) (w : World) (m : ℕ) → CanDeliver g w m → Faithful g V w
    → Faithful g V (delivers w m)
deliver_keeps g V w m can f = same_own_keeps g V w (delivers w m) refl
    (words_later g V w (delivers w m) (deliver_past w m) refl refl refl refl f.words) (record {
      bounded = f.logs.bounded;
      front = at_case (λ i l. IsPrefixOf (w.past.log i) l) w.past.history m (w.past.history m ++ new)
          (λ i d. f.logs.front i) (prefix_more (w.past.log m) (w.past.history m) new (f.logs.front m));
      safe = at_case (λ a h. IsPresent g a → StandsOnLogs g V w.past.log h a (w.past.view a) (w.past.durable a))
          w.past.history m (w.past.history m ++ new) (λ a d. f.logs.safe a) still;
      small = f.logs.small;
    }) (record {
      held = λ a i. at_case (λ x n. has (V (w.past.view x)) i ≡ true → n
          ≤ w.past.own i (w.past.view x) 2) w.next m (w.next m + 1) (λ x d. f.delivered.held x i) (λ h. shows i h) a;
      none = at_case (λ x n. has (V (w.past.view x)) x ≡ false → n ≡ 0) w.next m (w.next m + 1)
          (λ x d. f.delivered.none x) (λ out. absurd (cc (out, in_view g V w m f can.may.inside)));
    }) f.old f.form f
  where
    new : List Entry
    new = entries_of (w.past.history m) (sender_at w m (w.next m)) (item_at_place w m (w.next m))

    still : IsPresent g m → StandsOnLogs g V w.past.log (w.past.history m ++ new) m (w.past.view m) (w.past.durable m)
    still l = let old = f.logs.safe m l in record {
      own = old.own;
      since = old.since;
      come = old.come;
      before = λ less. rw (up_to_view-entries (w.past.history m) (sender_at w m (w.next m))
          (item_at_place w m (w.next m))) (old.before less);
      logged = old.logged;
      stayed = old.stayed;
    }

    shows : (i : ℕ) → has (V (w.past.view m)) i ≡ true → w.next m + 1 ≤ w.past.own i (w.past.view m) 2
    shows i h = omega (arith, can.received i (ap (λ k. has k i) (f.views.own m) ∙ h), shown_le g V w m i 2 f)
