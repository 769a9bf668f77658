-- What is held stays the members of the group, in a world that is reached.
use Rattle.std.specs.Prelude.{IfSome, None, Some, Option}
use Rattle.std.proofs.Common.{◌≡◌, ◌≢◌, refl, sym, ap, ◌∙◌, subst, ℕ, ◌+◌, ◌<◌, ◌≤◌, ◌⊎◌, inl, inr, true, false, List, [], ◌∷◌, length, take, get_or, arith}
use Rattle.std.proofs.lemmas.{Bool.{and_from, and_parts, cases_eq}, List.{length-set, take_more}}
use Rattle.dr_entry.specs.declared.entry.Entry.{Entry}
use Rattle.dr_form.specs.Letters.{IsFitting}
use Rattle.dr_history.specs.{History.up_to_view, Members.members_of}
use Rattle.dr_restart.specs.Groups.{group_of}
use Rattle.dr_words.specs.Layout.{words_of}
use Rattle.dr_machine.specs.{Acts.{CanTake, Guard, effect}, Events.{member_of, step_of}}
use Rattle.dr_machine.specs.{Group.{Group, banks, late_members}, Run.{ComesOfEvents, Happens, Run, WordsGrew}}
use Rattle.dr_machine.{specs.declared.{event.Event.Event, step.Step.Step}, proofs.Groups.{of_present, of_roster}}
use Rattle.dr_machine.proofs.Runs.{events_more, events_reached, run_on}
use Rattle.dr_program.specs.{Form.{HasForm, IsOf}, Presence.{present_at, with_present}, Reading.letters_of}
use Rattle.dr_program.specs.Replica.{Replica, is_inside, me}
use Rattle.dr_program.specs.Steps.{allows, given_to, may_take, sight, stored, stored_letters}
use Rattle.dr_program.proofs.{Fixed.{Told, join_told, told, step_told, of_told}, Joins.given_welcome}
use Rattle.dr_program.proofs.Present.{present_within, present_set, present_kept, MayGet, set_cases}
use Rattle.dr_program.proofs.{Replicas.{allowed, place_at, posts_length, stored_length}, Runs.joins_outside}
use Rattle.dr_world_laws.proofs.Worlds.{known, words_grew}
use Rattle.dr_program_laws.proofs.Letters.{letter_fits, may_get}
use Rattle.dr_world.specs.Held.{Held, its_group, its_world, shared_of, AreMembers, IsHeld}
use Rattle.dr_world.{specs.Posts.{HasLists, PostsOf, count_filled}, proofs.Letters.{enough_after, list_left}}
use Rattle.dr_world.specs.Steps.{IsReadyFor, finds_letter, joined_by, may_come, posts_after, stepped_with}
use Rattle.dr_world.proofs.{Effects.{after, in_sight, take_effect}, Guarding.{is_member, join_or_not, take_test}}

-- ---- what no event changes of a replica

-- an event leaves what a replica was told
with_told : (letter : Option (List Entry)) (table : List ℕ) (r : Replica) (s : Step)
    → told (stepped_with letter table r s) ≡ told r
with_told letter table r s = elim (join_or_not s) [
  | inl join ↦ subst (λ s. told (stepped_with letter table r s) ≡ told r) (sym join) (by letter)
  | inr (other, over) ↦ ap told (over letter table r) ∙ step_told (sight table r s) r s
]
  where
    by : (o : Option (List Entry)) → told (joined_by o r) ≡ told r
    by None = refl
    by (Some es) = join_told r es

-- ---- the members

members_kept : (g : Group) (rs : List (Option Replica)) (m : ℕ) (r q : Replica) → AreMembers g rs
    → present_at rs m ≡ Some r → HasForm q → told q ≡ told r → AreMembers g (with_present rs m q)
members_kept g rs m r q are there form same = record {
  all = length-set rs m (Some q) ∙ are.all;
  there = λ k below here. still k (cases_eq k m) (are.there k below here);
  form = λ k x is. by_form k x (set_cases rs m k q x within is);
  of = λ k x is. by_of k x (set_cases rs m k q x within is);
}
  where
    within : m < length rs
    within = present_within rs m r there

    still : (k : ℕ) → (k ≡ m) ⊎ (k ≢ m) → (x : Replica) × (present_at rs k ≡ Some x)
        → (x : Replica) × (present_at (with_present rs m q) k ≡ Some x)
    still k (inl here) (x, at) = (q, ap (present_at (with_present rs m q)) here ∙ present_set rs m q within)
    still k (inr other) (x, at) = (x, present_kept rs m k q other ∙ at)

    by_form : (k : ℕ) (x : Replica) → ((k ≡ m) × (q ≡ x)) ⊎ (present_at rs k ≡ Some x) → HasForm x
    by_form k x (inl here) = subst HasForm here.1 form
    by_form k x (inr other) = are.form k x other

    by_of : (k : ℕ) (x : Replica) → ((k ≡ m) × (q ≡ x)) ⊎ (present_at rs k ≡ Some x) → IsOf g k x
    by_of k x (inl here) = subst (IsOf g k) here.1
        (subst (λ i. IsOf g i q) (sym here.0) (of_told g m r q same (are.of m r there)))
    by_of k x (inr other) = are.of k x other

-- ---- a step

-- an event that may come is one that the replica of its member may take, and it finds its letter
pub record MayHappen (h : Held) (e : Event) (r : Replica) : Type 0 where
  pub held : IsHeld h
  pub there : present_at h.replicas (member_of e) ≡ Some r
  pub may : may_take r (step_of e) ≡ true
  pub finds : finds_letter (letters_of h.letters (member_of e)) (step_of e) ≡ true

-- it happens
happens_guard : (h : Held) (e : Event) (r : Replica) → MayHappen h e r → Guard (its_group h) (its_world h) e
happens_guard h e r x = (take_test h e r x.held x.there).0 (and_from (may_take r (step_of e)) _ x.may x.finds)

happens_effect : (h : Held) (e : Event) (r : Replica) → MayHappen h e r
    → its_world (after h e r) ≡ effect (its_group h) (its_world h) e
happens_effect h e r x = take_effect h e r x.held x.there (allowed r (step_of e) x.may) x.finds

-- what is held after it comes of events
happens_on : (h : Held) (e : Event) (r : Replica) → MayHappen h e r
    → ComesOfEvents (its_group h) (its_world (after h e r))
happens_on h e r x = events_more (its_group h) (its_world h) (its_world (after h e r)) e x.held.events
    (inl (happens_guard h e r x, happens_effect h e r x))

-- what is held after an event is held
happens_held : (h : Held) (e : Event) (r : Replica) → MayHappen h e r
    → HasForm (stepped_with (letters_of h.letters (member_of e)) h.table r (step_of e)) → IsHeld (after h e r)
happens_held h e r x form = record {
  group = x.held.group;
  members = members_kept (its_group h) h.replicas (member_of e) r
      (stepped_with (letters_of h.letters (member_of e)) h.table r (step_of e)) x.held.members x.there form
      (with_told (letters_of h.letters (member_of e)) h.table r (step_of e));
  table = stored_length h.table r (step_of e) ∙ x.held.table;
  posts = posts_length h.letters r (step_of e) ∙ x.held.posts;
  events = happens_on h e r x;
}

-- the words grow
happens_grew : (h : Held) (e : Event) (r : Replica) → MayHappen h e r
    → WordsGrew (its_group h) (its_world h) (its_world (after h e r))
happens_grew h e r x = subst (WordsGrew (its_group h) (its_world h)) (sym (happens_effect h e r x))
    (words_grew (its_group h) (its_world h) e x.held.group (known (its_group h) (its_world h) x.held.group
    (events_reached (its_group h) (its_world h) x.held.events)) (happens_guard h e r x))

-- whom a welcome gives a letter has none, and a list is left for it
happens_list : (h : Held) (e : Event) (r : Replica) (j left : ℕ) → MayHappen h e r → given_to (step_of e) ≡ Some j
    → length (members_of (late_members (its_group h))) ≤ left + count_filled h.letters
    → (0 < left) × (present_at h.letters j ≡ None) × (j < length h.letters)
happens_list h e r j left x given enough = (
  list_left g (its_world (after h e r)) h.letters j left (up_to_view r.history) x.held.group
      (events_reached g (its_world (after h e r)) (happens_on h e r x)) x.held.posts
      (ap (λ s. letters_of (stored_letters h.letters r s)) (given_welcome (step_of e) j given)) get enough,
  get.none,
  get.within,
)
  where
    g : Group
    g = its_group h

    get : MayGet (its_group h) h.letters j
    get = may_get g (its_world h) h.letters (member_of e) j x.held.group
        (events_reached g (its_world h) x.held.events) x.held.posts refl
        (subst (CanTake g (its_world h) (member_of e)) (given_welcome (step_of e) j given) (happens_guard h e r x))

-- so enough lists are left for all others
happens_lists : (h : Held) (e : Event) (r q : Replica) (p : PostsOf) → MayHappen h e r → p.letters ≡ h.letters
    → told q ≡ told r → HasLists (its_group h) h.replicas p
    → HasLists (its_group h) (with_present h.replicas (member_of e) q) (posts_after p r (step_of e))
happens_lists h e r q p x same as_told lists = record {
  enough = enough_after p.letters p.left (length (members_of (late_members (its_group h)))) r (step_of e) lists.enough
      (λ j welcome. subst (λ ls. (0 < p.left) × (present_at ls j ≡ None) × (j < length ls)) (sym same)
      (happens_list h e r j p.left x welcome
      (subst (λ ls. length (members_of (late_members (its_group h))) ≤ p.left + count_filled ls) same lists.enough)));
  room = λ k y is. by k y (set_cases h.replicas (member_of e) k q y
      (present_within h.replicas (member_of e) r x.there) is);
}
  where
    by : (k : ℕ) (y : Replica) → ((k ≡ member_of e) × (q ≡ y)) ⊎ (present_at h.replicas k ≡ Some y) → y.room ≤ p.room
    by k y (inl here) = subst (λ (z : Replica). z.room ≤ p.room) here.1
        (subst (λ (t : Told). t.room ≤ p.room) (sym as_told) (lists.room (member_of e) r x.there))
    by k y (inr other) = lists.room k y other

-- a letter that is there for a late member fits it
happens_fitting : (h : Held) (e : Event) (r : Replica) → MayHappen h e r → is_inside r ≡ false
    → IfSome (letters_of h.letters (member_of e)) (IsFitting r)
happens_fitting h e r x outside = by (letters_of h.letters (member_of e)) refl
  where
    by : (o : Option (List Entry)) → letters_of h.letters (member_of e) ≡ o → IfSome o (IsFitting r)
    by None f = tt
    by (Some letter) f = letter_fits (its_group h) h.replicas (shared_of h) (member_of e) r letter (is_member h
        (member_of e) r x.held x.there) (events_reached (its_group h) (its_world h) x.held.events) outside f

-- the table has the words of the shape that its replicas know
words_within : (h : Held) (m : ℕ) (r : Replica) → IsHeld h → present_at h.replicas m ≡ Some r
    → length h.table ≡ words_of r.roster r.window r.banks
words_within h m r is there =
    let of : IsOf (its_group h) m r = is.members.of m r there in
    is.table ∙ ap (λ n. words_of n (its_group h).window (banks (its_group h))) (sym of.members)
    ∙ ap (λ w. words_of r.roster w (banks (its_group h))) (sym of.window)
    ∙ ap (words_of r.roster r.window) (sym of.banks)

-- all is there that the event asks for
pub happens_ready : (h : Held) (e : Event) (r : Replica) (p : PostsOf) → MayHappen h e r → p.letters ≡ h.letters
    → HasLists (its_group h) h.replicas p → IsReadyFor r h.table p (step_of e)
happens_ready h e r p x same lists = record {
  may = x.may;
  words = words_within h (member_of e) r x.held x.there;
  posts = ap length same ∙ x.held.posts ∙ sym of.members;
  sight = λ i c look. in_sight h e r i c x.held x.there
      (subst (λ s. allows r s ≡ true) look (allowed r (step_of e) x.may));
  fitting = λ join. subst (λ o. IfSome o (IsFitting r)) letter
      (happens_fitting h e r x (joins_outside r (step_of e) join (allowed r (step_of e) x.may)));
  list = λ j welcome. (happens_list h e r j p.left x welcome
      (subst (λ ls. length (members_of (late_members (its_group h))) ≤ p.left + count_filled ls) same lists.enough)).0;
  room = lists.room (member_of e) r x.there;
}
  where
    of : IsOf (its_group h) (member_of e) r
    of = x.held.members.of (member_of e) r x.there

    letter : letters_of h.letters (member_of e) ≡ letters_of p.letters (me r)
    letter = ap (letters_of h.letters) (sym of.number) ∙ ap (λ ls. letters_of ls (me r)) (sym same)

-- ---- an event that can't come

-- an event that whoever stands at the place of its member may not take can't come, nor can one of a number that
-- nobody has
pub refused : (h : Held) (e : Event) (m : ℕ) (o : Option Replica) → IsHeld h → m ≡ member_of e
    → present_at h.replicas m ≡ o → may_come o (letters_of h.letters (member_of e)) (step_of e) ≡ false
    → ¬ Guard (its_group h) (its_world h) e
refused h e m (Some r) is number there not_may can =
    let at = ap (present_at h.replicas) (sym number) ∙ there in
    let may = (take_test h e r is at).1 can in absurd (cc)
refused h e m None is number there not_may can =
    let g = its_group h in
    let here = is.members.there (member_of e) (of_roster g (its_world h) e is.group can)
    (of_present g (its_world h) e can) in
    let at = ap (present_at h.replicas) (sym number) ∙ there in absurd (cc (here.1, at))

-- nobody has an event beyond the roster
pub nobody : (h : Held) (e : Event) → IsHeld h → length h.replicas ≤ member_of e
    → ¬ Guard (its_group h) (its_world h) e
nobody h e is past can = absurd
    (omega (arith, of_roster (its_group h) (its_world h) e is.group can, is.members.all, past))

-- an event that was refused
pub refused_event : (h now : Held) (e : Event) → h ≡ now → (¬ Guard (its_group h) (its_world h) e)
    → Happens (its_group now) (its_world now) e (its_world now)
refused_event h now e same not_now =
    inr (subst (λ (v : Held). ¬ Guard (its_group v) (its_world v) e) same not_now, refl)

-- ---- as the program finds them

-- a step that may come there is one of a replica that stands there
pub may_stand : (h : Held) (m n : ℕ) (e : Event) (first then : Option Replica) (letter : Option (List Entry))
    → n ≡ length h.replicas → m < n → first ≡ get_or h.replicas m first → then ≡ get_or h.replicas m then
    → may_come first letter (step_of e) ≡ true → then ≡ None → ⊥
may_stand h m n e first then letter long within one other may none =
    let same : first ≡ None = sym (place_at h.replicas m n first long within one)
    ∙ place_at h.replicas m n then long within other ∙ none in
    absurd (cc (may, ap (λ o. may_come o letter (step_of e)) same))

-- and that event comes
pub may_still : (h : Held) (m n : ℕ) (e : Event) (first then : Option Replica) (letter : Option (List Entry))
    (r : Replica) → IsHeld h → m ≡ member_of e → n ≡ length h.replicas → m < n → first ≡ get_or h.replicas m first
    → then ≡ get_or h.replicas m then → letter ≡ letters_of h.letters (member_of e)
    → may_come first letter (step_of e) ≡ true → then ≡ Some r → MayHappen h e r
may_still h m n e first then letter r is number long within one other found may some =
    let there : present_at h.replicas m ≡ Some r = place_at h.replicas m n then long within other ∙ some in
    let before : present_at h.replicas m ≡ first = place_at h.replicas m n first long within one in
    let both = and_parts (may_take r (step_of e)) _
    (sym (ap (λ o. may_come o letter (step_of e)) (sym before ∙ there)) ∙ may) in record {
      held = is;
      there = ap (present_at h.replicas) (sym number) ∙ there;
      may = both.0;
      finds = ap (λ o. finds_letter o (step_of e)) (sym found) ∙ both.1;
    }

-- an event that was taken at the replica of its member
pub record Took (h : Held) (e : Event) (after : Held) : Type 0 where
  pub guard : Guard (its_group h) (its_world h) e
  pub effect : its_world after ≡ effect (its_group h) (its_world h) e
  pub held : IsHeld after
  pub grew : WordsGrew (its_group h) (its_world h) (its_world after)

-- what the program holds after it
abbrev pub holding : Held → ℕ → Replica → List ℕ → PostsOf → Held
holding h m q cells p = record h { replicas = with_present h.replicas m q; table = cells; letters = p.letters }

-- so an event happens
pub took : (h : Held) (e : Event) (m : ℕ) (r q : Replica) (cells : List ℕ) (p posts : PostsOf) → MayHappen h e r
    → m ≡ member_of e → p.letters ≡ h.letters → HasLists (its_group h) h.replicas p
    → q ≡ stepped_with (letters_of p.letters (me r)) h.table r (step_of e) → cells ≡ stored h.table r (step_of e)
    → posts ≡ posts_after p r (step_of e) → HasForm q
    → Took h e (holding h m q cells posts) × HasLists (its_group h) (with_present h.replicas m q) posts
took h e m r q cells p posts x number same lists takes stores gives form = (
  subst (Took h e) (sym now) (record {
    guard = happens_guard h e r x;
    effect = happens_effect h e r x;
    held = happens_held h e r x (subst HasForm replica form);
    grew = happens_grew h e r x;
  }),
  subst (λ k. HasLists (its_group h) (with_present h.replicas k q) posts) (sym number)
      (subst (HasLists (its_group h) (with_present h.replicas (member_of e) q)) (sym gives)
      (happens_lists h e r q p x same (ap told replica
      ∙ with_told (letters_of h.letters (member_of e)) h.table r (step_of e)) lists)),
)
  where
    letter : letters_of p.letters (me r) ≡ letters_of h.letters (member_of e)
    letter = ap (λ ls. letters_of ls (me r)) same
        ∙ ap (letters_of h.letters) (x.held.members.of (member_of e) r x.there).number

    replica : q ≡ stepped_with (letters_of h.letters (member_of e)) h.table r (step_of e)
    replica = takes ∙ ap (λ l. stepped_with l h.table r (step_of e)) letter

    given : posts.letters ≡ stored_letters h.letters r (step_of e)
    given = ap (λ (y : PostsOf). y.letters) gives ∙ ap (λ ls. stored_letters ls r (step_of e)) same

    now : holding h m q cells posts ≡ after h e r
    now = λ z. record h {
      replicas = with_present h.replicas (number z) (replica z);
      table = stores z;
      letters = given z;
    }

-- one event more of a list
pub ran_more : (first old new : Held) (events : List Event) (i : ℕ) (d : Event) → old.script
    ≡ first.script → old.start ≡ first.start
    → i < length events → Happens (its_group old) (its_world old) (get_or events i d) (its_world new)
    → Run (its_group first) (its_world first) (take i events) (its_world old)
    → Run (its_group first) (its_world first) (take (i + 1) events) (its_world new)
ran_more first old new events i d script start within happens run =
    let same : its_group old ≡ its_group first = λ z. group_of (script z) (start z) in
    subst (λ es. Run (its_group first) (its_world first) es (its_world new)) (sym (take_more events i d within))
    (run_on (its_group first) (its_world first) (its_world old) (its_world new) (take i events)
    (get_or events i d ∷ []) run (
      its_world new,
      subst (λ g. Happens g (its_world old) (get_or events i d) (its_world new)) same happens,
      refl,
    ))
