-- Where the copies of others have room a door keeps what it sent them last.
use Rattle.std.specs.Prelude.{max, nat_le, not, slice_set, Option, None, Some}
use Rattle.std.proofs.Common.{◌≡◌, ◌≢◌, ◌⊎◌, ◌∙◌, inl, inr, refl, sym, ap, subst, ℕ, ◌<◌, ◌≤◌, ◌==◌, Bool, true, false, List, [], ◌∷◌, length, slice_index, if◌then◌else◌, length-set, arith}
use Rattle.std.proofs.lemmas.Bool.{cases_eq, cond-false, cond-true, eq-eqb, eqb-true, ne_eqb}
use Rattle.std.proofs.lemmas.List.{get_or-set_other, get_or-set_same}
use Rattle.dr_entry.proofs.ListFacts.{copy_at}
use Rattle.dr_history.specs.History.{up_to_view}
use Rattle.dr_machine.specs.Group.{Group, IsGroup, roster}
use Rattle.dr_play.proofs.Deeds.{deed_tells, push_place}
use Rattle.dr_program.specs.{Form.IsOf, Presence.{present_at, with_present}, Program.Program, Replica.me}
use Rattle.dr_program.specs.{Running.{deed, next_deed, next_step}, declared.{deed.Deed.Deed, packet.Packet.Packet}}
use Rattle.dr_program.proofs.{Copies.IsToOther, Present.{place_set, present_within}, RunningPrograms.act_is}
use Rattle.dr_program.specs.declared.deed.Deed.TheVariants as deeds
use Rattle.dr_restart.specs.{Groups.group_of, declared.start.Start.Start}
use Rattle.dr_script.specs.declared.script.Script.{Script}
use Rattle.dr_words.{specs.Layout.{word_index_of, words_of}, proofs.Columns.row_found}
use Rattle.dr_door.specs.Apart.{Apart, ApartStep, ApartWay, HaveBegunApart, IsRanApart, Letter, Sends}
use Rattle.dr_door.specs.{Coming.{came_by, copy_of, refusal, row_in}, Lone.{Lone, after_alone, is_alone, after_push}}
use Rattle.dr_door.specs.{Sending.{last_sent, last_sent_by}, declared.refused.Refused.Refused}
use Rattle.dr_door.proofs.{Apart.{IsOfDoors, begun_kept, there_is, way_kept}, Places.copy_found}
use Rattle.dr_door.specs.declared.refused.Refused.TheVariants as why

abbrev sent_in : Group → ℕ → List Packet → ℕ → ℕ
sent_in g m sent index = last_sent_by (roster g) g.window m sent index

-- what stands at each place of another's copy is what the member sent last for it
abbrev pub HoldsSent : Group → Apart → Type 0
HoldsSent g a = (m : ℕ) (d : Lone) (k : ℕ) → present_at a.doors m ≡ Some d → k < length d.words
    → copy_of (roster g) g.window k ≢ m → slice_index d.words k ≡ sent_in g m a.sent k

-- it stays so where one door keeps it, and where the others have sent nothing
holds_on : (g : Group) (a : Apart) (m : ℕ) (d x : Lone) (net : List Packet) (letters : List Letter) → HoldsSent g a
    → present_at a.doors m ≡ Some d → length x.words ≡ length d.words
    → ((k : ℕ) → k < length d.words → copy_of (roster g) g.window k ≢ m
    → slice_index d.words k ≡ sent_in g m a.sent k → slice_index x.words k ≡ sent_in g m net k)
    → ((j k : ℕ) → j ≢ m → sent_in g j net k ≡ sent_in g j a.sent k)
    → HoldsSent g (record { doors = with_present a.doors m x; sent = net; letters = letters })
holds_on g a m d x net letters holds there long own others j e k stands within apart = by (place_set a.doors m j x e stands)
  where
    by : ((j ≡ m) × (x ≡ e)) ⊎ ((j ≢ m) × (present_at a.doors j ≡ Some e)) → slice_index e.words k ≡ sent_in g j net k
    by (inl h) =
        let inside : k < length d.words = omega (arith, within, ap (λ (y : Lone). length y.words) h.1, long) in
        let away : copy_of (roster g) g.window k ≢ m = λ c. apart (c ∙ sym h.0) in
        ap (λ (y : Lone). slice_index y.words k) (sym h.1)
        ∙ own k inside away (holds m d k there inside away) ∙ ap (λ n. sent_in g n net k) (sym h.0)
    by (inr h) = holds j e k h.1 within apart ∙ sym (others j k h.0)

-- where its words are as before, and nothing was sent
holds_still : (g : Group) (a : Apart) (m : ℕ) (d x : Lone) (letters : List Letter) → HoldsSent g a
    → present_at a.doors m ≡ Some d → x.words ≡ d.words
    → HoldsSent g (record { doors = with_present a.doors m x; sent = a.sent; letters = letters })
holds_still g a m d x letters holds there same = holds_on g a m d x a.sent letters holds there (ap length same)
    (λ k within apart old. ap (λ ws. slice_index ws k) same ∙ old) (λ j k other. refl)

-- where a word is written in its own copy
holds_written : (g : Group) (a : Apart) (m : ℕ) (d x : Lone) (index word : ℕ) → HoldsSent g a
    → present_at a.doors m ≡ Some d → copy_of (roster g) g.window index ≡ m → x.words ≡ slice_set d.words index word
    → HoldsSent g (record { doors = with_present a.doors m x; sent = a.sent; letters = a.letters })
holds_written g a m d x index word holds there own same = holds_on g a m d x a.sent a.letters holds there
    (ap length same ∙ length-set d.words index word) (λ k within apart old. ap (λ ws. slice_index ws k) same
    ∙ get_or-set_other d.words index k word 0 (λ e. apart (ap (copy_of (roster g) g.window) e ∙ own)) ∙ old)
    (λ j k other. refl)

-- a word that isn't refused is for the door's own copy
copy_test : (late copy : Bool) (rest : Option Refused)
    → (if late then Some why.Place else (if not copy then Some why.Copy else rest)) ≡ None → copy ≡ true
copy_test true copy rest e = absurd (cc)
copy_test false true rest e = refl
copy_test false false rest e = absurd (cc)

own_copy : (d : Lone) (index word : ℕ) → refusal d index word ≡ None
    → copy_of d.member.replica.roster d.member.replica.window index ≡ me d.member.replica
own_copy d index word none = eqb-true (copy_of d.member.replica.roster d.member.replica.window index)
    (me d.member.replica) (copy_test (nat_le (length d.words) index)
    (copy_of d.member.replica.roster d.member.replica.window index == me d.member.replica) _ none)

of_door : (g : Group) (a : Apart) (p : Program) (m : ℕ) (d : Lone) → IsOfDoors g a p → present_at a.doors m ≡ Some d
    → IsOf g m d.member.replica
of_door g a p m d is there = is.carried.form.of m d.member (there_is g a p m d is there)

-- a packet that comes
comes_holds : (g : Group) (a : Apart) (p : Program) (m : ℕ) (d : Lone) (index word : ℕ) → IsOfDoors g a p
    → HoldsSent g a → present_at a.doors m ≡ Some d → (o : Option Refused) → refusal d index word ≡ o
    → HoldsSent g (record { doors = with_present a.doors m (came_by o d index word); sent = a.sent; letters = a.letters })
comes_holds g a p m d index word is holds there (Some cause) e = holds_still g a m d d a.letters holds there refl
comes_holds g a p m d index word is holds there None e =
    let of = of_door g a p m d is there in
    holds_written g a m d (came_by None d index word) index (max (slice_index d.words index) word) holds there
    ((λ z. copy_of (sym of.members z) (sym of.window z) index) ∙ own_copy d index word e ∙ of.number) refl

-- a deed that concerns nobody else
alone_holds : (g : Group) (a : Apart) (p : Program) (m : ℕ) (d : Lone) → IsOfDoors g a p → HoldsSent g a
    → present_at a.doors m ≡ Some d → (due : Deed) → next_deed d.member ≡ due → is_alone due ≡ true
    → HoldsSent g (record { doors = with_present a.doors m (after_alone d due); sent = a.sent; letters = a.letters })
alone_holds g a p m d is holds there (deeds.Look index) due alone =
    holds_still g a m d (after_alone d (deeds.Look index)) a.letters holds there refl
alone_holds g a p m d is holds there (deeds.Act index word) due alone =
    let r = d.member in
    let member = there_is g a p m d is there in
    let t = deed_tells p.table r (deeds.Act index word) due in
    let of = is.carried.form.of m r member in
    let at = act_is r (next_step r) index word (sym (ap (deed r) t.none) ∙ due) in
    let within : m < roster g = omega (arith, present_within p.members m r member, is.carried.form.all) in
    holds_written g a m d (after_alone d (deeds.Act index word)) index word holds there
    (copy_found (roster g) g.window r.replica.view m m 0 index within within (omega arith)
    (sym at ∙ (λ z. word_index_of (of.members z) (of.window z) r.replica.view (of.number z) (of.number z) 0))) refl
alone_holds g a p m d is holds there due same alone = absurd (cc)

-- a push
sends_holds : (g : Group) (a b : Apart) (p : Program) → IsOfDoors g a p → HoldsSent g a → (s : Sends a b)
    → HoldsSent g (record {
      doors = with_present a.doors s.number (after_push s.door (next_deed s.door.member));
      sent = s.packet ∷ a.sent;
      letters = a.letters;
    })
sends_holds g a b p is holds s = subst (λ due. HoldsSent g (record {
  doors = with_present a.doors s.number (after_push s.door due);
  sent = s.packet ∷ a.sent;
  letters = a.letters;
})) (sym s.due) (holds_on g a s.number s.door (after_push s.door (deeds.Push s.packet.index s.packet.word))
    (s.packet ∷ a.sent) a.letters holds s.there (length-set s.door.words s.packet.index s.packet.word)
    (λ k within apart old. own k within old (cases_eq s.packet.index k)) others)
  where
    to : (x : IsToOther g s.packet) × (x.row ≡ s.number)
    to = push_place g p a.sent s.number s.door.member s.packet is.carried
        (there_is g a p s.number s.door is s.there) s.due

    row : row_in (roster g) g.window s.packet.index ≡ s.number
    row = row_found (roster g) g.window to.0.view to.0.copy to.0.row to.0.column s.packet.index to.0.is.row
        to.0.is.column to.0.at ∙ to.1

    own : (k : ℕ) → k < length s.door.words → slice_index s.door.words k ≡ sent_in g s.number a.sent k
        → (s.packet.index ≡ k) ⊎ (s.packet.index ≢ k)
        → slice_index (slice_set s.door.words s.packet.index s.packet.word) k ≡ sent_in g s.number (s.packet ∷ a.sent) k
    own k within old (inl here) = ap (slice_index (slice_set s.door.words s.packet.index s.packet.word)) (sym here)
        ∙ get_or-set_same s.door.words s.packet.index s.packet.word 0 (omega (arith, within, here))
        ∙ sym (cond-true (s.packet.index == k) s.packet.word (last_sent a.sent k) (eq-eqb s.packet.index k here))
        ∙ sym (cond-true (row_in (roster g) g.window k == s.number) (last_sent (s.packet ∷ a.sent) k) 0
        (eq-eqb (row_in (roster g) g.window k) s.number (ap (row_in (roster g) g.window) (sym here) ∙ row)))
    own k within old (inr other) = get_or-set_other s.door.words s.packet.index k s.packet.word 0 (λ e. other (sym e))
        ∙ old ∙ ap (λ w. if row_in (roster g) g.window k == s.number then w else 0)
        (sym (cond-false (s.packet.index == k) s.packet.word (last_sent a.sent k) (ne_eqb s.packet.index k other)))

    others : (j k : ℕ) → j ≢ s.number → sent_in g j (s.packet ∷ a.sent) k ≡ sent_in g j a.sent k
    others j k apart = by (cases_eq (row_in (roster g) g.window k) j)
      where
        by : (row_in (roster g) g.window k ≡ j) ⊎ (row_in (roster g) g.window k ≢ j)
            → sent_in g j (s.packet ∷ a.sent) k ≡ sent_in g j a.sent k
        by (inl mine) = ap (λ w. if row_in (roster g) g.window k == j then w else 0)
            (cond-false (s.packet.index == k) s.packet.word (last_sent a.sent k) (ne_eqb s.packet.index k
            (λ e. apart (sym mine ∙ ap (row_in (roster g) g.window) (sym e) ∙ row))))
        by (inr away) =
            let not_mine = ne_eqb (row_in (roster g) g.window k) j away in
            cond-false (row_in (roster g) g.window k == j) (last_sent (s.packet ∷ a.sent) k) 0 not_mine
            ∙ sym (cond-false (row_in (roster g) g.window k == j) (last_sent a.sent k) 0 not_mine)

-- whatever happens next
step_holds : (g : Group) (a b : Apart) (p : Program) → IsOfDoors g a p → HoldsSent g a → ApartStep a b → HoldsSent g b
step_holds g a b p is holds (inl s) = subst (HoldsSent g) (sym s.made)
    (alone_holds g a p s.number s.door is holds s.there (next_deed s.door.member) refl s.due)
step_holds g a b p is holds (inr (inl s)) = subst (HoldsSent g) (sym s.made) (sends_holds g a b p is holds s)
step_holds g a b p is holds (inr (inr (inl s))) =
    subst (HoldsSent g) (sym s.made) (holds_still g a s.number s.door _ a.letters holds s.there refl)
step_holds g a b p is holds (inr (inr (inr (inl s)))) =
    subst (HoldsSent g) (sym s.made) (holds_still g a s.number s.door _ a.letters holds s.there refl)
step_holds g a b p is holds (inr (inr (inr (inr (inl s))))) =
    subst (HoldsSent g) (sym s.made) (holds_still g a s.number s.door _
    (record { to = s.late; entries = up_to_view s.door.member.replica.history } ∷ a.letters) holds s.there refl)
step_holds g a b p is holds (inr (inr (inr (inr (inr (inl s)))))) =
    subst (HoldsSent g) (sym s.made) (holds_still g a s.number s.door _ a.letters holds s.there refl)
step_holds g a b p is holds (inr (inr (inr (inr (inr (inr s)))))) = subst (HoldsSent g) (sym s.made)
    (comes_holds g a p s.number s.door s.packet.index s.packet.word is holds s.there
    (refusal s.door s.packet.index s.packet.word) refl)

-- and so on
way_holds : (g : Group) (begun a : Apart) (before : List Apart) (p : Program) → IsOfDoors g begun p
    → HoldsSent g begun → ApartWay begun before a → HoldsSent g a
way_holds g begun a [] p is holds way = subst (HoldsSent g) (sym way) holds
way_holds g begun a (x ∷ xs) p is holds way =
    let so = way_kept g begun x xs p is way.0 in
    step_holds g x a so.0 so.1 (way_holds g begun x xs p is holds way.0) way.1

-- nothing was sent at first
begun_holds : (script : Script) (start : Start) (nth : ℕ) (a : Apart) → HaveBegunApart script start nth a
    → HoldsSent (group_of script start) a
begun_holds script start nth a begun m d k there within apart =
    let g = group_of script start in
    let one = begun.each m d there in
    let shape = one.0.shape in
    ap (λ (x : Lone). slice_index x.words k) one.2 ∙ copy_at (words_of shape.members shape.window shape.banks) 0 k
    ∙ sym (none (row_in (roster g) g.window k == m)) ∙ ap (λ sent. sent_in g m sent k) (sym begun.sent)
  where
    none : (here : Bool) → ◌≡◌ {A = ℕ} (if here then 0 else 0) 0
    none true = refl
    none false = refl

-- ---- the law

doors_hold : (script : Script) (start : Start) (nth : ℕ) (begun a : Apart) → IsGroup (group_of script start)
    → length script.messages ≡ script.members → 1 ≤ script.turns → HaveBegunApart script start nth begun
    → IsRanApart begun a → HoldsSent (group_of script start) a
doors_hold script start nth begun a group lists some begins (before, way) =
    let g = group_of script start in
    let first = begun_kept script start nth begun group lists some begins in
    way_holds g begun a before first.0 first.1 (begun_holds script start nth begun begins) way

pub doors_keep_sent : (script : Script) (start : Start) (nth : ℕ) (begun a : Apart) → IsGroup (group_of script start)
    → length script.messages ≡ script.members → 1 ≤ script.turns → HaveBegunApart script start nth begun
    → IsRanApart begun a → (m : ℕ) (d : Lone) (index : ℕ) → present_at a.doors m ≡ Some d → index < length d.words
    → copy_of script.members script.window index ≢ m
    → slice_index d.words index ≡ last_sent_by script.members script.window m a.sent index
doors_keep_sent script start nth begun a group lists some begins ran m d index there within apart =
    subst (λ n. slice_index d.words index ≡ last_sent_by n script.window m a.sent index) lists
    (doors_hold script start nth begun a group lists some begins ran m d index there within
    (λ c. apart (ap (λ n. copy_of n script.window index) (sym lists) ∙ c)))
