-- What a seat tells is so.
use Rattle.std.proofs.Common.{◌≡◌, ◌≢◌, refl, ap, sym, ◌∙◌, inl, inr, subst, ℕ, suc, ◌+◌, ◌≤◌, ◌==◌, if◌then◌else◌, Bool, arith, true, false, List, [], ◌∷◌, Contains, Option, None, Some, length, take, drop, ⊎_elim}
use Rattle.std.proofs.lemmas.{Bool.{eqb-true}, List.Elements.Contains-push_cases, Option.{same_Some}}
use Rattle.std.proofs.lemmas.List.{drop-append-le, length-drop, take-append-le}
use Rattle.std.proofs.Math.Path.{fun_ext}
use Rattle.dr_calls.specs.Wire.{Voted}
use Rattle.dr_calls.proofs.{Between.Keeps, Lasting.kept-of}
use Rattle.dr_door.specs.{Coming.{copy_of, row_in}, Sending.{last_sent}}
use Rattle.dr_door.proofs.{Apart.{doors_kept, there_is}, Sending.doors_keep_sent}
use Rattle.dr_history.{specs.{History.IsPrefixOf, Members.has}}
use Rattle.dr_program.specs.{declared.packet.Packet.Packet}
use Rattle.dr_restart.specs.{Choosing.of_set}
use Rattle.dr_restart.proofs.Sounding.{choice-group}
use Rattle.dr_seat_laws.specs.Seats.{SeatTells, Seats}
use Rattle.dr_seat_laws.specs.Sitting.{Ask, Hand, InAge, IsAtRest, IsPushed, MayTell, Said, Sent, Try, Trying, Words, far_of}
use Rattle.dr_seat_laws.proofs.{Fresh.{Plan, fresh, fresh-begun}, Wires.HasVoted}
use Rattle.dr_seat_laws.proofs.Holding.{Ghost, HasRisen, Holds, IsIdle, IsRunning, IsSo, IsSoFar, IsTrying, Sits, WerePushed, called, new_wire, opening_of}

-- a part of a front part is that part of the whole
part-of-front : (bs log part : List ℕ) (at : ℕ) → IsPrefixOf bs log → at + length part ≤ length bs
    → part ≡ take (length part) (drop at log) → part ≡ take (length part) (drop at bs)
part-of-front bs log part at front within is = is ∙ ap (λ l. take (length part) (drop at l)) (sym front.1)
    ∙ ap (take (length part)) (drop-append-le at bs front.0 (omega (arith, within)))
    ∙ take-append-le (length part) (drop at bs) front.0 (omega (arith, within, length-drop at bs))

-- a word that was sent last was sent
last-sent : (sent : List Packet) (index word : ℕ) → word ≡ last_sent sent index → word ≢ 0
    → Contains sent (record { index = index; word = word })
last-sent [] index word e some = absurd (some e)
last-sent (x ∷ xs) index word e some = by (x.index == index) refl (λ f. last-sent xs index word f some)
  where
    by : (b : Bool) → (x.index == index) ≡ b
        → (word ≡ last_sent xs index → Contains xs (record { index = index; word = word }))
        → Contains (x ∷ xs) (record { index = index; word = word })
    by true f rest = (
      0,
      omega arith,
      λ z. record {
        index = eqb-true x.index index f z;
        word = sym (e ∙ ap (λ b. if b then x.word else last_sent xs index) f) z;
      },
    )
    by false f rest =
        let c = rest (e ∙ ap (λ b. if b then x.word else last_sent xs index) f) in
        (suc c.0, omega (arith, c.1), c.2)

of-row : (sent : List Packet) (index word : ℕ) (own : Bool) → word ≡ (if own then last_sent sent index else 0)
    → word ≢ 0 → Contains sent (record { index = index; word = word })
of-row sent index word true e some = last-sent sent index word e some
of-row sent index word false e some = absurd (some e)

module _ (p : Plan) (new s : Seats) (g : Ghost) (m : ℕ) (holds : Holds p new s g) where
  keeps-here : Keeps (opening_of p) (new_wire new) g.wire
  keeps-here = kept-of (opening_of p) (new_wire new) g.wire holds.run

  sits-here : Sits p s.seats g m (s.seats m)
  sits-here = holds.sits m

  voted-so : (t : Trying) (v : Voted) → (g.wire.places m).tries ≡ Some v → v.call ≡ called t.call
      → HasVoted g.wire m (called t.call)
  unfolding keeps-here
  voted-so t v tries call = let last = keeps-here.last m v tries in (v, last.0, last.1, call)

  far-so : (t : Trying) → (s.seats m).try ≡ Some t → (s.seats m).coming ≡ None → (age : Option InAge)
      → (s.seats m).age ≡ age → IsSoFar g m (called t.call) (far_of t.step)
  unfolding keeps-here sits-here
  far-so t e rest None none = by (sits-here.tries t rest e none)
    where
      by : IsTrying g m (s.seats m).log.content t → IsSoFar g m (called t.call) (far_of t.step)
      by x = ⊎_elim
          (λ r. subst (λ step. IsSoFar g m (called t.call) (far_of step)) (sym r.0)
          (voted-so t x.vote x.tries x.call))
          (λ r. subst (λ step. IsSoFar g m (called t.call) (far_of step)) (sym r.0)
          (voted-so t x.vote x.tries x.call, subst (λ c. HasRisen g m c) x.call r.1)) x.step
  far-so t e rest (Some a) runs =
      let r = sits-here.runs a runs in
      let same : r.0 ≡ t = same_Some _ _ (sym r.1 ∙ e) in
      by (subst (λ y. IsRunning g m (s.seats m).log.content y a) same r.2)
    where
      by : IsRunning g m (s.seats m).log.content t a → IsSoFar g m (called t.call) (far_of t.step)
      by x =
          let last = keeps-here.last m x.vote x.tries in
          let inside : has x.vote.call.set m ≡ true =
          subst (λ n. has x.vote.call.set n ≡ true) last.1 (keeps-here.cast x.vote last.0).inside in
          subst (λ step. IsSoFar g m (called t.call) (far_of step)) (sym x.step) (
            voted-so t x.vote x.tries x.call,
            subst (λ c. HasRisen g m c) x.call
                (holds.ages x.vote.call x.began m inside),
          )

  words-so : (t : Trying) (a : InAge) (words : List Packet) → IsRunning g m (s.seats m).log.content t a
      → ((y : Packet) → Contains words y → IsPushed a y) → WerePushed g t.call.age words
  unfolding keeps-here
  words-so t a words x pushed = record {
    call = x.vote.call;
    began = x.began;
    same = ap (λ c. c.age) x.call;
    member = m;
    inside = subst (λ n. has x.vote.call.set n ≡ true) last.1 (keeps-here.cast x.vote last.0).inside;
    sent = λ v c e y d. by v c e y (pushed y d);
  }
    where
      last : Contains g.wire.votes x.vote × (x.vote.member ≡ m)
          × ((u : Voted) → Contains g.wire.votes u → u.member ≡ m → u.call.age ≤ x.vote.call.age)
      last = keeps-here.last m x.vote x.tries

      by : (v : Voted) → Contains g.wire.votes v → v.call ≡ x.vote.call → (y : Packet) → IsPushed a y
          → Contains (g.apart v).sent y
      by v c e y (inl d) = x.batch v c e y d
      by v c e y (inr r) =
          let cast = keeps-here.cast v c in
          let group = choice-group p.script (of_set v.logs v.call.set) v.start p.ranges cast.chosen in
          let there = x.door v c e in
          let so = doors_kept p.script v.start 0 (fresh p v.start) (g.apart v) group p.ranges.lists p.turns
          (fresh-begun p v.start) (holds.ran v c) in
          let of = so.1.carried.form.of m a.door.member (there_is _ (g.apart v) so.0 m a.door so.1 there) in
          let apart : copy_of p.script.members p.script.window y.index ≢ m = λ f. r.1.other (sym r.1.copy
          ∙ ap (λ n. copy_of n a.door.member.replica.window y.index) (of.members ∙ p.ranges.lists)
          ∙ ap (λ n. copy_of p.script.members n y.index) of.window ∙ f ∙ sym of.number) in
          let is = doors_keep_sent p.script v.start 0 (fresh p v.start) (g.apart v) group p.ranges.lists p.turns
          (fresh-begun p v.start) (holds.ran v c) m a.door y.index there r.1.within apart in
          of-row (g.apart v).sent y.index y.word (row_in p.script.members p.script.window y.index == m) (r.2 ∙ is)
          (λ f. r.1.some (sym r.2 ∙ f))

  tells-so : (said : Said) → IsAtRest (s.seats m) → MayTell (s.seats m) said → IsSo s g m said
  unfolding sits-here
  tells-so Ask rest may = tt
  tells-so (Hand long at part) rest may =
      let b = sits-here.handed long may.0 in (
        b.0,
        b.1,
        may.1,
        part-of-front b.0 (s.seats m).log.bytes part at b.1.1 (omega (arith, may.1, b.1.0.size)) may.2,
      )
  tells-so (Try call far) rest may =
      subst (λ c. IsSoFar g m (called c) far) (sym may.2) (subst (λ f. IsSoFar g m (called may.0.call) f) (sym may.3)
      (far-so may.0 may.1 rest.0 (s.seats m).age refl))
  tells-so (Words age words) rest may =
      let r = sits-here.runs may.1 may.3 in
      let same : r.0 ≡ may.0 = same_Some _ _ (sym r.1 ∙ may.2) in
      subst (λ n. WerePushed g n words) (sym may.4) (words-so may.0 may.1 words
      (subst (λ y. IsRunning g m (s.seats m).log.content y may.1) same r.2) may.5)

-- all goes on to hold when a seat tells something
pub tells : (p : Plan) (new s next : Seats) (g : Ghost) → Holds p new s g → SeatTells p.script s next
    → Holds p new next g
tells p new s next g holds x = record {
  run = holds.run;
  sits = λ k. subst (λ seats. Sits p seats g k (seats k)) (sym same) (holds.sits k);
  sent = λ y c. ⊎_elim (λ old. so y (holds.sent y old))
      (λ e. subst (λ z. IsSo next g z.from z.said) e (so this
      (tells-so p new s g x.member holds x.said x.rest x.may)))
      (Contains-push_cases s.sent this y (subst (λ l. Contains l y) x.sent c));
  ups = holds.ups;
  ages = holds.ages;
  ran = holds.ran;
  idle = λ v k c i. holds.idle v k c (subst (λ seats. IsIdle
      (record { seats = seats; sent = s.sent }) g v.call k) same i);
}
  where
    same : next.seats ≡ s.seats
    same = fun_ext x.seats

    this : Sent
    this = record { from = x.member; to = x.to; said = x.said }

    so : (y : Sent) → IsSo s g y.from y.said → IsSo next g y.from y.said
    so y is = subst (λ seats. IsSo (record { seats = seats; sent = s.sent }) g y.from y.said) (sym same) is
