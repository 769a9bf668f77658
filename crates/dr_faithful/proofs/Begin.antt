-- The members are faithful as the age opens.
use Rattle.std.proofs.Common.{[], ap, append-nil, arith, false, inl, inr, le_refl, length, length-append, refl, subst, suc, sym, true, zero, ℕ, ◌-◌, ◌<◌, ◌∙◌, ◌∷◌, ◌≡◌, ◌≢◌, ◌≤◌, ◌⊎◌}
use Rattle.std.proofs.lemmas.Bool.{cases_eq}
use Rattle.dr_words.specs.{Columns.{head_column, recv_column}, Packing.{accept_promise, accept_tag, accept_value}}
use Rattle.dr_words.{specs.{Form.IsInForm, declared.column.TheConstants.LOGGED_COLUMN}, proofs.Accepts.accept_within}
use Rattle.dr_words.proofs.Forms.{form_zero, form_free, grown_zero}
use Rattle.dr_entry.specs.declared.entry.Entry.TheVariants.{View}
use Rattle.dr_history.{specs.{Members.{has, members_of}, Order.first_entries, Places.first}, proofs.Bits.has_zero}
use Rattle.dr_history.proofs.{Cutting.front_of_none, Histories.start_messages, Lengths.start-short}
use Rattle.dr_machine.{specs.{Group.{Group, IsGroup, roster}, World.opening_world}, proofs.Presence.is_there}
use Rattle.dr_machine.proofs.Worlds.{no_part}
use Rattle.dr_faithful.specs.{Faithful.Faithful, Tells.{Tells, Views, WordsTell}}
use Rattle.dr_faithful.proofs.Pasts.{tells_logged, tells_nothing}

-- ---- the opening

-- every word tells as the age opens: the logged words of the start, and all others nothing
own_tells : (g : Group) (V : Views) (i v c : ℕ) → Tells g V (opening_world g).past i v c
    ((opening_world g).past.own i v c)
own_tells g V i v c = by (cases_eq c LOGGED_COLUMN)
  where
    by : (c ≡ LOGGED_COLUMN) ⊎ (c ≢ LOGGED_COLUMN) → Tells g V (opening_world g).past i v c
        ((opening_world g).past.own i v c)
    by (inl e) = subst (λ k. Tells g V (opening_world g).past i v k ((opening_world g).past.own i v k)) (sym e)
        (tells_logged g V (opening_world g).past i v _ (grind arith))
    by (inr d) = subst (λ (x : ℕ). Tells g V (opening_world g).past i v c x) (grind arith)
        (tells_nothing g V (opening_world g).past i v c)

tell : (g : Group) (V : Views) → WordsTell g V (opening_world g)
tell g V = record {
  own = own_tells g V;
  table = λ v j i c. tells_nothing g V (opening_world g).past i v c;
  seen = λ m i c. tells_nothing g V (opening_world g).past i 0 c;
}

-- the members are faithful as the age opens
pub begun : (g : Group) (V : Views) → IsGroup g → V 0 ≡ g.opening.members
    → ((v m : ℕ) → has (V v) m ≡ true → m < roster g) → Faithful g V (opening_world g)
begun g V is opens within = record {
  beginning = record { all = λ m first. is_there g m is first };
  views = record {
    own = λ m. sym opens;
    came = λ m e. absurd (grind (arith, has_zero m, e));
    back = λ m u e. absurd (omega (arith, e));
    present = λ m l. ap (λ k. has k m) opens ∙ l;
    outside = λ m out. refl;
    within = within;
  };
  items = record {
    counted = λ m v s. le_refl 0;
    same = λ m s k l. absurd (omega (arith, l));
    window = λ m v s h k. omega arith;
  };
  sent = record {
    all = λ s v. refl;
    put = λ s. record {
      index = λ k l. absurd (omega (arith, l));
      left = omega (arith, start_messages g.opening s is.sound);
      nulls = λ l. absurd (omega (arith, l));
    };
  };
  counts = record {
    recv = λ m v s l. grind arith;
    unfinished = λ m s l e. grind arith;
    received = λ m v. rw (front_of_none (members_of (V v))) (grind arith);
    few = λ m v s. (0, omega arith);
  };
  suspicions = record {
    named = λ m i h. absurd (cc (h, has_zero i));
    inside = λ m d. absurd (d refl);
    trusted = λ m. has_zero m;
    told = λ m. grind arith;
    final = λ m s d h. absurd (d refl);
    none = λ m e. refl;
    least = λ m d. absurd (d refl);
    accept = λ m c is. ap accept_promise (none m c (accept_within (roster g) (V 0) c is));
  };
  accepts = record {
    tagged = λ m c is. ap accept_tag (none m c (accept_within (roster g) (V 0) c is));
    valued = λ m c is. ap accept_value (none m c (accept_within (roster g) (V 0) c is)) ∙ sym (no_part (roster g) c);
    low = λ m. omega arith;
    waits = λ m x e. absurd (cc);
  };
  words = tell g V;
  logs = record {
    bounded = λ m. omega arith;
    front = λ m. ([], append-nil (first_entries g.opening));
    safe = λ m l. record {
      own = le_refl (length (first_entries g.opening));
      since = 0;
      come = le_refl 0;
      before = λ l. absurd (omega (arith, l));
      logged = λ i h. le_refl (length (first_entries g.opening));
      stayed = λ i h e. le_refl (length (first_entries g.opening));
    };
    small = λ m. omega (
      arith,
      start-short g.opening is.sound is.age is.some_member is.most_members is.messages,
      length-append g.opening.start (View g.opening.age 0 g.opening.members ∷ []),
    );
  };
  delivered = record { held = λ m i h. omega arith; none = λ m out. refl };
  fresh = record {
    unwritten = λ m v c l. grind (arith, l);
    outside = λ m v c out some. absurd (some (outside m v c out));
    empty = λ m v s l. refl;
  };
  closed = λ m v l. absurd (omega (arith, l));
  old = record { in_table = λ v j i c. grown_zero (roster g) c _; in_seen = λ m i c d. grown_zero (roster g) c _ };
  form = record {
    in_own = λ m v c. own_in_form m v c;
    in_table = λ v j i c. form_zero (roster g) c is.some_member;
    in_seen = λ m i c. form_zero (roster g) c is.some_member;
  };
}
  where
    outside : (m v c : ℕ) → has (V v) m ≡ false → (opening_world g).past.own m v c ≡ 0
    outside m zero c out = grind (arith, sym (ap (λ k. has k m) opens) ∙ out)
    outside m (suc v) c out = grind arith

    none : (m c : ℕ) → (recv_column (roster g) ≤ c) × (c < head_column (roster g) 0)
        → (opening_world g).past.own m 0 c ≡ 0
    none m c l = grind (arith, l.0)

    own_in_form : (m v c : ℕ) → IsInForm (roster g) c ((opening_world g).past.own m v c)
    own_in_form m v c = by (cases_eq c 3)
      where
        by : (c ≡ 3) ⊎ (c ≢ 3) → IsInForm (roster g) c ((opening_world g).past.own m v c)
        by (inl e) = form_free (roster g) c _ (inl (omega arith, omega arith))
        by (inr d) = subst (λ (x : ℕ). IsInForm (roster g) c x) (grind arith) (form_zero (roster g) c is.some_member)

-- the members of the one view that there is so far
abbrev pub whole : Group → Views
whole g v = g.opening.members

pub whole_within : (g : Group) → IsGroup g → (v m : ℕ) → has (whole g v) m ≡ true → m < roster g
whole_within g is v m h = is.sound.members.within m h
