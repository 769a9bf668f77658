-- What a running member is after a deed, in the terms of the code's fields.
use Rattle.std.{specs.Prelude.None, proofs.lemmas.Bool.Decides.nat_tests}
use Rattle.std.proofs.Common.{◌≡◌, refl, sym, ap, ◌∙◌, subst, ℕ, ◌^◌, ◌<◌, ◌≤◌, ◌==◌, Bool, true, false, arith}
use Rattle.dr_rows.specs.Words.{changed}
use Rattle.dr_words.specs.Columns.{columns_of}
use Rattle.dr_machine.specs.declared.step.Step.{Step}
use Rattle.dr_program.specs.declared.place.Part.TheVariants as parts
use Rattle.dr_program.specs.{Form.{HasForm, IsRunningMember}, Replica.Replica}
use Rattle.dr_program.specs.Running.{Running, members, columns, goes, pushes_after, settled, took, next_step, after_step, waits_after}
use Rattle.dr_program.specs.{Steps.{NoWordFell, stepped}, Turn.{columns_in, part_of}, declared.place.Place.Place}
use Rattle.dr_turn.{specs.{Search.IsUnderway, Work.IsAfterDeed}, proofs.Deeds.{deed_done, deeds_keep}}
use Rattle.dr_turn.proofs.Works.{IsAnswer}
use Rattle.dr_member.specs.{Search.standing, declared.fate.Fate.Fate}
use Rattle.dr_member.proofs.Passing.{from_column, from_here, passes, pushes_idle}

-- the fate is that of r after a step, which saw this word
pub record IsFateAfter (word : ℕ) (r : Running) (s : Step) (fate : Fate) : Type 0 where
  pub limit : fate.limit ≡ r.limit
  pub waits : fate.waits ≡ waits_after word r s
  pub crashes : fate.crashes ≡ r.crashes
  pub suspicions : fate.suspicions ≡ r.suspicions
  pub pushes : fate.pushes ≡ pushes_after r.pushes s
  pub failed : fate.failed ≡ r.failed

pub fate_stays : (word : ℕ) (replica : Replica) (fate : Fate) (place : Place) (s : Step)
    → fate.pushes ≡ pushes_after fate.pushes s → fate.waits ≡ waits_after word (standing replica fate place) s
    → IsFateAfter word (standing replica fate place) s fate
fate_stays word replica fate place s e waits = record {
  limit = refl;
  waits = waits;
  crashes = refl;
  suspicions = refl;
  pushes = e;
  failed = refl;
}

-- what the code has done at a member r to which a step was due, which saw this word
pub record IsTaken (word : ℕ) (r : Running) (q : Replica) (fate : Fate) (from : Place) : Type 0 where
  pub running : IsRunningMember r
  pub fits : r.limit < 2 ^ 32
  pub none : r.replica.end ≡ None
  pub replica : q ≡ stepped word r.replica (next_step r)
  pub form : HasForm q
  pub grown : q.view ≡ r.replica.view → NoWordFell r.replica q
  pub place : from ≡ goes (members r) (columns r) (part_of r.place) r.place
  pub told : IsFateAfter word r (next_step r) fate

pub is_took : (word : ℕ) (r : Running) (q : Replica) (fate : Fate) (from : Place)
    → IsTaken word r q fate from → standing q fate from ≡ took word r (next_step r)
is_took word r q fate from t = λ z. record {
  replica = t.replica z;
  place = t.place z;
  limit = t.told.limit z;
  waits = t.told.waits z;
  crashes = t.told.crashes z;
  suspicions = t.told.suspicions z;
  pushes = t.told.pushes z;
  failed = t.told.failed z;
}

pub is_done : (word : ℕ) (r : Running) (q : Replica) (fate : Fate) (from : Place)
    → IsTaken word r q fate from → IsAfterDeed r (standing q fate from)
is_done word r q fate from t = subst (IsAfterDeed r) (sym (is_took word r q fate from t))
    (deed_done word r t.running t.fits t.none (subst HasForm t.replica t.form)
    (subst (λ (x : Replica). x.view ≡ r.replica.view → NoWordFell r.replica x) t.replica t.grown))

pub is_answer : (word : ℕ) (r : Running) (q : Replica) (fate : Fate) (from place : Place) → IsTaken word r q fate from
    → standing q fate place ≡ settled (standing q fate from) → IsAnswer word r (standing q fate place)
is_answer word r q fate from place t searched =
    let same : standing q fate place ≡ after_step word r = searched ∙ ap settled (is_took word r q fate from t) in
    let kept = deeds_keep word r t.running t.fits t.none (subst HasForm t.replica t.form)
    (subst (λ (x : Replica). x.view ≡ r.replica.view → NoWordFell r.replica x) t.replica t.grown) in
    record {
      after = same;
      form = subst IsRunningMember (sym same) kept.0;
      done = subst (IsAfterDeed r) (sym same) kept.1;
    }

-- ---- where the search stays

-- the search from a column of the pushes to a member goes by those of unchanged words
pub pushes_searched : (q : Replica) (fate : Fate) (p : Place) (c t : ℕ) → part_of p ≡ parts.Push → q.end ≡ None
    → IsUnderway (standing q fate (from_column q.roster (columns_of q.roster q.window) p c))
    → ((x : ℕ) → c ≤ x → x < t → changed q.rows p.row x ≡ false) → c ≤ t → t ≤ columns_of q.roster q.window
    → IsUnderway (standing q fate (from_column q.roster (columns_of q.roster q.window) p t))
    × (settled (standing q fate (from_column q.roster (columns_of q.roster q.window) p t)) ≡ settled
    (standing q fate (from_column q.roster (columns_of q.roster q.window) p c)))
pushes_searched q fate p c t at none u same above within = by (c == t) refl
  where
    there : ℕ → Running
    there x = standing q fate (from_column q.roster (columns_of q.roster q.window) p x)

    all : columns_in (columns_of q.roster q.window) (part_of p) ≡ columns_of q.roster q.window
    all = ap (columns_in (columns_of q.roster q.window)) at

    by : (b : Bool) → (c == t) ≡ b → IsUnderway (there t) × (settled (there t) ≡ settled (there c))
    by true e = subst (λ (x : ℕ). IsUnderway (there x) × (settled (there x) ≡ settled (there c)))
        (grind (arith, nat_tests)) (u, refl)
    by false e =
        let below : c < t = grind (arith, nat_tests) in
        let here : from_column q.roster (columns_of q.roster q.window) p c ≡ record p { column = c } =
        from_here q.roster (columns_of q.roster q.window) p c (omega (arith, all, below, within)) in
        let g = passes (standing q fate (record p { column = c })) t
        (subst (λ (x : Place). IsUnderway (standing q fate x)) here u) none (λ x l h. pushes_idle q fate
        (record p { column = c }) x at (same x l h)) below (omega (arith, all, within)) in
        (g.underway, g.same ∙ ap (λ (x : Place). settled (standing q fate x)) (sym here))
