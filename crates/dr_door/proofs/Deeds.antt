-- What the code of a door makes of it is what its deeds make.
use Rattle.std.specs.Prelude.{◌&&◌, ◌||◌, slice_set, not, is_some, Bool, None, Option, Some, false}
use Rattle.std.proofs.{Common.{◌≡◌, ◌∙◌, refl, sym, ap, ℕ, List, true}, lemmas.Bool.and_from}
use Rattle.dr_entry.specs.declared.end.End.{End}
use Rattle.dr_member.{specs.Deeds.{is_act, is_before_turn, is_look, is_push}, proofs.Deeds.{no_beat, beat_acts}}
use Rattle.dr_program.specs.{Running.{Running, after_step, deed, next_deed}, Turn.{is_beat, part_of}}
use Rattle.dr_program.specs.declared.deed.Deed.{Deed}
use Rattle.dr_program.specs.declared.deed.Deed.TheVariants as deeds
use Rattle.dr_door.specs.Lone.{Lone, after_alone, after_push, done_alone, goes_on, is_alone, pushed_on, went_on}

-- an act
pub acted_is : (d now : Lone) (x : Running) (index word : ℕ) (words : List ℕ) → d ≡ now
    → next_deed now.member ≡ deeds.Act index word → x ≡ after_step 0 d.member → words ≡ slice_set d.words index word
    → ◌≡◌ {A = Lone} (record { member = x; words = words }) (done_alone now)
acted_is d now x index word words view due after stored = (λ z. record { member = after z; words = stored z })
    ∙ ap (after_alone d) (sym (ap (λ (e : Lone). next_deed e.member) view ∙ due)) ∙ ap done_alone view

-- a push
pub pushed_is : (d now : Lone) (x : Running) (index word : ℕ) (words : List ℕ) → d ≡ now
    → next_deed now.member ≡ deeds.Push index word → x ≡ after_step 0 d.member → words ≡ slice_set d.words index word
    → ◌≡◌ {A = Lone} (record { member = x; words = words }) (pushed_on now)
pushed_is d now x index word words view due after stored = (λ z. record { member = after z; words = stored z })
    ∙ ap (after_push d) (sym (ap (λ (e : Lone). next_deed e.member) view ∙ due)) ∙ ap pushed_on view

-- an append that the log has, or a letter that was given
pub went_is : (d now : Lone) (x : Running) → d ≡ now → ((word : ℕ) → x ≡ after_step word d.member)
    → ◌≡◌ {A = Lone} (record { member = x; words = d.words }) (went_on now)
went_is d now x view after = (λ z. record { member = after 0 z; words = d.words }) ∙ ap went_on view

pub beat_alone : (r : Running) → is_before_turn r ≡ true → is_alone (next_deed r) ≡ true
beat_alone r before = act_alone (next_deed r) (beat_acts r before)
  where
    act_alone : (d : Deed) → is_act d ≡ true → is_alone d ≡ true
    act_alone (deeds.Act index word) is = refl
    act_alone d is = absurd (cc)

-- a look concerns nobody else, and begins no turn
pub look_goes : (d : Lone) (index : ℕ) → next_deed d.member ≡ deeds.Look index → goes_on d ≡ true
look_goes d index due = by r.replica.end refl
  where
    r : Running
    r = d.member

    last : (b x : Bool) → x ≡ false → (b && x) ≡ false
    last true x e = e
    last false x e = refl

    by : (o : Option End) → r.replica.end ≡ o → goes_on d ≡ true
    by None none = and_from (not (is_before_turn r)) (is_alone (next_deed r)) (ap not (last (not (is_some r.replica.end))
        (is_beat (part_of r.place)) (no_beat r (part_of r.place) r.place.row r.place.column
        (ap (λ x. is_look x || is_push x) (sym (ap (deed r) none) ∙ due))))) (ap is_alone due)
    by (Some end) some = absurd (cc (sym (ap (deed r) some) ∙ due))
