-- What a member knows to be durable, by the view that it is in and by a view that its history holds.
use Rattle.std.proofs.Common.{◌≡◌, sym, ap, ◌∙◌, subst, ℕ, ◌≤◌, Bool, Decides, All, Contains, List, length, Some}
use Rattle.std.proofs.lemmas.Option.{same_Some}
use Rattle.dr_entry.specs.declared.entry.Entry.{Entry}
use Rattle.dr_history.specs.{Agreement.{Accounts, KnowsDurable}, History.{GroupView, view_of}, Members.members_of}
use Rattle.dr_history.{specs.{Soundness.IsNobodyLate, declared.opening.Opening.Opening}, proofs.Histories.last_among}
use Rattle.dr_oracle.specs.Agreeing.{IsInLoggedView}

-- whether a history is in a logged view of the age with the member is decided by its last view
pub last_decides : (accounts : Accounts) (age durable i : ℕ) (h : List Entry) (v : GroupView) (b : Bool)
    → view_of h ≡ Some v → v.age ≡ age → Contains v.members i
    → Decides b (All (λ j. durable ≤ length (accounts j).log) v.members)
    → Decides b (IsInLoggedView accounts age durable h i)
last_decides accounts age durable i h v b is same there decides = (
  λ t. let found = last_among h v is in (
    v.number,
    found.mask,
    is ∙ ap Some (view found.mask found.members),
    subst (λ (xs : List ℕ). Contains xs i) (sym found.members) there,
    subst (λ (xs : List ℕ). All (λ j. durable ≤ length (accounts j).log) xs) (sym found.members) (decides.0 t),
  ),
  λ p. decides.1 (subst (λ (w : GroupView). All (λ j. durable ≤ length (accounts j).log) w.members)
      (sym (same_Some _ _ (sym is ∙ p.2))) p.4),
)
  where
    view : (mask : ℕ) → members_of mask ≡ v.members
        → v ≡ record { age = age; number = v.number; members = members_of mask }
    view mask e = ap (λ (n : ℕ). record { age = n; number = v.number; members = v.members }) same
        ∙ ap (λ (xs : List ℕ). record { age = age; number = v.number; members = xs }) (sym e)

-- where nobody is late, a member is to be in a logged view
pub prompt_decides : (o : Opening) (accounts : Accounts) (i : ℕ) (b : Bool)
    → IsNobodyLate o → (accounts i).durable ≤ length (accounts i).log → Decides b (IsInLoggedView accounts o.age
    (accounts i).durable (accounts i).history i) → Decides b (KnowsDurable o accounts i)
prompt_decides o accounts i b prompt own decides = (
  λ t. let p = decides.0 t in
      let v : GroupView = record { age = o.age; number = p.0; members = members_of p.1 } in
      let found = last_among (accounts i).history v p.2 in record {
        own = own;
        number = p.0;
        members = found.mask;
        view = found.view;
        logged = subst (λ (xs : List ℕ). All (λ j. (accounts i).durable ≤ length (accounts j).log) xs)
            (sym found.members) p.4;
        last = λ _. (
          p.2 ∙ ap (λ (xs : List ℕ). Some (record { age = o.age; number = p.0; members = xs })) (sym found.members),
          subst (λ (xs : List ℕ). Contains xs i) (sym found.members) p.3,
        );
      },
  λ k. decides.1 (k.number, k.members, (k.last prompt).0, (k.last prompt).1, k.logged),
)
