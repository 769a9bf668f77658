-- Who gives letters, and how a replica goes on in the view of one.
use Rattle.std.proofs.Common.{◌≡◌, ℕ, ◌-◌, false, List, [], ◌∷◌, length, replicate, refl, sym, ap, subst, ◌∙◌, arith}
use Rattle.std.proofs.lemmas.List.{length-map}
use Rattle.dr_entry.specs.declared.entry.Entry.{Entry}
use Rattle.dr_form.{specs.Letters.IsFitting, proofs.Finishing.joined_form}
use Rattle.dr_history.specs.History.{last_view}
use Rattle.dr_program.{specs.Form.{HasForm, WaitsToJoin}, proofs.Finishing.gave_form}
use Rattle.dr_program.specs.Replica.{LeftView, Replica, is_inside, joined, left_now, nothing_left}
use Rattle.dr_replica.specs.{Inside.{IsInsideReplica, replica_inside}, Lefts.left_of, declared.left.Left.Left}
use Rattle.dr_replica.{specs.declared.replica.Replica.TheInside.Inside, proofs.Leaving.AreEntered}
use Rattle.dr_words.specs.Masks.{with_member}

-- ---- a letter that was given

-- the fields keep their invariant
pub gave_kept : (a : Inside) (j mask : ℕ) → IsInsideReplica a → mask ≡ with_member a.given j
    → IsInsideReplica (record a { given = mask })
gave_kept a j mask inside more = record {
  form = subst (λ m. HasForm (record (replica_inside a) { given = m })) (sym more)
      (gave_form (replica_inside a) j inside.form);
  suspicion = inside.suspicion;
  members = inside.members;
  roster = inside.roster;
  most = inside.most;
  messages = inside.messages;
  next = inside.next;
  received = inside.received;
  sent = inside.sent;
  left = inside.left;
  spares = inside.spares;
  enough = inside.enough;
  past = inside.past;
  end = inside.end;
  votes = inside.votes;
}

-- ---- a letter that is taken

-- what a member that hasn't joined keeps of the views before that of its letter
abbrev pub skipped_views : Inside → ℕ → List LeftView
skipped_views a view = left_now (replica_inside a) ∷ replicate (view - 1) nothing_left

-- the fields of one that has joined, beside those of before
abbrev pub AreJoined : Inside → Inside → List Entry → Type 0
AreJoined a b letter =
    let view = last_view (0, 0) letter in AreEntered a b view.0 view.1 letter (skipped_views a view.0)

-- it has left no view, its history has room for the letter, and there are spares for the views up to the letter's
pub record MayJoin (a : Inside) (letter : List Entry) : Type 0 where
  pub fits : IsFitting (replica_inside a) letter
  pub first : a.view ≡ 0
  pub none : a.left.items ≡ []

pub may_join : (a : Inside) (now : Replica) (letter : List Entry) → replica_inside a ≡ now → IsInsideReplica a
    → is_inside now ≡ false → IsFitting now letter → MayJoin a letter
may_join a now letter same inside outside fits = record {
  fits = subst (λ (r : Replica). IsFitting r letter) (sym same) fits;
  first = waits.first;
  none = nothing a.left.items (sym (length-map a.left.items left_of) ∙ inside.form.left ∙ waits.first);
}
  where
    waits : WaitsToJoin (replica_inside a)
    waits = inside.form.outside (ap is_inside same ∙ outside)

    nothing : (ls : List Left) → length ls ≡ 0 → ls ≡ []
    nothing [] e = refl
    nothing (l ∷ ls) e = absurd (omega (arith, e))

-- joining keeps its form
pub join_form : (a : Inside) (now : Replica) (letter : List Entry) → replica_inside a ≡ now → IsInsideReplica a
    → is_inside now ≡ false → IsFitting now letter → HasForm (joined (replica_inside a) letter)
join_form a now letter same inside outside fits =
    joined_form (replica_inside a) letter inside.form (ap is_inside same ∙ outside)
    (inside.form.outside (ap is_inside same ∙ outside)).idle (subst (λ (r : Replica). IsFitting r letter) (sym same) fits)
