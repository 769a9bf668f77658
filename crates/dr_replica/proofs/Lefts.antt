-- What is emptied as a view is left, and how its end tells of all views.
use Rattle.std.proofs.Common.{◌≡◌, ℕ, ◌+◌, ◌<◌, List, [], ◌∷◌, ◌++◌, length, length-append, append-nil, map, sym, ap, ◌∙◌, arith}
use Rattle.std.proofs.lemmas.List.{length-map, map-append}
use Rattle.dr_replica.specs.{Lefts.left_of, declared.left.Left.Left}
use Rattle.dr_entry.specs.declared.end.{SentItem.SentItem, ViewSent.ViewSent}
use Rattle.dr_program.specs.{Form.HasForm, Program.sent_before, Replica.Replica}
use Rattle.dr_program.proofs.Programs.{sent_before_long, sent_before_more}

-- a member's lists are put together view by view, each with its number
pub put_before : (sent : List ViewSent) (given : List Left) (l : Left) (n : ℕ) (items : List SentItem)
    → sent ≡ sent_before 0 (map left_of given) → n ≡ length sent → items ≡ l.sent.items
    → sent ++ record { number = n; items = items } ∷ [] ≡ sent_before 0 (map left_of (given ++ l ∷ []))
put_before sent given l n items told count is = ap (λ (x : List ViewSent). x ++ record { number = n; items = items }
    ∷ []) told ∙ ap (λ (k : ℕ). sent_before 0 (map left_of given) ++ record { number = k; items = items } ∷ []) number
    ∙ ap (λ (x : List SentItem). sent_before 0 (map left_of given)
    ++ record { number = 0 + length (map left_of given); items = x } ∷ []) is ∙ sym (sent_before_more 0
    (map left_of given) (left_of l)) ∙ ap (sent_before 0) (sym (map-append left_of given (l ∷ [])))
  where
    number : n ≡ 0 + length (map left_of given)
    number = omega (arith, count, ap length told, sent_before_long 0 (map left_of given))

-- so far there are fewer lists than views that were left, whose number is below that of the banks
pub put_few : (sent : List ViewSent) (given rest : List Left) (l : Left) (r : Replica)
    → sent ≡ sent_before 0 (map left_of given) → map left_of (given ++ l ∷ rest) ≡ r.left → HasForm r
    → (length sent < r.view) × (r.view < r.banks)
put_few sent given rest l r told all form = (
  omega (
    arith,
    ap length told,
    sent_before_long 0 (map left_of given),
    length-map given left_of,
    ap length all,
    length-map (given ++ l ∷ rest) left_of,
    length-append given (l ∷ rest),
    form.left,
  ),
  form.bank,
)

-- in the end there is a list for each of them
pub put_all : (sent : List ViewSent) (given rest : List Left) (r : Replica)
    → sent ≡ sent_before 0 (map left_of given) → map left_of (given ++ rest) ≡ r.left → length rest ≡ 0
    → HasForm r → (sent ≡ sent_before 0 r.left) × ((length sent ≡ r.view) × (r.view < r.banks))
put_all sent given (l ∷ rest) r told all none form = absurd (omega (arith, none))
put_all sent given [] r told all none form =
    let same : sent ≡ sent_before 0 r.left = told
    ∙ ap (λ (ls : List Left). sent_before 0 (map left_of ls)) (sym (append-nil given)) ∙ ap (sent_before 0) all in
    (same, (omega (arith, ap length same, sent_before_long 0 r.left, form.left), form.bank))
