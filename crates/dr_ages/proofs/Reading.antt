-- What disks that tell read as: there is one content for each.
use Rattle.std.{specs.Prelude.{IfSome, IsSomeAnd, IsTrue, is_some}, proofs.lemmas.List.ext_get_or}
use Rattle.std.proofs.Common.{◌≡◌, refl, sym, ap, ◌∙◌, ℕ, arith, true, false, not, List, Option, None, Some}
use Rattle.dr_entry.proofs.ListPlaces.{within_places}
use Rattle.dr_disk.specs.Disk.{Told, content_of}
use Rattle.dr_history.specs.Members.{has}
use Rattle.dr_log_bytes.specs.{Content.OnLog, Grammar.StandFor}
use Rattle.dr_log.proofs.Standing.{one_read}
use Rattle.dr_opening.specs.Tries.{content_at}
use Rattle.dr_yard.specs.Yards.{AllTell, YardState}
use Rattle.dr_ages.specs.{Found.{AreFound, ReadsAs}, Refused.AreRead}

-- what is found is what is read
pub found_read : (n missing : ℕ) (yard : YardState) (contents : List (Option OnLog)) → AllTell n yard
    → AreFound n missing yard contents → AreRead n missing yard contents
found_read n missing yard contents tell found = record {
  all = found.all;
  there = found.there;
  each = λ m c at. by (yard.told m) c (tell m (omega (arith, within_places contents m c at, found.all)))
      (found.each m c at).reads;
}
  where
    by : (o : Option Told) (c : OnLog) → IsTrue (is_some o) → IfSome o (ReadsAs c)
        → IsSomeAnd o (λ t. StandFor (content_of t) c)
    by None c some reads = absurd (cc)
    by (Some t) c some reads = reads.stands

pub read_once : (n missing : ℕ) (yard : YardState) (xs ys : List (Option OnLog)) → AreRead n missing yard xs
    → AreRead n missing yard ys → xs ≡ ys
read_once n missing yard xs ys a b = ext_get_or None xs ys (a.all ∙ sym b.all) (λ i l. by i (content_at xs i)
    (content_at ys i) refl refl (a.there i (omega (arith, l, a.all))) (b.there i (omega (arith, l, a.all))))
  where
    by : (i : ℕ) (o p : Option OnLog) → content_at xs i ≡ o → content_at ys i ≡ p
        → is_some (content_at xs i) ≡ not (has missing i) → is_some (content_at ys i) ≡ not (has missing i)
        → content_at xs i ≡ content_at ys i
    by i None None e f x y = e ∙ sym f
    by i (Some c) None e f x y =
        absurd (let one : true ≡ false = sym (ap is_some e) ∙ (x ∙ (sym y ∙ ap is_some f)) in cc)
    by i None (Some d) e f x y =
        absurd (let one : true ≡ false = sym (ap is_some f) ∙ (y ∙ (sym x ∙ ap is_some e)) in cc)
    by i (Some c) (Some d) e f x y =
        e ∙ (ap (λ (z : OnLog). Some z) (one_read (yard.told i) c d (a.each i c e) (b.each i d f)) ∙ sym f)
