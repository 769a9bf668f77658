use Rattle.std.proofs.Common.{◌≡◌, ℕ, ◌+◌, ◌<◌, List, [], ◌++◌, length, min, take, drop, sym, ap, ◌∙◌, arith, take-append-drop}
use Rattle.std.proofs.lemmas.Grind.{common_steps}
use Rattle.dr_io.specs.MemorySource.{SourceState}
use Rattle.dr_io.proofs.memory_source.MemorySourceSource.read.Goals as goal

-- what was left is what was copied and what is left now
rest_after : (bytes into : List ℕ) (at n : ℕ) → take n into ≡ take n (drop at bytes)
    → drop at bytes ≡ take n into ++ drop (at + n) bytes
rest_after bytes into at n copied = grind (arith, common_steps, take-append-drop n (drop at bytes))

-- nothing is copied only where nothing is left
none_after : (bytes : List ℕ) (at piece room n : ℕ) → n
    ≡ min piece (min room (length (drop at bytes))) → 0 < piece → 0 < room → n ≡ 0 → drop (at + n) bytes ≡ []
none_after bytes at piece room n count some wide none = grind (arith, common_steps)

pub returns-clause-bytes : goal.returns-clause-bytes
returns-clause-bytes c =
    let bytes = c.self.inside.bytes.items in
    let at = c.self.inside.at in
    let n = c.copy_front-count.result in (
      sym (ap (λ (s : SourceState). s.left) c.self.view_is)
          ∙ rest_after bytes c.copy_front-count.new.into at n (grind (arith, common_steps)),
      none_after bytes at c.self.inside.piece (length c.args.into.now) n
          (grind (arith, common_steps)) c.self.invariant.1 c.requires,
    )
