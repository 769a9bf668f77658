use Rattle.std.proofs.Common.{◌≡◌, ◌+◌, ◌≤◌, ◌<◌, ℕ, ap, ◌∙◌, ◌∷◌, ◌++◌, [], arith, rules, subst, sym, take, List}
use Rattle.std.proofs.lemmas.List.{take-append-le}
use Rattle.dr_yard.specs.{Memory.{IsEmptyDisk, place_of}, declared.berth.Berth.{Berth, TheVariants.Here}}
use Rattle.dr_yard.proofs.Filled.{all_here, one_more_empty}
use Rattle.dr_yard.proofs.memory_yard.MemoryYard.new.Goals as goal

pub loop-preserved : goal.loop-preserved
loop-preserved c =
    let places = c.loop.places.items in
    let more : c.push-in-loop.new.self.items ≡ places ++ Here c.in_ok-disk.disk ∷ [] = search rules in
    record {
      count = search rules;
      room = search rules;
      same = ap (take c.len-held.result) more ∙ (take-append-le c.len-held.result places
          (Here c.in_ok-disk.disk ∷ []) (search rules) ∙ c.loop.invariant.same);
      empty = subst (λ (ps : List Berth). (m : ℕ) → c.len-held.result ≤ m → m < c.loop.counter + 1
          → IsEmptyDisk (place_of ps m)) (sym more)
          (one_more_empty places (Here c.in_ok-disk.disk) c.len-held.result c.loop.counter (search rules)
          c.loop.invariant.empty (search rules));
    }

pub returns-clause-here : goal.returns-clause-here
returns-clause-here c =
    all_here c.loop.places.items c.args.disks.items c.len-held.result (search rules) c.loop.invariant.same
    16 (λ m from below. c.loop.invariant.empty m from (omega (arith, below, c.loop-test.false)))
