use Rattle.std.proofs.Common.{ap, length, arith}
use Rattle.dr_restart.proofs.Choosing.{on_holder, one_held}
use Rattle.dr_quorum.specs.Handing.{handed_by}
use Rattle.dr_quorum.proofs.holders.longest_held.Goals as goal

pub returns-in-Some : goal.returns-in-Some
returns-in-Some c m f x =
    let h = handed_by c.args.lists.now in
    let t = c.longest.ensures m f x in (
      on_holder h c.args.age c.longest.result c.in-Some.entries.now c.in-Some.ensures.some,
      omega (
        arith,
        t.2,
        ap length (one_held h c.args.age c.longest.result t.0 c.in-Some.entries.now t.1 c.in-Some.ensures.some),
      ),
    )

pub returns-in-None : goal.returns-in-None
returns-in-None c m f x = let t = c.longest.ensures m f x in absurd (c.in-None.ensures.none t.0 t.1)
