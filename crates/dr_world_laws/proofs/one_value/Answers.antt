use Rattle.dr_machine.proofs.Runs.{is_last, run_way}
use Rattle.dr_world_laws.proofs.{Telling.majority-kept, Worlds.{commit_since, commits, known, same_ballot}}
use Rattle.dr_world_laws.proofs.one_value.Goals as goal

pub returns : goal.returns
returns c = record {
  ballot = λ g w i j x y is r h l of. same_ballot g w i j x y (known g w is r) h l of;
  majority = λ g w i j members x y is r held h l most view above.
      majority-kept g w i j members x y is (known g w is r) held h l most view above;
  committed = λ g w m v is r e. commits g w m v (known g w is r) e;
  one = commit_since;
  events = λ g early late es m k u v is r run e d same.
      let t = run_way g r.0 early late es r.1 run in
      commit_since g t.0 early late m k u v is t.1 (t.2 early (is_last r.0 early)) e d same;
}
