use Rattle.std.{specs.{Fmt.decimal, List.concat, Prelude.codes}, proofs.Common.{◌++◌, ◌∷◌, [], ◌∙◌, ap}}
use Rattle.std.proofs.lemmas.Fmt.{contents_after_writes}
use Rattle.dr_yard.proofs.paths.path_of.Goals as goal

pub returns-in-Ok : goal.returns-in-Ok
returns-in-Ok c =
    let name = concat (codes "member-" ∷ decimal c.args.member ∷ codes ".log" ∷ []) in
    contents_after_writes _ (λ w. w.bytes) (λ w bs v is. is) c.in_ok-path.path name c.write.new.self
    c.in-Ok.ensures.writes ∙ ap (λ front. front ++ name) c.in_ok-path.ensures
