-- `told` compares the pointer with null, and hands the handle back.
use Rattle.std.proofs.Common.{◌≡◌, ◌↔◌, List, [], ◌∷◌, ◌++◌, refl, sym, subst, lit<}
use mathlib.Core.Bool.{Bool, true, false, ◌&&◌}
use lib.Dec.{T}
use seplogic.Ra.Ura.{Ura}
use mir.Syntax.{ty_ptr, ptr_ne}
use mir.Raw.{raw as bare}
use mir.Val.{Val, vnull, vbool, vstruct, vcons, vnil, of_list, op2_val, has_ty, WT}
use base.Logic.{SProp, ent, emp, id⊢, guard_i}
use base.Fml.{Fml, ftrue, fsep, feq}
use prog.Memory.{Memory}
use prog.Routine.{Routine}
use prog.Wp.{WpFn, Tables}
use types.Logic.{Logic, sem}
use contract.Monad.{Fun, fact_use}
use contract.Running.{tables, tables_of}
use sound.WpLaws.{WpFn-mono}
use types.Kit.{Item, Goal, Seq, ‵, raw, ◌⊛◌, given, ◌$◌, ◌∵◌, !, qed, by, move, drop, use1, join, split, learn, rewrite, fsplit, fjoin, fjoin3, fpick, fpack, feq_l, feq_i, suffices, done}
use types.Part.{whole, sub, agg}
use types.Run.{stop, fld, no_more, and_then, bin, lit, returns, enter}
use types.ByLocal.{alloc_all, pass_all, free_all, look_at, get, get_in, sets, is}
use denote.Exit.{yes}
use denote.RattleType.{Valss, owns}
use denote.Builtin.{bool}
use denote.RawPtr.{RawPtr, Ptr, InBlock, Testable, block_ptr, null_ptr, ptr_val, tests_null}
use denote.Signature.{type_at}
use denote.Steps.{nothing}
use denote.Struct.Struct.{within}
use denote.Struct.Owning.{shape}
use denote.Triple.Spec.{triple_of}
use denote.Triple.Table.{entered}
use denote.Triple.Walked.{says, Stays, stay_dropped, walk_of, ends_at, Goes-dropped, walk_Meets}
use Rattle.std.proofs.ResultValues.{and_tt}
use Rattle.std.proofs.GlobalToken.{dealloc_token-Testable}
use Rattle.std.proofs.alloc.Calls.{α, token, Fits, handle_tells}
use Rattle.std.proofs.BoxSteps.Form.{D, P, B, τ, owning}
use Rattle.std.proofs.BoxSteps.Steps.{box_out, box_in}
use Rattle.derecho_c.proofs.AsBox.{E, FromHandle as From}
use Rattle.derecho_c.specs.contracts.Handle as Handle
use Rattle.derecho_c.specs.contracts.Handle.told as F
use Rattle.derecho_c.specs.contracts.Handle.told.Key.{name as #self}
use Rattle.derecho_c.proofs.Handle.told.Statement as stated
use Rattle.derecho_c.proofs.Handle.told.Code as code

abbrev stayed : Stays (F.ended).signature.params (F.ended).kept
stayed = (stay_dropped From yes, tt)

abbrev made_of : Ptr → E.al.row.Denot → E.row.Denot → Handle.the_row.Denot
made_of p a x = record { at = p; alloc = a; value = x }

abbrev bits : Ptr → Val → Val
bits p hv = vstruct (vcons (ptr_val p) (vcons hv vnil))

both_tt : (x y : Bool) → T x → T y → T (x && (y && true))
both_tt true true s t = tt
both_tt true false s t = absurd t
both_tt false y s t = absurd s

pointer_typed : (p : Ptr) → T (has_ty ty_ptr (ptr_val p)) × WT (ptr_val p)
pointer_typed (block_ptr b o) = (tt, tt)
pointer_typed null_ptr = (tt, record { fits = lit< tt })

answer : (p : Ptr) → (y : Bool) × (op2_val ptr_ne (ptr_val p) vnull ≡ vbool y) × ((y ≡ true) ↔ InBlock p)
answer (block_ptr b o) = (true, refl, (λ _. tt, λ _. refl))
answer null_ptr = (false, refl, (λ e. absurd (subst T (sym e) tt), λ i. absurd i))

module _ {M : Type 1} {𝓤 : Ura M} {𝓛 : Logic 𝓤} {K : Type 0} {Γ : List (Item 𝓤)} {G : Goal 𝓤 𝓛.H} where
  -- the machine value of a handle, whose pointer may be compared with null
  words : K → (p : Ptr) (a : E.al.row.Denot) (x : E.row.Denot) (vs : List Val)
      → ((hv : Val) → vs ≡ bits p hv ∷ [] → Fits E.al hv → Testable p → Seq K 𝓛 (‵ (Handle.the_row.own_val (made_of p a x) vs) ∷ Γ) G)
      → Seq K 𝓛 (‵ (Handle.the_row.own_val (made_of p a x) vs) ∷ Γ) G
  words t (block_ptr b o) a x vs k =
      let v : D E = record { ptr = block_ptr b o; alloc = a; value = x } in
      use1 𝓛 (‵ ((B E).own_val v vs)) (id⊢ 𝓤 _) $ box_out E t v vs (λ b' o' hv e ws fa.
      let q : Ptr = block_ptr b' o' in let F : Fml = token E.al a (bare (τ E)) q in
      move t (1 ∷ []) $ use1 𝓛 (given (Testable q) (‵ F)) (fact_use 𝓤 _ (dealloc_token-Testable 𝓛 a (bare (τ E)) q) (guard_i 𝓤 (Testable q) (sem 𝓛 F))) $ learn t (λ low.
      move t (1 ∷ 0 ∷ []) $ box_in E t v b' o' x e refl $ rewrite t 0 (λ (us : List Val). ‵ ((B E).own_val v us)) (sym ws) refl $
      use1 𝓛 (‵ (Handle.the_row.own_val (made_of (block_ptr b o) a x) vs)) (id⊢ 𝓤 _) $
      k hv (subst (λ (r : Ptr). vs ≡ bits r hv ∷ []) (sym e) ws) fa (subst Testable (sym e) low)))
  words t null_ptr a x vs k =
      fsplit t $ fpick t (λ vss. fsplit t $ feq_l t (λ ev. fsplit t $ feq_l t (λ ep. fsplit t $ handle_tells E.al t a vss.1.0 (λ hv ea fa.
      let w : Val = bits null_ptr hv in
      let ws : vs ≡ w ∷ [] = subst (λ (us : List Val). vs ≡ vstruct (of_list (ptr_val null_ptr ∷ (us ++ []))) ∷ []) ea (subst (λ (ps : List Val). vs ≡ vstruct (of_list (ps ++ (vss.1.0 ++ []))) ∷ []) ep ev) in
      move t (1 ∷ []) $ drop t $ move t (1 ∷ 0 ∷ []) $
      nothing t $ move t (2 ∷ 0 ∷ []) $ fjoin t $ feq_i t (List Val) (ptr_val null_ptr ∷ []) (ptr_val null_ptr ∷ []) refl $ fjoin t $ feq_i t (List Val) (w ∷ []) (w ∷ []) refl $ fjoin t $
      fpack t (Valss (RawPtr ∷ P E ∷ [])) (within (shape (owning E)) (null_ptr, (a, tt)) (w ∷ [])) (ptr_val null_ptr ∷ [], (hv ∷ [], tt)) $ fjoin t $
      use1 𝓛 (‵ (Handle.the_row.own_val (made_of null_ptr a x) (w ∷ []))) (id⊢ 𝓤 _) $
      rewrite t 0 (λ (us : List Val). ‵ (Handle.the_row.own_val (made_of null_ptr a x) us)) (sym ws) refl $ k hv ws fa (lit< tt)))))

module _ {M : Type 1} {𝓤 : Ura M} (𝓛 : Logic 𝓤) (at_mem : Memory → SProp 𝓤) (run : Routine → Fun 𝓤) (𝓣 : Tables 𝓤 𝓛.H) where
  open 𝓛 use {H}

  walk : (z : (walk_of 𝓛 F.ended stayed (F.clauses 𝓛 at_mem run)).Ghost)
      → ent 𝓤 ((walk_of 𝓛 F.ended stayed (F.clauses 𝓛 at_mem run)).pre z) (WpFn 𝓤 H 𝓣.C 𝓣.Λ code.function (z.0.4.0 ++ []) ((walk_of 𝓛 F.ended stayed (F.clauses 𝓛 at_mem run)).post z))
  walk z =
      let Post = (walk_of 𝓛 F.ended stayed (F.clauses 𝓛 at_mem run)).post z in
      let d = z.0.3.0 in let p = d.at in let y : Bool = (answer p).0 in
      let To = type_at (F.signature).result tt in
      qed 𝓛 ((‵ ftrue ⊛ ‵ (fsep (Handle.the_row.own_val d z.0.4.0) ftrue)) ∷ raw (emp 𝓤) ∷ []) ∵ split ! $ drop ! $ fsplit ! $
      words ! p d.alloc d.value z.0.4.0 (λ hv ws fa low. move ! (1 ∷ 2 ∷ []) $ drop ! $ drop ! $
      let w = bits p hv in let out : Val = vstruct (vcons (vbool y) (vcons w vnil)) in
      let typed : T (has_ty ty_ptr (ptr_val p) && (has_ty (α E.al) hv && true)) × WT (bits p hv) = (both_tt (has_ty ty_ptr (ptr_val p)) (has_ty (α E.al) hv) (pointer_typed p).0 fa.0, ((pointer_typed p).1, (fa.1, tt))) in
      rewrite ! 0 (λ (us : List Val). ‵ (Handle.the_row.own_val d us)) ws refl $
      let Γ : List (Item 𝓤) = ‵ (Handle.the_row.own_val d (w ∷ [])) ∷ [] in
      by ! (subst (λ (us : List Val). ent 𝓤 (types.Kit.⋆ 𝓛 Γ) (WpFn 𝓤 H 𝓣.C 𝓣.Λ code.function (us ++ []) Post)) (sym ws)
      (qed 𝓛 Γ ∵ enter ! 𝓣.C 𝓣.Λ code.function (w ∷ []) _ $ alloc_all ! (λ ls. pass_all ! refl (typed, tt) $
      sets ! (is ! (bin ! (get_in ! (fld ! refl (stop !)) (sub ! 0 refl (whole !))) (lit ! tt) (tests_null p low)) (answer p).1) refl (tt, tt) $
      sets ! (agg ! (and_then ! (get ! refl) (and_then ! (get ! refl) (no_more !)))) refl (and_tt _ typed.0, (tt, (typed.1, tt))) $ returns ! (look_at ! 0 refl) $ free_all ! refl $
      feq_i ! (List Val) (vbool y ∷ []) (vbool y ∷ []) refl $ nothing ! $ move ! (1 ∷ 2 ∷ 0 ∷ []) $ fjoin3 ! $ feq_i ! (List Val) (out ∷ []) (out ∷ []) refl $ fjoin ! $
      fpack ! (Valss (bool ∷ Handle.the_row ∷ [])) (λ uss. fsep (feq (List Val) (out ∷ []) (vstruct (of_list (uss.0 ++ (uss.1.0 ++ []))) ∷ [])) (owns (bool ∷ Handle.the_row ∷ []) (y, (d, tt)) uss)) (vbool y ∷ [], (w ∷ [], tt)) $
      use1 𝓛 (‵ (To.own_val (y, d) (out ∷ []))) (id⊢ 𝓤 _) $
      suffices ! _ (ends_at 𝓛 F.ended stayed (F.clauses 𝓛 at_mem run) z out (y, d) (tt, tt) (tt, tt)) $ says ! (refl, (answer p).2) $
      nothing ! $ nothing ! $ fjoin ! $ join ! $ nothing ! $ join ! $ done !))))

pub told_spec : {M : Type 1} → stated.statement M
unfolding tables_of
told_spec 𝓤 𝓛 𝓜 𝓡 wired =
    let 𝓣 : Tables 𝓤 𝓛.H = tables_of 𝓤 𝓛.H 𝓜 (tables 𝓤 𝓛.H 𝓜 𝓡 𝓡.env) in
    entered 𝓤 𝓛.H (triple_of 𝓛 F.signature (F.spec 𝓛 𝓜.mem 𝓡.returns)) 𝓣.C 𝓣.Λ #self code.function (code.unfolded 𝓤 𝓛.H 𝓜 𝓡 wired)
    (walk_Meets 𝓛 F.ended stayed (Goes-dropped 𝓛 0 From yes (λ κs x f. refl), tt) (F.clauses 𝓛 𝓜.mem 𝓡.returns) (WpFn 𝓤 𝓛.H 𝓣.C 𝓣.Λ code.function) (WpFn-mono 𝓤 𝓛.H 𝓛.laws 𝓣 code.function)
    (walk 𝓛 𝓜.mem 𝓡.returns 𝓣))
