-- `closed` makes the null handle: the allocator moves in, and nothing else is owned.
use mathlib.Core.Path.{refl, sym, subst}
use mathlib.Core.List.{List, [], ◌∷◌, ◌++◌}
use Rattle.std.specs.Prelude.{None}
use seplogic.Ra.Ura.{Ura}
use mir.Syntax.{Fn}
use mir.MapTy.{inst_fn}
use mir.Val.{Val, vnull, vstruct, vcons, vnil}
use lib.Dec.{lit<}
use base.Logic.{SProp, ent}
use base.Fml.{ftrue, fsep, flft}
use prog.Memory.{Memory}
use prog.Routine.{Routine}
use prog.Wp.{WpFn, Tables}
use types.Logic.{Logic}
use contract.BorrowLft.{◌⊑◌}
use contract.Monad.{Fun, fact}
use contract.Running.{tables, tables_of}
use sound.WpLaws.{WpFn-mono}
use types.Kit.{fpack, feq_i, Item, ‵, raw, ◌⊛◌, ◌$◌, ◌∵◌, !, qed, by, move, drop, join, split, fsplit, fjoin, suffices, done}
use types.Part.{agg}
use types.Run.{lit, no_more, and_then, returns, enter}
use types.ByLocal.{alloc_all, pass_all, free_all, look_at, get, sets}
use denote.Exit.{yes}
use denote.Param.{param}
use denote.RattleType.{Valss}
use denote.RawPtr.{RawPtr, null_ptr}
use denote.Struct.Owning.{Owning, shape, to}
use denote.Struct.Struct.{within}
use denote.Param.Laws.{Laws}
use denote.RattleType.{RattleType}
use denote.Signature.{plain, type_at}
use denote.Steps.{nothing}
use denote.Triple.Clauses.{Ended, Clauses}
use denote.Triple.Spec.{triple_of}
use denote.Triple.Table.{entered}
use denote.Triple.Walked.{says, Stays, stay_dropped, walk_of, ends_at, Goes-dropped, walk_Meets}
use Rattle.std.proofs.alloc.Calls.{α, handle_tells}
use Rattle.std_alloc.proofs.ResultValues.{and_tt}
use Rattle.std_alloc.proofs.BoxSteps.Form.{Bx}
use Rattle.std_heap.specs.contracts.Global as Allocator
use Rattle.mpheap_c.specs.contracts.handle.Handle as Handle
use Rattle.mpheap_c.proofs.AsBox.{boxed, args}
use Rattle.mpheap_c.specs.contracts.handle.Handle.closed as F
use Rattle.mpheap_c.specs.contracts.handle.Handle.closed.Key.{name as #self}
use Rattle.mpheap_c.proofs.handle.Handle.closed.Statement as stated
use Rattle.mpheap_c.proofs.handle.Handle.closed.Code as code

module _ (X : RattleType) (L : Laws X) where
  abbrev E : Bx
  E = boxed X L

  abbrev fn' : Fn
  fn' = inst_fn (args X) code.function

  abbrev ended : Ended
  ended = F.ended X

  abbrev From : RattleType
  From = Allocator.the_row

  abbrev stayed : Stays ended.signature.params ended.kept
  stayed = (stay_dropped (plain (λ _. From)) yes, tt)

  module _ {M : Type 1} {𝓤 : Ura M} (𝓛 : Logic 𝓤) (at_mem : Memory → SProp 𝓤) (run : Routine → Fun 𝓤) (𝓣 : Tables 𝓤 𝓛.H) where
    open 𝓛 use {H}

    abbrev held : Clauses 𝓤 ended
    held = F.clauses X 𝓛 at_mem run

    walk : (z : (walk_of 𝓛 ended stayed held).Ghost) → ent 𝓤 ((walk_of 𝓛 ended stayed held).pre z) (WpFn 𝓤 H 𝓣.C 𝓣.Λ fn' (z.0.4.0 ++ []) ((walk_of 𝓛 ended stayed held).post z))
    walk z =
        let κs = z.0.0 in let qs = z.0.1 in let Post = (walk_of 𝓛 ended stayed held).post z in
        let To = type_at ended.signature.result κs in
        let ts : Item 𝓤 = ‵ (flft κs.0 qs.0) ⊛ ‵ ftrue in
        let in_x : Item 𝓤 = raw (fact 𝓤 (κs.0 ⊑ X.lives)) in
        let a = z.0.3.0 in
        let The : Owning = Handle.the_type (param 0 X) in
        let made : To.Denot = record { at = null_ptr; alloc = a; value = None } in
        qed 𝓛 ((ts ⊛ ‵ (fsep (Allocator.the_row.own_val a z.0.4.0) ftrue)) ∷ (in_x ⊛ ‵ ftrue) ∷ []) ∵ move ! (1 ∷ []) $ drop ! $ split ! $ move ! (1 ∷ []) $ fsplit ! $ move ! (1 ∷ []) $ drop ! $
        handle_tells E.al ! a z.0.4.0 (λ hv ea fa.
        let w : Val = vstruct (vcons vnull (vcons hv vnil)) in
        let Γ : List (Item 𝓤) = ‵ (Allocator.the_row.own_val a (hv ∷ [])) ∷ ts ∷ [] in
        by ! (subst (λ (us : List Val). ent 𝓤 (types.Kit.⋆ 𝓛 Γ) (WpFn 𝓤 H 𝓣.C 𝓣.Λ fn' (us ++ []) Post)) (sym ea)
        (qed 𝓛 Γ ∵ enter ! 𝓣.C 𝓣.Λ fn' (hv ∷ []) _ $ alloc_all ! (λ ls. pass_all ! refl (fa, tt) $
        sets ! (agg ! (and_then ! (lit ! tt) (and_then ! (get ! refl) (no_more !)))) refl (and_tt (mir.Val.has_ty (α E.al) hv) fa.0, (record { fits = lit< tt }, (fa.1, tt))) $ returns ! (look_at ! 0 refl) $ free_all ! refl $
        nothing ! $ nothing ! $ move ! (2 ∷ 0 ∷ []) $ fjoin ! $ feq_i ! (List Val) (vnull ∷ []) (vnull ∷ []) refl $ fjoin ! $
        feq_i ! (List Val) (w ∷ []) (w ∷ []) refl $ fjoin ! $
        fpack ! (Valss (RawPtr ∷ (Allocator.the_field).row ∷ [])) (within (shape The) (to The made) (w ∷ [])) (vnull ∷ [], (hv ∷ [], tt)) $ fjoin ! $
        suffices ! _ (ends_at 𝓛 ended stayed held z w made (tt, tt) (tt, tt)) $ says ! (refl, refl) $
        nothing ! $ nothing ! $ fjoin ! $ join ! $ move ! (1 ∷ 0 ∷ []) $ join ! $ done !))))

pub closed_spec : {M : Type 1} → stated.statement M
unfolding tables_of
closed_spec 𝓤 𝓛 𝓜 𝓡 wired X L =
    let 𝓣 : Tables 𝓤 𝓛.H = tables_of 𝓤 𝓛.H 𝓜 (tables 𝓤 𝓛.H 𝓜 𝓡 𝓡.env) in
    let fn = fn' X L in
    entered 𝓤 𝓛.H (triple_of 𝓛 (ended X L).signature (F.spec X 𝓛 𝓜.mem 𝓡.returns)) 𝓣.C 𝓣.Λ (#self (args X)) fn (code.unfolded 𝓤 𝓛.H 𝓜 𝓡 wired (X, tt))
    (walk_Meets 𝓛 (ended X L) (stayed X L) (Goes-dropped 𝓛 1 (plain (λ _. From X L)) yes (λ κs x f. refl), tt) (held X L 𝓛 𝓜.mem 𝓡.returns 𝓣) (WpFn 𝓤 𝓛.H 𝓣.C 𝓣.Λ fn) (WpFn-mono 𝓤 𝓛.H 𝓛.laws 𝓣 fn)
    (walk X L 𝓛 𝓜.mem 𝓡.returns 𝓣))
