-- `inside` lends the handle that a struct of C's is: the two lie alike in memory and own the same. Assumes `Logic`.
--     IsHandle     that of a struct and of the handle, with the ways between their values, and what the contract says of the handle lent
--     written      the code as it is generated, at the types behind its references
--     meets        it meets the contract
use mathlib.Core.Path.{◌≡◌, refl, sym}
use Prim.Native.Nat.{ℕ}
use mathlib.Core.List.{List, [], ◌∷◌}
use seplogic.Ra.Ura.{Ura}
use base.Fraction.{full_share}
use mir.Syntax.{Fn, Ty, named, erased, mut, ty_ptr, ty_ref, local, value_local, place, deref, copy, rv_opd, addr_of, seq, assign, block, return}
use mir.Val.{Val, vptr}
use base.Logic.{SProp, ent, sep, emp}
use base.Fml.{Fml, GName, ftrue, flft, fsep}
use prog.Wp.{Env, WpFn, Tables}
use types.Logic.{Logic, sem}
use contract.Monad.{fact}
use sound.WpLaws.{WpFn-mono}
use types.Kit.{‵, raw, ◌⊛◌, some, later, at_ret, ◌$◌, ◌∵◌, !, qed, move, keep, use1, use2, split, split3, join, pick, fsplit, fsplit3, fjoin, fpick, fpack, suffices, frame, done, await, group, rewrite}
use types.Run.{stop, of_opd, first, blocks, exec, returns, enter, addr}
use types.ByLocal.{alloc_all, pass_all, free_all, look_at, get, through, sets, env, sets_last}
use denote.RattleType.{RattleType, owns}
use denote.Memory.{mem, cell_at, cell_raw, part_at, part_of, raw_all}
use denote.Ref.{MutRef, mut_vals, mut_Tells}
use denote.Signature.{plain, mut_ref_to, types_at}
use denote.Builtin.{One, RefMutOf}
use denote.Steps.{nothing, opens}
use denote.Exit.{no}
use denote.Follow.{follows, lends_Part}
use denote.Triple.Clauses.{Ended, Clauses, closing}
use denote.Triple.Spec.{Meets}
use denote.Triple.Walked.{says, Stays, stay_dropped, walk_of, ends_at, walked, walk_Meets, Goes-spent_ref}
use Rattle.std_alloc.proofs.VecSteps.Shapes.{after}

pub record IsHandle (Out In : RattleType) : Type 1 where
  pub as_handle : Out.Denot → In.Denot
  pub of_handle : In.Denot → Out.Denot
  pub one_out : One Out.mir
  pub one_in : One In.mir
  pub lies : raw_all Out.mir ≡ raw_all In.mir
  pub owned : (h : Out.Denot) (vs : List Val) → Out.own_val h vs ≡ In.own_val (as_handle h) vs
  pub owned_back : (w : In.Denot) (vs : List Val) → In.own_val w vs ≡ Out.own_val (of_handle w) vs
  pub Says : Out.Denot → In.Denot → Type 0
  pub said : (h : Out.Denot) → Says h (as_handle h)

abbrev pub written : (outer inner outer_laid inner_laid : Ty) → Fn
written outer inner outer_laid inner_laid = record {
  lifetimes = 1;
  outlives = [];
  ty_params = [];
  givens = 0;
  params = 1;
  locals = local (ty_ref (named 0) mut inner) value_local ∷ local (ty_ref (named 0) mut outer) value_local ∷ local ty_ptr value_local ∷ local (ty_ref erased mut inner) value_local ∷ [];
  body = seq (assign (place 2 []) (addr_of (place 1 (deref outer_laid ∷ [])))) (seq (block (assign (place 3 []) (addr_of (place 2 (deref inner_laid ∷ [])))))
      (seq (assign (place 0 []) (rv_opd (copy (place 3 [])))) return));
}

module _ (Out In : RattleType) (I : IsHandle Out In) where
  abbrev pub ended : Ended
  ended = record { signature = record { lifetimes = 1; outlives = []; params = RefMutOf (0 ∷ []) tt (plain (λ _. Out)) (λ _. I.one_out) ∷ []; result = RefMutOf (0 ∷ []) tt (plain (λ _. In)) (λ _. I.one_in) }; kept = (no, tt) }

  abbrev stayed : Stays ended.signature.params ended.kept
  stayed = (stay_dropped (mut_ref_to (0 ∷ []) tt (plain (λ _. Out))) no, tt)

  module _ {M : Type 1} {𝓤 : Ura M} (𝓛 : Logic 𝓤) (b o : ℕ) where
    goes_in : (h : Out.Denot) (vs : List Val) → ent 𝓤 (sep 𝓤 (sem 𝓛 (cell_at full_share Out.mir vs b o)) (sem 𝓛 (Out.own_val h vs))) (sem 𝓛 ((mem In).own_at (I.as_handle h) b o))
    unfolding part_of
    goes_in h vs =
        qed 𝓛 (‵ (cell_at full_share Out.mir vs b o) ∷ ‵ (Out.own_val h vs) ∷ []) ∵
        rewrite ! 0 (λ (τs : List Ty). ‵ (cell_raw full_share τs vs b o)) I.lies refl $ rewrite ! 1 (λ (P : Fml). ‵ P) (I.owned h vs) refl $ fjoin ! $
        fpack ! (List Val) (λ us. fsep (cell_at full_share In.mir us b o) (In.own_val (I.as_handle h) us)) vs $ done !

    comes_out : (w : In.Denot) → ent 𝓤 (sep 𝓤 (sem 𝓛 ((mem In).own_at w b o)) (sem 𝓛 ftrue)) (sem 𝓛 ((mem Out).own_at (I.of_handle w) b o))
    unfolding part_of
    comes_out w =
        qed 𝓛 (‵ (part_at In full_share w b o) ∷ ‵ ftrue ∷ []) ∵ fpick ! (λ vs. fsplit ! $
        rewrite ! 0 (λ (τs : List Ty). ‵ (cell_raw full_share τs vs b o)) (sym I.lies) refl $ rewrite ! 1 (λ (P : Fml). ‵ P) (I.owned_back w vs) refl $ fjoin ! $
        fpack ! (List Val) (λ us. fsep (cell_at full_share Out.mir us b o) (Out.own_val (I.of_handle w) us)) vs $ keep ! (0 ∷ []) $ done !)

  module _ {M : Type 1} {𝓤 : Ura M} (𝓛 : Logic 𝓤) where
    open 𝓛 use {H}

    abbrev pub spec : Clauses 𝓤 ended
    spec κs a = record { ghost = Unit {0}; requires = λ _. emp 𝓤; ensures = λ _ r _. sep 𝓤 (sem 𝓛 (follows Out In a.0.ghost_name r.ghost_name I.of_handle)) (fact 𝓤 (I.Says a.0.now r.now)) }

    abbrev Bound : Type 0
    Bound = (walk_of 𝓛 ended stayed spec).Ghost

    abbrev spelled : Bound → Bound
    spelled z = ((z.0.0, z.0.1, z.0.2, z.0.3, (mut_vals z.0.3.0, tt)), z.1)

    module _ (𝓣 : Tables 𝓤 H) (outer inner outer_laid inner_laid : Ty) where
      abbrev fn : Fn
      fn = written outer inner outer_laid inner_laid

      walk : (z : Bound) → ent 𝓤 ((walk_of 𝓛 ended stayed spec).pre (spelled z)) (WpFn 𝓤 H 𝓣.C 𝓣.Λ fn ((walk_of 𝓛 ended stayed spec).args (spelled z)) ((walk_of 𝓛 ended stayed spec).post (spelled z)))
      walk z =
          let κ = z.0.0.0 in let q = z.0.1.0 in
          let b : ℕ = z.0.3.0.ref_ptr.0 in let o : ℕ = z.0.3.0.ref_ptr.1 in let γ : GName = z.0.3.0.ghost_name in let h : Out.Denot = z.0.3.0.now in
          let Post : Val → SProp 𝓤 = (walk_of 𝓛 ended stayed spec).post (spelled z) in
          qed 𝓛 (((‵ (flft κ q) ⊛ ‵ ftrue) ⊛ ‵ (owns (types_at ended.signature.params z.0.0) z.0.3 (spelled z).0.4)) ∷ raw (emp 𝓤) ∷ []) ∵
          split ! $ split ! $ move ! (2 ∷ []) $ fsplit ! $ fsplit3 ! $ keep ! (1 ∷ 2 ∷ 4 ∷ []) $
          enter ! 𝓣.C 𝓣.Λ fn (vptr b o ∷ []) _ $ alloc_all ! (λ l. pass_all ! refl ((tt, tt), tt) $
          let En : Env 𝓤 H = env fn.locals l in
          opens ! tt Out {h = h} b o (λ vs. use2 𝓛 (‵ ((mem In).own_at (I.as_handle h) b o)) (goes_in 𝓛 b o h vs) $
          -- [the handle; the open borrow; obs; auth]
          sets ! (addr ! (through ! refl (stop !))) refl (tt, tt) $
          first ! $ blocks ! $
          sets_last ! (addr ! (through ! refl (stop !))) refl (tt, tt) $
          exec ! 𝓣.C 𝓣.Λ En (after 2 fn.body) (at_ret En Post) $
          sets ! (of_opd ! (get ! refl)) refl (tt, tt) $
          nothing ! $ move ! (2 ∷ 3 ∷ 4 ∷ 1 ∷ 0 ∷ []) $ group ! 5 $
          use1 𝓛 (later (some (λ (γ' : GName). ‵ ((MutRef (named 0) κ In).own_val (record { ref_ptr = (b, o); ghost_name = γ'; now = I.as_handle h }) (vptr b o ∷ [])) ⊛ ‵ (flft κ q) ⊛ ‵ (follows Out In γ γ' I.of_handle))))
          (lends_Part 𝓛 Out In I.of_handle (named 0) κ q b o b o γ (sem 𝓛 ftrue) (comes_out 𝓛 b o) (Out.coded.code h) (Out.coded.code h) (I.as_handle h)) $
          await ! tt $ pick ! (λ γ'. split3 ! $ returns ! (look_at ! 0 refl) $ free_all ! refl $
          suffices ! _ (ends_at 𝓛 ended stayed spec (spelled z) (vptr b o) (record { ref_ptr = (b, o); ghost_name = γ'; now = I.as_handle h }) (tt, tt) (tt, tt)) $
          nothing ! $ nothing ! $ fjoin ! $ join ! $ nothing ! $ move ! (2 ∷ 0 ∷ []) $ join ! $ join ! $ frame ! $ says ! (I.said h) $ keep ! (0 ∷ []) $ done !)))

      pub meets : Meets 𝓛 ended.signature (WpFn 𝓤 H 𝓣.C 𝓣.Λ fn) (closing 𝓛 ended spec)
      meets =
          walk_Meets 𝓛 ended stayed (Goes-spent_ref 𝓛 1 (0 ∷ []) tt (plain (λ _. Out)), tt) spec (WpFn 𝓤 H 𝓣.C 𝓣.Λ fn) (WpFn-mono 𝓤 H 𝓛.laws 𝓣 fn)
          (walked 𝓛 ended stayed spec (WpFn 𝓤 H 𝓣.C 𝓣.Λ fn) (λ κs. (mut_vals, tt)) (λ κs. (mut_Tells (named 0) κs.0 Out, tt))
          (λ κs qs bounds a g are. walk ((κs, qs, bounds, a, (mut_vals a.0, tt)), g)))
