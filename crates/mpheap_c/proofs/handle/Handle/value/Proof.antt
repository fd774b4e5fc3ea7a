-- `value` lends the value behind the pointer, and the handle follows it, as `Box::as_mut` does.
use mathlib.Core.Path.{◌≡◌, refl}
use Prim.Native.Nat.{ℕ}
use mathlib.Core.List.{List, [], ◌∷◌}
use seplogic.Ra.Ura.{Ura}
use base.Fraction.{full_share}
use mir.Syntax.{Fn, named}
use mir.MapTy.{inst_fn}
use mir.Raw.{raw as bare}
use mir.Val.{Val, vptr}
use base.Logic.{SProp, ent, sep, id⊢}
use base.Fml.{Fml, GName, ftrue, flft, fsep}
use prog.Memory.{Memory}
use prog.Routine.{Routine}
use prog.Wp.{Env, WpFn, Tables}
use types.Logic.{Logic, sem}
use contract.BorrowLft.{◌⊑◌}
use contract.Monad.{Fun, fact}
use contract.Running.{tables, tables_of}
use sound.WpLaws.{WpFn-mono}
use types.Kit.{‵, raw, ◌⊛◌, some, later, at_ret, ◌$◌, ◌∵◌, !, qed, move, keep, use1, drop, split, split3, join, pick, fsplit, fsplit3, fjoin, fpack, suffices, frame, done, await, group, rewrite}
use types.Part.{whole, sub, look_in}
use types.Run.{stop, fld, load, of_opd, first, blocks, exec, returns, enter, addr}
use types.ByLocal.{alloc_all, pass_all, free_all, look_at, get, through, sets, env, sets_last}
use denote.Param.Laws.{Laws}
use denote.RattleType.{RattleType, owns}
use denote.Memory.{part_at, mem, cell_at, part_of}
use denote.RawPtr.{block_ptr}
use denote.Ref.{MutRef, mut_vals, mut_Tells}
use denote.Signature.{plain, mut_ref_to, types_at}
use denote.Steps.{heard, nothing, opens}
use denote.Exit.{no}
use denote.Follow.{follows, lends_Part}
use denote.Triple.Clauses.{Ended, Clauses, closing}
use denote.Triple.Spec.{Meets, triple_of}
use denote.Triple.Table.{entered}
use denote.Triple.Walked.{says, Stays, stay_dropped, walk_of, ends_at, walked, walk_Meets, Goes-spent_ref}
use Rattle.std.specs.Prelude.{Option}
use Rattle.std.proofs.alloc.Calls.{token}
use Rattle.std_alloc.proofs.VecSteps.Shapes.{after}
use Rattle.std_alloc.proofs.BoxSteps.Form.{Bx, D, R, B, τ, word, handle}
use Rattle.std_alloc.proofs.BoxSteps.Steps.{box_out, box_in}
use Rattle.mpheap_c.specs.Handle.{IsOpen}
use Rattle.mpheap_c.specs.Follows.{with_value}
use Rattle.mpheap_c.proofs.AsBox.{boxed, args, FromHandle}
use Rattle.mpheap_c.specs.contracts.handle.Handle.value as F
use Rattle.mpheap_c.specs.contracts.handle.Handle.value.Key.{name as #self}
use Rattle.mpheap_c.proofs.handle.Handle.value.Statement as stated
use Rattle.mpheap_c.proofs.handle.Handle.value.Code as code

module _ (X : RattleType) (L : Laws X) where
  abbrev E : Bx
  E = boxed X L

  abbrev fn' : Fn
  fn' = inst_fn (args X) code.function

  abbrev ended : Ended
  ended = F.ended X

  abbrev Hp : RattleType
  Hp = FromHandle X

  abbrev stayed : Stays ended.signature.params ended.kept
  stayed = (stay_dropped (mut_ref_to (0 ∷ []) tt (plain (λ _. Hp))) no, tt)

  module _ {M : Type 1} {𝓤 : Ura M} (𝓛 : Logic 𝓤) (rb ro : ℕ) (h : Hp.Denot) (b o : ℕ) (hv : Val) where
    -- all of the handle but its value
    abbrev Rest : Fml
    Rest = fsep (fsep (token E.al h.alloc (bare (τ E)) (block_ptr b o)) (handle E h.alloc hv)) (cell_at full_share Hp.mir (word E hv b o ∷ []) rb ro)

    back : h.at ≡ block_ptr b o → (w : X.Denot) → ent 𝓤 (sep 𝓤 (sem 𝓛 ((mem (R E)).own_at w b o)) (sem 𝓛 Rest)) (sem 𝓛 ((mem Hp).own_at (with_value h w) rb ro))
    unfolding part_of
    back at_b w =
        let d : D E = record { ptr = h.at; alloc = h.alloc; value = w } in
        qed 𝓛 (‵ (part_at (R E) full_share w b o) ∷ ‵ Rest ∷ []) ∵ move ! (1 ∷ []) $ fsplit ! $ fsplit ! $ move ! (3 ∷ []) $
        box_in E ! d b o w at_b refl $ use1 𝓛 (‵ (Hp.own_val (with_value h w) (word E hv b o ∷ []))) (id⊢ 𝓤 _) $ move ! (1 ∷ 0 ∷ []) $ fjoin ! $
        fpack ! (List Val) (λ us. fsep (cell_at full_share Hp.mir us rb ro) (Hp.own_val (with_value h w) us)) (word E hv b o ∷ []) $ done !

  module _ {M : Type 1} {𝓤 : Ura M} (𝓛 : Logic 𝓤) (at_mem : Memory → SProp 𝓤) (run : Routine → Fun 𝓤) (𝓣 : Tables 𝓤 𝓛.H) where
    open 𝓛 use {H}

    abbrev held : Clauses 𝓤 ended
    held = F.clauses X 𝓛 at_mem run

    abbrev Bound : Type 0
    Bound = (walk_of 𝓛 ended stayed held).Ghost

    abbrev spelled : Bound → Bound
    spelled z = ((z.0.0, z.0.1, z.0.2, z.0.3, (mut_vals z.0.3.0, tt)), z.1)

    walk : (z : Bound) → ent 𝓤 ((walk_of 𝓛 ended stayed held).pre (spelled z)) (WpFn 𝓤 H 𝓣.C 𝓣.Λ fn' ((walk_of 𝓛 ended stayed held).args (spelled z)) ((walk_of 𝓛 ended stayed held).post (spelled z)))
    walk z =
        let κ = z.0.0.0 in let κ₁ = z.0.0.1.0 in let q = z.0.1.0 in let q₁ = z.0.1.1.0 in
        let rb : ℕ = z.0.3.0.ref_ptr.0 in let ro : ℕ = z.0.3.0.ref_ptr.1 in let γ : GName = z.0.3.0.ghost_name in let h : Hp.Denot = z.0.3.0.now in
        let Post : Val → SProp 𝓤 = (walk_of 𝓛 ended stayed held).post (spelled z) in
        qed 𝓛 (((‵ (flft κ q) ⊛ ‵ (flft κ₁ q₁) ⊛ ‵ ftrue) ⊛ ‵ (owns (types_at ended.signature.params z.0.0) z.0.3 (spelled z).0.4)) ∷ (raw (fact 𝓤 (κ₁ ⊑ X.lives)) ⊛ raw (fact 𝓤 (IsOpen h.value))) ∷ []) ∵
        move ! (1 ∷ []) $ split ! $ drop ! $ heard ! (IsOpen h.value) (λ opened.
        let d : D E = record { ptr = h.at; alloc = h.alloc; value = opened.0 } in
        split ! $ split ! $ move ! (2 ∷ []) $ fsplit ! $ fsplit3 ! $ keep ! (1 ∷ 2 ∷ 4 ∷ 5 ∷ []) $
        enter ! 𝓣.C 𝓣.Λ fn' (vptr rb ro ∷ []) _ $ alloc_all ! (λ l. pass_all ! refl ((tt, tt), tt) $
        let En : Env 𝓤 H = env fn'.locals l in
        opens ! tt Hp {h = h} rb ro (λ vs. move ! (1 ∷ []) $
        rewrite ! 0 (λ (k : Option X.Denot). ‵ (Hp.own_val (record { at = h.at; alloc = h.alloc; value = k }) vs)) opened.1 refl $
        use1 𝓛 (‵ ((B E).own_val d vs)) (id⊢ 𝓤 _) $
        box_out E ! d vs (λ b o hv at_b ws fa. move ! (1 ∷ 2 ∷ []) $ fjoin ! $ move ! (1 ∷ []) $
        rewrite ! 2 (λ (us : List Val). ‵ (cell_at full_share Hp.mir us rb ro)) ws refl $
        -- [the value; the token with the allocator; the handle's word; the open borrow; obs; auth; the element's lifetime]
        sets ! (of_opd ! (load ! (through ! refl (fld ! refl (stop !))) (look_in ! 2 (sub ! 0 refl (whole !))))) refl (tt, tt) $
        first ! $ blocks ! $
        sets_last ! (addr ! (through ! refl (stop !))) refl (tt, tt) $
        exec ! 𝓣.C 𝓣.Λ En (after 2 fn'.body) (at_ret En Post) $
        sets ! (of_opd ! (get ! refl)) refl (tt, tt) $
        move ! (1 ∷ 2 ∷ []) $ fjoin ! $ move ! (2 ∷ 3 ∷ 4 ∷ 1 ∷ 0 ∷ []) $ group ! 5 $
        use1 𝓛 (later (some (λ (γ' : GName). ‵ ((MutRef (named 0) κ (R E)).own_val (record { ref_ptr = (b, o); ghost_name = γ'; now = opened.0 }) (vptr b o ∷ [])) ⊛ ‵ (flft κ q) ⊛ ‵ (follows Hp (R E) γ γ' (with_value h)))))
        (lends_Part 𝓛 Hp (R E) (with_value h) (named 0) κ q rb ro b o γ (sem 𝓛 (Rest 𝓛 rb ro h b o hv)) (back 𝓛 rb ro h b o hv at_b) (Hp.coded.code h) (Hp.coded.code h) opened.0) $
        await ! tt $ pick ! (λ γ'. split3 ! $ returns ! (look_at ! 0 refl) $ free_all ! refl $
        suffices ! _ (ends_at 𝓛 ended stayed held (spelled z) (vptr b o) (record { ref_ptr = (b, o); ghost_name = γ'; now = opened.0 }) (tt, tt) (tt, tt)) $
        nothing ! $ nothing ! $ fjoin ! $ join ! $ move ! (1 ∷ 3 ∷ []) $ join ! $ join ! $ frame ! $ says ! opened.1 $ keep ! (0 ∷ []) $ done !)))))

    meets : Meets 𝓛 ended.signature (WpFn 𝓤 H 𝓣.C 𝓣.Λ fn') (closing 𝓛 ended held)
    meets =
        walk_Meets 𝓛 ended stayed (Goes-spent_ref 𝓛 2 (0 ∷ []) tt (plain (λ _. Hp)), tt) held (WpFn 𝓤 H 𝓣.C 𝓣.Λ fn') (WpFn-mono 𝓤 H 𝓛.laws 𝓣 fn')
        (walked 𝓛 ended stayed held (WpFn 𝓤 H 𝓣.C 𝓣.Λ fn') (λ κs. (mut_vals, tt)) (λ κs. (mut_Tells (named 0) κs.0 Hp, tt))
        (λ κs qs bounds a g are. walk ((κs, qs, bounds, a, (mut_vals a.0, tt)), g)))

pub value_spec : {M : Type 1} → stated.statement M
unfolding tables_of
value_spec 𝓤 𝓛 𝓜 𝓡 wired X L =
    let 𝓣 : Tables 𝓤 𝓛.H = tables_of 𝓤 𝓛.H 𝓜 (tables 𝓤 𝓛.H 𝓜 𝓡 𝓡.env) in
    entered 𝓤 𝓛.H (triple_of 𝓛 (ended X L).signature (F.spec X 𝓛 𝓜.mem 𝓡.returns)) 𝓣.C 𝓣.Λ (#self (args X)) (fn' X L) (code.unfolded 𝓤 𝓛.H 𝓜 𝓡 wired (X, tt))
    (meets X L 𝓛 𝓜.mem 𝓡.returns 𝓣)
