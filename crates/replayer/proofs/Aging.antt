-- A replayer's flags go on telling which objects are old.
use Rattle.std.proofs.Common.{◌≡◌, ℕ, ◌+◌, ◌<◌, ◌≤◌, Bool, List, refl, sym, ap, ◌∙◌, subst, arith, ⊎_elim}
use Rattle.std.proofs.lemmas.Bool.{cases_eq}
use Rattle.std.proofs.lemmas.Option.{same_Some}
use Rattle.heap_spec.specs.declared.call.Call.{Call}
use Rattle.heap_spec.specs.declared.call.Call.TheVariants.{Free}
use Rattle.heap_spec.specs.declared.event.Event.{Event}
use Rattle.heap_spec.specs.declared.event.Event.TheVariants.{Mutator, BeginPartial}
use Rattle.heap_spec.specs.declared.reply.Reply.{Reply}
use Rattle.heap_spec.specs.declared.reply.Reply.TheVariants.{Done}
use Rattle.heap_spec.specs.Heap.{Heap, Object, HasObject}
use Rattle.heap_spec.specs.Laws.{IsOldOrNew}
use Rattle.heap_spec.specs.Closure.{Closure}
use Rattle.heap_spec.specs.Runs.{Start, Run, heap_after, needs_full_after, old_births, goes_on}
use Rattle.heap_spec.specs.Steps.{Step}
use Rattle.heap_spec.specs.Touching.{HasApartObjects}
use Rattle.heap_spec.proofs.Births.{step_births}
use Rattle.plain_heap.specs.PlainContents.{PlainContents}
use Rattle.plain_heap.specs.Standing.{StandsFor}
use Rattle.plain_heap.specs.Answering.{IsBornAt}
use Rattle.plain_heap.specs.Flags.{IsFlagged, HasFlags}
use Rattle.plain_heap.specs.Aging.{TellOld, FlagsAll, FlagUnset, FlagsClosure}
use Rattle.replayer.specs.ReplayerContents.{TellTouched}

-- a call that is no free, or that was not done, leaves the need of a full cycle
pub not_free : (slot : ℕ) (call : Call) (reply : Reply) (before : Bool) → ((r : ℕ) → call ≡ Free r → ⊥) → needs_full_after (Mutator slot call) reply before ≡ before
not_free slot (Free r) reply before other = absurd (other r refl)
not_free slot _ reply before other = refl

module _ (s s' : Heap) (d' : HasApartObjects s') where
  -- a step that leaves the count of births leaves which objects are old
  pub old_tell : (origin : ℕ) (event : Event) (reply : Reply) → Step s event reply s' → s'.births ≡ s.births → (flags : List Bool) (last : ℕ) → TellOld origin s flags last → TellOld origin s' flags last
  old_tell origin event reply step births flags last tell base p has = ⊎_elim
      (λ old. (
        λ set. subst (λ b. b ≤ last) (sym old.2.birth) ((tell base old.0 old.1).0 set),
        λ le. (tell base old.0 old.1).1 (subst (λ b. b ≤ last) old.2.birth le),
      ))
      (λ born. let top = d'.born base p has in absurd (omega (arith, births, top, born)))
      (step_births s event reply s' step base p has)

  -- what is born is not old
  pub new_tell : ((q : ℕ) (p : Object) → HasObject s' q p → IsOldOrNew s q p) → s'.births ≡ s.births + 1 → (base : ℕ) (born : IsBornAt s base s') (c : PlainContents) → StandsFor c s' → (old new : List Bool) → FlagUnset c base old new
      → (last : ℕ) → last ≤ s.births → TellOld c.origin s old last → TellOld c.origin s' new last
  new_tell split births base born c h old new f last past tell at p has = ⊎_elim here away (cases_eq at base)
    where
      newest : s.births < born.object.birth
      newest = born.newest

      here : at ≡ base → (IsFlagged c.origin new at → p.birth ≤ last) × (p.birth ≤ last → IsFlagged c.origin new at)
      here same = (
        λ set. absurd (f.unset s' h born.object born.there (subst (IsFlagged c.origin new) same set)),
        λ le.
            let is : p.birth ≡ born.object.birth = ap (λ (x : Object). x.birth) (same_Some p born.object (sym has ∙ ap s'.objects same ∙ born.there)) in
            absurd (omega (arith, is, le, newest, past)),
      )

      away : (at ≡ base → ⊥) → (IsFlagged c.origin new at → p.birth ≤ last) × (p.birth ≤ last → IsFlagged c.origin new at)
      away ne = ⊎_elim
          (λ was. (
            λ set. subst (λ b. b ≤ last) (sym was.2.birth) ((tell at was.0 was.1).0 ((f.others s' h born.object born.there at p has ne).0 set)),
            λ le. (f.others s' h born.object born.there at p has ne).1 ((tell at was.0 was.1).1 (subst (λ b. b ≤ last) was.2.birth le)),
          ))
          (λ too.
          let top = d'.born at p has in
          let top' = d'.born base born.object born.there in
          absurd (ne (d'.births at base p born.object has born.there (omega (arith, top, top', too, newest, births)))))
          (split at p has)

-- after a collection all objects are old
pub all_tell : (s : Heap) (c : PlainContents) → StandsFor c s → (flags : List Bool) → HasFlags c.pages flags → FlagsAll c flags → TellOld c.origin s flags s.births
all_tell s c h flags room all base o has = (λ set. (h.born base o has).1, λ le. all room s h base o has)

-- a partial cycle touches what roots and old objects lead to
pub partial_tell : (start : Start) (run : Run) (c : PlainContents) → StandsFor c (heap_after start run) → HasApartObjects (heap_after start run) → (aged flags : List Bool) → TellOld c.origin (heap_after start run) aged (old_births start run)
    → HasFlags c.pages flags → FlagsClosure c aged flags → TellTouched c.origin flags start (goes_on run BeginPartial Done (heap_after start run))
partial_tell start run c h d aged flags tell room closure base o has =
    let k = closure room (heap_after start run) h (old_births start run) tell base o has in (
      λ set. (base, o, has, refl, k.0 set),
      λ x. k.1 (subst (Closure (heap_after start run) (λ birth. birth ≤ old_births start run)) (d.births x.0 base x.1 o x.2 has x.3) x.4),
    )
