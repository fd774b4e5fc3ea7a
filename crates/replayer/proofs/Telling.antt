-- A replayer's flags go on telling what is touched.
use Rattle.std.proofs.Common.{◌≡◌, ◌⊎◌, ℕ, true, List, Bool, refl, subst, inl, inr, ⊎_elim}
use Rattle.words.specs.declared.class.Kind.{Kind}
use Rattle.heap_spec.specs.declared.call.Call.{Call}
use Rattle.heap_spec.specs.declared.call.Call.TheVariants.{Alloc}
use Rattle.heap_spec.specs.declared.event.Event.TheVariants.{Attach, Mutator, Begin}
use Rattle.heap_spec.specs.declared.reply.Reply.{Reply}
use Rattle.heap_spec.specs.declared.reply.Reply.TheVariants.{Done}
use Rattle.heap_spec.specs.Heap.{Heap}
use Rattle.heap_spec.specs.Closure.{Reached}
use Rattle.heap_spec.specs.Laws.{IsNoAlloc}
use Rattle.heap_spec.specs.Runs.{Start, Run, Touched, heap_after, is_marking, goes_on}
use Rattle.heap_spec.specs.Steps.{Attaches, Calls}
use Rattle.heap_spec.specs.Touching.{LedTo, HasNewborn, IsBrought, HasApartObjects}
use Rattle.heap_spec.proofs.Gaining.{Gains, calls_gain, attach_gain}
use Rattle.heap_spec.proofs.Touching.{flags_tell, marking_closed, brought_one, calls_refuse}
use Rattle.plain_heap.specs.PlainContents.{PlainContents}
use Rattle.plain_heap.specs.Standing.{StandsFor}
use Rattle.plain_heap.specs.Answering.{IsBornAt}
use Rattle.plain_heap.specs.Flags.{IsFlagged, HasFlags, FlagsReached, FlagsLed, FlagsBrought, LeadsToFlagged}
use Rattle.replayer.specs.ReplayerContents.{TellTouched}
use Rattle.replayer.specs.Replays.{IsGrant}

-- a call is a request, or none
alloc_or : (call : Call) → IsNoAlloc call ⊎ ((d : ℕ) × (n : ℕ) × (kind : Kind) × (call ≡ Alloc d n kind))
alloc_or (Alloc d n kind) = inr (d, n, kind, refl)
alloc_or _ = inl tt

module _ (start : Start) (run : Run) (s' : Heap) (marks : is_marking start run ≡ true) (d : HasApartObjects (heap_after start run)) (d' : HasApartObjects s') where
  pub attach_tell : (origin : ℕ) (reply : Reply) (flags : List Bool) → Attaches (heap_after start run) reply s' → TellTouched origin flags start run → TellTouched origin flags start (goes_on run Attach reply s')
  attach_tell origin reply flags step tell =
      flags_tell (heap_after start run) s' (Touched start run) (λ w. ⊥) d d' (attach_gain (heap_after start run) reply s' d' step) (marking_closed start run marks d)
      (IsFlagged origin flags) (IsFlagged origin flags) tell (λ base o has is. inl is) (λ base is. is) (λ w none. absurd none) (λ v w none. absurd none)

  module _ (c : PlainContents) (h : StandsFor c s') (old new : List Bool) (room : HasFlags c.pages old) (tell : TellTouched c.origin old start run) where
    pub call_tell : (slot : ℕ) (call : Call) (reply : Reply) → Calls (heap_after start run) slot call reply s' → (IsGrant call reply → ⊥) → FlagsBrought c slot call old new
        → TellTouched c.origin new start (goes_on run (Mutator slot call) reply s')
    call_tell slot call reply step none f =
        flags_tell (heap_after start run) s' (Touched start run) (IsBrought (heap_after start run) slot call s') d d' (calls_gain (heap_after start run) slot call reply s' d' step) (marking_closed start run marks d)
        (IsFlagged c.origin old) (IsFlagged c.origin new) tell (λ base o has is. f.only (heap_after start run) s' h base o has is) f.keeps
        (λ w x lead base led. ⊎_elim (λ other. f.adds other room (heap_after start run) s' h w x lead base led) (λ is. absurd (no_request is w x)) (alloc_or call))
        (λ v w x y. ⊎_elim (λ other. brought_one (heap_after start run) slot call s' other v w x y) (λ is. absurd (no_request is v x)) (alloc_or call))
      where
        no_request : (is : (r : ℕ) × (n : ℕ) × (kind : Kind) × (call ≡ Alloc r n kind)) (w : ℕ) → IsBrought (heap_after start run) slot call s' w → ⊥
        no_request is w x =
            calls_refuse (heap_after start run) d slot is.0 is.1 is.2 (subst (λ k. Calls (heap_after start run) slot k reply s') is.3 step) (λ done. none (is.0, is.1, is.2, is.3, done)) w
            (subst (λ k. IsBrought (heap_after start run) slot k s' w) is.3 x)

    pub grant_tell : (slot into words base : ℕ) (kind : Kind) → Gains (heap_after start run) s' (HasNewborn (heap_after start run) s') → ((v w : ℕ) → HasNewborn (heap_after start run) s' v → HasNewborn (heap_after start run) s' w → v ≡ w)
        → IsBornAt (heap_after start run) base s' → FlagsLed c base old new → TellTouched c.origin new start (goes_on run (Mutator slot (Alloc into words kind)) Done s')
    grant_tell slot into words base kind gain one born f =
        flags_tell (heap_after start run) s' (Touched start run) (HasNewborn (heap_after start run) s') d d' gain (marking_closed start run marks d)
        (IsFlagged c.origin old) (IsFlagged c.origin new) tell (λ b o has is. ⊎_elim (λ before. inl before) (λ led. inr (base, newborn, led)) (f.only s' h b o has is)) f.keeps
        (λ w x lead b led. let same : w ≡ base = one w base x newborn in f.adds room s' h (subst (LeadsToFlagged c.origin s' old) same lead) b (subst (λ k. LedTo s' k b) same led))
        one
      where
        newborn : HasNewborn (heap_after start run) s' base
        newborn = (born.object, born.there, born.newest)

pub begin_tell : (start : Start) (run : Run) (c : PlainContents) → StandsFor c (heap_after start run) → HasApartObjects (heap_after start run) → (flags : List Bool) → HasFlags c.pages flags → FlagsReached c flags
    → TellTouched c.origin flags start (goes_on run Begin Done (heap_after start run))
begin_tell start run c h d flags room reached base o has = (
  λ is. (base, o, has, refl, (reached room (heap_after start run) h base o has).0 is),
  λ x. (reached room (heap_after start run) h base o has).1 (subst (Reached (heap_after start run)) (d.births x.0 base x.1 o x.2 has x.3) x.4),
)
