-- What is wrong about the objects that a collection is said to have forgotten, from what the plain heap tells.
use Rattle.std.proofs.Common.{◌≡◌, ℕ, true, false, List, sym, ◌∙◌}
use Rattle.std.specs.Prelude.{Option, Result, Ok, Err, IfOk}
use Rattle.std.specs.Global.{Vec}
use Rattle.std.proofs.lemmas.Bool.{true≢false}
use Rattle.heap_spec.specs.Heap.{Heap}
use Rattle.heap_spec.specs.Closure.{Reached}
use Rattle.heap_spec.specs.Runs.{Start, Run, heap_after}
use Rattle.plain_heap.specs.declared.wrongs.Wrong.{Wrong}
use Rattle.plain_heap.specs.declared.wrongs.Wrong.TheVariants.{IsMissing, StandsTwice, HasToStay, HasToGo}
use Rattle.plain_heap.specs.declared.paths.PathStep.{PathStep}
use Rattle.plain_heap.specs.Standing.{StandsFor}
use Rattle.plain_heap.specs.Paths.{TellsPath}
use Rattle.plain_heap.specs.Flags.{IsFlagged}
use Rattle.plain_heap.specs.Wrongs.{IsWrong, TellsLowest, TellsUnforgotten}
use Rattle.plain_heap.proofs.Lowest.{alike}
use Rattle.replayer.specs.ReplayerContents.{ReplayerContents, Follows}
use Rattle.replayer.specs.Wrongs.{IsWrongFinish}

module _ (r : ReplayerContents) (start : Start) (run : Run) (f : Follows r start run) where
  -- no cycle is marking
  pub idle : r.marking ≡ false → (bases : List ℕ) → (x : Wrong) → IsWrongFinish start run bases x → ⊥
  idle off bases x h = true≢false (sym h.0 ∙ sym f.phase ∙ off)

  module _ (marks : r.marking ≡ true) (bases : List ℕ) where
    abbrev Flagged : Wrong → Type 0
    Flagged = IsWrong (heap_after start run) (λ base o. Reached (heap_after start run) base) (λ base o. IsFlagged r.heap.origin r.touched base → ⊥) bases

    to_run : (x : Wrong) → Flagged x → IsWrongFinish start run bases x
    to_run (IsMissing b) h = (sym f.phase ∙ marks, h)
    to_run (StandsTwice b) h = (sym f.phase ∙ marks, h)
    to_run (HasToStay b) h = (sym f.phase ∙ marks, h)
    to_run (HasToGo b) h = let o = h.1 in (sym f.phase ∙ marks, (h.0, (o.0, o.1, λ touched. o.2 ((f.touched marks b o.0 o.1).1 touched))))

    to_flags : (x : Wrong) → IsWrongFinish start run bases x → Flagged x
    to_flags (IsMissing b) h = h.1
    to_flags (StandsTwice b) h = h.1
    to_flags (HasToStay b) h = h.1
    to_flags (HasToGo b) h = let o = h.1.1 in (h.1.0, (o.0, o.1, λ flag. o.2 ((f.touched marks b o.0 o.1).0 flag)))

    pub finish_wrong : (wrong : Option Wrong) → TellsUnforgotten r.heap r.touched bases wrong → TellsLowest (IsWrongFinish start run bases) wrong
    finish_wrong wrong tells = alike Flagged (IsWrongFinish start run bases) to_run to_flags wrong (tells (heap_after start run) f.stands)

-- a path of each heap that the plain heap stands for is one of each run
pub path_after : {E : Type 0} (r : ReplayerContents) (base : ℕ) (result : Result (Option (Vec PathStep)) E) → IfOk result (λ path. (s : Heap) → StandsFor r.heap s → TellsPath s base path)
    → IfOk result (λ path. (start : Start) (run : Run) → Follows r start run → TellsPath (heap_after start run) base path)
path_after r base (Ok path) told = λ start run f. told (heap_after start run) f.stands
path_after r base (Err e) told = tt
