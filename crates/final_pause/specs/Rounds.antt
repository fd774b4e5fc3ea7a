-- A round of helpers.
use Rattle.std.specs.Prelude.{◌≡◌, ℕ, ◌+◌, ◌<◌, List, [], All, length, Option, Some, slice_index_or}
use Rattle.words.specs.Bits.{Has, IsClear}
use Rattle.mark_bits.specs.Tables.{view}
use Rattle.block_map.specs.States.{PageState}
use Rattle.block_map.specs.declared.found.Found.{Found}
use Rattle.marker.specs.Marking.{Marking, IsMarked, Covers}
use Rattle.final_pause.specs.declared.helper.Helper.{Helper}
use Rattle.final_pause.specs.declared.round.Round.{Round}
use Rattle.final_pause.specs.Pauses.{PauseView}
use Rattle.final_pause.specs.Helping.{IsReadyPause}
use Rattle.final_pause.specs.Serving.{IsServing, HasServed, IsHired}
use Rattle.final_pause.specs.Gathering.{HasGathered}

-- how many helpers the round was dealt to
abbrev pub helpers_of : Round → ℕ
helpers_of r = r.helpers

-- what the helpers of a round share, over this marker, map and memory
abbrev pub round_view : Round → Marking → List PageState → List ℕ → List ℕ → PauseView
round_view r marker map memory roots = record { table = r.table; marker = marker; map = map; memory = memory; roots = roots; helpers = r.helpers }

-- no helper of the round was joined yet
pub record IsRound (p : PauseView) (r : Round) : Type 0 where
  pub ready : IsReadyPause p
  pub gathered : HasGathered p r.helpers r.first r.dirty r.carried

-- A round that is dealt, of a heap of so many pages, before anybody reads: no mark is won, and no page is dirty or carried, of the round
-- or of a helper, and nothing waits.
pub record IsFresh (pages : ℕ) (r : Round) (crew : List Helper) : Type 0 where
  pub won : (view r.first).won ≡ []
  pub dirty : IsClear r.dirty pages
  pub carried : IsClear r.carried pages
  pub helpers : All (IsHired r.table pages) crew

-- helpers of places in a row, from one on, are at work
pub record AreServing (p : PauseView) (from : ℕ) (crew : List Helper) : Type 0 where
  pub each : (i : ℕ) (d : Helper) → i < length crew → IsServing p (slice_index_or crew i d)
  pub numbered : (i : ℕ) (d : Helper) → i < length crew → (slice_index_or crew i d).place ≡ from + i

-- and each has done its share
abbrev pub AreServed : PauseView → ℕ → List Helper → Type 0
AreServed p from crew = (i : ℕ) (d : Helper) → i < length crew → HasServed p (from + i) (slice_index_or crew i d)

-- each dirty page is one of a newly marked object
abbrev pub DirtiesNew : (ℕ → Option Found) → Marking → Marking → Type 0
DirtiesNew found old new = (q : ℕ) → Has new.dirty q → (f : Found) × (found f.base ≡ Some f) × (IsMarked old f.base → ⊥) × IsMarked new f.base × Covers f q
