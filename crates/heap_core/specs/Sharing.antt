-- A core whose marking is shared by helpers.
use Rattle.std.specs.Prelude.{◌≡◌, ℕ, ◌+◌, ◌≤◌, true, false, ◌&&◌, Bool, List, [], ◌++◌, length}
use Rattle.block_map.specs.FoundIn.{found_in}
use Rattle.marker.specs.Marking.{IsEmpty}
use Rattle.final_pause.specs.declared.helper.Helper.{Helper}
use Rattle.final_pause.specs.declared.round.Round.{Round}
use Rattle.final_pause.specs.Pauses.{PauseView}
use Rattle.final_pause.specs.Rounds.{helpers_of, round_view, IsRound, IsFresh, AreServing, AreServed, DirtiesNew}
use Rattle.heap_core.specs.CoreContents.{CoreContents}
use Rattle.heap_core.specs.Collections.{MarksOn}

-- what the helpers of a round over this core share
abbrev pub core_view : CoreContents → Round → PauseView
core_view c round = round_view round c.cycle.marker c.store.states c.store.words []

-- Shares of a round: the core that was lent, the round, its helpers of places in a row, the first place, and whether each has done its
-- share.
pub record Sharing : Type 0 where
  pub core : CoreContents
  pub round : Round
  pub crew : List Helper
  pub from : ℕ
  pub is_done : Bool

-- What is true of all shares, in a row that has room for so many: the core is marking, its round is as it was dealt, their places are
-- those of the round, each helper is at work, or has done its share, and all that may come behind them have room.
pub record IsSharing (s : Sharing) (most : ℕ) : Type 0 where
  pub marking : s.core.cycle.is_marking ≡ true
  pub round : IsRound (core_view s.core s.round) s.round
  pub serving : AreServing (core_view s.core s.round) s.from s.crew
  pub served : s.is_done ≡ true → AreServed (core_view s.core s.round) s.from s.crew
  pub inside : s.from + length s.crew ≤ helpers_of s.round
  pub room : helpers_of s.round ≤ s.from + most

-- they are shares of one round
pub record IsSameRound (s t : Sharing) : Type 0 where
  pub core : t.core ≡ s.core
  pub round : t.round ≡ s.round

-- All shares of a new round over a core, so many, from the first place on. Nothing was read or marked for it.
pub record IsDealt (c : CoreContents) (helpers : ℕ) (s : Sharing) : Type 0 where
  pub core : s.core ≡ c
  pub from : s.from ≡ 0
  pub size : length s.crew ≡ helpers
  pub number : helpers_of s.round ≡ helpers
  pub fresh : IsFresh (length c.store.states) s.round s.crew
  pub undone : s.is_done ≡ false

-- The last one of these shares was taken out as it is.
pub record IsLastOut (old new one : Sharing) : Type 0 where
  pub rest : new ≡ record old { crew = new.crew }
  pub last : one ≡ record old { crew = one.crew; from = old.from + length new.crew }
  pub crew : old.crew ≡ new.crew ++ one.crew
  pub single : length one.crew ≡ 1

-- their places are the next behind these
abbrev pub AreNext : Sharing → Sharing → Type 0
AreNext s t = t.from ≡ s.from + length s.crew

-- these shares are now those and the others behind them, as they were
abbrev pub IsAppended : Sharing → Sharing → Sharing → Type 0
IsAppended s t u = u ≡ record s { crew = s.crew ++ t.crew; is_done = s.is_done && t.is_done }

-- The same shares, and each is done. If they were, nothing has changed.
pub record AreDone (old new : Sharing) : Type 0 where
  pub same : new ≡ record old { crew = new.crew; is_done = true }
  pub size : length new.crew ≡ length old.crew
  pub again : old.is_done ≡ true → new ≡ old

-- they are all shares of the round
abbrev pub AreAll : Sharing → Type 0
AreAll s = (s.from ≡ 0) × (length s.crew ≡ helpers_of s.round)

-- Why a round isn't gathered, and what is left: not all of its shares are there, and nothing has changed; or all are, and done, and the
-- core is still known elsewhere.
pub data IsStillOut (old new : Sharing) : Type 0 where
  part : (AreAll old → ⊥) → new ≡ old → IsStillOut old new
  held : AreAll old → AreDone old new → IsStillOut old new

-- The marker went on by several helpers: what waited was read, so that no entry is left, and only pages of newly marked objects are dirty.
pub record MarksTogether (old new : CoreContents) : Type 0 where
  pub marks : MarksOn [] old new
  pub empty : IsEmpty new.cycle.marker
  pub dirty : DirtiesNew (found_in old.store.states) old.cycle.marker new.cycle.marker
