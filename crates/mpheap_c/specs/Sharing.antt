-- What the calls by which threads of C share the marking do to handles.
use Rattle.std.specs.Prelude.{◌≡◌, ℕ, ◌*◌, ◌<◌, ◌≤◌, ◌⊎◌, true, false, length, Option, Some, None}
use Rattle.words.specs.declared.limits.TheConstants.{MAX_HELPERS}
use Rattle.heap_core.specs.CoreContents.{CoreContents}
use Rattle.heap_core.specs.Sharing.{Sharing, IsDealt, IsLastOut, AreNext, IsAppended, AreDone, AreAll, IsStillOut, MarksTogether}
use Rattle.mpheap_c.specs.declared.crew.Place.{Place}

-- the handle is open, and these shares stand there
abbrev pub Stands : Option Place → Sharing → Type 0
Stands place s = place ≡ Some (record { shares = Some s })

-- it is open, and none stand there
abbrev pub IsEmptyPlace : Option Place → Type 0
IsEmptyPlace place = place ≡ Some (record { shares = None })

-- The number of helpers is in range, and none of their shares stand in the place yet.
abbrev pub MayShare : ℕ → Option Place → Type 0
MayShare helpers place = (0 < helpers) × (helpers ≤ MAX_HELPERS) × IsEmptyPlace place

-- The core of a heap was lent to so many helpers, whose shares stand in the place; or nothing has changed, since the number is out of range
-- or shares stand there already, and else since no cycle is marking, and else since memory was refused.
pub data IsShared (helpers status : ℕ) (heap : Option CoreContents) (place : Option Place) (heap' : Option CoreContents) (place' : Option Place) : Type 0 where
  shared : (c : CoreContents) (s : Sharing) → status ≡ 0 → MayShare helpers place → heap ≡ Some c → c.cycle.is_marking ≡ true → heap' ≡ None → Stands place' s → IsDealt c helpers s → IsShared helpers status heap place heap' place'
  bad : status ≡ 100 → (helpers ≡ 0) ⊎ (MAX_HELPERS < helpers) ⊎ ((s : Sharing) × Stands place s) → heap' ≡ heap → place' ≡ place → IsShared helpers status heap place heap' place'
  idle : (c : CoreContents) → status ≡ 9 → MayShare helpers place → heap ≡ Some c → c.cycle.is_marking ≡ false → heap' ≡ heap → place' ≡ place → IsShared helpers status heap place heap' place'
  memory : (c : CoreContents) → status ≡ 102 → MayShare helpers place → heap ≡ Some c → c.cycle.is_marking ≡ true → heap' ≡ heap → place' ≡ place → IsShared helpers status heap place heap' place'

-- Why no share goes to the other place: shares stand there already, or in the first place none stand, or none that is left.
abbrev pub CantHire : Option Place → Option Place → Type 0
CantHire all one = ((s : Sharing) × Stands one s) ⊎ IsEmptyPlace all ⊎ ((s : Sharing) × Stands all s × (length s.crew ≡ 0))

-- The last share has gone to the other place as it is; or nothing has changed, since none can go there, and else since memory was refused.
pub data IsHired (status : ℕ) (all one all' one' : Option Place) : Type 0 where
  hired : (s t u : Sharing) → status ≡ 0 → Stands all s → IsEmptyPlace one → Stands all' t → Stands one' u → IsLastOut s t u → IsHired status all one all' one'
  bad : status ≡ 100 → CantHire all one → all' ≡ all → one' ≡ one → IsHired status all one all' one'
  memory : (s : Sharing) → status ≡ 102 → Stands all s → IsEmptyPlace one → 0 < length s.crew → all' ≡ all → one' ≡ one → IsHired status all one all' one'

-- The shares that stand there are done, and no more words were read than so many for each, and none for those that were done; or none
-- stand there, and nothing has changed.
pub data IsHelped (most read : ℕ) (old new : Option Place) : Type 0 where
  helped : (s t : Sharing) → Stands old s → Stands new t → AreDone s t → read ≤ most * length s.crew → (s.is_done ≡ true → read ≡ 0) → IsHelped most read old new
  none : IsEmptyPlace old → read ≡ 0 → new ≡ old → IsHelped most read old new

-- Why no shares come back: in one of the two places none stand, or those of the second aren't the next behind those of the first.
abbrev pub CantJoin : Option Place → Option Place → Type 0
CantJoin all one = IsEmptyPlace all ⊎ IsEmptyPlace one ⊎ ((s : Sharing) × (t : Sharing) × Stands all s × Stands one t × (AreNext s t → ⊥))

-- The shares of the second place have come back, as they are, behind those of the first; or nothing has changed, since they can't.
pub data IsJoined (status : ℕ) (all one all' one' : Option Place) : Type 0 where
  joined : (s t u : Sharing) → status ≡ 0 → Stands all s → Stands one t → Stands all' u → IsEmptyPlace one' → AreNext s t → IsAppended s t u → IsJoined status all one all' one'
  bad : status ≡ 100 → CantJoin all one → all' ≡ all → one' ≡ one → IsJoined status all one all' one'

-- The core is back in the heap's handle, and what all its helpers did is put together; or the heap stays closed, since a share is out, or the
-- core is known in another place, or none stand here.
pub data IsGathered (status : ℕ) (all all' : Option Place) (heap' : Option CoreContents) : Type 0 where
  gathered : (s : Sharing) (c : CoreContents) → status ≡ 0 → Stands all s → AreAll s → IsEmptyPlace all' → heap' ≡ Some c → MarksTogether s.core c → IsGathered status all all' heap'
  out : (s t : Sharing) → status ≡ 100 → Stands all s → Stands all' t → IsStillOut s t → heap' ≡ None → IsGathered status all all' heap'
  none : status ≡ 100 → IsEmptyPlace all → all' ≡ all → heap' ≡ None → IsGathered status all all' heap'
