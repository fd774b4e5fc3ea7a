-- Objects that wait to be read, as lists, whose order says nothing.
use Rattle.std.specs.Prelude.{◌≡◌, ◌+◌, ◌≤◌, List, length, Contains, ◌⊎◌}
use Rattle.final_pause.specs.declared.waiting.Unread.{Unread}

-- one came, and the others stayed
pub record IsPut (old : List Unread) (o : Unread) (new : List Unread) : Type 0 where
  pub here : Contains new o
  pub stay : (k : Unread) → Contains old k → Contains new k
  pub only : (k : Unread) → Contains new k → Contains old k ⊎ (k ≡ o)
  pub size : length new ≤ length old + 1

-- one was taken out, and the others stayed
pub record IsTaken (old : List Unread) (o : Unread) (new : List Unread) : Type 0 where
  pub was : Contains old o
  pub only : (k : Unread) → Contains new k → Contains old k
  pub stay : (k : Unread) → Contains old k → Contains new k ⊎ (o ≡ k)
  pub size : length new + 1 ≡ length old

-- the same ones, in any order
pub record IsMoved (old new : List Unread) : Type 0 where
  pub only : (k : Unread) → Contains new k → Contains old k
  pub stay : (k : Unread) → Contains old k → Contains new k
  pub size : length new ≡ length old
