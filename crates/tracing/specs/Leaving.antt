-- Where objects go.
use Rattle.std.specs.Prelude.{◌≡◌, ◌&&◌, ◌/◌, ℕ, Bool, true, false, not, Option, Some, None, List, ◌++◌, slice_index_or}
use Rattle.std.specs.Borrow.{Bor}
use Rattle.words.specs.declared.limits.TheConstants.{PAGE_WORDS}
use Rattle.heap_spec.specs.declared.event.Event.{Event}
use Rattle.heap_spec.specs.declared.event.Event.TheVariants.{Finish, Collect}
use Rattle.heap_core.specs.CoreContents.{CoreContents}
use Rattle.pages.specs.Memory.{word_index}
use Rattle.tracing.specs.declared.leaving.Leaving.{Leaving}
use Rattle.tracing.specs.Sets.{those_that}

-- whether an event forgets objects, so that small ones wait to be swept
abbrev pub forgets : Event → Bool
forgets Finish = true
forgets Collect = true
forgets _ = false

-- whether the page of a base is pending; where no core is known none is
abbrev pub waits : Option (Bor CoreContents) → ℕ → Bool
waits None base = false
waits (Some core) base = slice_index_or core.now.store.pending (word_index base / PAGE_WORDS) false

-- What the event took waits, if it forgets and the page is pending, and is free otherwise; of what waited that is free
-- whose page is pending no more.
pub record IsParted (core : Option (Bor CoreContents)) (event : Event) (waited gone : List ℕ) (l : Leaving) : Type 0 where
  pub forgotten : l.forgotten.items ≡ those_that (λ base. forgets event && waits core base) gone
  pub freed : l.freed.items ≡ those_that (λ base. not (waits core base)) waited ++ those_that (λ base. not (forgets event && waits core base)) gone
  pub waiting : l.waiting.items ≡ those_that (waits core) waited ++ those_that (λ base. forgets event && waits core base) gone
