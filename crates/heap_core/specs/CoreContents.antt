-- What a core contains.
use Rattle.std.specs.Prelude.{◌≡◌, ℕ, true, false, Bool, List, length}
use Rattle.links.specs.declared.row.Link.{Link}
use Rattle.pages.specs.Reads.{CountedReads}
use Rattle.roots.specs.Roots.{RootSet}
use Rattle.marker.specs.Marking.{Marking, AreMarksObjects}
use Rattle.marker.specs.Invariant.{DirtyPageInvariant, CarriedPageInvariant}
use Rattle.block_map.specs.FoundIn.{found_in, IsLawful}
use Rattle.block_map.specs.States.{IsLaid}
use Rattle.object_space.specs.Store.{Store, AreEmptyPages, IsPendingRow, HasSoundPages, IsSwept}

-- What a core has of the collector: what the marker has, whether a cycle is marking, whether a full cycle is needed before one
-- may begin with the marks of the last, the count of collections, and how many heap words the marker read for the last of
-- these, and for all.
pub record Cycle : Type 0 where
  pub marker : Marking
  pub is_marking : Bool
  pub needs_full : Bool
  pub count : ℕ
  pub reads : CountedReads

-- What a core contains. A link names an object by its base.
pub record CoreContents : Type 0 where
  pub roots : RootSet
  pub store : Store
  pub cycle : Cycle
  pub links : List Link

-- What is true of each core's collector: its marker is one of the store's pages, each mark is that of an allocated object,
-- while a cycle is marking no page is pending and the dirty-page invariant holds, and where no full cycle is needed the invariant
-- of carried pages holds, in both phases.
pub record IsTraced (t : Store) (y : Cycle) : Type 0 where
  pub pages : length y.marker.dirty ≡ length t.states
  pub objects : AreMarksObjects (found_in t.states) y.marker
  pub swept : y.is_marking ≡ true → IsSwept t
  pub invariant : y.is_marking ≡ true → DirtyPageInvariant (found_in t.states) t.words y.marker
  pub carried : y.needs_full ≡ false → CarriedPageInvariant (found_in t.states) t.words y.marker

-- What is true of every core, whatever calls made it: its map is that of laid-out blocks, with the laws of a map, its free
-- pages are exactly those on which no allocated object lies, those still to be swept are cut, and it is traced.
pub record IsCore (c : CoreContents) : Type 0 where
  pub sound : HasSoundPages c.store
  pub pending : IsPendingRow c.store
  pub empty : AreEmptyPages c.store.free c.store.states
  pub lawful : IsLawful c.store.states
  pub laid : IsLaid c.store.states
  pub traced : IsTraced c.store c.cycle
