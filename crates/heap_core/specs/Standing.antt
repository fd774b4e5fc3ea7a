-- Which heap a core stands for.
use Rattle.std.specs.Prelude.{Bool, ◌≡◌, ℕ, Some, Option, false}
use Rattle.heap_spec.specs.Heap.{Heap}
use Rattle.block_map.specs.FoundIn.{found_in}
use Rattle.block_map.specs.declared.found.Found.{Found}
use Rattle.object_space.specs.Kept.{restrict, is_kept}
use Rattle.links.specs.Named.{AreNamed}
use Rattle.object_space.specs.Stores.{Stores}
use Rattle.heap_core.specs.CoreContents.{CoreContents}

-- whether the object is kept
abbrev pub keeps : CoreContents → Found → Bool
keeps c = is_kept c.store.pending c.cycle.marker.marks

-- The object that a word points into, of those that are kept.
abbrev pub objects_of : CoreContents → ℕ → Option Found
objects_of c = restrict (keeps c) (found_in c.store.states)

-- The object that the word points into is allocated and not kept: the end of a cycle has forgotten it, and its page is
-- pending.
abbrev pub IsForgotten : CoreContents → ℕ → Found → Type 0
IsForgotten c w f = (found_in c.store.states w ≡ Some f) × (keeps c f ≡ false)

-- The core has the heap's mutators, globals and limit of requests, its kept objects are the heap's, and so are its links, compared by the
-- objects that they name.
pub record StandsFor (c : CoreContents) (s : Heap) : Type 0 where
  pub mutators : s.mutators ≡ c.roots.mutators
  pub globals : s.globals ≡ c.roots.globals
  pub request_words : s.request_words ≡ c.roots.request_words
  pub store : Stores (keeps c) c.store s
  pub links : AreNamed s.objects c.links s.links
