-- A store that opens.
use Rattle.std.proofs.Common.{◌≡◌, ℕ, ◌≤◌, Some, None, sym, subst}
use Rattle.heap_spec.specs.Heap.{opening}
use Rattle.block_map.specs.States.{AreFreePages}
use Rattle.block_map.specs.Objects.{IsObjectOn}
use Rattle.block_map.specs.FoundIn.{found_in}
use Rattle.block_map.specs.declared.found.Found.{Found}
use Rattle.block_map.proofs.Laid.{laid_free}
use Rattle.block_map.proofs.Lawful.{map_laws}
use Rattle.object_space.specs.Store.{Store}
use Rattle.std.specs.Prelude.{Bool}
use Rattle.words.specs.declared.limits.TheConstants.{MOST_PAGES}
use Rattle.object_space.proofs.Kept.{kept_cases}
use Rattle.object_space.specs.Stores.{Stores}

none_some : {A : Type 0} (x : A) → None ≡ Some x → ⊥
none_some x e = cc

-- all pages are free, so there is no object
pub opens : (t : Store) (pages : ℕ) → AreFreePages t.states pages → pages ≤ MOST_PAGES → (keep : Found → Bool) → Stores keep t (opening pages)
opens t pages all few keep = record {
  pages = sym all.size;
  shows = record {
    shown = record {
      kept = λ f is. absurd (nothing f (kept_cases keep (found_in t.states) f.base f is).0);
      only = λ base o is. absurd (none_some o is);
    };
    born = λ base o is. absurd (none_some o is);
    distinct = λ a b o p x y same. absurd (none_some o x);
  };
}
  where
    nothing : (f : Found) → found_in t.states f.base ≡ Some f → ⊥
    nothing f is = subst (λ st. IsObjectOn st f) (all.each f.page) ((map_laws t.states (laid_free t.states pages all few)).object f.base f is).on
