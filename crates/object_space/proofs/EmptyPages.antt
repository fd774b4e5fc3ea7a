-- The free pages are those on which no allocated object lies.
use Rattle.std.proofs.Common.{◌≡◌, ℕ, ◌<◌, length, Some, refl, sym, ◌∙◌, ⊎_elim, arith}
use Rattle.words.specs.Bits.{Has}
use Rattle.words.specs.Layout.{page_start}
use Rattle.heap_spec.specs.Layout.{LiesOn}
use Rattle.blocks.proofs.Places.{class_bounds}
use Rattle.block_map.specs.declared.found.Found.{Found}
use Rattle.block_map.specs.FoundIn.{found_in, IsLawful}
use Rattle.block_map.specs.Objects.{cell_object, large_object}
use Rattle.block_map.specs.States.{free, state_at, IsLaid}
use Rattle.object_space.specs.Store.{Store, HasSoundPages, AreEmptyPages}
use Rattle.lazy_sweep.proofs.Lying.{free_cut, free_head, free_body, Lies, in_cell, in_large, lies_cases, large_page}
use Rattle.object_space.proofs.Rooms.{Used, by_none, by_cell, by_large, used_by}

pub empty_pages : (t : Store) → IsLaid t.states → IsLawful t.states → HasSoundPages t → AreEmptyPages t.free t.states
empty_pages t laid lawful sound = record {
  all = λ page lt none. unused page lt none (used_by t.states laid page (state_at t.states page) lt refl (laid.each page lt) (sound.used page));
  only = λ page has w f there lies. apart f page (lawful.object w f there).page (sound.agree.free_in_map page has) (lies_cases t.states laid f page (lawful.object w f there) lies);
}
  where
    unused : (page : ℕ) → page < length t.states → ((w : ℕ) (f : Found) → found_in t.states w ≡ Some f → LiesOn f.base f.len page → ⊥) → Used t.states laid page (state_at t.states page) → Has t.free page
    unused page lt none (by_none is) = sound.agree.free_in_pool page lt is
    unused page lt none (by_cell b i is cells object lies) =
        let some = (class_bounds b.class cells.class).0 in
        absurd (none (cell_object page b i).base (cell_object page b i) (lawful.found (cell_object page b i).base (cell_object page b i) object (record { from = omega arith; below = omega arith })) lies)
    unused page lt none (by_large first n k some object lies) =
        absurd (none (page_start first) (large_object first n k) (lawful.found (page_start first) (large_object first n k) object (record { from = omega arith; below = omega arith })) lies)

    apart : (f : Found) (page : ℕ) → f.page < length t.states → state_at t.states page ≡ free → Lies t.states f page → ⊥
    apart f page lt is (in_cell b at same taken) = free_cut b (sym is ∙ at)
    apart f page lt is (in_large n k at low high len) =
        ⊎_elim (λ e. free_head n k (sym is ∙ e)) (λ e. free_body f.page (sym is ∙ e)) (large_page t.states laid f.page n k page lt at low high)
