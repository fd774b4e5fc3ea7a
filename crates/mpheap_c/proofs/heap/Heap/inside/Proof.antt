-- `inside` lends the handle that C's struct is.
use mathlib.Core.Path.{◌≡◌, refl}
use prog.Wp.{Tables}
use contract.Running.{tables, tables_of}
use denote.Triple.Spec.{triple_of}
use denote.Triple.Table.{entered}
use Rattle.heap_core.specs.contracts.heap.Core.{the_row as element}
use Rattle.mpheap_c.specs.HeapFollows.{of_handle}
use Rattle.mpheap_c.specs.contracts.handle.Handle as Handle
use Rattle.mpheap_c.specs.contracts.heap.Heap as Outer
use Rattle.mpheap_c.proofs.Inside.{IsHandle, meets}
use Rattle.mpheap_c.specs.contracts.heap.Heap.inside as F
use Rattle.mpheap_c.specs.contracts.heap.Heap.inside.Key.{name as #self}
use Rattle.mpheap_c.proofs.heap.Heap.inside.Statement as stated
use Rattle.mpheap_c.proofs.heap.Heap.inside.Code as code

abbrev is_handle : IsHandle Outer.the_row (Handle.the_row element)
is_handle = record {
  as_handle = λ h. record { at = h.at; alloc = h.alloc; value = h.core };
  of_handle = of_handle;
  one_out = tt;
  one_in = tt;
  lies = refl;
  owned = λ h vs. refl;
  owned_back = λ w vs. refl;
  Says = λ h w. (h.at ≡ w.at) × (h.core ≡ w.value);
  said = λ h. (refl, refl);
}

pub inside_spec : {M : Type 1} → stated.statement M
unfolding tables_of
inside_spec 𝓤 𝓛 𝓜 𝓡 wired =
    let 𝓣 : Tables 𝓤 𝓛.H = tables_of 𝓤 𝓛.H 𝓜 (tables 𝓤 𝓛.H 𝓜 𝓡 𝓡.env) in
    entered 𝓤 𝓛.H (triple_of 𝓛 F.signature (F.spec 𝓛 𝓜.mem 𝓡.returns)) 𝓣.C 𝓣.Λ #self code.function (code.unfolded 𝓤 𝓛.H 𝓜 𝓡 wired)
    (meets Outer.the_row (Handle.the_row element) is_handle 𝓛 𝓣 _ _ _ _)
