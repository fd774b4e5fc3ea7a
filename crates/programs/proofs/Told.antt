-- A line that was told.
use Rattle.std.proofs.Common.{◌≡◌, ℕ, ◌+◌, List, length, take, inl, inr, sym, subst, arith}
use Rattle.std.specs.Prelude.{Option}
use Rattle.std.specs.Io.KnownBytes.{Appends}
use Rattle.std.proofs.lemmas.List.{take_all}
use Rattle.programs.specs.declared.fault.Fault.{Fault}
use Rattle.programs.specs.Faults.{status_of, fault_line, EndsBy}

-- the whole line was told
pub told_whole : (fault : Fault) (status : ℕ) (old new : Option (List ℕ)) (faults faults' : ℕ) → status ≡ status_of fault → Appends old new (fault_line fault) → faults' ≡ faults → EndsBy fault status old new faults faults'
told_whole fault status old new faults faults' is told same = record {
  status_is = is;
  front = (length (fault_line fault), subst (λ t. Appends old new t) (sym (take_all (length (fault_line fault)) (fault_line fault) (omega arith))) told);
  whole = λ _. told;
  once = inl same;
}

-- a front of it was told
pub told_front : (fault : Fault) (status : ℕ) (old new : Option (List ℕ)) (faults faults' : ℕ) → status ≡ status_of fault → (n : ℕ) × Appends old new (take n (fault_line fault)) → faults' ≡ faults + 1 → EndsBy fault status old new faults faults'
told_front fault status old new faults faults' is told more = record {
  status_is = is;
  front = told;
  whole = λ same. absurd (omega (arith, same, more));
  once = inr more;
}
