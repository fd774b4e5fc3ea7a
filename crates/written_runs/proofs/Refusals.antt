-- The refusals that texts begin with.
use Rattle.std.proofs.Common.{◌≡◌, ℕ, ◌<◌, eqb, List, ◌++◌, refl, sym, ap, ◌∙◌, arith}
use Rattle.std.specs.Prelude.{cond, codes}
use Rattle.std.proofs.lemmas.List.{append_cancel_left}
use Rattle.words.specs.declared.refusal.Refusal.{Refusal}
use Rattle.words.specs.declared.refusal.Refusal.TheVariants.{NoSlot, Misaligned, NoObject, NotBase, BadSize, Full, StackFull, StackEmpty, WrongPhase, LinksFull, NotPointerFree, NeedsFull}
use Rattle.words.specs.Refusals.{code_of, name_of}
use Rattle.written_runs.specs.Cuts.{Lacks, IsTextCut}
use Rattle.written_runs.specs.Reading.{IsNumberAt, IsRefusalAt}
use Rattle.written_runs.proofs.Cutting.{same_cut, lacks_by}
use Rattle.written_runs.proofs.Digits.{same_number}

pub name_lacks : (refusal : Refusal) → Lacks 32 (name_of refusal)
name_lacks NoSlot = lacks_by 32 (name_of NoSlot) refl
name_lacks Misaligned = lacks_by 32 (name_of Misaligned) refl
name_lacks NoObject = lacks_by 32 (name_of NoObject) refl
name_lacks NotBase = lacks_by 32 (name_of NotBase) refl
name_lacks BadSize = lacks_by 32 (name_of BadSize) refl
name_lacks Full = lacks_by 32 (name_of Full) refl
name_lacks StackFull = lacks_by 32 (name_of StackFull) refl
name_lacks StackEmpty = lacks_by 32 (name_of StackEmpty) refl
name_lacks WrongPhase = lacks_by 32 (name_of WrongPhase) refl
name_lacks LinksFull = lacks_by 32 (name_of LinksFull) refl
name_lacks NotPointerFree = lacks_by 32 (name_of NotPointerFree) refl
name_lacks NeedsFull = lacks_by 32 (name_of NeedsFull) refl

code_small : (refusal : Refusal) → code_of refusal < 13
code_small NoSlot = omega arith
code_small Misaligned = omega arith
code_small NoObject = omega arith
code_small NotBase = omega arith
code_small BadSize = omega arith
code_small Full = omega arith
code_small StackFull = omega arith
code_small StackEmpty = omega arith
code_small WrongPhase = omega arith
code_small LinksFull = omega arith
code_small NotPointerFree = omega arith
code_small NeedsFull = omega arith

-- the number that a refusal's text begins with is its code
pub code_at : (text : List ℕ) (refusal : Refusal) (rest : List ℕ) → IsRefusalAt text refusal rest → IsNumberAt text (code_of refusal) (codes " " ++ (name_of refusal ++ rest))
code_at text refusal rest is = record { whole = is.whole; word = let h = code_small refusal in omega (arith, h); from = refl }

-- a code that is no refusal's
pub no_refusal : (text : List ℕ) (code : ℕ) (r : List ℕ) → IsNumberAt text code r → ((refusal : Refusal) → code_of refusal ≡ code → ⊥) → (refusal : Refusal) (s : List ℕ) → IsRefusalAt text refusal s → ⊥
no_refusal text code r at none refusal s is = none refusal (sym (same_number text code (code_of refusal) r _ at (code_at text refusal s is)).number)

-- a code with no space behind it
pub no_name : (text : List ℕ) (code : ℕ) (r : List ℕ) → IsNumberAt text code r → ((rest : List ℕ) → r ≡ codes " " ++ rest → ⊥) → (refusal : Refusal) (s : List ℕ) → IsRefusalAt text refusal s → ⊥
no_name text code r at none refusal s is = none (name_of refusal ++ s) (same_number text code (code_of refusal) r _ at (code_at text refusal s is)).rest

-- the name of a code
abbrev name_by : ℕ → List ℕ
name_by code = cond (eqb code 1) (name_of NoSlot) (cond (eqb code 2) (name_of Misaligned) (cond (eqb code 3) (name_of NoObject) (cond (eqb code 4) (name_of NotBase) (cond (eqb code 5) (name_of BadSize)
    (cond (eqb code 6) (name_of Full) (cond (eqb code 7) (name_of StackFull) (cond (eqb code 8) (name_of StackEmpty) (cond (eqb code 9) (name_of WrongPhase) (cond (eqb code 10) (name_of LinksFull)
    (cond (eqb code 11) (name_of NotPointerFree) (name_of NeedsFull)))))))))))

name_is : (refusal : Refusal) → name_by (code_of refusal) ≡ name_of refusal
name_is NoSlot = refl
name_is Misaligned = refl
name_is NoObject = refl
name_is NotBase = refl
name_is BadSize = refl
name_is Full = refl
name_is StackFull = refl
name_is StackEmpty = refl
name_is WrongPhase = refl
name_is LinksFull = refl
name_is NotPointerFree = refl
name_is NeedsFull = refl

-- a code with another name behind it
pub other_name : (text : List ℕ) (refusal : Refusal) (r more word rest : List ℕ) → IsNumberAt text (code_of refusal) r → r ≡ codes " " ++ more → IsTextCut 32 more word rest → (word ≡ name_of refusal → ⊥) → (other : Refusal) (s : List ℕ) → IsRefusalAt text other s → ⊥
other_name text refusal r more word rest at e cut differs other s is =
    let same = same_number text (code_of refusal) (code_of other) r _ at (code_at text other s is) in
    let whole = append_cancel_left (codes " ") more (name_of other ++ s) (sym e ∙ same.rest) in
    let front = (same_cut 32 word rest (name_of other) s (sym cut.whole ∙ whole) cut.lacks cut.from (name_lacks other) is.from).front in
    differs (front ∙ sym (name_is other) ∙ ap name_by (sym same.number) ∙ name_is refusal)
