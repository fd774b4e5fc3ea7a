-- The codes and names of refusals, as they are printed, and the codes of why a heap isn't opened.
use Rattle.std.specs.Prelude.{ℕ, List, codes}
use Rattle.words.specs.declared.refusal.OpenError.{OpenError}
use Rattle.words.specs.declared.refusal.OpenError.TheVariants.{BadPages, Memory}
use Rattle.words.specs.declared.refusal.Refusal.{Refusal}
use Rattle.words.specs.declared.refusal.Refusal.TheVariants.{NoSlot, Misaligned, NoObject, NotBase, BadSize, Full, StackFull, StackEmpty, WrongPhase, LinksFull, NotPointerFree, NeedsFull}

-- The code that is printed of a refusal.
abbrev pub code_of : Refusal → ℕ
code_of NoSlot = 1
code_of Misaligned = 2
code_of NoObject = 3
code_of NotBase = 4
code_of BadSize = 5
code_of Full = 6
code_of StackFull = 7
code_of StackEmpty = 8
code_of WrongPhase = 9
code_of LinksFull = 10
code_of NotPointerFree = 11
code_of NeedsFull = 12

-- The code of why a heap isn't opened.
abbrev pub open_code_of : OpenError → ℕ
open_code_of BadPages = 1
open_code_of Memory = 2

-- The name that is printed of a refusal, in the codes of its letters.
abbrev pub name_of : Refusal → List ℕ
name_of NoSlot = codes "NoSlot"
name_of Misaligned = codes "Misaligned"
name_of NoObject = codes "NoObject"
name_of NotBase = codes "NotBase"
name_of BadSize = codes "BadSize"
name_of Full = codes "Full"
name_of StackFull = codes "StackFull"
name_of StackEmpty = codes "StackEmpty"
name_of WrongPhase = codes "WrongPhase"
name_of LinksFull = codes "LinksFull"
name_of NotPointerFree = codes "NotPointerFree"
name_of NeedsFull = codes "NeedsFull"
