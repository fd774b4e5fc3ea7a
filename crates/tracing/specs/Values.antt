-- How a value changes.
use Rattle.std.specs.Prelude.{◌≡◌, Option, Some, None}

-- a value is said where it is another than before
abbrev pub SaysValue : {A : Type 0} → A → A → Option A → Type 0
SaysValue old new None = old ≡ new
SaysValue old new (Some said) = (said ≡ new) × (old ≡ new → ⊥)
