-- What a call of a sequential object does to the states that the object stands for.
use Rattle.std.specs.Prelude.{ℕ}

-- from each state that the object stood for, the reply is a step's, to a state that it then stands for
abbrev pub StepsFrom : {O S C R : Type 0} → (O → S → Type 0) → (S → ℕ → C → R → S → Type 0) → O → ℕ → C → R → O → Type 0
StepsFrom {S = S} stands step before who call reply after = (s : S) → stands before s → (t : S) × step s who call reply t × stands after t

-- Work that leads from one value to another leaves each state that the object stood for.
abbrev pub KeepsStates : {O S A : Type 0} → (O → S → Type 0) → (O → A → O → Type 0) → Type 0
KeepsStates {O = O} {S = S} {A = A} stands does = (before : O) (answer : A) (after : O) → does before answer after → (s : S) → stands before s → stands after s
