-- Words that are no command's, by the first of them.
use Rattle.std.proofs.Common.{◌≡◌, ℕ, ◌<◌, Bool, true, false, List, [], ◌∷◌, refl, sym, ap, ◌∙◌, subst, arith, codes}
use Rattle.std.specs.Prelude.{Option, MatchBool, decimal}
use Rattle.std.specs.Bool.{then_some}
use Rattle.std.specs.Str.Parse.{AllDigits}
use Rattle.std.proofs.lemmas.Fmt.{decimal_is_IsNumeral}
use Rattle.words.specs.declared.limits.TheConstants.{SLOTS}
use Rattle.heap_spec.specs.declared.event.Event.{Event}
use Rattle.heap_spec.specs.declared.event.Event.TheVariants.{Attach, Mutator, Begin, BeginPartial, Roots, Mark, Retrace, Finish, Sweep, Collect, Number}
use Rattle.scripts.specs.CommandWords.{AreCommandWords, ReadsCommand}

abbrev head : List (List ℕ) → List ℕ
head [] = []
head (x ∷ xs) = x

abbrev tail : List (List ℕ) → List (List ℕ)
tail [] = []
tail (x ∷ xs) = xs

rest_of : {x y : List ℕ} {xs ys : List (List ℕ)} → x ∷ xs ≡ y ∷ ys → xs ≡ ys
rest_of e = ap tail e

first_of_words : {x y : List ℕ} {xs ys : List (List ℕ)} → x ∷ xs ≡ y ∷ ys → x ≡ y
first_of_words e = ap head e

-- the number of a slot is neither `attach` nor `gc`
digits_of_slot : (n : ℕ) → n < SLOTS → AllDigits 10 (decimal n)
digits_of_slot n small = (decimal_is_IsNumeral n (omega arith)).0.1

not_attach : (n : ℕ) → n < SLOTS → decimal n ≡ codes "attach" → ⊥
not_attach n small e = let digits : AllDigits 10 (codes "attach") = subst (AllDigits 10) e (digits_of_slot n small) in let h = digits.0 in omega (arith, h)

not_gc : (n : ℕ) → n < SLOTS → decimal n ≡ codes "gc" → ⊥
not_gc n small e = let digits : AllDigits 10 (codes "gc") = subst (AllDigits 10) e (digits_of_slot n small) in let h = digits.0 in omega (arith, h)

-- `attach`, and whether it is all
attach_is_not_gc : {first : List ℕ} → first ≡ codes "attach" → first ≡ codes "gc" → ⊥
attach_is_not_gc attach gc = let e : codes "attach" ≡ codes "gc" = sym attach ∙ gc in let h : ⊥ = cc in h

more_than_attach : (first : List ℕ) (rest : List (List ℕ)) → first ≡ codes "attach" → (rest ≡ [] → ⊥) → (command : Event) → AreCommandWords (first ∷ rest) command → ⊥
more_than_attach first rest same more Attach are = more (rest_of are.are)
more_than_attach first rest same more (Mutator slot call) are = not_attach slot are.in_range.0 (sym (first_of_words are.are) ∙ same)
more_than_attach first rest same more Begin are = attach_is_not_gc same (first_of_words are.are)
more_than_attach first rest same more BeginPartial are = attach_is_not_gc same (first_of_words are.are)
more_than_attach first rest same more Roots are = attach_is_not_gc same (first_of_words are.are)
more_than_attach first rest same more (Mark n) are = attach_is_not_gc same (first_of_words are.are)
more_than_attach first rest same more Retrace are = attach_is_not_gc same (first_of_words are.are)
more_than_attach first rest same more Finish are = attach_is_not_gc same (first_of_words are.are)
more_than_attach first rest same more Sweep are = attach_is_not_gc same (first_of_words are.are)
more_than_attach first rest same more Collect are = attach_is_not_gc same (first_of_words are.are)
more_than_attach first rest same more Number are = attach_is_not_gc same (first_of_words are.are)

pub attach_words : (first : List ℕ) (rest : List (List ℕ)) (done : Bool) (found : Option Event) → first ≡ codes "attach" → MatchBool done (rest ≡ []) (rest ≡ [] → ⊥) → found ≡ then_some done Attach → ReadsCommand (first ∷ rest) found
attach_words first rest true found same all e = rw e (record { are = ap (λ word. word ∷ rest) same ∙ ap (λ ws. codes "attach" ∷ ws) all; in_range = tt })
attach_words first rest false found same more e = rw e (more_than_attach first rest same more)

-- a second word that is none of the collector's
pub no_verb : (verb : List ℕ) (rest words : List (List ℕ)) → words ≡ verb ∷ rest
    → (verb ≡ codes "begin" → ⊥) → (verb ≡ codes "partial" → ⊥) → (verb ≡ codes "roots" → ⊥) → (verb ≡ codes "mark" → ⊥) → (verb ≡ codes "retrace" → ⊥) → (verb ≡ codes "finish" → ⊥) → (verb ≡ codes "sweep" → ⊥) → (verb ≡ codes "collect" → ⊥) → (verb ≡ codes "no" → ⊥)
    → (command : Event) → AreCommandWords (codes "gc" ∷ words) command → ⊥
no_verb verb rest words is begin partial roots mark retrace finish sweep collect number Attach are = attach_is_not_gc refl (sym (first_of_words are.are))
no_verb verb rest words is begin partial roots mark retrace finish sweep collect number (Mutator slot call) are = not_gc slot are.in_range.0 (sym (first_of_words are.are))
no_verb verb rest words is begin partial roots mark retrace finish sweep collect number Begin are = begin (first_of_words (sym is ∙ rest_of are.are))
no_verb verb rest words is begin partial roots mark retrace finish sweep collect number BeginPartial are = partial (first_of_words (sym is ∙ rest_of are.are))
no_verb verb rest words is begin partial roots mark retrace finish sweep collect number Roots are = roots (first_of_words (sym is ∙ rest_of are.are))
no_verb verb rest words is begin partial roots mark retrace finish sweep collect number (Mark n) are = mark (first_of_words (sym is ∙ rest_of are.are))
no_verb verb rest words is begin partial roots mark retrace finish sweep collect number Retrace are = retrace (first_of_words (sym is ∙ rest_of are.are))
no_verb verb rest words is begin partial roots mark retrace finish sweep collect number Finish are = finish (first_of_words (sym is ∙ rest_of are.are))
no_verb verb rest words is begin partial roots mark retrace finish sweep collect number Sweep are = sweep (first_of_words (sym is ∙ rest_of are.are))
no_verb verb rest words is begin partial roots mark retrace finish sweep collect number Collect are = collect (first_of_words (sym is ∙ rest_of are.are))
no_verb verb rest words is begin partial roots mark retrace finish sweep collect number Number are = number (first_of_words (sym is ∙ rest_of are.are))
