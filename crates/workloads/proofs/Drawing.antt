-- What words draw, word by word and line by line.
use Rattle.std.proofs.Common.{◌≡◌, ℕ, ◌+◌, ◌*◌, ◌<◌, ◌≤◌, ◌%◌, ◌/◌, suc, List, [], ◌∷◌, ◌++◌, map, cond, refl, sym, ap, ◌∙◌, subst, arith, append_assoc}
use Rattle.std.specs.Prelude.{Some, slice_get, slice_index_or, Result, Ok, Err, OnOk}
use Rattle.scripts.specs.Turns.{text_of}
use Rattle.std.proofs.lemmas.Bool.{lt-ltb, le-ltb}
use Rattle.std.proofs.lemmas.Option.{get_or_from_slice_get}
use Rattle.rand_core.specs.Steps.{first_words}
use Rattle.rand_pcg.specs.Lcg.{Lcg}
use Rattle.rand_pcg.specs.Pcg.{pcg32}
use Rattle.heap_spec.specs.declared.call.Call.{Call}
use Rattle.heap_spec.specs.declared.call.Call.TheVariants.{Detach}
use Rattle.heap_spec.specs.declared.event.Event.{Event}
use Rattle.heap_spec.specs.declared.event.Event.TheVariants.{Attach, Mutator}
use Rattle.scripts.specs.Lines.{newline}
use Rattle.workloads.specs.Draws.{drawn, drawn_calls, drawn_collections}
use Rattle.workloads.specs.Stress.{line_of_command, commands_of, drawn_text, drawn_commands}

-- a call is drawn
pub draws_call : (m x0 x1 x2 x3 slot p q : ℕ) (call : Call) → x0 % (m + 1) < m → slot ≡ x0 % (m + 1) → p ≡ x2 % 16 → q ≡ x2 / 16 % 16 → slice_get (drawn_calls p q x3) (x1 % 16) ≡ Some call
    → Mutator slot call ≡ drawn m x0 x1 x2 x3
draws_call m x0 x1 x2 x3 slot p q call lt is isp isq found =
    let same : slice_index_or (drawn_calls (x2 % 16) (x2 / 16 % 16) x3) (x1 % 16) Detach ≡ call =
    get_or_from_slice_get (drawn_calls (x2 % 16) (x2 / 16 % 16) x3) (x1 % 16) call Detach (subst (λ r. slice_get (drawn_calls (x2 % 16) r x3) (x1 % 16) ≡ Some call) isq (subst (λ r. slice_get (drawn_calls r q x3) (x1 % 16) ≡ Some call) isp found)) in
    ap (λ k. Mutator k call) is ∙ ap (λ c. Mutator (x0 % (m + 1)) c) (sym same)
    ∙ ap (λ b. cond b (Mutator (x0 % (m + 1)) (slice_index_or (drawn_calls (x2 % 16) (x2 / 16 % 16) x3) (x1 % 16) Detach)) (slice_index_or (drawn_collections x3) (x1 % 8) Attach)) (sym (lt-ltb _ _ lt))

-- a command of the collector is drawn
pub draws_collection : (m x0 x1 x2 x3 : ℕ) (command : Event) → m ≤ x0 % (m + 1) → slice_get (drawn_collections x3) (x1 % 8) ≡ Some command → command ≡ drawn m x0 x1 x2 x3
draws_collection m x0 x1 x2 x3 command le found =
    sym (get_or_from_slice_get (drawn_collections x3) (x1 % 8) command Attach found)
    ∙ ap (λ b. cond b (Mutator (x0 % (m + 1)) (slice_index_or (drawn_calls (x2 % 16) (x2 / 16 % 16) x3) (x1 % 16) Detach)) (slice_index_or (drawn_collections x3) (x1 % 8) Attach)) (sym (le-ltb _ _ le))

-- one word
one_word : (k x : ℕ) (w w' : Lcg) → (x, w') ≡ pcg32 w → first_words pcg32 (suc k) w ≡ x ∷ first_words pcg32 k w'
unfolding first_words
one_word k x w w' e = ap (λ i. i.0 ∷ first_words pcg32 k i.1) (sym e)

-- the four words of a line
pub four_words : (n k x0 x1 x2 x3 : ℕ) (w w1 w2 w3 w4 : Lcg) → n ≡ k + 1 → (x0, w1) ≡ pcg32 w → (x1, w2) ≡ pcg32 w1 → (x2, w3) ≡ pcg32 w2 → (x3, w4) ≡ pcg32 w3
    → first_words pcg32 (4 * n) w ≡ x0 ∷ x1 ∷ x2 ∷ x3 ∷ first_words pcg32 (4 * k) w4
four_words n k x0 x1 x2 x3 w w1 w2 w3 w4 one e1 e2 e3 e4 =
    let four : 4 * n ≡ suc (suc (suc (suc (4 * k)))) = omega arith in
    ap (λ i. first_words pcg32 i w) four ∙ one_word _ x0 w w1 e1
    ∙ ap (λ t. x0 ∷ t) (one_word _ x1 w1 w2 e2 ∙ ap (λ t. x1 ∷ t) (one_word _ x2 w2 w3 e3 ∙ ap (λ t. x2 ∷ t) (one_word _ x3 w3 w4 e4)))

-- one line that is drawn
pub one_draw : (m k x0 x1 x2 x3 : ℕ) (w w1 w2 w3 w4 : Lcg) (old new : List ℕ) (command : Event) → (x0, w1) ≡ pcg32 w → (x1, w2) ≡ pcg32 w1 → (x2, w3) ≡ pcg32 w2 → (x3, w4) ≡ pcg32 w3
    → command ≡ drawn m x0 x1 x2 x3 → new ≡ (old ++ line_of_command command) ++ newline ∷ [] → old ++ drawn_text m (k + 1) w ≡ new ++ drawn_text m k w4
one_draw m k x0 x1 x2 x3 w w1 w2 w3 w4 old new command e1 e2 e3 e4 is wrote =
    ap (λ ws. old ++ text_of (map line_of_command (commands_of m ws))) (four_words (k + 1) k x0 x1 x2 x3 w w1 w2 w3 w4 refl e1 e2 e3 e4)
    ∙ ap (λ c. old ++ ((line_of_command c ++ newline ∷ []) ++ drawn_text m k w4)) (sym is)
    ∙ sym (append_assoc old (line_of_command command ++ newline ∷ []) (drawn_text m k w4))
    ∙ ap (λ t. t ++ drawn_text m k w4) (sym (append_assoc old (line_of_command command) (newline ∷ [])) ∙ sym wrote)

-- what follows from a call that succeeds
pub on_ok : {A E : Type 0} {P Q : Type 0} (r : Result A E) → (P → Q) → OnOk r P → OnOk r Q
on_ok (Ok a) f h = f h
on_ok (Err e) f h = h

-- no command is drawn
pub none_commands : (m : ℕ) (w : Lcg) → drawn_commands m 0 w ≡ []
unfolding first_words
none_commands m w = refl

-- no line is drawn
pub none_drawn : (m n : ℕ) (w : Lcg) → n ≡ 0 → drawn_text m n w ≡ []
unfolding first_words
none_drawn m n w e = ap (λ k. drawn_text m k w) e
