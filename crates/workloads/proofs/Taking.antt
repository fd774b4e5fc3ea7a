-- One line more of a workload.
use Rattle.std.proofs.Common.{◌≡◌, ℕ, ◌+◌, ◌<◌, ◌≤◌, Bool, true, false, cond, eqb, leb, List, [], ◌∷◌, ◌++◌, length, get_or, set, refl, sym, ap, ◌∙◌, subst, arith, append_assoc, zero, suc, length-append, inl, inr}
use Rattle.std.specs.Prelude.{All, Some, None, filter, filter_map, replicate, ◌⊎◌}
use Rattle.std.specs.List.{AllZip, cons_option}
use Rattle.std.proofs.lemmas.Bool.{eqb-true, eq-eqb}
use Rattle.std.proofs.lemmas.Bool.Decides.{leb_tells}
use Rattle.std.proofs.lemmas.List.{append-nil, length-replicate, length-set, replicate-append-replicate, get_or-set_same, get_or-set_other, get_or_past}
use Rattle.std.proofs.lemmas.List.Elements.{All-nil, All-push, filter-append, filter_map-append}
use Rattle.std.proofs.lemmas.Slice.Zip.{AllZip-long}
use Rattle.words.specs.declared.limits.TheConstants.{SLOTS}
use Rattle.heap_spec.specs.declared.call.Call.{Call}
use Rattle.heap_spec.specs.declared.event.Event.{Event}
use Rattle.heap_spec.specs.declared.event.Event.TheVariants.{Attach, Mutator, Begin, BeginPartial, Roots, Mark, Retrace, Finish, Sweep, Collect, Number}
use Rattle.scripts.specs.declared.limits.TheConstants.{LAST_LINE}
use Rattle.scripts.specs.Grammar.{IsLineOf}
use Rattle.scripts.proofs.Inputs.{zip_push, length-push}
use Rattle.workloads.specs.Workloads.{ActorLines, AreWorkload, MayRun, MayFollow, call_of, is_collectors}
use Rattle.workloads.specs.Taking.{with_command, no_lines}

-- no line is a workload
pub none_taken : AreWorkload [] no_lines
none_taken = record { commands = []; few = omega arith; are = tt; slots = omega arith; may_run = All-nil (MayRun 0); mutators = λ slot lt. absurd (omega arith); collector = refl }

-- a command that is no attach
command_on : (lines : List (List ℕ)) (lists new : ActorLines) (line : List ℕ) (command : Event) → AreWorkload lines lists → IsLineOf line command → MayRun (length lists.mutators) command
    → length lines + 1 < LAST_LINE → length new.mutators ≡ length lists.mutators
    → ((k : ℕ) → k < length lists.mutators → get_or new.mutators k [] ≡ get_or lists.mutators k [] ++ filter_map (call_of k) (command ∷ []))
    → new.collector ≡ lists.collector ++ filter is_collectors (command ∷ []) → AreWorkload (lines ++ line ∷ []) new
command_on lines lists new line command w is may few same calls collector = record {
  commands = w.commands ++ command ∷ [];
  few = omega (arith, few, length-push lines line);
  are = subst (λ cs. AllZip IsLineOf (lines ++ line ∷ []) cs) (append_assoc _ w.commands (command ∷ []) ∙ ap (λ n. replicate n Attach ++ (w.commands ++ command ∷ [])) (sym same)) (zip_push IsLineOf lines _ line command w.are is);
  slots = omega (arith, same, w.slots);
  may_run = subst (λ n. All (MayRun n) (w.commands ++ command ∷ [])) (sym same) (All-push (MayRun (length lists.mutators)) w.commands command w.may_run may);
  mutators = λ k lt. let below : k < length lists.mutators = omega (arith, same) in
      calls k below ∙ ap (λ cs. cs ++ filter_map (call_of k) (command ∷ [])) (w.mutators k below) ∙ sym (filter_map-append (call_of k) w.commands (command ∷ []));
  collector = collector ∙ ap (λ cs. cs ++ filter is_collectors (command ∷ [])) w.collector ∙ sym (filter-append is_collectors w.commands (command ∷ []));
}

-- only attaches so far
no_commands : {A : Type 0} (xs : List A) → length xs ≡ 0 → xs ≡ []
no_commands [] e = refl
no_commands (x ∷ xs) e = absurd (omega arith)

get_or_push : {A : Type 0} (xs : List A) (d : A) (i : ℕ) → get_or (xs ++ d ∷ []) i d ≡ get_or xs i d
get_or_push [] d zero = refl
get_or_push [] d (suc i) = refl
get_or_push (x ∷ xs) d zero = refl
get_or_push (x ∷ xs) d (suc i) = get_or_push xs d i

attach_on : (lines : List (List ℕ)) (lists : ActorLines) (line : List ℕ) → AreWorkload lines lists → IsLineOf line Attach → length lines ≡ length lists.mutators → length lists.mutators < SLOTS → length lines + 1 < LAST_LINE
    → AreWorkload (lines ++ line ∷ []) (with_command Attach lists)
attach_on lines lists line w is front room few =
    let m = length lists.mutators in
    let long : length (replicate m Attach ++ w.commands) ≡ length lines = AllZip-long IsLineOf lines (replicate m Attach ++ w.commands) w.are in
    let none : w.commands ≡ [] = no_commands w.commands (omega (arith, long, length-append (replicate m Attach) w.commands, length-replicate m Attach, front)) in
    let more : length (lists.mutators ++ [] ∷ []) ≡ m + 1 = length-push lists.mutators [] in
    let attaches : (replicate m Attach ++ w.commands) ++ Attach ∷ [] ≡ replicate (length (lists.mutators ++ [] ∷ [])) Attach ++ [] =
    ap (λ cs. (replicate m Attach ++ cs) ++ Attach ∷ []) none ∙ ap (λ cs. cs ++ Attach ∷ []) (append-nil (replicate m Attach)) ∙ replicate-append-replicate m 1 Attach ∙ ap (λ n. replicate n Attach) (sym more) ∙ sym (append-nil _) in
    record {
      commands = [];
      few = omega (arith, few, length-push lines line);
      are = subst (λ cs. AllZip IsLineOf (lines ++ line ∷ []) cs) attaches (zip_push IsLineOf lines _ line Attach w.are is);
      slots = omega (arith, more);
      may_run = All-nil (MayRun (length (lists.mutators ++ [] ∷ [])));
      mutators = λ k lt. get_or_push lists.mutators [] k ∙ by_side k (leb_tells m k);
      collector = w.collector ∙ ap (filter is_collectors) none;
    }
  where
    by_side : (k : ℕ) → ((leb (length lists.mutators) k ≡ true) × (length lists.mutators ≤ k)) ⊎ ((leb (length lists.mutators) k ≡ false) × (k < length lists.mutators)) → get_or lists.mutators k [] ≡ []
    by_side k (inr lt) = w.mutators k lt.1 ∙ ap (filter_map (call_of k)) (no_commands w.commands (omega (arith, AllZip-long IsLineOf lines (replicate (length lists.mutators) Attach ++ w.commands) w.are, length-append (replicate (length lists.mutators) Attach) w.commands, length-replicate (length lists.mutators) Attach, front)))
    by_side k (inl ge) = get_or_past lists.mutators k [] ge.1

-- a call of a mutator
call_on : (lines : List (List ℕ)) (lists : ActorLines) (line : List ℕ) (slot : ℕ) (call : Call) → AreWorkload lines lists → IsLineOf line (Mutator slot call) → MayRun (length lists.mutators) (Mutator slot call)
    → length lines + 1 < LAST_LINE → AreWorkload (lines ++ line ∷ []) (with_command (Mutator slot call) lists)
call_on lines lists line slot call w is may few =
    command_on lines lists (with_command (Mutator slot call) lists) line (Mutator slot call) w is may few (length-set lists.mutators slot _) (λ k lt. by_slot k lt (eqb slot k) refl) (sym (append-nil lists.collector))
  where
    unequal : (a b : ℕ) → eqb a b ≡ false → a ≡ b → ⊥
    unequal a b e same = let yes' : eqb a b ≡ true = eq-eqb a b same in cc

    by_slot : (k : ℕ) → k < length lists.mutators → (b : Bool) → eqb slot k ≡ b
        → get_or (set lists.mutators slot (get_or lists.mutators slot [] ++ call ∷ [])) k [] ≡ get_or lists.mutators k [] ++ filter_map (call_of k) (Mutator slot call ∷ [])
    by_slot k lt true e =
        let same : slot ≡ k = eqb-true slot k e in
        ap (λ i. get_or (set lists.mutators i (get_or lists.mutators i [] ++ call ∷ [])) k []) same ∙ get_or-set_same lists.mutators k (get_or lists.mutators k [] ++ call ∷ []) [] lt
        ∙ ap (λ b. get_or lists.mutators k [] ++ cons_option (cond b (Some call) None) []) (sym e)
    by_slot k lt false e =
        get_or-set_other lists.mutators slot k (get_or lists.mutators slot [] ++ call ∷ []) [] (λ same. unequal slot k e (sym same))
        ∙ sym (append-nil (get_or lists.mutators k [])) ∙ ap (λ b. get_or lists.mutators k [] ++ cons_option (cond b (Some call) None) []) (sym e)

-- one line more
pub taken : (lines : List (List ℕ)) (lists : ActorLines) (line : List ℕ) (command : Event) → AreWorkload lines lists → IsLineOf line command → MayFollow (length lines) (length lists.mutators) command → length lines + 1 < LAST_LINE
    → AreWorkload (lines ++ line ∷ []) (with_command command lists)
taken lines lists line Attach w is may few = attach_on lines lists line w is may.0 may.1 few
taken lines lists line (Mutator slot call) w is may few = call_on lines lists line slot call w is may few
taken lines lists line Begin w is may few = command_on lines lists _ line Begin w is may few refl (λ k lt. sym (append-nil _)) refl
taken lines lists line BeginPartial w is may few = command_on lines lists _ line BeginPartial w is may few refl (λ k lt. sym (append-nil _)) refl
taken lines lists line Roots w is may few = command_on lines lists _ line Roots w is may few refl (λ k lt. sym (append-nil _)) refl
taken lines lists line (Mark n) w is may few = command_on lines lists _ line (Mark n) w is may few refl (λ k lt. sym (append-nil _)) refl
taken lines lists line Retrace w is may few = command_on lines lists _ line Retrace w is may few refl (λ k lt. sym (append-nil _)) refl
taken lines lists line Finish w is may few = command_on lines lists _ line Finish w is may few refl (λ k lt. sym (append-nil _)) refl
taken lines lists line Sweep w is may few = command_on lines lists _ line Sweep w is may few refl (λ k lt. sym (append-nil _)) refl
taken lines lists line Collect w is may few = command_on lines lists _ line Collect w is may few refl (λ k lt. sym (append-nil _)) refl
taken lines lists line Number w is may few = command_on lines lists _ line Number w is may few refl (λ k lt. sym (append-nil _)) refl
