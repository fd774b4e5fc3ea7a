-- Random scripts are workloads.
use Rattle.std.proofs.Common.{◌≡◌, ◌≢◌, ℕ, ◌+◌, ◌<◌, ◌≤◌, ◌/◌, ◌%◌, ◌^◌, zero, suc, Bool, true, false, cond, ltb, List, [], ◌∷◌, ◌++◌, length, map, get_or, refl, sym, ap, ◌∙◌, subst, arith, lit≤, length-append}
use Rattle.std.specs.Prelude.{All, replicate, filter, filter_map}
use Rattle.std.specs.List.{AllZip}
use Rattle.std.proofs.lemmas.Bool.{ltb-true}
use Rattle.std.proofs.lemmas.List.{append-nil, length-replicate, length-map}
use Rattle.std.proofs.lemmas.List.Elements.{All-nil, All-cons, All-append, All-get_or, All-head, All-tail, All-map, All-replicate}
use Rattle.rand_pcg.specs.Lcg.{Lcg}
use Rattle.rand_pcg.specs.Pcg.{pcg32}
use Rattle.words.specs.declared.limits.TheConstants.{SLOTS}
use Rattle.heap_spec.specs.declared.call.Call.{Call}
use Rattle.heap_spec.specs.declared.call.Call.TheVariants.{Detach}
use Rattle.heap_spec.specs.declared.event.Event.{Event}
use Rattle.heap_spec.specs.declared.event.Event.TheVariants.{Attach, Mutator}
use Rattle.heap_spec.specs.Ranges.{CallInRange, InRange}
use Rattle.scripts.specs.Grammar.{IsLineOf}
use Rattle.scripts.specs.Lines.{lines_of}
use Rattle.scripts.specs.Reading.{IsPlainLine}
use Rattle.scripts.proofs.Texts.{lines_of-text}
use Rattle.workloads.specs.declared.limits.TheConstants.{MAX_STEPS}
use Rattle.workloads.specs.Draws.{drawn, drawn_calls, drawn_collections}
use Rattle.workloads.specs.Stress.{line_of_command, commands_of, drawn_commands, seeded, stress, stress_text}
use Rattle.workloads.specs.Workloads.{ActorLines, MayRun, call_of, is_collectors}
use Rattle.workloads.specs.Laws.{IsStressWorkload}
use Rattle.workloads.proofs.Drawing.{four_words, none_commands}
use Rattle.workloads.proofs.CommandLines.{good_line}

-- what is drawn is in range, and is no detach
abbrev IsGoodCall : Call → Type 0
IsGoodCall call = CallInRange call × (call ≢ Detach)

abbrev IsGood : ℕ → Event → Type 0
IsGood m command = InRange command × MayRun m command

-- each element, one after another
abbrev Each : {X : Type 0} → (X → Type 0) → List X → Type 0
Each P [] = Unit {0}
Each P (x ∷ xs) = P x × Each P xs

each_all : {X : Type 0} (P : X → Type 0) (xs : List X) → Each P xs → All P xs
each_all P [] h = All-nil P
each_all P (x ∷ xs) h = All-cons P x xs h.0 (each_all P xs h.1)

calls_good : (p q x : ℕ) → p < 16 → q < 16 → All IsGoodCall (drawn_calls p q x)
calls_good p q x hp hq =
    let few : 1 + x % 40 < 2 ^ 64 = omega arith in
    let many : 200 + x % 400 < 2 ^ 64 = omega arith in
    let offset : x % 4 < 2 ^ 64 = omega arith in
    let global : x % 64 < 64 = omega arith in
    each_all IsGoodCall (drawn_calls p q x)
    (((hp, few), λ e. cc), (((hp, few), λ e. cc), (((hp, few), λ e. cc), (((hp, many), λ e. cc), (((hp, hq, offset), λ e. cc), (((hp, hq, offset), λ e. cc), (((hp, hq, offset), λ e. cc), (((hp, offset, hq), λ e. cc), (((hp, offset, hq), λ e. cc), (((hp, offset, hq), λ e. cc), (((hp, hq), λ e. cc), (((hp, lit≤ tt), λ e. cc), ((hp, λ e. cc), ((hp, λ e. cc), ((hp, λ e. cc), (((global, hp), λ e. cc), tt))))))))))))))))

collections_good : (m x : ℕ) → All (IsGood m) (drawn_collections x)
collections_good m x =
    let words : 1 + x % 64 < 2 ^ 64 = omega arith in
    each_all (IsGood m) (drawn_collections x) ((tt, tt), ((tt, tt), ((words, tt), ((words, tt), ((tt, tt), ((tt, tt), ((tt, tt), ((tt, tt), tt))))))))

drawn_good : (m x0 x1 x2 x3 : ℕ) → m ≤ SLOTS → IsGood m (drawn m x0 x1 x2 x3)
drawn_good m x0 x1 x2 x3 few = by_actor (ltb (x0 % (m + 1)) m) refl
  where
    call : Call
    call = get_or (drawn_calls (x2 % 16) (x2 / 16 % 16) x3) (x1 % 16) Detach

    collection : Event
    collection = get_or (drawn_collections x3) (x1 % 8) Attach

    by_actor : (b : Bool) → ltb (x0 % (m + 1)) m ≡ b → IsGood m (cond b (Mutator (x0 % (m + 1)) call) collection)
    by_actor true e =
        let slot : x0 % (m + 1) < m = ltb-true _ _ e in
        let good : IsGoodCall call = All-get_or IsGoodCall (drawn_calls (x2 % 16) (x2 / 16 % 16) x3) (x1 % 16) Detach (omega arith) (calls_good (x2 % 16) (x2 / 16 % 16) x3 (omega arith) (omega arith)) in
        ((omega arith, good.0), (slot, good.1))
    by_actor false e = All-get_or (IsGood m) (drawn_collections x3) (x1 % 8) Attach (omega arith) (collections_good m x3)

drawn_all : (m k : ℕ) (w : Lcg) → m ≤ SLOTS → All (IsGood m) (drawn_commands m k w) × (length (drawn_commands m k w) ≡ k)
drawn_all m zero w few = subst (λ cs. All (IsGood m) cs × (length cs ≡ zero)) (sym (none_commands m w)) (All-nil (IsGood m), refl)
drawn_all m (suc k) w few =
    let w1 = (pcg32 w).1 in
    let w2 = (pcg32 w1).1 in
    let w3 = (pcg32 w2).1 in
    let w4 = (pcg32 w3).1 in
    let more : suc k ≡ k + 1 = omega arith in
    let step : drawn_commands m (suc k) w ≡ drawn m (pcg32 w).0 (pcg32 w1).0 (pcg32 w2).0 (pcg32 w3).0 ∷ drawn_commands m k w4 =
    ap (commands_of m) (four_words (suc k) k (pcg32 w).0 (pcg32 w1).0 (pcg32 w2).0 (pcg32 w3).0 w w1 w2 w3 w4 more refl refl refl refl) in
    let rest = drawn_all m k w4 few in
    subst (λ cs. All (IsGood m) cs × (length cs ≡ suc k)) (sym step)
    (All-cons (IsGood m) _ (drawn_commands m k w4) (drawn_good m (pcg32 w).0 (pcg32 w1).0 (pcg32 w2).0 (pcg32 w3).0 few) rest.0, ap suc rest.1)

-- the calls of each slot
abbrev lists_from : ℕ → ℕ → List Event → List (List Call)
lists_from slot zero commands = []
lists_from slot (suc n) commands = filter_map (call_of slot) commands ∷ lists_from (slot + 1) n commands

length-lists : (slot n : ℕ) (commands : List Event) → length (lists_from slot n commands) ≡ n
length-lists slot zero commands = refl
length-lists slot (suc n) commands = ap suc (length-lists (slot + 1) n commands)

list_at : (slot n i : ℕ) (commands : List Event) → i < n → get_or (lists_from slot n commands) i [] ≡ filter_map (call_of (slot + i)) commands
list_at slot zero i commands lt = absurd (omega arith)
list_at slot (suc n) zero commands lt = let none : slot ≡ slot + 0 = omega arith in ap (λ s. filter_map (call_of s) commands) none
list_at slot (suc n) (suc i) commands lt = let moved : slot + 1 + i ≡ slot + suc i = omega arith in list_at (slot + 1) n i commands (omega arith) ∙ ap (λ s. filter_map (call_of s) commands) moved

-- the lines of commands
lines_are : (commands : List Event) → All InRange commands → AllZip IsLineOf (map line_of_command commands) commands
lines_are [] r = tt
lines_are (c ∷ cs) r = ((good_line c (All-head InRange c cs r)).0, lines_are cs (All-tail InRange c cs r))

lines_plain : (commands : List Event) → All InRange commands → All IsPlainLine (map line_of_command commands)
lines_plain commands r = All-map IsPlainLine line_of_command commands (λ k d lt. (good_line _ (r k d lt)).1)

pub stress_workload : (seed m steps : ℕ) → m ≤ SLOTS → steps ≤ MAX_STEPS → IsStressWorkload seed m steps
stress_workload seed m steps few most =
    let commands = drawn_commands m steps (seeded seed) in
    let all = drawn_all m steps (seeded seed) few in
    let range : All InRange (stress seed m steps) = All-append InRange (replicate m Attach) commands (All-replicate InRange m Attach tt) (λ k d lt. (all.0 k d lt).0) in
    let lines : lines_of (stress_text seed m steps) ≡ map line_of_command (stress seed m steps) =
    ap lines_of (sym (append-nil (stress_text seed m steps))) ∙ lines_of-text (map line_of_command (stress seed m steps)) [] (lines_plain (stress seed m steps) range) ∙ append-nil (map line_of_command (stress seed m steps)) in
    let count : length (lines_of (stress_text seed m steps)) ≡ m + steps =
    ap length lines ∙ length-map (stress seed m steps) line_of_command ∙ length-append (replicate m Attach) commands ∙ omega (arith, length-replicate m Attach, all.1) in
    let lists : ActorLines = record { mutators = lists_from 0 m commands; collector = filter is_collectors commands } in
    let long : length (lists_from 0 m commands) ≡ m = length-lists 0 m commands in
    record {
      lists = lists;
      are = record {
        commands = commands;
        few = omega (arith, count, few, most);
        are = subst (λ n. AllZip IsLineOf (lines_of (stress_text seed m steps)) (replicate n Attach ++ commands)) (sym long) (subst (λ ls. AllZip IsLineOf ls (stress seed m steps)) (sym lines) (lines_are (stress seed m steps) range));
        slots = omega (arith, long, few);
        may_run = subst (λ n. All (MayRun n) commands) (sym long) (λ k d lt. (all.0 k d lt).1);
        mutators = λ slot lt. list_at 0 m slot commands (omega (arith, long)) ∙ ap (λ s. filter_map (call_of s) commands) (zero_plus slot);
        collector = refl;
      };
      mutators_are = long;
      count = count;
    }
  where
    zero_plus : (n : ℕ) → 0 + n ≡ n
    zero_plus n = omega arith
