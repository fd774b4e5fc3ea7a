-- The events that a core was asked for are lines that it follows.
use Rattle.std.proofs.Common.{◌++◌, length, take, get_or, set, ◌≡◌, ℕ, ◌+◌, ◌<◌, ◌≤◌, List, [], ◌∷◌, refl, sym, ap, ◌∙◌, subst, arith}
use Rattle.std.proofs.lemmas.List.{take_more, take_more_set, take_all, length-take-le}
use Rattle.heap_spec.specs.declared.event.Event.{Event}
use Rattle.heap_spec.specs.declared.event.Event.TheVariants.{Attach, Mutator, Begin, BeginPartial, Roots, Mark, Retrace, Finish, Sweep, Collect, Number}
use Rattle.heap_spec.specs.declared.reply.Reply.{Reply}
use Rattle.heap_spec.specs.declared.reply.Reply.TheVariants.{Count}
use Rattle.heap_spec.specs.Runs.{Told}
use Rattle.block_map.specs.FoundIn.{IsLawful}
use Rattle.heap_core.specs.CoreContents.{CoreContents, IsCore}
use Rattle.heap_core.specs.Acts.{IsAct, AreActs}
use Rattle.heap_core.specs.Following.{IsLine, AreLines, told_of}
use Rattle.heap_core.proofs.Following.{CountsObjects, lawful_counts, counted_call_line, begin_result, partial_result, roots_result, mark_result, retrace_result, finish_result, sweep_result, collect_result, number_line, no_lines, lines_more}

-- what is a line with one reply is one with the same reply
line_with : (old new : CoreContents) (event : Event) (reply told : Reply) → reply ≡ told → IsLine old event told new → IsLine old event reply new
line_with old new event reply told same line = subst (λ x. IsLine old event x new) (sym same) line

pub counted_act_line : (old new : CoreContents) (event : Event) (reply : Reply) → CountsObjects old → IsAct old event reply new → IsLine old event reply new
counted_act_line old new Attach reply counts act = counted_call_line old Attach reply new counts act
counted_act_line old new (Mutator slot call) reply counts act = counted_call_line old (Mutator slot call) reply new counts act
counted_act_line old new Begin reply counts act = line_with old new Begin reply _ act.1 (begin_result old new act.0 act.2)
counted_act_line old new BeginPartial reply counts act = line_with old new BeginPartial reply _ act.1 (partial_result old new act.0 act.2)
counted_act_line old new Roots reply counts act = line_with old new Roots reply _ act.1 (roots_result old new act.0 act.2)
counted_act_line old new (Mark most) reply counts act = line_with old new (Mark most) reply _ act.1 (mark_result old new most act.0 act.2)
counted_act_line old new Retrace reply counts act = line_with old new Retrace reply _ act.1 (retrace_result old new act.0 act.2)
counted_act_line old new Finish reply counts act = line_with old new Finish reply _ act.1 (finish_result old new act.0 act.2)
counted_act_line old new Sweep reply counts act = line_with old new Sweep reply _ act.1 (sweep_result old new act.0 act.2)
counted_act_line old new Collect reply counts act = line_with old new Collect reply _ act.1 (collect_result old new act.0 act.2)
counted_act_line old new Number reply counts act = line_with old new Number reply _ act.0 (subst (λ c. IsLine old Number (Count old.cycle.count) c) (sym act.1) (number_line old))

pub act_line : (old new : CoreContents) (event : Event) (reply : Reply) → IsLawful old.store.states → IsAct old event reply new → IsLine old event reply new
act_line old new event reply lawful act = counted_act_line old new event reply (lawful_counts old lawful) act

-- what the calls leave has the laws of a map
lawful_after : (old : CoreContents) → IsLawful old.store.states → {lines : List Told} {new : CoreContents} → AreActs old lines new → IsLawful new.store.states
lawful_after old lawful AreActs.none = lawful
lawful_after old lawful (AreActs.more told before act core) = core.lawful

pub acts_lines : (old : CoreContents) → IsLawful old.store.states → {lines : List Told} {new : CoreContents} → AreActs old lines new → AreLines old lines new
acts_lines old lawful AreActs.none = no_lines old
acts_lines old lawful (AreActs.more {lines = lines} {mid = mid} {new = new} told before act core) =
    lines_more old mid new lines told.event told.reply (acts_lines old lawful before) (act_line mid new told.event told.reply (lawful_after old lawful before) act)

-- one event and reply more
told_more : (events : List Event) (replies : List Reply) (event : Event) (reply : Reply) → length events ≡ length replies → told_of (events ++ event ∷ []) (replies ++ reply ∷ []) ≡ told_of events replies ++ record { event = event; reply = reply } ∷ []
told_more [] [] event reply same = refl
told_more [] (r ∷ replies) event reply same = absurd (omega arith)
told_more (e ∷ events) [] event reply same = absurd (omega arith)
told_more (e ∷ events) (r ∷ replies) event reply same = ap (λ xs. record { event = e; reply = r } ∷ xs) (told_more events replies event reply (omega arith))

pub run_more : (old mid new : CoreContents) (events : List Event) (replies : List Reply) (i : ℕ) (event : Event) (reply : Reply) → i < length events → length events ≡ length replies → event ≡ get_or events i event
    → AreActs old (told_of (take i events) (take i replies)) mid → IsAct mid event reply new → IsCore new → AreActs old (told_of (take (i + 1) events) (take (i + 1) (set replies i reply))) new
run_more old mid new events replies i event reply lt same is so next core =
    subst (λ lines. AreActs old lines new) (sym lists) (AreActs.more (record { event = event; reply = reply }) so next core)
  where
    lists : told_of (take (i + 1) events) (take (i + 1) (set replies i reply)) ≡ told_of (take i events) (take i replies) ++ record { event = event; reply = reply } ∷ []
    lists =
        ap (λ es. told_of es (take (i + 1) (set replies i reply))) (take_more events i event lt ∙ ap (λ e. take i events ++ e ∷ []) (sym is))
        ∙ ap (λ rs. told_of (take i events ++ event ∷ []) rs) (take_more_set replies i reply (omega arith))
        ∙ told_more (take i events) (take i replies) event reply (length-take-le i events (omega arith) ∙ sym (length-take-le i replies (omega arith)))

pub run_all : (old new : CoreContents) (events : List Event) (replies : List Reply) (i : ℕ) → length events ≤ i → length events ≡ length replies → AreActs old (told_of (take i events) (take i replies)) new → AreActs old (told_of events replies) new
run_all old new events replies i all same lines =
    subst (λ rs. AreActs old (told_of events rs) new) (take_all i replies (omega arith)) (subst (λ es. AreActs old (told_of es (take i replies)) new) (take_all i events all) lines)
