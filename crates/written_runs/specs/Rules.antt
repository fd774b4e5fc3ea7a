-- Which rule a line breaks that isn't legal, by the kind of the line.
use Rattle.heap_spec.specs.declared.call.Call.{Call}
use Rattle.heap_spec.specs.declared.call.Call.TheVariants.{Detach, Set, Copy, Add, Sub, Get, Push, Pop, Load, Store, Alloc, Free, Base, Size, GlobalGet, GlobalPut, Link, Unlink}
use Rattle.heap_spec.specs.declared.event.Event.{Event}
use Rattle.heap_spec.specs.declared.event.Event.TheVariants.{Attach, Mutator, Begin, BeginPartial, Roots, Mark, Retrace, Finish, Sweep, Collect, Number}
use Rattle.heap_spec.specs.declared.reply.Reply.{Reply}
use Rattle.heap_spec.specs.declared.reply.Reply.TheVariants.{Slot, Done, Word, Count, Refused}
use Rattle.replayer.specs.declared.hint.Hint.{Hint}
use Rattle.replayer.specs.declared.hint.Hint.TheVariants.{Nothing, Place, Forgot}
use Rattle.written_runs.specs.declared.places.Places.{Places}
use Rattle.written_runs.specs.declared.places.Places.TheVariants.{Classes, Any}
use Rattle.written_runs.specs.declared.rules.Rule.{Rule}
use Rattle.written_runs.specs.declared.rules.Rule.TheVariants.{Attach as AttachRule, GivenPlace, NoPlace, Refusal, GivenObject, RefusalAnywhere, Load as LoadRule, Store as StoreRule, Free as FreeRule, Base as BaseRule, Size as SizeRule, Link as LinkRule, Unlink as UnlinkRule, Roots as RootsRule, Begin as BeginRule, BeginPartial as BeginPartialRule, SmallStep, Forgotten, NoBases, Sweep as SweepRule, Number as NumberRule}

-- a request that was granted at a place, by where objects may lie, and one that wasn't granted
abbrev pub given_rule : Places → Rule
given_rule Classes = GivenPlace
given_rule (Any from) = GivenObject

abbrev pub refusal_rule : Places → Rule
refusal_rule Classes = Refusal
refusal_rule (Any from) = RefusalAnywhere

-- a granted request, with its place or without
abbrev pub place_rule : Places → Hint → Rule
place_rule places Nothing = NoPlace
place_rule places (Place base) = given_rule places
place_rule places (Forgot bases) = NoPlace

-- a request, granted or not
abbrev pub alloc_rule : Places → Reply → Hint → Rule
alloc_rule places (Slot slot) hint = refusal_rule places
alloc_rule places Done hint = place_rule places hint
alloc_rule places (Word w) hint = refusal_rule places
alloc_rule places (Count n) hint = refusal_rule places
alloc_rule places (Refused refusal) hint = refusal_rule places

-- the call of a mutator
abbrev pub call_rule : Places → Call → Reply → Hint → Rule
call_rule places Detach reply hint = RootsRule
call_rule places (Set r w) reply hint = RootsRule
call_rule places (Copy d a) reply hint = RootsRule
call_rule places (Add d a n) reply hint = RootsRule
call_rule places (Sub d a b) reply hint = RootsRule
call_rule places (Get r) reply hint = RootsRule
call_rule places (Push r) reply hint = RootsRule
call_rule places (Pop d) reply hint = RootsRule
call_rule places (Load d a n) reply hint = LoadRule
call_rule places (Store a n r) reply hint = StoreRule
call_rule places (Alloc d n kind) reply hint = alloc_rule places reply hint
call_rule places (Free r) reply hint = FreeRule
call_rule places (Base d a) reply hint = BaseRule
call_rule places (Size r) reply hint = SizeRule
call_rule places (GlobalGet d g) reply hint = RootsRule
call_rule places (GlobalPut g r) reply hint = RootsRule
call_rule places (Link a n r) reply hint = LinkRule
call_rule places (Unlink a n) reply hint = UnlinkRule

-- the end of a cycle, with what it forgot or without
abbrev pub finish_rule : Hint → Rule
finish_rule Nothing = NoBases
finish_rule (Place base) = NoBases
finish_rule (Forgot bases) = Forgotten

-- any line
abbrev pub rule_of : Places → Event → Reply → Hint → Rule
rule_of places Attach reply hint = AttachRule
rule_of places (Mutator slot call) reply hint = call_rule places call reply hint
rule_of places Begin reply hint = BeginRule
rule_of places BeginPartial reply hint = BeginPartialRule
rule_of places Roots reply hint = SmallStep
rule_of places (Mark n) reply hint = SmallStep
rule_of places Retrace reply hint = SmallStep
rule_of places Finish reply hint = finish_rule hint
rule_of places Sweep reply hint = SweepRule
rule_of places Collect reply hint = Forgotten
rule_of places Number reply hint = NumberRule
