-- What a tracer says of a line.
use Rattle.std.specs.Prelude.{◌≡◌, ℕ, ◌*◌, Option, Some, None, List, [], map}
use Rattle.std.specs.List.{range_with_len}
use Rattle.std.specs.Borrow.{Bor}
use Rattle.words.specs.declared.limits.TheConstants.{FIRST_ADDRESS, PAGE_WORDS}
use Rattle.heap_spec.specs.declared.event.Event.{Event}
use Rattle.heap_spec.specs.declared.reply.Reply.{Reply}
use Rattle.heap_spec.specs.Runs.{opening_start}
use Rattle.heap_core.specs.CoreContents.{CoreContents}
use Rattle.links.specs.declared.row.Link.{Link}
use Rattle.roots.specs.Roots.{RootSet}
use Rattle.plain_heap.specs.PlainContents.{PlainContents}
use Rattle.pages.specs.Memory.{word_index}
use Rattle.replayer.specs.declared.hint.Hint.{Hint}
use Rattle.replayer.specs.ReplayerContents.{ReplayerContents, Follows}
use Rattle.replayer.specs.Replays.{IsReplayed, IsNoReplay}
use Rattle.trace_lines.specs.declared.record.ObjectChanges.{ObjectChanges}
use Rattle.trace_lines.specs.declared.record.SetChanges.{SetChanges}
use Rattle.trace_lines.specs.declared.record.WordChanges.{WordChanges}
use Rattle.trace_lines.specs.declared.record.CycleChanges.{CycleChanges}
use Rattle.trace_lines.specs.declared.record.StackChange.{StackChange}
use Rattle.trace_lines.specs.declared.record.Record.{Record}
use Rattle.tracing.specs.declared.truth.Truth.{Truth}
use Rattle.tracing.specs.declared.knowledge.Knowledge.{Knowledge}
use Rattle.tracing.specs.declared.leaving.Leaving.{Leaving}
use Rattle.tracing.specs.Sets.{SaysChange, bases_of, listed, objects_without}
use Rattle.tracing.specs.declared.roots_changed.PutWords.{PutWords}
use Rattle.tracing.specs.Links.{link_changes, links_gone}
use Rattle.tracing.specs.HeapWords.{words_told, written_to}
use Rattle.tracing.specs.RootWords.{words_put, changed_global, changed_register, global_of, register_of}
use Rattle.tracing.specs.Stacks.{SaysStack, stack_step}
use Rattle.tracing.specs.Looked.{looked_by, reads_of}
use Rattle.tracing.specs.Entries.{SaysEntries, SaysCurrent}
use Rattle.tracing.specs.Values.{SaysValue}
use Rattle.tracing.specs.declared.seen.Seen.{Seen}
use Rattle.tracing.specs.Seen.{IsBlank, IsSeen}
use Rattle.tracing.specs.Leaving.{IsParted}
use Rattle.tracing.specs.Comings.{attached_slot, detached_slot, born}

-- Which mutators and objects come and go.
pub record SaysObjects (event : Event) (reply : Reply) (old new : Truth) (l : Leaving) (births : ℕ) (r : ObjectChanges) : Type 0 where
  pub attached : r.attached.items ≡ listed (attached_slot reply)
  pub detached : r.detached.items ≡ listed (detached_slot event reply)
  pub forgotten : r.forgotten.items ≡ map word_index l.forgotten.items
  pub freed : r.freed.items ≡ map word_index l.freed.items
  pub born : r.born.items ≡ born births old.objects.items new.objects.items

-- How sets change: what is said is how what was asked before became what was asked after the line.
pub record SaysSets (old new : Truth) (known now : Knowledge) (r : SetChanges) : Type 0 where
  pub marked : SaysChange known.marked.items now.marked.items r.marked
  pub reached : SaysChange old.reached.items new.reached.items r.reached
  pub touched : SaysChange old.touched.items new.touched.items r.touched
  pub dirty : SaysChange known.dirty.items now.dirty.items r.dirty
  pub carried : SaysChange known.carried.items now.carried.items r.carried
  pub pending : SaysChange known.pending.items now.pending.items r.pending

-- The top of the stack that changed is said, if one did.
pub record SaysStacks (roots : RootSet) (event : Event) (reply : Reply) (said : List StackChange) : Type 0 where
  pub top : Option StackChange
  pub says : SaysStack roots (stack_step event reply) top
  pub one : said ≡ listed top

-- Which words change, and how links do.
pub record SaysWords (c : PlainContents) (event : Event) (reply : Reply) (old : PutWords) (before now : List Link) (r : WordChanges) : Type 0 where
  pub wrote : r.wrote.items ≡ words_told c (written_to c.roots event reply (links_gone before now))
  pub registers : r.registers.items ≡ listed (changed_register old.register (register_of c.roots event))
  pub globals : r.globals.items ≡ listed (changed_global old.global (global_of c.roots event))
  pub stacks : SaysStacks c.roots event reply r.stacks.items
  pub links : r.links.items ≡ link_changes before now

-- How far the collector is, and what the line looked at.
pub record SaysCycle (core : Option (Bor CoreContents)) (roots : RootSet) (event : Event) (reply : Reply) (old new : Seen) (r : CycleChanges) : Type 0 where
  pub entries : SaysEntries old.knowledge.entries.items new.knowledge.entries.items r.entries
  pub current : SaysCurrent old.knowledge.current new.knowledge.current r.current
  pub marking : SaysValue old.truth.is_marking new.truth.is_marking r.is_marking
  pub count : SaysValue old.truth.count new.truth.count r.count
  pub read : r.read ≡ reads_of roots event reply
  pub looked : r.looked.items ≡ looked_by core event reply old.knowledge new.knowledge

-- What is said of an event after which the core, if there is one, and the checker are these: how what was seen before became what is
-- seen now.
pub record SaysLine (core : Option (Bor CoreContents)) (event : Event) (reply : Reply) (c : ReplayerContents) (put : PutWords) (old new : Seen) (l : Leaving) (r : Record) : Type 0 where
  pub objects : SaysObjects event reply old.truth new.truth l c.births r.objects
  pub sets : SaysSets old.truth new.truth old.knowledge new.knowledge r.sets
  pub words : SaysWords c.heap event reply put old.truth.links.items new.truth.links.items r.words
  pub cycle : SaysCycle core c.heap.roots event reply old new r.cycle

-- A tracer: the checker, how many flags of words there is room for, the numbers of the pages, what was seen after the
-- last line, and the bases of the cells that wait to be swept.
pub record TracerContents : Type 0 where
  pub replayer : ReplayerContents
  pub room : ℕ
  pub pages : List ℕ
  pub seen : Seen
  pub waiting : List ℕ

-- A tracer of a new heap: its checker follows the empty run of a heap of so many pages, which begins where size classes place
-- objects, there is a flag for each word, and nothing was seen yet.
pub record IsNewTracer (n : ℕ) (t : TracerContents) : Type 0 where
  pub replayer : Follows t.replayer (opening_start n) []
  pub begins : t.replayer.heap.origin ≡ FIRST_ADDRESS
  pub room : t.room ≡ PAGE_WORDS * n
  pub pages : t.pages ≡ range_with_len 0 n
  pub seen : IsBlank t.seen
  pub waiting : t.waiting ≡ []

-- The checker has gone on by the event. What is seen now is what the checker and the core have, and what is said is how
-- what was seen before became that.
pub record IsTold (old : TracerContents) (core : Option (Bor CoreContents)) (event : Event) (reply : Reply) (hint : Hint) (r : Record) (new : TracerContents) : Type 0 where
  pub replayed : IsReplayed old.replayer event reply hint new.replayer
  pub begins : new.replayer.heap.origin ≡ FIRST_ADDRESS
  pub seen : IsSeen core new.replayer old.room old.pages new.seen
  pub leaving : Leaving
  pub parted : IsParted core event old.waiting (bases_of (objects_without old.seen.truth.objects.items new.seen.truth.objects.items)) leaving
  pub says : SaysLine core event reply new.replayer (words_put old.replayer.heap.roots event) old.seen new.seen leaving r
  pub waiting : new.waiting ≡ leaving.waiting.items
  pub room : new.room ≡ old.room
  pub pages : new.pages ≡ old.pages

-- what a tracer tells of a line; nothing, where no legal run goes on so, and then it stays as it was
abbrev pub Tells : TracerContents → Option (Bor CoreContents) → Event → Reply → Hint → Option Record → TracerContents → Type 0
Tells old core event reply hint None new = IsNoReplay old.replayer event reply hint × (new ≡ old)
Tells old core event reply hint (Some r) new = IsTold old core event reply hint r new
