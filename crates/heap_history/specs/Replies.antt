-- Which calls are answered by what.
use Rattle.heap_spec.specs.declared.call.Call.{Call}
use Rattle.heap_spec.specs.declared.call.Call.TheVariants.{Detach, Set, Copy, Add, Sub, Get, Push, Pop, Load, Store, Alloc, Free, Base, Size, GlobalGet, GlobalPut, Link, Unlink}
use Rattle.heap_spec.specs.declared.reply.Reply.{Reply}
use Rattle.heap_spec.specs.declared.reply.Reply.TheVariants.{Slot, Done, Word, Count, Refused}

-- the reply is that the call is done, or it refuses
abbrev pub IsDoneReply : Reply → Type 0
IsDoneReply (Slot k) = ⊥
IsDoneReply Done = Unit {0}
IsDoneReply (Word w) = ⊥
IsDoneReply (Count n) = ⊥
IsDoneReply (Refused why) = Unit {0}

-- the reply is a word, or it refuses
abbrev pub IsWordReply : Reply → Type 0
IsWordReply (Slot k) = ⊥
IsWordReply Done = ⊥
IsWordReply (Word w) = Unit {0}
IsWordReply (Count n) = ⊥
IsWordReply (Refused why) = Unit {0}

-- the reply is a number of things, or it refuses
abbrev pub IsCountReply : Reply → Type 0
IsCountReply (Slot k) = ⊥
IsCountReply Done = ⊥
IsCountReply (Word w) = ⊥
IsCountReply (Count n) = Unit {0}
IsCountReply (Refused why) = Unit {0}

-- the call is answered by such a reply
abbrev pub IsReplyKind : Call → Reply → Type 0
IsReplyKind Detach = IsDoneReply
IsReplyKind (Set r w) = IsDoneReply
IsReplyKind (Copy d a) = IsDoneReply
IsReplyKind (Add d a n) = IsDoneReply
IsReplyKind (Sub d a b) = IsDoneReply
IsReplyKind (Get r) = IsWordReply
IsReplyKind (Push r) = IsDoneReply
IsReplyKind (Pop d) = IsWordReply
IsReplyKind (Load d a n) = IsWordReply
IsReplyKind (Store a n r) = IsDoneReply
IsReplyKind (Alloc d n kind) = IsDoneReply
IsReplyKind (Free r) = IsDoneReply
IsReplyKind (Base d a) = IsWordReply
IsReplyKind (Size r) = IsCountReply
IsReplyKind (GlobalGet d g) = IsWordReply
IsReplyKind (GlobalPut g r) = IsDoneReply
IsReplyKind (Link a n r) = IsDoneReply
IsReplyKind (Unlink a n) = IsCountReply
