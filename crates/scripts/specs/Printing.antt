-- How replies are printed.
use Rattle.std.specs.Prelude.{ℕ, nat_le, nat_lt, ◌&&◌, if◌then◌else◌, List, [], ◌∷◌, ◌++◌, codes, decimal, flat_map}
use Rattle.words.specs.declared.limits.TheConstants.{FIRST_ADDRESS}
use Rattle.words.specs.Refusals.{code_of, name_of}
use Rattle.heap_spec.specs.declared.reply.Reply.{Reply}
use Rattle.heap_spec.specs.declared.reply.Reply.TheVariants.{Slot, Done, Word, Count, Refused}
use Rattle.heap_spec.specs.Layout.{heap_end}
use Rattle.heap_spec.specs.Runs.{Told}
use Rattle.scripts.specs.Lines.{newline}

-- A reply as it is printed. Every word that is an address of the heap prints alike.
abbrev pub reply_text : ℕ → Reply → List ℕ
reply_text pages (Slot slot) = codes "mutator " ++ decimal slot
reply_text pages Done = codes "ok"
reply_text pages (Word w) = if nat_le FIRST_ADDRESS w && nat_lt w (heap_end pages) then codes "ptr" else decimal w
reply_text pages (Count n) = decimal n
reply_text pages (Refused refusal) = codes "refused " ++ decimal (code_of refusal) ++ codes " " ++ name_of refusal

-- the line of a reply, with its newline
abbrev pub reply_line : ℕ → Reply → List ℕ
reply_line pages reply = reply_text pages reply ++ newline ∷ []

-- the reply lines of commands with their replies
abbrev pub printed : ℕ → List Told → List ℕ
printed pages told = flat_map (λ t. reply_line pages t.reply) told
