-- An entry to which a checker says no has no line.
use Rattle.std.proofs.Common.{◌≡◌, ℕ, List, sym, ◌∙◌, subst}
use Rattle.std.specs.Borrow.{Bor}
use Rattle.heap_spec.specs.Cycles.{TakesOut}
use Rattle.heap_spec.specs.Runs.{Start, Run, heap_after}
use Rattle.heap_spec.specs.declared.event.Event.{Event}
use Rattle.heap_spec.specs.declared.reply.Reply.{Reply}
use Rattle.heap_spec.specs.declared.reply.Reply.TheVariants.{Count}
use Rattle.replayer.specs.declared.hint.Hint.{Hint}
use Rattle.replayer.specs.declared.hint.Hint.TheVariants as hints
use Rattle.replayer.specs.ReplayerContents.{ReplayerContents}
use Rattle.replayer.specs.Replays.{IsReplay, IsNoReplay}
use Rattle.shared.specs.declared.journal.Entry.{Entry}
use Rattle.shared.specs.declared.journal.Note.{Note}
use Rattle.shared.specs.declared.journal.Note.TheVariants.{Nothing, Place, Gone}
use Rattle.thread_records.specs.Records.{TellsNote, WritesNone}

module _ (start : Start) (run : Run) (event : Event) (reply : Reply) (next : Run) where
  -- a hint that names bases may name them by any slice that has them
  same_bases : (bases bases' : Bor (List ℕ)) → bases'.now ≡ bases.now → IsReplay (hints.Forgot bases') start run event reply next → IsReplay (hints.Forgot bases) start run event reply next
  same_bases bases bases' same r =
      let moved : (n : ℕ) → TakesOut (heap_after start run) bases'.now (Count n) (heap_after start next) → TakesOut (heap_after start run) bases.now (Count n) (heap_after start next) = λ n takes. subst (λ l. TakesOut (heap_after start run) l (Count n) (heap_after start next)) same takes in
      record { line = r.line; place = r.place; finished = λ n e e'. moved n (r.finished n e e'); collected = λ n e e'. moved n (r.collected n e e'); births = r.births }

  -- two hints that tell one note replay alike
  same_note : (note : Note) (hint hint' : Hint) → TellsNote note hint → TellsNote note hint' → IsReplay hint' start run event reply next → IsReplay hint start run event reply next
  same_note Nothing hint hint' told told' r = subst (λ h. IsReplay h start run event reply next) (told' ∙ sym told) r
  same_note (Place base) hint hint' told told' r = subst (λ h. IsReplay h start run event reply next) (told' ∙ sym told) r
  same_note (Gone bases) hint hint' told told' r =
      let from : IsReplay (hints.Forgot told'.0) start run event reply next = subst (λ h. IsReplay h start run event reply next) told'.1 r in
      subst (λ h. IsReplay h start run event reply next) (sym told.1) (same_bases told.0 told'.0 (told'.2 ∙ sym told.2) from)

-- no line leads on
pub no_line : (old : ReplayerContents) (entry : Entry) (hint : Hint) → TellsNote entry.note hint → IsNoReplay old entry.call entry.reply hint → WritesNone old entry
no_line old entry hint noted refuses start run follows line next l =
    refuses start run next follows (same_note start run entry.call entry.reply next entry.note hint l.hint noted l.noted l.replay)
