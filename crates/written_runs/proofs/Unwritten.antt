-- Lines that are written of nothing.
use Rattle.std.proofs.Common.{◌≡◌, ℕ, ◌<◌, List, ◌++◌, length, refl, sym, ap, ◌∙◌, subst, arith}
use Rattle.std.specs.Prelude.{codes}
use Rattle.heap_spec.specs.declared.event.Event.{Event}
use Rattle.heap_spec.specs.declared.reply.Reply.{Reply}
use Rattle.replayer.specs.declared.hint.Hint.{Hint}
use Rattle.replayer.specs.declared.hint.Hint.TheVariants.{Nothing, Place, Forgot}
use Rattle.scripts.specs.declared.limits.TheConstants.{LINE_BYTES}
use Rattle.scripts.specs.Grammar.{IsLineOf, IsBad}
use Rattle.written_runs.specs.declared.behind.Behind.{Behind}
use Rattle.written_runs.specs.declared.line.Line.{Line}
use Rattle.written_runs.specs.declared.places.Places.{Places}
use Rattle.written_runs.specs.declared.places.Places.TheVariants.{Classes, Any}
use Rattle.written_runs.specs.declared.step.Step.{Step}
use Rattle.std.specs.Borrow.{Bor}
use Rattle.written_runs.specs.Cuts.{IsEmptyOrFrom}
use Rattle.written_runs.specs.Written.{answer_of, hint_text, sized_text, IsLineWith}
use Rattle.written_runs.specs.Reading.{IsParted, IsReplyAt, IsBehind, IsHintText, IsRead, told_text}
use Rattle.written_runs.specs.Steps.{IsStepLine, IsUnwritten}
use Rattle.written_runs.proofs.Parting.{same_parts}
use Rattle.written_runs.proofs.Rests.{same_rest}
use Rattle.written_runs.proofs.Commands.{line_lacks}

pub hint_from : (hint : Hint) → IsEmptyOrFrom 32 (hint_text hint)
hint_from Nothing = tt
hint_from (Place base) = refl
hint_from (Forgot bases) = refl

pub sized_from : (hint : Hint) (n : ℕ) → IsEmptyOrFrom 32 (sized_text hint n)
sized_from Nothing n = tt
sized_from (Place base) n = refl
sized_from (Forgot bases) n = refl

told_from : (places : Places) (hint : Hint) (n : ℕ) → IsEmptyOrFrom 32 (told_text places hint n)
told_from Classes hint n = hint_from hint
told_from (Any from) hint n = sized_from hint n

-- the parts of a line that is written of a step
step_with : (places : Places) (line : List ℕ) (step : Step) → IsStepLine places line step → IsLineWith line step.event step.reply (told_text places step.hint step.words)
step_with Classes line step w = w.parts
step_with (Any from) line step w = w.parts

step_hint : (places : Places) (line rest : List ℕ) (step : Step) → IsStepLine places line step → rest ≡ told_text places step.hint step.words → IsHintText places rest step.hint step.words
step_hint Classes line rest step w e = record { whole = e; words = w.words; size = tt }
step_hint (Any from) line rest step w e = record { whole = e; words = w.words; size = w.size }

pub parts_of : (line : List ℕ) (event : Event) (reply : Reply) (behind : List ℕ) (w : IsLineWith line event reply behind) → IsParted line w.command (answer_of reply ++ behind)
parts_of line event reply behind w = record { whole = w.is_line; lacks = line_lacks w.command event w.is_command }

-- what stands behind ` => ` begins with the reply
pub answer_at : (line text answer : List ℕ) → IsParted line text answer → (event : Event) (reply : Reply) (behind : List ℕ) → IsEmptyOrFrom 32 behind → IsLineWith line event reply behind → IsReplyAt event answer reply behind
answer_at line text answer parted event reply behind from w =
    let same = same_parts line text answer _ _ parted (parts_of line event reply behind w) in
    record { whole = same.rest; answers = w.answers; from = from }

module _ (places : Places) (line : List ℕ) where
  -- it has no ` => ` behind a command
  pub not_parted : ((text answer : List ℕ) → IsParted line text answer → ⊥) → IsUnwritten places line
  not_parted none step w =
      let parts = step_with places line step w in
      none parts.command (answer_of step.reply ++ told_text places step.hint step.words) (parts_of line step.event step.reply (told_text places step.hint step.words) parts)

  -- what stands before it is no command
  pub no_command : (text answer : List ℕ) → IsParted line text answer → IsBad text → IsUnwritten places line
  no_command text answer parted bad step w =
      let parts = step_with places line step w in
      let same = same_parts line text answer _ _ parted (parts_of line step.event step.reply (told_text places step.hint step.words) parts) in
      bad step.event (subst (λ t. IsLineOf t step.event) (sym same.front) parts.is_command)

  pub too_long : (text answer : List ℕ) → IsParted line text answer → LINE_BYTES < length text → IsUnwritten places line
  too_long text answer parted long = no_command text answer parted (λ event is. let h = is.short in absurd (omega arith))

  -- the reply of a step, as it is read
  step_answer : (text answer : List ℕ) → IsParted line text answer → (step : Step) → IsStepLine places line step → IsReplyAt step.event answer step.reply (told_text places step.hint step.words)
  step_answer text answer parted step w =
      answer_at line text answer parted step.event step.reply (told_text places step.hint step.words) (told_from places step.hint step.words) (step_with places line step w)

  -- what stands behind it begins with no reply
  pub no_answer : (text answer : List ℕ) → IsParted line text answer → ((event : Event) (reply : Reply) (rest : List ℕ) → IsReplyAt event answer reply rest → ⊥) → IsUnwritten places line
  no_answer text answer parted none step w = none step.event step.reply (told_text places step.hint step.words) (step_answer text answer parted step w)

  -- what stands behind the reply is no hint
  pub no_hint : (text answer rest : List ℕ) (event : Event) (reply : Reply) → IsParted line text answer → IsReplyAt event answer reply rest → ((hint : Hint) (n : ℕ) → IsHintText places rest hint n → ⊥) → IsUnwritten places line
  no_hint text answer rest event reply parted at none step w =
      none step.hint step.words (step_hint places line rest step w
      (same_rest answer event step.event reply step.reply rest (told_text places step.hint step.words) at (step_answer text answer parted step w)))

  -- the line that was read
  pub line_read : (text : Bor (List ℕ)) (answer rest : List ℕ) (event : Event) (reply : Reply) (behind : Behind) → IsParted line text.now answer → IsLineOf text.now event → IsReplyAt event answer reply rest → IsBehind places rest behind
      → IsRead places line (record { command = text; event = event; reply = reply; behind = behind })
  line_read text answer rest event reply behind parted is at of = record {
    text = rest;
    names = refl;
    parts = record { command = text.now; is_command = is; is_line = parted.whole ∙ ap (λ a. text.now ++ (codes " => " ++ a)) at.whole; answers = at.answers };
    behind = of;
  }

-- the step that a line was read as
pub read_step : (places : Places) (line : List ℕ) (l : Line) (hint : Hint) (n : ℕ) → ((text : List ℕ) → IsBehind places text l.behind → IsHintText places text hint n) → IsRead places line l
    → IsStepLine places line (record { event = l.event; reply = l.reply; hint = hint; words = n })
read_step Classes line l hint n of read = let told = of read.text read.behind in record { parts = subst (IsLineWith line l.event l.reply) told.whole read.parts; words = told.words }
read_step (Any from) line l hint n of read = let told = of read.text read.behind in record { parts = subst (IsLineWith line l.event l.reply) told.whole read.parts; words = told.words; size = told.size }
