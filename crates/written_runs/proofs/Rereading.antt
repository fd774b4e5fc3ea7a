-- A line that is read twice replays alike.
use Rattle.std.proofs.Common.{◌≡◌, ℕ, ◌<◌, List, refl, sym, ap, ◌∙◌, subst}
use Rattle.heap_spec.specs.declared.event.Event.{Event}
use Rattle.heap_spec.specs.declared.reply.Reply.{Reply}
use Rattle.heap_spec.specs.declared.reply.Reply.TheVariants.{Count}
use Rattle.heap_spec.specs.Heap.{Heap}
use Rattle.heap_spec.specs.Cycles.{TakesOut}
use Rattle.heap_spec.specs.Runs.{Start, Run, heap_after}
use Rattle.heap_spec.specs.Sound.{IsSound}
use Rattle.heap_spec.specs.Touching.{HasApartObjects}
use Rattle.plain_heap.specs.Answering.{IsBornAt, IsBornOf}
use Rattle.replayer.specs.Anywhere.{IsReplayAnywhere, NamesObject}
use Rattle.replayer.specs.declared.hint.Hint.{Hint}
use Rattle.replayer.specs.declared.hint.Hint.TheVariants.{Nothing, Place, Forgot}
use Rattle.replayer.specs.Laws.{SayTheSame}
use Rattle.replayer.specs.Replays.{NamesPlace, NamesBases, MayNameBases, IsReplay}
use Rattle.replayer.proofs.Apart.{one_next_anywhere}
use Rattle.replayer.proofs.Nexts.{one_next}
use Rattle.written_runs.specs.declared.places.Places.{Places}
use Rattle.written_runs.specs.declared.places.Places.TheVariants.{Classes, Any}
use Rattle.written_runs.specs.declared.step.Step.{Step}
use Rattle.written_runs.specs.Laws.{AreOneReading}
use Rattle.written_runs.specs.Rules.{rule_of}
use Rattle.written_runs.specs.Steps.{GoesBy, IsStepLine, TakesOn}
use Rattle.written_runs.proofs.Readings.{one_reading, one_sized_reading, one_rule}

-- what a reading of a line replays, its other reading does
pub reread : (start : Start) (run next : Run) (event event' : Event) (reply reply' : Reply) (hint : Hint) → event ≡ event' → reply ≡ reply' → IsReplay hint start run event' reply' next → IsReplay hint start run event reply next
reread start run next event event' reply reply' hint e r is = subst (λ x. IsReplay hint start run x reply next) (sym e) (subst (λ x. IsReplay hint start run event' x next) (sym r) is)

-- what says the same is told the same
pub back_alike : (hint hint' : Hint) → SayTheSame hint hint' → SayTheSame hint' hint
back_alike Nothing Nothing e = tt
back_alike (Place a) (Place b) e = sym e
back_alike (Forgot a) (Forgot b) e = sym e
back_alike Nothing (Place b) e = e
back_alike Nothing (Forgot b) e = e
back_alike (Place a) Nothing e = e
back_alike (Place a) (Forgot b) e = e
back_alike (Forgot a) Nothing e = e
back_alike (Forgot a) (Place b) e = e

place_alike : (a b : Hint) → SayTheSame a b → (s t : Heap) → NamesPlace a s t → NamesPlace b s t
place_alike (Place a) (Place b) e s t x = subst (λ z. IsBornAt s z t) e x
place_alike (Place a) Nothing e s t x = absurd e
place_alike (Place a) (Forgot b) e s t x = absurd e
place_alike Nothing b e s t x = absurd x
place_alike (Forgot a) b e s t x = absurd x

bases_alike : (a b : Hint) → SayTheSame a b → (n : ℕ) (s t : Heap) → NamesBases a n s t → NamesBases b n s t
bases_alike (Forgot a) (Forgot b) e n s t x = subst (λ z. TakesOut s z (Count n) t) e x
bases_alike (Forgot a) Nothing e n s t x = absurd e
bases_alike (Forgot a) (Place b) e n s t x = absurd e
bases_alike Nothing b e n s t x = absurd x
bases_alike (Place a) b e n s t x = absurd x

may_alike : (a b : Hint) → SayTheSame a b → (n : ℕ) (s t : Heap) → MayNameBases a n s t → MayNameBases b n s t
may_alike Nothing Nothing e n s t x = tt
may_alike (Forgot a) (Forgot b) e n s t x = subst (λ z. TakesOut s z (Count n) t) e x
may_alike (Forgot a) Nothing e n s t x = absurd e
may_alike (Forgot a) (Place b) e n s t x = absurd e
may_alike Nothing (Place b) e n s t x = absurd e
may_alike Nothing (Forgot b) e n s t x = absurd e
may_alike (Place a) b e n s t x = absurd x

pub replay_alike : (start : Start) (run next : Run) (event : Event) (reply : Reply) (a b : Hint) → SayTheSame a b → IsReplay a start run event reply next → IsReplay b start run event reply next
replay_alike start run next event reply a b e is = record {
  line = is.line;
  place = λ slot into words kind which done. place_alike a b e _ _ (is.place slot into words kind which done);
  finished = λ n which counts. bases_alike a b e n _ _ (is.finished n which counts);
  collected = λ n which counts. may_alike a b e n _ _ (is.collected n which counts);
  births = is.births;
}

-- the same where objects may lie anywhere
object_alike : (a b : Hint) → SayTheSame a b → (n : ℕ) (s t : Heap) → NamesObject a n s t → NamesObject b n s t
object_alike (Place a) (Place b) e n s t x = subst (λ z. IsBornOf s z n t) e x
object_alike (Place a) Nothing e n s t x = absurd e
object_alike (Place a) (Forgot b) e n s t x = absurd e
object_alike Nothing b e n s t x = absurd x
object_alike (Forgot a) b e n s t x = absurd x

anywhere_alike : (origin : ℕ) (start : Start) (run next : Run) (event : Event) (reply : Reply) (a b : Hint) (n : ℕ) → SayTheSame a b → IsReplayAnywhere origin a n start run event reply next → IsReplayAnywhere origin b n start run event reply next
anywhere_alike origin start run next event reply a b n e is = record {
  line = is.line;
  place = λ slot into words kind which done. object_alike a b e n _ _ (is.place slot into words kind which done);
  finished = λ k which counts. bases_alike a b e k _ _ (is.finished k which counts);
  collected = λ k which counts. may_alike a b e k _ _ (is.collected k which counts);
  births = is.births;
}

reread_anywhere : (origin : ℕ) (start : Start) (run next : Run) (event event' : Event) (reply reply' : Reply) (hint : Hint) (n n' : ℕ) → event ≡ event' → reply ≡ reply' → n ≡ n'
    → IsReplayAnywhere origin hint n' start run event' reply' next → IsReplayAnywhere origin hint n start run event reply next
reread_anywhere origin start run next event event' reply reply' hint n n' e r k is =
    subst (λ x. IsReplayAnywhere origin hint n start run x reply next) (sym e) (subst (λ x. IsReplayAnywhere origin hint n start run event' x next) (sym r) (subst (λ x. IsReplayAnywhere origin hint x start run event' reply' next) (sym k) is))

-- two steps of which one line is written are read alike, and go on alike
pub read_once : (places : Places) (line : List ℕ) (a b : Step) → IsStepLine places line a → IsStepLine places line b → AreOneReading a.event b.event a.reply b.reply a.hint b.hint
read_once Classes line a b w w' = one_reading line a.event b.event a.reply b.reply a.hint b.hint w w'
read_once (Any from) line a b w w' = (one_sized_reading line a.event b.event a.reply b.reply a.hint b.hint a.words b.words w w').reading

pub goes_alike : (places : Places) (line : List ℕ) (a b : Step) → IsStepLine places line a → IsStepLine places line b → (start : Start) (run next : Run) → GoesBy places start run b next → GoesBy places start run a next
goes_alike Classes line a b w w' start run next goes =
    let same = one_reading line a.event b.event a.reply b.reply a.hint b.hint w w' in
    replay_alike start run next a.event a.reply b.hint a.hint (back_alike a.hint b.hint same.hints) (reread start run next a.event b.event a.reply b.reply b.hint same.events same.replies goes)
goes_alike (Any from) line a b w w' start run next goes =
    let same = one_sized_reading line a.event b.event a.reply b.reply a.hint b.hint a.words b.words w w' in
    let said = same.reading in
    anywhere_alike from start run next a.event a.reply b.hint a.hint a.words (back_alike a.hint b.hint said.hints) (reread_anywhere from start run next a.event b.event a.reply b.reply b.hint a.words b.words said.events said.replies same.sizes goes)

pub rules_alike : (places : Places) (line : List ℕ) (a b : Step) → IsStepLine places line a → IsStepLine places line b → rule_of places a.event a.reply a.hint ≡ rule_of places b.event b.reply b.hint
rules_alike places line a b w w' =
    let same = read_once places line a b w w' in
    ap (λ e. rule_of places e a.reply a.hint) same.events ∙ ap (λ r. rule_of places b.event r a.hint) same.replies ∙ one_rule places b.event b.reply a.hint b.hint same.hints

-- what the heaps of a run are, by where its objects may lie
abbrev pub IsFit : Places → Heap → Type 0
IsFit Classes s = IsSound s
IsFit (Any from) s = (0 < from) × HasApartObjects s

says_itself : (hint : Hint) → SayTheSame hint hint
says_itself Nothing = tt
says_itself (Place base) = refl
says_itself (Forgot bases) = refl

-- Two runs after one are the same, and the heap after it is fit.
pub record AreOneFitNext (places : Places) (start : Start) (next next' : Run) : Type 0 where
  pub same : next ≡ next'
  pub fit : IsFit places (heap_after start next)

one_goes : (places : Places) (line : List ℕ) (step : Step) → IsStepLine places line step → (start : Start) (run : Run) → IsFit places (heap_after start run) → (next next' : Run)
    → GoesBy places start run step next → GoesBy places start run step next' → AreOneFitNext places start next next'
one_goes Classes line step w start run h next next' goes goes' =
    let one = one_next start run h step.event w.parts.is_command.in_range step.reply step.hint step.hint (says_itself step.hint) next next' goes goes' in record { same = one.same; fit = one.sound }
one_goes (Any from) line step w start run h next next' goes goes' =
    let one = one_next_anywhere from h.0 start run h.1 step.event step.reply step.hint step.hint step.words (says_itself step.hint) next next' goes goes' in record { same = one.same; fit = (h.0, one.apart) }

-- one line leads to one run
pub line_alike : (places : Places) (start : Start) (run : Run) → IsFit places (heap_after start run) → (line : List ℕ) (next next' : Run)
    → TakesOn places start run line next → TakesOn places start run line next' → AreOneFitNext places start next next'
line_alike places start run h line next next' t t' =
    one_goes places line t.step t.is_written start run h next next' t.goes (goes_alike places line t.step t'.step t.is_written t'.is_written start run next' t'.goes)
