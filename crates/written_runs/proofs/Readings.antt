-- A line has one reading.
use Rattle.std.proofs.Common.{◌≡◌, ℕ, List, [], ◌∷◌, ◌++◌, Bor, refl, sym, ap, ◌∙◌, subst, arith}
use Rattle.std.specs.Prelude.{All, codes}
use Rattle.std.proofs.lemmas.List.{append_cancel_left}
use Rattle.std.proofs.lemmas.List.Elements.{All-nil, All-cons}
use Rattle.heap_spec.specs.declared.call.Call.{Call}
use Rattle.heap_spec.specs.declared.call.Call.TheVariants.{Alloc}
use Rattle.heap_spec.specs.declared.event.Event.{Event}
use Rattle.heap_spec.specs.declared.event.Event.TheVariants.{Mutator}
use Rattle.heap_spec.specs.declared.reply.Reply.{Reply}
use Rattle.heap_spec.specs.declared.reply.Reply.TheVariants.{Slot, Done, Word, Count, Refused}
use Rattle.replayer.specs.declared.hint.Hint.{Hint}
use Rattle.replayer.specs.declared.hint.Hint.TheVariants.{Nothing, Place, Forgot}
use Rattle.replayer.specs.Laws.{SayTheSame}
use Rattle.scripts.specs.Grammar.{IsLineOf}
use Rattle.heap_spec.specs.Ranges.{IsWord}
use Rattle.written_runs.specs.declared.places.Places.{Places}
use Rattle.written_runs.specs.Cuts.{IsEmptyOrFrom}
use Rattle.written_runs.specs.Laws.{AreOneReading, AreOneSizedReading}
use Rattle.written_runs.specs.Reading.{IsReplyAt}
use Rattle.written_runs.specs.Rules.{alloc_rule, call_rule, rule_of}
use Rattle.written_runs.specs.Written.{answer_of, bases_text, sized_text, IsLineWith, IsSize, IsWritten, IsWrittenSized, NamesWords}
use Rattle.written_runs.proofs.Cutting.{second}
use Rattle.written_runs.proofs.Parting.{same_parts}
use Rattle.written_runs.proofs.Rests.{same_rest}
use Rattle.written_runs.proofs.Unwritten.{parts_of, answer_at, hint_from, sized_from}
use Rattle.written_runs.proofs.Events.{one_event}
use Rattle.written_runs.proofs.SameReplies.{one_reply, one_hint, one_bases}

-- Two readings of one line, by what stands behind their replies.
record AreReadAlike (event event' : Event) (reply reply' : Reply) (behind behind' : List ℕ) : Type 0 where
  events : event ≡ event'
  replies : reply ≡ reply'
  behinds : behind ≡ behind'

read_alike : (line : List ℕ) (event event' : Event) (reply reply' : Reply) (behind behind' : List ℕ) → IsEmptyOrFrom 32 behind → IsEmptyOrFrom 32 behind'
    → IsLineWith line event reply behind → IsLineWith line event' reply' behind' → AreReadAlike event event' reply reply' behind behind'
read_alike line event event' reply reply' behind behind' from from' w w' =
    let parted = parts_of line event reply behind w in
    let same = same_parts line _ _ _ _ parted (parts_of line event' reply' behind' w') in
    let same_events = one_event w.command event event' w.is_command (subst (λ t. IsLineOf t event') (sym same.front) w'.is_command) in
    let at = answer_at line _ _ parted event reply behind from w in
    let at' = answer_at line _ _ parted event' reply' behind' from' w' in
    record {
      events = same_events;
      replies = one_reply _ event reply reply' _ _ at (subst (λ e. IsReplyAt e (answer_of reply ++ behind) reply' behind') (sym same_events) at');
      behinds = same_rest _ event event' reply reply' _ _ at at';
    }

pub one_reading : (line : List ℕ) (event event' : Event) (reply reply' : Reply) (hint hint' : Hint)
    → IsWritten line event reply hint → IsWritten line event' reply' hint' → AreOneReading event event' reply reply' hint hint'
one_reading line event event' reply reply' hint hint' w w' =
    let alike = read_alike line event event' reply reply' _ _ (hint_from hint) (hint_from hint') w.parts w'.parts in
    record { events = alike.events; replies = alike.replies; hints = one_hint hint hint' w.words w'.words alike.behinds }

-- hints that are written alike with numbers of words say the same, and so do these
record AreSizedAlike (hint hint' : Hint) (n n' : ℕ) : Type 0 where
  hints : SayTheSame hint hint'
  sizes : n ≡ n'

two_words : (a n : ℕ) → IsWord a → IsWord n → All IsWord (a ∷ n ∷ [])
two_words a n x y = All-cons IsWord a (n ∷ []) x (All-cons IsWord n [] y (All-nil IsWord))

one_sized_hint : (hint hint' : Hint) (n n' : ℕ) → NamesWords hint → NamesWords hint' → IsSize hint n → IsSize hint' n' → sized_text hint n ≡ sized_text hint' n' → AreSizedAlike hint hint' n n'
one_sized_hint Nothing Nothing n n' x y k k' e = record { hints = tt; sizes = k ∙ sym k' }
one_sized_hint Nothing (Place b) n n' x y k k' e = let f : ⊥ = cc in absurd f
one_sized_hint Nothing (Forgot b) n n' x y k k' e = let f : ⊥ = cc in absurd f
one_sized_hint (Place a) Nothing n n' x y k k' e = let f : ⊥ = cc in absurd f
one_sized_hint (Forgot a) Nothing n n' x y k k' e = let f : ⊥ = cc in absurd f
one_sized_hint (Place a) (Place b) n n' x y k k' e =
    let both = one_bases (a ∷ n ∷ []) (b ∷ n' ∷ []) (two_words a n x k) (two_words b n' y k') (append_cancel_left (codes " @") (bases_text (a ∷ n ∷ [])) (bases_text (b ∷ n' ∷ [])) e) in
    let first : a ≡ b = cc in
    let size : n ≡ n' = cc in
    record { hints = first; sizes = size }
one_sized_hint (Place a) (Forgot b) n n' x y k k' e = let h : 64 ≡ 45 = ap second e in absurd (omega (arith, h))
one_sized_hint (Forgot a) (Place b) n n' x y k k' e = let h : 45 ≡ 64 = ap second e in absurd (omega (arith, h))
one_sized_hint (Forgot a) (Forgot b) n n' x y k k' e = record { hints = one_bases a.now b.now x y (append_cancel_left (codes " -") (bases_text a.now) (bases_text b.now) e); sizes = k ∙ sym k' }

pub one_sized_reading : (line : List ℕ) (event event' : Event) (reply reply' : Reply) (hint hint' : Hint) (n n' : ℕ)
    → IsWrittenSized line event reply hint n → IsWrittenSized line event' reply' hint' n' → AreOneSizedReading event event' reply reply' hint hint' n n'
one_sized_reading line event event' reply reply' hint hint' n n' w w' =
    let alike = read_alike line event event' reply reply' _ _ (sized_from hint n) (sized_from hint' n') w.parts w'.parts in
    let said = one_sized_hint hint hint' n n' w.words w'.words w.size w'.size alike.behinds in
    record { reading = record { events = alike.events; replies = alike.replies; hints = said.hints }; sizes = said.sizes }

-- Lines of one reading break one rule.
module _ (places : Places) (a b : Bor (List ℕ)) where
  alloc_alike : (reply : Reply) → alloc_rule places reply (Forgot a) ≡ alloc_rule places reply (Forgot b)
  alloc_alike (Slot slot) = refl
  alloc_alike Done = refl
  alloc_alike (Word w) = refl
  alloc_alike (Count n) = refl
  alloc_alike (Refused refusal) = refl

  call_alike : (call : Call) (reply : Reply) → call_rule places call reply (Forgot a) ≡ call_rule places call reply (Forgot b)
  call_alike (Alloc d n kind) reply = alloc_alike reply
  call_alike _ reply = refl

  forgot_alike : (event : Event) (reply : Reply) → rule_of places event reply (Forgot a) ≡ rule_of places event reply (Forgot b)
  forgot_alike (Mutator slot call) reply = call_alike call reply
  forgot_alike _ reply = refl

pub one_rule : (places : Places) (event : Event) (reply : Reply) (hint hint' : Hint) → SayTheSame hint hint' → rule_of places event reply hint ≡ rule_of places event reply hint'
one_rule places event reply Nothing Nothing e = refl
one_rule places event reply (Place a) (Place b) e = ap (λ x. rule_of places event reply (Place x)) e
one_rule places event reply (Forgot a) (Forgot b) e = forgot_alike places a b event reply
one_rule places event reply Nothing (Place b) e = absurd e
one_rule places event reply Nothing (Forgot b) e = absurd e
one_rule places event reply (Place a) Nothing e = absurd e
one_rule places event reply (Place a) (Forgot b) e = absurd e
one_rule places event reply (Forgot a) Nothing e = absurd e
one_rule places event reply (Forgot a) (Place b) e = absurd e
