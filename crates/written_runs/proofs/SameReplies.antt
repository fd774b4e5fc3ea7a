-- A text is that of one reply to an event, and of one hint.
use Rattle.std.proofs.Common.{◌≡◌, ℕ, ◌<◌, ◌^◌, List, [], ◌∷◌, cond, eqb, true≢false, refl, sym, ap, ◌∙◌, arith}
use Rattle.std.specs.Prelude.{All, codes, decimal}
use Rattle.std.proofs.lemmas.Fmt.{decimal_injective}
use Rattle.std.proofs.lemmas.List.{append_cancel_left}
use Rattle.std.proofs.lemmas.List.Elements.{All-head, All-tail}
use Rattle.words.specs.declared.refusal.Refusal.{Refusal}
use Rattle.words.specs.declared.refusal.Refusal.TheVariants.{NoSlot, Misaligned, NoObject, NotBase, BadSize, Full, StackFull, StackEmpty, WrongPhase, LinksFull, NotPointerFree, NeedsFull}
use Rattle.words.specs.Refusals.{code_of}
use Rattle.heap_spec.specs.declared.event.Event.{Event}
use Rattle.heap_spec.specs.declared.reply.Reply.{Reply}
use Rattle.heap_spec.specs.declared.reply.Reply.TheVariants.{Slot, Done, Word, Count, Refused}
use Rattle.heap_spec.specs.Ranges.{IsWord}
use Rattle.replayer.specs.declared.hint.Hint.{Hint}
use Rattle.replayer.specs.declared.hint.Hint.TheVariants.{Nothing, Place, Forgot}
use Rattle.replayer.specs.Laws.{SayTheSame}
use Rattle.written_runs.specs.Cuts.{IsEmptyOrFrom}
use Rattle.written_runs.specs.Written.{bases_text, hint_text, IsAnswer, NamesWords}
use Rattle.written_runs.specs.Reading.{IsReplyAt}
use Rattle.written_runs.proofs.Cutting.{IsSameCut, same_cut, second}
use Rattle.written_runs.proofs.Digits.{not_decimal, same_number, bases_from}
use Rattle.written_runs.proofs.Refusals.{code_at}
use Rattle.written_runs.proofs.Replies.{first_word, behind_word, reply_words, first_lacks, behind_from}
use Rattle.written_runs.proofs.Events.{same_text, apart}

-- a refusal is read back from its code
abbrev refusal_by : ℕ → Refusal
refusal_by code = cond (eqb code 1) NoSlot (cond (eqb code 2) Misaligned (cond (eqb code 3) NoObject (cond (eqb code 4) NotBase (cond (eqb code 5) BadSize
    (cond (eqb code 6) Full (cond (eqb code 7) StackFull (cond (eqb code 8) StackEmpty (cond (eqb code 9) WrongPhase (cond (eqb code 10) LinksFull (cond (eqb code 11) NotPointerFree NeedsFull))))))))))

refusal_back : (refusal : Refusal) → refusal_by (code_of refusal) ≡ refusal
refusal_back NoSlot = refl
refusal_back Misaligned = refl
refusal_back NoObject = refl
refusal_back NotBase = refl
refusal_back BadSize = refl
refusal_back Full = refl
refusal_back StackFull = refl
refusal_back StackEmpty = refl
refusal_back WrongPhase = refl
refusal_back LinksFull = refl
refusal_back NotPointerFree = refl
refusal_back NeedsFull = refl

-- the kind of a reply, from its first word
abbrev sort_of : List ℕ → ℕ
sort_of word = cond (same_text word (codes "mutator")) 1 (cond (same_text word (codes "ok")) 2 (cond (same_text word (codes "refused")) 3 0))

abbrev sort : Reply → ℕ
sort (Slot slot) = 1
sort Done = 2
sort (Word w) = 0
sort (Count n) = 0
sort (Refused refusal) = 3

number_sort : (n : ℕ) → n < 2 ^ 64 → sort_of (decimal n) ≡ 0
number_sort n small =
    ap (λ b. cond b 1 (cond (same_text (decimal n) (codes "ok")) 2 (cond (same_text (decimal n) (codes "refused")) 3 0))) (apart (decimal n) (codes "mutator") (not_decimal 109 n (codes "utator") (omega arith) small))
    ∙ ap (λ b. cond b 2 (cond (same_text (decimal n) (codes "refused")) 3 0)) (apart (decimal n) (codes "ok") (not_decimal 111 n (codes "k") (omega arith) small))
    ∙ ap (λ b. cond b 3 0) (apart (decimal n) (codes "refused") (not_decimal 114 n (codes "efused") (omega arith) small))

sort_is : (event : Event) (reply : Reply) → IsAnswer event reply → sort_of (first_word reply) ≡ sort reply
sort_is event (Slot slot) a = refl
sort_is event Done a = refl
sort_is event (Word w) a = number_sort w a.1
sort_is event (Count n) a = number_sort n a.1
sort_is event (Refused refusal) a = refl

-- replies to one event, with their first words and what stands behind these
module _ (event : Event) (r s : List ℕ) (from : IsEmptyOrFrom 32 r) (from' : IsEmptyOrFrom 32 s) where
  by_words : (reply reply' : Reply) → IsAnswer event reply → IsAnswer event reply' → IsSameCut (first_word reply) (behind_word reply r) (first_word reply') (behind_word reply' s) → sort reply ≡ sort reply' → reply ≡ reply'
  by_words (Slot a) (Slot b) x y c e =
      ap Slot (same_number _ a b r s (record { whole = refl; word = omega arith; from = from }) (record { whole = c.rest; word = omega arith; from = from' })).number
  by_words Done Done x y c e = refl
  by_words (Word a) (Word b) x y c e = ap Word (decimal_injective a b x.1 y.1 c.front)
  by_words (Word a) (Count b) x y c e = absurd (true≢false (sym x.0 ∙ y.0))
  by_words (Count a) (Word b) x y c e = absurd (true≢false (sym y.0 ∙ x.0))
  by_words (Count a) (Count b) x y c e = ap Count (decimal_injective a b x.1 y.1 c.front)
  by_words (Refused a) (Refused b) x y c e =
      let codes_are = (same_number _ _ _ _ _ (code_at _ a r (record { whole = refl; from = from })) (code_at _ b s (record { whole = c.rest; from = from' }))).number in
      ap Refused (sym (refusal_back a) ∙ ap refusal_by codes_are ∙ refusal_back b)
  by_words _ _ x y c e = absurd (omega (arith, e))

pub one_reply : (text : List ℕ) (event : Event) (reply reply' : Reply) (r s : List ℕ) → IsReplyAt event text reply r → IsReplyAt event text reply' s → reply ≡ reply'
one_reply text event reply reply' r s a b =
    let c = same_cut 32 _ _ _ _ (sym (reply_words reply r) ∙ sym a.whole ∙ b.whole ∙ reply_words reply' s) (first_lacks event reply a.answers) (behind_from reply r a.from) (first_lacks event reply' b.answers) (behind_from reply' s b.from) in
    by_words event r s a.from b.from reply reply' a.answers b.answers c (sym (sort_is event reply a.answers) ∙ ap sort_of c.front ∙ sort_is event reply' b.answers)

-- bases that are written alike
pub one_bases : (bases others : List ℕ) → All IsWord bases → All IsWord others → bases_text bases ≡ bases_text others → bases ≡ others
one_bases [] [] x y e = refl
one_bases [] (b ∷ others) x y e = let f : ⊥ = cc in absurd f
one_bases (a ∷ bases) [] x y e = let f : ⊥ = cc in absurd f
one_bases (a ∷ bases) (b ∷ others) x y e =
    let both = same_number (bases_text (a ∷ bases)) a b (bases_text bases) (bases_text others)
    (record { whole = refl; word = All-head IsWord a bases x; from = bases_from bases }) (record { whole = e; word = All-head IsWord b others y; from = bases_from others }) in
    ap (λ z. z ∷ bases) both.number ∙ ap (λ zs. b ∷ zs) (one_bases bases others (All-tail IsWord a bases x) (All-tail IsWord b others y) both.rest)

-- hints that are written alike
pub one_hint : (hint hint' : Hint) → NamesWords hint → NamesWords hint' → hint_text hint ≡ hint_text hint' → SayTheSame hint hint'
one_hint Nothing Nothing x y e = tt
one_hint Nothing (Place b) x y e = let f : ⊥ = cc in f
one_hint Nothing (Forgot b) x y e = let f : ⊥ = cc in f
one_hint (Place a) Nothing x y e = let f : ⊥ = cc in f
one_hint (Forgot a) Nothing x y e = let f : ⊥ = cc in f
one_hint (Place a) (Place b) x y e = decimal_injective a b x y (append_cancel_left (codes " @ ") (decimal a) (decimal b) e)
one_hint (Place a) (Forgot b) x y e = let h : 64 ≡ 45 = ap second e in omega (arith, h)
one_hint (Forgot a) (Place b) x y e = let h : 45 ≡ 64 = ap second e in omega (arith, h)
one_hint (Forgot a) (Forgot b) x y e = one_bases a.now b.now x y (append_cancel_left (codes " -") (bases_text a.now) (bases_text b.now) e)
