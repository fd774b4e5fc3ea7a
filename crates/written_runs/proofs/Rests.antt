-- What stands behind a reply is the same however the reply is read.
use Rattle.std.proofs.Common.{◌≡◌, ℕ, ◌<◌, ◌^◌, List, ◌++◌, refl, sym, ap, ◌∙◌, arith}
use Rattle.std.specs.Prelude.{codes, decimal}
use Rattle.std.proofs.lemmas.List.{append_cancel_left}
use Rattle.heap_spec.specs.declared.event.Event.{Event}
use Rattle.heap_spec.specs.declared.reply.Reply.{Reply}
use Rattle.heap_spec.specs.declared.reply.Reply.TheVariants.{Slot, Done, Word, Count, Refused}
use Rattle.words.specs.declared.refusal.Refusal.{Refusal}
use Rattle.words.specs.Refusals.{name_of}
use Rattle.written_runs.specs.Cuts.{IsEmptyOrFrom}
use Rattle.written_runs.specs.Reading.{IsNumberAt, IsRefusalAt, IsReplyAt}
use Rattle.written_runs.specs.Written.{IsAnswer}
use Rattle.written_runs.proofs.Cutting.{IsSameCut, same_cut, lead}
use Rattle.written_runs.proofs.Digits.{not_decimal, same_number}
use Rattle.written_runs.proofs.Refusals.{name_lacks, code_at}
use Rattle.written_runs.proofs.Replies.{first_word, behind_word, reply_words, first_lacks, behind_from}

-- Texts that begin with replies of one first word go on alike behind them.
same_slot : (m : ℕ) (r : List ℕ) (text : List ℕ) (event : Event) (reply : Reply) (s : List ℕ) → IsNumberAt text m r → codes "mutator" ≡ first_word reply → text ≡ behind_word reply s → IsAnswer event reply → IsEmptyOrFrom 32 s → r ≡ s
same_slot m r text event (Slot slot) s at front rest a from = (same_number text m slot r s at (record { whole = rest; word = omega arith; from = from })).rest
same_slot m r text event Done s at front rest a from = let f : ⊥ = cc in absurd f
same_slot m r text event (Word w) s at front rest a from = absurd (not_decimal 109 w (codes "utator") (omega arith) a.1 (sym front))
same_slot m r text event (Count n) s at front rest a from = absurd (not_decimal 109 n (codes "utator") (omega arith) a.1 (sym front))
same_slot m r text event (Refused refusal) s at front rest a from = let h : 109 ≡ 114 = ap lead front in absurd (omega (arith, h))

same_done : (r : List ℕ) (event : Event) (reply : Reply) (s : List ℕ) → codes "ok" ≡ first_word reply → r ≡ behind_word reply s → IsAnswer event reply → r ≡ s
same_done r event (Slot slot) s front rest a = let f : ⊥ = cc in absurd f
same_done r event Done s front rest a = rest
same_done r event (Word w) s front rest a = rest
same_done r event (Count n) s front rest a = rest
same_done r event (Refused refusal) s front rest a = let f : ⊥ = cc in absurd f

same_decimal : (m : ℕ) (r : List ℕ) (event : Event) (reply : Reply) (s : List ℕ) → m < 2 ^ 64 → decimal m ≡ first_word reply → r ≡ behind_word reply s → r ≡ s
same_decimal m r event (Slot slot) s small front rest = absurd (not_decimal 109 m (codes "utator") (omega arith) small front)
same_decimal m r event Done s small front rest = rest
same_decimal m r event (Word w) s small front rest = rest
same_decimal m r event (Count n) s small front rest = rest
same_decimal m r event (Refused refusal) s small front rest = absurd (not_decimal 114 m (codes "efused") (omega arith) small front)

same_refused : (refusal : Refusal) (r text : List ℕ) (event : Event) (reply : Reply) (s : List ℕ) → IsRefusalAt text refusal r → codes "refused" ≡ first_word reply → text ≡ behind_word reply s → IsAnswer event reply → IsEmptyOrFrom 32 s → r ≡ s
same_refused refusal r text event (Slot slot) s at front rest a from = let h : 114 ≡ 109 = ap lead front in absurd (omega (arith, h))
same_refused refusal r text event Done s at front rest a from = let f : ⊥ = cc in absurd f
same_refused refusal r text event (Word w) s at front rest a from = absurd (not_decimal 114 w (codes "efused") (omega arith) a.1 (sym front))
same_refused refusal r text event (Count n) s at front rest a from = absurd (not_decimal 114 n (codes "efused") (omega arith) a.1 (sym front))
same_refused refusal r text event (Refused other) s at front rest a from =
    let numbers = same_number text _ _ _ _ (code_at text refusal r at) (code_at text other s (record { whole = rest; from = from })) in
    let names = append_cancel_left (codes " ") (name_of refusal ++ r) (name_of other ++ s) numbers.rest in
    (same_cut 32 (name_of refusal) r (name_of other) s names (name_lacks refusal) at.from (name_lacks other) from).rest

-- what stands behind the reply of a text doesn't depend on how it is read
pub same_rest : (text : List ℕ) (event other : Event) (reply reply' : Reply) (r s : List ℕ) → IsReplyAt event text reply r → IsReplyAt other text reply' s → r ≡ s
same_rest text event other reply reply' r s a b = by_reply reply a (same_cut 32 _ _ _ _ (sym (reply_words reply r) ∙ sym a.whole ∙ b.whole ∙ reply_words reply' s) (first_lacks event reply a.answers) (behind_from reply r a.from) (first_lacks other reply' b.answers) (behind_from reply' s b.from))
  where
    by_reply : (reply : Reply) → IsReplyAt event text reply r → IsSameCut (first_word reply) (behind_word reply r) (first_word reply') (behind_word reply' s) → r ≡ s
    by_reply (Slot slot) a c = same_slot slot r _ other reply' s (record { whole = refl; word = let h = a.answers in omega (arith, h); from = a.from }) c.front c.rest b.answers b.from
    by_reply Done a c = same_done r other reply' s c.front c.rest b.answers
    by_reply (Word w) a c = same_decimal w r other reply' s a.answers.1 c.front c.rest
    by_reply (Count n) a c = same_decimal n r other reply' s a.answers.1 c.front c.rest
    by_reply (Refused refusal) a c = same_refused refusal r _ other reply' s (record { whole = refl; from = a.from }) c.front c.rest b.answers b.from
