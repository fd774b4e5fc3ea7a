-- The replies that texts begin with.
use Rattle.std.proofs.Common.{◌≡◌, ℕ, ◌<◌, ◌^◌, Bool, true, false, List, ◌++◌, refl, sym, ap, ◌∙◌, arith, append_assoc}
use Rattle.std.specs.Prelude.{◌&&◌, nat_le, nat_lt, cond, codes, decimal}
use Rattle.std.proofs.lemmas.Bool.{leb-true, ltb-true}
use Rattle.heap_spec.specs.declared.event.Event.{Event}
use Rattle.heap_spec.specs.declared.reply.Reply.{Reply}
use Rattle.heap_spec.specs.declared.reply.Reply.TheVariants.{Slot, Done, Word, Count, Refused}
use Rattle.heap_spec.specs.Layout.{heap_end}
use Rattle.words.specs.declared.limits.TheConstants.{FIRST_ADDRESS, SLOTS}
use Rattle.words.specs.declared.refusal.Refusal.{Refusal}
use Rattle.words.specs.Refusals.{code_of, name_of}
use Rattle.written_runs.specs.Cuts.{Lacks, IsEmptyOrFrom, IsTextCut}
use Rattle.written_runs.specs.Reading.{IsNumberAt, IsRefusalAt, IsReplyAt}
use Rattle.written_runs.specs.Written.{answer_of, IsAnswer}
use Rattle.written_runs.proofs.Cutting.{IsSameCut, same_cut, lacks_by, lead}
use Rattle.written_runs.proofs.Digits.{decimal_lacks, not_decimal}

-- a word is written as its number
pub word_text : (w : ℕ) → answer_of (Word w) ≡ decimal w
word_text w = by_tests (nat_le FIRST_ADDRESS w) (nat_lt w (heap_end 0)) refl refl
  where
    by_tests : (a b : Bool) → nat_le FIRST_ADDRESS w ≡ a → nat_lt w (heap_end 0) ≡ b → cond (a && b) (codes "ptr") (decimal w) ≡ decimal w
    by_tests false b e f = refl
    by_tests true false e f = refl
    by_tests true true e f = absurd (let low = leb-true FIRST_ADDRESS w e in let high = ltb-true w (heap_end 0) f in omega (arith, low, high))

-- the first word of a reply, and what stands behind it where a text goes on so
abbrev pub first_word : Reply → List ℕ
first_word (Slot slot) = codes "mutator"
first_word Done = codes "ok"
first_word (Word w) = decimal w
first_word (Count n) = decimal n
first_word (Refused refusal) = codes "refused"

abbrev pub behind_word : Reply → List ℕ → List ℕ
behind_word (Slot slot) s = codes " " ++ (decimal slot ++ s)
behind_word Done s = s
behind_word (Word w) s = s
behind_word (Count n) s = s
behind_word (Refused refusal) s = codes " " ++ (decimal (code_of refusal) ++ (codes " " ++ (name_of refusal ++ s)))

pub reply_words : (reply : Reply) (s : List ℕ) → answer_of reply ++ s ≡ first_word reply ++ behind_word reply s
reply_words (Slot slot) s = refl
reply_words Done s = refl
reply_words (Word w) s = ap (λ t. t ++ s) (word_text w)
reply_words (Count n) s = refl
reply_words (Refused refusal) s = simp append_assoc

pub first_lacks : (event : Event) (reply : Reply) → IsAnswer event reply → Lacks 32 (first_word reply)
first_lacks event (Slot slot) a = lacks_by 32 (codes "mutator") refl
first_lacks event Done a = lacks_by 32 (codes "ok") refl
first_lacks event (Word w) a = decimal_lacks 32 w (omega arith) a.1
first_lacks event (Count n) a = decimal_lacks 32 n (omega arith) a.1
first_lacks event (Refused refusal) a = lacks_by 32 (codes "refused") refl

pub behind_from : (reply : Reply) (s : List ℕ) → IsEmptyOrFrom 32 s → IsEmptyOrFrom 32 (behind_word reply s)
behind_from (Slot slot) s from = refl
behind_from Done s from = from
behind_from (Word w) s from = from
behind_from (Count n) s from = from
behind_from (Refused refusal) s from = refl

-- a text that begins with a reply is cut at the reply's first word
pub at_word : (text word rest : List ℕ) (event : Event) (reply : Reply) (s : List ℕ) → IsTextCut 32 text word rest → IsReplyAt event text reply s → IsSameCut word rest (first_word reply) (behind_word reply s)
at_word text word rest event reply s cut is =
    same_cut 32 word rest (first_word reply) (behind_word reply s) (sym cut.whole ∙ is.whole ∙ reply_words reply s) cut.lacks cut.from (first_lacks event reply is.answers) (behind_from reply s is.from)

-- a text without its first word's reply has none
pub no_reply : (text word rest : List ℕ) → IsTextCut 32 text word rest → (word ≡ codes "ok" → ⊥)
    → (word ≡ codes "mutator" → (slot : ℕ) (s : List ℕ) → slot < SLOTS → IsNumberAt rest slot s → ⊥)
    → (word ≡ codes "refused" → (refusal : Refusal) (s : List ℕ) → IsRefusalAt rest refusal s → ⊥)
    → ((n : ℕ) → n < 2 ^ 64 → word ≡ decimal n → ⊥)
    → (event : Event) (reply : Reply) (s : List ℕ) → IsReplyAt event text reply s → ⊥
no_reply text word rest cut ok mutator refused number event (Slot slot) s is = let c = at_word text word rest event (Slot slot) s cut is in mutator c.front slot s is.answers (record { whole = c.rest; word = let a = is.answers in omega arith; from = is.from })
no_reply text word rest cut ok mutator refused number event Done s is = let c = at_word text word rest event Done s cut is in ok c.front
no_reply text word rest cut ok mutator refused number event (Word w) s is = let c = at_word text word rest event (Word w) s cut is in number w is.answers.1 c.front
no_reply text word rest cut ok mutator refused number event (Count n) s is = let c = at_word text word rest event (Count n) s cut is in number n is.answers.1 c.front
no_reply text word rest cut ok mutator refused number event (Refused refusal) s is = let c = at_word text word rest event (Refused refusal) s cut is in refused c.front refusal s (record { whole = c.rest; from = is.from })

-- texts whose first word is read as none
pub no_slot_reply : (text word rest : List ℕ) → IsTextCut 32 text word rest → word ≡ codes "mutator" → ((slot : ℕ) (s : List ℕ) → slot < SLOTS → IsNumberAt rest slot s → ⊥) → (event : Event) (reply : Reply) (s : List ℕ) → IsReplyAt event text reply s → ⊥
no_slot_reply text word rest cut is none =
    no_reply text word rest cut (λ e. let h : 109 ≡ 111 = ap lead (sym is ∙ e) in omega (arith, h)) (λ e. none) (λ e. let h : 109 ≡ 114 = ap lead (sym is ∙ e) in absurd (omega (arith, h)))
    (λ n small e. not_decimal 109 n (codes "utator") (omega arith) small (sym e ∙ is))

pub no_refused_reply : (text word rest : List ℕ) → IsTextCut 32 text word rest → word ≡ codes "refused" → ((refusal : Refusal) (s : List ℕ) → IsRefusalAt rest refusal s → ⊥) → (event : Event) (reply : Reply) (s : List ℕ) → IsReplyAt event text reply s → ⊥
no_refused_reply text word rest cut is none =
    no_reply text word rest cut (λ e. let h : 114 ≡ 111 = ap lead (sym is ∙ e) in omega (arith, h)) (λ e. let h : 114 ≡ 109 = ap lead (sym is ∙ e) in absurd (omega (arith, h))) (λ e. none)
    (λ n small e. not_decimal 114 n (codes "efused") (omega arith) small (sym e ∙ is))
