-- What results of calls say of their replies, and when a request has a place.
use Rattle.std.proofs.Common.{Result, Ok, Err, IsErrAnd, ◌≡◌, ◌≢◌, ◌≤◌, ℕ, Some, None, cond, sym, ap, ◌∙◌, le-ltb}
use Rattle.std.proofs.lemmas.Result.{err_from_is_err_and}
use Rattle.std.proofs.lemmas.Option.{none-some}
use Rattle.words.specs.declared.refusal.Refusal.{Refusal}
use Rattle.words.specs.declared.class.Placement.TheVariants.{Small}
use Rattle.words.specs.Placing.{placement_of}
use Rattle.heap_spec.specs.declared.reply.Reply.TheVariants.{Word}
use Rattle.heap_spec.specs.Replies.{word_reply}

-- a word that is the reply is the answer
pub loaded_is : (result : Result ℕ Refusal) (w : ℕ) → word_reply result ≡ Word w → result ≡ Ok w
loaded_is (Ok l) w is = cc
loaded_is (Err why) w is = cc

-- the refusal that a `?` hands on
pub handed_on : (result : Result ℕ Refusal) (why : Refusal) → IsErrAnd result (λ y. y ≡ why) → result ≡ Err why
handed_on result why is = let e = err_from_is_err_and result is in e.1 ∙ ap Err e.2

-- a request of two words has a place where the limit is two words or more
pub two_have_a_place : (limit : ℕ) → 2 ≤ limit → placement_of limit 2 ≢ None
two_have_a_place limit le e = none-some (Small 2) (sym e ∙ ap (λ b. cond b None (Some (Small 2))) (le-ltb limit 2 le))
