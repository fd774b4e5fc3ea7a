-- How the collector's calls are granted.
use Rattle.std.proofs.Common.{◌≡◌, ℕ, true, sym, subst}
use Rattle.std.specs.Prelude.{Result, Ok, Err}
use Rattle.words.specs.declared.refusal.Refusal.{Refusal}
use Rattle.heap_spec.specs.declared.event.Event.TheVariants.{Finish}
use Rattle.heap_spec.specs.declared.reply.Reply.{Reply}
use Rattle.heap_spec.specs.declared.reply.Reply.TheVariants.{Count}
use Rattle.heap_spec.specs.Replies.{count_reply}
use Rattle.heap_history.specs.Passes.{HeapPass, is_marking as marks}
use Rattle.heap_history.specs.Replies.{IsCountReply}
use Rattle.heap_history.specs.Headline.{Extends, IsGrantedByOwnEvents}

-- a number is answered
pub is_count : (reply : Reply) (n : ℕ) → reply ≡ Count n → IsCountReply reply
is_count reply n e = subst (λ (r : Reply). IsCountReply r) (sym e) tt

-- and so the end of a cycle is granted
pub finished : (pages : ℕ) (old new : HeapPass) (r : Result ℕ Refusal) (reply : Reply) (n : ℕ) → count_reply r ≡ reply → reply ≡ Count n → marks old.mine ≡ true → Extends pages old Finish reply new → IsGrantedByOwnEvents true pages old Finish Count r new
finished pages old new (Ok k) reply n is said on extends = (on, subst (λ (x : Reply). Extends pages old Finish x new) (sym is) extends)
finished pages old new (Err why) reply n is said on extends = absurd (cc (is, said))
