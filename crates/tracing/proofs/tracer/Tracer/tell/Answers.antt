use Rattle.std.proofs.Common.{◌∙◌, refl}
use Rattle.tracing.proofs.tracer.Tracer.tell.Goals as goal

pub returns : goal.returns
returns c = rw (← c.self.view_is) (record {
  replayed = rw c.seen_now.ensures.same (c.step.ensures.yes c.if-not-step.false);
  begins = rw c.seen_now.ensures.same (c.step.ensures.origin ∙ c.self.invariant);
  seen = rw c.seen_now.ensures.same (rw c.as_slice-pages.ensures.value at c.in_ok-seen.ensures.seen);
  leaving = c.in_ok-left.left;
  parted = rw c.as_slice-waited.ensures.value at c.in_ok-left.ensures;
  says = rw (c.words_put-put.ensures, c.heap.ensures) at c.in_ok-record.ensures;
  waiting = cc c.replace.ensures.value;
  room = c.seen_now.ensures.size;
  pages = refl;
})
