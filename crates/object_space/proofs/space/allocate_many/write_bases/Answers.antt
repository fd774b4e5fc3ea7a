use Rattle.std.proofs.Common.{List, get_or, refl, sym, ◌∙◌, subst, arith, get_or-set_other}
use Rattle.pages.specs.Memory.{IsZeroed, word_index}
use Rattle.object_space.specs.Many.{ZeroesEach, base_of}
use Rattle.object_space.proofs.Many.{base_is, bases_more, bases_next, zeroes_last}
use Rattle.object_space.proofs.space.allocate_many.write_bases.Goals as goal

pub loop-i-init : goal.loop-i-init
loop-i-init c = record { zeroes = ZeroesEach.done; long = refl; bases = refl; rest = λ k le. refl }

pub loop-i-preserved : goal.loop-i-preserved
loop-i-preserved c =
    let i = c.loop-i-test.true in
    let so_far = c.loop-i.invariant in
    let room = c.requires.room in
    let long = c.loop-i.auto.bases in
    let is = base_is c.page_start.result c.from.result c.from-in-loop-i.result c.args.page c.args.class (get_or c.args.cells.now c.loop-i.i 0) c.page_start.ensures c.from.ensures (c.from-in-loop-i.ensures ∙ c.words-words.ensures.value) in
    record {
      zeroes = subst (λ (bs : List _). ZeroesEach c.args.class c.args.memory.now bs c.zero.new.self) (sym (bases_more (base_of c.args.page c.args.class) c.args.cells.now c.loop-i.i i))
          (zeroes_last c.args.class _ so_far.zeroes
          (subst (λ n. IsZeroed c.loop-i.memory c.zero.new.self (word_index (base_of c.args.page c.args.class (get_or c.args.cells.now c.loop-i.i 0))) n) (c.from-in-loop-i-2.ensures ∙ c.words-words.ensures.value)
          (subst (λ b. IsZeroed c.loop-i.memory c.zero.new.self (word_index b) c.from-in-loop-i-2.result) is c.zero.ensures)));
      long = c.zero.ensures.size ∙ so_far.long;
      bases = bases_next (base_of c.args.page c.args.class) c.args.cells.now c.loop-i.bases c.loop-i.i _ i (omega arith) is so_far.bases;
      rest = λ k le. get_or-set_other c.loop-i.bases c.loop-i.i k _ 0 (omega arith) ∙ so_far.rest k (omega arith);
    }
