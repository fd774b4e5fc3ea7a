use Rattle.std.proofs.Common.{refl, ◌*◌, ap, subst, arith}
use Rattle.words.specs.declared.limits.TheConstants.{PAGE_WORDS}
use Rattle.pages.specs.Memory.{IsZeroed, word_index}
use Rattle.lazy_sweep.proofs.Swept.{store_of}
use Rattle.object_space.proofs.Pending.{pending_cut, cut_span}
use Rattle.object_space.proofs.Allocations.{allocates_large, gains_large, listed_large, no_room_large, sound_large}
use Rattle.object_space.proofs.AvailablePages.{exact_large, waiting_span}
use Rattle.block_map.specs.States.{IsCut}
use Rattle.object_space.proofs.space.ObjectSpace.take_run.Goals as goal

pub returns-in_default-clause-none : goal.returns-in_default-clause-none
returns-in_default-clause-none c = rw (← c.self.view_is) (
  no_room_large _ _ c.args.kind c.self.invariant.sound c.len.ensures.laid c.len.ensures.lawful c.in_default.ensures.none.0,
  ap (λ p. store_of c.self.inside.memory p c.self.inside.table.map c.self.inside.table.pending) c.in_default.ensures.none.1,
)

pub cut_large-requires-clause-inside : goal.cut_large-requires-clause-inside
cut_large-requires-clause-inside c = let fits = c.in-Some.ensures.some.0.run.inside in let size = c.self.invariant.sound.agree.size in omega arith

pub cut_large-requires-clause-some : goal.cut_large-requires-clause-some
cut_large-requires-clause-some c = c.requires.0

pub cut_large-requires-clause-free : goal.cut_large-requires-clause-free
cut_large-requires-clause-free c k low high = c.self.invariant.sound.agree.free_in_map k (c.in-Some.ensures.some.0.run.free k low high)

pub invariant_of-self-2 : goal.invariant_of-self-2
invariant_of-self-2 c =
    let run = c.in-Some.ensures.some.0.run in
    let zeroed = subst (λ b. IsZeroed c.self.inside.memory c.zero.new.self (word_index b) (PAGE_WORDS * c.args.pages)) c.page_start-base.ensures c.zero.ensures in
    record {
      sound = sound_large _ c.self.invariant.sound c.len.ensures.laid c.len.ensures.lawful _ c.args.kind _ _ _ _ c.requires.0 run c.in-Some.ensures.some.1 c.cut_large.ensures.states c.cut_large.ensures.added zeroed;
      listed = listed_large _ c.self.invariant.sound c.len.ensures.laid c.len.ensures.lawful _ c.args.kind _ _ _ _ c.requires.0 run c.in-Some.ensures.some.1 c.cut_large.ensures.states c.cut_large.ensures.added zeroed
          (λ page low high. c.self.invariant.sound.agree.free_in_map page (run.free page low high)) c.self.invariant.listed;
      pending = pending_cut _ _ c.self.invariant.pending refl c.cut_large.ensures.states.size (cut_span _ _ _ _ _ c.cut_large.ensures.states (λ page low high. c.self.invariant.sound.agree.free_in_map page (run.free page low high)));
      exact = exact_large _ _ _ _ _ _ c.args.kind c.self.invariant.exact c.cut_large.ensures.states (λ page low high. c.self.invariant.sound.agree.free_in_map page (run.free page low high));
      awaited = waiting_span _ _ _ _ _ _ _ c.self.invariant.awaited c.cut_large.ensures.states c.self.invariant.pending.cut
          (λ page low high is. subst IsCut (c.self.invariant.sound.agree.free_in_map page (run.free page low high)) is);
    }

pub returns-clause-some : goal.returns-clause-some
returns-clause-some c =
    let zeroed = subst (λ b. IsZeroed c.self.inside.memory c.zero.new.self (word_index b) (PAGE_WORDS * c.args.pages)) c.page_start-base.ensures c.zero.ensures in
    rw (← c.self.view_is, c.page_start-base.ensures)
    (allocates_large _ c.self.invariant.sound c.len.ensures.laid c.len.ensures.lawful _ c.args.kind _ _ _ _ c.requires.0 c.in-Some.ensures.some.0.run c.in-Some.ensures.some.1 c.cut_large.ensures.states c.cut_large.ensures.added zeroed)

pub returns-clause-gains : goal.returns-clause-gains
returns-clause-gains c =
    let run = c.in-Some.ensures.some.0.run in
    let zeroed = subst (λ b. IsZeroed c.self.inside.memory c.zero.new.self (word_index b) (PAGE_WORDS * c.args.pages)) c.page_start-base.ensures c.zero.ensures in
    rw (← c.self.view_is, c.page_start-base.ensures)
    (gains_large _ c.self.invariant.sound c.len.ensures.laid c.len.ensures.lawful _ c.args.kind _ _ _ _ c.requires.0 run c.in-Some.ensures.some.1 c.cut_large.ensures.states c.cut_large.ensures.added zeroed
    (λ page low high. c.self.invariant.sound.agree.free_in_map page (run.free page low high)) c.self.invariant.pending)
