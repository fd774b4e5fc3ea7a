use Rattle.std.proofs.Common.{[], ◌+◌, ◌<◌, length, ap, arith, subst, sym}
use Rattle.words.specs.Layout.{page_start}
use Rattle.block_map.proofs.Listed.{listed_span}
use Rattle.block_map.specs.Changes.{IsCleared}
use Rattle.block_map.specs.FoundIn.{found_in}
use Rattle.block_map.specs.States.{free, span_of, IsSpanSet}
use Rattle.lazy_sweep.proofs.Swept.{store_of}
use Rattle.lazy_sweep.specs.Sweeps.{SweepsPage}
use Rattle.lazy_sweep.proofs.FreePages.{rows_freed, sweeps_freed}
use Rattle.lazy_sweep.proofs.GivenPages.{agree_given, used_given}
use Rattle.lazy_sweep.proofs.table.PageTable.free_page.Goals as goal

pub returns : goal.returns
returns c =
    let x = c.free_block.ensures in
    let sound = c.requires.sound in
    let one : IsSpanSet c.args.self.now.map c.free_block.new.self.map c.args.page 1 (λ _. free) = subst (λ n. IsSpanSet c.args.self.now.map c.free_block.new.self.map c.args.page n (λ _. free)) (ap span_of c.in-Some.ensures) x.states in
    let cleared : IsCleared (found_in c.args.self.now.map) (found_in c.free_block.new.self.map) (page_start c.args.page) (page_start (c.args.page + 1)) =
    subst (λ n. IsCleared (found_in c.args.self.now.map) (found_in c.free_block.new.self.map) (page_start c.args.page) (page_start (c.args.page + n))) (ap span_of c.in-Some.ensures) x.cleared in
    let inside : c.args.page < length c.args.self.now.pending = (let size = sound.rows.size in let lt = c.requires.inside in omega arith) in
    record {
      sweeps = λ words. subst (λ row. SweepsPage (store_of words c.args.self.now.pool c.args.self.now.map c.args.self.now.pending) [] c.args.page (store_of words c.free_block.new.self.pool c.free_block.new.self.map row)) (sym x.row)
          (sweeps_freed (store_of words c.args.self.now.pool c.args.self.now.map c.args.self.now.pending) c.args.page c.in-Some.block.now c.laws.ensures.laid c.laws.ensures.lawful c.in-Some.ensures c.free_block.new.self.pool c.free_block.new.self.map x.lawful one cleared);
      sound = record {
        agree = agree_given c.args.self.now.pool c.free_block.new.self.pool c.args.self.now.map c.free_block.new.self.map c.args.page 1 x.given one sound.agree.size (λ p out is. sound.agree.free_in_map p is) (λ p out lt is. sound.agree.free_in_pool p lt is);
        used = used_given c.args.self.now.pool c.free_block.new.self.pool c.args.self.now.map c.free_block.new.self.map c.args.page 1 x.given one (λ p b out is. sound.used p b is);
        rows = rows_freed c.args.self.now c.free_block.new.self c.args.page c.in-Some.block.now c.in-Some.ensures _ _ c.class-class.ensures.class c.kind-kind.ensures inside
            one x.left x.awaited x.row sound.rows;
      };
      lists = λ words listed. listed_span words c.args.self.now.map c.free_block.new.self.map c.args.page 1 (λ _. free) one (λ k. tt) listed;
    }
