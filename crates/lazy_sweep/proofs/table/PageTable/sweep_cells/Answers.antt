use Rattle.std.proofs.Common.{◌<◌, length, refl, ap, ◌∙◌, subst, arith}
use Rattle.block_map.specs.Changes.{IsSameMap, IsUncut}
use Rattle.block_map.proofs.Listed.{listed_span}
use Rattle.block_map.specs.FoundIn.{found_in}
use Rattle.block_map.specs.States.{free, span_of, IsSpanSet}
use Rattle.lazy_sweep.specs.Sound.{store_with}
use Rattle.lazy_sweep.proofs.Swept.{store_of}
use Rattle.lazy_sweep.proofs.FreePages.{rows_freed}
use Rattle.lazy_sweep.proofs.GivenPages.{no_object}
use Rattle.lazy_sweep.proofs.SweptCells.{agree_cells, agree_gone, rows_cells, size_swept, sweeps_cells, used_cells, used_gone}
use Rattle.lazy_sweep.proofs.table.PageTable.sweep_cells.Goals as goal

pub settle-requires-clause-rows : goal.settle-requires-clause-rows
settle-requires-clause-rows c =
    let x = c.sweep.ensures.sweeps in
    rows_cells c.args.self.now.map c.sweep.new.self c.args.page x.old x.new x.was x.is c.sweep.ensures.states c.args.self.now refl c.requires.was x.cells.class x.cells.kind c.requires.sound.rows

pub returns-then-not-is_empty : goal.returns-then-not-is_empty
returns-then-not-is_empty c =
    let x = c.sweep.ensures.sweeps in
    let first = rw c.if-not-is_empty.true at c.is_empty.ensures in
    record {
      sweeps = λ words. rw (c.settle.ensures.pool, c.settle.ensures.map) (sweeps_cells (store_with words c.args.self.now) (store_of words c.args.self.now.pool c.sweep.new.self c.settle.new.self.pending) c.args.marks.now c.args.page c.sweep.new.self
          c.sweep.ensures.objects (record { same = λ w. refl }) refl (size_swept c.args.self.now.map c.sweep.new.self c.args.page x.old x.new x.was x.is c.sweep.ensures.states) c.settle.ensures.pending);
      sound = record {
        agree = rw (c.settle.ensures.pool, c.settle.ensures.map) (agree_cells c.args.self.now.map c.sweep.new.self c.args.page x.old x.new x.was x.is c.sweep.ensures.states c.args.self.now.pool c.requires.sound.agree);
        used = rw c.settle.ensures.map (used_cells c.args.self.now.map c.sweep.new.self c.args.page x.old c.in-Some.block.now x.was c.in-Some.ensures c.sweep.ensures.states c.requires.sound.used first.0 first.1.member);
        rows = c.settle.ensures.rows;
      };
      lists = rw c.settle.ensures.map c.sweep.ensures.listed;
    }

pub returns : goal.returns
returns c =
    let x = c.sweep.ensures.sweeps in
    let gone = c.free_block.ensures in
    let size = size_swept c.args.self.now.map c.sweep.new.self c.args.page x.old x.new x.was x.is c.sweep.ensures.states in
    let one : IsSpanSet c.sweep.new.self c.free_block.new.self.map c.args.page 1 (λ _. free) =
    subst (λ n. IsSpanSet c.sweep.new.self c.free_block.new.self.map c.args.page n (λ _. free)) (ap span_of c.in-Some.ensures) gone.states in
    let same : IsSameMap (found_in c.sweep.new.self) (found_in c.free_block.new.self.map) =
    subst (λ st. IsUncut c.args.page st (found_in c.sweep.new.self) (found_in c.free_block.new.self.map)) c.in-Some.ensures gone.uncut (no_object c.in-Some.block.now.taken (rw c.if-not-is_empty.false at c.is_empty.ensures)) in
    let inside : c.args.page < length c.args.self.now.pending = (let long = c.requires.sound.rows.size in let lt = c.requires.inside in omega arith) in
    record {
      sweeps = λ words. sweeps_cells (store_with words c.args.self.now) (store_with words c.free_block.new.self) c.args.marks.now c.args.page c.sweep.new.self
          c.sweep.ensures.objects same refl (one.size ∙ size) gone.row;
      sound = record {
        agree = agree_gone c.args.self.now.map c.sweep.new.self c.args.page x.old x.new x.was x.is c.sweep.ensures.states c.args.self.now.pool c.free_block.new.self.pool c.free_block.new.self.map c.requires.sound.agree gone.given one;
        used = used_gone c.args.self.now.map c.sweep.new.self c.args.page x.old x.new x.was x.is c.sweep.ensures.states c.args.self.now.pool c.free_block.new.self.pool c.free_block.new.self.map c.requires.sound.agree gone.given one c.requires.sound.used;
        rows = rows_freed (record c.args.self.now { map = c.sweep.new.self }) c.free_block.new.self c.args.page c.in-Some.block.now c.in-Some.ensures _ _ c.class-class.ensures.class c.kind-kind.ensures inside
            one gone.left gone.awaited gone.row
            (rows_cells c.args.self.now.map c.sweep.new.self c.args.page x.old x.new x.was x.is c.sweep.ensures.states c.args.self.now refl c.requires.was x.cells.class x.cells.kind c.requires.sound.rows);
      };
      lists = λ words listed. listed_span words c.sweep.new.self c.free_block.new.self.map c.args.page 1 (λ _. free) one (λ k. tt) (c.sweep.ensures.listed words listed);
    }
