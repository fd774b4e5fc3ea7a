use Rattle.std.proofs.Common.{◌*◌, ◌∙◌, ◌<◌, [], ◌∷◌, length, refl, arith}
use Rattle.words.specs.declared.limits.TheConstants.{PAGE_BYTES}
use Rattle.block_map.specs.FoundIn.{found_in}
use Rattle.marker.specs.Growth.{begun}
use Rattle.marker.proofs.MarkWord.{word_beyond}
use Rattle.marker.proofs.Words.{four_words, fewer_left, first_further, words_pages, tells_nothing, tells_further, first_outside}
use Rattle.marker.proofs.marker.Marker.mark_fours.Goals as goal

pub loop-first-init : goal.loop-first-init
loop-first-init c = record {
  marks = record { done = []; parts = refl; marks = begun };
  stray = record { done = []; parts = refl; tells = tells_nothing (found_in c.args.map.now) (PAGE_BYTES * length c.args.map.now) };
  objects = c.requires.objects;
}

pub mark_four-stray-requires : goal.mark_four-stray-requires
mark_four-stray-requires c = record { pages = words_pages (found_in c.args.map.now) c.args.self.now c.loop-first.invariant.marks.marks ∙ c.requires.pages; objects = c.loop-first.invariant.objects }

pub loop-first-smaller-then-not-are_outside : goal.loop-first-smaller-then-not-are_outside
loop-first-smaller-then-not-are_outside c = fewer_left c.in-Some.first c.in-Some.second c.in-Some.third c.in-Some.fourth c.in-Some.ensures.some

pub loop-first-preserved-then-not-are_outside : goal.loop-first-preserved-then-not-are_outside
loop-first-preserved-then-not-are_outside c =
    record {
      marks = first_further (found_in c.args.map.now) c.args.self.now c.loop-first.invariant.marks (c.in-Some.first ∷ c.in-Some.second ∷ c.in-Some.third ∷ c.in-Some.fourth ∷ []) c.next_four.new.self c.in-Some.ensures.some c.mark_four-stray.ensures.marks;
      stray = tells_further (found_in c.args.map.now) (PAGE_BYTES * length c.args.map.now) c.loop-first.invariant.stray (c.in-Some.first ∷ c.in-Some.second ∷ c.in-Some.third ∷ c.in-Some.fourth ∷ []) c.next_four.new.self c.in-Some.ensures.some c.mark_four-stray.ensures.stray;
      objects = c.mark_four-stray.ensures.objects;
    }

pub loop-first-smaller : goal.loop-first-smaller
loop-first-smaller c = fewer_left c.in-Some.first c.in-Some.second c.in-Some.third c.in-Some.fourth c.in-Some.ensures.some

pub loop-first-preserved : goal.loop-first-preserved
loop-first-preserved c =
    let m = c.loop-first.self in
    let out = c.are_outside.ensures c.if-not-are_outside.false in
    let lawful = c.requires.lawful in
    let bytes = c.requires.bytes in
    record {
      marks = first_further (found_in c.args.map.now) c.args.self.now c.loop-first.invariant.marks (c.in-Some.first ∷ c.in-Some.second ∷ c.in-Some.third ∷ c.in-Some.fourth ∷ []) c.next_four.new.self c.in-Some.ensures.some
          (four_words (found_in c.args.map.now) c.in-Some.first c.in-Some.second c.in-Some.third c.in-Some.fourth
          (word_beyond c.args.map.now c.args.heap_bytes c.in-Some.first m lawful bytes (out 0 0 (let l : 0 < 4 = omega arith in l)))
          (word_beyond c.args.map.now c.args.heap_bytes c.in-Some.second m lawful bytes (out 1 0 (let l : 1 < 4 = omega arith in l)))
          (word_beyond c.args.map.now c.args.heap_bytes c.in-Some.third m lawful bytes (out 2 0 (let l : 2 < 4 = omega arith in l)))
          (word_beyond c.args.map.now c.args.heap_bytes c.in-Some.fourth m lawful bytes (out 3 0 (let l : 3 < 4 = omega arith in l))));
      stray = first_outside (length c.args.map.now) c.args.heap_bytes (found_in c.args.map.now) bytes c.loop-first.invariant.stray (c.in-Some.first ∷ c.in-Some.second ∷ c.in-Some.third ∷ c.in-Some.fourth ∷ []) c.next_four.new.self c.in-Some.ensures.some out;
      objects = c.loop-first.invariant.objects;
    }
