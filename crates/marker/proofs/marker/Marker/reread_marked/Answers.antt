use Rattle.std.proofs.Common.{◌≡◌, ℕ, ◌+◌, ◌*◌, ◌/◌, ◌%◌, ◌<◌, ◌∙◌, ◌==◌, Bool, false, get_or, List, length, refl, sym, ap, subst, arith}
use Rattle.std.specs.Int.{bit_at, trailing_zeros, w64}
use Rattle.words.specs.Layout.{page_start}
use Rattle.marker.proofs.Rests.{rest_all, rest_first, rest_more, rest_none}
use Rattle.block_map.specs.FoundIn.{found_in}
use Rattle.marker.specs.Marking.{Marking}
use Rattle.marker.specs.Retracing.{RereadsObjects}
use Rattle.marker.proofs.Beside.{still_as}
use Rattle.marker.proofs.Closures.{marks_of}
use Rattle.marker.proofs.Rereading.{objects_none, objects_append, objects_next, objects_marked, mark_at, no_mark}
use Rattle.marker.proofs.Words.{words_pages}
use Rattle.marker.proofs.marker.Marker.reread_marked.Goals as goal

pub loop-rest-init : goal.loop-rest-init
loop-rest-init c = record {
  from = 0;
  left = rest_all _;
  rereads = objects_none (found_in c.args.map.now) c.args.reader.now.words c.args.self.now (page_start (c.args.page + 1)) (64 * c.args.j) (64 * c.args.j + 0) c.args.reader.now.reads c.args.self.now (omega arith) (λ f e n o from below. absurd (omega arith));
  words = refl;
  moments = refl;
  objects = c.requires.objects;
}

pub reread_at-requires-clause-pages : goal.reread_at-requires-clause-pages
reread_at-requires-clause-pages c = words_pages (found_in c.args.map.now) _ c.loop-rest.invariant.rereads.marks ∙ c.requires.pages

pub reread_at-requires-clause-marked : goal.reread_at-requires-clause-marked
reread_at-requires-clause-marked c =
    let i = c.loop-rest.invariant in let some : 0 < c.loop-rest.rest = (let ne = c.loop-rest-test.true in omega arith) in
    let first = rest_first _ _ _ i.left some (omega arith) in
    objects_marked (length c.args.map.now) (found_in c.args.map.now) c.requires.lawful.map c.args.reader.now.words c.args.self.now (page_start (c.args.page + 1)) _ _ _ _ _ c.args.self.now c.loop-rest.self (marks_of _ _ c.laws.ensures c.requires.pages) i.rereads
    (mark_at c.args.self.now.marks c.word-marks.result c.args.j (trailing_zeros w64 c.loop-rest.rest) (subst (λ (r : List Bool). (k : ℕ) → k / 64 ≡ c.args.j → get_or r k false ≡ (bit_at c.word-marks.result (k % 64) == 1)) (ap (λ (m : Marking). m.marks) c.self.view_is) c.word-marks.ensures) first.inside first.here)

pub reread_at-requires-clause-on : goal.reread_at-requires-clause-on
reread_at-requires-clause-on c =
    let i = c.loop-rest.invariant in let some : 0 < c.loop-rest.rest = (let ne = c.loop-rest-test.true in omega arith) in
    let first = rest_first _ _ _ i.left some (omega arith) in let inside = first.inside in let on = c.requires.on in let low = on.0 in let high = on.1 in
    (omega arith, omega arith)

pub loop-rest-preserved : goal.loop-rest-preserved
loop-rest-preserved c =
    let i = c.loop-rest.invariant in let some : 0 < c.loop-rest.rest = (let ne = c.loop-rest-test.true in omega arith) in
    let first = rest_first _ _ _ i.left some (omega arith) in let inside = first.inside in let from = first.from in
    let t : ℕ = trailing_zeros w64 c.loop-rest.rest in
    record {
      from = t + 1;
      left = rest_more _ _ _ i.left some (omega arith);
      rereads = objects_next (length c.args.map.now) (found_in c.args.map.now) c.requires.lawful.map c.args.reader.now.words c.args.self.now (page_start (c.args.page + 1)) (64 * c.args.j) (64 * c.args.j + i.from) (64 * c.args.j + t) (64 * c.args.j + (t + 1))
          c.args.reader.now.reads c.loop-rest.reader.reads c.reread_at.new.reader.reads c.args.self.now c.loop-rest.self c.reread_at.new.self (marks_of _ _ c.laws.ensures c.requires.pages) (λ d h. h) (omega arith) (omega arith) (omega arith)
          (no_mark c.args.self.now.marks c.word-marks.result c.args.j i.from t (subst (λ (r : List Bool). (k : ℕ) → k / 64 ≡ c.args.j → get_or r k false ≡ (bit_at c.word-marks.result (k % 64) == 1)) (ap (λ (m : Marking). m.marks) c.self.view_is) c.word-marks.ensures) (omega arith) first.least) i.rereads
          (subst (λ (w : List ℕ). RereadsObjects (found_in c.args.map.now) w c.loop-rest.self (page_start (c.args.page + 1)) (64 * c.args.j + t) (64 * c.args.j + t + 1) c.loop-rest.reader.reads c.loop-rest.self c.reread_at.new.reader.reads c.reread_at.new.self) i.words c.reread_at.ensures.rereads);
      words = c.reread_at.ensures.words ∙ i.words;
      moments = c.reread_at.ensures.moments ∙ i.moments;
      objects = c.reread_at.ensures.objects;
    }

pub returns-clause-rereads : goal.returns-clause-rereads
returns-clause-rereads c =
    let i = c.loop-rest.invariant in let none = rest_none _ _ _ c.loop-rest-test.false i.left in let few = i.left.few in
    objects_append (length c.args.map.now) (found_in c.args.map.now) c.requires.lawful.map c.args.reader.now.words c.args.self.now (page_start (c.args.page + 1)) (64 * c.args.j) (64 * c.args.j + i.from) (64 * (c.args.j + 1))
    c.args.reader.now.reads c.loop-rest.reader.reads c.loop-rest.reader.reads c.args.self.now c.loop-rest.self c.loop-rest.self (marks_of _ _ c.laws.ensures c.requires.pages) (omega arith) (omega arith) i.rereads
    (objects_none (found_in c.args.map.now) c.args.reader.now.words c.args.self.now (page_start (c.args.page + 1)) (64 * c.args.j + i.from) (64 * (c.args.j + 1)) c.loop-rest.reader.reads c.loop-rest.self (omega arith)
    (λ f e n o from below. no_mark c.args.self.now.marks c.word-marks.result c.args.j i.from 64 (subst (λ (r : List Bool). (k : ℕ) → k / 64 ≡ c.args.j → get_or r k false ≡ (bit_at c.word-marks.result (k % 64) == 1)) (ap (λ (m : Marking). m.marks) c.self.view_is) c.word-marks.ensures) (omega arith) none.none _ from (omega arith) o))

pub reread_at-requires-clause-still : goal.reread_at-requires-clause-still
reread_at-requires-clause-still c = still_as _ _ _ _ _ c.args.page (sym c.loop-rest.invariant.words) (sym c.loop-rest.invariant.moments) c.requires.still
