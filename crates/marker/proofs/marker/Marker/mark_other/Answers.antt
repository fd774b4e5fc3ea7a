use Rattle.std.proofs.Common.{◌≡◌, ℕ, ◌%◌, ◌<◌, ◌∙◌, length, refl, sym, subst, arith}
use Rattle.words.specs.declared.limits.TheConstants.{GRANULE_BYTES}
use Rattle.words.specs.Layout.{granule}
use Rattle.block_map.specs.FoundIn.{found_in}
use Rattle.marker.proofs.Closures.{marks_of}
use Rattle.marker.proofs.MarkWord.{markable}
use Rattle.marker.proofs.Objects.{objects_word}
use Rattle.marker.proofs.marker.Marker.mark_other.Goals as goal

pub mark_base-requires : goal.mark_base-requires
mark_base-requires c =
    let is = sym c.in-Some.ensures.found ∙ c.in-Some-answer.is in
    let at = markable (length c.args.map.now) (found_in c.args.map.now) c.args.word c.in-Some-answer.found c.args.self.now.marks c.in-Some.ensures.lawful.map is (marks_of _ _ c.laws.ensures c.requires.pages) in
    let base : c.in-Some-answer.found.base ≡ c.args.word = c.if-found-word.false in
    let aligned = (c.in-Some.ensures.lawful.map.placed _ _ is).aligned in
    record {
      low = c.requires.inside.0;
      inside = subst (λ (n : ℕ). granule n < length c.args.self.now.marks) base at.1;
      unmarked = c.requires.unmarked (subst (λ (n : ℕ). n % GRANULE_BYTES ≡ 0) base aligned);
      room = (let other = c.if-depth-eq-ENTRIES.false in let few = c.depth.ensures.few in let count = c.depth.ensures.count in omega arith);
    }

pub mark_inside-requires : goal.mark_inside-requires
mark_inside-requires c =
    let at = markable (length c.args.map.now) (found_in c.args.map.now) c.args.word c.in-Some-answer.found c.args.self.now.marks c.in-Some.ensures.lawful.map (sym c.in-Some.ensures.found ∙ c.in-Some-answer.is) (marks_of _ _ c.laws.ensures c.requires.pages) in
    record {
      low = at.0;
      inside = at.1;
      room = (let other = c.if-depth-eq-ENTRIES.false in let few = c.depth.ensures.few in let count = c.depth.ensures.count in omega arith);
    }

pub returns-clause-marks : goal.returns-clause-marks
returns-clause-marks c = c.mark_base.ensures (found_in c.args.map.now) c.args.word c.in-Some-answer.found (sym c.in-Some.ensures.found ∙ c.in-Some-answer.is) c.if-found-word.false refl refl

pub returns-clause-objects : goal.returns-clause-objects
returns-clause-objects c =
    objects_word (length c.args.map.now) (found_in c.args.map.now) c.in-Some.ensures.lawful.map c.args.word c.args.self.now c.mark_base.new.self c.requires.objects
    (c.mark_base.ensures (found_in c.args.map.now) c.args.word c.in-Some-answer.found (sym c.in-Some.ensures.found ∙ c.in-Some-answer.is) c.if-found-word.false refl refl)

pub returns-then-found-word-clause-marks : goal.returns-then-found-word-clause-marks
returns-then-found-word-clause-marks c = c.mark_inside.ensures (found_in c.args.map.now) c.args.word (sym c.in-Some.ensures.found ∙ c.in-Some-answer.is)

pub returns-then-found-word-clause-objects : goal.returns-then-found-word-clause-objects
returns-then-found-word-clause-objects c =
    objects_word (length c.args.map.now) (found_in c.args.map.now) c.in-Some.ensures.lawful.map c.args.word c.args.self.now c.mark_inside.new.self c.requires.objects
    (c.mark_inside.ensures (found_in c.args.map.now) c.args.word (sym c.in-Some.ensures.found ∙ c.in-Some-answer.is))
