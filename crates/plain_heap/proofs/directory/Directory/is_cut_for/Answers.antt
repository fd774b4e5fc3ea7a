use Rattle.std.proofs.Common.{◌≡◌, refl, arith}
use Rattle.std.proofs.lemmas.List.Elements.{All-contains}
use Rattle.heap_spec.specs.Layout.{PointsInto}
use Rattle.plain_heap.specs.declared.extent.Extent.{Extent}
use Rattle.plain_heap.specs.Places.{word_start}
use Rattle.plain_heap.proofs.Collects.{at_place}
use Rattle.plain_heap.proofs.InDirectory.{evens}
use Rattle.plain_heap.proofs.PageWords.{all_on, not_on, cut_goes, cut_one, cut_more}
use Rattle.plain_heap.proofs.directory.Directory.is_cut_for.Goals as goal

pub loop-word-preserved : goal.loop-word-preserved
loop-word-preserved c = cut_goes _ _ _ _ _ _ c.loop-word.invariant (cut_one _ _ _ _ _ _ (rw c.word_start-address.ensures at c.in_default.ensures.none) refl)

pub loop-word-preserved-else-not-agrees : goal.loop-word-preserved-else-not-agrees
loop-word-preserved-else-not-agrees c =
    let some = c.in-Some.ensures.some in
    let at = at_place c.args.self.now.objects.items c.in-Some.object some.0 in
    cut_goes _ _ _ _ _ _ c.loop-word.invariant
    (cut_more _ _ _ c.args.self.now.owned _ _ _ _ _ at.0 _ at.1 (rw c.word_start-address.ensures at some.1) (c.agrees.ensures.yes c.if-not-agrees.false) (rw c.word_start-address.ensures at c.words_from.ensures)).1

pub returns-then-not-agrees-clause-no : goal.returns-then-not-agrees-clause-no
returns-then-not-agrees-clause-no c _ cut =
    let some = c.in-Some.ensures.some in
    not_on _ c.args.self.now.owned.some (evens c.args.self.now) (λ e. (e.length ≡ c.args.length) × (e.kind ≡ c.args.kind)) c.args.page c.loop-word.word c.loop-word-test.true
    (λ all. c.agrees.ensures.no c.if-not-agrees.true (All-contains (λ (e : Extent). PointsInto (word_start c.args.page c.loop-word.word) e.base e.length → (e.length ≡ c.args.length) × (e.kind ≡ c.args.kind)) _ c.in-Some.object all some.0 (rw c.word_start-address.ensures at some.1))) cut

pub returns-clause-yes : goal.returns-clause-yes
returns-clause-yes c _ = all_on _ c.args.self.now.owned.some (evens c.args.self.now) (λ e. (e.length ≡ c.args.length) × (e.kind ≡ c.args.kind)) c.args.page _ c.loop-word-test.false (λ g lt. c.loop-word.invariant g (omega arith) lt)
