use Rattle.std.proofs.Common.{◌≡◌, ◌<◌, ◌≤◌, ◌∙◌, length, get_or, ap, subst, arith}
use Rattle.std.specs.Prelude.{Some, slice_get}
use Rattle.std.proofs.lemmas.List.{get_or_read}
use Rattle.plain_heap.proofs.Owning.{none_at, none_other}
use Rattle.plain_heap.proofs.directory.Directory.index_at.Goals as goal

pub returns-then-index-len-clause-none : goal.returns-then-index-len-clause-none
returns-then-index-len-clause-none c =
    let within : c.word_index-position.result < length c.args.self.now.owners.items = let n = c.len.ensures in let less = c.if-position-len.false in omega (arith, c.args.self.now.owners.ok.0) in
    let at = get_or_read c.args.self.now.owners.items _ _ within c.index.ensures 0 in
    let past = c.if-index-len.true in
    let n = c.len-2.ensures in
    none_at _ _ _ c.args.self.now.owned _ (subst (λ k. length c.args.self.now.objects.items ≤ get_or c.args.self.now.owners.items k 0) c.word_index-position.ensures (omega arith))

pub returns-then-not-contains-clause-none : goal.returns-then-not-contains-clause-none
returns-then-not-contains-clause-none c =
    let within : c.word_index-position.result < length c.args.self.now.owners.items = let n = c.len.ensures in let less = c.if-position-len.false in omega (arith, c.args.self.now.owners.ok.0) in
    let at = get_or_read c.args.self.now.owners.items _ _ within c.index.ensures 0 in
    none_other _ _ _ c.args.self.now.owned _ c.object.result
    (subst (λ k. slice_get c.args.self.now.objects.items k ≡ Some c.object.result) (at ∙ ap (λ p. get_or c.args.self.now.owners.items p 0) c.word_index-position.ensures) c.object.ensures)
    (c.contains.ensures.no c.if-not-contains.true)
