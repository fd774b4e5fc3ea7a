use Rattle.std.proofs.Common.{subst, get_or, ◌≡◌, ◌<◌, ◌*◌, ap, ◌∙◌, sym, length, arith}
use Rattle.std.proofs.lemmas.List.{with_items_is}
use Rattle.words.specs.declared.limits.TheConstants.{PAGE_WORDS}
use Rattle.plain_heap.specs.PlainContents.{PlainContents}
use Rattle.plain_heap.specs.Answering.{MayBePut}
use Rattle.plain_heap.proofs.Alloc.{IsZeroed, room_left, alloc_sound, puts}
use Rattle.plain_heap.proofs.plain.PlainHeap.put.Goals as goal

pub insert-requires-clause-fresh : goal.insert-requires-clause-fresh
insert-requires-clause-fresh c = (subst (λ (x : PlainContents). MayBePut x c.args.object) (sym c.self.view_is) c.requires.fits).fresh

pub insert-requires-clause-room : goal.insert-requires-clause-room
insert-requires-clause-room c =
    let left : length c.self.inside.directory.objects.items < PAGE_WORDS * c.self.inside.pages = room_left _ c.args.object c.self.invariant.0 (subst (λ (x : PlainContents). MayBePut x c.args.object) (sym c.self.view_is) c.requires.fits) in
    let words = c.self.invariant.0.words in
    let owned = c.self.invariant.1.owned in omega arith

pub invariant_of-self : goal.invariant_of-self
invariant_of-self c =
    let fits = subst (λ (x : PlainContents). MayBePut x c.args.object) (sym c.self.view_is) c.requires.fits in
    let long : length c.fill.new.row ≡ length c.self.inside.words.items = c.fill.auto.row ∙ ap length c.deref_mut.ensures.value in
    let kept = ap length (with_items_is c.self.inside.words c.fill.new.row (long ∙ sym c.self.inside.words.ok.0)) ∙ long in (
      rw c.insert.ensures.origin (alloc_sound _ c.args.object c.self.invariant.0 fits _ _ _ kept c.insert.ensures.objects),
      rw c.insert.ensures.words (record { owned = kept ∙ c.self.invariant.1.owned; lists = c.self.invariant.1.lists; flags = c.self.invariant.1.flags }),
    )

pub returns-clause-put : goal.returns-clause-put
returns-clause-put c =
    let fits = subst (λ (x : PlainContents). MayBePut x c.args.object) (sym c.self.view_is) c.requires.fits in
    let long : length c.fill.new.row ≡ length c.self.inside.words.items = c.fill.auto.row ∙ ap length c.deref_mut.ensures.value in
    let zeroed : IsZeroed c.self.inside.directory.origin c.self.inside.words.items c.fill.new.row c.args.object = record {
      long = long;
      zeroed = rw c.word_index-start.ensures at c.fill.ensures.filled;
      others = λ k h. (rw c.word_index-start.ensures at c.fill.ensures.others) k h ∙ ap (λ xs. get_or xs k 0) c.deref_mut.ensures.value;
    } in
    rw (← c.self.view_is, c.insert.ensures.origin)
    (puts _ c.args.object c.self.invariant.0 fits _ _ _ _ _
    (subst (λ r. IsZeroed c.self.inside.directory.origin c.self.inside.words.items r c.args.object) (sym (with_items_is c.self.inside.words c.fill.new.row (long ∙ sym c.self.inside.words.ok.0))) zeroed)
    c.insert.ensures.objects c.set_word.ensures)
