use Rattle.std.proofs.Common.{◌≡◌, ◌+◌, ◌*◌, ◌<◌, ◌≤◌, ◌∙◌, ℕ, length, refl, sym, ap, subst, inl, arith}
use Rattle.words.specs.declared.limits.TheConstants.{FIRST_ADDRESS, GRANULE_BYTES, PAGE_BYTES, WORD_BYTES}
use Rattle.words.specs.Bits.{Has}
use Rattle.words.specs.Layout.{page_of, page_start}
use Rattle.block_map.specs.declared.found.Found.{Found}
use Rattle.block_map.specs.FoundIn.{found_in, found_in_block}
use Rattle.block_map.proofs.Finding.{block_object}
use Rattle.marker.specs.Marking.{word_address}
use Rattle.marker.specs.Growth.{CarriesPage, words_from}
use Rattle.marker.proofs.Closures.{at_base, marks_of}
use Rattle.marker.proofs.Beside.{row_carries, row_marks}
use Rattle.marker.proofs.Rereading.{found_cut, marked_cell, objects_words}
use Rattle.marker.proofs.marker.Marker.reread_at.Goals as goal
use Rattle.marker.proofs.marker.Marker.reread_at.Goals.{After-laws, After-mark_object}

-- what the granule's address finds is told by the block
here : (c : After-laws) → found_in c.args.map.now (FIRST_ADDRESS + GRANULE_BYTES * c.args.granule) ≡ found_in_block c.args.page c.args.block.now (FIRST_ADDRESS + GRANULE_BYTES * c.args.granule)
here c = let on = c.requires.on in let low = on.0 in let high = on.1 in found_cut c.args.map.now c.args.page _ c.args.block.now c.requires.cut (omega arith) (omega arith)

pub object_in_block-found-requires-clause-base : goal.object_in_block-found-requires-clause-base
object_in_block-found-requires-clause-base c =
    let on = c.requires.on in marked_cell c.args.map.now c.args.page c.args.granule c.args.block.now c.args.self.now c.requires.lawful.map c.requires.objects c.requires.marked c.requires.cut on.0 on.1

pub mark_object-requires-clause-row : goal.mark_object-requires-clause-row
mark_object-requires-clause-row c =
    let base : c.object_in_block-found.result.base ≡ FIRST_ADDRESS + GRANULE_BYTES * c.args.granule = c.object_in_block-found.ensures.base in
    let ends = c.object_in_block-found.ensures.on_page in let on = c.requires.on in let low = on.0 in let high = on.1 in
    record {
      object = c.object_in_block-found.result;
      at = refl;
      placed = c.requires.lawful.map.placed _ c.object_in_block-found.result (here (goal.at.mark_object-requires-clause-row c).After-laws ∙ c.object_in_block-found.ensures.object);
      fits = omega arith;
      one_page = λ i from below. omega arith;
    }

-- the object's words stand on the page
on_page : (c : After-mark_object) (i : ℕ) → 0 ≤ i → i < 0 + c.object_in_block-found.result.len → page_of (word_address c.object_in_block-found.result i) ≡ c.args.page
on_page c i from below =
    let base : c.object_in_block-found.result.base ≡ FIRST_ADDRESS + GRANULE_BYTES * c.args.granule = c.object_in_block-found.ensures.base in
    let ends = c.object_in_block-found.ensures.on_page in let on = c.requires.on in let low = on.0 in let high = on.1 in
    omega arith

pub returns-clause-rereads : goal.returns-clause-rereads
returns-clause-rereads c =
    let is = here (goal.at.returns-clause-rereads c).After-laws ∙ c.object_in_block-found.ensures.object in
    let base : c.object_in_block-found.result.base ≡ FIRST_ADDRESS + GRANULE_BYTES * c.args.granule = c.object_in_block-found.ensures.base in
    let ends = c.object_in_block-found.ensures.on_page in let on = c.requires.on in let low = on.0 in let high = on.1 in
    let reads = c.mark_object.ensures.counted in
    objects_words (length c.args.map.now) (found_in c.args.map.now) c.requires.lawful.map c.args.reader.now.words c.args.self.now (page_start (c.args.page + 1)) c.args.granule (c.object_in_block-found.result.base + WORD_BYTES * c.object_in_block-found.result.len) c.object_in_block-found.result.len
    c.args.reader.now.reads c.mark_object.new.reader.reads (page_of (word_address c.object_in_block-found.result 0)) c.object_in_block-found.result c.args.self.now c.mark_object.new.self
    (λ i from below. omega arith)
    (subst (λ (k : ℕ). CarriesPage (found_in c.args.map.now) (PAGE_BYTES * k) (words_from c.args.reader.now.words c.object_in_block-found.result 0 c.object_in_block-found.result.len) (page_of (word_address c.object_in_block-found.result 0)) c.args.self.now.carried c.mark_object.new.self.carried) (sym c.requires.pages) (row_carries (found_in c.args.map.now) c.args.reader.now.words c.args.reader.now.moments c.object_in_block-found.result 0 c.object_in_block-found.result.len _ _ c.args.page c.args.self.now c.mark_object.new.self c.requires.still (at_base (length c.args.map.now) (found_in c.args.map.now) c.requires.lawful.map _ c.object_in_block-found.result is) (ap (λ (x : Found). x.kind) (block_object c.args.page _ c.args.block.now c.object_in_block-found.result c.object_in_block-found.ensures.object).0 ∙ c.requires.normal) (omega arith) (on_page (goal.at.returns-clause-rereads c).After-mark_object) (c.mark_object.ensures.row c.object_in_block-found.result refl)))
    (marks_of _ _ c.laws.ensures c.requires.pages) (omega arith)
    (at_base (length c.args.map.now) (found_in c.args.map.now) c.requires.lawful.map _ c.object_in_block-found.result is)
    (ap (λ (x : Found). x.kind) (block_object c.args.page _ c.args.block.now c.object_in_block-found.result c.object_in_block-found.ensures.object).0 ∙ c.requires.normal)
    (subst (Has c.args.self.now.marks) (omega arith) c.requires.marked) (omega arith) (omega arith) refl (omega arith) (inl (omega arith)) (omega arith)
    (row_marks (found_in c.args.map.now) c.args.reader.now.words c.args.reader.now.moments c.object_in_block-found.result 0 c.object_in_block-found.result.len _ _ c.args.page c.args.self.now c.mark_object.new.self c.requires.still (at_base (length c.args.map.now) (found_in c.args.map.now) c.requires.lawful.map _ c.object_in_block-found.result is) (ap (λ (x : Found). x.kind) (block_object c.args.page _ c.args.block.now c.object_in_block-found.result c.object_in_block-found.ensures.object).0 ∙ c.requires.normal) (omega arith) (on_page (goal.at.returns-clause-rereads c).After-mark_object) (c.mark_object.ensures.row c.object_in_block-found.result refl))
