use Rattle.std.proofs.Common.{◌≡◌, ◌∙◌, ◌+◌, ◌<◌, ◌≤◌, ℕ, Some, sym, ap, subst, arith}
use Rattle.std.proofs.lemmas.Option.{same_Some}
use Rattle.words.specs.Layout.{page_of}
use Rattle.block_map.specs.declared.found.Found.{Found}
use Rattle.marker.specs.Marking.{word_address}
use Rattle.final_pause.specs.declared.waiting.Unread.{Unread}
use Rattle.final_pause.specs.Pauses.{pause_view}
use Rattle.final_pause.specs.Helping.{found, unread_of, IsRowOf, ReadsWords}
use Rattle.final_pause.proofs.share.Pause.read_whole.Goals as goal

pub read_row-requires-clause-row : goal.read_row-requires-clause-row
read_row-requires-clause-row g c κs within =
    let f = c.requires.object.0 in let same = c.requires.object.2 in
    let base : f.base ≡ c.args.unread.base = ap (λ (o : Unread). o.base) same in let len : f.len ≡ c.args.unread.len = ap (λ (o : Unread). o.len) same in
    let placed = c.requires.fits.ready.map.placed _ _ c.requires.object.1 in let above = placed.above in let aligned = placed.aligned in
    let n = c.from-words.ensures in let t = c.if-unread-words-le-PAGE_BYTES.true in
    (f, 0, record { is = c.requires.object.1; at = omega arith; inside = omega arith; one_page = λ i from below. omega arith })

pub returns-then-unread-words-le-PAGE_BYTES : goal.returns-then-unread-words-le-PAGE_BYTES
returns-then-unread-words-le-PAGE_BYTES g c f is same =
    let base : f.base ≡ c.args.unread.base = ap (λ (o : Unread). o.base) same in let len : f.len ≡ c.args.unread.len = ap (λ (o : Unread). o.len) same in
    let placed = c.requires.fits.ready.map.placed _ _ is in let above = placed.above in let aligned = placed.aligned in
    let n = c.from-words.ensures in let t = c.if-unread-words-le-PAGE_BYTES.true in let p = pause_view c.args.self.now in
    let count : c.from-words.result ≡ f.len = omega arith in
    subst (λ (k : ℕ). ReadsWords p f 0 k c.args.helper.now c.read_row.new.helper) count
    (c.read_row.ensures f 0 (record { is = is; at = omega arith; inside = omega arith; one_page = λ i from below. omega arith }))
