use Rattle.std.proofs.Common.{◌≡◌, ◌∙◌, ◌+◌, ◌*◌, length, sym, ap, subst, arith}
use Rattle.words.specs.declared.limits.TheConstants.{FIRST_ADDRESS, GRANULE_BYTES}
use Rattle.words.specs.Bits.{Has}
use Rattle.words.specs.Layout.{granule}
use Rattle.block_map.specs.declared.found.Found.{Found}
use Rattle.block_map.proofs.Finding.{block_object}
use Rattle.mark_bits.specs.Tables.{view}
use Rattle.marker.specs.Closure.{held}
use Rattle.marker.proofs.Closures.{at_base}
use Rattle.final_pause.specs.Pauses.{pause_view}
use Rattle.final_pause.specs.Helping.{found}
use Rattle.final_pause.proofs.Marked.{granule_finds, objects_one, objects_other}
use Rattle.final_pause.proofs.Serving.{serves_words}
use Rattle.final_pause.proofs.share.Pause.read_at.Goals as goal

pub object_from-requires : goal.object_from-requires
object_from-requires g c = let few = c.requires.serving.fits.ready.few in let inside = c.requires.inside in omega arith

pub returns-in_default-clause-read : goal.returns-in_default-clause-read
returns-in_default-clause-read g c = λ number.
    let p = pause_view c.args.self.now in let h = c.args.helper.now in
    let here = granule_finds p c.args.dirty.page c.args.granule c.args.dirty.block.now c.requires.cut c.requires.on.0 c.requires.on.1 in
    objects_other p c.requires.serving.fits.ready.map (view h.claimer) h.carried c.args.helper.now.place number c.args.granule (λ f e b. c.in_default.ensures.object f (sym here ∙ e) b)

pub read_run-requires-clause-object : goal.read_run-requires-clause-object
read_run-requires-clause-object g c κs within =
    let p = pause_view c.args.self.now in
    let here = granule_finds p c.args.dirty.page c.args.granule c.args.dirty.block.now c.requires.cut c.requires.on.0 c.requires.on.1 in
    record { word = FIRST_ADDRESS + GRANULE_BYTES * c.args.granule; points = here ∙ c.in-Some.ensures.object.0 }

-- the object ends on its page
pub read_run-requires-clause-one_page : goal.read_run-requires-clause-one_page
read_run-requires-clause-one_page g c κs within i from below =
    let base : c.in-Some.found.base ≡ FIRST_ADDRESS + GRANULE_BYTES * c.args.granule = c.in-Some.ensures.object.1 in
    let len = c.from.ensures in let ends = c.in-Some.ensures.inside in let on = c.requires.on in let low = on.0 in let high = on.1 in
    omega arith

pub returns-clause-serves : goal.returns-clause-serves
returns-clause-serves g c =
    let p = pause_view c.args.self.now in let map = c.requires.serving.fits.ready.map in
    let object = c.in-Some.ensures.object in
    let here = granule_finds p c.args.dirty.page c.args.granule c.args.dirty.block.now c.requires.cut c.requires.on.0 c.requires.on.1 in
    let base : c.in-Some.found.base ≡ FIRST_ADDRESS + GRANULE_BYTES * c.args.granule = object.1 in
    let marked : Has p.marker.marks (granule c.in-Some.found.base) = subst (Has p.marker.marks) (omega arith) c.requires.marked in
    serves_words p map c.in-Some.found _ _ c.args.helper.now c.read_run.new.helper
    (held (at_base (length p.map) (found p) map _ c.in-Some.found (here ∙ object.0)) marked)
    (ap (λ (x : Found). x.kind) (block_object c.args.dirty.page _ c.args.dirty.block.now c.in-Some.found object.0).0 ∙ c.requires.normal)
    c.read_run.ensures c.requires.serving

pub returns-clause-read : goal.returns-clause-read
returns-clause-read g c = λ number.
    let p = pause_view c.args.self.now in let map = c.requires.serving.fits.ready.map in
    let object = c.in-Some.ensures.object in
    let here = granule_finds p c.args.dirty.page c.args.granule c.args.dirty.block.now c.requires.cut c.requires.on.0 c.requires.on.1 in
    let base : c.in-Some.found.base ≡ FIRST_ADDRESS + GRANULE_BYTES * c.args.granule = object.1 in
    let h = c.read_run.new.helper in let len = c.from.ensures in
    objects_one p map (view h.claimer) h.carried c.args.helper.now.place number c.args.granule c.in-Some.found (at_base (length p.map) (found p) map _ c.in-Some.found (here ∙ object.0)) (omega arith)
    (λ i lt. c.read_run.ensures.read i (omega arith) (omega arith))
