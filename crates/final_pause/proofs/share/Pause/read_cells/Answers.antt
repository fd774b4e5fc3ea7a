use Rattle.std.proofs.Common.{◌≡◌, ℕ, ◌+◌, ◌*◌, subst, rules, arith}
use Rattle.words.specs.declared.class.Kind.TheVariants.{PointerFree}
use Rattle.words.specs.declared.limits.TheConstants.{PAGE_GRANULES}
use Rattle.mark_bits.specs.Tables.{view}
use Rattle.final_pause.specs.Pauses.{pause_view}
use Rattle.final_pause.specs.Serving.{AreObjectsRead}
use Rattle.final_pause.proofs.Marked.{objects_none, objects_append, objects_more, objects_page, page_free}
use Rattle.final_pause.proofs.Serving.{serves_refl, serves_trans}
use Rattle.final_pause.proofs.share.Pause.read_cells.Goals as goal

pub returns-then-eq-clause-read : goal.returns-then-eq-clause-read
returns-then-eq-clause-read g c =
    let h = c.args.helper.now in let kind : c.args.dirty.block.now.kind ≡ PointerFree = search rules in
    page_free (pause_view c.args.self.now) c.requires.serving.fits.ready.map c.args.dirty.page c.args.dirty.block.now c.requires.cut (view h.claimer) h.carried c.args.helper.now.place c.args.dirty.number kind

pub loop-j-init : goal.loop-j-init
loop-j-init g c =
    let h = c.args.helper.now in (
      serves_refl (pause_view c.args.self.now) h c.requires.serving,
      objects_none (pause_view c.args.self.now) c.requires.serving.fits.ready.map (view h.claimer) h.carried c.args.helper.now.place c.args.dirty.number (PAGE_GRANULES * c.args.dirty.page) (64 * (4 * c.args.dirty.page)) (λ k from below. absurd (omega arith)),
    )

pub read_marked-requires-clause-on : goal.read_marked-requires-clause-on
read_marked-requires-clause-on g c κs within = let from = c.loop-j.auto.j in let test = c.loop-j-test.true in (omega arith, omega arith)

pub loop-j-preserved : goal.loop-j-preserved
loop-j-preserved g c =
    let p = pause_view c.args.self.now in let map = c.requires.serving.fits.ready.map in let i = c.loop-j.invariant in let e = c.read_marked.ensures in
    let h = c.loop-j.helper in let h' = c.read_marked.new.helper in (
      serves_trans p c.args.helper.now h h' i.0 e.serves,
      objects_append p map (view h'.claimer) h'.carried c.args.helper.now.place c.args.dirty.number (PAGE_GRANULES * c.args.dirty.page) (64 * c.loop-j.j) (64 * (c.loop-j.j + 1))
          (objects_more p map (view h.claimer) (view h'.claimer) h.carried h'.carried e.serves.learns.known e.serves.carried c.args.helper.now.place c.args.dirty.number _ _ i.1)
          (subst (λ (n : ℕ). AreObjectsRead p (view h'.claimer) h'.carried n c.args.dirty.number (64 * c.loop-j.j) (64 * (c.loop-j.j + 1))) i.0.place e.read),
    )

pub returns-clause-read : goal.returns-clause-read
returns-clause-read g c =
    let p = pause_view c.args.self.now in let h = c.loop-j.helper in let below = c.loop-j.auto.j-end (omega arith) in let test = c.loop-j-test.false in
    objects_page p c.requires.serving.fits.ready.map c.args.dirty.page c.args.dirty.block.now c.requires.cut (view h.claimer) h.carried c.args.helper.now.place c.args.dirty.number
    (subst (AreObjectsRead p (view h.claimer) h.carried c.args.helper.now.place c.args.dirty.number (PAGE_GRANULES * c.args.dirty.page)) (let e : 64 * c.loop-j.j ≡ PAGE_GRANULES * (c.args.dirty.page + 1) = omega arith in e) c.loop-j.invariant.1)
