use Rattle.std.proofs.Common.{◌<◌, ℕ, sym, subst}
use Rattle.mark_bits.specs.Tables.{granules_of}
use Rattle.final_pause.specs.Pauses.{pause_view}
use Rattle.final_pause.proofs.share.Pause.granule.Goals as goal

pub granule_of-requires : goal.granule_of-requires
granule_of-requires c = (c.requires.ready.map.placed c.args.found.base c.args.found c.requires.object).above

pub returns-clause-inside : goal.returns-clause-inside
returns-clause-inside c =
    let p = pause_view c.args.self.now in
    subst (λ (n : ℕ). n < granules_of p.table) (sym c.granule_of.ensures) (c.requires.ready.room c.args.found c.requires.object)
