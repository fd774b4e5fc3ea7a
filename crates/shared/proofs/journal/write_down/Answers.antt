use Rattle.std.proofs.Common.{◌≡◌, false, true≢false, sym, ◌∙◌}
use Rattle.heap_history.specs.Passes.{MadeEvent}
use Rattle.shared.specs.declared.journal.Journal.{Journal}
use Rattle.shared.specs.declared.journal.Journal.TheVariants.{Off, On, Lost}
use Rattle.shared.specs.Journals.{is_kept, TakesDown}
use Rattle.shared.proofs.journal.write_down.Goals as goal

-- a journal that isn't kept may stay as it is
stays : (j : Journal) (e : MadeEvent) → is_kept j ≡ false → TakesDown j e j
stays Off e h history of = tt
stays (On entries) e h history of = absurd (true≢false h)
stays Lost e h history of = tt

pub returns-else-is_on : goal.returns-else-is_on
returns-else-is_on c = stays c.args.journal.now _ (sym c.is_on.ensures ∙ c.if-is_on.false)
