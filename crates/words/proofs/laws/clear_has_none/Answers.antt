use Rattle.std.proofs.Common.{sym, ◌∙◌}
use Rattle.std.proofs.lemmas.Bool.{true≢false}
use Rattle.words.proofs.laws.clear_has_none.Goals as goal

pub returns : goal.returns
returns c row n clear k has = true≢false (sym has ∙ clear.clear k)
