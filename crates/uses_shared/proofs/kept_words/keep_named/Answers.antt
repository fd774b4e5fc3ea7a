use Rattle.std.proofs.Common.{ℕ, subst}
use Rattle.std.specs.Prelude.{Option, IfSome}
use Rattle.uses_shared.specs.Keeping.{PutsAndLoads}
use Rattle.uses_shared.proofs.kept_words.keep_named.Goals as goal

pub judge-requires-clause-one : goal.judge-requires-clause-one
judge-requires-clause-one g c = record {
  start = c.in-Ok-Ok.one;
  begun = c.in-Ok-Ok.ensures;
  does = subst (λ (o : Option ℕ). IfSome o (λ loaded. PutsAndLoads g.J.Naming.origin c.args.words.0 loaded c.in-Ok-Ok.one c.run_three-one.result.0.0)) c.in-Some-Some.is-0 c.run_three-one.ensures.one;
}
