use Rattle.std.proofs.Common.{arith}
use Rattle.std.proofs.lemmas.List.{length-take, length-drop}
use Rattle.scripts.proofs.Bytes.{Appends-on}
use Rattle.scripts.proofs.source.write_all.Goals as goal

pub loop-done-preserved : goal.loop-done-preserved
loop-done-preserved g c = record {
  within = let h = simp (length-take, length-drop) at c.in_ok-n.ensures.within in omega arith;
  written = Appends-on _ _ _ c.args.bytes.now _ _ c.loop-done.invariant.written c.in_ok-n.ensures.bytes;
  faults = omega (arith, c.loop-done.invariant.faults, c.in_ok-n.ensures.ok (omega arith));
}
