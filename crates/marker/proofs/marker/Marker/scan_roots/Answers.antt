use Rattle.std.proofs.Common.{ℕ, List, subst}
use Rattle.block_map.specs.FoundIn.{found_in}
use Rattle.marker.specs.Growth.{MarksWords}
use Rattle.marker.proofs.Words.{Scans, scanned}
use Rattle.marker.proofs.marker.Marker.scan_roots.Goals as goal

marked : (c : goal.After-mark_all) → MarksWords (found_in c.args.map.now) c.args.self.now c.args.roots.now c.mark_all.new.self
marked c = subst (λ (ws : List ℕ). MarksWords (found_in c.args.map.now) c.args.self.now ws c.mark_all.new.self) c.new.ensures c.mark_all.ensures.marks

scans : (c : goal.After-mark_all) → Scans (found_in c.args.map.now) c.args.roots.now c.args.self.now c.mark_all.new.self
scans c = scanned c.heap_bytes-heap_bytes.ensures.lawful.map c.laws.ensures c.requires.pages (marked c)

pub returns-clause-traces : goal.returns-clause-traces
returns-clause-traces c = (scans c).traces

pub returns-clause-roots : goal.returns-clause-roots
returns-clause-roots c = (scans c).targets

pub returns-clause-dirty : goal.returns-clause-dirty
returns-clause-dirty c = (scans c).dirty

pub returns-clause-cost : goal.returns-clause-cost
returns-clause-cost c = (scans c).cost
