use Rattle.std.proofs.Common.{refl}
use Rattle.blocks.proofs.Begins.{table_begins}
use Rattle.blocks.proofs.starts.begins_in.Goals as goal

pub returns : goal.returns
returns c b lt = table_begins c.index.result c.args.j c.args.class _ b c.index.ensures c.requires refl lt
