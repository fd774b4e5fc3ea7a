-- What is written down explains what was answered.
use Rattle.std.specs.Prelude.{ℕ, List, map}
use Rattle.shared.specs.Journals.{made_of}
use Rattle.workloads.specs.Workloads.{ActorLines}
use Rattle.workloads.specs.Printing.{ActorReplies}
use Rattle.workloads.specs.OneHistory.{HaveOneHistory}
use Rattle.thread_records.specs.Records.{AreWritten}

-- one history explains the replies beside whose lines they stand
pub explained : (pages : ℕ) (lists : ActorLines) (replies : ActorReplies) (lines : List (List ℕ)) → AreWritten pages lists replies lines → HaveOneHistory pages lists replies
explained pages lists replies lines are = record { history = map made_of are.entries; explains = are.explains }
