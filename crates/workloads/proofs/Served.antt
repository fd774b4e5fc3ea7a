-- How a run of a workload ends.
use Rattle.std.proofs.Common.{◌≡◌, ℕ, List, [], refl, ap}
use Rattle.std.specs.Prelude.{Option, Result, Ok, Err, OnOk, OnErr, take, ⊤}
use Rattle.std.specs.Io.KnownBytes.{Appends}
use Rattle.scripts.specs.declared.errors.ScriptError.{ScriptError}
use Rattle.scripts.specs.declared.errors.ScriptError.TheVariants.{BadLine, Read, Write, Memory}
use Rattle.scripts.specs.Ends.{read_faults}
use Rattle.scripts.proofs.Bytes.{Appends-none}
use Rattle.workloads.specs.Workloads.{ActorLines}
use Rattle.workloads.specs.Reading.{IsReadAs, ReadsWorkload}
use Rattle.workloads.specs.Printing.{ActorReplies, all_text}
use Rattle.workloads.specs.OneHistory.{HaveOneHistory}
use Rattle.workloads.specs.Serving.{IsServedAs, ServesWorkload}

as_read : (pages : ℕ) (read left : List ℕ) (fault : ScriptError) → IsReadAs read left (Err fault) → IsServedAs pages read left [] (Err fault)
as_read pages read left (BadLine n) a = (a, refl)
as_read pages read left Read a = (a.0, a.1, refl)
as_read pages read left Write a = absurd a
as_read pages read left Memory a = refl

-- nothing is written where the workload can't be read
pub unread : (pages : ℕ) (input : List ℕ) (reader writer : Option (List ℕ)) (fault : ScriptError) → ReadsWorkload input reader (Err fault) → ServesWorkload pages input reader writer writer (Err fault)
unread pages input reader writer fault r = record { read = r.read; left = r.left; written = []; is_input = r.is_input; is_left = r.is_left; is_written = Appends-none writer; answer = as_read pages r.read r.left fault r.answer }

-- nor where it can't be run
pub no_room : (pages : ℕ) (input : List ℕ) (reader writer : Option (List ℕ)) (lists : ActorLines) → ReadsWorkload input reader (Ok lists) → ServesWorkload pages input reader writer writer (Err Memory)
no_room pages input reader writer lists r = record { read = r.read; left = r.left; written = []; is_input = r.is_input; is_left = r.is_left; is_written = Appends-none writer; answer = refl }

-- the replies were printed, or a beginning of them
pub printed : (pages : ℕ) (input : List ℕ) (reader old new : Option (List ℕ)) (lists : ActorLines) (replies : ActorReplies) (result : Result ⊤ ScriptError) → ReadsWorkload input reader (Ok lists) → HaveOneHistory pages lists replies
    → OnOk result (Appends old new (all_text pages replies)) → OnErr result ((n : ℕ) × Appends old new (take n (all_text pages replies))) → OnErr result (result ≡ Err Write) → ServesWorkload pages input reader old new result
printed pages input reader old new lists replies (Ok done) r one whole part write = record {
  read = r.read;
  left = r.left;
  written = all_text pages replies;
  is_input = r.is_input;
  is_left = r.is_left;
  is_written = whole;
  answer = (record { lists = lists; replies = replies; are = r.answer.0; one = one; text_is = refl }, r.answer.1);
}
printed pages input reader old new lists replies (Err Write) r one whole part write = record {
  read = r.read;
  left = r.left;
  written = take part.0 (all_text pages replies);
  is_input = r.is_input;
  is_left = r.is_left;
  is_written = part.1;
  answer = (all_text pages replies, record { lists = lists; replies = replies; are = r.answer.0; one = one; text_is = refl }, record { bytes = part.0; begins = refl }, r.answer.1);
}
printed pages input reader old new lists replies (Err (BadLine n)) r one whole part write = absurd (cc write)
printed pages input reader old new lists replies (Err Read) r one whole part write = absurd (cc write)
printed pages input reader old new lists replies (Err Memory) r one whole part write = absurd (cc write)

-- who prints reads nothing
pub reads_nothing : (result : Result ⊤ ScriptError) → OnErr result (result ≡ Err Write) → read_faults result ≡ 0
reads_nothing (Ok done) write = refl
reads_nothing (Err fault) write = ap read_faults write
