use Rattle.std.proofs.Common.{◌≡◌, ◌++◌, take}
use Rattle.std.specs.Prelude.{string_bytes}
use Rattle.written_runs.specs.Written.{bases_text}
use Rattle.written_runs.proofs.writing.put_bases.Given as goal

-- the bases so far stand behind the text
abbrev pub invariant-loop-base : goal.invariant-loop-base
invariant-loop-base l = string_bytes l.text ≡ string_bytes l.initial.text ++ bases_text (take l.base-index l.bases)
