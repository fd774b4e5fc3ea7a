use Rattle.std.proofs.Common.{◌≡◌, ◌++◌, take}
use Rattle.std.specs.Prelude.{string_bytes}
use Rattle.trace_lines.specs.Texts.{more_text}
use Rattle.trace_lines.proofs.shown.put_more.Given as goal

-- the items so far stand behind the text
abbrev pub invariant-loop-item : goal.invariant-loop-item
invariant-loop-item g l = string_bytes l.behind ≡ string_bytes l.initial.behind ++ more_text g.T.Shown.text (take l.item-index l.items)
