use Rattle.std.proofs.Common.{sym, ◌∙◌, arith}
use Rattle.written_runs.proofs.Arguments.{not_whole}
use Rattle.written_runs.proofs.command.bytes_given.Goals as goal

pub returns-then-bytes-ne0-clause-given : goal.returns-then-bytes-ne0-clause-given
returns-then-bytes-ne0-clause-given c =
    not_whole c.args.text.now c.in_ok-bytes.bytes (sym c.as_bytes.ensures.value ∙ c.in_ok-bytes.ensures.0) (let most = c.in_ok-bytes.ensures.2 in omega (arith, most)) c.if-bytes-ne0.true
