use Rattle.std.proofs.Common.{◌≡◌, ◌∙◌, sym, true, false}
use Rattle.std.specs.Prelude.{nat_lt}
use Rattle.words.specs.declared.limits.TheConstants.{PAGE_WORDS}
use Rattle.final_pause.specs.Pauses.{pause_view}
use Rattle.final_pause.proofs.OwnWords.{turn_long, turn_short}
use Rattle.final_pause.proofs.share.Pause.read_piece.Goals as goal

pub returns-then-is_long-clause-read : goal.returns-then-is_long-clause-read
returns-then-is_long-clause-read g c = λ i from below turn.
    let e : nat_lt PAGE_WORDS c.args.piece.found.len ≡ true = sym c.is_long.ensures ∙ c.if-is_long.true in
    c.read_spans.ensures.read i from below (sym (turn_long (pause_view c.args.self.now) c.args.number c.args.piece.found i e) ∙ turn)

pub returns-else-is_long-clause-read : goal.returns-else-is_long-clause-read
returns-else-is_long-clause-read g c = λ i from below turn.
    let e : nat_lt PAGE_WORDS c.args.piece.found.len ≡ false = sym c.is_long.ensures ∙ c.if-is_long.false in
    c.read_turn.ensures.read i from below (sym (turn_short (pause_view c.args.self.now) c.args.number c.args.piece.found i e) ∙ turn)
