use Rattle.std.proofs.Common.{◌≡◌, ℕ, ◌∙◌, subst, true, length, sym, ap, rules, arith}
use Rattle.words.specs.declared.class.Kind.TheVariants.{Normal, PointerFree}
use Rattle.marker.specs.Closure.{held}
use Rattle.marker.proofs.MarkWord.{markable}
use Rattle.final_pause.specs.Pauses.{pause_view}
use Rattle.final_pause.specs.Helping.{found}
use Rattle.final_pause.specs.Serving.{IsTurnAt}
use Rattle.final_pause.proofs.Serving.{serves_words}
use Rattle.final_pause.proofs.share.Pause.read_part.Goals as goal

pub is_marked-requires-clause-low : goal.is_marked-requires-clause-low
is_marked-requires-clause-low g c = (c.requires.serving.fits.ready.map.placed _ _ c.requires.object).above

pub is_marked-requires-clause-inside : goal.is_marked-requires-clause-inside
is_marked-requires-clause-inside g c =
    let p = pause_view c.args.self.now in let r = c.requires.serving.fits.ready in
    (markable (length p.map) (found p) c.args.piece.found.base c.args.piece.found p.marker.marks r.map c.requires.object (ap length (sym r.start) ∙ r.granules)).1

pub returns-then-eq-clause-read : goal.returns-then-eq-clause-read
returns-then-eq-clause-read g c =
    let k : c.args.piece.found.kind ≡ PointerFree = search rules in
    (λ n. let x : PointerFree ≡ Normal = sym k ∙ n in absurd (cc x))

pub granule_of-requires : goal.granule_of-requires
granule_of-requires g c = let a = (c.requires.serving.fits.ready.map.placed _ _ c.requires.object).above in omega arith

pub returns-then-not-is_turn-clause-read : goal.returns-then-not-is_turn-clause-read
returns-then-not-is_turn-clause-read g c =
    (λ n m turn. let same = c.granule_of.ensures in let t : c.is_turn.result ≡ true = c.is_turn.ensures.1 (subst (λ (k : ℕ). IsTurnAt (pause_view c.args.self.now) c.args.helper.now.place c.args.number k) (sym same) turn) in grind (arith, t, c.if-not-is_turn.true))

pub returns-then-not-is_marked-clause-read : goal.returns-then-not-is_marked-clause-read
returns-then-not-is_marked-clause-read g c =
    (λ n m turn. let t : c.is_marked.result ≡ true = c.is_marked.ensures ∙ m in grind (arith, t, c.if-not-is_marked.true))

pub returns-clause-serves : goal.returns-clause-serves
returns-clause-serves g c =
    let p = pause_view c.args.self.now in let map = c.requires.serving.fits.ready.map in
    let k : c.args.piece.found.kind ≡ Normal = search rules in
    let t : c.is_marked.result ≡ true = search rules in
    serves_words p map c.args.piece.found _ _ c.args.helper.now c.read_words.new.helper
    (held c.requires.object (sym c.is_marked.ensures ∙ t)) k c.read_words.ensures c.requires.serving

pub returns-clause-read : goal.returns-clause-read
returns-clause-read g c = (λ n m turn i from below. c.read_words.ensures.read i from below)
