use Rattle.std.proofs.Common.{◌/◌, ◌<◌, length, refl, sym, ap, ◌∙◌, subst, arith}
use Rattle.mark_bits.specs.declared.claimer_view.ClaimerView.{ClaimerView}
use Rattle.mark_bits.specs.Claims.{knows}
use Rattle.mark_bits.proofs.Claiming.{claims}
use Rattle.mark_bits.proofs.Words.{claim_known, shows-more}
use Rattle.mark_bits.proofs.table.MarkTable.claim.Goals as goal

pub fetch_or-found-requires : goal.fetch_or-found-requires
fetch_or-found-requires c =
    let table = c.args.self.now in
    let told = table.told in let bit = c.if-bit-word_count.false in let count = c.word_count.ensures in
    let inside : c.args.bit / 64 < table.table.shared.key.words = omega arith in
    (c.requires.of.table, omega arith, claims table.table.shared.key.marks.value _ _ _ _ c.args.bit c.args.me.now.part inside)

pub invariant_of-me : goal.invariant_of-me
invariant_of-me c =
    let after = (c.fetch_or-found.ensures.2.1 c.args.bit refl refl).0 in
    record {
      part = subst (λ (u : ClaimerView). 0 < u.right.0) (sym after) c.args.me.now.part;
      no_slot = ap length c.fetch_or-found.ensures.2.0 ∙ c.args.me.now.no_slot;
    }

pub returns-clause-of : goal.returns-clause-of
returns-clause-of c =
    let after = (c.fetch_or-found.ensures.2.1 c.args.bit refl refl).0 in
    record { table = c.fetch_or-found.ensures.0 ∙ c.requires.of.table; start = ap (λ (u : ClaimerView). u.start) after ∙ c.requires.of.start }

pub returns-clause-learns : goal.returns-clause-learns
returns-clause-learns c =
    let after = (c.fetch_or-found.ensures.2.1 c.args.bit refl refl).0 in
    record { right = ap (λ (u : ClaimerView). u.right) after; known = λ k h. ap (λ (u : ClaimerView). knows u k) after ∙ shows-more k _ _ h }

pub returns-clause-known : goal.returns-clause-known
returns-clause-known c = λ _. claim_known _ _ c.args.bit _ (c.fetch_or-found.ensures.2.1 c.args.bit refl refl).0
