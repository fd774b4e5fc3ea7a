use Rattle.std.proofs.Common.{◌+◌, ◌/◌, ◌∙◌, length, ap, sym, subst}
use Rattle.std.proofs.lemmas.List.{with_items_is}
use Rattle.words.specs.Bits.{bits, IsClear, IsZeroBelow}
use Rattle.words.proofs.Rows.{cleared_below}
use Rattle.words.proofs.bit_row.BitRow.clear_below.Goals as goal

pub returns : goal.returns
returns c =
    let z : IsZeroBelow c.self.inside.words.items c.clear_first.new.words (c.min.result / 64 + 1) = subst (λ ws. IsZeroBelow ws c.clear_first.new.words (c.min.result / 64 + 1)) c.deref_mut.ensures.value c.clear_first.ensures in
    rw (← c.self.view_is)
    (subst (λ ws. IsClear (bits ws c.self.inside.len) (length (bits c.self.inside.words.items c.self.inside.len))) (sym (with_items_is c.self.inside.words c.clear_first.new.words (c.clear_first.ensures.size ∙ c.deref_mut.ensures.len)))
    (cleared_below c.self.inside.words.items c.clear_first.new.words c.self.inside.len c.args.high (c.min.result / 64 + 1) (ap (λ n. n / 64 + 1) c.min.ensures) (rw (← c.self.view_is) at c.requires) z))
