use Rattle.std.proofs.Common.{◌≡◌, ◌%◌, sym, subst}
use Rattle.std.proofs.lemmas.List.Elements.{All-filter}
use Rattle.links.specs.Rows.{IsAlignedRow}
use Rattle.links.specs.declared.row.Link.{Link}
use Rattle.plain_heap.proofs.along.take_along.Goals as goal

pub keep-requires : goal.keep-requires
keep-requires c = subst IsAlignedRow (sym c.keep_links.ensures.links) (record { aligned = All-filter _ (λ (l : Link). l.address % 8 ≡ 0) _ (subst IsAlignedRow (sym c.as_slice.ensures.links) c.as_slice.ensures.row.aligned).aligned })
