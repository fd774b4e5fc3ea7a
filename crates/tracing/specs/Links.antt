-- How links change.
use Rattle.std.specs.Prelude.{◌==◌, ◌&&◌, Bool, not, Some, None, List, [], ◌∷◌, ◌++◌, flat_map, map, if◌then◌else◌}
use Rattle.std.specs.List.{list_any}
use Rattle.links.specs.declared.row.Link.{Link}
use Rattle.links.specs.Rows.{has_at}
use Rattle.pages.specs.Memory.{word_index}
use Rattle.trace_lines.specs.declared.record.LinkChange.{LinkChange}
use Rattle.tracing.specs.Sets.{those_that}

-- whether this link is one of the row
abbrev pub has_link : List Link → Link → Bool
has_link row wanted = list_any (λ l. l.address == wanted.address && l.base == wanted.base) row

-- the links at whose addresses none stands any more
abbrev pub links_gone : List Link → List Link → List Link
links_gone old new = those_that (λ l. not (has_at new l.address)) old

-- the link stands no more
abbrev pub goes : Link → LinkChange
goes l = record { place = word_index l.address; base = None }

-- the link stands, and names its object
abbrev pub comes : Link → LinkChange
comes l = record { place = word_index l.address; base = Some (word_index l.base) }

-- the links that came, or name another object
abbrev pub links_came : List Link → List Link → List LinkChange
links_came old new = flat_map (λ l. if not (has_link old l) then comes l ∷ [] else []) new

-- those that are gone, and those that came
abbrev pub link_changes : List Link → List Link → List LinkChange
link_changes old new = map goes (links_gone old new) ++ links_came old new
