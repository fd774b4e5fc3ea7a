use Rattle.std.proofs.Common.{◌≤◌, length, sym, ◌∙◌, subst}
use Rattle.words.specs.declared.limits.TheConstants.{MOST_PAGES}
use Rattle.marker.proofs.Closures.{marks_of}
use Rattle.marker.proofs.MarkWord.{markable}
use Rattle.marker.proofs.marker.Marker.unread.Goals as goal

pub is_marked-requires-clause-inside : goal.is_marked-requires-clause-inside
is_marked-requires-clause-inside c =
    (markable (length c.args.map.now) _ _ c.in_ok-found.found _ c.find.ensures.lawful.map (sym c.find.ensures.found ∙ c.in_ok-found.was) (marks_of _ _ c.laws.ensures c.requires.pages)).1

pub returns-then-is_marked-clause-placed : goal.returns-then-is_marked-clause-placed
returns-then-is_marked-clause-placed c =
    (c.find.ensures.lawful.map.placed _ _ (sym c.find.ensures.found ∙ c.in_ok-found.was), subst (λ n. n ≤ MOST_PAGES) c.requires.pages c.laws.ensures.few)
