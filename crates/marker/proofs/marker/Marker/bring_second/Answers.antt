use Rattle.std.proofs.Common.{◌+◌, ◌<◌, List, length, IsPermutation, refl, subst}
use Rattle.marker.specs.declared.entry.Entry.{Entry}
use Rattle.marker.specs.Marking.{Marking, with_stack}
use Rattle.marker.specs.Entries.{AreUnreadFrom, IsTurned}
use Rattle.marker.proofs.Known.{from_more}
use Rattle.marker.proofs.Turning.{consistent_turned, second_known, second_moves}
use Rattle.marker.proofs.marker.Marker.bring_second.Goals as goal
use Rattle.marker.proofs.marker.Marker.bring_second.Goals.{After-swap_two}

-- the marker before
abbrev was : After-swap_two → Marking
was c = record { marks = c.self.inside.marks; dirty = c.self.inside.dirty; carried = c.self.inside.carried; current = c.self.inside.current; stack = c.self.inside.stack }

moves : (c : After-swap_two) → IsPermutation c.self.inside.stack c.swap_two.new.self
moves c = second_moves c.self.inside.stack c.swap_two.new.self c.swap_two.ensures

pub invariant_of-self : goal.invariant_of-self
invariant_of-self c = consistent_turned (was c) c.swap_two.new.self c.self.invariant (moves c)

pub returns-clause-turned : goal.returns-clause-turned
returns-clause-turned c =
    let es : List Entry = c.swap_two.new.self in
    subst (λ (m : Marking). IsTurned m (with_stack (was c) es)) c.self.view_is (record { new_is = refl; moves = moves c })

pub returns-clause-known : goal.returns-clause-known
returns-clause-known c found n =
    let es : List Entry = c.swap_two.new.self in
    subst (λ (m : Marking). n + 1 < length m.stack → AreUnreadFrom found m n m.stack → AreUnreadFrom found (with_stack (was c) es) n es) c.self.view_is
    (λ low known. from_more found (was c) (with_stack (was c) es) n es (λ j h. h) (second_known c.self.inside.stack es c.swap_two.ensures found (was c) n low known))
