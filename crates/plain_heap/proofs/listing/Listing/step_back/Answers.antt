use Rattle.std.proofs.Common.{◌≡◌, drop, refl, subst}
use Rattle.std.specs.Prelude.{Some, Contains, slice_get}
use Rattle.std.proofs.lemmas.List.{take-append-drop}
use Rattle.std.proofs.lemmas.List.Elements.{Contains-append_left}
use Rattle.std.proofs.lemmas.Option.{slice_get_read}
use Rattle.plain_heap.proofs.Pathing.{not_unled, goes_back}
use Rattle.plain_heap.proofs.listing.Listing.step_back.Goals as goal

pub link_into-requires-clause-below : goal.link_into-requires-clause-below
link_into-requires-clause-below c i has =
    let before = rw c.deref.ensures.value at has in
    c.requires.listed.listed.below i (subst (λ l. Contains l i) (take-append-drop c.args.place c.args.self.now.order.items) (Contains-append_left _ (drop c.args.place c.args.self.now.order.items) i before))

pub unreachable-requires : goal.unreachable-requires
unreachable-requires c =
    let at : slice_get c.args.self.now.order.items c.args.place ≡ Some c.index-own.result.now = slice_get_read c.args.self.now.order.items _ c.args.place c.index-own.result.now refl c.requires.within c.index-own.ensures in
    not_unled _ _ c.args.graph.words.now c.args.graph.directory.now.objects.items c.args.self.now.order.items c.requires.listed.listed.distinct c.requires.discovered c.args.place c.index-own.result.now c.object-object.result at c.object-object.ensures c.in_default.ensures.none
    (rw c.deref.ensures.value at c.in_default-link_into.ensures.none)

pub returns : goal.returns
returns c =
    let at : slice_get c.args.self.now.order.items c.args.place ≡ Some c.index-own.result.now = slice_get_read c.args.self.now.order.items _ c.args.place c.index-own.result.now refl c.requires.within c.index-own.ensures in
    goes_back _ c.args.graph.words.now c.args.graph.directory.now.objects.items c.args.self.now.order.items c.args.place c.index-own.result.now c.object-object.result at c.object-object.ensures _ c.in-Some-link_into.keeper
    (rw c.deref.ensures.value at c.in-Some-link_into.ensures.some) _ _ c.in_ok-push-2.ensures.items
