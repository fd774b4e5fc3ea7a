use Rattle.std.proofs.Common.{◌≡◌, ◌<◌, false, get_or, length, refl, sym, ◌∙◌, arith}
use Rattle.std.proofs.lemmas.List.{get_or_read}
use Rattle.std.proofs.lemmas.Option.{slice_get_within}
use Rattle.plain_heap.proofs.Lists.{lists_nothing, lists_listed, lists_new, listed_room}
use Rattle.plain_heap.proofs.listing.Listing.list_one.Goals as goal

pub returns-in_default : goal.returns-in_default
returns-in_default c = lists_nothing _ _ _ c.requires c.in_default.ensures.none

pub returns-then-index : goal.returns-then-index
returns-then-index c =
    let here = c.in-Some.ensures.some in
    let short : c.in-Some.index < length c.args.directory.now.objects.items = slice_get_within c.args.directory.now.objects.items c.in-Some.index here.0 here.1 in
    let lt : c.in-Some.index < length c.args.self.now.marks.items = let room = c.requires.room.marks in omega arith in
    lists_listed _ _ _ _ c.requires here (sym (get_or_read _ _ _ lt c.index.ensures false) ∙ c.if-index.true)

pub push_reserved-requires : goal.push_reserved-requires
push_reserved-requires c =
    let here = c.in-Some.ensures.some in
    let short : c.in-Some.index < length c.args.directory.now.objects.items = slice_get_within c.args.directory.now.objects.items c.in-Some.index here.0 here.1 in
    let room = c.requires.room.marks in
    let lt : c.in-Some.index < length c.args.self.now.marks.items = omega arith in
    let new : get_or c.args.self.now.marks.items c.in-Some.index false ≡ false = sym (get_or_read _ _ _ lt c.index.ensures false) ∙ c.if-index.false in
    let few : length c.args.self.now.order.items < length c.args.directory.now.objects.items = listed_room _ _ _ c.requires.listed _ short room new in
    let spare = c.requires.room.order in
    let ok = c.args.self.now.order.ok in
    omega (arith, ok.0)

pub returns : goal.returns
returns c =
    let here = c.in-Some.ensures.some in
    let short : c.in-Some.index < length c.args.directory.now.objects.items = slice_get_within c.args.directory.now.objects.items c.in-Some.index here.0 here.1 in
    let room = c.requires.room.marks in
    let lt : c.in-Some.index < length c.args.self.now.marks.items = omega arith in
    let new : get_or c.args.self.now.marks.items c.in-Some.index false ≡ false = sym (get_or_read _ _ _ lt c.index.ensures false) ∙ c.if-index.false in
    lists_new _ _ _ _ _ c.requires here new refl c.push_reserved.ensures.items (omega (arith, c.push_reserved.ensures.capacity))
