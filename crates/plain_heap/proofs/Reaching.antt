-- A list that is gone along lists what is reached.
use Rattle.std.proofs.Common.{◌≡◌, ℕ, ◌+◌, ◌-◌, ◌<◌, ◌≤◌, List, [], ◌∷◌, ◌++◌, length, length-append, get_or, take, sym, ap, ◌∙◌, subst, arith, ⊎_elim}
use Rattle.std.specs.Prelude.{Some, Contains, slice_get}
use Rattle.std.proofs.lemmas.Bool.{cases_lt}
use Rattle.std.proofs.lemmas.Option.{same_Some, slice_get_within, slice_get-get_or, get_or_from_slice_get}
use Rattle.std.proofs.lemmas.List.{take_all, take_more, take-append-le, get_or_append_left, get_or-append-add}
use Rattle.std.proofs.lemmas.List.Elements.{Contains-push_cases, Contains-append_left, Contains-append_cases, Contains-get_or}
use Rattle.plain_heap.specs.declared.extent.Extent.{Extent}
use Rattle.plain_heap.specs.declared.listing.Listing.{Listing}
use Rattle.plain_heap.specs.Reached.{PointsIntoNth, IsReachedNth, by_root, by_link, MarksReached, links_of}
use Rattle.plain_heap.specs.Discovery.{IsLedTo, by_root, by_earlier, IsDiscovered}
use Rattle.plain_heap.specs.Listing.{IsListing, KeepsRoom, ListsAll}
use Rattle.plain_heap.proofs.Lists.{nothing_in, listed_few}

-- The list after so many of its objects were read: all on it are reached, it has what the roots point into, and what the
-- words of these objects point into.
pub record IsTraced (origin : ℕ) (roots words : List ℕ) (row : List Extent) (start : Listing) (done : ℕ) (l : Listing) : Type 0 where
  pub ready : IsListing row l
  pub room : KeepsRoom start l
  pub sound : (i : ℕ) → Contains l.order.items i → IsReachedNth origin roots words row i
  pub rooted : (w i : ℕ) → Contains roots w → PointsIntoNth row w i → Contains l.order.items i
  pub traced : (i : ℕ) (e : Extent) (w j : ℕ) → Contains (take done l.order.items) i → slice_get row i ≡ Some e → Contains (links_of origin words e) w → PointsIntoNth row w j → Contains l.order.items j
  pub led : (k i : ℕ) → slice_get l.order.items k ≡ Some i → IsLedTo origin roots words row l.order.items k i

-- an element of the first or the second of two lists
is_in : (xs : List ℕ) (k x : ℕ) → slice_get xs k ≡ Some x → Contains xs x
is_in xs k x at = (k, slice_get_within xs k x at, get_or_from_slice_get xs k x x at)

get_left : (xs ys : List ℕ) (k x : ℕ) → slice_get xs k ≡ Some x → slice_get (xs ++ ys) k ≡ Some x
get_left xs ys k x at =
    let lt : k < length xs = slice_get_within xs k x at in
    slice_get-get_or (xs ++ ys) k x (let l = length-append xs ys in omega arith) ∙ ap Some (get_or_append_left xs ys x k lt ∙ get_or_from_slice_get xs k x x at)

from_left : (xs ys : List ℕ) (k x : ℕ) → k < length xs → slice_get (xs ++ ys) k ≡ Some x → slice_get xs k ≡ Some x
from_left xs ys k x lt at = slice_get-get_or xs k x lt ∙ ap Some (sym (get_or_append_left xs ys x k lt) ∙ get_or_from_slice_get (xs ++ ys) k x x at)

in_right : (xs ys : List ℕ) (k x : ℕ) → length xs ≤ k → slice_get (xs ++ ys) k ≡ Some x → Contains ys x
in_right xs ys k x past at =
    let lt : k < length (xs ++ ys) = slice_get_within (xs ++ ys) k x at in
    let l : length (xs ++ ys) ≡ length xs + length ys = length-append xs ys in
    let is : length xs + (k - length xs) ≡ k = omega arith in
    (k - length xs, omega arith, sym (get_or-append-add xs ys (k - length xs) x) ∙ ap (λ n. get_or (xs ++ ys) n x) is ∙ get_or_from_slice_get (xs ++ ys) k x x at)

module _ (origin : ℕ) (roots words : List ℕ) (row : List Extent) (start : Listing) where
  -- the roots are read, and no object
  pub traced_roots : (mid l : Listing) → mid.order.items ≡ [] → KeepsRoom start mid → ListsAll row roots mid l → IsTraced origin roots words row start 0 l
  traced_roots mid l none room lists = record {
    ready = lists.ready;
    room = record { marks = lists.room.marks ∙ room.marks; order = let before = room.order in let after = lists.room.order in omega arith };
    sound = λ i has. ⊎_elim
        (λ old. absurd (nothing_in i (subst (λ o. Contains o i) none old)))
        (λ new. let o = lists.goes.only i new in by_root o.1 o.2)
        (Contains-append_cases mid.order.items lists.goes.more i (subst (λ o. Contains o i) lists.goes.goes_on has));
    rooted = lists.goes.all;
    traced = λ i e w j has at among p. absurd (nothing_in i has);
    led = λ k i at. ⊎_elim
        (λ old. absurd (nothing_in i (subst (λ o. Contains o i) none old)))
        (λ new. let o = lists.goes.only i new in by_root o.1 o.2)
        (Contains-append_cases mid.order.items lists.goes.more i (subst (λ o. Contains o i) lists.goes.goes_on (is_in l.order.items k i at)));
  }

  -- all that is listed was read before
  pub traced_past : (done : ℕ) (l : Listing) → length l.order.items ≤ done → IsTraced origin roots words row start done l → IsTraced origin roots words row start (done + 1) l
  traced_past done l past h = record {
    ready = h.ready;
    room = h.room;
    sound = h.sound;
    rooted = h.rooted;
    traced = λ i e w j has at among p. h.traced i e w j (subst (λ o. Contains o i) (take_all (done + 1) l.order.items (omega arith) ∙ sym (take_all done l.order.items past)) has) at among p;
    led = h.led;
  }

  -- one object more is read
  pub traced_more : (done index : ℕ) (e : Extent) (l l' : Listing) → done < length l.order.items → index ≡ get_or l.order.items done index → slice_get row index ≡ Some e → IsTraced origin roots words row start done l
      → ListsAll row (links_of origin words e) l l' → IsTraced origin roots words row start (done + 1) l'
  traced_more done index e l l' lt next there h lists = record {
    ready = lists.ready;
    room = record { marks = lists.room.marks ∙ h.room.marks; order = let before = h.room.order in let after = lists.room.order in omega arith };
    sound = λ i has. ⊎_elim
        (λ old. h.sound i old)
        (λ new. let o = lists.goes.only i new in by_link (h.sound index (subst (Contains l.order.items) (sym next) (Contains-get_or l.order.items done index lt))) there o.1 o.2)
        (Contains-append_cases l.order.items lists.goes.more i (subst (λ o. Contains o i) lists.goes.goes_on has));
    rooted = λ w i among p. later i (h.rooted w i among p);
    traced = λ i f w j has at among p. ⊎_elim
        (λ old. later j (h.traced i f w j old at among p))
        (λ same. let is : e ≡ f = same_Some e f (sym there ∙ ap (slice_get row) same ∙ at) in lists.goes.all w j (subst (λ x. Contains (links_of origin words x) w) (sym is) among) p)
        (Contains-push_cases (take done l.order.items) index i (subst (λ o. Contains o i) first has));
    led = λ k i at. ⊎_elim (old_led k i at) (new_led k i at) (cases_lt k (length l.order.items));
  }
    where
      there_now : (k i : ℕ) → slice_get l.order.items k ≡ Some i → slice_get l'.order.items k ≡ Some i
      there_now k i at = ap (λ o. slice_get o k) lists.goes.goes_on ∙ get_left l.order.items lists.goes.more k i at

      led_now : (k i : ℕ) → IsLedTo origin roots words row l.order.items k i → IsLedTo origin roots words row l'.order.items k i
      led_now k i (by_root among p) = by_root among p
      led_now k i (by_earlier {before = before} {from = from} lt at there among p) = by_earlier lt (there_now before from at) there among p

      old_led : (k i : ℕ) → slice_get l'.order.items k ≡ Some i → k < length l.order.items → IsLedTo origin roots words row l'.order.items k i
      old_led k i at short = led_now k i (h.led k i (from_left l.order.items lists.goes.more k i short (ap (λ o. slice_get o k) (sym lists.goes.goes_on) ∙ at)))

      new_led : (k i : ℕ) → slice_get l'.order.items k ≡ Some i → length l.order.items ≤ k → IsLedTo origin roots words row l'.order.items k i
      new_led k i at past =
          let o = lists.goes.only i (in_right l.order.items lists.goes.more k i past (ap (λ o. slice_get o k) (sym lists.goes.goes_on) ∙ at)) in
          by_earlier {before = done} {from = index} (omega arith) (there_now done index (slice_get-get_or l.order.items done index lt ∙ ap Some (sym next))) there o.1 o.2

      later : (i : ℕ) → Contains l.order.items i → Contains l'.order.items i
      later i has = subst (λ o. Contains o i) (sym lists.goes.goes_on) (Contains-append_left l.order.items lists.goes.more i has)

      first : take (done + 1) l'.order.items ≡ take done l.order.items ++ index ∷ []
      first = ap (take (done + 1)) lists.goes.goes_on ∙ take-append-le (done + 1) l.order.items lists.goes.more (omega arith) ∙ take_more l.order.items done index lt ∙ ap (λ x. take done l.order.items ++ x ∷ []) (sym next)

  -- the list after a turn of the loop, by an equation
  pub traced_then : (done index : ℕ) (e : Extent) (l mid l' : Listing) → l' ≡ mid → done < length l.order.items → index ≡ get_or l.order.items done index → slice_get row index ≡ Some e → IsTraced origin roots words row start done l
      → ListsAll row (links_of origin words e) l mid → IsTraced origin roots words row start (done + 1) l'
  traced_then done index e l mid l' is lt next there h lists = subst (IsTraced origin roots words row start (done + 1)) (sym is) (traced_more done index e l mid lt next there h lists)

  pub traced_else : (done : ℕ) (l l' : Listing) → l' ≡ l → length l.order.items ≤ done → IsTraced origin roots words row start done l → IsTraced origin roots words row start (done + 1) l'
  traced_else done l l' is past h = subst (IsTraced origin roots words row start (done + 1)) (sym is) (traced_past done l past h)

  -- in which order all was listed
  pub traced_order : (done : ℕ) (l : Listing) → IsTraced origin roots words row start done l → IsDiscovered origin roots words row l.order.items
  traced_order done l h = record { led = h.led }

  -- all was read
  pub traced_all : (done : ℕ) (l : Listing) → length row ≤ done → IsTraced origin roots words row start done l → MarksReached origin roots words row l.marks.items
  traced_all done l past h = record {
    marked = λ i r. h.ready.listed.marked i (listed i r);
    reached = λ i is. h.sound i (h.ready.listed.only i is);
  }
    where
      all : take done l.order.items ≡ l.order.items
      all = let few : length l.order.items ≤ length row = listed_few (length row) l.order.items h.ready.listed.distinct h.ready.listed.below in take_all done l.order.items (omega arith)

      listed : (i : ℕ) → IsReachedNth origin roots words row i → Contains l.order.items i
      listed i (by_root {w = w} among p) = h.rooted w i among p
      listed i (by_link {i = from} {w = w} {e = e} r at among p) = h.traced from e w i (subst (λ o. Contains o from) (sym all) (listed from r)) at among p
