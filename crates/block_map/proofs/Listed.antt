-- The lists of free cells while a map changes.
use Rattle.std.proofs.Common.{◌≡◌, ℕ, ◌*◌, ◌<◌, List, length, set, refl, sym, ap, ◌∙◌, subst, ⊎_elim, arith, length-set, get_or-set_same, get_or-set_other}
use Rattle.std.specs.Prelude.{◌≢◌}
use Rattle.std.proofs.lemmas.Bool.{cases_eq}
use Rattle.words.specs.declared.limits.TheConstants.{PAGE_WORDS}
use Rattle.blocks.specs.Cells.{Cells}
use Rattle.blocks.specs.Lists.{link_of, ChangesPage, HasPage, IsFreeCellOf}
use Rattle.blocks.proofs.Lists.{maybe_elsewhere, maybe_kept}
use Rattle.block_map.specs.States.{PageState, free, cut, head, body, state_at, LaidAt, IsLaid, IsSpanSet}
use Rattle.block_map.specs.Listed.{AreListed, IsListedOn}
use Rattle.block_map.proofs.Spans.{place_of}

abbrev free_page : PageState
free_page = free

-- the memory has each page
pub has_page : (words : List ℕ) (states : List PageState) (page : ℕ) → AreListed words states → page < length states → HasPage words page
has_page words states page listed lt = let size = listed.size in omega arith

-- a page changes: the lists of all others stay
pub listed_set : (words words' : List ℕ) (states : List PageState) (page : ℕ) (st : PageState) → IsLaid states → page < length states → AreListed words states → ChangesPage words words' page → IsListedOn words' page st → AreListed words' (set states page st)
listed_set words words' states page st laid inside listed changes here = record {
  size = changes.size ∙ listed.size ∙ ap (λ n. PAGE_WORDS * n) (sym (length-set states page st));
  each = λ q lt. ⊎_elim
      (λ (e : q ≡ page). subst (λ r. IsListedOn words' r (state_at (set states page st) r)) (sym e) (subst (IsListedOn words' page) (sym (get_or-set_same states page st free_page inside)) here))
      (λ ne. subst (IsListedOn words' q) (sym (get_or-set_other states page q st free_page ne)) (by q ne (let size = length-set states page st in omega arith) (state_at states q) refl))
      (cases_eq q page);
}
  where
    by : (q : ℕ) → q ≢ page → q < length states → (was : PageState) → state_at states q ≡ was → IsListedOn words' q was
    by q ne lt free is = tt
    by q ne lt (cut b) is = maybe_elsewhere words words' page q b (subst (LaidAt states q) is (laid.each q lt)) ne changes (subst (IsListedOn words q) is (listed.each q lt))
    by q ne lt (head n k) is = tt
    by q ne lt (body p) is = tt

-- pages become free, or those of a large object
pub listed_span : (words : List ℕ) (old new : List PageState) (first n : ℕ) (state : ℕ → PageState) → IsSpanSet old new first n state → ((k : ℕ) → IsListedOn words k (state k)) → AreListed words old → AreListed words new
listed_span words old new first n state span uncut listed = record {
  size = listed.size ∙ ap (λ m. PAGE_WORDS * m) (sym span.size);
  each = λ q lt. ⊎_elim
      (λ i. subst (IsListedOn words q) (sym (span.inside q i.0 i.1)) (uncut q))
      (λ out. subst (IsListedOn words q) (sym (span.others q out)) (listed.each q (let size = span.size in omega arith)))
      (place_of first n q);
}

-- Where the links of free cells stay, the lists do.
pub listed_words : (words words' : List ℕ) (states : List PageState) → length words' ≡ length words
    → ((page : ℕ) (b : Cells) (i : ℕ) → page < length states → state_at states page ≡ cut b → IsFreeCellOf b.taken i → link_of words' page b.class i ≡ link_of words page b.class i) → AreListed words states → AreListed words' states
listed_words words words' states size same listed = record {
  size = size ∙ listed.size;
  each = λ q lt. by q lt (state_at states q) refl (listed.each q lt);
}
  where
    by : (q : ℕ) → q < length states → (st : PageState) → state_at states q ≡ st → IsListedOn words q st → IsListedOn words' q st
    by q lt free is here = tt
    by q lt (cut b) is here = maybe_kept words words' q b (λ i at. same q b i lt is at) here
    by q lt (head n k) is here = tt
    by q lt (body p) is here = tt
