-- Pages of which only the first ones are made.
use Rattle.std.proofs.Common.{◌≡◌, ℕ, zero, suc, ◌-◌, ◌<◌, ◌≤◌, Some, List, [], ◌∷◌, ◌++◌, length, map, set, get_or, replicate, refl, sym, ap, ◌∙◌, subst, ⊎_elim, arith, length-set}
use Rattle.std.proofs.lemmas.Bool.{cases_lt}
use Rattle.std.proofs.lemmas.Option.{none-some}
use Rattle.std.proofs.lemmas.List.{map-set, get_or_past, get_or-replicate, get_or_append_left, get_or-append_right, length-append, length-map, length-replicate, set-append_left}
use Rattle.block_map.specs.declared.page.Page.{Page}
use Rattle.block_map.specs.declared.page.Page.TheVariants.{Cut, Free}
use Rattle.block_map.specs.States.{PageState, free, cut, state_at, AreFreePages, IsCut}
use Rattle.block_map.specs.Shown.{shown, padded, IsSameStates}
use Rattle.words.specs.declared.limits.TheConstants.{FIRST_ADDRESS}
use Rattle.words.specs.Layout.{page_of}
use Rattle.block_map.specs.FoundIn.{found_in}
use Rattle.block_map.specs.declared.found.Found.{Found}
use Rattle.block_map.proofs.Finding.{found_as, found_low}
use Rattle.block_map.proofs.Seen.{state_read}
use Rattle.blocks.specs.Cells.{Cells}

free_past : (n k : ℕ) → get_or (replicate n free) k free ≡ free
free_past n k = ⊎_elim (λ lt. get_or-replicate n k free free lt) (λ past. get_or_past (replicate n free) k free (let size : length (replicate n free) ≡ n = length-replicate n free in omega (arith, size, past))) (cases_lt k n)

pub padded_at : (made : List PageState) (n k : ℕ) → state_at (padded made n) k ≡ state_at made k
unfolding padded
padded_at made n k = ⊎_elim
    (λ lt. get_or_append_left made (replicate (n - length made) free) free k lt)
    (λ past. get_or-append_right made (replicate (n - length made) free) (length made) k free refl past ∙ free_past (n - length made) (k - length made) ∙ sym (get_or_past made k free past))
    (cases_lt k (length made))

pub padded_len : (made : List PageState) (n : ℕ) → length made ≤ n → length (padded made n) ≡ n
unfolding padded
padded_len made n le =
    let both = length-append made (replicate (n - length made) free) in
    let rest : length (replicate (n - length made) free) ≡ n - length made = length-replicate (n - length made) free in
    omega (arith, both, rest, le)

pub padded_set : (made : List PageState) (n k : ℕ) (st : PageState) → k < length made → padded (set made k st) n ≡ set (padded made n) k st
unfolding padded
padded_set made n k st lt =
    ap (λ m. set made k st ++ replicate (n - m) free) (length-set made k st)
    ∙ sym (set-append_left made (replicate (n - length made) free) k st lt)

pub same_states : (made : List PageState) → IsSameStates made made
same_states made = record { at = λ k. refl }

one_more : (items : List Page) (k : ℕ) → state_at (map shown (items ++ Free ∷ [])) k ≡ state_at (map shown items) k
one_more [] zero = refl
one_more [] (suc k) = refl
one_more (y ∷ ys) zero = refl
one_more (y ∷ ys) (suc k) = one_more ys k

pub same_more : (before : List PageState) (items : List Page) → IsSameStates before (map shown items) → IsSameStates before (map shown (items ++ Free ∷ []))
same_more before items same = record { at = λ k. one_more items k ∙ same.at k }

pub ruleset making = (same_states, same_more)

-- ---- what is done to the pages that are made is done to all
pub padded_free : (n : ℕ) → AreFreePages (padded [] n) n
padded_free n = record { size = padded_len [] n (omega arith); each = λ k. padded_at [] n k ∙ get_or_past [] k free (omega arith) }

pub past_made : (items : List Page) (n k : ℕ) → length items ≤ k → state_at (padded (map shown items) n) k ≡ free
past_made items n k past = padded_at (map shown items) n k ∙ get_or_past (map shown items) k free (let size = length-map items shown in omega (arith, size, past))

pub made_at : (items : List Page) (n k : ℕ) (x : Page) → k < length items → x ≡ get_or items k x → state_at (padded (map shown items) n) k ≡ shown x
made_at items n k x lt is = padded_at (map shown items) n k ∙ state_read items k x lt is

pub past_at : (items : List Page) (n k : ℕ) (x : Page) → length items ≤ k → shown x ≡ free → state_at (padded (map shown items) n) k ≡ shown x
past_at items n k x past is = past_made items n k past ∙ sym is

-- two lists of the same states over the same pages are one
pub same_list : (a b : List PageState) → length a ≡ length b → ((k : ℕ) → state_at a k ≡ state_at b k) → a ≡ b
same_list [] [] size same = refl
same_list [] (y ∷ ys) size same = absurd (omega (arith, size))
same_list (x ∷ xs) [] size same = absurd (omega (arith, size))
same_list (x ∷ xs) (y ∷ ys) size same = ap (λ h. h ∷ xs) (same 0) ∙ ap (λ t. y ∷ t) (same_list xs ys (omega (arith, size)) (λ k. same (suc k)))

pub padded_same : (old made : List PageState) (n : ℕ) → length old ≤ n → length made ≤ n → IsSameStates old made → padded made n ≡ padded old n
padded_same old made n small few same = same_list (padded made n) (padded old n) (padded_len made n few ∙ sym (padded_len old n small)) (λ k. padded_at made n k ∙ same.at k ∙ sym (padded_at old n k))

-- a page that is cut is made
pub cut_made : (items : List Page) (n k : ℕ) → IsCut (state_at (padded (map shown items) n) k) → k < length items
cut_made items n k is = ⊎_elim (λ lt. lt) (λ past. absurd (subst IsCut (past_made items n k past) is)) (cases_lt k (length items))

pub len_is : (items : List Page) (n : ℕ) (states : List PageState) → length items ≤ n → padded (map shown items) n ≡ states → n ≡ length states
len_is items n states le is = let size = length-map items shown in sym (ap length (sym is) ∙ padded_len (map shown items) n (omega (arith, size, le)))

pub page_fits : (items : List Page) (n : ℕ) (states : List PageState) (k : ℕ) → length items ≤ n → padded (map shown items) n ≡ states → k < length states → k < n
page_fits items n states k le is lt = let e = len_is items n states le is in omega (arith, e, lt)

pub same_pages : (old made : List Page) (n : ℕ) → length old ≤ n → length made ≤ n → IsSameStates (map shown old) (map shown made) → padded (map shown made) n ≡ padded (map shown old) n
same_pages old made n small few same = let a = length-map old shown in let b = length-map made shown in padded_same (map shown old) (map shown made) n (omega (arith, a, small)) (omega (arith, b, few)) same

pub put_states : (items : List Page) (k : ℕ) (x : Page) → map shown (set items k x) ≡ set (map shown items) k (shown x)
put_states items k x = map-set shown items k x

pub set_made : (old new : List Page) (n k : ℕ) (st : PageState) → k < length old → map shown new ≡ set (map shown old) k st → padded (map shown new) n ≡ set (padded (map shown old) n) k st
set_made old new n k st lt is = ap (λ m. padded m n) is ∙ padded_set (map shown old) n k st (let size = length-map old shown in omega (arith, size, lt))

-- a page that is made gets a block
pub set_block : (items : List Page) (n k : ℕ) (b : Cells) → k < length items → padded (map shown (set items k (Cut b))) n ≡ set (padded (map shown items) n) k (cut b)
set_block items n k b lt = set_made items (set items k (Cut b)) n k (cut b) lt (put_states items k (Cut b))

pub ruleset padding = (padded_len, padded_at, padded_free, past_made, made_at, past_at, cut_made, len_is)

-- no word points into an object past the pages that may have something
pub found_below : (states : List PageState) (n w : ℕ) (f : Found) → ((k : ℕ) → n ≤ k → state_at states k ≡ free) → found_in states w ≡ Some f → page_of w < n
found_below states n w f past is = ⊎_elim
    (λ low. absurd (none-some f (sym (found_low states w low) ∙ is)))
    (λ high. ⊎_elim
    (λ lt. lt)
    (λ far. absurd (none-some f (sym (found_as states (page_of w) w free (record { from = omega (arith, high); below = omega (arith, high) }) (past (page_of w) far)) ∙ is)))
    (cases_lt (page_of w) n))
    (cases_lt w FIRST_ADDRESS)
