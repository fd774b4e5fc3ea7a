-- Sweeping keeps the kept objects.
use Rattle.std.proofs.Common.{◌≡◌, ℕ, ◌+◌, ◌<◌, ◌≤◌, Bool, cond, List, length, get_or, set, true, false, refl, sym, ◌∙◌, subst, ⊎_elim, arith, get_or-set_same, get_or-set_other}
use Rattle.std.specs.Prelude.{count_by}
use Rattle.std.specs.List.{sum_by}
use Rattle.std.proofs.lemmas.Bool.{cases_eq, cases_lt, false≢true}
use Rattle.std.proofs.lemmas.List.{get_or_past}
use Rattle.std.proofs.lemmas.List.Sums.{sum_by-set}
use Rattle.words.specs.Bits.{Has}
use Rattle.block_map.specs.FoundIn.{found_in}
use Rattle.block_map.specs.Changes.{IsSameMap}
use Rattle.block_map.specs.Objects.{IsMap}
use Rattle.block_map.specs.States.{PageState}
use Rattle.lazy_sweep.specs.Sound.{store_with, SweepsOne, SweepsSome}
use Rattle.lazy_sweep.specs.declared.table.PageTable.{PageTable}
use Rattle.lazy_sweep.specs.Store.{Store}
use Rattle.lazy_sweep.specs.Kept.{restrict, is_kept, kept_in}
use Rattle.lazy_sweep.specs.Sweeps.{Sweeps, SweepsPage}
use Rattle.lazy_sweep.proofs.Kept.{page_swept}

-- the store of these
abbrev pub store_of : List ℕ → List Bool → List PageState → List Bool → Store
store_of words row states pending = record { words = words; free = row; states = states; pending = pending }

abbrev one_if : Bool → ℕ
one_if b = cond b 1 0

member_inside : (row : List Bool) (page : ℕ) → Has row page → page < length row
member_inside row page is = ⊎_elim (λ lt. lt) (λ past. absurd (false≢true (sym (get_or_past row page false past) ∙ is))) (cases_lt page (length row))

-- a page leaves the row
pub count_less : (row : List Bool) (page : ℕ) → Has row page → count_by (λ b. b) (set row page false) + 1 ≡ count_by (λ b. b) row
count_less row page is =
    let inside : page < length row = member_inside row page is in
    let e : sum_by one_if (set row page false) + one_if (get_or row page false) ≡ sum_by one_if row + 0 = sum_by-set one_if row page false false inside in
    let less : sum_by one_if (set row page false) + 1 ≡ sum_by one_if row + 0 = subst (λ b. sum_by one_if (set row page false) + one_if b ≡ sum_by one_if row + 0) is e in
    omega arith

cleared_not : (row new : List Bool) (page p : ℕ) → Has row page → new ≡ set row page false → Has new p → p ≡ page → ⊥
cleared_not row new page p was is h e =
    false≢true (sym (get_or-set_same row page false false (member_inside row page was)) ∙ subst (λ q. get_or (set row page false) q false ≡ true) e (subst (λ r. Has r p) is h))

-- a page was swept
pub sweeps_page : (old : Store) (marks : List Bool) (page : ℕ) (new : Store) → IsMap (length old.states) (found_in old.states) → Has old.pending page → SweepsPage old marks page new → Sweeps old marks new
sweeps_page old marks page new map was x = record {
  before = map;
  words = x.words;
  pages = x.pages;
  same = subst (λ row. IsSameMap (kept_in old.states old.pending marks) (restrict (is_kept row marks) (found_in new.states))) (sym x.pending)
      (page_swept old.pending marks page (found_in old.states) (found_in new.states) was x.others x.marked x.only);
  fewer = λ p h. ⊎_elim (λ (e : p ≡ page). subst (Has old.pending) (sym e) was) (λ ne. sym (get_or-set_other old.pending page p false false ne) ∙ subst (λ row. Has row p) x.pending h) (cases_eq p page);
  less = record { before = λ w f there. (x.only w f there).0 };
  waiting = λ w f is h. x.others w f is (cleared_not old.pending new.pending page f.page was x.pending h);
  number = subst (λ row. count_by (λ b. b) row ≤ count_by (λ b. b) old.pending) (sym x.pending) (let e = count_less old.pending page was in omega arith);
}

pub sweeps_none : (old : Store) (marks : List Bool) → IsMap (length old.states) (found_in old.states) → Sweeps old marks old
sweeps_none old marks map = record { before = map; words = λ f i there lt. refl; pages = refl; same = record { same = λ w. refl }; fewer = λ p h. h; less = record { before = λ w f there. there }; waiting = λ w f is h. is; number = omega arith }

pub sweeps_more : (old : Store) (marks : List Bool) (mid new : Store) → Sweeps old marks mid → Sweeps mid marks new → Sweeps old marks new
sweeps_more old marks mid new a b = record { before = a.before; words = λ f i there lt. b.words f i there lt ∙ a.words f i (b.less.before f.base f there) lt; pages = b.pages ∙ a.pages; same = record { same = λ w. b.same.same w ∙ a.same.same w }; fewer = λ p h. a.fewer p (b.fewer p h); less = record { before = λ w f there. a.less.before w f (b.less.before w f there) }; waiting = λ w f is h. b.waiting w f (a.waiting w f is (b.fewer f.page h)) h; number = let x = a.number in let y = b.number in omega arith }

module _ (old : PageTable) (marks : List Bool) (mid : PageTable) where
  pub some_page : (page : ℕ) → IsMap (length old.map) (found_in old.map) → Has old.pending page → SweepsOne old marks page mid → SweepsSome old marks mid
  some_page page map was x = record { sweeps = λ words. sweeps_page (store_with words old) marks page (store_with words mid) map was (x.sweeps words); sound = x.sound; lists = x.lists }

  pub some_more : (new : PageTable) → SweepsSome old marks mid → SweepsSome mid marks new → SweepsSome old marks new
  some_more new a b = record {
    sweeps = λ words. sweeps_more (store_with words old) marks (store_with words mid) (store_with words new) (a.sweeps words) (b.sweeps words);
    sound = b.sound;
    lists = λ words listed. b.lists words (a.lists words listed);
  }
