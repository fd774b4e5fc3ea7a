-- Rows of links that change.
use Rattle.std.proofs.Common.{◌≡◌, ℕ, ◌+◌, ◌%◌, ◌<◌, ◌≤◌, Bool, true, false, List, length, cond, [], ◌∷◌, sym, subst, arith, inl, inr}
use Rattle.std.specs.Prelude.{not, ◌==◌, ◌||◌, filter}
use Rattle.std.proofs.lemmas.Bool.{true≢false}
use Rattle.std.proofs.lemmas.List.Elements.{All-filter, All-push}
use Rattle.std.proofs.lemmas.List.{length_push}
use Rattle.std.proofs.lemmas.List.Sums.{length-filter, count_by-le-length}
use Rattle.words.specs.declared.limits.TheConstants.{MAX_LINKS}
use Rattle.links.specs.declared.row.Link.{Link}
use Rattle.links.specs.Rows.{has_at, but_at, with_link_at, IsRow, HasRowRoom}

pub few_left : (p : Link → Bool) (ls : List Link) → length (filter p ls) ≤ length ls
few_left p ls = subst (λ n. n ≤ length ls) (sym (length-filter p ls)) (count_by-le-length p ls)

pub row_but : (row : List Link) (a : ℕ) → IsRow row → IsRow (but_at row a)
row_but row a h = record {
  aligned = record { aligned = All-filter (λ l. not (l.address == a)) (λ l. l.address % 8 ≡ 0) row h.aligned.aligned };
  few = let fewer = few_left (λ l. not (l.address == a)) row in let few = h.few in omega arith;
}

one_fewer : (l : Link) (us ls : List Link) (b c : Bool) → length us ≤ length ls → (c ≡ true → length us < length ls) → (b || c) ≡ true → length (cond (not b) (l ∷ us) us) < length (l ∷ ls)
one_fewer l us ls false c few fewer e = let r = fewer e in omega arith
one_fewer l us ls true c few fewer e = omega arith

fewer_but : (row : List Link) (a : ℕ) → has_at row a ≡ true → length (but_at row a) < length row
fewer_but [] a e = absurd (true≢false (sym e))
fewer_but (l ∷ ls) a e = one_fewer l (but_at ls a) ls (l.address == a) (has_at ls a) (few_left (λ l. not (l.address == a)) ls) (fewer_but ls a) e

pub room_but : (row : List Link) (a : ℕ) → IsRow row → HasRowRoom row a → length (but_at row a) < MAX_LINKS
room_but row a h (inl few) = let fewer = few_left (λ l. not (l.address == a)) row in omega arith
room_but row a h (inr stands) = let fewer = fewer_but row a stands in let few = h.few in omega arith

pub row_with : (row : List Link) (a base : ℕ) → IsRow row → a % 8 ≡ 0 → HasRowRoom row a → IsRow (with_link_at row a base)
row_with row a base h aligned room = record {
  aligned = record { aligned = All-push (λ l. l.address % 8 ≡ 0) (but_at row a) _ (row_but row a h).aligned.aligned aligned };
  few = let l : length (with_link_at row a base) ≡ length (but_at row a) + 1 = length_push (but_at row a) _ in let left = room_but row a h room in omega arith;
}
