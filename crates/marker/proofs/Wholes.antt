-- Objects that are read whole, whichever entry without a word left is the one that is being read.
use Rattle.std.proofs.Common.{◌≡◌, ℕ, ◌+◌, ◌-◌, ◌*◌, ◌<◌, List, length, Option, Some, sym, ap, subst, arith}
use Rattle.std.proofs.lemmas.Option.{same_Some}
use Rattle.words.specs.declared.limits.TheConstants.{PAGE_GRANULES}
use Rattle.words.specs.Layout.{page_of}
use Rattle.block_map.specs.declared.found.Found.{Found}
use Rattle.block_map.specs.Objects.{IsMap}
use Rattle.marker.specs.declared.entry.Entry.{Entry}
use Rattle.marker.specs.Marking.{Marking, with_current, word_address}
use Rattle.marker.specs.Entries.{IsOnTop, IsSpent, IsTurned, Takes, TakesWhole, nothing, turned}
use Rattle.marker.specs.Beside.{IsRow}
use Rattle.marker.proofs.Taking.{takes_grows, takes_trans}

-- one that has no word left, as the one that is being read
pub spent_current : (found : ℕ → Option Found) (m : Marking) (e : Entry) → IsSpent found m e → (x : Entry) → Some e ≡ Some x → IsSpent found m x
spent_current found m e s x is = subst (IsSpent found m) (same_Some e x is) s

-- no object has its base below the heap
spent_outside : (pages : ℕ) (found : ℕ → Option Found) → IsMap pages found → (m : Marking) → IsSpent found m (record { base = 0; next = 0; len = 0 })
spent_outside pages found map m f is base normal marked = let above = (map.placed f.base f is).above in absurd (omega arith)

module _ (found : ℕ → Option Found) (moments : List (List ℕ)) where
  pub whole_none : (m : Marking) → TakesWhole found moments m 0 m
  whole_none m e s = (e, s, nothing)

  pub whole_less : (m : Marking) (left : ℕ) → TakesWhole found moments m (left - left) m
  whole_less m left = subst (λ (n : ℕ). TakesWhole found moments m n m) (let none : 0 ≡ left - left = omega arith in none) (whole_none m)

  pub whole_trans : (a b c : Marking) (n k : ℕ) → TakesWhole found moments a n b → TakesWhole found moments b k c → TakesWhole found moments a (n + k) c
  whole_trans a b c n k x y e s =
      let p = x e s in let q = y p.0 p.1 in
      (q.0, q.1, takes_trans found moments (with_current a e) (with_current b p.0) p.2 q.2)

  -- those that wait change places
  pub whole_turned : (a b c : Marking) (n : ℕ) → TakesWhole found moments a n b → IsTurned b c → TakesWhole found moments a n c
  whole_turned a b c n x t e s =
      let p = x e s in
      let last : Entry = p.0 in (
        last,
        subst (λ (m : Marking). IsSpent found m last) (sym t.new_is) p.1,
        turned p.2 (record {
          turned = record { new_is = ap (λ (m : Marking). with_current m last) t.new_is; moves = t.moves };
          spent = spent_current found b last p.1;
        }),
      )

  -- from the one that is being read
  pub whole_takes : (a b : Marking) (n : ℕ) → TakesWhole found moments a n b → (e : Entry) → a.current ≡ Some e → ((x : Entry) → a.current ≡ Some x → IsSpent found a x)
      → (last : Entry) × IsSpent found b last × Takes found moments a n (with_current b last)
  whole_takes a b n x e is spent =
      let p = x e (spent e is) in
      (p.0, p.1, subst (λ (m : Marking). Takes found moments m n (with_current b p.0)) (ap (λ (o : Option Entry). record a { current = o }) (sym is)) p.2)

-- the words of the object of the entry on top of the stack
pub top_page : (pages : ℕ) (found : ℕ → Option Found) (m : Marking) (e : Entry) (top : IsOnTop pages found m e) → (i : ℕ) → i < e.len → page_of (word_address top.object i) ≡ page_of (word_address top.object 0)
top_page pages found m e top i below =
    let base = ap (λ (x : Entry). x.base) top.is in
    let p = top.placed in let above = p.above in let aligned = p.aligned in let on = top.on_page in omega arith

pub top_row : (pages : ℕ) (found : ℕ → Option Found) (m : Marking) (e : Entry) → IsOnTop pages found m e → IsRow pages e.base 0 e.len
top_row pages found m e top =
    let base = ap (λ (x : Entry). x.base) top.is in let len = ap (λ (x : Entry). x.len) top.is in
    record {
      object = top.object;
      at = sym base;
      placed = top.placed;
      fits = omega arith;
      one_page = λ i from below. top_page pages found m e top i (omega arith);
    }

-- the pages are as many
pub whole_pages : (pages : ℕ) (found : ℕ → Option Found) → IsMap pages found → (moments : List (List ℕ)) (a b : Marking) (n : ℕ) → length a.marks ≡ PAGE_GRANULES * pages → TakesWhole found moments a n b → length b.dirty ≡ length a.dirty
whole_pages pages found map moments a b n size x =
    let p = x (record { base = 0; next = 0; len = 0 }) (spent_outside pages found map a) in
    (takes_grows pages found map moments (with_current a (record { base = 0; next = 0; len = 0 })) size p.2).dirty_len
