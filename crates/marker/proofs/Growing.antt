-- Marks, dirty pages and the stack grow while words are read.
use Rattle.std.proofs.Common.{◌≡◌, ℕ, ◌*◌, ◌<◌, ◌≤◌, List, [], ◌++◌, length, Contains, Option, Some, refl, sym, ap, ◌∙◌, subst, inl, inr, ⊎_elim, append_assoc, append-nil, arith}
use Rattle.std.specs.Prelude.{◌⊎◌}
use Rattle.std.proofs.lemmas.List.Elements.{Contains-append_left}
use Rattle.words.specs.declared.class.Kind.TheVariants.{Normal}
use Rattle.words.specs.Bits.{Has}
use Rattle.words.specs.declared.limits.TheConstants.{PAGE_BYTES}
use Rattle.block_map.specs.declared.found.Found.{Found}
use Rattle.marker.specs.declared.entry.Entry.{Entry}
use Rattle.marker.specs.Marking.{Marking, IsMarked, IsEntry, IsLeftToEntry, IsObjectGranule, IsOutside, Covers, IsNewlyMarked, word_address}
use Rattle.pages.specs.Memory.{word_at}
use Rattle.marker.specs.Closure.{Closure, held}
use Rattle.marker.specs.Invariant.{DirtyPageInvariant, CarriedPageInvariant, IsSettled, IsTargetMarked, IsAwaited}
use Rattle.marker.specs.Work.{cost}
use Rattle.marker.specs.Growth.{Traces, IsStray, IsStrayPage}
use Rattle.marker.specs.Entries.{IsBelow}
use Rattle.marker.proofs.Closures.{closure_more}

-- Marks, dirty pages and the stack only grow, and each word of a newly marked object is awaited.
pub record Extends (found : ℕ → Option Found) (old new : Marking) : Type 0 where
  pub marks_len : length new.marks ≡ length old.marks
  pub dirty_len : length new.dirty ≡ length old.dirty
  pub marks : (b : ℕ) → IsMarked old b → IsMarked new b
  pub objects : (k : ℕ) → Has new.marks k → Has old.marks k ⊎ IsObjectGranule found k
  pub dirty : (p : ℕ) → Has old.dirty p → Has new.dirty p
  pub carried : new.carried ≡ old.carried
  pub current : new.current ≡ old.current
  pub stack : IsBelow old.stack new.stack
  pub fresh : (f : Found) → found f.base ≡ Some f → IsMarked new f.base → IsMarked old f.base ⊎ (f.kind ≡ Normal → (i : ℕ) → i < f.len → IsAwaited new f i)
  pub dirtied : (p : ℕ) → Has new.dirty p → Has old.dirty p ⊎ ((f : Found) × IsNewlyMarked found old new f × Covers f p)
  pub cost : cost found new ≤ cost found old

pub below_refl : (s : List Entry) → IsBelow s s
below_refl s = ([], sym (append-nil s))

pub below_trans : (a b c : List Entry) → IsBelow a b → IsBelow b c → IsBelow a c
below_trans a b c x y = (x.0 ++ y.0, y.1 ∙ ap (λ s. s ++ y.0) x.1 ∙ append_assoc a x.0 y.0)

pub below_contains : (a b : List Entry) (e : Entry) → IsBelow a b → Contains a e → Contains b e
below_contains a b e x h = subst (λ s. Contains s e) (sym x.1) (Contains-append_left a x.0 e h)

module _ (found : ℕ → Option Found) where
  pub extends_refl : (m : Marking) → Extends found m m
  extends_refl m = record {
    marks_len = refl;
    dirty_len = refl;
    marks = λ b h. h;
    objects = λ k h. inl h;
    dirty = λ p h. h;
    carried = refl;
    current = refl;
    stack = below_refl m.stack;
    fresh = λ f e k. inl k;
    dirtied = λ p h. inl h;
    cost = omega arith;
  }

  entry_more : (a b : Marking) → Extends found a b → (e : Entry) → IsEntry a e → IsEntry b e
  entry_more a b x e one = ⊎_elim (λ (h : a.current ≡ Some e). inl (x.current ∙ h)) (λ h. inr (below_contains a.stack b.stack e x.stack h)) one

  pub pending_more : (a b : Marking) → Extends found a b → (base i : ℕ) → IsLeftToEntry a base i → IsLeftToEntry b base i
  pending_more a b x base i p = record { entry = p.entry; one = entry_more a b x p.entry p.one; same = p.same; left = p.left }

  pub awaited_more : (a b : Marking) → Extends found a b → (f : Found) (i : ℕ) → IsAwaited a f i → IsAwaited b f i
  awaited_more a b x f i h = ⊎_elim (λ d. inl (x.dirty _ d)) (λ p. inr (pending_more a b x f.base i p)) h

  pub target_more : (a b : Marking) → Extends found a b → (w : ℕ) → IsTargetMarked found a w → IsTargetMarked found b w
  target_more a b x w t g e = x.marks g.base (t g e)

  objects_more : (a b c : Marking) (k : ℕ) → Has b.marks k ⊎ IsObjectGranule found k → (Has b.marks k → Has a.marks k ⊎ IsObjectGranule found k) → Has a.marks k ⊎ IsObjectGranule found k
  objects_more a b c k h x = ⊎_elim x (λ o. inr o) h

  pub dirtied_more : (a b c : Marking) → ((d : ℕ) → IsMarked a d → IsMarked b d) → ((d : ℕ) → IsMarked b d → IsMarked c d) → (p : ℕ)
      → Has b.dirty p ⊎ ((f : Found) × IsNewlyMarked found b c f × Covers f p)
      → (Has b.dirty p → Has a.dirty p ⊎ ((f : Found) × IsNewlyMarked found a b f × Covers f p))
      → Has a.dirty p ⊎ ((f : Found) × IsNewlyMarked found a c f × Covers f p)
  dirtied_more a b c ab bc p h k =
      ⊎_elim
      (λ d. ⊎_elim (λ o. inl o) (λ (n : (f : Found) × IsNewlyMarked found a b f × Covers f p). inr (n.0, (n.1.0, n.1.1, bc _ n.1.2), n.2)) (k d))
      (λ (n : (f : Found) × IsNewlyMarked found b c f × Covers f p). inr (n.0, (n.1.0, (λ o. n.1.1 (ab _ o)), n.1.2), n.2)) h

  pub extends_trans : (a b c : Marking) → Extends found a b → Extends found b c → Extends found a c
  extends_trans a b c x y = record {
    marks_len = y.marks_len ∙ x.marks_len;
    dirty_len = y.dirty_len ∙ x.dirty_len;
    marks = λ d h. y.marks d (x.marks d h);
    objects = λ k h. objects_more a b c k (y.objects k h) (x.objects k);
    dirty = λ p h. y.dirty p (x.dirty p h);
    carried = y.carried ∙ x.carried;
    current = y.current ∙ x.current;
    stack = below_trans a.stack b.stack c.stack x.stack y.stack;
    fresh = λ f e k. ⊎_elim
        (λ m. ⊎_elim (λ o. inl o) (λ h. inr (λ n i lt. awaited_more b c y f i (h n i lt))) (x.fresh f e m))
        (λ h. inr h) (y.fresh f e k);
    dirtied = λ p h. dirtied_more a b c x.marks y.marks p (y.dirtied p h) (x.dirtied p);
    cost = (let p = x.cost in let q = y.cost in omega arith);
  }

  pub traced_more : (words : List ℕ) (a b : Marking) → Extends found a b → DirtyPageInvariant found words a → DirtyPageInvariant found words b
  traced_more words a b x t f e n k i lt =
      ⊎_elim
      (λ o. ⊎_elim (λ g. inl (target_more a b x _ g)) (λ h. inr (awaited_more a b x f i h)) (t f e n o i lt))
      (λ h. inr (h n i lt)) (x.fresh f e k)

  -- what is settled stays settled where marks and carried pages only grow
  pub settled_grows : (a b : Marking) → ((d : ℕ) → IsMarked a d → IsMarked b d) → length b.dirty ≡ length a.dirty → ((p : ℕ) → Has a.carried p → Has b.carried p) → (p w : ℕ) → IsSettled found a p w → IsSettled found b p w
  settled_grows a b more size carried p w (IsSettled.held g e k) = IsSettled.held g e (more g.base k)
  settled_grows a b more size carried p w (IsSettled.outside o) = IsSettled.outside (subst (λ (n : ℕ). IsOutside (PAGE_BYTES * n) w) (sym size) o)
  settled_grows a b more size carried p w (IsSettled.carried h) = IsSettled.carried (carried _ h)

  pub settled_more : (a b : Marking) → Extends found a b → (p w : ℕ) → IsSettled found a p w → IsSettled found b p w
  settled_more a b x = settled_grows a b x.marks x.dirty_len (λ p h. subst (λ r. Has r p) (sym x.carried) h)

  pub carried_more : (words : List ℕ) (a b : Marking) → Extends found a b → CarriedPageInvariant found words a → CarriedPageInvariant found words b
  carried_more words a b x t f e n k i lt =
      ⊎_elim
      (λ o. ⊎_elim (λ g. inl (settled_more a b x _ _ g)) (λ h. inr (awaited_more a b x f i h)) (t f e n o i lt))
      (λ h. inr (h n i lt)) (x.fresh f e k)

  -- what is a page of stray words by later marks and fewer roots is one by those before
  pub stray_page_more : (words roots more : List ℕ) (a b : Marking) → length b.dirty ≡ length a.dirty → ((w : ℕ) → Contains roots w → Contains more w)
      → ((f : Found) → found f.base ≡ Some f → IsMarked b f.base → Closure found words more (IsMarked a) f) → (p : ℕ) → IsStrayPage found words roots b p → IsStrayPage found words more a p
  stray_page_more words roots more a b size r within p s = record {
    object = s.object;
    is = s.is;
    normal = s.normal;
    reached = closure_more found words roots more (IsMarked b) (IsMarked a) r within s.reached;
    index = s.index;
    inside = s.inside;
    on = s.on;
    stray = subst (λ (n : ℕ). IsStray found (PAGE_BYTES * n) (word_at words (word_address s.object s.index))) size s.stray;
  }

  pub traces_refl : (words roots : List ℕ) (a : Marking) → Traces found words roots a a
  traces_refl words roots a = record {
    marks_len = refl;
    dirty_len = refl;
    marks = λ b h. h;
    objects = λ k h. inl h;
    within = λ f e k. held e k;
    dirtied = λ p h. inl h;
    keeps = λ t. t;
    carried_len = refl;
    carried = λ p h. h;
    strays = λ p h. inl h;
    carries = λ t. t;
  }

  pub traces_trans : (words roots : List ℕ) (a b c : Marking) → Traces found words roots a b → Traces found words roots b c → Traces found words roots a c
  traces_trans words roots a b c x y = record {
    marks_len = y.marks_len ∙ x.marks_len;
    dirty_len = y.dirty_len ∙ x.dirty_len;
    marks = λ d h. y.marks d (x.marks d h);
    objects = λ k h. objects_more a b c k (y.objects k h) (x.objects k);
    within = λ f e k. closure_more found words roots roots (IsMarked b) (IsMarked a) (λ w h. h) x.within (y.within f e k);
    dirtied = λ p h. dirtied_more a b c x.marks y.marks p (y.dirtied p h) (x.dirtied p);
    keeps = λ t. y.keeps (x.keeps t);
    carried_len = y.carried_len ∙ x.carried_len;
    carried = λ p h. y.carried p (x.carried p h);
    strays = λ p h. ⊎_elim (λ o. x.strays p o) (λ s. inr (stray_page_more words roots roots a b x.dirty_len (λ w r. r) x.within p s)) (y.strays p h);
    carries = λ t. y.carries (x.carries t);
  }

  pub traces_more : (words roots more : List ℕ) (a b : Marking) → ((w : ℕ) → Contains roots w → Contains more w) → Traces found words roots a b → Traces found words more a b
  traces_more words roots more a b r x = record {
    marks_len = x.marks_len;
    dirty_len = x.dirty_len;
    marks = x.marks;
    objects = x.objects;
    within = λ f e k. closure_more found words roots more (IsMarked a) (IsMarked a) r (λ g o h. held o h) (x.within f e k);
    dirtied = x.dirtied;
    keeps = x.keeps;
    carried_len = x.carried_len;
    carried = x.carried;
    strays = λ p h. ⊎_elim (λ o. inl o) (λ s. inr (stray_page_more words roots more a a refl r (λ g o k. held o k) p s)) (x.strays p h);
    carries = x.carries;
  }
