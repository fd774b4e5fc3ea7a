-- The links of a row and those of a heap, as both change.
use Rattle.std.proofs.Common.{◌≡◌, ℕ, suc, ◌+◌, ◌*◌, ◌<◌, Bool, true, false, List, length, cond, [], ◌∷◌, ◌++◌, refl, sym, ap, ◌∙◌, subst}
use Rattle.std.specs.Prelude.{Option, Some, ◌==◌, ◌||◌, not, filter}
use Rattle.std.specs.List.{list_any}
use Rattle.std.proofs.lemmas.Bool.{true≢false}
use Rattle.heap_spec.specs.Heap.{Object, Link as HeapLink, IsSameObject}
use Rattle.links.specs.declared.row.Link.{Link}
use Rattle.links.specs.Rows.{but_at, has_at}
use Rattle.links.specs.Named.{IsNamed, AreNamed, none, more}

module _ (objects : ℕ → Option Object) where
  pub named_length : {row : List Link} {ls : List HeapLink} → AreNamed objects row ls → length row ≡ length ls
  named_length none = refl
  named_length (more one rest) = ap suc (named_length rest)

  pub named_any : (p : Link → Bool) (q : HeapLink → Bool) → ((l : Link) (h : HeapLink) → IsNamed objects l h → p l ≡ q h) → {row : List Link} {ls : List HeapLink} → AreNamed objects row ls → list_any p row ≡ list_any q ls
  named_any p q same none = refl
  named_any p q same (more {l = l} {h = h} {row = row} one rest) = ap (λ b. b || list_any p row) (same l h one) ∙ ap (λ b. q h || b) (named_any p q same rest)

  pub named_push : {row : List Link} {ls : List HeapLink} {l : Link} {h : HeapLink} → AreNamed objects row ls → IsNamed objects l h → AreNamed objects (row ++ l ∷ []) (ls ++ h ∷ [])
  named_push none last = more last none
  named_push (more one rest) last = more one (named_push rest last)

-- links of which the same stay
module _ (old new : ℕ → Option Object) (p : Link → Bool) (q : HeapLink → Bool) (same : (l : Link) (h : HeapLink) → IsNamed old l h → p l ≡ q h) (keep : (l : Link) (h : HeapLink) → IsNamed old l h → p l ≡ true → IsNamed new l h) where
  one_kept : {l : Link} {h : HeapLink} {row : List Link} {ls : List HeapLink} (b c : Bool) → p l ≡ b → b ≡ c → IsNamed old l h → AreNamed new row ls → AreNamed new (cond b (l ∷ row) row) (cond c (h ∷ ls) ls)
  one_kept {l = l} {h = h} true true is e one rest = more (keep l h one is) rest
  one_kept false false is e one rest = rest
  one_kept true false is e one rest = absurd (true≢false e)
  one_kept false true is e one rest = absurd (true≢false (sym e))

  pub named_filter : {row : List Link} {ls : List HeapLink} → AreNamed old row ls → AreNamed new (filter p row) (filter q ls)
  named_filter none = none
  named_filter (more {l = l} {h = h} one rest) = one_kept (p l) (q h) refl (same l h one) one (named_filter rest)

-- an object that is there still
named_still : (old new : ℕ → Option Object) → ((base : ℕ) (o : Object) → old base ≡ Some o → (x : Object) × (new base ≡ Some x) × IsSameObject o x) → (l : Link) (h : HeapLink) → IsNamed old l h → IsNamed new l h
named_still old new stay l h one =
    let holder = stay one.holder_base one.holder one.held in
    let object = stay l.base one.object one.has in
    record {
      address = one.address;
      aligned = one.aligned;
      holder_base = one.holder_base;
      holder = holder.0;
      held = holder.1;
      in_holder = (one.in_holder.0, subst (λ n. l.address < one.holder_base + 8 * n) (sym holder.2.size) one.in_holder.1);
      object = object.0;
      has = object.1;
      names = object.2.birth ∙ one.names;
    }

-- all objects are there still
pub named_kept : (old new : ℕ → Option Object) → ((base : ℕ) (o : Object) → old base ≡ Some o → (x : Object) × (new base ≡ Some x) × IsSameObject o x) → {row : List Link} {ls : List HeapLink} → AreNamed old row ls → AreNamed new row ls
named_kept old new stay none = none
named_kept old new stay (more {l = l} {h = h} one rest) = more (named_still old new stay l h one) (named_kept old new stay rest)

-- a link at an address
pub named_at : (objects : ℕ → Option Object) (a : ℕ) → {row : List Link} {ls : List HeapLink} → AreNamed objects row ls → has_at row a ≡ list_any (λ h. h.address == a) ls
named_at objects a are = named_any objects (λ l. l.address == a) (λ h. h.address == a) (λ l h one. ap (λ x. x == a) (sym one.address)) are

pub named_but : (objects : ℕ → Option Object) (a : ℕ) → {row : List Link} {ls : List HeapLink} → AreNamed objects row ls → AreNamed objects (but_at row a) (filter (λ h. not (h.address == a)) ls)
named_but objects a are = named_filter objects objects (λ l. not (l.address == a)) (λ h. not (h.address == a)) (λ l h one. ap (λ x. not (x == a)) (sym one.address)) (λ l h one is. one) are
