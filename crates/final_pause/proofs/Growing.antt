-- How what a helper knows, won and awaits grows.
use Rattle.std.proofs.Common.{◌≡◌, ℕ, ◌*◌, ◌<◌, Bool, List, [], ◌∷◌, ◌++◌, true, false, Contains, Option, Some, length, refl, sym, ap, subst, ◌∙◌, inl, inr, ⊎_elim, arith}
use Rattle.std.proofs.lemmas.Option.{same_Some}
use Rattle.std.proofs.lemmas.List.Elements.{Contains-append_cases, Contains-append_left, Contains-append_right}
use Rattle.words.specs.declared.class.Kind.TheVariants.{Normal}
use Rattle.words.specs.declared.limits.TheConstants.{PAGE_GRANULES}
use Rattle.words.specs.Bits.{Has}
use Rattle.words.specs.Layout.{granule}
use Rattle.mark_bits.specs.declared.claimer_view.ClaimerView.{ClaimerView}
use Rattle.mark_bits.specs.Tables.{view, start_of, IsOf}
use Rattle.mark_bits.specs.Claims.{knows, LearnsMore}
use Rattle.block_map.specs.declared.found.Found.{Found}
use Rattle.block_map.specs.Objects.{IsMap}
use Rattle.marker.specs.Marking.{IsOutside, bytes_of}
use Rattle.marker.specs.Growth.{TellsStray}
use Rattle.marker.proofs.Closures.{at_base, same_object}
use Rattle.marker.proofs.MarkWord.{markable, tells_none}
use Rattle.final_pause.specs.declared.helper.Helper.{Helper}
use Rattle.final_pause.specs.declared.waiting.Unread.{Unread}
use Rattle.final_pause.specs.Pauses.{PauseView}
use Rattle.final_pause.specs.Helping.{found, won_of, unread_of, QueuesObject, HelperGrows, IsReadyPause, IsTargetKnown, IsWordRead, IsAwaitedBy, IsPageOfWon, IsPointedInto, ClaimsOnly, Visits, VisitsAll}
use Rattle.final_pause.proofs.Knowing.{unknown_le, unknown_lt, contains_one, contains_cons, contains_more, contains_here}

-- a word that points into an object is not stray
pub tells_object : (found : ℕ → Option Found) (bytes w : ℕ) (g : Found) → found w ≡ Some g → TellsStray found bytes (w ∷ []) false
tells_object found bytes w g e = tells_none found bytes w (inl (g, e))

module _ (p : PauseView) where
  pub extends_refl : (h : Helper) → IsOf p.table h.claimer → HelperGrows p h h
  extends_refl h of = record {
    of = of;
    place = refl;
    learns = record { right = refl; known = λ k e. e };
    won = λ k c. c;
    dirty_len = refl;
    dirty = λ q h. h;
    dirtied = λ q h. inl h;
    carried_len = refl;
    carried = λ q h. h;
    waiting = λ b h. h;
    fresh = λ f e c. inl c;
    own = λ o. o;
    left = omega arith;
  }

  pub awaited_more : (a b : Helper) → HelperGrows p a b → (f : Found) (i : ℕ) → IsAwaitedBy a f i → IsAwaitedBy b f i
  awaited_more a b x f i h = ⊎_elim (λ d. inl (x.dirty _ d)) (λ s. inr (x.waiting _ s)) h

  pub target_more : (v w : ClaimerView) → ((k : ℕ) → knows v k ≡ true → knows w k ≡ true) → (n : ℕ) → IsTargetKnown p v n → IsTargetKnown p w n
  target_more v w more n k g e = more (granule g.base) (k g e)

  -- a word that was read stays read where more is known and more pages are carried
  pub word_more : (v w : ClaimerView) (c d : List Bool) → ((k : ℕ) → knows v k ≡ true → knows w k ≡ true) → ((q : ℕ) → Has c q → Has d q) → (f : Found) (i : ℕ) → IsWordRead p v c f i → IsWordRead p w d f i
  word_more v w c d known carried f i r = record { known = target_more v w known _ r.known; settled = λ s. carried _ (r.settled s) }

  pub page_more : (a b : Helper) → ((k : ℕ) → Contains (won_of a) k → Contains (won_of b) k) → (q : ℕ) → IsPageOfWon p a q → IsPageOfWon p b q
  page_more a b more q (f, is, c, k) = (f, is, more (granule f.base) c, k)

  pub extends_trans : (a b c : Helper) → HelperGrows p a b → HelperGrows p b c → HelperGrows p a c
  extends_trans a b c x y = record {
    of = y.of;
    place = y.place ∙ x.place;
    learns = record { right = y.learns.right ∙ x.learns.right; known = λ k h. y.learns.known k (x.learns.known k h) };
    won = λ k h. y.won k (x.won k h);
    dirty_len = y.dirty_len ∙ x.dirty_len;
    dirty = λ q h. y.dirty q (x.dirty q h);
    dirtied = λ q h. ⊎_elim (λ m. ⊎_elim (λ o. inl o) (λ w. inr (page_more b c y.won q w)) (x.dirtied q m)) (λ w. inr w) (y.dirtied q h);
    carried_len = y.carried_len ∙ x.carried_len;
    carried = λ q h. y.carried q (x.carried q h);
    waiting = λ e h. y.waiting e (x.waiting e h);
    fresh = λ f e k. ⊎_elim
        (λ m. ⊎_elim (λ o. inl o) (λ h. inr (λ n i lt. awaited_more b c y f i (h n i lt))) (x.fresh f e m))
        (λ h. inr h) (y.fresh f e k);
    own = λ o. y.own (x.own o);
    left = (let s = x.left in let t = y.left in omega (arith, s, t));
  }

  pub only_trans : (P : ℕ → Type 0) (a b c : Helper) → ClaimsOnly p P a b → ClaimsOnly p P b c → ClaimsOnly p P a c
  only_trans P a b c x y = record {
    won = λ k h. ⊎_elim (λ m. x.won k m) (λ r. inr r) (y.won k h);
    entries = λ e h. ⊎_elim (λ m. x.entries e m) (λ r. inr r) (y.entries e h);
  }

  into_more : (P Q : ℕ → Type 0) (f : Found) → ((w : ℕ) → P w → Q w) → IsPointedInto p P f → IsPointedInto p Q f
  into_more P Q f more r = record { word = r.word; one = more r.word r.one; points = r.points }

  pub only_more : (P Q : ℕ → Type 0) (a b : Helper) → ((w : ℕ) → P w → Q w) → ClaimsOnly p P a b → ClaimsOnly p Q a b
  only_more P Q a b more x = record {
    won = λ k h. ⊎_elim (λ m. inl m) (λ (r : (f : Found) × IsPointedInto p P f × (granule f.base ≡ k)). inr (r.0, into_more P Q r.0 more r.1, r.2)) (x.won k h);
    entries = λ e h. ⊎_elim (λ m. inl m) (λ (r : (f : Found) × IsPointedInto p P f × (unread_of f ≡ e) × (f.kind ≡ Normal)). inr (r.0, into_more P Q r.0 more r.1, r.2, r.3)) (x.entries e h);
  }

  target_is : (w : ℕ) (g : Found) (v : ClaimerView) → found p w ≡ Some g → knows v (granule g.base) ≡ true → IsTargetKnown p v w
  target_is w g v e k h i = subst (λ (f : Found). knows v (granule f.base) ≡ true) (same_Some g h (sym e ∙ i)) k

  -- the word points into no object
  pub visit_none : (w : ℕ) (h : Helper) → IsOf p.table h.claimer → ((g : Found) → found p w ≡ Some g → ⊥) → Visits p w h h
  visit_none w h of none = record {
    extends = extends_refl h of;
    carried = refl;
    target = λ g e. absurd (none g e);
    only = record { won = λ k c. inl c; entries = λ e c. inl c };
  }

  -- the word lies outside of the heap
  pub visit_outside : (w : ℕ) (h : Helper) → IsReadyPause p → IsOf p.table h.claimer → IsOutside (bytes_of p.marker) w → Visits p w h h
  visit_outside w h ready of out = visit_none w h of (λ g e.
      let r = ready.map.reads w g e in let at = ready.map.placed w g e in
      let from = r.from in let below = r.below in let above = at.above in let end = at.below in let pages = ready.pages in
      ⊎_elim (λ low. omega (arith, low, from, above)) (λ high. omega (arith, high, below, end, pages)) out)

  -- the object was marked by another, or before
  pub visit_old : (w : ℕ) (g : Found) (old new : Helper) → found p w ≡ Some g → IsOf p.table new.claimer → new.waiting ≡ old.waiting → new.dirty ≡ old.dirty → new.carried ≡ old.carried → new.place ≡ old.place
      → LearnsMore (view old.claimer) (view new.claimer) → knows (view new.claimer) (granule g.base) ≡ true → won_of new ≡ won_of old → Visits p w old new
  visit_old w g old new e of st di ca sh le kn wo =
      let u = unknown_le (length (start_of p.table)) (view old.claimer) (view new.claimer) le.known in
      let s : length new.waiting ≡ length old.waiting = ap (λ s. length s) st in record {
        extends = record {
          of = of;
          place = sh;
          learns = le;
          won = λ k c. subst (λ l. Contains l k) (sym wo) c;
          dirty_len = ap length di;
          dirty = λ q h. subst (λ d. Has d q) (sym di) h;
          dirtied = λ q h. inl (subst (λ d. Has d q) di h);
          carried_len = ap length ca;
          carried = λ q h. subst (λ d. Has d q) (sym ca) h;
          waiting = λ k h. subst (λ s. Contains s k) (sym st) h;
          fresh = λ f o c. inl (subst (λ l. Contains l (granule f.base)) wo c);
          own = λ o k c. subst (λ l. Contains l (granule k.base)) (sym wo) (o k (subst (λ s. Contains s k) st c));
          left = omega (arith, u, s);
        };
        carried = ca;
        target = target_is w g (view new.claimer) e kn;
        only = record {
          won = λ k c. inl (subst (λ l. Contains l k) wo c);
          entries = λ k c. inl (subst (λ s. Contains s k) st c);
        };
      }

  -- the claim was the first, and the object waits to be read
  pub visit_new : (w : ℕ) (g : Found) (old mid new : Helper) → IsMap (length p.map) (found p) → length (start_of p.table) ≡ PAGE_GRANULES * length p.map → found p w ≡ Some g
      → IsOf p.table mid.claimer → mid.waiting ≡ old.waiting → mid.dirty ≡ old.dirty → mid.carried ≡ old.carried → mid.place ≡ old.place
      → LearnsMore (view old.claimer) (view mid.claimer) → knows (view mid.claimer) (granule g.base) ≡ true → knows (view old.claimer) (granule g.base) ≡ false → won_of mid ≡ granule g.base ∷ won_of old
      → QueuesObject g mid new → Visits p w old new
  visit_new w g old mid new map size e of st di ca sh le kn un wo keep =
      let base = at_base (length p.map) (found p) map w g e in
      let inside = (markable (length p.map) (found p) w g (start_of p.table) map e size).1 in
      let same : won_of new ≡ granule g.base ∷ won_of old = ap (λ c. (view c).won) keep.claimer ∙ wo in
      let le' : LearnsMore (view old.claimer) (view new.claimer) = subst (λ c. LearnsMore (view old.claimer) (view c)) (sym keep.claimer) le in
      let kn' : knows (view new.claimer) (granule g.base) ≡ true = ap (λ c. knows (view c) (granule g.base)) keep.claimer ∙ kn in
      let u = unknown_lt (length (start_of p.table)) (granule g.base) (view old.claimer) (view new.claimer) le'.known inside un kn' in
      let s : length mid.waiting ≡ length old.waiting = ap (λ s. length s) st in
      let z = keep.size in
      let won' : Contains (won_of new) (granule g.base) = subst (λ l. Contains l (granule g.base)) (sym same) (contains_here (granule g.base) (won_of old)) in record {
        extends = record {
          of = subst (IsOf p.table) (sym keep.claimer) of;
          place = keep.place ∙ sh;
          learns = le';
          won = λ k c. subst (λ l. Contains l k) (sym same) (contains_more (granule g.base) k (won_of old) c);
          dirty_len = keep.dirty_len ∙ ap length di;
          dirty = λ q h. keep.dirty q (subst (λ d. Has d q) (sym di) h);
          dirtied = λ q h. ⊎_elim (λ o. inl (subst (λ d. Has d q) di o)) (λ c. inr (g, base, won', c)) (keep.covered q h);
          carried_len = ap length keep.carried ∙ ap length ca;
          carried = λ q h. subst (λ d. Has d q) (sym (keep.carried ∙ ca)) h;
          waiting = λ k h. keep.waiting k (subst (λ s. Contains s k) (sym st) h);
          fresh = λ f o c. ⊎_elim
              (λ (b : granule g.base ≡ granule f.base).
              inr (subst (λ (h : Found). h.kind ≡ Normal → (i : ℕ) → i < h.len → IsAwaitedBy new h i) (same_object (length p.map) (found p) map g f base o b) keep.awaited))
              (λ h. inl h)
              (contains_cons (granule g.base) (granule f.base) (won_of old) (subst (λ l. Contains l (granule f.base)) same c));
          own = λ o k c. ⊎_elim
              (λ h. subst (λ l. Contains l (granule k.base)) (sym same) (contains_more (granule g.base) (granule k.base) (won_of old) (o k (subst (λ s. Contains s k) st h))))
              (λ (h : (k ≡ unread_of g) × (g.kind ≡ Normal)). subst (λ (o : Unread). Contains (won_of new) (granule o.base)) (sym h.0) won')
              (keep.entries k c);
          left = omega (arith, u, s, z);
        };
        carried = keep.carried ∙ ca;
        target = target_is w g (view new.claimer) e kn';
        only = record {
          won = λ k c. ⊎_elim
              (λ (b : granule g.base ≡ k). inr (g, record { word = w; one = refl; points = e }, b))
              (λ h. inl h)
              (contains_cons (granule g.base) k (won_of old) (subst (λ l. Contains l k) same c));
          entries = λ k c. ⊎_elim
              (λ h. inl (subst (λ s. Contains s k) st h))
              (λ (h : (k ≡ unread_of g) × (g.kind ≡ Normal)). inr (g, record { word = w; one = refl; points = e }, sym h.0, h.1))
              (keep.entries k c);
        };
      }

  pub visits_none : (h : Helper) → IsOf p.table h.claimer → VisitsAll p [] h h
  visits_none h of = record {
    extends = extends_refl h of;
    carried = refl;
    targets = λ w c. let l = c.1 in absurd (omega arith);
    only = record { won = λ k c. inl c; entries = λ e c. inl c };
  }

  -- words, and then others
  pub visits_append : (ws vs : List ℕ) (a b c : Helper) → VisitsAll p ws a b → VisitsAll p vs b c → VisitsAll p (ws ++ vs) a c
  visits_append ws vs a b c x y = record {
    extends = extends_trans a b c x.extends y.extends;
    carried = y.carried ∙ x.carried;
    targets = λ u h. ⊎_elim (λ m. target_more (view b.claimer) (view c.claimer) y.extends.learns.known u (x.targets u m)) (λ m. y.targets u m) (Contains-append_cases ws vs u h);
    only = only_trans (λ u. Contains (ws ++ vs) u) a b c
        (only_more (λ u. Contains ws u) (λ u. Contains (ws ++ vs) u) a b (λ u m. Contains-append_left ws vs u m) x.only)
        (only_more (λ u. Contains vs u) (λ u. Contains (ws ++ vs) u) b c (λ u m. Contains-append_right ws vs u m) y.only);
  }

  pub visits_one : (w : ℕ) (a b : Helper) → Visits p w a b → VisitsAll p (w ∷ []) a b
  visits_one w a b v = record {
    extends = v.extends;
    carried = v.carried;
    targets = λ u h. subst (IsTargetKnown p (view b.claimer)) (contains_one w u h) v.target;
    only = only_more (λ u. u ≡ w) (λ u. Contains (w ∷ []) u) a b (λ u e. subst (Contains (w ∷ [])) (sym e) (contains_here w [])) v.only;
  }

  pub visits_next : (ws : List ℕ) (w : ℕ) (a b c : Helper) → VisitsAll p ws a b → Visits p w b c → VisitsAll p (ws ++ w ∷ []) a c
  visits_next ws w a b c r v = visits_append ws (w ∷ []) a b c r (visits_one w b c v)
