-- A long object is read by where its words point.
use Rattle.std.proofs.Common.{◌≡◌, ℕ, ◌+◌, ◌<◌, ◌≤◌, ◌==◌, Bool, List, [], ◌∷◌, true, false, Contains, refl, sym, ap, subst, ◌∙◌, inr, ⊎_elim, mod-lt, arith}
use Rattle.std.specs.Prelude.{◌⊎◌, nat_lt, ◌*◌, ◌/◌, ◌%◌}
use Rattle.std.proofs.Math.Nat.{mul-le-mul_left}
use Rattle.std.specs.List.{filter}
use Rattle.std.proofs.lemmas.Bool.{cond-true, cond-false, cond_both, eq-eqb, ne_eqb, true≢false}
use Rattle.std.proofs.lemmas.List.Elements.{All-contains, All-contains_itself, All-filter}
use Rattle.words.specs.declared.limits.TheConstants.{PAGE_BYTES, PAGE_WORDS}
use Rattle.words.specs.Layout.{page_of}
use Rattle.mark_bits.specs.Tables.{IsOf}
use Rattle.block_map.specs.declared.found.Found.{Found}
use Rattle.marker.specs.Marking.{IsOutside, bytes_of, word_address}
use Rattle.marker.specs.Growth.{CarriesPage, TellsStray, words_from}
use Rattle.marker.proofs.MarkWord.{tells_none}
use Rattle.marker.proofs.Words.{contains_word, tells_nothing}
use Rattle.final_pause.specs.declared.helper.Helper.{Helper}
use Rattle.final_pause.specs.Pauses.{PauseView}
use Rattle.final_pause.specs.Helping.{found, word_in, span_turn, page_turn, turn_of, own_words, IsReadyPause, Visits, VisitsAll, ReadsOwn}
use Rattle.final_pause.proofs.Knowing.{contains_cons, contains_more, contains_here}
use Rattle.final_pause.proofs.Growing.{visit_outside, visits_none, visits_one}
use Rattle.final_pause.proofs.Reading.{reads_some}

-- what a test keeps was there
pub was_there : (test : ℕ → Bool) (ws : List ℕ) (w : ℕ) → Contains (filter test ws) w → Contains ws w
was_there test ws w c = All-contains (Contains ws) (filter test ws) w (All-filter test (Contains ws) ws (All-contains_itself ws)) c

-- what passes the test is kept
pub is_kept : (test : ℕ → Bool) (ws : List ℕ) (w : ℕ) → test w ≡ true → Contains ws w → Contains (filter test ws) w
is_kept test [] w passes c = absurd (let l = c.1 in omega (arith, l))
is_kept test (v ∷ vs) w passes c = ⊎_elim
    (λ (e : v ≡ w). subst (λ (l : List ℕ). Contains l w) (sym (cond-true (test v) (v ∷ filter test vs) (filter test vs) (ap test e ∙ passes)))
    (subst (λ (x : ℕ). Contains (x ∷ filter test vs) w) (sym e) (contains_here w (filter test vs))))
    (λ h. cond_both (test v) (v ∷ filter test vs) (filter test vs) (λ l. Contains l w) (λ t. contains_more v w (filter test vs) (is_kept test vs w passes h)) (λ t. is_kept test vs w passes h))
    (contains_cons v w vs c)

module _ (p : PauseView) where
  -- the turn of a long object's word, and of another's
  pub turn_long : (number : ℕ) (f : Found) (i : ℕ) → nat_lt PAGE_WORDS f.len ≡ true → turn_of p number f i ≡ span_turn p (word_in p f i)
  turn_long number f i e = cond-true (nat_lt PAGE_WORDS f.len) (span_turn p (word_in p f i)) (page_turn p number f i) e

  pub turn_short : (number : ℕ) (f : Found) (i : ℕ) → nat_lt PAGE_WORDS f.len ≡ false → turn_of p number f i ≡ page_turn p number f i
  turn_short number f i e = cond-false (nat_lt PAGE_WORDS f.len) (span_turn p (word_in p f i)) (page_turn p number f i) e

  -- each turn is that of a helper
  span_below : 0 < p.helpers → (w : ℕ) → span_turn p w < p.helpers
  span_below some w =
      let t : (w / (4 * PAGE_BYTES)) % 64 ≤ 63 = omega arith in
      let most = mul-le-mul_left p.helpers t in
      omega (arith, some, most)

  pub turn_below : 0 < p.helpers → (number : ℕ) (f : Found) (i : ℕ) → turn_of p number f i < p.helpers
  turn_below some number f i = cond_both (nat_lt PAGE_WORDS f.len) (span_turn p (word_in p f i)) (page_turn p number f i) (λ t. t < p.helpers) (λ e. span_below some (word_in p f i)) (λ e. mod-lt _ some)

  module _ (place w : ℕ) where
    -- a word that has the turn was visited
    pub own_visits : (a b : Helper) → span_turn p w ≡ place → Visits p w a b → VisitsAll p (own_words p place (w ∷ [])) a b
    own_visits a b turn v =
        subst (λ (l : List ℕ). VisitsAll p l a b) (sym (cond-true (span_turn p w == place) (w ∷ []) [] (eq-eqb _ _ turn))) (visits_one p w a b v)

    pub own_tells : (r : Bool) → span_turn p w ≡ place → TellsStray (found p) (bytes_of p.marker) (w ∷ []) r → TellsStray (found p) (bytes_of p.marker) (own_words p place (w ∷ [])) r
    own_tells r turn t =
        subst (λ (l : List ℕ). TellsStray (found p) (bytes_of p.marker) l r) (sym (cond-true (span_turn p w == place) (w ∷ []) [] (eq-eqb _ _ turn))) t

    -- and one that lies outside of the heap, or has another turn, needs no visit
    module _ (other : IsOutside (bytes_of p.marker) w ⊎ (span_turn p w ≡ place → ⊥)) where
      pub other_visits : (h : Helper) → IsReadyPause p → IsOf p.table h.claimer → VisitsAll p (own_words p place (w ∷ [])) h h
      other_visits h ready of = ⊎_elim
          (λ out. cond_both (span_turn p w == place) (w ∷ []) [] (λ l. VisitsAll p l h h) (λ t. visits_one p w h h (visit_outside p w h ready of out)) (λ t. visits_none p h of))
          (λ ne. subst (λ (l : List ℕ). VisitsAll p l h h) (sym (cond-false (span_turn p w == place) (w ∷ []) [] (ne_eqb _ _ ne))) (visits_none p h of))
          other

      pub other_tells : TellsStray (found p) (bytes_of p.marker) (own_words p place (w ∷ [])) false
      other_tells = ⊎_elim
          (λ out. cond_both (span_turn p w == place) (w ∷ []) [] (λ l. TellsStray (found p) (bytes_of p.marker) l false) (λ t. tells_none (found p) (bytes_of p.marker) w (inr out)) (λ t. tells_nothing (found p) (bytes_of p.marker)))
          (λ ne. subst (λ (l : List ℕ). TellsStray (found p) (bytes_of p.marker) l false) (sym (cond-false (span_turn p w == place) (w ∷ []) [] (ne_eqb _ _ ne))) (tells_nothing (found p) (bytes_of p.marker)))
          other

  -- a stray word among a helper's own is one of all
  pub tells_whole : (place : ℕ) (ws : List ℕ) → TellsStray (found p) (bytes_of p.marker) (own_words p place ws) true → TellsStray (found p) (bytes_of p.marker) ws true
  tells_whole place ws t = record {
    some = λ e. let s = t.some refl in (s.0, was_there (λ w. span_turn p w == place) ws s.0 s.1, s.2);
    none = λ e. absurd (true≢false e);
  }

  -- the helper's own words of those of an object that lie in a row on one page
  pub reads_own : (f : Found) (first n page : ℕ) (a b c : Helper) → first + n ≤ f.len → ((i : ℕ) → first ≤ i → i < first + n → page_of (word_address f i) ≡ page) → VisitsAll p (own_words p a.place (words_from p.memory f first n)) a b
      → c.claimer ≡ b.claimer → c.waiting ≡ b.waiting → c.dirty ≡ b.dirty → c.place ≡ b.place → CarriesPage (found p) (bytes_of p.marker) (own_words p a.place (words_from p.memory f first n)) page b.carried c.carried → ReadsOwn p f first n a c
  reads_own f first n page a b c fits one_page v cl st di sh carries =
      let r = reads_some p (λ i. span_turn p (word_in p f i) ≡ a.place) (own_words p a.place (words_from p.memory f first n)) f first n page a b c fits one_page
      (λ i le lt turn. is_kept (λ w. span_turn p w == a.place) (words_from p.memory f first n) (word_in p f i) (eq-eqb _ _ turn) (contains_word p.memory f first n i le lt))
      (λ w h. was_there (λ w. span_turn p w == a.place) (words_from p.memory f first n) w h) v cl st di sh carries in
      record { extends = r.extends; read = r.read; strays = r.strays; only = r.only }
