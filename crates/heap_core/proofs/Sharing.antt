-- Shares that are taken from others and come back.
use Rattle.std.proofs.Common.{◌≡◌, ℕ, ◌+◌, ◌-◌, ◌*◌, ◌<◌, ◌≤◌, Bool, true, false, refl, List, [], ◌∷◌, ◌++◌, length, get_or, sym, subst, ap, ◌∙◌, ⊎_elim, arith}
use Rattle.std.proofs.lemmas.Bool.{cases_lt, false≢true}
use Rattle.std.proofs.Math.Nat.{mul-suc}
use Rattle.std.proofs.lemmas.List.{get_or-append-add}
use Rattle.std.proofs.lemmas.List.{length-append}
use Rattle.std.proofs.Math.ListN.{get_or-append}
use Rattle.std.proofs.Math.Seq.{get_or-append_seam}
use Rattle.final_pause.specs.declared.helper.Helper.{Helper}
use Rattle.final_pause.specs.Pauses.{PauseView}
use Rattle.final_pause.specs.Helping.{place_of}
use Rattle.final_pause.specs.Serving.{IsServing, HasServed}
use Rattle.final_pause.specs.Rounds.{AreServing, AreServed}
use Rattle.final_pause.specs.declared.round.Round.{Round}
use Rattle.heap_core.specs.CoreContents.{CoreContents}
use Rattle.heap_core.specs.Sharing.{Sharing, AreDone}

-- shares, by what they are made of
abbrev pub sharing : CoreContents → Round → List Helper → ℕ → Bool → Sharing
sharing core round crew from done = record { core = core; round = round; crew = crew; from = from; is_done = done }

-- P is true of each helper and its number, from one number on
abbrev Each : (ℕ → Helper → Type 0) → ℕ → List Helper → Type 0
Each P from crew = (i : ℕ) (d : Helper) → i < length crew → P (from + i) (get_or crew i d)

module _ (P : ℕ → Helper → Type 0) (from : ℕ) (front : List Helper) where
  each_front : (back : List Helper) → Each P from (front ++ back) → Each P from front
  each_front back all i d lt =
      let more = length-append front back in
      subst (P (from + i)) (get_or-append front back d i lt) (all i d (omega (arith, lt, more)))

  each_last : (h : Helper) → Each P from (front ++ h ∷ []) → P (from + length front) h
  each_last h all =
      let more : length (front ++ h ∷ []) ≡ length front + 1 = length-append front (h ∷ []) in
      subst (P (from + length front)) (get_or-append_seam front h [] h) (all (length front) h (omega (arith, more)))

  each_append : (back : List Helper) → Each P from front → Each P (from + length front) back → Each P from (front ++ back)
  each_append back a b i d lt = ⊎_elim
      (λ (low : i < length front). subst (P (from + i)) (sym (get_or-append front back d i low)) (a i d low))
      (λ (high : length front ≤ i).
      let more = length-append front back in
      let j : ℕ = i - length front in
      let at : length front + j ≡ i = omega (arith, high) in
      let number : (from + length front) + j ≡ from + i = omega (arith, at) in
      let is : get_or back j d ≡ get_or (front ++ back) i d = sym (get_or-append-add front back j d) ∙ ap (λ (n : ℕ). get_or (front ++ back) n d) at in
      subst (λ (n : ℕ). P n (get_or (front ++ back) i d)) number (subst (P ((from + length front) + j)) is (b j d (omega (arith, lt, more, high)))))
      (cases_lt i (length front))

each_one : (P : ℕ → Helper → Type 0) (n : ℕ) (h : Helper) → P n h → Each P n (h ∷ [])
each_one P n h is i d lt =
    let none : 0 ≡ i = omega (arith, lt) in
    let number : n ≡ n + i = omega (arith, none) in
    subst (λ (k : ℕ). P (n + i) (get_or (h ∷ []) k d)) none (subst (λ (k : ℕ). P k h) number is)

module _ (p : PauseView) where
  abbrev At : ℕ → Helper → Type 0
  At n h = IsServing p h × (place_of h ≡ n)

  of_each : (from : ℕ) (crew : List Helper) → Each At from crew → AreServing p from crew
  of_each from crew all = record { each = λ i d lt. (all i d lt).0; numbered = λ i d lt. (all i d lt).1 }

  to_each : (from : ℕ) (crew : List Helper) → AreServing p from crew → Each At from crew
  to_each from crew s i d lt = (s.each i d lt, s.numbered i d lt)

  -- the last one goes
  pub serving_front : (from : ℕ) (front back crew : List Helper) → crew ≡ front ++ back → AreServing p from crew → AreServing p from front
  serving_front from front back crew is s = of_each from front (each_front At from front back (to_each from (front ++ back) (subst (AreServing p from) is s)))

  pub serving_last : (from : ℕ) (front crew : List Helper) (h : Helper) → crew ≡ front ++ h ∷ [] → AreServing p from crew → IsServing p h × (place_of h ≡ from + length front)
  serving_last from front crew h is s = each_last At from front h (to_each from (front ++ h ∷ []) (subst (AreServing p from) is s))

  pub serving_one : (h : Helper) (n : ℕ) (crew : List Helper) → crew ≡ h ∷ [] → IsServing p h → place_of h ≡ n → AreServing p n crew
  serving_one h n crew is s place = subst (AreServing p n) (sym is) (of_each n (h ∷ []) (each_one At n h (s, place)))

  pub serving_append : (from next : ℕ) (front back crew : List Helper) → next ≡ from + length front → crew ≡ front ++ back → AreServing p from front → AreServing p next back → AreServing p from crew
  serving_append from next front back crew at is a b =
      subst (AreServing p from) (sym is) (of_each from (front ++ back) (each_append At from front back (to_each from front a) (to_each (from + length front) back (subst (λ (n : ℕ). AreServing p n back) at b))))

  -- the same of those that are done
  pub served_front : (from : ℕ) (front back crew : List Helper) → crew ≡ front ++ back → AreServed p from crew → AreServed p from front
  served_front from front back crew is s = each_front (HasServed p) from front back (subst (AreServed p from) is s)

  pub served_last : (from : ℕ) (front crew : List Helper) (h : Helper) → crew ≡ front ++ h ∷ [] → AreServed p from crew → HasServed p (from + length front) h
  served_last from front crew h is s = each_last (HasServed p) from front h (subst (AreServed p from) is s)

  pub served_one : (h : Helper) (n : ℕ) (crew : List Helper) → crew ≡ h ∷ [] → HasServed p n h → AreServed p n crew
  served_one h n crew is s = subst (AreServed p n) (sym is) (each_one (HasServed p) n h s)

  pub served_append : (from next : ℕ) (front back crew : List Helper) → next ≡ from + length front → crew ≡ front ++ back → AreServed p from front → AreServed p next back → AreServed p from crew
  served_append from next front back crew at is a b =
      subst (AreServed p from) (sym is) (each_append (HasServed p) from front back a (subst (λ (n : ℕ). AreServed p n back) at b))

-- shares that are done stay as they are
pub done_before : (s : Sharing) → s.is_done ≡ true → AreDone s s
done_before s e = record {
  same = ap (sharing s.core s.round s.crew s.from) e;
  size = refl;
  again = λ _. refl;
}

-- those that weren't are done now
pub done_now : (s : Sharing) (crew : List Helper) → s.is_done ≡ false → length crew ≡ length s.crew → AreDone s (record s { crew = crew; is_done = true })
done_now s crew e size = record { same = refl; size = size; again = λ done. absurd (false≢true (sym e ∙ done)) }

-- so many words more, of so many for each
pub few_more : (most at read more sum : ℕ) → sum ≤ read + more → read ≤ most * at → more ≤ most → sum ≤ most * (at + 1)
few_more most at read more sum least few each = let e = mul-suc most at in omega (arith, e, least, few, each)
