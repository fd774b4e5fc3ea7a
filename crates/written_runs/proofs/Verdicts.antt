-- Of the lines of a run one verdict is true.
use Rattle.std.proofs.Common.{◌≡◌, ◌⊎◌, ℕ, ◌+◌, ◌≤◌, false, List, [], ◌∷◌, ◌++◌, length, refl, sym, ap, ◌∙◌, subst, arith, inl, inr, ⊎_elim, length-append}
use Rattle.std.specs.Prelude.{cond, not}
use Rattle.std.proofs.lemmas.List.Elements.{filter-append}
use Rattle.words.specs.declared.limits.TheConstants.{MAX_PAGES}
use Rattle.heap_spec.specs.Runs.{Start, Run, opening_start, heap_after}
use Rattle.heap_spec.proofs.Calls.{opening_is}
use Rattle.heap_spec.proofs.Touching.{sound_apart}
use Rattle.written_runs.specs.declared.places.Places.{Places}
use Rattle.written_runs.specs.declared.places.Places.TheVariants.{Classes, Any}
use Rattle.written_runs.specs.declared.rules.Rule.{Rule}
use Rattle.written_runs.specs.declared.verdict.Verdict.{Verdict}
use Rattle.written_runs.specs.declared.verdict.Verdict.TheVariants.{Legal, NoLines, Bad, Breaks}
use Rattle.written_runs.specs.Ranges.{HasRange}
use Rattle.written_runs.specs.Judging.{Leads, ends, on, IsBroken, HasFault, IsJudged}
use Rattle.written_runs.specs.Steps.{IsStepLine, IsUnwritten}
use Rattle.written_runs.specs.Told.{is_comment, told_lines}
use Rattle.written_runs.proofs.Rereading.{IsFit, goes_alike, line_alike, rules_alike}

-- The run after some lines goes on by those behind them.
record GoesOn (places : Places) (start : Start) (run : Run) (lines : List (List ℕ)) (last : Run) : Type 0 where
  fit : IsFit places (heap_after start run)
  leads : Leads places start run lines last

goes_on : (places : Places) (start : Start) (run : Run) → IsFit places (heap_after start run) → (front back : List (List ℕ)) (mid last : Run) → Leads places start run front mid → Leads places start run (front ++ back) last → GoesOn places start mid back last
goes_on places start run h [] back mid last ends whole = record { fit = h; leads = whole }
goes_on places start run h (line ∷ front) back mid last (on {mid = near} t rest) (on {mid = near'} t' rest') =
    let next = line_alike places start run h line near near' t t' in
    goes_on places start near next.fit front back mid last rest (subst (λ x. Leads places start x (front ++ back) last) (sym next.same) rest')

-- A fault stops a run: no run goes on by a line with it.
abbrev StopsRuns : Places → Start → (Run → List ℕ → Type 0) → Type 0
StopsRuns places start Fault = (run last : Run) (line : List ℕ) (behind : List (List ℕ)) → Fault run line → Leads places start run (line ∷ behind) last → ⊥

unwritten_stops : (places : Places) (start : Start) → StopsRuns places start (λ run line. IsUnwritten places line)
unwritten_stops places start run last line behind fault (on t rest) = fault t.step t.is_written

broken_stops : (places : Places) (start : Start) (rule : Rule) → StopsRuns places start (IsBroken places start rule)
broken_stops places start rule run last line behind b (on {mid = mid} t rest) =
    b.no_next mid (goes_alike places line b.step t.step b.is_written t.is_written start run mid t.goes)

-- Where two lists are one that was parted twice.
record ArePartedAlike (front front' : List (List ℕ)) (line line' : List ℕ) : Type 0 where
  fronts : front ≡ front'
  lines : line ≡ line'

abbrev IsPartedEarlier : List (List ℕ) → List (List ℕ) → List ℕ → Type 0
IsPartedEarlier front front' line = (between : List (List ℕ)) × (front' ≡ front ++ line ∷ between)

-- whether two lists are one that was parted twice, or where one of them was parted earlier
abbrev HowParted : List (List ℕ) → List (List ℕ) → List ℕ → List ℕ → Type 0
HowParted front front' line line' = IsPartedEarlier front front' line ⊎ (IsPartedEarlier front' front line' ⊎ ArePartedAlike front front' line line')

both : (x y : List ℕ) (xs ys : List (List ℕ)) → x ≡ y → xs ≡ ys → x ∷ xs ≡ y ∷ ys
both x y xs ys first rest = ap (λ l. l ∷ xs) first ∙ ap (λ ls. y ∷ ls) rest

parted_behind : (x y : List ℕ) (front front' : List (List ℕ)) (line line' : List ℕ) → x ≡ y → HowParted front front' line line' → HowParted (x ∷ front) (y ∷ front') line line'
parted_behind x y front front' line line' same how =
    ⊎_elim (λ early. inl (early.0, both y x front' (front ++ line ∷ early.0) (sym same) early.1))
    (λ rest. inr (⊎_elim (λ early. inl (early.0, both x y front (front' ++ line' ∷ early.0) same early.1))
    (λ alike. inr (record { fronts = both x y front front' same alike.fronts; lines = alike.lines })) rest))
    how

parted : (front front' : List (List ℕ)) (line line' : List ℕ) (behind behind' : List (List ℕ)) → front ++ line ∷ behind ≡ front' ++ line' ∷ behind'
    → HowParted front front' line line'
parted [] [] line line' behind behind' e = let same : line ≡ line' = cc in inr (inr (record { fronts = refl; lines = same }))
parted [] (x ∷ front') line line' behind behind' e = let same : line ≡ x = cc in inl (front', ap (λ l. l ∷ front') (sym same))
parted (x ∷ front) [] line line' behind behind' e = let same : x ≡ line' = cc in inr (inl (front, ap (λ l. l ∷ front) same))
parted (x ∷ front) (y ∷ front') line line' behind behind' e =
    let more : front ++ line ∷ behind ≡ front' ++ line' ∷ behind' = cc in
    let same : x ≡ y = cc in
    parted_behind x y front front' line line' same (parted front front' line line' behind behind' more)

-- what lines tell that are parted at one that is told
told_parted : (before behind : List (List ℕ)) (line : List ℕ) → is_comment line ≡ false → told_lines (before ++ line ∷ behind) ≡ told_lines before ++ line ∷ told_lines behind
told_parted before behind line told =
    filter-append (λ l. not (is_comment l)) before (line ∷ behind)
    ∙ ap (λ v. told_lines before ++ cond (not v) (line ∷ told_lines behind) (told_lines behind)) told

told_where : (lines before behind : List (List ℕ)) (line : List ℕ) → lines ≡ before ++ line ∷ behind → is_comment line ≡ false → told_lines lines ≡ told_lines before ++ line ∷ told_lines behind
told_where lines before behind line are told = ap told_lines are ∙ told_parted before behind line told

-- lines that tell nothing have no fault
no_fault : (places : Places) (Fault : Run → List ℕ → Type 0) (start : Start) (lines : List (List ℕ)) (number : ℕ) → told_lines lines ≡ [] → HasFault places Fault start lines number → ⊥
no_fault places Fault start lines number none f =
    let tell = ap length (sym none ∙ told_where lines f.before f.behind f.line f.are f.told) in
    absurd (omega (arith, tell, length-append (told_lines f.before) (f.line ∷ told_lines f.behind)))

module _ (places : Places) (start : Start) (opens : IsFit places (heap_after start [])) (lines : List (List ℕ)) where
  -- lines with a fault lead to no run
  no_run : (Fault : Run → List ℕ → Type 0) → StopsRuns places start Fault → (number : ℕ) → HasFault places Fault start lines number → (last : Run) → Leads places start [] (told_lines lines) last → ⊥
  no_run Fault stops number f last leads =
      let after = goes_on places start [] opens (told_lines f.before) (f.line ∷ told_lines f.behind) f.run last f.leads (subst (λ ls. Leads places start [] ls last) (told_where lines f.before f.behind f.line f.are f.told) leads) in
      stops f.run last f.line (told_lines f.behind) f.fault after.leads

  -- Two faults of the lines are at one place.
  module _ (Fault Other : Run → List ℕ → Type 0) (stops : StopsRuns places start Fault) (stops' : StopsRuns places start Other) (n k : ℕ) (f : HasFault places Fault start lines n) (g : HasFault places Other start lines k) where
    not_earlier : IsPartedEarlier f.before g.before f.line → ⊥
    not_earlier early =
        let after = goes_on places start [] opens (told_lines f.before) (f.line ∷ told_lines early.0) f.run g.run f.leads (subst (λ ls. Leads places start [] ls g.run) (told_where g.before f.before early.0 f.line early.1 f.told) g.leads) in
        stops f.run g.run f.line (told_lines early.0) f.fault after.leads

    not_later : IsPartedEarlier g.before f.before g.line → ⊥
    not_later early =
        let after = goes_on places start [] opens (told_lines g.before) (g.line ∷ told_lines early.0) g.run f.run g.leads (subst (λ ls. Leads places start [] ls f.run) (told_where f.before g.before early.0 g.line early.1 g.told) f.leads) in
        stops' g.run f.run g.line (told_lines early.0) g.fault after.leads

    one_place : ArePartedAlike f.before g.before f.line g.line
    one_place = ⊎_elim (λ early. absurd (not_earlier early)) (λ rest. ⊎_elim (λ early. absurd (not_later early)) (λ alike. alike) rest) (parted f.before g.before f.line g.line f.behind g.behind (sym f.are ∙ g.are))

    one_number : n ≡ k
    one_number = f.counted ∙ ap (λ ls. length ls + 1) one_place.fronts ∙ sym g.counted

  -- the rules of two breaks of one line are one
  broken_alike : (rule rule' : Rule) (n k : ℕ) → HasFault places (IsBroken places start rule) start lines n → HasFault places (IsBroken places start rule') start lines k → Breaks n rule ≡ Breaks k rule'
  broken_alike rule rule' n k f g =
      let place = one_place (IsBroken places start rule) (IsBroken places start rule') (broken_stops places start rule) (broken_stops places start rule') n k f g in
      let number = one_number (IsBroken places start rule) (IsBroken places start rule') (broken_stops places start rule) (broken_stops places start rule') n k f g in
      let a = f.fault in
      let b = g.fault in
      let rules : rule ≡ rule' = a.named ∙ rules_alike places g.line a.step b.step (subst (λ l. IsStepLine places l a.step) place.lines a.is_written) b.is_written ∙ sym b.named in
      ap (λ m. Breaks m rule) number ∙ ap (λ r. Breaks k r) rules

  not_both : (rule : Rule) (n k : ℕ) → HasFault places (λ run line. IsUnwritten places line) start lines n → HasFault places (IsBroken places start rule) start lines k → ⊥
  not_both rule n k f g =
      let place = one_place (λ run line. IsUnwritten places line) (IsBroken places start rule) (unwritten_stops places start) (broken_stops places start rule) n k f g in
      let b = g.fault in
      f.fault b.step (subst (λ l. IsStepLine places l b.step) (sym place.lines) b.is_written)

pub one_verdict : (places : Places) (pages : ℕ) → 1 ≤ pages → pages ≤ MAX_PAGES → HasRange places pages → (lines : List (List ℕ)) (verdict verdict' : Verdict) → IsJudged places pages lines verdict → IsJudged places pages lines verdict' → verdict ≡ verdict'
one_verdict places pages some few range lines verdict verdict' is is' = by_verdicts verdict verdict' is is'
  where
    start : Start
    start = opening_start pages

    opens : (among : Places) → HasRange among pages → IsFit among (heap_after start [])
    opens Classes has = opening_is pages some few
    opens (Any from) has = (has.past_zero, sound_apart (heap_after start []) (opening_is pages some few))

    some_told : (count : ℕ) → IsJudged places pages lines (Legal count) → IsJudged places pages lines NoLines → ⊥
    some_told count x none = let h = x.counted in let k = x.some in let e = ap length none in absurd (omega (arith, h, k, e))

    by_verdicts : (v w : Verdict) → IsJudged places pages lines v → IsJudged places pages lines w → v ≡ w
    by_verdicts (Legal n) (Legal k) x y = ap Legal (x.counted ∙ sym y.counted)
    by_verdicts (Legal n) NoLines x y = absurd (some_told n x y)
    by_verdicts (Legal n) (Bad k) x y = absurd (no_run places start (opens places range) lines (λ run line. IsUnwritten places line) (unwritten_stops places start) k y x.last x.leads)
    by_verdicts (Legal n) (Breaks k rule) x y = absurd (no_run places start (opens places range) lines (IsBroken places start rule) (broken_stops places start rule) k y x.last x.leads)
    by_verdicts NoLines (Legal k) x y = absurd (some_told k y x)
    by_verdicts NoLines NoLines x y = refl
    by_verdicts NoLines (Bad k) x y = absurd (no_fault places (λ run line. IsUnwritten places line) start lines k x y)
    by_verdicts NoLines (Breaks k rule) x y = absurd (no_fault places (IsBroken places start rule) start lines k x y)
    by_verdicts (Bad n) (Legal k) x y = absurd (no_run places start (opens places range) lines (λ run line. IsUnwritten places line) (unwritten_stops places start) n x y.last y.leads)
    by_verdicts (Bad n) NoLines x y = absurd (no_fault places (λ run line. IsUnwritten places line) start lines n y x)
    by_verdicts (Breaks n rule) (Legal k) x y = absurd (no_run places start (opens places range) lines (IsBroken places start rule) (broken_stops places start rule) n x y.last y.leads)
    by_verdicts (Breaks n rule) NoLines x y = absurd (no_fault places (IsBroken places start rule) start lines n y x)
    by_verdicts (Bad n) (Bad k) x y = ap Bad (one_number places start (opens places range) lines (λ run line. IsUnwritten places line) (λ run line. IsUnwritten places line) (unwritten_stops places start) (unwritten_stops places start) n k x y)
    by_verdicts (Bad n) (Breaks k rule) x y = absurd (not_both places start (opens places range) lines rule n k x y)
    by_verdicts (Breaks n rule) (Bad k) x y = absurd (not_both places start (opens places range) lines rule k n y x)
    by_verdicts (Breaks n rule) (Breaks k rule') x y = broken_alike places start (opens places range) lines rule rule' n k x y
