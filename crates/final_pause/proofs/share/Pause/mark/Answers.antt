use Rattle.std.proofs.Common.{◌≡◌, ◌∙◌, ◌∷◌, ℕ, List, Bool, length, sym, ap, subst, refl}
use Rattle.std.specs.Prelude.{if◌then◌else◌}
use Rattle.std.proofs.lemmas.Bool.{true≢false, false_from_ne_true}
use Rattle.words.specs.Layout.{granule}
use Rattle.mark_bits.specs.Tables.{view}
use Rattle.mark_bits.specs.Claims.{knows}
use Rattle.block_map.specs.Objects.{IsPlaced}
use Rattle.final_pause.specs.Pauses.{pause_view}
use Rattle.final_pause.proofs.Growing.{visit_old, visit_new}
use Rattle.final_pause.proofs.share.Pause.mark.Goals as goal

pub queue-requires-clause-placed : goal.queue-requires-clause-placed
queue-requires-clause-placed g c =
    subst (λ (n : ℕ). IsPlaced n c.args.found) (sym (ap length c.claim.ensures.dirty ∙ c.requires.helper.dirty))
    (c.requires.helper.ready.map.placed c.args.found.base c.args.found c.requires.object)

pub returns-then-is_set : goal.returns-then-is_set
returns-then-is_set g c w points =
    let k = c.is_set.ensures in
    visit_old (pause_view c.args.self.now) w c.args.found c.args.helper.now (record c.args.helper.now { claimer = c.is_set.new.me })
    points k.of refl refl refl refl k.learns
    (ap (λ (n : ℕ). knows (view c.is_set.new.me) n) (sym c.granule-granule.ensures.value) ∙ k.set c.if-is_set.true) k.won

pub returns-then-claim : goal.returns-then-claim
returns-then-claim g c w points =
    let s = c.is_set.ensures in let k = c.claim.ensures in
    let won : List ℕ = (view c.is_set.new.me).won in
    let n : ℕ = c.granule-granule.result in
    let is : n ≡ granule c.args.found.base = c.granule-granule.ensures.value in
    visit_new (pause_view c.args.self.now) w c.args.found c.args.helper.now c.claim.new.helper c.queue.new.helper
    c.requires.helper.ready.map c.requires.helper.ready.granules points k.of k.waiting k.dirty k.carried k.place
    (record { right = k.learns.right ∙ s.learns.right; known = λ j e. k.learns.known j (s.learns.known j e) })
    (ap (λ (j : ℕ). knows (view c.claim.new.helper.claimer) j) (sym is) ∙ k.known)
    (ap (λ (j : ℕ). knows (view c.args.helper.now.claimer) j) (sym is) ∙ false_from_ne_true (knows (view c.args.helper.now.claimer) n) (λ e. true≢false (sym (s.known c.granule-granule.ensures.inside e) ∙ c.if-is_set.false)))
    (k.won ∙ (ap (λ (b : Bool). if b then n ∷ won else won) c.if-claim.true ∙ (ap (λ (j : ℕ). j ∷ won) is ∙ ap (λ (l : List ℕ). granule c.args.found.base ∷ l) s.won)))
    c.queue.ensures

pub returns-else-claim : goal.returns-else-claim
returns-else-claim g c w points =
    let s = c.is_set.ensures in let k = c.claim.ensures in
    let won : List ℕ = (view c.is_set.new.me).won in
    let n : ℕ = c.granule-granule.result in
    visit_old (pause_view c.args.self.now) w c.args.found c.args.helper.now c.claim.new.helper
    points k.of k.waiting k.dirty k.carried k.place
    (record { right = k.learns.right ∙ s.learns.right; known = λ j e. k.learns.known j (s.learns.known j e) })
    (ap (λ (j : ℕ). knows (view c.claim.new.helper.claimer) j) (sym c.granule-granule.ensures.value) ∙ k.known)
    (k.won ∙ (ap (λ (b : Bool). if b then n ∷ won else won) c.if-claim.false ∙ s.won))
