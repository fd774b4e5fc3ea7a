-- Helpers that are hired one after the other have the shares of their places.
use Rattle.std.proofs.Common.{◌≡◌, ◌+◌, List, [], ◌∷◌, ◌++◌, length, get_or, sym, ap, ◌∙◌, ⊎_elim, arith}
use Rattle.std.proofs.Math.Seq.{get_or-append_seam}
use Rattle.std.proofs.lemmas.Bool.{cases_lt}
use Rattle.std.proofs.lemmas.List.{get_or_append_left, length-append}
use Rattle.final_pause.specs.declared.helper.Helper.{Helper}
use Rattle.final_pause.specs.Gathering.{AreNumbered}

pub numbered_push : (crew new : List Helper) (h : Helper) → new ≡ crew ++ h ∷ [] → AreNumbered crew → h.place ≡ length crew → AreNumbered new
numbered_push crew new h is all share i d lt =
    let size : length new ≡ length crew + length (h ∷ []) = ap length is ∙ length-append crew (h ∷ []) in
    ap (λ hs. (get_or hs i d).place) is
    ∙ ⊎_elim
    (λ low. ap (λ x. x.place) (get_or_append_left crew (h ∷ []) d i low) ∙ all i d low)
    (λ high.
    let e : i ≡ length crew = omega (arith, high, lt, size) in
    ap (λ n. (get_or (crew ++ h ∷ []) n d).place) e ∙ ap (λ x. x.place) (get_or-append_seam crew h [] d) ∙ share ∙ sym e)
    (cases_lt i (length crew))
