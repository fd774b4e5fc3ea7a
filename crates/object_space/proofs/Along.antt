-- The words of links, one link after another.
use Rattle.std.proofs.Common.{◌≡◌, ℕ, ◌+◌, ◌<◌, Bool, true, false, List, [], length, get_or, cond, take, refl, sym, ap, ◌∙◌, subst}
use Rattle.std.specs.Prelude.{◌++◌, ◌∷◌, filter, ◌||◌, ◌&&◌, ◌==◌}
use Rattle.std.proofs.lemmas.List.Folds.{list_any_more}
use Rattle.std.proofs.lemmas.List.Elements.{filter_more}
use Rattle.pages.specs.Memory.{word_index}
use Rattle.links.specs.declared.row.Link.{Link}
use Rattle.object_space.specs.Store.{Store}
use Rattle.object_space.specs.Kept.{kept_in}
use Rattle.object_space.specs.Along.{IsBesideWords, ClearsWords, TakesAlong, clears, is_cleared}

cond_or : (a b : Bool) (z w : ℕ) → cond b z (cond a z w) ≡ cond (a || b) z w
cond_or true true z w = refl
cond_or true false z w = refl
cond_or false b z w = refl

-- what is kept is told by what doesn't change
pub kept_beside : (t t' : Store) (marks : List Bool) → IsBesideWords t t' → kept_in t'.states t'.pending marks ≡ kept_in t.states t.pending marks
kept_beside t t' marks b = ap (λ ss. kept_in ss t'.pending marks) b.states ∙ ap (λ row. kept_in t.states row marks) b.pending

pub along_more : (marks : List Bool) (row : List Link) (i : ℕ) (l d : Link) (t0 t t' : Store) → i < length row → l ≡ get_or row i d → TakesAlong (kept_in t0.states t0.pending marks) (take i row) t0 t
    → ClearsWords (kept_in t.states t.pending marks) l t t' → TakesAlong (kept_in t0.states t0.pending marks) (take (i + 1) row) t0 t'
along_more marks row i l d t0 t t' lt is so one =
    let one' = subst (λ kept. ClearsWords kept l t t') (kept_beside t0 t marks so.beside) one in
    record {
      beside = record {
        free = one.beside.free ∙ so.beside.free;
        states = one.beside.states ∙ so.beside.states;
        pending = one.beside.pending ∙ so.beside.pending;
        size = one.beside.size ∙ so.beside.size;
      };
      words = λ k.
          one'.words k
          ∙ ap (λ w. cond ((word_index l.address == k) && is_cleared (kept_in t0.states t0.pending marks) l) 0 w) (so.words k)
          ∙ cond_or (clears (kept_in t0.states t0.pending marks) (take i row) k) ((word_index l.address == k) && is_cleared (kept_in t0.states t0.pending marks) l) 0 (get_or t0.words k 0)
          ∙ ap (λ b. cond b 0 (get_or t0.words k 0)) (ap (λ (x : Link). clears (kept_in t0.states t0.pending marks) (take i row) k || ((word_index x.address == k) && is_cleared (kept_in t0.states t0.pending marks) x)) is
          ∙ sym (list_any_more (λ (x : Link). (word_index x.address == k) && is_cleared (kept_in t0.states t0.pending marks) x) row i d lt));
    }

-- and which of them stay
pub kept_more : (p : Link → Bool) (row : List Link) (i : ℕ) (d : Link) (b : Bool) (us vs : List Link) → i < length row → p (get_or row i d) ≡ b → us ≡ filter p (take i row)
    → vs ≡ us ++ cond b (get_or row i d ∷ []) [] → vs ≡ filter p (take (i + 1) row)
kept_more p row i d b us vs lt test so now =
    now ∙ ap (λ l. l ++ cond b (get_or row i d ∷ []) []) so ∙ ap (λ c. filter p (take i row) ++ cond c (get_or row i d ∷ []) []) (sym test) ∙ sym (filter_more p row i d lt)
