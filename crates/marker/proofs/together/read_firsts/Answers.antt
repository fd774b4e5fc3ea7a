use Rattle.std.proofs.Common.{◌≡◌, ℕ, ◌+◌, ◌<◌, ◌∙◌, ◌∷◌, List, [], length, get_or, sym, ap, subst, ⊎_elim, arith}
use Rattle.std.proofs.lemmas.Bool.{cases_eq}
use Rattle.std.proofs.lemmas.List.{length_push, get_or_push, get_or_append_left}
use Rattle.std.proofs.lemmas.List.Elements.{Contains-get_or}
use Rattle.marker.specs.declared.together.Begun.{Begun}
use Rattle.marker.specs.Begun.{IsSeen, none_begun}
use Rattle.marker.proofs.together.read_firsts.Goals as goal

pub read-requires : goal.read-requires
read-requires c =
    let inside : c.loop-k.k < length c.args.begun.now.items = (let t = c.loop-k-test.true in let n = c.len-k-end.ensures.value in omega arith) in
    rw (c.deref.ensures.0, c.loop-k.invariant.words) (c.requires _ (Contains-get_or c.args.begun.now.items c.loop-k.k (record { base = 0; len = 0 }) inside))

pub loop-k-preserved : goal.loop-k-preserved
loop-k-preserved c =
    let i = c.loop-k.invariant in
    let items : List Begun = c.args.begun.now.items in
    let before : List ℕ = c.loop-k.firsts.items in
    let after : List ℕ = c.push.new.self.items in
    let moments : List (List ℕ) = c.loop-k.reader.moments in
    let put = c.push.ensures.items in
    record {
      count = ap length put ∙ length_push before c.read.result ∙ ap (λ n. n + 1) i.count;
      each = λ k lt. ⊎_elim
          (λ (e : k ≡ c.loop-k.k).
          let value : get_or after k 0 ≡ c.read.result = ap (λ l. get_or l k 0) put ∙ get_or_push before c.read.result 0 k (i.count ∙ sym e) in
          let base = ap (λ (l : List Begun). (get_or l c.loop-k.k none_begun).base) c.deref.ensures.0 ∙ ap (λ (j : ℕ). (get_or items j none_begun).base) (sym e) in
          subst (λ (ms : List (List ℕ)). IsSeen ms (get_or items k none_begun).base (get_or after k 0)) i.moments
          (subst (λ (a : ℕ). IsSeen moments a (get_or after k 0)) base (subst (λ (v : ℕ). IsSeen moments (get_or c.deref.result.now c.loop-k.k none_begun).base v) (sym value) c.read.ensures.word)))
          (λ ne.
          let below : k < c.loop-k.k = omega arith in
          let inside : k < length before = (let n = i.count in omega arith) in
          let value : get_or after k 0 ≡ get_or before k 0 = ap (λ l. get_or l k 0) put ∙ get_or_append_left before (c.read.result ∷ []) 0 k inside in
          subst (λ (v : ℕ). IsSeen c.args.reader.now.moments (get_or items k none_begun).base v) (sym value) (i.each k below))
          (cases_eq k c.loop-k.k);
      words = c.read.ensures.words ∙ i.words;
      moments = c.read.ensures.moments ∙ i.moments;
      reads = (let r = c.read.ensures.counted in let k = i.reads in omega arith);
    }
