-- The links that leave a heap along with objects are those that leave a row which has them, and so are the words that become 0.
use Rattle.std.proofs.Common.{◌≡◌, ◌≢◌, ℕ, ◌+◌, ◌*◌, ◌%◌, ◌<◌, ◌≤◌, Bool, true, false, cond, List, length, get_or, take, refl, sym, ap, ◌∙◌, subst, arith, ⊎_elim}
use Rattle.std.specs.Prelude.{Option, Some, None, Contains, ◌==◌, ◌&&◌, ◌||◌, not, filter}
use Rattle.std.proofs.lemmas.Bool.{true≢false, eq-eqb, ne_eqb, eqb-true, leb-true, ltb-true, cases_eq}
use Rattle.std.proofs.lemmas.List.Folds.{Any-from_list_any, list_any_more}
use Rattle.heap_spec.specs.Layout.{PointsInto}
use Rattle.heap_spec.specs.Heap.{Heap, Object, Link as HeapLink, PointsIntoObject, without, without_at, names, lies_in, loses_word, is_born, covers, with_cleared}
use Rattle.heap_spec.specs.Sound.{HaveDistinctBirths}
use Rattle.heap_spec.proofs.Objects.{without_some, without_other}
use Rattle.heap_spec.proofs.Links.{stays_by, names_yes, lies_yes, neither, length-cleared}
use Rattle.links.specs.declared.row.Link.{Link}
use Rattle.links.specs.Named.{IsNamed, AreNamed}
use Rattle.links.specs.Leaving.{stays_with, loses_with, word_index, clears_with, ClearsWords}
use Rattle.links.proofs.Named.{named_any, named_filter}

-- Two tests tell these objects: whether one of them has the word at an address, and whether one begins there.
pub record TellObjects (objects : ℕ → Option Object) (holds begins : ℕ → Bool) : Type 0 where
  pub held : (a base : ℕ) (o : Object) → objects base ≡ Some o → PointsInto a base (length o.words) → holds a ≡ true
  pub bare : (a : ℕ) → ((base : ℕ) (o : Object) → objects base ≡ Some o → PointsInto a base (length o.words) → ⊥) → holds a ≡ false
  pub there : (base : ℕ) (o : Object) → objects base ≡ Some o → begins base ≡ true
  pub gone : (base : ℕ) → ((o : Object) → objects base ≡ Some o → ⊥) → begins base ≡ false

-- objects whose addresses are read by one alone
abbrev pub PointsIntoOne : Heap → Type 0
PointsIntoOne s = (w a b : ℕ) (o p : Object) → PointsIntoObject s w a o → PointsIntoObject s w b p → a ≡ b

both_not : (x y a b : Bool) → a ≡ not y → b ≡ not x → (a && b) ≡ not (x || y)
both_not true y a b ea eb = ap (λ c. a && c) eb ∙ and_no a
  where
    and_no : (a : Bool) → (a && false) ≡ false
    and_no true = refl
    and_no false = refl
both_not false y a b ea eb = ap (λ c. a && c) eb ∙ and_yes a ∙ ea
  where
    and_yes : (a : Bool) → (a && true) ≡ a
    and_yes true = refl
    and_yes false = refl

not_not : (b : Bool) → not (not b) ≡ b
not_not true = refl
not_not false = refl

born_some : (x : Option Object) (birth : ℕ) → is_born x birth ≡ true → (o : Object) × (x ≡ Some o) × (o.birth ≡ birth)
born_some None birth e = absurd (true≢false (sym e))
born_some (Some o) birth e = (o, refl, eqb-true o.birth birth e)

and_parts : (x y : Bool) → (x && y) ≡ true → (x ≡ true) × (y ≡ true)
and_parts true y e = (refl, e)
and_parts false y e = absurd (true≢false (sym e))

covers_some : (b : ℕ) (x : Option Object) (w : ℕ) → covers b x w ≡ true → (o : Object) × (x ≡ Some o) × PointsInto w b (length o.words)
covers_some b None w e = absurd (true≢false (sym e))
covers_some b (Some o) w e = let both = and_parts _ _ e in (o, refl, (leb-true _ _ both.0, ltb-true _ _ both.1))

module _ (s : Heap) (bases : List ℕ) (holds begins : ℕ → Bool) (left : TellObjects (without_at s.objects bases) holds begins) (distinct : HaveDistinctBirths s.objects) (one : PointsIntoOne s) where
  -- the object that a link names stays, or not
  base_names : (l : Link) (h : HeapLink) → IsNamed s.objects l h → (b : Bool) → names s bases h ≡ b → begins l.base ≡ not b
  base_names l h n true e =
      let b = Any-from_list_any (λ b. is_born (s.objects b) h.birth) bases e in
      let o = born_some (s.objects b.1) h.birth b.4 in
      let same : b.1 ≡ l.base = distinct b.1 l.base o.0 n.object o.1 n.has (o.2 ∙ sym n.names) in
      left.gone l.base (λ p is. (without_some s.objects bases l.base p is).0 (subst (Contains bases) same (b.0, b.2, b.3)))
  base_names l h n false e =
      left.there l.base n.object (without_other s.objects bases l.base (λ among. true≢false (sym (names_yes s bases h l.base n.object n.has n.names among) ∙ e)) ∙ n.has)

  -- its holder stays, or not
  in_holder : (l : Link) (h : HeapLink) → (n : IsNamed s.objects l h) → PointsIntoObject s h.address n.holder_base n.holder
  in_holder l h n = (n.held, subst (λ a. PointsInto a n.holder_base (length n.holder.words)) (sym n.address) n.in_holder)

  holder_lies : (l : Link) (h : HeapLink) → IsNamed s.objects l h → (b : Bool) → lies_in s bases h ≡ b → holds l.address ≡ not b
  holder_lies l h n true e =
      let b = Any-from_list_any (λ b. covers b (s.objects b) h.address) bases e in
      let o = covers_some b.1 (s.objects b.1) h.address b.4 in
      left.bare l.address (λ base p is reads.
      let was = without_some s.objects bases base p is in
      let same : base ≡ b.1 = one l.address base b.1 p o.0 (was.1, reads) (o.1, subst (λ a. PointsInto a b.1 (length o.0.words)) n.address o.2) in
      was.0 (subst (Contains bases) (sym same) (b.0, b.2, b.3)))
  holder_lies l h n false e =
      left.held l.address n.holder_base n.holder
      (without_other s.objects bases n.holder_base (λ among. true≢false (sym (lies_yes s bases h n.holder_base n.holder (in_holder l h n) among) ∙ e)) ∙ n.held) n.in_holder

  stay_same : (l : Link) (h : HeapLink) → IsNamed s.objects l h → stays_with holds begins l ≡ not (names s bases h || lies_in s bases h)
  stay_same l h n = both_not (names s bases h) (lies_in s bases h) (holds l.address) (begins l.base) (holder_lies l h n (lies_in s bases h) refl) (base_names l h n (names s bases h) refl)

  kept_named : (l : Link) (h : HeapLink) → IsNamed s.objects l h → stays_with holds begins l ≡ true → IsNamed (without s bases).objects l h
  kept_named l h n is =
      let no = neither (names s bases h) (lies_in s bases h) (sym (stay_same l h n) ∙ is) in
      let out : Contains bases l.base → ⊥ = λ among. true≢false (sym (names_yes s bases h l.base n.object n.has n.names among) ∙ no.0) in
      let apart : Contains bases n.holder_base → ⊥ = λ among. true≢false (sym (lies_yes s bases h n.holder_base n.holder (in_holder l h n) among) ∙ no.1) in
      record {
        address = n.address;
        aligned = n.aligned;
        holder_base = n.holder_base;
        holder = with_cleared (loses_word s bases) n.holder_base n.holder;
        held = stays_by s bases n.holder_base n.holder n.held apart;
        in_holder = (n.in_holder.0, subst (λ k. l.address < n.holder_base + 8 * k) (sym (length-cleared (loses_word s bases) n.holder_base n.holder.words)) n.in_holder.1);
        object = with_cleared (loses_word s bases) l.base n.object;
        has = stays_by s bases l.base n.object n.has out;
        names = n.names;
      }

  pub named_along : {row : List Link} → AreNamed s.objects row s.links → AreNamed (without s bases).objects (filter (stays_with holds begins) row) (without s bases).links
  named_along are = named_filter s.objects (without s bases).objects (stays_with holds begins) (λ h. not (names s bases h || lies_in s bases h)) stay_same kept_named are

  -- the word at an address that is held
  module _ (origin : ℕ) (low : (a : ℕ) → holds a ≡ true → origin ≤ a) (a : ℕ) (aligned : a % 8 ≡ 0) (held : holds a ≡ true) where
    here : (l : Link) (h : HeapLink) → IsNamed s.objects l h → h.address ≡ a → ((word_index origin l.address == word_index origin a) && loses_with holds begins l) ≡ ((h.address == a) && names s bases h)
    here l h n e =
        let at : l.address ≡ a = sym n.address ∙ e in
        ap (λ b. b && loses_with holds begins l) (eq-eqb (word_index origin l.address) (word_index origin a) (ap (word_index origin) at))
        ∙ ap (λ b. b && not (begins l.base)) (ap holds at ∙ held)
        ∙ ap not (base_names l h n (names s bases h) refl)
        ∙ not_not (names s bases h)
        ∙ sym (ap (λ b. b && names s bases h) (eq-eqb h.address a e))

    unheld : (x : ℕ) (b : Bool) → holds x ≡ b → x % 8 ≡ 0 → x ≢ a → word_index origin x ≡ word_index origin a → b ≡ false
    unheld x true is even ne same = let above = low x is in let above' = low a held in absurd (ne (omega arith))
    unheld x false is even ne same = refl

    elsewhere : (l : Link) (h : HeapLink) → IsNamed s.objects l h → h.address ≢ a → ((word_index origin l.address == word_index origin a) && loses_with holds begins l) ≡ ((h.address == a) && names s bases h)
    elsewhere l h n ne =
        ⊎_elim
        (λ same. ap (λ b. b && loses_with holds begins l) (eq-eqb (word_index origin l.address) (word_index origin a) same)
        ∙ ap (λ b. b && not (begins l.base)) (unheld l.address (holds l.address) refl n.aligned (λ e. ne (n.address ∙ e)) same))
        (λ other. ap (λ b. b && loses_with holds begins l) (ne_eqb (word_index origin l.address) (word_index origin a) other))
        (cases_eq (word_index origin l.address) (word_index origin a))
        ∙ sym (ap (λ b. b && names s bases h) (ne_eqb h.address a ne))

    pub word_same : {row : List Link} → AreNamed s.objects row s.links → clears_with origin holds begins row (word_index origin a) ≡ loses_word s bases a
    word_same are = named_any s.objects (λ l. (word_index origin l.address == word_index origin a) && loses_with holds begins l) (λ h. (h.address == a) && names s bases h)
        (λ l h n. ⊎_elim (here l h n) (elsewhere l h n) (cases_eq h.address a)) are

cond_or : (a b : Bool) (z w : ℕ) → cond b z (cond a z w) ≡ cond (a || b) z w
cond_or true true z w = refl
cond_or true false z w = refl
cond_or false b z w = refl

-- the words of links, one link after another
pub clears_more : (origin : ℕ) (holds begins : ℕ → Bool) (row : List Link) (i : ℕ) (l d : Link) (words mid words' : List ℕ) → i < length row → l ≡ get_or row i d → ClearsWords origin holds begins (take i row) words mid
    → length words' ≡ length mid → ((k : ℕ) → get_or words' k 0 ≡ cond ((word_index origin l.address == k) && loses_with holds begins l) 0 (get_or mid k 0)) → ClearsWords origin holds begins (take (i + 1) row) words words'
clears_more origin holds begins row i l d words mid words' lt is so size one = record {
  size = size ∙ so.size;
  words = λ k.
      one k
      ∙ ap (λ w. cond ((word_index origin l.address == k) && loses_with holds begins l) 0 w) (so.words k)
      ∙ cond_or (clears_with origin holds begins (take i row) k) ((word_index origin l.address == k) && loses_with holds begins l) 0 (get_or words k 0)
      ∙ ap (λ b. cond b 0 (get_or words k 0)) (ap (λ (x : Link). clears_with origin holds begins (take i row) k || ((word_index origin x.address == k) && loses_with holds begins x)) is
      ∙ sym (list_any_more (λ (x : Link). (word_index origin x.address == k) && loses_with holds begins x) row i d lt));
}
