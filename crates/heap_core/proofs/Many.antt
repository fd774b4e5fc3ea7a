-- Objects that the store gained one after the other are as many calls.
use Rattle.std.proofs.Common.{◌≡◌, ℕ, ◌+◌, ◌-◌, ◌<◌, ◌≤◌, false, List, [], ◌∷◌, ◌++◌, length, get_or, set, take, drop, Some, None, refl, sym, ap, ◌∙◌, subst, arith, inl, inr, append_assoc, length-set, get_or-set_same}
use Rattle.std.proofs.Math.Seq.{get_or-append_seam, take-append-add}
use Rattle.std.proofs.lemmas.Bool.{false≢true}
use Rattle.std.proofs.lemmas.List.{append-nil, get_or-append_right, get_or-drop, get_or-take, length-append, length-take-le, set-set}
use Rattle.std.proofs.lemmas.Option.{slice_get_within, slice_get-get_or}
use Rattle.words.specs.declared.class.Kind.{Kind}
use Rattle.words.specs.declared.class.Placement.{Placement}
use Rattle.words.specs.declared.limits.TheConstants.{REGISTERS}
use Rattle.words.specs.Placing.{placement_of}
use Rattle.heap_spec.specs.declared.call.Call.TheVariants.{Alloc}
use Rattle.heap_spec.specs.declared.event.Event.TheVariants.{Mutator}
use Rattle.heap_spec.specs.declared.reply.Reply.TheVariants.{Done}
use Rattle.heap_spec.specs.Heap.{Mutator as HeapMutator}
use Rattle.heap_spec.proofs.Calls.{attached_is}
use Rattle.links.specs.declared.row.Link.{Link}
use Rattle.roots.specs.Roots.{RootSet, HasMutator, SetsWord, with_word}
use Rattle.roots.proofs.Steps.{set_mutators}
use Rattle.object_space.specs.Many.{AllocatesEach, LeavesPages, none, more}
use Rattle.object_space.specs.Store.{Store}
use Rattle.object_space.specs.Sweeps.{Allocates}
use Rattle.heap_core.specs.Beside.{NotesObject}
use Rattle.heap_core.specs.CoreContents.{CoreContents, Cycle, IsTraced}
use Rattle.heap_core.specs.Granted.{HoldsWord}
use Rattle.heap_core.specs.Legal.{IsLegalCore}
use Rattle.heap_core.specs.Many.{Grants, begun, granted}
use Rattle.heap_core.specs.MutatorCalls.{IsCall}
use Rattle.heap_core.proofs.Calls.{allocated}
use Rattle.heap_core.proofs.Legal.{legal_called}
use Rattle.heap_core.proofs.Roots.{attached, core_of}
use Rattle.heap_core.proofs.Tracing.{traced_object, traced_swept, unmarked_new}

-- the requests of one run, and then those of another
pub grants_more : {slot into words : ℕ} {kind : Kind} {old mid new : CoreContents} {xs ys : List ℕ} → Grants slot into words kind old xs mid → Grants slot into words kind mid ys new → Grants slot into words kind old (xs ++ ys) new
grants_more {slot = slot} {into = into} {words = words} {kind = kind} {old = old} {mid = mid} {xs = xs} first begun = subst (λ l. Grants slot into words kind old l mid) (sym (append-nil xs)) first
grants_more {slot = slot} {into = into} {words = words} {kind = kind} {old = old} {new = new} {xs = xs} first (granted {bases = bases} {base = base} rest call held) =
    subst (λ l. Grants slot into words kind old l new) (append_assoc xs bases (base ∷ [])) (granted (grants_more first rest) call held)

-- ---- a row of bases that was parted, and whose end was written to
module _ (before front back after : List ℕ) (n : ℕ) (first : front ≡ take n before) (long : length front ≡ n) (last : back ≡ drop n before) (size : length after ≡ length back) where
  pub joined_size : length (front ++ after) ≡ length front + length back
  joined_size = length-append front after ∙ ap (λ k. length front + k) size

  pub joined_take : (m : ℕ) → take (n + m) (front ++ after) ≡ take n before ++ take m after
  joined_take m = ap (λ k. take (k + m) (front ++ after)) (sym long) ∙ take-append-add front after m ∙ ap (λ xs. xs ++ take m after) first

  pub joined_rest : (m : ℕ) → ((k : ℕ) → m ≤ k → get_or after k 0 ≡ get_or back k 0) → (k : ℕ) → n + m ≤ k → get_or (front ++ after) k 0 ≡ get_or before k 0
  joined_rest m same k past =
      let at : n + (k - n) ≡ k = omega arith in
      get_or-append_right front after n k 0 long (omega arith) ∙ same (k - n) (omega arith) ∙ ap (λ xs. get_or xs (k - n) 0) last ∙ get_or-drop n before (k - n) 0 ∙ ap (λ j. get_or before j 0) at

-- an attached mutator has all its registers
pub registers_of : (roots : RootSet) (t : Store) (y : Cycle) (ls : List Link) (slot : ℕ) (m : HeapMutator) → IsLegalCore (core_of roots t y ls) → HasMutator roots slot m → length m.registers ≡ REGISTERS
registers_of roots t y ls slot m legal at = (attached_is legal.sound.0 slot m legal.sound.2 (attached roots t y legal.sound.0 slot m legal.sound.1 at)).registers.size

pub register_there : (roots : RootSet) (t : Store) (y : Cycle) (ls : List Link) (slot into : ℕ) (m : HeapMutator) → IsLegalCore (core_of roots t y ls) → HasMutator roots slot m → into < REGISTERS → into < length m.registers
register_there roots t y ls slot into m legal at lt = let all = registers_of roots t y ls slot m legal at in omega arith

module _ (roots : RootSet) (y : Cycle) (ls : List Link) (slot into words : ℕ) (kind : Kind) (placement : Placement) (m : HeapMutator)
    (at : HasMutator roots slot m) (is : placement_of roots.request_words words ≡ Some placement) (idle : y.is_marking ≡ false) (reg : into < length m.registers) where
  -- the roots with a word in the register
  abbrev pub with_base : ℕ → RootSet
  with_base w = record roots { mutators = set roots.mutators slot (Some (with_word m into w)) }

  pub is_with_base : (after : RootSet) (w : ℕ) → SetsWord roots slot into w after → after ≡ with_base w
  is_with_base after w sets = ap (λ gs. record after { globals = gs }) sets.0.globals ∙ ap (λ n. record { mutators = after.mutators; globals = roots.globals; request_words = n }) sets.0.request_words ∙ ap (λ ms. record roots { mutators = ms }) (set_mutators roots after slot into w m at sets)

  -- roots that are those with a word once it is set
  pub record IsReady (r : RootSet) : Type 0 where
    pub holder : HeapMutator
    pub attached : HasMutator r slot holder
    pub limit : r.request_words ≡ roots.request_words
    pub sets : (w : ℕ) → SetsWord r slot into w (with_base w)

  ready_first : IsReady roots
  ready_first = record { holder = m; attached = at; limit = refl; sets = λ w. (record { globals = refl; request_words = refl }, record { before = m; after = with_word m into w; at = at; change = refl; only = refl }) }

  attached_after : (b : ℕ) → HasMutator (with_base b) slot (with_word m into b)
  attached_after b =
      let lt : slot < length roots.mutators = slice_get_within roots.mutators slot (Some m) at in
      slice_get-get_or (set roots.mutators slot (Some (with_word m into b))) slot None (let e = length-set roots.mutators slot (Some (with_word m into b)) in omega arith)
      ∙ ap Some (get_or-set_same roots.mutators slot (Some (with_word m into b)) None lt)

  ready_after : (b : ℕ) → IsReady (with_base b)
  ready_after b = record {
    holder = with_word m into b;
    attached = attached_after b;
    limit = refl;
    sets = λ w. (
      record { globals = refl; request_words = refl },
      record {
        before = with_word m into b;
        after = with_word m into w;
        at = attached_after b;
        change = ap (λ rs. record m { registers = rs }) (sym (set-set m.registers into b w));
        only = sym (set-set roots.mutators slot (Some (with_word m into b)) (Some (with_word m into w)));
      },
    );
  }

  holds : (b : ℕ) → HoldsWord (with_base b) slot into b
  holds b = (with_word m into b, attached_after b, get_or-set_same m.registers into b 0 reg)

  notes : (base : ℕ) → NotesObject y.is_marking base y.marker y.marker
  notes base = record {
    marks = λ k h. inl h;
    others = λ k ne. refl;
    stays = λ k h. h;
    marked = λ yes. absurd (false≢true (sym idle ∙ yes));
    dirty = refl;
    current = refl;
    stack = refl;
    carried = refl;
    idle = λ _. refl;
    keeps = λ yes. absurd (false≢true (sym idle ∙ yes));
    carries = λ yes. absurd (false≢true (sym idle ∙ yes));
  }

  -- one more
  module _ (r : RootSet) (t t' : Store) (base : ℕ) (ready : IsReady r) (legal : IsLegalCore (core_of r t y ls)) (a : Allocates t y.marker.marks placement kind base t') (leaves : LeavesPages t t') where
    traced : IsTraced a.ready y
    traced = traced_swept t a.ready y legal.traced a.sweeps

    calls : IsCall (core_of r t y ls) (Mutator slot (Alloc into words kind)) Done (core_of (with_base base) t' y ls)
    calls = allocated r (with_base base) t a.ready t' y y slot into words base kind placement ready.holder ready.attached (ap (λ n. placement_of n words) ready.limit ∙ is) a.sweeps a.room a.gains (ready.sets base) (notes base)
        (unmarked_new a.ready t' y placement kind base traced.objects a.gains) refl refl refl refl (inr leaves)

    stays_legal : IsLegalCore (core_of (with_base base) t' y ls)
    stays_legal = legal_called (core_of r t y ls) (core_of (with_base base) t' y ls) legal (traced_object a.ready t' y y placement kind base traced a.gains (notes base) refl refl)
        slot (Alloc into words kind) Done tt calls

  -- where a run of them leads
  pub record Leads (t : Store) (bases : List ℕ) (t' : Store) : Type 0 where
    pub after : RootSet
    pub ready : IsReady after
    pub legal : IsLegalCore (core_of after t' y ls)
    pub grants : Grants slot into words kind (core_of roots t y ls) bases (core_of after t' y ls)
    pub same : length bases ≡ 0 → (after ≡ roots) × (t' ≡ t)
    pub last : (n : ℕ) → length bases ≡ n + 1 → after ≡ with_base (get_or bases n 0)

  pub leads : (t : Store) → IsLegalCore (core_of roots t y ls) → {bases : List ℕ} {t' : Store} → AllocatesEach y.marker.marks placement kind t bases t' → Leads t bases t'
  leads t legal none = record { after = roots; ready = ready_first; legal = legal; grants = begun; same = λ _. (refl, refl); last = λ n e. absurd (omega arith) }
  leads t legal {t' = t'} (more {bases = bases} {base = base} {mid = mid} before a leaves) =
      let l = leads t legal before in
      let long : length (bases ++ base ∷ []) ≡ length bases + 1 = length-append bases (base ∷ []) in
      record {
        after = with_base base;
        ready = ready_after base;
        legal = stays_legal l.after mid t' base l.ready l.legal a leaves;
        grants = granted l.grants (calls l.after mid t' base l.ready l.legal a leaves) (holds base);
        same = λ e. absurd (omega (arith, long));
        last = λ n e. ap with_base (sym (ap (λ k. get_or (bases ++ base ∷ []) k 0) (let k : n ≡ length bases = omega (arith, long) in k) ∙ get_or-append_seam bases base [] 0));
      }

  -- and where the register was given the last base, or no object came
  module _ (t t' : Store) (legal : IsLegalCore (core_of roots t y ls)) (bases : List ℕ) (count : ℕ) (few : count ≤ length bases) (each : AllocatesEach y.marker.marks placement kind t (take count bases) t') where
    along : Leads t (take count bases) t'
    along = leads t legal each

    size : length (take count bases) ≡ count
    size = length-take-le count bases few

    pub leads_set : (after : RootSet) → 0 < count → SetsWord roots slot into (get_or bases (count - 1) 0) after
        → Grants slot into words kind (core_of roots t y ls) (take count bases) (core_of after t' y ls) × IsLegalCore (core_of after t' y ls)
    leads_set after some sets =
        let same : along.after ≡ after =
        along.last (count - 1) (omega (arith, size)) ∙ ap with_base (get_or-take count bases (count - 1) 0 (omega arith)) ∙ sym (is_with_base after (get_or bases (count - 1) 0) sets) in
        (subst (λ (r : RootSet). Grants slot into words kind (core_of roots t y ls) (take count bases) (core_of r t' y ls)) same along.grants, subst (λ (r : RootSet). IsLegalCore (core_of r t' y ls)) same along.legal)

    pub leads_none : count ≡ 0 → Grants slot into words kind (core_of roots t y ls) (take count bases) (core_of roots t' y ls) × IsLegalCore (core_of roots t' y ls) × (t' ≡ t)
    leads_none zero =
        let same = along.same (omega (arith, size)) in (
          subst (λ (r : RootSet). Grants slot into words kind (core_of roots t y ls) (take count bases) (core_of r t' y ls)) same.0 along.grants,
          subst (λ (r : RootSet). IsLegalCore (core_of r t' y ls)) same.0 along.legal,
          same.1,
        )
