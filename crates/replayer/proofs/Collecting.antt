-- How a run goes on at a collection, as a replayer follows it.
use Rattle.std.proofs.Common.{◌≡◌, ℕ, ◌+◌, ◌%◌, ◌<◌, Bool, true, false, List, Bor, length, eqb, refl, sym, ap, ◌∙◌, subst, arith}
use Rattle.std.specs.Prelude.{Contains}
use Rattle.std.specs.List.{list_any}
use Rattle.std.proofs.lemmas.Bool.{eqb-true, eq-eqb, true≢false}
use Rattle.std.proofs.lemmas.List.Folds.{Any-from_list_any, list_any-from_Any}
use Rattle.words.specs.declared.refusal.Refusal.TheVariants.{WrongPhase}
use Rattle.heap_spec.specs.declared.event.Event.{Event}
use Rattle.heap_spec.specs.declared.event.Event.TheVariants.{Finish, Collect}
use Rattle.heap_spec.specs.declared.reply.Reply.{Reply}
use Rattle.heap_spec.specs.declared.reply.Reply.TheVariants.{Count, Refused}
use Rattle.heap_spec.specs.Layout.{word_end}
use Rattle.heap_spec.specs.Heap.{Heap, Object, HasObject, without}
use Rattle.heap_spec.specs.Cycles.{TakesOut}
use Rattle.heap_spec.specs.Runs.{Start, Run, heap_after, is_marking, needs_full, old_births, count, goes_on, marking_after, counted}
use Rattle.heap_spec.specs.Transcripts.{LineOf}
use Rattle.plain_heap.specs.PlainContents.{PlainContents}
use Rattle.plain_heap.specs.Standing.{StandsFor}
use Rattle.plain_heap.specs.Collections.{IsCollected, CantCollect, TakesBases, CantTake, HasUnreached}
use Rattle.plain_heap.specs.Flags.{ForgetsUnflagged, CantForget}
use Rattle.plain_heap.specs.Aging.{TellOld, FlagsAll}
use Rattle.heap_spec.proofs.Links.{left_by, stays_by}
use Rattle.replayer.specs.declared.hint.Hint.{Hint}
use Rattle.replayer.specs.declared.hint.Hint.TheVariants.{Nothing, Place, Forgot}
use Rattle.replayer.specs.ReplayerContents.{ReplayerContents, Follows}
use Rattle.replayer.specs.Replays.{NamesBases, MayNameBases, IsReplayed, IsNoReplay}
use Rattle.replayer.proofs.Aging.{all_tell}
use Rattle.replayer.proofs.Steps.{room_as, no_finish, no_collect}

-- the numbers of equal replies
pub count_same : (a b : ℕ) → Count a ≡ Count b → a ≡ b
count_same a b e = cc

-- what one list of bases takes out is what another does
same_among : (s s' : Heap) (mine theirs : List ℕ) → s' ≡ without s mine → s' ≡ without s theirs → (base : ℕ) (o : Object) → HasObject s base o → Contains theirs base → Contains mine base
same_among s s' mine theirs is other base o has among = by (list_any (λ b. eqb b base) mine) refl
  where
    by : (b : Bool) → list_any (λ b. eqb b base) mine ≡ b → Contains mine base
    by true e = let any = Any-from_list_any (λ b. eqb b base) mine e in subst (Contains mine) (eqb-true any.1 base any.4) (any.0, any.2, any.3)
    by false e =
        let stays = stays_by s mine base o has (λ mine_has. true≢false (sym (list_any-from_Any (λ b. eqb b base) mine (mine_has.0, base, mine_has.1, mine_has.2, eq-eqb base base refl)) ∙ e)) in
        absurd ((left_by s theirs base _ (ap (λ (x : Heap). x.objects base) (sym other ∙ is) ∙ stays)).out among)

pub same_bases : (s s' : Heap) (mine theirs : List ℕ) → s' ≡ without s mine → s' ≡ without s theirs → HasUnreached s theirs → HasUnreached s mine
same_bases s s' mine theirs is other all base o has out = same_among s s' mine theirs is other base o has (all base o has out)

-- collections that are granted
module _ (old : ReplayerContents) (small : old.number < word_end) (few : old.births < word_end) (new : PlainContents) (aged : List Bool) (size : length aged ≡ length old.aged) (all : FlagsAll new aged) (bases : Bor (List ℕ)) where
  -- the replayer after one
  abbrev pub ended : Bool → ReplayerContents
  ended need = record old { heap = new; marking = false; needs_full = need; number = (old.number + 1) % word_end; aged = aged }

  follows : (start : Start) (run : Run) (f : Follows old start run) (s' : Heap) (event : Event) (reply : Reply) (need : Bool) → counted event ≡ 1 → marking_after event (is_marking start run) ≡ false
      → need ≡ needs_full start (goes_on run event reply s') → old_births start (goes_on run event reply s') ≡ s'.births → s' ≡ without (heap_after start run) bases.now → StandsFor new s'
      → Follows (ended need) start (goes_on run event reply s')
  follows start run f s' event reply need one ends needed ages after stands = record {
    stands = stands;
    phase = sym ends;
    needs = needed;
    aged_room = room_as _ _ _ _ f.aged_room (ap (λ (x : Heap). x.pages) after) size;
    past = omega (arith, ages);
    aged = subst (TellOld new.origin s' aged) (sym ages) (all_tell s' new stands aged (room_as _ _ _ _ f.aged_room (sym stands.pages ∙ ap (λ (x : Heap). x.pages) after) size) all);
    number = ap (λ k. (k + 1) % word_end) f.number ∙ ap (λ k. (count start run + k) % word_end) (sym one);
    births = f.births ∙ sym (ap (λ (x : Heap). x.births) after);
    room = room_as _ _ _ _ f.room (ap (λ (x : Heap). x.pages) after) refl;
    touched = λ marks. absurd (true≢false (sym marks));
  }

  below : (start : Start) (run : Run) (f : Follows old start run) (s' : Heap) → s' ≡ without (heap_after start run) bases.now → s'.births < word_end
  below start run f s' after =
      let same : s'.births ≡ (heap_after start run).births = ap (λ (x : Heap). x.births) after in
      let known = f.births in omega arith

  -- the bases that a hint names are those of the slice
  named : (n : ℕ) (s s' : Heap) → TakesOut s bases.now (Count (length bases.now)) s' → Count n ≡ Count (length bases.now) → TakesOut s bases.now (Count n) s'
  named n s s' takes is = subst (λ q. TakesOut s bases.now q s') (sym is) takes

  pub finishes : ForgetsUnflagged old.heap old.touched bases.now new → old.marking ≡ true → (n : ℕ) → n ≡ length bases.now → IsReplayed old Finish (Count n) (Forgot bases) (ended old.needs_full)
  finishes takes m n long start run f =
      let x = takes (heap_after start run) f.stands in
      let counts : Count n ≡ Count (length bases.now) = ap Count long in (
        goes_on run Finish (Count n) x.0,
        record {
          line = LineOf.happens (sym f.phase ∙ m, record { bases = bases.now; takes = named n (heap_after start run) x.0 x.1 counts; untouched = λ base o has ne. x.2 base o has (λ flag. ne ((f.touched m base o has).0 flag)) });
          place = λ slot into words kind is done. absurd (cc);
          finished = λ k which is. named k (heap_after start run) x.0 x.1 (sym is ∙ counts);
          collected = λ k which is. absurd (cc);
          births = below start run f x.0 x.1.after;
        },
        follows start run f x.0 Finish (Count n) old.needs_full refl refl f.needs refl x.1.after x.3,
      )

  pub collects : TakesBases old.heap bases.now true new → (n : ℕ) → n ≡ length bases.now → IsReplayed old Collect (Count n) (Forgot bases) (ended false)
  collects takes n long start run f =
      let x = takes (heap_after start run) f.stands in
      let counts : Count n ≡ Count (length bases.now) = ap Count long in (
        goes_on run Collect (Count n) x.0,
        record {
          line = LineOf.happens (record { bases = bases.now; takes = named n (heap_after start run) x.0 x.1 counts; all = x.2 refl });
          place = λ slot into words kind is done. absurd (cc);
          finished = λ k which is. absurd (cc);
          collected = λ k which is. named k (heap_after start run) x.0 x.1 (sym is ∙ counts);
          births = below start run f x.0 x.1.after;
        },
        follows start run f x.0 Collect (Count n) false refl refl refl refl x.1.after x.3,
      )

-- and those that are not
module _ (old : ReplayerContents) (small : old.number < word_end) (few : old.births < word_end) (reply : Reply) where
  -- what is named has as many bases as the reply says
  as_many : (bases : Bor (List ℕ)) (s s' : Heap) (n : ℕ) → NamesBases (Forgot bases) n s s' → n ≡ length bases.now
  as_many bases s s' n takes = count_same n (length bases.now) takes.number

  -- no collection is granted where not so many bases are named
  unnamed : (hint : Hint) → ((bases : Bor (List ℕ)) → hint ≡ Forgot bases → reply ≡ Count (length bases.now) → ⊥) → (n : ℕ) (s s' : Heap) → reply ≡ Count n → NamesBases hint n s s' → ⊥
  unnamed Nothing none n s s' is names = names
  unnamed (Place base) none n s s' is names = names
  unnamed (Forgot bases) none n s s' is names = none bases refl (is ∙ ap Count (as_many bases s s' n names))

  module _ (wrong : old.marking ≡ false → reply ≡ Refused WrongPhase → ⊥) where
    pub finish_unnamed : (hint : Hint) → ((bases : Bor (List ℕ)) → hint ≡ Forgot bases → reply ≡ Count (length bases.now) → ⊥) → IsNoReplay old Finish reply hint
    finish_unnamed hint none = no_finish old small few reply hint wrong (λ m s h n s' is names theirs after all. unnamed hint none n s s' is names)

    pub finish_untaken : (bases : Bor (List ℕ)) → CantForget old.heap old.touched bases.now → IsNoReplay old Finish reply (Forgot bases)
    finish_untaken bases cant = no_finish old small few reply (Forgot bases) wrong
        (λ m s h n s' is names theirs after all. cant s h n s' names (λ base o has out. same_among s s' bases.now theirs names.after after base o has (all base o has out)))

  may_unnamed : (hint : Hint) → (hint ≡ Nothing → ⊥) → ((bases : Bor (List ℕ)) → hint ≡ Forgot bases → reply ≡ Count (length bases.now) → ⊥) → (n : ℕ) (s s' : Heap) → reply ≡ Count n → MayNameBases hint n s s' → ⊥
  may_unnamed Nothing says none n s s' is names = says refl
  may_unnamed (Place base) says none n s s' is names = names
  may_unnamed (Forgot bases) says none n s s' is names = none bases refl (is ∙ ap Count (as_many bases s s' n names))

  pub collect_unnamed : (hint : Hint) → (hint ≡ Nothing → ⊥) → ((bases : Bor (List ℕ)) → hint ≡ Forgot bases → reply ≡ Count (length bases.now) → ⊥) → IsNoReplay old Collect reply hint
  collect_unnamed hint says none = no_collect old small few reply hint (λ s h n s' is names full. may_unnamed hint says none n s s' is names)

  pub collect_untaken : (bases : Bor (List ℕ)) → CantTake old.heap bases.now true → IsNoReplay old Collect reply (Forgot bases)
  collect_untaken bases cant = no_collect old small few reply (Forgot bases)
      (λ s h n s' is names full. cant s h n s' names (λ all. same_bases s s' bases.now full.bases names.after full.takes.after full.all))

  pub collect_uncounted : ((n : ℕ) → reply ≡ Count n → ⊥) → IsNoReplay old Collect reply Nothing
  collect_uncounted none = no_collect old small few reply Nothing (λ s h n s' is names full. none n is)

-- full collections of which nothing is said but how many objects they take
module _ (old : ReplayerContents) (small : old.number < word_end) (few : old.births < word_end) (n : ℕ) where
  pub collect_unequal : CantCollect old.heap n → IsNoReplay old Collect (Count n) Nothing
  collect_unequal cant = no_collect old small few (Count n) Nothing (λ s h k s' is names full. cant s h s' full)

  pub collects_counted : (new : PlainContents) (aged : List Bool) → length aged ≡ length old.aged → FlagsAll new aged → IsCollected old.heap n new
      → IsReplayed old Collect (Count n) Nothing (record old { heap = new; marking = false; needs_full = false; number = (old.number + 1) % word_end; aged = aged })
  collects_counted new aged size all full start run f =
      let x = full (heap_after start run) f.stands in
      let same : x.0.births ≡ (heap_after start run).births = ap (λ (s : Heap). s.births) x.1.takes.after in
      let known = f.births in (
        goes_on run Collect (Count n) x.0,
        record {
          line = LineOf.happens x.1;
          place = λ slot into words kind is done. absurd (cc);
          finished = λ k which is. absurd (cc);
          collected = λ k which is. tt;
          births = omega arith;
        },
        record {
          stands = x.2;
          phase = refl;
          needs = refl;
          aged_room = room_as _ _ _ _ f.aged_room (ap (λ (s : Heap). s.pages) x.1.takes.after) size;
          past = omega arith;
          aged = all_tell x.0 new x.2 aged (room_as _ _ _ _ f.aged_room (sym x.2.pages ∙ ap (λ (s : Heap). s.pages) x.1.takes.after) size) all;
          number = ap (λ k. (k + 1) % word_end) f.number;
          births = f.births ∙ sym same;
          room = room_as _ _ _ _ f.room (ap (λ (s : Heap). s.pages) x.1.takes.after) refl;
          touched = λ marks. absurd (true≢false (sym marks));
        },
      )
