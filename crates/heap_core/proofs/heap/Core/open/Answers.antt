use Rattle.links.specs.Named.{AreNamed, none}
use Rattle.std.proofs.Common.{None, [], subst, true, refl, sym, ap, ◌∙◌}
use Rattle.std.proofs.lemmas.Bool.{true≢false}
use Rattle.heap_spec.specs.Heap.{opening_with}
use Rattle.heap_spec.proofs.Calls.{opening_with_is}
use Rattle.marker.proofs.Objects.{blank_objects}
use Rattle.heap_core.proofs.Tracing.{traced_ended}
use Rattle.roots.specs.Roots.{RootSet}
use Rattle.heap_core.proofs.heap.Core.open.Goals as goal

pub returns : goal.returns
returns c = (
  c.in_ok-objects.ensures.0,
  record {
    core = record {
      sound = c.laws.ensures.sound;
      pending = c.laws.ensures.pending;
      empty = c.laws.ensures.empty;
      lawful = c.laws.ensures.lawful;
      laid = c.laws.ensures.laid;
      traced = let pages = (c.in_ok-objects.ensures.1.1 (λ _. true)).pages in let blank = c.in_ok-marker.ensures.1 in traced_ended _ _ _ _ (blank.dirty.size ∙ pages) (blank_objects _ _ _ blank) (λ is. absurd (true≢false is));
    };
    stands = record {
      mutators = sym (ap (λ (r : RootSet). r.mutators) c.in_ok-roots.ensures);
      globals = sym (ap (λ (r : RootSet). r.globals) c.in_ok-roots.ensures);
      request_words = sym (ap (λ (r : RootSet). r.request_words) c.in_ok-roots.ensures);
      store = (let x = c.in_ok-objects.ensures.1.1 _ in record { pages = x.pages; shows = x.shows });
      links = subst (λ row. AreNamed (λ _. None) row []) (sym c.new-5.ensures) none;
    };
    phase = refl;
    count = refl;
    last_reads = c.new-6.ensures.last;
    all_reads = c.new-6.ensures.all;
    needs_full = refl;
    swept = c.in_ok-objects.ensures.1.0;
    blank = c.in_ok-marker.ensures.1;
  },
)

pub invariant_of-result : goal.invariant_of-result
invariant_of-result c =
    let pages = (c.in_ok-objects.ensures.1.1 (λ _. true)).pages in
    let blank = c.in_ok-marker.ensures.1 in
    record {
      traced = traced_ended _ _ _ _ (blank.dirty.size ∙ pages) (blank_objects _ _ _ blank) (λ is. absurd (true≢false is));
      sound = (
        opening_with c.args.limits.pages c.args.limits.request_words,
        record {
          mutators = sym (ap (λ (r : RootSet). r.mutators) c.in_ok-roots.ensures);
          globals = sym (ap (λ (r : RootSet). r.globals) c.in_ok-roots.ensures);
          request_words = sym (ap (λ (r : RootSet). r.request_words) c.in_ok-roots.ensures);
          store = (let x = c.in_ok-objects.ensures.1.1 _ in record { pages = x.pages; shows = x.shows });
          links = subst (λ row. AreNamed (λ _. None) row []) (sym c.new-5.ensures) none;
        },
        opening_with_is c.args.limits.pages c.args.limits.request_words c.in_ok-objects.ensures.0.0 c.in_ok-objects.ensures.0.1 c.requires,
      );
    }
