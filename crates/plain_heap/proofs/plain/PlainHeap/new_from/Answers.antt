use Rattle.std.proofs.Common.{None, [], refl, sym, ap, subst, arith, rules}
use Rattle.std.specs.Prelude.{Contains}
use Rattle.std.proofs.lemmas.Option.{none-some}
use Rattle.links.specs.Named.{AreNamed, none}
use Rattle.roots.specs.Roots.{RootSet}
use Rattle.plain_heap.proofs.Lists.{nothing_in}
use Rattle.plain_heap.proofs.Alloc.{new_sound}
use Rattle.plain_heap.proofs.plain.PlainHeap.new_from.Goals as goal

pub invariant_of-result : goal.invariant_of-result
invariant_of-result c =
    let made = c.in_ok-directory.ensures in (
      rw made.0 (new_sound _ _ _ _ _ _ (omega arith) c.requires.aligned c.requires.past_zero c.requires.fits (search rules) made.1),
      record {
        owned = let long = c.in_ok-words.ensures.len in let size = made.2 in omega (arith, c.in_ok-words.words.ok.0);
        lists = rw made.2 c.in_ok-reach.ensures;
        flags = let long = c.in_ok-stays.ensures.len in let size = made.2 in omega (arith, c.in_ok-stays.stays.ok.0);
      },
    )

pub returns-clause-ok : goal.returns-clause-ok
returns-clause-ok c = record {
  pages = refl;
  mutators = sym (ap (λ (r : RootSet). r.mutators) c.in_ok-roots.ensures);
  globals = sym (ap (λ (r : RootSet). r.globals) c.in_ok-roots.ensures);
  request_words = sym (ap (λ (r : RootSet). r.request_words) c.in_ok-roots.ensures);
  kept = λ e has. absurd (nothing_in e (subst (λ row. Contains row e) c.in_ok-directory.ensures.1 has));
  only = λ b o has. absurd (none-some o has);
  born = λ b o has. absurd (none-some o has);
  distinct = λ a b p q ha hb same. absurd (none-some p ha);
  links = subst (λ row. AreNamed (λ _. None) row []) (sym c.new-4.ensures) none;
}
