use Rattle.std.proofs.Common.{ℕ, Bool, List, arith, sym, ap, ◌∙◌, subst, length, length-set}
use Rattle.words.specs.Bits.{Has}
use Rattle.block_map.specs.FoundIn.{found_in}
use Rattle.marker.specs.Marking.{IsObjectGranule}
use Rattle.fixtures.proofs.Lists.{word_written}
use Rattle.test_marking.proofs.heap.Heap.store.Goals as goal

pub invariant_of-self : goal.invariant_of-self
invariant_of-self c =
    let aligned = c.if-address-ne0.false in
    rw c.write.ensures
    (record {
      pages = ap length c.written.ensures.written.dirty ∙ length-set c.self.inside.marker.dirty _ _ ∙ c.self.invariant.pages;
      listed = word_written c.self.inside.memory c.self.inside.map c.args.address c.args.word c.in-Some.field-0 c.laws.ensures.laid c.find.ensures.lawful c.self.invariant.listed (sym c.in-Some.ensures.found) (omega arith);
      objects = subst (λ (row : List Bool). (k : ℕ) → Has row k → IsObjectGranule (found_in c.self.inside.map) k) (sym c.written.ensures.written.marks) c.self.invariant.objects;
      invariant = c.written.ensures.keeps _ _ c.args.word c.self.invariant.invariant;
    })
