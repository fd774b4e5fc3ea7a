-- Each call is a step of the register.
use Rattle.std.proofs.Common.{◌≡◌, ℕ, ◌<◌, ◌==◌, Bool, false, cond, List, length, set, get_or, refl, sym, ap, ◌∙◌, arith, eq-eqb, ne_eqb, get_or-set_same, get_or-set_other}
use Rattle.std.specs.Prelude.{slice_set}
use Rattle.std.proofs.Math.ListN.{length-set}
use native.Mathlib.Decide.{ℕ_discrete}
use Rattle.shared_register.specs.declared.register.Register.{Register}
use Rattle.shared_register.specs.Steps.{State, Stands, Turns}

abbrev pub turned : State → ℕ → Bool → State
turned s who b = record { attached = λ k. cond (k == who) b (s.attached k); value = s.value; running = s.running }

pub turns : (s : State) (who : ℕ) (b : Bool) → Turns s who b (turned s who b)
turns s who b = record {
  here = ap (λ (x : Bool). cond x b (s.attached who)) (eq-eqb who who refl);
  else = λ k ne. sym (ap (λ (x : Bool). cond x b (s.attached k)) (ne_eqb k who ne));
  value = refl;
  running = refl;
}

set_at : (l : List Bool) (f : ℕ → Bool) (who k : ℕ) (b : Bool) → who < length l → k < length l → get_or l k false ≡ f k → Dec (k ≡ who) → get_or (set l who b) k false ≡ cond (k == who) b (f k)
set_at l f who k b h hk e (yes y) = (ap (λ (j : ℕ). get_or (set l who b) j false) y ∙ get_or-set_same l who b false h) ∙ sym (ap (λ (x : Bool). cond x b (f k)) (eq-eqb k who y))
set_at l f who k b h hk e (no n) = get_or-set_other l who k b false n ∙ (e ∙ sym (ap (λ (x : Bool). cond x b (f k)) (ne_eqb k who n)))

pub stands_turned : (register : Register) (s : State) (who : ℕ) (b : Bool) → who < 16 → Stands register s → Stands (record { attached = slice_set register.attached who b; value = register.value; running = register.running }) (turned s who b)
stands_turned register s who b h st = record {
  slots = length-set register.attached who b ∙ st.slots;
  attached = λ k hk. set_at register.attached s.attached who k b (omega (arith, st.slots)) (omega (arith, st.slots)) (st.attached k hk) (ℕ_discrete k who);
  value = st.value;
  running = st.running;
}
