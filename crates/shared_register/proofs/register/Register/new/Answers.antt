use Rattle.std.proofs.Common.{false, refl}
use Rattle.std.proofs.lemmas.List.{get_or-replicate}
use Rattle.shared_register.proofs.register.Register.new.Goals as goal

pub returns : goal.returns
returns c = (
  record { attached = λ k. false; value = c.args.value; running = false },
  record { none = λ k. refl; idle = refl; value = refl },
  record { slots = refl; attached = λ k h. get_or-replicate 16 k false false h; value = refl; running = refl },
)
