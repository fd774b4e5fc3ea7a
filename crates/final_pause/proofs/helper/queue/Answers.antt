use Rattle.std.proofs.Common.{◌≡◌, refl, inl, inr, ⊎_elim, rules}
use Rattle.words.specs.declared.class.Kind.TheVariants.{Normal}
use Rattle.final_pause.specs.Waiting.{IsPut}
use Rattle.final_pause.specs.Helping.{unread_of}
use Rattle.final_pause.proofs.helper.queue.Goals as goal

pub returns-then-put : goal.returns-then-put
returns-then-put c =
    let normal : c.args.found.kind ≡ Normal = search rules in
    let put : IsPut c.args.helper.now.waiting (unread_of c.args.found) c.put.new.self = search rules in
    record {
      claimer = refl;
      place = refl;
      carried = refl;
      dirty_len = refl;
      dirty = λ q h. h;
      covered = λ q h. inl h;
      waiting = put.stay;
      awaited = λ n i lt. inr put.here;
      entries = λ b h. ⊎_elim (λ o. inl o) (λ e. inr (e, normal)) (put.only b h);
      size = put.size;
    }
