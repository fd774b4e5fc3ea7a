use Rattle.std.proofs.Common.{ℕ, ◌∙◌, length, subst}
use Rattle.mark_bits.specs.Tables.{view}
use Rattle.marker.specs.Marking.{entries}
use Rattle.final_pause.specs.Pauses.{pause_view}
use Rattle.final_pause.specs.Serving.{AreEntriesRead, ArePagesRead, IsShareRead}
use Rattle.final_pause.proofs.Serving.{serves_trans, roots_more, entries_more, pages_more}
use Rattle.final_pause.proofs.share.Pause.help.Goals as goal

pub returns : goal.returns
returns g c =
    let p = pause_view c.args.self.now in
    let h = c.args.helper.now in let h1 = c.read_roots.new.helper in let h2 = c.read_entries.new.helper in
    let h3 = c.read_pages.new.helper in let h4 = c.read_waiting.new.helper in
    let s1 = c.read_roots.ensures.serves in let s2 = c.read_entries.ensures.serves in let s4 = c.read_waiting.ensures.serves in
    let s34 = serves_trans p h2 h3 h4 c.read_pages.ensures.serves s4 in
    let s24 = serves_trans p h1 h2 h4 s2 s34 in
    let is = s24.place ∙ s1.place in
    let read : IsShareRead p (view h4.claimer) h4.carried h.place = record {
      roots = roots_more p (view h1.claimer) (view h4.claimer) s24.learns.known _ _ c.read_roots.ensures.roots;
      entries = entries_more p (view h2.claimer) (view h4.claimer) h2.carried h4.carried s34.learns.known s34.carried _ _
          (subst (λ (n : ℕ). AreEntriesRead p (view h2.claimer) h2.carried n (length (entries p.marker))) s1.place c.read_entries.ensures.read);
      pages = pages_more p (view h3.claimer) (view h4.claimer) h3.carried h4.carried s4.learns.known s4.carried _ _
          (subst (λ (n : ℕ). ArePagesRead p (view h3.claimer) h3.carried n (length p.map)) (s2.place ∙ s1.place) c.read_pages.ensures.read);
    } in
    record {
      serving = s4.serving;
      here = is;
      empty = c.read_waiting.ensures.empty;
      read = read;
    }
