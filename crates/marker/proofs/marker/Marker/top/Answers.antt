use Rattle.std.proofs.Common.{◌-◌, List, length, get_or, sym, subst}
use Rattle.block_map.specs.FoundIn.{found_in}
use Rattle.marker.specs.declared.entry.Entry.{Entry}
use Rattle.marker.specs.Entries.{IsOnTop, StandsOnPage}
use Rattle.marker.proofs.Known.{known_top}
use Rattle.marker.proofs.marker.Marker.top.Goals as goal

pub returns-clause-top : goal.returns-clause-top
returns-clause-top c =
    let is = c.waiting-waiting.ensures in
    let on = c.is_on_page.ensures c.if-not-is_on_page.false in
    subst (λ (es : List Entry). IsOnTop (length c.args.map.now) (found_in c.args.map.now) c.args.self.now (get_or es (length es - 1) (record { base = 0; next = 0; len = 0 }))) (sym is)
    (known_top (found_in c.args.map.now) (length c.args.map.now) c.laws-2.ensures.lawful.map c.args.self.now c.args.known (record { base = 0; next = 0; len = 0 }) c.laws.ensures c.requires.unread c.requires.known
    (subst (λ (es : List Entry). StandsOnPage (get_or es (length es - 1) (record { base = 0; next = 0; len = 0 }))) is on))
