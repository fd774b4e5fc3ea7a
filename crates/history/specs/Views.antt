-- How the rights of a pass go from one seat to another.
use Rattle.std.specs.Prelude.{true, false, []}
use Rattle.history.specs.declared.object.TheConstants.{COLLECTOR}
use Rattle.history.specs.declared.view.Known.{Known}
use Rattle.history.specs.declared.view.View.{View}

module _ {C R : Type 0} where
  -- where no pass is, this stands
  abbrev pub no_pass : Known C R
  no_pass = record { slot = 0; seen = []; mine = [] }

  -- a spent seat, which has no right
  abbrev pub nobody : View C R
  nobody = record { keeps = false; log = []; holds = false; pass = no_pass; hosts = false; guest = no_pass }

  -- the first seat: it keeps the empty history, and holds the collector's pass
  abbrev pub opener : View C R
  opener = record { keeps = true; log = []; holds = true; pass = record { slot = COLLECTOR; seen = []; mine = [] }; hosts = false; guest = no_pass }

  -- a seat that lends its pass keeps its other rights
  abbrev pub without_pass : View C R → View C R
  without_pass v = record v { holds = false; pass = no_pass }

  -- what goes: a seat with this pass and no other right
  abbrev pub only_pass : View C R → View C R
  only_pass v = record nobody { holds = v.holds; pass = v.pass }

  -- a seat that takes in the pass of another
  abbrev pub with_guest : View C R → View C R → View C R
  with_guest v w = record v { hosts = w.holds; guest = w.pass }

  -- and gives it back: what it keeps
  abbrev pub without_guest : View C R → View C R
  without_guest v = record v { hosts = false; guest = no_pass }

  -- what goes back: a seat with this guest as its pass, and no other right
  abbrev pub only_guest : View C R → View C R
  only_guest v = record nobody { holds = v.hosts; pass = v.guest }

  -- the seat that lent it holds the pass of another again
  abbrev pub with_pass : View C R → View C R → View C R
  with_pass v w = record v { holds = w.holds; pass = w.pass }

  -- a seat that tells another what it knows of the history keeps all its rights
  abbrev pub itself : View C R → View C R
  itself v = v

  -- what goes: a seat that knows that much of the history, and has no right
  abbrev pub only_log : View C R → View C R
  only_log v = record nobody { log = v.log }

  -- a seat that keeps no history knows what another told it
  abbrev pub with_log : View C R → View C R → View C R
  with_log v w = record v { keeps = false; log = w.log }
