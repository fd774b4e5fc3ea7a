-- The headline: what a call through the lock tells its caller.
use Rattle.std.specs.Prelude.{◌≡◌, ℕ, false, List, [], ◌∷◌, ◌++◌}
use Rattle.history.specs.declared.object.Rank.{Rank}
use Rattle.history.specs.declared.made.Made.{Made}
use Rattle.history.specs.declared.view.Known.{Known}
use Rattle.history.specs.Histories.{event, is_live, AreOfOthers, GrowsByOthers}
use Rattle.history.specs.Passes.{Agrees}

module _ {S C R : Type 0} (rank : C → Rank) (opens : S → Type 0) (step : S → ℕ → C → R → S → Type 0) where
  -- The call has this reply at one point of one growing legal history, which begins with all that the caller's pass had seen, ends with
  -- the call, and holds the caller's own calls since its first, each once, in their order: what came between is all of others.
  pub record Extends (old : Known C R) (call : C) (reply : R) (new : Known C R) : Type 0 where
    pub slot : new.slot ≡ old.slot
    pub between : List (Made C R)
    pub others : AreOfOthers old.slot between
    pub seen : new.seen ≡ (old.seen ++ between) ++ event old.slot call reply ∷ []
    pub mine : new.mine ≡ old.mine ++ event old.slot call reply ∷ []
    pub fine : Agrees rank opens step new

  -- A slot's first call, with which its own calls begin. The slot's last event before it, if any, was a `Last`.
  pub record Begun (pass : Known C R) (call : C) (reply : R) : Type 0 where
    pub before : List (Made C R)
    pub spent : is_live rank pass.slot before ≡ false
    pub seen : pass.seen ≡ before ++ event pass.slot call reply ∷ []
    pub mine : pass.mine ≡ event pass.slot call reply ∷ []
    pub fine : Agrees rank opens step pass

  -- No call of the caller's: its own calls are as before, and it may have seen more of what others did.
  pub record Looks (old new : Known C R) : Type 0 where
    pub slot : new.slot ≡ old.slot
    pub seen : GrowsByOthers old.slot old.seen new.seen
    pub mine : new.mine ≡ old.mine
    pub fine : Agrees rank opens step new
