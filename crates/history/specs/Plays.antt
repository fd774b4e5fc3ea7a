-- What each step of the table does to the view of its seat, and what it tells.
use Rattle.std.specs.Prelude.{◌≡◌, ℕ, ◌%◌, ◌^◌, ◌⊎◌, true, false, List, [], ◌∷◌, ◌++◌}
use mathlib.Core.List.{IsPrefix}
use Rattle.atomic_table.specs.Table.{Me}
use Rattle.history.specs.declared.object.Rank.{Rank}
use Rattle.history.specs.declared.made.Made.{Made}
use Rattle.history.specs.declared.view.View.{View}
use Rattle.history.specs.Histories.{count, weight, GrowsByOthers}
use Rattle.history.specs.Passes.{Owned, longer}
use Rattle.history.specs.Views.{no_pass}

module _ {C R : Type 0} where
  -- the keeper may append the event: the history is then legal, and the step adds what the word is to count
  pub record MayAppend (rank : C → Rank) (legal : List (Made C R) → Type 0) (said : List (Made C R)) (add : ℕ) (keeper : View C R) (e : Made C R) : Type 0 where
    pub keeps_it : keeper.keeps ≡ true
    pub said_is : said ≡ e ∷ []
    pub add_is : add ≡ weight (rank e.call)
    pub is_legal : legal (keeper.log ++ e ∷ [])

  -- An event of the keeper's guest.
  abbrev pub acted : List (Made C R) → View C R → View C R
  acted said v = record v { log = v.log ++ said; guest = record { slot = v.guest.slot; seen = v.log ++ said; mine = v.guest.mine ++ said } }

  -- The step of such an event: what came since the guest last saw is all of others, and its own events are then exactly its slot's.
  pub record Acted (rank : C → Rank) (said : List (Made C R)) (v w : Me Unit (View C R)) : Type 0 where
    pub before : GrowsByOthers v.0.guest.slot v.0.guest.seen v.0.log
    pub owned : Owned rank v.0.guest.slot (v.0.log ++ said) (v.0.guest.mine ++ said)
    pub view_is : w ≡ (acted said v.0, v.1)

  -- the slot of the first of these events, and 0 of none
  abbrev pub first_slot : List (Made C R) → ℕ
  first_slot [] = 0
  first_slot (e ∷ es) = e.who

  -- The first event of a slot, which makes its pass the keeper's guest: the guest has seen the whole history with this event,
  -- which is its only one.
  abbrev pub began : List (Made C R) → View C R → View C R
  began said v = record v { log = v.log ++ said; hosts = true; guest = record { slot = first_slot said; seen = v.log ++ said; mine = said } }

  -- The step of such an event: the guest's own events are exactly this one.
  pub record Began (rank : C → Rank) (said : List (Made C R)) (v w : Me Unit (View C R)) : Type 0 where
    pub owned : Owned rank (first_slot said) (v.0.log ++ said) said
    pub view_is : w ≡ (began said v.0, v.1)

  -- The last event of the keeper's guest, which is spent.
  abbrev pub ended : List (Made C R) → View C R → View C R
  ended said v = record v { log = v.log ++ said; hosts = false; guest = no_pass }

  -- The step of such an event: what came since the guest last saw is all of others, and up to it the guest's own events were exactly its slot's.
  pub record Ended (rank : C → Rank) (said : List (Made C R)) (v w : Me Unit (View C R)) : Type 0 where
    pub before : GrowsByOthers v.0.guest.slot v.0.guest.seen v.0.log
    pub owned : Owned rank v.0.guest.slot v.0.log v.0.guest.mine
    pub view_is : w ≡ (ended said v.0, v.1)

  -- The keeper's guest learns the whole history.
  abbrev pub learnt : View C R → View C R
  learnt v = record v { guest = record { slot = v.guest.slot; seen = v.log; mine = v.guest.mine } }

  -- The step of that: what the guest learns is all of others, and its own events are still exactly its slot's.
  pub record Learnt (rank : C → Rank) (v w : Me Unit (View C R)) : Type 0 where
    pub before : GrowsByOthers v.0.guest.slot v.0.guest.seen v.0.log
    pub owned : Owned rank v.0.guest.slot v.0.log v.0.guest.mine
    pub view_is : w ≡ (learnt v.0, v.1)

  -- A pass sees the history as it is, and its word.
  abbrev pub saw : List (Made C R) → View C R → View C R
  saw log v = record v { pass = record { slot = v.pass.slot; seen = log; mine = v.pass.mine } }

  -- The step of that: the word is the count of a legal history, modulo 2^64, in which what is new to the pass is all of others.
  pub record Saw (rank : C → Rank) (legal : List (Made C R) → Type 0) (v : Me Unit (View C R)) (found : ℕ) (w : Me Unit (View C R)) : Type 0 where
    pub log : List (Made C R)
    pub before : GrowsByOthers v.0.pass.slot v.0.pass.seen log
    pub is_legal : legal log
    pub owned : Owned rank v.0.pass.slot log v.0.pass.mine
    pub found_is : found ≡ count rank log % 2 ^ 64
    pub view_is : w ≡ (saw log v.0, v.1)

  -- A pass and its guest take the longer of what the two have seen.
  abbrev pub met : View C R → View C R
  met v = record v {
    pass = record { slot = v.pass.slot; seen = longer v.pass.seen v.guest.seen; mine = v.pass.mine };
    guest = record { slot = v.guest.slot; seen = longer v.pass.seen v.guest.seen; mine = v.guest.mine };
  }

  -- The step of that: the two are of different slots, one of them had seen what the other had and then events that are all of others, and the own
  -- events of both are still exactly their slots'.
  pub record Met (rank : C → Rank) (v w : Me Unit (View C R)) : Type 0 where
    pub one : GrowsByOthers v.0.pass.slot v.0.pass.seen v.0.guest.seen ⊎ GrowsByOthers v.0.guest.slot v.0.guest.seen v.0.pass.seen
    pub apart : v.0.pass.slot ≡ v.0.guest.slot → ⊥
    pub pass_owned : Owned rank v.0.pass.slot (longer v.0.pass.seen v.0.guest.seen) v.0.pass.mine
    pub guest_owned : Owned rank v.0.guest.slot (longer v.0.pass.seen v.0.guest.seen) v.0.guest.mine
    pub view_is : w ≡ (met v.0, v.1)

  -- A pass takes the longer of what it has seen and what its seat was told.
  abbrev pub heard : View C R → View C R
  heard v = record v { pass = record { slot = v.pass.slot; seen = longer v.pass.seen v.log; mine = v.pass.mine } }

  -- The step of that: what is new to the pass is all of others, or it had seen all that it was told; its own events are still exactly its slot's.
  pub record Heard (rank : C → Rank) (v w : Me Unit (View C R)) : Type 0 where
    pub one : GrowsByOthers v.0.pass.slot v.0.pass.seen v.0.log ⊎ IsPrefix v.0.log v.0.pass.seen
    pub owned : Owned rank v.0.pass.slot (longer v.0.pass.seen v.0.log) v.0.pass.mine
    pub view_is : w ≡ (heard v.0, v.1)
