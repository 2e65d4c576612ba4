-- Why a lone ring is gone: the step, by number, at which it was discarded, and which kind was due then.
use Rattle.std.specs.Prelude.{◌≡◌, List, ℕ, ◌<◌}
use Rattle.std.proofs.Math.Option.{none}
use Rattle.rings.specs.Progress.{Due, validity, removal, split, Discard, at_validity, while_removing, at_split, Ring, at_start}
use Rattle.lone.specs.Act.{discard}
use Rattle.lone.specs.Lone.{Geo, act_of}
use Rattle.lone.specs.Forest.{initial, steps_state}
use Rattle.lone.specs.Order.{machine}

-- the kind of step that each rule belongs to
abbrev pub due_for : Discard → Due
due_for at_validity = validity
due_for while_removing = removal
due_for at_split = split

module _ {P : Type 0} (G : Geo P) (c : List P) where
  -- the lone ring fed with the points c, after k steps
  abbrev pub ring_after : ℕ → Ring P
  ring_after k = (steps_state (machine G) k (initial (at_start c))).now

  -- of n steps, the one after the first `at` discarded it, by the rule y
  pub record DiscardedBy (n : ℕ) (y : Discard) : Type 0 where
    pub at : ℕ
    pub within : at < n
    pub had : (ring_after at).why ≡ none
    pub due : (ring_after at).due ≡ due_for y
    pub act : act_of G (ring_after at) ≡ discard y
