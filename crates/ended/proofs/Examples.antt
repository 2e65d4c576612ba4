-- Computed, so that neither definition says less than it reads: the eight kinds, and what an open record cannot have.
use mathlib.Core.Path.{◌≡◌, refl}
use mathlib.Core.Bool.{true, false}
use mathlib.Core.List.{[], ◌∷◌, map}
use Prim.Native.Nat.{ℕ}
use Rattle.telling.specs.declared.Reason.TheVariants.{NoRing, Joined, SmallRing, RingFell, SmallArea, ShortPath, SmallPath, Written}
use Rattle.ended.specs.Alike.{kind_of}
use Rattle.ended.specs.Ended.{OfOpen}

-- a kind is the reason but for its number: the eight differ, and so do the two lists
kinds : map kind_of (NoRing ∷ Joined 7 ∷ SmallRing ∷ RingFell ∷ SmallArea ∷ ShortPath ∷ SmallPath ∷ Written false 3 ∷ Written true 4 ∷ [])
    ≡ NoRing ∷ Joined 0 ∷ SmallRing ∷ RingFell ∷ SmallArea ∷ ShortPath ∷ SmallPath ∷ Written false 0 ∷ Written true 0 ∷ []
kinds = refl

-- of an open record: not one of the five others, and no place among the closed paths
not_joined : (u : ℕ) → ¬ OfOpen (Joined u)
not_joined u h = h

not_small : ¬ OfOpen SmallRing
not_small h = h

not_fallen : ¬ OfOpen RingFell
not_fallen h = h

not_by_area : ¬ OfOpen SmallArea
not_by_area h = h

not_small_path : ¬ OfOpen SmallPath
not_small_path h = h

not_closed : (place : ℕ) → OfOpen (Written false place) → false ≡ true
not_closed place h = h
