-- Renumbered stores have the same rings, renumbered; and each point resolves to the same record.
use Prim.Native.Nat.{ℕ, zero, suc, ◌≤◌, ◌<◌}
use mathlib.Core.Path.{◌≡◌, refl, ap, subst}
use mathlib.Core.Logic.{◌≢◌}
use mathlib.Core.Bool.{Bool, true, false, cond}
use mathlib.Core.List.{List, [], ◌∷◌, map}
use lib.Dec.{eqb}
use borrow.Author.Tests.{eqb-false}
use Rattle.rings.specs.Count.{occ}
use Rattle.rings.specs.Walk.{run, walk}
use Rattle.job.specs.Limits as limit
use Rattle.store.specs.Field.{pt, rc, NEXT, REC, FIRST, NONE}
use Rattle.store.specs.Words.{Store, view}
use Rattle.store.specs.Sound.{pts, recs, ringless, ring_at}
use Rattle.joins.specs.Resolve.{home_of}
use Rattle.joins.specs.Paths.{Lives}
use Rattle.joins.specs.Resolved.{Resolved, Ready}
use Rattle.joins.proofs.Homes.{home_of_lem, on_ring_lem, lives_on, next_lives, first_lives}
use Rattle.joins.proofs.Finding.{at_home}
use Rattle.joins.proofs.Resolving.{res_same}
use Rattle.drawing.specs.Renumbered.{Renumbered}
use Rattle.drawing.proofs.Likeness.{tells_apart, low', none}

module _ (ρ : ℕ → ℕ) (tells : (a b : ℕ) → eqb (ρ a) (ρ b) ≡ eqb a b) where
  -- a walk, renumbered
  pub run_map : (n n' : ℕ → ℕ) (c : ℕ) → ((k : ℕ) → k < c → n k < c) → ((k : ℕ) → k < c → n' (ρ k) ≡ ρ (n k)) → (stop f a : ℕ) → a < c → run n' (ρ stop) f (ρ a) ≡ map ρ (run n stop f a)
  unfolding run
  run_map n n' c l e stop zero a h = refl
  run_map n n' c l e stop (suc f) a h = rw (e a h, tells (n a) stop) (ap (λ (m : List ℕ). ρ a ∷ m) (go (eqb (n a) stop) (run_map n n' c l e stop f (n a) (l a h))))
    where
      go : (b : Bool) → run n' (ρ stop) f (ρ (n a)) ≡ map ρ (run n stop f (n a)) → cond b [] (run n' (ρ stop) f (ρ (n a))) ≡ map ρ (cond b [] (run n stop f (n a)))
      go true r = refl
      go false r = r

  pub occ_map : (k : ℕ) (l : List ℕ) → occ (ρ k) (map ρ l) ≡ occ k l
  occ_map k [] = refl
  occ_map k (x ∷ l) = rw (tells x k, occ_map k l)

module _ {ρ : ℕ → ℕ} {s s' : Store} (a : Renumbered ρ s s') (few : pts s ≤ limit.POINTS) where
  pub ringless_alike : (i : ℕ) → i < recs s → ringless s' i ≡ ringless s i
  ringless_alike i h = rw (a.firsts i h) (subst (λ (x : ℕ). eqb (ρ (s (rc FIRST) i)) x ≡ eqb (s (rc FIRST) i) NONE) (none a few) (tells_apart a (s (rc FIRST) i) NONE))

  -- where next stays among the points
  pub ring_alike : ((k : ℕ) → k < pts s → s (pt NEXT) k < pts s) → (i : ℕ) → i < recs s → (s (rc FIRST) i ≢ NONE → s (rc FIRST) i < pts s) → ring_at s' i ≡ map ρ (ring_at s i)
  ring_alike l i h f = rw (ringless_alike i h, a.firsts i h) (go (ringless s i) refl)
    where
      go : (b : Bool) → ringless s i ≡ b → cond b [] (walk (s' (pt NEXT)) (ρ (s (rc FIRST) i))) ≡ map ρ (cond b [] (walk (s (pt NEXT)) (s (rc FIRST) i)))
      go true e = refl
      go false e = run_map ρ (tells_apart a) (s (pt NEXT)) (s' (pt NEXT)) (pts s) l a.nexts (s (rc FIRST) i) limit.POINTS (s (rc FIRST) i) (f (eqb-false _ _ e))

module _ (s : Store) (o : Resolved s) where
  pub next_in : (k : ℕ) → k < pts s → s (pt NEXT) k < pts s
  next_in k h = let z = home_of_lem s o k h in (next_lives s o z.0 k z.1).bound

  pub first_in : (i : ℕ) → i < recs s → s (rc FIRST) i ≢ NONE → s (rc FIRST) i < pts s
  first_in i h d = (first_lives s o i h d).bound

-- of stores in which every point resolves to its ring's record
module _ {ρ : ℕ → ℕ} {s s' : Store} (a : Renumbered ρ s s') (o : Resolved s) (o' : Resolved s') where
  pub rings_alike : (i : ℕ) → i < recs s → ring_at s' i ≡ map ρ (ring_at s i)
  rings_alike i h = ring_alike a o.few_points (next_in s o) i h (first_in s o i h)

  -- each point lives on the same ring
  pub lives_alike : (i k : ℕ) → Lives s i k → Lives s' i (ρ k)
  lives_alike i k z = lives_on s' o' i (ρ k) (rw a.records z.res.real) (rw (rings_alike i z.res.real, occ_map ρ (tells_apart a) k (ring_at s i)) (on_ring_lem s o i k z))

-- and resolves to the same record
pub homes_alike : {ρ : ℕ → ℕ} (w w' : List ℕ) → Renumbered ρ (view w) (view w') → Ready w → Ready w' → (k : ℕ) → k < pts (view w) → home_of w' (ρ k) ≡ home_of w k
homes_alike {ρ} w w' a o o' k h =
    let z = at_home w o k (home_of w k) h refl in
    let y = at_home w' o' (ρ k) (home_of w' (ρ k)) (low' a k h) refl in
    res_same (view w') (view w' (pt REC) (ρ k)) (home_of w' (ρ k)) (home_of w k) y.res (lives_alike a o.resolved o'.resolved (home_of w k) k z).res
