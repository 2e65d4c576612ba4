-- Laws of resolving: where a path of owners comes to is settled by where it starts, it meets no record twice, and it is what the function computes.
use Prim.Native.Nat.{ℕ, zero, suc, ◌≤◌, ◌<◌}
use mathlib.Core.Path.{◌≡◌, refl, ap, ◌∙◌, sym, subst}
use mathlib.Core.Logic.{◌≢◌}
use mathlib.Core.Bool.{cond}
use mathlib.Core.List.{List, [], ◌∷◌, ◌++◌}
use native.Mathlib.Omega.{arith}
use native.Mathlib.Decide.{ℕ_discrete}
use lib.Dec.{eqb}
use lib.ListN.{length}
use borrow.Author.Tests.{eq-eqb, ne_eqb}
use Rattle.rings.specs.Count.{occ}
use Rattle.rings.specs.Links.{All}
use Rattle.rings.proofs.Counting.{one_else, one_le, in_all, pigeon}
use Rattle.store.specs.Field.{rc, OWNER, FIRST, NONE}
use Rattle.store.specs.Words.{Store}
use Rattle.store.specs.Sound.{recs}
use Rattle.joins.specs.Resolve.{find_in}
use Rattle.joins.specs.Paths.{Path, Resolves}

module _ (first owner : ℕ → ℕ) where
  -- where it comes to is settled by where it starts, and so is the way
  pub path_same : (r : ℕ) (l m : List ℕ) (q s : ℕ) → Path first owner r l q → first q ≢ NONE → Path first owner r m s → first s ≢ NONE → (q ≡ s) × (l ≡ m)
  path_same r [] [] q s a h b g = (sym a ∙ b, refl)
  path_same r [] (y ∷ m) q s a h b g = absurd (h (ap first (sym a ∙ b.0) ∙ b.1))
  path_same r (x ∷ l) [] q s a h b g = absurd (g (ap first (sym b ∙ a.0) ∙ a.1))
  path_same r (x ∷ l) (y ∷ m) q s a h b g =
      let e : x ≡ y = sym a.0 ∙ b.0 in
      let t = path_same (owner x) l m q s a.2 h (subst (λ (z : ℕ). Path first owner (owner z) m s) (sym e) b.2) g in
      (t.0, cc t.1)

  -- a record from which the way is longer is not on it
  path_off : (x : ℕ) (k : List ℕ) (r : ℕ) (l : List ℕ) (q : ℕ) → Path first owner x k q → first q ≢ NONE → Path first owner r l q → length l < length k → occ x l ≡ 0
  path_off x k r [] q a h b f = refl
  path_off x k r (y ∷ l) q a h b f =
      omega (arith, one_else x y (λ e. omega (arith, f, ap length (path_same x k (y ∷ l) q q a h (sym e, b.1, b.2) h).1)), path_off x k (owner y) l q a h b.2 (omega arith))

  -- so no record comes twice
  pub path_once : (r : ℕ) (l : List ℕ) (q : ℕ) → Path first owner r l q → first q ≢ NONE → (k : ℕ) → occ k l ≤ 1
  path_once r [] q a h k = omega arith
  path_once r (x ∷ l) q a h k = go (ℕ_discrete x k) (path_once (owner x) l q a.2 h k)
    where
      go : Dec (x ≡ k) → occ k l ≤ 1 → occ k (x ∷ l) ≤ 1
      go (yes e) i = omega (arith, one_le k x, subst (λ (y : ℕ). occ y l ≡ 0) e (path_off x (x ∷ l) (owner x) l q (refl, a.1, a.2) h a.2 (omega arith)))
      go (no d) i = omega (arith, one_else k x d)

  pub path_join : (r : ℕ) (l : List ℕ) (x : ℕ) (m : List ℕ) (q : ℕ) → Path first owner r l x → Path first owner x m q → Path first owner r (l ++ m) q
  path_join r [] x m q a b = subst (λ (z : ℕ). Path first owner z m q) (sym a) b
  path_join r (y ∷ l) x m q a b = (a.0, a.1, path_join (owner y) l x m q a.2 b)

  pub path_kept : (first' owner' : ℕ → ℕ) (r : ℕ) (l : List ℕ) (q : ℕ) → All (λ x. first x ≡ NONE → (first' x ≡ NONE) × (owner' x ≡ owner x)) l → Path first owner r l q → Path first' owner' r l q
  path_kept first' owner' r [] q h a = a
  path_kept first' owner' r (x ∷ l) q h a =
      let z = h.0 a.1 in
      (a.0, z.0, subst (λ (y : ℕ). Path first' owner' y l q) (sym z.1) (path_kept first' owner' (owner x) l q h.1 a.2))

  -- a path along numbers below b starts below b
  path_low : (b r : ℕ) (l : List ℕ) (q : ℕ) → Path first owner r l q → q < b → All (λ x. x < b) l → r < b
  path_low b r [] q a h u = rw a h
  path_low b r (x ∷ l) q a h u = rw a.0 u.0

  pub real_is : (f r : ℕ) (l : List ℕ) (q b : ℕ) → Path first owner r l q → first q ≢ NONE → q < b → All (λ x. x < b) l → b ≤ NONE → length l < f → find_in f first owner r ≡ q
  unfolding find_in
  real_is zero r l q b a h m u g s = absurd (omega arith)
  real_is (suc f) r [] q b a h m u g s = rw (a, ne_eqb (first q) NONE h)
  real_is (suc f) r (x ∷ l) q b a h m u g s =
      let k : owner x < b = path_low b (owner x) l q a.2 m u.1 in
      rw (a.0, eq-eqb (first x) NONE a.1, ne_eqb (owner x) NONE (λ e. omega arith)) (real_is f (owner x) l q b a.2 h m u.1 g (omega arith))

  -- where it comes to has points, so it is not on the way
  path_end : (r : ℕ) (l : List ℕ) (q : ℕ) → Path first owner r l q → first q ≢ NONE → occ q l ≡ 0
  path_end r [] q a h = refl
  path_end r (x ∷ l) q a h = omega (arith, one_else q x (λ e. h (ap first (sym e) ∙ a.1)), path_end (owner x) l q a.2 h)

  -- how far it is: a loop's measure
  unfoldable pub hops : ℕ → ℕ → ℕ
  hops zero r = 0
  hops (suc f) r = cond (eqb (first r) NONE) (suc (hops f (owner r))) 0

  pub hops_is : (f r : ℕ) (l : List ℕ) (q : ℕ) → Path first owner r l q → first q ≢ NONE → length l < f → hops f r ≡ length l
  unfolding hops
  hops_is zero r l q a h s = absurd (omega arith)
  hops_is (suc f) r [] q a h s = rw (a, ne_eqb (first q) NONE h)
  hops_is (suc f) r (x ∷ l) q a h s = rw (a.0, eq-eqb (first x) NONE a.1) (ap suc (hops_is f (owner x) l q a.2 h (omega arith)))

module _ (s : Store) where
  pub res_same : (r q t : ℕ) → Resolves s r q → Resolves s r t → q ≡ t
  res_same r q t a b = (path_same (s (rc FIRST)) (s (rc OWNER)) r a.via b.via q t a.path a.some b.path b.some).0

  pub res_short : (r q : ℕ) (a : Resolves s r q) → length a.via < recs s
  res_short r q a = pigeon (recs s) (q ∷ a.via) once low
    where
      once : (k : ℕ) → occ k (q ∷ a.via) ≤ 1
      once k = go (ℕ_discrete q k)
        where
          go : Dec (q ≡ k) → occ k (q ∷ a.via) ≤ 1
          go (yes e) = omega (arith, one_le k q, subst (λ (y : ℕ). occ y a.via ≡ 0) e (path_end (s (rc FIRST)) (s (rc OWNER)) r a.via q a.path a.some))
          go (no d) = omega (arith, one_else k q d, path_once (s (rc FIRST)) (s (rc OWNER)) r a.via q a.path a.some k)

      low : (k : ℕ) → 0 < occ k (q ∷ a.via) → k < recs s
      low k o = in_all (λ x. x < recs s) (q ∷ a.via) k (a.real, a.low) o

  pub res_low : (r q : ℕ) → Resolves s r q → r < recs s
  res_low r q z = path_low (s (rc FIRST)) (s (rc OWNER)) (recs s) r z.via q z.path z.real z.low
