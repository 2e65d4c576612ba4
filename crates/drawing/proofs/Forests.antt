-- Renumbered stores have the same forest by value.
use Prim.Native.Nat.{ℕ, zero, suc, ◌+◌, ◌%◌, ◌<◌}
use mathlib.Core.Path.{◌≡◌, refl, ap, ◌∙◌}
use mathlib.Core.Bool.{Bool, true, cond}
use mathlib.Core.List.{List, [], ◌∷◌, map}
use native.Mathlib.Omega.{arith}
use lib.Dec.{eqb}
use Rattle.rings.specs.Count.{table}
use Rattle.rings.specs.Links.{All}
use Rattle.rings.specs.Progress.{Ring, at_start}
use Rattle.rings.proofs.Counting.{all_in}
use Rattle.lone.specs.Forest.{Fed, left_ringless, left_open, left_closed}
use Rattle.store.specs.Field.{Field, pt, rc, ct, FLAGS, OWNER, FIRST, MARK, PRESENT, START, CUT, REASON, TAKER}
use Rattle.store.specs.Words.{Store, view}
use Rattle.store.specs.Named.{settings_of, points_of, records_of}
use Rattle.store.specs.Sound.{pts, recs, ringless, ring_at, is_open}
use Rattle.joins.specs.Resolved.{Resolved, Ready}
use Rattle.acts.specs.Value.{value}
use Rattle.acts.specs.Opened.{opened_at, records}
use Rattle.turns.specs.Form.{raised}
use Rattle.opening.specs.Start.{start_rings}
use Rattle.opening.proofs.Starting.{Begun, begun_all}
use Rattle.drawing.specs.Renumbered.{Renumbered}
use Rattle.drawing.proofs.Writing.{compared, never}
use Rattle.drawing.proofs.Likeness.{StillCompared, alike_still}
use Rattle.drawing.proofs.Rings.{ringless_alike, rings_alike}

-- ---- setting rings at their start changes nothing that is compared

begun_still : (s u : Store) (i : ℕ) → Begun s u i → StillCompared s u
begun_still s u i b = record { counts = go }
  where
    go : (f : Field) (k : ℕ) → compared f ≡ true → u f k ≡ s f k
    go (pt f) k e = ap (λ (c : ℕ → ℕ). c k) (b.points f)
    go (rc FLAGS) k e = ap (λ (c : ℕ → ℕ). c k) b.flags
    go (rc OWNER) k e = ap (λ (c : ℕ → ℕ). c k) b.owners
    go (rc FIRST) k e = ap (λ (c : ℕ → ℕ). c k) b.firsts
    go (rc MARK) k e = never e
    go (rc PRESENT) k e = never e
    go (rc START) k e = never e
    go (rc CUT) k e = never e
    go (rc REASON) k e = never e
    go (rc TAKER) k e = never e
    go (ct f) k e = ap (λ (c : ℕ → ℕ). c k) (b.counts f)

pub start_alike : {ρ : ℕ → ℕ} (w w' : List ℕ) → Ready w → Ready w' → Renumbered ρ (view w) (view w') → Renumbered ρ (view (start_rings w)) (view (start_rings w'))
start_alike w w' o o' a =
    alike_still (view (start_rings w)) (view (start_rings w')) (begun_still (view w) (view (start_rings w)) (recs (view w)) (begun_all w o)) (begun_still (view w') (view (start_rings w')) (recs (view w')) (begun_all w' o')) a

-- ---- the forest

pub table_same : {A : Type 0} (g h : ℕ → A) (k n : ℕ) → ((i : ℕ) → i < k + n → h i ≡ g i) → table h k n ≡ table g k n
table_same g h k zero e = refl
table_same g h k (suc n) e = rw (e k (omega arith), table_same g h (suc k) n (λ i l. e i (omega arith)))

module _ {P : Type 0} (of : ℕ → ℕ → ℕ → P) {ρ : ℕ → ℕ} {s s' : Store} (a : Renumbered ρ s s') where
  values : (l : List ℕ) → All (λ k. k < pts s) l → map (value of s') (map ρ l) ≡ map (value of s) l
  values [] h = refl
  values (k ∷ l) h = rw (a.xs k h.0, a.ys k h.0, a.zs k h.0, values l h.1)

  module _ (o : Resolved s) (o' : Resolved s') where
    pub ring_values : (i : ℕ) → i < recs s → map (value of s') (ring_at s' i) ≡ map (value of s) (ring_at s i)
    ring_values i h = ap (map (value of s')) (rings_alike a o o' i h) ∙ values (ring_at s i) (all_in (λ k. k < pts s) (ring_at s i) (o.whole i h).below)

    opened_same : (i : ℕ) → i < recs s → opened_at of s' i ≡ opened_at of s i
    opened_same i h = both (ringless s' i) (ringless s i) (is_open s' i) (is_open s i) (map (value of s') (ring_at s' i)) (map (value of s) (ring_at s i)) (ringless_alike a o.few_points i h) (ap (λ (n : ℕ). eqb (n % 2) 1) (a.flags i h)) (ring_values i h)
      where
        both : (x x' y y' : Bool) (c c' : List P) → x ≡ x' → y ≡ y' → c ≡ c' → ◌≡◌ {A = Fed (Ring P) (List P)} (cond x left_ringless (cond y (left_open c) (left_closed (at_start c)))) (cond x' left_ringless (cond y' (left_open c') (left_closed (at_start c'))))
        both x x' y y' c c' e f g = rw (e, f, g)

    pub forest_same : records of s' ≡ records of s
    forest_same = ap (table (opened_at of s') 0) a.records ∙ table_same (opened_at of s) (opened_at of s') 0 (recs s) (λ i h. opened_same i (omega arith))

-- two opened work spaces: settings, counts, and every record's ring by value from its first point
pub record SameForest (w w' : List ℕ) : Type 0 where
  pub settings : settings_of w' ≡ settings_of w
  pub as_many_points : points_of w' ≡ points_of w
  pub as_many_records : records_of w' ≡ records_of w
  pub forest : records raised.of (view w') ≡ records raised.of (view w)

pub same_forest : {ρ : ℕ → ℕ} (w w' : List ℕ) → Ready w → Ready w' → Renumbered ρ (view w) (view w') → SameForest w w'
same_forest w w' o o' a = record { settings = a.settings; as_many_points = a.points; as_many_records = a.records; forest = forest_same raised.of a o.resolved o'.resolved }
