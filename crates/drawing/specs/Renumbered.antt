-- Two jobs that hold one drawing: the same but for the numbers of their points, and for the records that points name.
use Rattle.std.specs.Prelude.{ℕ, ◌*◌, ◌≤◌, ◌<◌, ◌≡◌, List, get_or}
use Rattle.job.specs.declared.Job.{Job}
use Rattle.store.specs.Field.{pt, rc, ct, X, Y, Z, NEXT, PREV, FLAGS, OWNER, FIRST, SETTINGS}
use Rattle.store.specs.Words.{Store, view}
use Rattle.store.specs.Sound.{pts, recs}

-- ρ gives each number below c another one below c, one to one; the numbers from c on, none among them, stay
pub record Renumbers (ρ : ℕ → ℕ) (c : ℕ) : Type 0 where
  pub back : ℕ → ℕ
  pub back_of : (k : ℕ) → back (ρ k) ≡ k
  pub of_back : (k : ℕ) → ρ (back k) ≡ k
  pub stays : (k : ℕ) → c ≤ k → ρ k ≡ k

-- s' is s with point k numbered ρ k. (Which record a point names is not compared: where every point resolves to its ring's record, both resolve to the
-- same, `homes_alike`.)
pub record Renumbered (ρ : ℕ → ℕ) (s s' : Store) : Type 0 where
  pub renumbers : Renumbers ρ (pts s)
  pub settings : s' (ct SETTINGS) 0 ≡ s (ct SETTINGS) 0
  pub points : pts s' ≡ pts s
  pub records : recs s' ≡ recs s
  pub xs : (k : ℕ) → k < pts s → s' (pt X) (ρ k) ≡ s (pt X) k
  pub ys : (k : ℕ) → k < pts s → s' (pt Y) (ρ k) ≡ s (pt Y) k
  pub zs : (k : ℕ) → k < pts s → s' (pt Z) (ρ k) ≡ s (pt Z) k
  pub nexts : (k : ℕ) → k < pts s → s' (pt NEXT) (ρ k) ≡ ρ (s (pt NEXT) k)
  pub prevs : (k : ℕ) → k < pts s → s' (pt PREV) (ρ k) ≡ ρ (s (pt PREV) k)
  pub flags : (i : ℕ) → i < recs s → s' (rc FLAGS) i ≡ s (rc FLAGS) i
  pub owners : (i : ℕ) → i < recs s → s' (rc OWNER) i ≡ s (rc OWNER) i
  pub firsts : (i : ℕ) → i < recs s → s' (rc FIRST) i ≡ ρ (s (rc FIRST) i)

-- the first n numbers of a list of points
abbrev pub RenumberedList : (ℕ → ℕ) → ℕ → List ℕ → List ℕ → Type 0
RenumberedList ρ n l l' = (k : ℕ) → k < n → get_or l' k 0 ≡ ρ (get_or l k 0)

-- two jobs as they were read
pub record RenumberedJob (ρ : ℕ → ℕ) (j j' : Job) (w w' ss ss' js js' : List ℕ) : Type 0 where
  pub words : Renumbered ρ (view w) (view w')
  pub as_many_segments : j'.segments ≡ j.segments
  pub as_many_joins : j'.joins ≡ j.joins
  pub segments : RenumberedList ρ j.segments ss ss'
  pub joins : RenumberedList ρ (2 * j.joins) js js'
