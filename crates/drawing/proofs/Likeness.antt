-- Renumbered stores stay alike: under writes that are renumbered, and where only words that are not compared change.
use Prim.Native.Nat.{ℕ, ◌≤◌, ◌<◌}
use mathlib.Core.Path.{◌≡◌, refl, ap, ◌∙◌, sym}
use mathlib.Core.Logic.{◌⊎◌, inl, inr}
use mathlib.Core.Bool.{true}
use mathlib.Core.List.{List}
use native.Mathlib.Omega.{arith}
use lib.Dec.{eqb}
use lib.ListN.{length}
use Rattle.job.specs.Limits as limit
use Rattle.store.specs.Field.{Field, pt, rc, ct, X, Y, Z, NEXT, PREV, FLAGS, OWNER, FIRST, SETTINGS, POINTS, RECORDS, BLOCK, NONE}
use Rattle.store.specs.Words.{Store, view, Write, on_words}
use Rattle.store.specs.Stores.{on_store, Within}
use Rattle.store.specs.Sound.{pts, recs}
use Rattle.store.proofs.Storing.{view_writes}
use Rattle.drawing.specs.Renumbered.{Renumbers, Renumbered}
use Rattle.drawing.proofs.Writing.{eqb_same, lower, AgreeAt, RenumberedWrites, AmongWrites, compared, write_alike}

pub renumbers_more : {ρ : ℕ → ℕ} {c : ℕ} (d : ℕ) → c ≤ d → Renumbers ρ c → Renumbers ρ d
renumbers_more d h r = record { back = r.back; back_of = r.back_of; of_back = r.of_back; stays = λ k l. r.stays k (omega arith) }

module _ {ρ : ℕ → ℕ} {s s' : Store} (a : Renumbered ρ s s') where
  pub tells_apart : (x y : ℕ) → eqb (ρ x) (ρ y) ≡ eqb x y
  tells_apart = eqb_same a.renumbers

  pub low : (k : ℕ) → k < pts s → ρ k < pts s
  low k h = lower a.renumbers k h

  pub low' : (k : ℕ) → k < pts s → ρ k < pts s'
  low' k h = rw a.points (low k h)

  -- none is none
  pub none : pts s ≤ limit.POINTS → ρ NONE ≡ NONE
  none h = a.renumbers.stays NONE (omega arith)

  -- the new points and records are written alike
  pub record Grows (xs : List Write) : Type 0 where
    pub more : pts s ≤ on_store s xs (ct POINTS) 0
    pub points : (k : ℕ) → k < on_store s xs (ct POINTS) 0 → (k < pts s) ⊎ (AmongWrites xs (pt X) k × AmongWrites xs (pt Y) k × AmongWrites xs (pt NEXT) k × AmongWrites xs (pt PREV) k × AmongWrites xs (pt Z) k)
    pub records : (i : ℕ) → i < on_store s xs (ct RECORDS) 0 → (i < recs s) ⊎ (AmongWrites xs (rc FLAGS) i × AmongWrites xs (rc OWNER) i × AmongWrites xs (rc FIRST) i)

  pub alike_store : (xs ys : List Write) → RenumberedWrites ρ xs ys → Grows xs → Renumbered ρ (on_store s xs) (on_store s' ys)
  alike_store xs ys r g =
      record {
        renumbers = renumbers_more (on_store s xs (ct POINTS) 0) g.more a.renumbers;
        settings = by (ct SETTINGS) 0 refl (inl a.settings);
        points = by (ct POINTS) 0 refl (inl a.points);
        records = by (ct RECORDS) 0 refl (inl a.records);
        xs = λ k h. by (pt X) k refl (one (a.xs k) (λ z. z.0) (g.points k h));
        ys = λ k h. by (pt Y) k refl (one (a.ys k) (λ z. z.1) (g.points k h));
        zs = λ k h. by (pt Z) k refl (one (a.zs k) (λ z. z.4) (g.points k h));
        nexts = λ k h. by (pt NEXT) k refl (one (a.nexts k) (λ z. z.2) (g.points k h));
        prevs = λ k h. by (pt PREV) k refl (one (a.prevs k) (λ z. z.3) (g.points k h));
        flags = λ i h. by (rc FLAGS) i refl (one (a.flags i) (λ z. z.0) (g.records i h));
        owners = λ i h. by (rc OWNER) i refl (one (a.owners i) (λ z. z.1) (g.records i h));
        firsts = λ i h. by (rc FIRST) i refl (one (a.firsts i) (λ z. z.2) (g.records i h));
      }
    where
      by : (f : Field) (k : ℕ) → compared f ≡ true → AgreeAt ρ s s' f k ⊎ AmongWrites xs f k → AgreeAt ρ (on_store s xs) (on_store s' ys) f k
      by f k t z = write_alike ρ tells_apart f k t xs ys s s' r z

      one : {A B C D : Type 0} → (A → B) → (C → D) → A ⊎ C → B ⊎ D
      one f g (inl x) = inl (f x)
      one f g (inr y) = inr (g y)

-- the same of words
pub alike_words : {ρ : ℕ → ℕ} (w w' : List ℕ) (a : Renumbered ρ (view w) (view w')) (xs ys : List Write) → BLOCK ≤ length w → BLOCK ≤ length w' → Within xs → Within ys → RenumberedWrites ρ xs ys → Grows a xs
    → Renumbered ρ (view (on_words w xs)) (view (on_words w' ys))
alike_words w w' a xs ys l l' h h' r g = rw (view_writes w xs l h, view_writes w' ys l' h') (alike_store a xs ys r g)

-- where only words that are not compared change
pub record StillCompared (s u : Store) : Type 0 where
  pub counts : (f : Field) (k : ℕ) → compared f ≡ true → u f k ≡ s f k

pub alike_still : {ρ : ℕ → ℕ} {s s' : Store} (u u' : Store) → StillCompared s u → StillCompared s' u' → Renumbered ρ s s' → Renumbered ρ u u'
alike_still {ρ} {s} {s'} u u' t t' a =
    record {
      renumbers = renumbers_more (pts u) (omega (arith, p)) a.renumbers;
      settings = go (ct SETTINGS) 0 0 refl (λ n. n) a.settings;
      points = go (ct POINTS) 0 0 refl (λ n. n) a.points;
      records = go (ct RECORDS) 0 0 refl (λ n. n) a.records;
      xs = λ k h. go (pt X) k (ρ k) refl (λ n. n) (a.xs k (omega (arith, p)));
      ys = λ k h. go (pt Y) k (ρ k) refl (λ n. n) (a.ys k (omega (arith, p)));
      zs = λ k h. go (pt Z) k (ρ k) refl (λ n. n) (a.zs k (omega (arith, p)));
      nexts = λ k h. go (pt NEXT) k (ρ k) refl ρ (a.nexts k (omega (arith, p)));
      prevs = λ k h. go (pt PREV) k (ρ k) refl ρ (a.prevs k (omega (arith, p)));
      flags = λ i h. go (rc FLAGS) i i refl (λ n. n) (a.flags i (omega (arith, q)));
      owners = λ i h. go (rc OWNER) i i refl (λ n. n) (a.owners i (omega (arith, q)));
      firsts = λ i h. go (rc FIRST) i i refl ρ (a.firsts i (omega (arith, q)));
    }
  where
    p : pts u ≡ pts s
    p = t.counts (ct POINTS) 0 refl

    q : recs u ≡ recs s
    q = t.counts (ct RECORDS) 0 refl

    go : (f : Field) (k k' : ℕ) → compared f ≡ true → (g : ℕ → ℕ) → s' f k' ≡ g (s f k) → u' f k' ≡ g (u f k)
    go f k k' c g e = t'.counts f k' c ∙ e ∙ ap g (sym (t.counts f k c))
