-- Stores and lists that agree in what was read of two jobs alike but for the backward links of their points.
use mathlib.Core.Path.{◌≡◌, refl, sym, ap, ◌∙◌, subst}
use mathlib.Core.Bool.{Bool, true, false, cond}
use mathlib.Core.List.{List, [], ◌∷◌}
use Prim.Native.Nat.{ℕ, ◌+◌, ◌-◌, ◌<◌}
use native.Mathlib.Omega.{arith}
use native.Mathlib.Decide.{ℕ_discrete}
use lib.Dec.{eqb}
use lib.ListN.{length, get_or, set}
use lib.Seq.{get_or-set_same, get_or-set_other}
use borrow.Author.Tests.{eqb-true, eqb-false}
use Rattle.store.specs.Field.{pt, rc, X, Y, Z, NEXT, PREV, REC, FLAGS, OWNER, FIRST}
use Rattle.store.specs.Words.{Store, Write, write}
use Rattle.store.specs.Stores.{on_store}
use Rattle.reading.specs.Fill.{record_read}

-- ---- stores that agree in what was read of p points and r records, but for prev, which is f's in the second
module _ (f : ℕ → ℕ) where
  pub record Agree (p r : ℕ) (s s' : Store) : Type 0 where
    pub x : (i : ℕ) → i < p → s' (pt X) i ≡ s (pt X) i
    pub y : (i : ℕ) → i < p → s' (pt Y) i ≡ s (pt Y) i
    pub next : (i : ℕ) → i < p → s' (pt NEXT) i ≡ s (pt NEXT) i
    pub prev : (i : ℕ) → i < p → s' (pt PREV) i ≡ f i
    pub rec : (i : ℕ) → i < p → s' (pt REC) i ≡ s (pt REC) i
    pub z : (i : ℕ) → i < p → s' (pt Z) i ≡ s (pt Z) i
    pub flags : (i : ℕ) → i < r → s' (rc FLAGS) i ≡ s (rc FLAGS) i
    pub owner : (i : ℕ) → i < r → s' (rc OWNER) i ≡ s (rc OWNER) i
    pub first : (i : ℕ) → i < r → s' (rc FIRST) i ≡ s (rc FIRST) i

  cell_more : (p v : ℕ) (a b : ℕ → ℕ) → ((i : ℕ) → i < p → a i ≡ b i) → (i : ℕ) → i < p + 1 → cond (eqb i p) v (a i) ≡ cond (eqb i p) v (b i)
  cell_more p v a b h i l = go (eqb i p) refl
    where
      go : (t : Bool) → eqb i p ≡ t → cond t v (a i) ≡ cond t v (b i)
      go true e = refl
      go false e = h i (omega (arith, l, eqb-false i p e))

  prev_more : (p : ℕ) (a : ℕ → ℕ) → ((i : ℕ) → i < p → a i ≡ f i) → (i : ℕ) → i < p + 1 → cond (eqb i p) (f p) (a i) ≡ f i
  prev_more p a h i l = go (eqb i p) refl
    where
      go : (t : Bool) → eqb i p ≡ t → cond t (f p) (a i) ≡ f i
      go true e = ap f (sym (eqb-true i p e))
      go false e = h i (omega (arith, l, eqb-false i p e))

  abbrev pub point_writes : ℕ → ℕ → ℕ → ℕ → ℕ → ℕ → ℕ → List Write
  point_writes i a b n v c d = write (pt X) i a ∷ write (pt Y) i b ∷ write (pt NEXT) i n ∷ write (pt PREV) i v ∷ write (pt REC) i c ∷ write (pt Z) i d ∷ []

  pub agree_point : (p r : ℕ) (s s' : Store) (a b n v c d : ℕ) → Agree p r s s' → Agree (p + 1) r (on_store s (point_writes p a b n v c d)) (on_store s' (point_writes p a b n (f p) c d))
  agree_point p r s s' a b n v c d g =
      record {
        x = cell_more p a (s' (pt X)) (s (pt X)) g.x;
        y = cell_more p b (s' (pt Y)) (s (pt Y)) g.y;
        next = cell_more p n (s' (pt NEXT)) (s (pt NEXT)) g.next;
        prev = prev_more p (s' (pt PREV)) g.prev;
        rec = cell_more p c (s' (pt REC)) (s (pt REC)) g.rec;
        z = cell_more p d (s' (pt Z)) (s (pt Z)) g.z;
        flags = g.flags;
        owner = g.owner;
        first = g.first;
      }

  pub agree_record : (p r : ℕ) (s s' : Store) (a b c : ℕ) → Agree p r s s' → Agree p (r + 1) (on_store s (record_read r a b c)) (on_store s' (record_read r a b c))
  agree_record p r s s' a b c g =
      record {
        x = g.x;
        y = g.y;
        next = g.next;
        prev = g.prev;
        rec = g.rec;
        z = g.z;
        flags = cell_more r a (s' (rc FLAGS)) (s (rc FLAGS)) g.flags;
        owner = cell_more r b (s' (rc OWNER)) (s (rc OWNER)) g.owner;
        first = cell_more r c (s' (rc FIRST)) (s (rc FIRST)) g.first;
      }

-- ---- lists that agree in their first n numbers
abbrev pub Front : ℕ → List ℕ → List ℕ → Type 0
Front n l l' = (i : ℕ) → i < n → get_or l' i 0 ≡ get_or l i 0

pub front_more : (n v : ℕ) (l l' : List ℕ) → n < length l → n < length l' → Front n l l' → Front (n + 1) (set l n v) (set l' n v)
front_more n v l l' h h' g i b = go (ℕ_discrete i n)
  where
    go : Dec (i ≡ n) → get_or (set l' n v) i 0 ≡ get_or (set l n v) i 0
    go (yes e) = subst (λ (z : ℕ). get_or (set l' n v) z 0 ≡ get_or (set l n v) z 0) (sym e) (get_or-set_same l' n v 0 h' ∙ sym (get_or-set_same l n v 0 h))
    go (no e) = get_or-set_other l' n i v 0 e ∙ g i (omega (arith, b, e)) ∙ sym (get_or-set_other l n i v 0 e)
