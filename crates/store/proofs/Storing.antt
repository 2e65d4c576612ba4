-- Laws of words: writing a word is writing the store (`view_put`), for one write and for a list of them; what a written store reads.
use Prim.Native.Nat.{ℕ, ◌+◌, ◌≤◌, ◌<◌}
use mathlib.Core.Path.{◌≡◌, refl, ap, ◌∙◌, sym, fun_ext}
use mathlib.Core.Logic.{◌≢◌, ◌⊎◌, inl, inr}
use mathlib.Core.Bool.{Bool, true, false, cond}
use mathlib.Core.List.{List, [], ◌∷◌}
use native.Mathlib.Omega.{arith}
use lib.Dec.{ltb, eqb}
use lib.ListN.{length, get_or, set, length-set}
use lib.Seq.{get_or-set_same, get_or-set_other}
use borrow.Author.Tests.{ltb-true, lt-ltb, le-ltb, eqb-true, eqb-false, eq-eqb, ne_eqb}
use Rattle.store.specs.Field.{Field, PointCol, RecordCol, Count, pt, rc, ct, X, Y, NEXT, PREV, REC, Z, FLAGS, OWNER, FIRST, MARK, PRESENT, START, CUT, REASON, TAKER, SETTINGS, POINTS, RECORDS, point_rank, record_rank, count_rank, size, base, same, BOXES, BLOCK}
use Rattle.store.specs.Words.{Store, cell, put, view, Write, write, on_words}
use Rattle.store.specs.Stores.{upd, on_store, Within, Misses}

point_ranks : (f : PointCol) → point_rank f ≤ 5
point_ranks X = omega arith
point_ranks Y = omega arith
point_ranks NEXT = omega arith
point_ranks PREV = omega arith
point_ranks REC = omega arith
point_ranks Z = omega arith

record_ranks : (f : RecordCol) → record_rank f ≤ 8
record_ranks FLAGS = omega arith
record_ranks OWNER = omega arith
record_ranks FIRST = omega arith
record_ranks MARK = omega arith
record_ranks PRESENT = omega arith
record_ranks START = omega arith
record_ranks CUT = omega arith
record_ranks REASON = omega arith
record_ranks TAKER = omega arith

count_ranks : (f : Count) → count_rank f ≤ 2
count_ranks SETTINGS = omega arith
count_ranks POINTS = omega arith
count_ranks RECORDS = omega arith

-- every column ends before the boxes
pub ends : (f : Field) (i : ℕ) → i < size f → base f + i < BOXES
ends (pt f) i h = omega (arith, point_ranks f)
ends (rc f) i h = omega (arith, record_ranks f)
ends (ct f) i h = omega (arith, count_ranks f)

-- another column, another word
other : (f g : Field) (i j : ℕ) → i < size f → j < size g → same f g ≡ false → base g + j ≢ base f + i
other (pt f) (pt g) i j h k e z = let d : point_rank f ≢ point_rank g = eqb-false _ _ e in omega arith
other (pt f) (rc g) i j h k e z = omega (arith, point_ranks f)
other (pt f) (ct g) i j h k e z = omega (arith, count_ranks g)
other (rc f) (pt g) i j h k e z = omega (arith, point_ranks g)
other (rc f) (rc g) i j h k e z = let d : record_rank f ≢ record_rank g = eqb-false _ _ e in omega arith
other (rc f) (ct g) i j h k e z = omega (arith, count_ranks g)
other (ct f) (pt g) i j h k e z = omega (arith, count_ranks f)
other (ct f) (rc g) i j h k e z = omega (arith, count_ranks f)
other (ct f) (ct g) i j h k e z = let d : count_rank f ≢ count_rank g = eqb-false _ _ e in omega arith

-- the same column begins and ends at the same words
pub record Alike (f g : Field) : Type 0 where
  pub bases : base g ≡ base f
  pub sizes : size g ≡ size f

alike : (f g : Field) → same f g ≡ true → Alike f g
alike (pt f) (pt g) e = let d : point_rank f ≡ point_rank g = eqb-true _ _ e in record { bases = cc; sizes = refl }
alike (pt f) (rc g) e = let z : ◌≡◌ {A = ℕ} 0 1 = cc in absurd (omega arith)
alike (pt f) (ct g) e = let z : ◌≡◌ {A = ℕ} 0 1 = cc in absurd (omega arith)
alike (rc f) (pt g) e = let z : ◌≡◌ {A = ℕ} 0 1 = cc in absurd (omega arith)
alike (rc f) (rc g) e = let d : record_rank f ≡ record_rank g = eqb-true _ _ e in record { bases = cc; sizes = refl }
alike (rc f) (ct g) e = let z : ◌≡◌ {A = ℕ} 0 1 = cc in absurd (omega arith)
alike (ct f) (pt g) e = let z : ◌≡◌ {A = ℕ} 0 1 = cc in absurd (omega arith)
alike (ct f) (rc g) e = let z : ◌≡◌ {A = ℕ} 0 1 = cc in absurd (omega arith)
alike (ct f) (ct g) e = let d : count_rank f ≡ count_rank g = eqb-true _ _ e in record { bases = cc; sizes = refl }

module _ (w : List ℕ) (long : BLOCK ≤ length w) (f : Field) (i v : ℕ) (h : i < size f) where
  cell_same : (g : Field) (j : ℕ) → Alike f g → cell g (put f w i v) j ≡ cond (eqb j i) v (cell g w j)
  unfolding cell put
  cell_same g j a = go (eqb j i) refl
    where
      go : (b : Bool) → eqb j i ≡ b → cond (ltb j (size g)) (get_or (set w (base f + i) v) (base g + j) 0) 0 ≡ cond b v (cond (ltb j (size g)) (get_or w (base g + j) 0) 0)
      go true e =
          let d : j ≡ i = eqb-true _ _ e in
          let t : ltb j (size g) ≡ true = lt-ltb j (size g) (omega (arith, a.sizes)) in
          let p : base g + j ≡ base f + i = omega (arith, a.bases) in
          rw (t, p) (get_or-set_same w (base f + i) v 0 (omega (arith, ends f i h)))
      go false e =
          let d : j ≢ i = eqb-false _ _ e in
          ap (λ (n : ℕ). cond (ltb j (size g)) n 0) (get_or-set_other w (base f + i) (base g + j) v 0 (λ z. d (omega (arith, a.bases))))

  cell_other : (g : Field) (j : ℕ) → same f g ≡ false → cell g (put f w i v) j ≡ cell g w j
  unfolding cell put
  cell_other g j e = go (ltb j (size g)) refl
    where
      go : (b : Bool) → ltb j (size g) ≡ b → cond b (get_or (set w (base f + i) v) (base g + j) 0) 0 ≡ cond b (get_or w (base g + j) 0) 0
      go true t = get_or-set_other w (base f + i) (base g + j) v 0 (other f g i j h (ltb-true _ _ t) e)
      go false t = refl

  cell_put : (g : Field) (j : ℕ) → cell g (put f w i v) j ≡ upd (view w) f i v g j
  cell_put g j = go (same f g) refl
    where
      go : (b : Bool) → same f g ≡ b → cell g (put f w i v) j ≡ cond b (cond (eqb j i) v (cell g w j)) (cell g w j)
      go true e = cell_same g j (alike f g e)
      go false e = cell_other g j e

  -- the law
  pub view_put : view (put f w i v) ≡ upd (view w) f i v
  view_put = fun_ext (λ g. fun_ext (λ j. cell_put g j))

pub length_put : (f : Field) (w : List ℕ) (i v : ℕ) → length (put f w i v) ≡ length w
unfolding put
length_put f w i v = simp length-set

pub length_writes : (w : List ℕ) (xs : List Write) → length (on_words w xs) ≡ length w
length_writes w [] = refl
length_writes w (x ∷ xs) = length_writes (put x.to w x.at x.is) xs ∙ length_put x.to w x.at x.is

pub view_writes : (w : List ℕ) (xs : List Write) → BLOCK ≤ length w → Within xs → view (on_words w xs) ≡ on_store (view w) xs
view_writes w [] long h = refl
view_writes w (x ∷ xs) long h =
    view_writes (put x.to w x.at x.is) xs (omega (arith, length_put x.to w x.at x.is)) h.1
    ∙ ap (λ (s : Store). on_store s xs) (view_put w long x.to x.at x.is h.0)

-- ---- reading a store that was written

pub upd_same : (s : Store) (f : Field) (i v : ℕ) → same f f ≡ true → upd s f i v f i ≡ v
upd_same s f i v e = rw (e, eq-eqb i i refl)

pub upd_else : (s : Store) (f : Field) (i v j : ℕ) → j ≢ i → upd s f i v f j ≡ s f j
upd_else s f i v j d = go (same f f)
  where
    go : (b : Bool) → cond b (cond (eqb j i) v (s f j)) (s f j) ≡ s f j
    go true = rw (ne_eqb j i d)
    go false = refl

upd_miss : (s : Store) (f : Field) (i v : ℕ) (g : Field) (j : ℕ) → (same f g ≡ false) ⊎ (j ≢ i) → upd s f i v g j ≡ s g j
upd_miss s f i v g j (inl e) = rw e
upd_miss s f i v g j (inr d) = go (same f g)
  where
    go : (b : Bool) → cond b (cond (eqb j i) v (s g j)) (s g j) ≡ s g j
    go true = rw (ne_eqb j i d)
    go false = refl

pub unwritten : (s : Store) (xs : List Write) (g : Field) (j : ℕ) → Misses xs g j → on_store s xs g j ≡ s g j
unwritten s [] g j m = refl
unwritten s (x ∷ xs) g j m = unwritten (upd s x.to x.at x.is) xs g j m.1 ∙ upd_miss s x.to x.at x.is g j m.0

-- what is written last stands
pub written : (s : Store) (f : Field) (i v : ℕ) (xs : List Write) → same f f ≡ true → Misses xs f i → on_store s (write f i v ∷ xs) f i ≡ v
written s f i v xs e m = unwritten (upd s f i v) xs f i m ∙ upd_same s f i v e

-- the same by hand, for a written column as it computes
pub hit : (i v e : ℕ) → cond (eqb i i) v e ≡ v
hit i v e = rw (eq-eqb i i refl)

pub miss : (j i v e : ℕ) → j ≢ i → cond (eqb j i) v e ≡ e
miss j i v e d = rw (ne_eqb j i d)

pub cell_at : (f : Field) (w : List ℕ) (i : ℕ) → i < size f → cell f w i ≡ get_or w (base f + i) 0
unfolding cell
cell_at f w i h = rw (lt-ltb i (size f) h)

-- what the accessors' needs come to
pub place_of : (f : Field) (i b r : ℕ) → i < size f → b ≡ base f → r ≡ b + i → (r ≡ base f + i) × (r < BLOCK)
place_of f i b r h e q = (omega arith, omega (arith, ends f i h))

pub got : (f : Field) (w : List ℕ) (i k r : ℕ) → i < size f → k ≡ base f + i → r ≡ get_or w k 0 → r ≡ cell f w i
got f w i k r h e q = q ∙ ap (λ (n : ℕ). get_or w n 0) e ∙ sym (cell_at f w i h)

pub stored : (f : Field) (w w' : List ℕ) (i k v : ℕ) → k ≡ base f + i → w' ≡ set w k v → w' ≡ put f w i v
unfolding put
stored f w w' i k v e q = q ∙ ap (λ (n : ℕ). set w n v) e

-- past its end a column reads 0
pub past_end : (f : Field) (w : List ℕ) (i n : ℕ) → n ≡ size f → n ≤ i → 0 ≡ cell f w i
unfolding cell
past_end f w i n e h = rw (le-ltb i (size f) (omega arith))
