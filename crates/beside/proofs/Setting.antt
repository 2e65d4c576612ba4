-- Boxes of several records: each write is to its own words.
use Prim.Native.Nat.{ℕ, zero, suc, ◌≤◌, ◌<◌}
use mathlib.Core.Path.{◌≡◌, refl, ap, ◌∙◌, sym}
use mathlib.Core.Logic.{◌≢◌}
use mathlib.Core.Bool.{cond}
use mathlib.Core.List.{List, ◌++◌}
use native.Mathlib.Omega.{arith}
use native.Mathlib.Decide.{ℕ_discrete, dec_lt}
use lib.Dec.{eqb}
use lib.ListN.{length, get_or, set}
use lib.Seq.{set_comm, ext_get_or}
use borrow.Author.Tests.{eq-eqb, ne_eqb}
use Rattle.job.specs.Limits as limit
use Rattle.store.specs.declared.boxed.Sides.{Sides}
use Rattle.store.specs.Field.{ct, RECORDS, BLOCK}
use Rattle.store.specs.Words.{Store, view}
use Rattle.store.specs.Named.{records_of}
use Rattle.store.specs.Boxes.{side_at, sides_at, set_sides, boxed_at, boxed_to, all_boxed, ring_box, sides_of}
use Rattle.store.proofs.Boxing.{view_sides, length_sides, word_else, sides_same, sides_again, sides_more}
use Rattle.bounds.proofs.Beside.{boxed_is, boxed_past, view_to}
use Rattle.beside.specs.Sides.{with_sides, ring_sides}

-- words that agree but for one box, and there too
ext_sides : (u v : List ℕ) (i : ℕ) → length u ≡ length v → ((k : ℕ) → k ≢ side_at 0 i → k ≢ side_at 1 i → k ≢ side_at 2 i → k ≢ side_at 3 i → get_or u k 0 ≡ get_or v k 0) → sides_at u i ≡ sides_at v i → u ≡ v
ext_sides u v i e h s = ext_get_or 0 u v e (λ k l. go k (ℕ_discrete k (side_at 0 i)) (ℕ_discrete k (side_at 1 i)) (ℕ_discrete k (side_at 2 i)) (ℕ_discrete k (side_at 3 i)))
  where
    go : (k : ℕ) → Dec (k ≡ side_at 0 i) → Dec (k ≡ side_at 1 i) → Dec (k ≡ side_at 2 i) → Dec (k ≡ side_at 3 i) → get_or u k 0 ≡ get_or v k 0
    go k (yes a) b c d = rw a (ap (λ (x : Sides). x.left) s)
    go k (no a) (yes b) c d = rw b (ap (λ (x : Sides). x.top) s)
    go k (no a) (no b) (yes c) d = rw c (ap (λ (x : Sides). x.right) s)
    go k (no a) (no b) (no c) (yes d) = rw d (ap (λ (x : Sides). x.bottom) s)
    go k (no a) (no b) (no c) (no d) = h k a b c d

-- the later of two boxes of a record stands
sides_over : (w : List ℕ) (i : ℕ) (a b : Sides) → i < limit.RECORDS → BLOCK ≤ length w → set_sides (set_sides w i a) i b ≡ set_sides w i b
sides_over w i a b h l =
    ext_sides (set_sides (set_sides w i a) i b) (set_sides w i b) i
    (length_sides (set_sides w i a) i b ∙ length_sides w i a ∙ sym (length_sides w i b))
    (λ k p q r s. word_else (set_sides w i a) i b k p q r s ∙ word_else w i a k p q r s ∙ sym (word_else w i b k p q r s))
    (sides_same (set_sides w i a) i b h (omega (arith, length_sides w i a)) ∙ sym (sides_same w i b h l))

-- a word beside them
set_sides_lem : (w : List ℕ) (i : ℕ) (a : Sides) (k v : ℕ) → k ≢ side_at 0 i → k ≢ side_at 1 i → k ≢ side_at 2 i → k ≢ side_at 3 i → set (set_sides w i a) k v ≡ set_sides (set w k v) i a
unfolding set_sides
set_sides_lem w i a k v p q r s =
    let w₁ : List ℕ = set w (side_at 0 i) a.left in
    let w₂ : List ℕ = set w₁ (side_at 1 i) a.top in
    let w₃ : List ℕ = set w₂ (side_at 2 i) a.right in
    set_comm w₃ (side_at 3 i) k a.bottom v (λ z. s (sym z))
    ∙ ap (λ (u : List ℕ). set u (side_at 3 i) a.bottom)
    (set_comm w₂ (side_at 2 i) k a.right v (λ z. r (sym z))
    ∙ ap (λ (u : List ℕ). set u (side_at 2 i) a.right)
    (set_comm w₁ (side_at 1 i) k a.top v (λ z. q (sym z)) ∙ ap (λ (u : List ℕ). set u (side_at 1 i) a.top) (set_comm w (side_at 0 i) k a.left v (λ z. p (sym z)))))

-- two records' boxes in either order
sides_comm : (w : List ℕ) (i j : ℕ) (a b : Sides) → i < limit.RECORDS → j < limit.RECORDS → i ≢ j → set_sides (set_sides w i a) j b ≡ set_sides (set_sides w j b) i a
unfolding set_sides
sides_comm w i j a b h l d =
    let w₁ : List ℕ = set w (side_at 0 j) b.left in
    let w₂ : List ℕ = set w₁ (side_at 1 j) b.top in
    let w₃ : List ℕ = set w₂ (side_at 2 j) b.right in
    ap (λ (u : List ℕ). set (set (set u (side_at 1 j) b.top) (side_at 2 j) b.right) (side_at 3 j) b.bottom)
    (set_sides_lem w i a (side_at 0 j) b.left (λ z. d (omega arith)) (λ z. omega arith) (λ z. omega arith) (λ z. omega arith))
    ∙ ap (λ (u : List ℕ). set (set u (side_at 2 j) b.right) (side_at 3 j) b.bottom)
    (set_sides_lem w₁ i a (side_at 1 j) b.top (λ z. omega arith) (λ z. d (omega arith)) (λ z. omega arith) (λ z. omega arith))
    ∙ ap (λ (u : List ℕ). set u (side_at 3 j) b.bottom)
    (set_sides_lem w₂ i a (side_at 2 j) b.right (λ z. omega arith) (λ z. omega arith) (λ z. d (omega arith)) (λ z. omega arith))
    ∙ set_sides_lem w₃ i a (side_at 3 j) b.bottom (λ z. omega arith) (λ z. omega arith) (λ z. omega arith) (λ z. d (omega arith))

-- ---- a box for each record below n

module _ (f : ℕ → Sides) (w : List ℕ) where
  pub view_with : (n : ℕ) → view (with_sides f n w) ≡ view w
  unfolding with_sides
  view_with zero = refl
  view_with (suc n) = view_sides (with_sides f n w) n (f n) ∙ view_with n

  pub length_with : (n : ℕ) → length (with_sides f n w) ≡ length w
  unfolding with_sides
  length_with zero = refl
  length_with (suc n) = length_sides (with_sides f n w) n (f n) ∙ length_with n

pub with_suc : (f : ℕ → Sides) (w : List ℕ) (n : ℕ) → set_sides (with_sides f n w) n (f n) ≡ with_sides f (suc n) w
unfolding with_sides
with_suc f w n = refl

-- by the boxes alone
pub with_agree : (f g : ℕ → Sides) (w : List ℕ) (n : ℕ) → ((j : ℕ) → j < n → f j ≡ g j) → with_sides f n w ≡ with_sides g n w
unfolding with_sides
with_agree f g w zero h = refl
with_agree f g w (suc n) h = ap (λ (b : Sides). set_sides (with_sides f n w) n b) (h n (omega arith)) ∙ ap (λ (u : List ℕ). set_sides u n (g n)) (with_agree f g w n (λ j l. h j (omega arith)))

-- one of them is another
pub with_other : (f : ℕ → Sides) (w : List ℕ) (i : ℕ) (b : Sides) → BLOCK ≤ length w → (n : ℕ) → i < n → n ≤ limit.RECORDS → set_sides (with_sides f n w) i b ≡ with_sides (λ j. cond (eqb j i) b (f j)) n w
unfolding with_sides
with_other f w i b long zero h l = absurd (omega arith)
with_other f w i b long (suc n) h l = go (ℕ_discrete i n) (λ k. with_other f w i b long n k (omega arith))
  where
    go : Dec (i ≡ n) → (i < n → set_sides (with_sides f n w) i b ≡ with_sides (λ j. cond (eqb j i) b (f j)) n w)
        → set_sides (set_sides (with_sides f n w) n (f n)) i b ≡ set_sides (with_sides (λ j. cond (eqb j i) b (f j)) n w) n (cond (eqb n i) b (f n))
    go (yes e) r =
        ap (λ (k : ℕ). set_sides (set_sides (with_sides f n w) n (f n)) k b) e ∙ sides_over (with_sides f n w) n (f n) b (omega arith) (omega (arith, length_with f w n))
        ∙ ap (λ (c : Sides). set_sides (with_sides f n w) n c) (sym (rw (eq-eqb n i (sym e))))
        ∙ ap (λ (u : List ℕ). set_sides u n (cond (eqb n i) b (f n))) (with_agree f (λ j. cond (eqb j i) b (f j)) w n (λ j k. sym (rw (ne_eqb j i (λ z. omega arith)))))
    go (no d) r =
        sides_comm (with_sides f n w) n i (f n) b (omega arith) (omega arith) (λ z. d (sym z))
        ∙ ap (λ (u : List ℕ). set_sides u n (f n)) (r (omega arith))
        ∙ ap (λ (c : Sides). set_sides (with_sides (λ j. cond (eqb j i) b (f j)) n w) n c) (sym (rw (ne_eqb n i (λ z. d (sym z)))))

-- a box from n on, in either order
with_past : (f : ℕ → Sides) (w : List ℕ) (i : ℕ) (b : Sides) → i < limit.RECORDS → (n : ℕ) → n ≤ i → with_sides f n (set_sides w i b) ≡ set_sides (with_sides f n w) i b
unfolding with_sides
with_past f w i b l zero h = refl
with_past f w i b l (suc n) h =
    ap (λ (u : List ℕ). set_sides u n (f n)) (with_past f w i b l n (omega arith))
    ∙ sides_comm (with_sides f n w) i n b (f n) l (omega arith) (λ z. omega arith)

-- one below n is written over
with_one : (f : ℕ → Sides) (w : List ℕ) (i : ℕ) (b : Sides) → BLOCK ≤ length w → (n : ℕ) → n ≤ limit.RECORDS → i < n → with_sides f n (set_sides w i b) ≡ with_sides f n w
unfolding with_sides
with_one f w i b long zero l h = absurd (omega arith)
with_one f w i b long (suc n) l h = go (ℕ_discrete i n) (λ k. with_one f w i b long n (omega arith) k)
  where
    go : Dec (i ≡ n) → (i < n → with_sides f n (set_sides w i b) ≡ with_sides f n w) → set_sides (with_sides f n (set_sides w i b)) n (f n) ≡ set_sides (with_sides f n w) n (f n)
    go (yes e) r =
        ap (λ (u : List ℕ). set_sides u n (f n)) (with_past f w i b (omega arith) n (omega arith))
        ∙ ap (λ (k : ℕ). set_sides (set_sides (with_sides f n w) k b) n (f n)) e
        ∙ sides_over (with_sides f n w) n b (f n) (omega arith) (omega (arith, length_with f w n))
    go (no d) r = ap (λ (u : List ℕ). set_sides u n (f n)) (r (omega arith))

-- and so are all
pub with_over : (f g : ℕ → Sides) (w : List ℕ) → BLOCK ≤ length w → (n : ℕ) → n ≤ limit.RECORDS → (m : ℕ) → m ≤ n → with_sides f n (with_sides g m w) ≡ with_sides f n w
unfolding with_sides
with_over f g w long n l zero h = refl
with_over f g w long n l (suc m) h =
    with_one f (with_sides g m w) m (g m) (omega (arith, length_with g w m)) n l h
    ∙ with_over f g w long n l m (omega arith)

-- every record's own
all_to : (w : List ℕ) (n : ℕ) → n ≤ records_of w → boxed_to n w ≡ with_sides (ring_sides (view w)) n w
unfolding boxed_to with_sides
all_to w zero h = refl
all_to w (suc n) h =
    boxed_is (boxed_to n w) n (omega (arith, ap (λ (s : Store). s (ct RECORDS) 0) (view_to w n)))
    ∙ ap (λ (s : Store). set_sides (boxed_to n w) n (sides_of (ring_box s n))) (view_to w n)
    ∙ ap (λ (u : List ℕ). set_sides u n (ring_sides (view w) n)) (all_to w n (omega arith))

pub all_with : (w : List ℕ) → all_boxed w ≡ with_sides (ring_sides (view w)) (records_of w) w
unfolding all_boxed
all_with w = all_to w (records_of w) (omega arith)

-- boxes that stand there already
pub all_again : (w : List ℕ) → BLOCK ≤ length w → records_of w ≤ limit.RECORDS → ((j : ℕ) → j < records_of w → sides_at w j ≡ ring_sides (view w) j) → all_boxed w ≡ w
unfolding with_sides
all_again w l few e = all_with w ∙ go (records_of w) (omega arith)
  where
    go : (n : ℕ) → n ≤ records_of w → with_sides (ring_sides (view w)) n w ≡ w
    go zero h = refl
    go (suc n) h = ap (λ (u : List ℕ). set_sides u n (ring_sides (view w) n)) (go n (omega arith)) ∙ ap (set_sides w n) (sym (e n h)) ∙ sides_again w n (omega arith)

-- words past the block
pub boxed_more : (w m : List ℕ) (i : ℕ) → BLOCK ≤ length w → records_of w ≤ limit.RECORDS → view (w ++ m) ≡ view w → boxed_at (w ++ m) i ≡ boxed_at w i ++ m
boxed_more w m i long few e = go (dec_lt i (records_of w))
  where
    go : Dec (i < records_of w) → boxed_at (w ++ m) i ≡ boxed_at w i ++ m
    go (yes l) =
        boxed_is (w ++ m) i (omega (arith, ap (λ (s : Store). s (ct RECORDS) 0) e))
        ∙ ap (λ (s : Store). set_sides (w ++ m) i (ring_sides s i)) e
        ∙ sides_more w i (ring_sides (view w) i) (omega arith) long m
        ∙ ap (λ (u : List ℕ). u ++ m) (sym (boxed_is w i l))
    go (no n) = boxed_past (w ++ m) i (omega (arith, ap (λ (s : Store). s (ct RECORDS) 0) e)) ∙ ap (λ (u : List ℕ). u ++ m) (sym (boxed_past w i (omega arith)))
