-- Where each answer stands.
use Prim.Native.Nat.{ℕ, zero, suc, ◌+◌, ◌-◌, ◌*◌, ◌≤◌, ◌<◌}
use mathlib.Core.Path.{◌≡◌, refl, sym, ap, ◌∙◌, subst}
use mathlib.Core.Logic.{◌≢◌}
use mathlib.Core.Bool.{Bool, true, false, cond}
use mathlib.Core.List.{List, [], ◌∷◌, ◌++◌, append_assoc}
use native.Mathlib.Omega.{arith}
use lib.Dec.{ltb}
use lib.ListN.{length, get_or, take, drop, length-append, get_or-append}
use lib.Seq.{get_or-append-add}
use borrow.Author.Tests.{ltb-true, ltb-false}
use Rattle.geometry.specs.declared.Point.{Point}
use Rattle.containing.specs.Contains.{path2_contains_path1}
use Rattle.containment.specs.Answers.{bit, row, rows, pair_answers}
use Rattle.containment.specs.LiesIn.{pair_place, PairBytes}
use Rattle.containment.proofs.Rows.{row_length, pairs_count}

row_at : (p : List Point) (qs : List (List Point)) (k : ℕ) → k < length qs → get_or (row p qs) k 0 ≡ bit (path2_contains_path1 p (get_or qs k []))
row_at p [] k h = absurd (omega arith)
row_at p (q ∷ qs) zero h = refl
row_at p (q ∷ qs) (suc k) h = row_at p qs k (omega arith)

-- the row of path i, after those of the paths before it
rows_at : (b ps : List (List Point)) (i k : ℕ) → i < length ps → k < length b + length ps - 1
    → get_or (rows b ps) (i * (length b + length ps - 1) + k) 0 ≡ get_or (row (get_or ps i []) (b ++ (take i ps ++ drop (suc i) ps))) k 0
rows_at b [] i k h g = absurd (omega arith)
rows_at b (p ∷ ps) zero k h g =
    let l : length (row p (b ++ ps)) ≡ length b + length ps = row_length p (b ++ ps) ∙ length-append b ps in
    let z : 0 * (length b + suc (length ps) - 1) + k ≡ k = omega arith in
    ap (λ (m : ℕ). get_or (row p (b ++ ps) ++ rows (b ++ (p ∷ [])) ps) m 0) z ∙ get_or-append (row p (b ++ ps)) (rows (b ++ (p ∷ [])) ps) 0 k (omega (arith, l))
rows_at b (p ∷ ps) (suc i) k h g =
    let m = length b + length ps in
    let l : length (row p (b ++ ps)) ≡ m = row_length p (b ++ ps) ∙ length-append b ps in
    let y : length b + suc (length ps) - 1 ≡ m = omega arith in
    let x : length (b ++ (p ∷ [])) + length ps - 1 ≡ m = omega (arith, length-append b (p ∷ [])) in
    let z : suc i * m + k ≡ length (row p (b ++ ps)) + (i * m + k) = omega (arith, l) in
    let ih : get_or (rows (b ++ (p ∷ [])) ps) (i * m + k) 0 ≡ get_or (row (get_or ps i []) ((b ++ (p ∷ [])) ++ (take i ps ++ drop (suc i) ps))) k 0 =
    subst (λ (c : ℕ). get_or (rows (b ++ (p ∷ [])) ps) (i * c + k) 0 ≡ get_or (row (get_or ps i []) ((b ++ (p ∷ [])) ++ (take i ps ++ drop (suc i) ps))) k 0) x
    (rows_at (b ++ (p ∷ [])) ps i k (omega arith) (omega (arith, x))) in
    ap (λ (c : ℕ). get_or (row p (b ++ ps) ++ rows (b ++ (p ∷ [])) ps) (suc i * c + k) 0) y
    ∙ ap (λ (c : ℕ). get_or (row p (b ++ ps) ++ rows (b ++ (p ∷ [])) ps) c 0) z
    ∙ get_or-append-add (row p (b ++ ps)) (rows (b ++ (p ∷ [])) ps) (i * m + k) 0
    ∙ ih
    ∙ ap (λ (c : List (List Point)). get_or (row (get_or ps i []) c) k 0) (append_assoc b (p ∷ []) (take i ps ++ drop (suc i) ps))

-- the others of path i, in their order
other_below : (ps : List (List Point)) (i j : ℕ) → j < i → i < length ps → get_or (take i ps ++ drop (suc i) ps) j [] ≡ get_or ps j []
other_below [] i j h g = absurd (omega arith)
other_below (p ∷ ps) zero j h g = absurd (omega arith)
other_below (p ∷ ps) (suc i) zero h g = refl
other_below (p ∷ ps) (suc i) (suc j) h g = other_below ps i j (omega arith) (omega arith)

other_above : (ps : List (List Point)) (i j : ℕ) → i ≤ j → i < length ps → get_or (take i ps ++ drop (suc i) ps) j [] ≡ get_or ps (suc j) []
other_above [] i j h g = absurd (omega arith)
other_above (p ∷ ps) zero j h g = refl
other_above (p ∷ ps) (suc i) zero h g = absurd (omega arith)
other_above (p ∷ ps) (suc i) (suc j) h g = other_above ps i j (omega arith) (omega arith)

others_length : (ps : List (List Point)) (i : ℕ) → i < length ps → length (take i ps ++ drop (suc i) ps) ≡ length ps - 1
others_length [] i h = absurd (omega arith)
others_length (p ∷ ps) zero h = omega arith
others_length (p ∷ ps) (suc i) h = omega (arith, others_length ps i (omega arith))

module _ (ps : List (List Point)) (i j : ℕ) (h : i < length ps) (g : j < length ps) (d : i ≢ j) where
  at_place : (k : ℕ) → k < length ps - 1 → get_or (pair_answers ps) (i * (length ps - 1) + k) 0 ≡ bit (path2_contains_path1 (get_or ps i []) (get_or (take i ps ++ drop (suc i) ps) k []))
  unfolding pair_answers
  at_place k f =
      let z : 0 + length ps - 1 ≡ length ps - 1 = omega arith in
      let e : get_or (rows [] ps) (i * (length ps - 1) + k) 0 ≡ get_or (row (get_or ps i []) (take i ps ++ drop (suc i) ps)) k 0 =
      subst (λ (m : ℕ). get_or (rows [] ps) (i * m + k) 0 ≡ get_or (row (get_or ps i []) (take i ps ++ drop (suc i) ps)) k 0) z (rows_at [] ps i k h (omega (arith, z))) in
      e ∙ row_at (get_or ps i []) (take i ps ++ drop (suc i) ps) k (omega (arith, others_length ps i h))

  byte_at : get_or (pair_answers ps) (pair_place (length ps) i j) 0 ≡ bit (path2_contains_path1 (get_or ps i []) (get_or ps j []))
  byte_at = by (ltb j i) refl
    where
      below : j < i → get_or (pair_answers ps) (i * (length ps - 1) + j) 0 ≡ bit (path2_contains_path1 (get_or ps i []) (get_or ps j []))
      below f = at_place j (omega arith) ∙ ap (λ (q : List Point). bit (path2_contains_path1 (get_or ps i []) q)) (other_below ps i j f h)

      above : i < j → get_or (pair_answers ps) (i * (length ps - 1) + (j - 1)) 0 ≡ bit (path2_contains_path1 (get_or ps i []) (get_or ps j []))
      above f =
          let z : suc (j - 1) ≡ j = omega arith in
          at_place (j - 1) (omega arith)
          ∙ ap (λ (q : List Point). bit (path2_contains_path1 (get_or ps i []) q)) (other_above ps i (j - 1) (omega arith) h ∙ ap (λ (m : ℕ). get_or ps m []) z)

      by : (b : Bool) → ltb j i ≡ b → get_or (pair_answers ps) (i * (length ps - 1) + cond (ltb j i) j (j - 1)) 0 ≡ bit (path2_contains_path1 (get_or ps i []) (get_or ps j []))
      by true e = rw e (below (ltb-true j i e))
      by false e = let f : i < j = apart (ltb-false j i e) d in rw e (above f)
        where
          apart : i ≤ j → i ≢ j → i < j
          apart x y = omega arith

pub answers_are : (ps : List (List Point)) → PairBytes ps
answers_are ps = record { count = pairs_count ps; byte = λ i j h g d. byte_at ps i j h g d }
