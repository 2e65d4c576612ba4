-- What fix_outrec_pts does to the words: the points of a list name a record, and nothing else is written.
use Prim.Native.Nat.{ℕ, ◌≤◌, ◌<◌}
use mathlib.Core.Path.{◌≡◌, refl, ap, ◌∙◌, sym}
use mathlib.Core.Bool.{false}
use mathlib.Core.List.{List, [], ◌∷◌}
use native.Mathlib.Omega.{arith}
use native.Mathlib.Decide.{ℕ_discrete}
use lib.ListN.{length}
use borrow.Author.Tests.{eq-eqb, ne_eqb}
use Rattle.job.specs.Limits as limit
use Rattle.rings.specs.Count.{occ}
use Rattle.rings.specs.Links.{All}
use Rattle.rings.proofs.Counting.{one_else}
use Rattle.rings.proofs.Members.{one_is}
use Rattle.store.specs.Field.{Field, pt, REC, same, BLOCK}
use Rattle.store.specs.Words.{Store, view}
use Rattle.store.specs.Stores.{upd}
use Rattle.store.specs.Named.{rec_of, set_rec}
use Rattle.store.proofs.Storing.{view_put, length_put}
use Rattle.joins.specs.Join.{name_all}

module _ (k : ℕ) where
  one_word : (w : List ℕ) (x : ℕ) → BLOCK ≤ length w → x < limit.POINTS → (g : Field) (j : ℕ) → view (set_rec w x k) g j ≡ upd (view w) (pt REC) x k g j
  one_word w x long h g j = ap (λ (s : Store). s g j) (view_put w long (pt REC) x k h)

  pub name_length : (w l : List ℕ) → length (name_all w k l) ≡ length w
  unfolding name_all
  name_length w [] = refl
  name_length w (y ∷ l) = name_length (set_rec w y k) l ∙ length_put (pt REC) w y k

  -- another column
  pub name_col : (g : Field) (j : ℕ) → same (pt REC) g ≡ false → (w l : List ℕ) → BLOCK ≤ length w → All (λ x. x < limit.POINTS) l → view (name_all w k l) g j ≡ view w g j
  unfolding name_all
  name_col g j e w [] long h = refl
  name_col g j e w (y ∷ l) long h = name_col g j e (set_rec w y k) l (omega (arith, length_put (pt REC) w y k)) h.1 ∙ one_word w y long h.0 g j ∙ rw e

  pub name_out : (i : ℕ) (w l : List ℕ) → BLOCK ≤ length w → All (λ x. x < limit.POINTS) l → occ i l ≡ 0 → rec_of (name_all w k l) i ≡ rec_of w i
  unfolding name_all
  name_out i w [] long h o = refl
  name_out i w (y ∷ l) long h o =
      name_out i (set_rec w y k) l (omega (arith, length_put (pt REC) w y k)) h.1 (omega arith)
      ∙ one_word w y long h.0 (pt REC) i ∙ rw (ne_eqb i y (λ e. omega (arith, one_is i y e)))

  pub name_in : (i : ℕ) (w l : List ℕ) → BLOCK ≤ length w → All (λ x. x < limit.POINTS) l → (occ i l ≤ 1) → 0 < occ i l → rec_of (name_all w k l) i ≡ k
  unfolding name_all
  name_in i w [] long h d o = absurd (omega arith)
  name_in i w (y ∷ l) long h d o = go (ℕ_discrete i y) (name_in i (set_rec w y k) l (omega (arith, length_put (pt REC) w y k)) h.1)
    where
      go : Dec (i ≡ y) → (occ i l ≤ 1 → 0 < occ i l → rec_of (name_all (set_rec w y k) k l) i ≡ k) → rec_of (name_all (set_rec w y k) k l) i ≡ k
      go (yes e) r = name_out i (set_rec w y k) l (omega (arith, length_put (pt REC) w y k)) h.1 (omega (arith, one_is i y e)) ∙ one_word w y long h.0 (pt REC) i ∙ rw (eq-eqb i y e)
      go (no f) r = r (omega arith) (omega (arith, one_else i y (λ e. f (sym e))))
