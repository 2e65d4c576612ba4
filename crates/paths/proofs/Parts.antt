-- A part of a tray that starts at its used length, written and put back.
use Prim.Native.Nat.{ℕ, ◌-◌, ◌≤◌}
use mathlib.Core.Path.{◌≡◌, ap, ◌∙◌}
use mathlib.Core.List.{List, [], ◌++◌, append-nil}
use native.Mathlib.Omega.{arith}
use lib.ListN.{length, take, drop, replicate, length-append, length-drop, length-replicate}
use lib.Seq.{take_all, take-append_seam, drop-length}
use borrow.Rule.Slice.PartMut.{put_mid, post_of, Post-is}
use Rattle.paths.specs.Tray.{padded, over}
use Rattle.paths.proofs.Laying.{drop_over, over_rest, length_over}

module _ (a t₀ t : List ℕ) (at : ℕ) (e : at ≡ length a) (f : t ≡ over a t₀) (h : length a ≤ length t₀) where
  pub tray_length : length t ≡ length t₀
  tray_length = ap length f ∙ length_over a t₀ h

  -- the part is what is left
  pub part_is : take (length t - at) (drop at t) ≡ drop (length a) t₀
  part_is =
      take_all (length t - at) (drop at t) (omega (arith, length-drop at t))
      ∙ ap (λ (n : ℕ). drop n t) e ∙ ap (drop (length a)) f ∙ drop_over a t₀

  front : take at t ≡ a
  front = ap (λ (n : ℕ). take n t) e ∙ ap (take (length a)) f ∙ take-append_seam a (drop (length a) t₀)

  behind : post_of at (length t - at) t ≡ []
  behind = Post-is at (length t) t (omega (arith, tray_length)) ∙ drop-length t

  put_part : (ys : List ℕ) → put_mid at (length t - at) t ys ≡ a ++ ys
  put_part ys = ap (λ (l : List ℕ). l ++ (ys ++ post_of at (length t - at) t)) front ∙ ap (λ (l : List ℕ). a ++ (ys ++ l)) behind ∙ ap (λ (l : List ℕ). a ++ l) (append-nil ys)

  -- bytes laid over the part
  pub part_over : (b ys : List ℕ) → ys ≡ over b (take (length t - at) (drop at t)) → put_mid at (length t - at) t ys ≡ over (a ++ b) t₀
  part_over b ys g = put_part ys ∙ ap (λ (l : List ℕ). a ++ l) (g ∙ ap (over b) part_is) ∙ over_rest a b t₀

  -- zeros in the part
  pub part_clear : (ys : List ℕ) → ys ≡ replicate (length (take (length t - at) (drop at t))) 0 → put_mid at (length t - at) t ys ≡ padded (length t₀) a
  part_clear ys g =
      put_part ys
      ∙ ap (λ (l : List ℕ). a ++ l) (g ∙ ap (λ (n : ℕ). replicate n 0) (ap length part_is ∙ length-drop (length a) t₀))

-- ---- a loop that clears a tray

pub clearing_length : (t₀ t : List ℕ) (i : ℕ) → i ≤ length t₀ → t ≡ replicate i 0 ++ drop i t₀ → length t ≡ length t₀
clearing_length t₀ t i h e = omega (arith, ap length e, length-append {A = ℕ} (replicate i 0) (drop i t₀), length-replicate {A = ℕ} i 0, length-drop i t₀)

pub cleared : (t₀ t : List ℕ) (i : ℕ) → i ≤ length t₀ → t ≡ replicate i 0 ++ drop i t₀ → length t₀ ≤ i → t ≡ replicate (length t₀) 0
cleared t₀ t i h e g =
    let z : i ≡ length t₀ = omega arith in
    e ∙ rw (z, drop-length t₀, append-nil {A = ℕ} (replicate (length t₀) 0))
