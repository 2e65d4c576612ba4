-- Tables with a number for each point; each law's premises are what the calls ensure.
use mathlib.Core.Path.{◌≡◌, refl, sym, ap, ◌∙◌}
use mathlib.Core.Bool.{not, ◌||◌}
use mathlib.Core.List.{List, [], ◌∷◌}
use Prim.Native.Nat.{ℕ, zero, suc, ◌+◌, ◌<◌, ◌≤◌}
use native.Mathlib.Omega.{arith}
use native.Mathlib.Numerals.{add-one}
use lib.Dec.{eqb}
use lib.ListN.{length, set}
use Rattle.numbers.specs.Written.{put_le}
use Rattle.job.specs.Limits.{NONE}
use Rattle.store.specs.Named.{next_of}
use Rattle.mending.specs.Mend.{prev_at, with_prevs}
use Rattle.mending.specs.Needs.{table_of, spoilt, table_at, Roomy}

-- ---- the loops of `tabulate` and `write_prevs`
pub table_more : (next : ℕ → ℕ) (k p : ℕ) (t₀ t t' : List ℕ) → t ≡ table_of next k t₀ → p ≡ next k → t' ≡ set t p k → t' ≡ table_of next (k + 1) t₀
table_more next k p t₀ t t' a b c = rw (add-one k, c, b, a)

pub prevs_more : (f : ℕ → ℕ) (k i p : ℕ) (s₀ s s' : List ℕ) → s ≡ with_prevs f k s₀ → i ≡ prev_at k → p ≡ f k → s' ≡ put_le 2 i p s → s' ≡ with_prevs f (k + 1) s₀
prevs_more f k i p s₀ s s' a b c d = d ∙ ap (λ (z : ℕ). put_le 2 z p s) b ∙ ap (λ (z : ℕ). put_le 2 (prev_at k) z s) c ∙ ap (put_le 2 (prev_at k) (f k)) a ∙ ap (λ (z : ℕ). with_prevs f z s₀) (sym (add-one k))

-- ---- `is_spoilt`
pub spoilt_is : (w t : List ℕ) (k p a b : ℕ) → a ≡ table_at t k → p ≡ next_of w k → b ≡ table_at t p → (eqb a NONE || not (eqb b k)) ≡ spoilt w t k
spoilt_is w t k p a b e f g = rw (e, g, f)

pub table_whole : (next : ℕ → ℕ) (n m k : ℕ) (t₀ t : List ℕ) → m ≡ n → m ≤ k → k ≤ n → t ≡ table_of next k t₀ → t ≡ table_of next n t₀
table_whole next n m k t₀ t e h g a = let z : k ≡ n = omega arith in a ∙ ap (λ (i : ℕ). table_of next i t₀) z

pub prevs_whole : (f : ℕ → ℕ) (n k : ℕ) (s₀ s : List ℕ) → n ≤ k → k ≤ n → s ≡ with_prevs f k s₀ → s ≡ with_prevs f n s₀
prevs_whole f n k s₀ s h g a = let z : k ≡ n = omega arith in a ∙ ap (λ (i : ℕ). with_prevs f i s₀) z

pub prev_room : (s₀ s : List ℕ) (n k i : ℕ) → Roomy s₀ n → length s ≡ length s₀ → k < n → i ≡ prev_at k → i + 2 ≤ length s
prev_room s₀ s n k i r e h p = omega (arith, r.room k h)
