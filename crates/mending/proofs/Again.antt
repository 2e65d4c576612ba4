-- Mending what was mended changes nothing: the bytes stay bytes, and the job meets none of rows 1 to 6.
use mathlib.Core.Path.{◌≡◌, sym, ◌∙◌, subst}
use mathlib.Core.Bool.{true}
use mathlib.Core.List.{List, [], ◌∷◌}
use Prim.Native.Nat.{ℕ, zero, suc, ◌+◌, ◌*◌, ◌/◌, ◌%◌, ◌^◌, ◌<◌}
use native.Mathlib.Nat.{mod-lt}
use native.Mathlib.Omega.{arith}
use native.Mathlib.Decide.{ℕ_discrete, dec_lt}
use lib.ListN.{length, get_or, set, replicate}
use lib.Seq.{set_out, get_or-set_same, get_or-set_other}
use Rattle.std.specs.Prelude.{Ok}
use Rattle.numbers.specs.Written.{put_le}
use Rattle.rings.specs.Links.{All}
use Rattle.job.specs.Limits as limit
use Rattle.store.specs.Field.{BLOCK}
use Rattle.reading.specs.Needs.{Space}
use Rattle.mending.specs.Mend.{mended, prev_at, with_prevs, mend_of}
use Rattle.mending.specs.Mends.{acceptance, passes_rows, job_points, MendedWell}
use Rattle.mending.proofs.Checking.{space}
use Rattle.mending.proofs.Passing.{zeros_long}
use Rattle.mending.proofs.Choices.{Small, unaltered_of}
use Rattle.mending.proofs.Exactly.{is_mended, done_well}

bytes_set : (s : List ℕ) (i v : ℕ) → v < 256 → Small s → Small (set s i v)
bytes_set s i v h b j = go (ℕ_discrete j i) (dec_lt i (length s))
  where
    go : Dec (j ≡ i) → Dec (i < length s) → get_or (set s i v) j 0 < 256
    go (yes e) (yes l) = subst (λ (z : ℕ). get_or (set s i v) z 0 < 256) (sym e) (subst (λ (z : ℕ). z < 256) (sym (get_or-set_same s i v 0 l)) h)
    go (yes e) (no l) = subst (λ (z : List ℕ). get_or z j 0 < 256) (sym (set_out s i v (omega arith))) (b j)
    go (no e) l = subst (λ (z : ℕ). z < 256) (sym (get_or-set_other s i j v 0 e)) (b j)

bytes_put : (s : List ℕ) (i v : ℕ) → Small s → Small (put_le 2 i v s)
bytes_put s i v b = bytes_set (set s i (v % 256)) (i + 1) (v / 256 ^ 1 % 256) (mod-lt (v / 256 ^ 1) (omega arith)) (bytes_set s i (v % 256) (mod-lt v (omega arith)) b)

bytes_prevs : (f : ℕ → ℕ) (n : ℕ) (s : List ℕ) → Small s → Small (with_prevs f n s)
bytes_prevs f zero s b = b
bytes_prevs f (suc n) s b = bytes_put (with_prevs f n s) (prev_at n) (f n) (bytes_prevs f n s b)

bytes_at : (s : List ℕ) → All (λ (r : ℕ). r < 256) s → Small s
bytes_at [] h i = omega arith
bytes_at (x ∷ s) h zero = h.0
bytes_at (x ∷ s) h (suc i) = bytes_at s h.1 i

module _ (bytes : List ℕ) (b : All (λ (r : ℕ). r < 256) bytes) where
  pub comes_back_so : (w ss js : List ℕ) → Space w ss js → passes_rows 6 (acceptance bytes w ss js) ≡ true → mend_of bytes ≡ mended (Ok tt) bytes
  comes_back_so = unaltered_of bytes (bytes_at bytes b)

  pub mends_once : (mend_of bytes).answer ≡ Ok tt → mend_of (mend_of bytes).bytes ≡ mend_of bytes
  mends_once e =
      let m : MendedWell (job_points bytes) bytes (mend_of bytes).bytes = done_well bytes e in
      let small : Small (mend_of bytes).bytes = subst (λ (s : List ℕ). (i : ℕ) → get_or s i 0 < 256) (sym m.is) (bytes_prevs m.prevs (job_points bytes) bytes (bytes_at bytes b)) in
      let s = space (replicate BLOCK 0) zeros_long in
      unaltered_of (mend_of bytes).bytes small (replicate BLOCK 0) (replicate limit.SEGMENTS 0) (replicate (2 * limit.JOINS) 0) s (m.never_6 (replicate BLOCK 0) (replicate limit.SEGMENTS 0) (replicate (2 * limit.JOINS) 0) s) ∙ sym (is_mended bytes e)
