-- How rewriting ends: each law's premises are what the calls ensure, and how their answers came out.
use Prim.Native.Nat.{ℕ, zero, suc, ◌+◌, ◌-◌, ◌≤◌, ◌<◌, min, max}
use mathlib.Core.Path.{◌≡◌, refl, ap, ◌∙◌}
use mathlib.Core.Bool.{true, false}
use mathlib.Core.List.{List, ◌++◌}
use native.Mathlib.Nat.{zero-add}
use native.Mathlib.Omega.{arith}
use native.Mathlib.Decide.{dec_lt}
use lib.ListN.{length, drop, replicate, length-replicate}
use lib.Seq.{sets, sets-eq, length-sets}
use borrow.Author.Tests.{lt-ltb, le-ltb, le-leb, lt-leb}
use Rattle.std.specs.Prelude.{is_err}
use Rattle.std.proofs.Common.{Result, Ok, Err}
use Rattle.job.specs.Limits as limit
use Rattle.job.specs.Limits.{POINTS}
use Rattle.job.specs.declared.Job.{Job}
use Rattle.job.specs.declared.refusal.Refusal.{Refusal}
use Rattle.job.specs.declared.refusal.Refusal.TheVariants.{SmallTray, Full}
use Rattle.store.specs.Field.{BLOCK, LENGTH}
use Rattle.store.specs.Words.{view}
use Rattle.store.specs.Named.{records_of}
use Rattle.reading.specs.Fill.{ReadEnd, end}
use Rattle.accepting.specs.Accept.{accept_of}
use Rattle.converting.specs.Needs.{Converting}
use Rattle.opening.specs.Open.{JOIN_POINTS}
use Rattle.opening.proofs.Passing.{may_convert}
use Rattle.paths.specs.Tray.{padded}
use Rattle.text.specs.Pour.{poured, pour}
use Rattle.drawing.specs.Drawing.{drawing_of}
use Rattle.encoding.specs.Sheet.{all_bytes}
use Rattle.encoding.specs.Encode.{encode}
use Rattle.numbering.specs.Numbers.{NumberedTo, numbered_to, number_to}
use Rattle.rewriting.specs.Fields.{job_fields, numbers_of, job_bytes}
use Rattle.rewriting.specs.Rewrite.{Rewrote, rewrote, not_rewritten, written_in, rewrite_from, rewrite_of}
use Rattle.rewriting.specs.Stages.{Lists, job_written, rewritten_at, poured_answer, besides, writing_from, writing_of, settled_tray}
use Rattle.rewriting.proofs.Encodes.{encodes}

-- ---- row 11

pub too_small : (at : ℕ) (t : List ℕ) → length t < at → Err SmallTray ≡ rewritten_at at t
too_small at t h = rw (lt-ltb (length t) at h)

pub enough : (at : ℕ) (t : List ℕ) → at ≤ length t → Ok at ≡ rewritten_at at t
enough at t h = rw (le-ltb (length t) at h)

-- ---- a job that was read

pub job_written_lem : (w ss : List ℕ) (m : ℕ) (js : List ℕ) (n k at : ℕ) (r : Result ℕ Refusal) (t u v : List ℕ) → numbered_to k t ≡ number_to (view w) (records_of w) (replicate POINTS 0)
    → poured at v ≡ pour (all_bytes (job_fields w t ss m js n)) 0 u → r ≡ rewritten_at at v → job_written r v ≡ poured_answer (pour (job_bytes w ss m js n) 0 u)
unfolding numbers_of job_bytes
job_written_lem w ss m js n k at r t u v e f g =
    let a : t ≡ numbers_of w = ap (λ (x : NumberedTo). x.numbers) e in
    ap (λ (x : Result ℕ Refusal). job_written x v) g ∙ ap poured_answer f ∙ ap (λ (x : List ℕ). poured_answer (pour (all_bytes (job_fields w x ss m js n)) 0 u)) a

-- ---- rows 1 to 8

module _ (bytes w v ts ks : List ℕ) (long : BLOCK ≤ length w) (o : Result Job Refusal) (e : end o v ts ks ≡ accept_of bytes w (replicate limit.SEGMENTS 0) (replicate JOIN_POINTS 0)) where
  as_read : (j : Job) → o ≡ Ok j → Converting v ts j.segments ks j.joins
  as_read j f = may_convert bytes w v ts ks j long o e f

  pub may_write : (j : Job) → o ≡ Ok j → Lists v ts j.segments ks j.joins
  may_write j f = let c = as_read j f in record { long = c.listed.ready.long; segments = c.listed.fits; joins = omega (arith, c.room, c.few) }

  pub rows_passed : (j : Job) (r : Result ℕ Refusal) (t u : List ℕ) → o ≡ Ok j → job_written r u ≡ poured_answer (pour (job_bytes v ts j.segments ks j.joins) 0 t) → rewrote r v u ≡ writing_of bytes w t
  unfolding writing_of
  rows_passed j r t u f h = ap (besides v) (h ∙ ap (λ (b : List ℕ). poured_answer (pour b 0 t)) (encodes v ts j.segments ks j.joins (as_read j f))) ∙ rw (← e, f)

  pub rows_refused : (x : Refusal) (t : List ℕ) → o ≡ Err x → rewrote (Err x) v t ≡ writing_of bytes w t
  unfolding writing_of
  rows_refused x t f = rw (← e, f)

-- ---- a refusal's zeros

module _ (a : Result ℕ Refusal) (t : List ℕ) where
  pub settle_bytes : is_err a ≡ false → job_written a t ≡ settled_tray a t
  settle_bytes e = go a e
    where
      go : (a : Result ℕ Refusal) → is_err a ≡ false → job_written a t ≡ settled_tray a t
      go (Ok k) e = refl
      go (Err x) e = absurd (let y : ◌≡◌ {A = ℕ} 0 1 = cc in omega arith)

  pub settle_refused : (u : List ℕ) → is_err a ≡ true → u ≡ replicate (length t) 0 → job_written a u ≡ settled_tray a t
  settle_refused u e f = go a e
    where
      go : (a : Result ℕ Refusal) → is_err a ≡ true → job_written a u ≡ settled_tray a t
      go (Ok k) e = absurd (let y : ◌≡◌ {A = ℕ} 0 1 = cc in omega arith)
      go (Err x) e = rw f

-- ---- the whole

drop_zeros : (k m : ℕ) → drop k (replicate {A = ℕ} m 0) ≡ replicate (m - k) 0
drop_zeros zero m = ap (λ (i : ℕ). replicate i 0) (let z : m ≡ m - 0 = omega arith in z)
drop_zeros (suc k) zero = ap (λ (i : ℕ). replicate i 0) (let z : 0 ≡ 0 - suc k = omega arith in z)
drop_zeros (suc k) (suc m) = drop_zeros k m ∙ ap (λ (i : ℕ). replicate i 0) (let z : m - k ≡ suc m - suc k = omega arith in z)

-- bytes poured over zeros: all of them, or one is lost
module _ (bytes : List ℕ) (n m : ℕ) where
  settle_fits : length bytes ≤ m → besides (replicate n 0) (settled_tray (rewritten_at (pour bytes 0 (replicate m 0)).at (pour bytes 0 (replicate m 0)).out) (pour bytes 0 (replicate m 0)).out) ≡ written_in bytes n m
  unfolding pour
  settle_fits h =
      let l = length-replicate {A = ℕ} m 0 in
      let a : max 0 (min (0 + length bytes) (suc (length (replicate {A = ℕ} m 0)))) ≡ length bytes = omega arith in
      let b : sets (replicate m 0) 0 bytes ≡ padded m bytes = sets-eq bytes (replicate m 0) 0 (omega arith) ∙ ap (λ (k : ℕ). bytes ++ drop k (replicate m 0)) (zero-add (length bytes)) ∙ ap (λ (r : List ℕ). bytes ++ r) (drop_zeros (length bytes) m) in
      rw (a, le-ltb (length (sets (replicate m 0) 0 bytes)) (length bytes) (omega (arith, length-sets (replicate {A = ℕ} m 0) 0 bytes)), le-leb (length bytes) m h, b)

  settle_lost : m < length bytes → besides (replicate n 0) (settled_tray (rewritten_at (pour bytes 0 (replicate m 0)).at (pour bytes 0 (replicate m 0)).out) (pour bytes 0 (replicate m 0)).out) ≡ written_in bytes n m
  unfolding pour
  settle_lost h =
      let l = length-replicate {A = ℕ} m 0 in
      let k : length (sets (replicate m 0) 0 bytes) ≡ m = length-sets (replicate {A = ℕ} m 0) 0 bytes ∙ l in
      rw (lt-ltb (length (sets (replicate m 0) 0 bytes)) (max 0 (min (0 + length bytes) (suc (length (replicate {A = ℕ} m 0))))) (omega arith), lt-leb (length bytes) m h, k)

  settle_poured : besides (replicate n 0) (settled_tray (rewritten_at (pour bytes 0 (replicate m 0)).at (pour bytes 0 (replicate m 0)).out) (pour bytes 0 (replicate m 0)).out) ≡ written_in bytes n m
  settle_poured = go (dec_lt m (length bytes))
    where
      go : Dec (m < length bytes) → besides (replicate n 0) (settled_tray (rewritten_at (pour bytes 0 (replicate m 0)).at (pour bytes 0 (replicate m 0)).out) (pour bytes 0 (replicate m 0)).out) ≡ written_in bytes n m
      go (yes h) = settle_lost h
      go (no h) = settle_fits (omega arith)

settle_stages : (n m : ℕ) (T : ReadEnd) (a : Result ℕ Refusal) (v u : List ℕ) → rewrote a v u ≡ writing_from T (replicate m 0) → besides (replicate n 0) (settled_tray a u) ≡ rewrite_from T n m
settle_stages n m (end (Ok j) w ss js) a v u e =
    ap (λ (x : Rewrote). besides (replicate n 0) (settled_tray x.answer x.tray)) e ∙ settle_poured (encode (drawing_of w ss j.segments js j.joins)) n m
settle_stages n m (end (Err x) w ss js) a v u e =
    ap (λ (z : Rewrote). besides (replicate n 0) (settled_tray z.answer z.tray)) e ∙ ap (λ (i : ℕ). not_rewritten x n i) (length-replicate {A = ℕ} m 0)

module _ (bytes : List ℕ) (n m : ℕ) (w t : List ℕ) (e : w ≡ replicate n 0) (f : t ≡ replicate m 0) where
  pub too_short : length w < LENGTH → rewrote (Err Full) w t ≡ rewrite_of bytes n m
  unfolding rewrite_of
  too_short h = let l : length w ≡ n = ap length e ∙ length-replicate {A = ℕ} n 0 in rw (lt-ltb n LENGTH (omega arith), e, f)

  pub all_written : (a : Result ℕ Refusal) (v u x y : List ℕ) → LENGTH ≤ length w → rewrote a v u ≡ writing_of bytes w t → length v ≡ length w → x ≡ replicate (length v) 0 → job_written a y ≡ settled_tray a u
      → rewrote a x y ≡ rewrite_of bytes n m
  unfolding rewrite_of writing_of
  all_written a v u x y h g k p q =
      let l : length w ≡ n = ap length e ∙ length-replicate {A = ℕ} n 0 in
      let z : x ≡ replicate n 0 = p ∙ ap (λ (i : ℕ). replicate i 0) (k ∙ l) in
      let s : rewrote a v u ≡ writing_from (accept_of bytes (replicate n 0) (replicate limit.SEGMENTS 0) (replicate JOIN_POINTS 0)) (replicate m 0) = g ∙ rw (e, f) in
      ap (λ (i : List ℕ). rewrote a i y) z ∙ ap (besides (replicate n 0)) q
      ∙ settle_stages n m (accept_of bytes (replicate n 0) (replicate limit.SEGMENTS 0) (replicate JOIN_POINTS 0)) a v u s ∙ rw (le-ltb n LENGTH (omega arith))
