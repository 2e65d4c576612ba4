-- What holds of a job that was read: its counts are within the limits, and the words say them.
use mathlib.Core.Path.{◌≡◌, refl, sym, ap, ◌∙◌, subst}
use mathlib.Core.Bool.{Bool, true, false, cond}
use mathlib.Core.List.{List, [], ◌∷◌}
use Prim.Native.Nat.{ℕ, zero, suc, ◌+◌, ◌*◌, ◌≤◌}
use native.Mathlib.Omega.{arith}
use lib.Dec.{ltb, eqb}
use lib.ListN.{length, set, drop, length-set}
use Rattle.std.proofs.Common.{Result, Ok, Err}
use Rattle.job.specs.Field.{field_of}
use Rattle.job.specs.Job.{fresh, Within}
use Rattle.job.proofs.Accepted.{within_fresh}
use Rattle.job.specs.declared.Job.{Job}
use Rattle.job.specs.declared.refusal.Refusal.{Refusal}
use Rattle.job.specs.declared.refusal.Refusal.TheVariants.{Strange}
use Rattle.job.specs.declared.field.Field.{Field}
use Rattle.job.specs.declared.field.Field.TheVariants.{Settings, Point, Record, Segment, Join}
use Rattle.store.specs.Field.{BLOCK, ct, SETTINGS, POINTS, RECORDS, pt, X, Y, NEXT, PREV, REC, Z}
use Rattle.store.specs.Words.{write}
use Rattle.store.proofs.Storing.{length_writes, view_writes}
use Rattle.reading.specs.Fill.{ReadEnd, end, placed, taken, turn_of, follow, run, fill_of, record_read}
use Rattle.reading.specs.Read.{counted, read_of}
use Rattle.reading.specs.Alike.{Counts}
use Rattle.reading.proofs.Going.{After, moves}

-- no list changes its length
abbrev pub Kept : List ℕ → List ℕ → List ℕ → ReadEnd → Type 0
Kept w ss js (end o w' ss' js') = (length w' ≡ length w) × (length ss' ≡ length ss) × (length js' ≡ length js)

module _ (j : Job) (w ss js : List ℕ) where
  placed_kept : (f : Field) (n : ℕ) → Kept w ss js (placed f n j w ss js)
  placed_kept (Settings b) n = (refl, refl, refl)
  placed_kept (Point x y nx pv r z) n =
      (length_writes w (write (pt X) j.points x ∷ write (pt Y) j.points y ∷ write (pt NEXT) j.points nx ∷ write (pt PREV) j.points pv ∷ write (pt REC) j.points r ∷ write (pt Z) j.points z ∷ []), refl, refl)
  placed_kept (Record f o p) n =
      (length_writes w (record_read j.records f o p), refl, refl)
  placed_kept (Segment p) n = (refl, length-set ss j.segments p, refl)
  placed_kept (Join a b) n = (refl, refl, length-set (set js (2 * j.joins) a) (2 * j.joins + 1) b ∙ length-set js (2 * j.joins) a)

  taken_kept : (r : Result (Field × ℕ) Refusal) → Kept w ss js (taken r j w ss js)
  taken_kept (Ok (f, n)) = placed_kept f n
  taken_kept (Err x) = (refl, refl, refl)

  turn_kept : (bytes : List ℕ) → Kept w ss js (turn_of bytes j w ss js)
  unfolding turn_of
  turn_kept bytes = taken_kept (field_of j (drop j.at bytes))

-- what a run keeps: within the limits, and every length
pub record Ended (w ss js : List ℕ) (j : Job) (w' ss' js' : List ℕ) : Type 0 where
  pub within : Within j
  pub words : length w' ≡ length w
  pub segments : length ss' ≡ length ss
  pub joins : length js' ≡ length js

module _ (bytes : List ℕ) (n : Job) (v ts ks : List ℕ) where
  stays : (w ss js : List ℕ) (j : Job) → Within j → end (Ok j) w ss js ≡ end (Ok n) v ts ks → Ended w ss js n v ts ks
  stays w ss js j i e =
      let a : j ≡ n = cc in
      let b : w ≡ v = cc in
      let c : ss ≡ ts = cc in
      let d : js ≡ ks = cc in
      record { within = subst Within a i; words = ap length (sym b); segments = ap length (sym c); joins = ap length (sym d) }

  run_ended : (k : ℕ) (j : Job) (w ss js : List ℕ) → Within j → run k bytes j w ss js ≡ end (Ok n) v ts ks → Ended w ss js n v ts ks
  unfolding run
  run_ended zero j w ss js i e = absurd (let z : ◌≡◌ {A = ℕ} 0 1 = cc in omega arith)
  run_ended (suc k) j w ss js i e =
      by (ltb j.at (length bytes)) (turn_of bytes j w ss js) (moves bytes j w ss js) (turn_kept j w ss js bytes) e
      (λ m u us ls q. run_ended k m u us ls q)
    where
      on : (T : ReadEnd) → After j T → Kept w ss js T → follow (run k bytes) T ≡ end (Ok n) v ts ks → ((m : Job) (u us ls : List ℕ) → Within m → run k bytes m u us ls ≡ end (Ok n) v ts ks → Ended u us ls n v ts ks) → Ended w ss js n v ts ks
      on (end (Ok m) u us ls) a b d f =
          let r = f m u us ls (a.within i) d in
          record { within = r.within; words = r.words ∙ b.0; segments = r.segments ∙ b.1; joins = r.joins ∙ b.2 }
      on (end (Err x) u us ls) a b d f = absurd (let z : ◌≡◌ {A = ℕ} 0 1 = cc in omega arith)

      by : (t : Bool) (T : ReadEnd) → After j T → Kept w ss js T → cond t (follow (run k bytes) T) (end (Ok j) w ss js) ≡ end (Ok n) v ts ks → ((m : Job) (u us ls : List ℕ) → Within m → run k bytes m u us ls ≡ end (Ok n) v ts ks → Ended u us ls n v ts ks) → Ended w ss js n v ts ks
      by true T a b d f = on T a b d f
      by false T a b d f = stays w ss js j i d

  pub filled : (w ss js : List ℕ) → fill_of bytes w ss js ≡ end (Ok n) v ts ks → Ended w ss js n v ts ks
  unfolding fill_of
  filled w ss js e = by (eqb (length bytes) 0) e
    where
      by : (t : Bool) → cond t (end (Err Strange) w ss js) (run (suc (length bytes)) bytes fresh w ss js) ≡ end (Ok n) v ts ks → Ended w ss js n v ts ks
      by true d = absurd (let z : ◌≡◌ {A = ℕ} 0 1 = cc in omega arith)
      by false d = run_ended (suc (length bytes)) fresh w ss js within_fresh d

-- the words say the counts
pub counts : (w : List ℕ) (j : Job) → BLOCK ≤ length w → Within j → Counts j (counted j w)
counts w j l i =
    let e = view_writes w (write (ct SETTINGS) 0 j.bits ∷ write (ct POINTS) 0 j.points ∷ write (ct RECORDS) 0 j.records ∷ []) l (omega arith, (omega arith, (omega arith, tt))) in
    record { within = i; settings = ap (λ s. s (ct SETTINGS) 0) e; points = ap (λ s. s (ct POINTS) 0) e; records = ap (λ s. s (ct RECORDS) 0) e }

-- for the code of `read_job`
pub may_count : (bytes w ss js v ts ks : List ℕ) (r : Result Job Refusal) (j : Job) → end r v ts ks ≡ fill_of bytes w ss js → r ≡ Ok j → Within j
may_count bytes w ss js v ts ks r j e h = (filled bytes j v ts ks w ss js (cc)).within

module _ (bytes w ss js v ts ks : List ℕ) (r : Result Job Refusal) (e : end r v ts ks ≡ fill_of bytes w ss js) where
  pub read_on : (j : Job) (v' : List ℕ) → r ≡ Ok j → v' ≡ counted j v → end (Ok j) v' ts ks ≡ read_of bytes w ss js
  unfolding read_of
  read_on j v' h a = rw (a, ← e, h)

  pub read_refused : (x : Refusal) → r ≡ Err x → end (Err x) v ts ks ≡ read_of bytes w ss js
  unfolding read_of
  read_refused x h = rw (← e, h)
