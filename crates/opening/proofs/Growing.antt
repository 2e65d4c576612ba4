-- A joins list with more places after it: rows 1 to 8 leave the same, and the same joins are made.
use Prim.Native.Nat.{ℕ, zero, suc, ◌+◌, ◌*◌, ◌≤◌, ◌<◌}
use mathlib.Core.Path.{◌≡◌, refl, ap, ◌∙◌, sym, subst}
use mathlib.Core.Bool.{Bool, true, false, cond, ◌||◌}
use mathlib.Core.List.{List, [], ◌∷◌, ◌++◌}
use native.Mathlib.Omega.{arith}
use lib.Dec.{eqb, leb, ltb}
use native.Mathlib.Numerals.{add-one}
use lib.ListN.{length, get_or, set, take, drop, replicate, length-set, get_or-append}
use lib.Seq.{set-append_left, take-length}
use Rattle.std.specs.Prelude.{Result}
use Rattle.std.proofs.Common.{Ok, Err}
use Rattle.job.specs.Limits as limit
use Rattle.job.specs.Field.{field_of}
use Rattle.job.specs.Job.{fresh, past}
use Rattle.job.specs.declared.Job.{Job}
use Rattle.job.proofs.Accepted.{accepted}
use Rattle.job.specs.declared.field.Field.{Field}
use Rattle.job.specs.declared.field.Field.TheVariants.{Settings, Point, Record, Segment, Join}
use Rattle.job.specs.declared.refusal.Refusal.{Refusal}
use Rattle.joins.specs.declared.JoinError.TheVariants.{Knot, Full}
use Rattle.store.specs.Named.{points_of}
use Rattle.reading.specs.Fill.{ReadEnd, end, put_join, placed, taken, turn_of, follow, run, fill_of}
use Rattle.reading.specs.Needs.{Room}
use Rattle.reading.specs.Read.{counted, with_counts, read_of}
use Rattle.reading.proofs.Placing.{has_room}
use Rattle.reading.proofs.Counted.{filled}
use Rattle.audit.specs.Tests.{any_below}
use Rattle.rows.specs.Rows.{rows_of, unnamed, on_open}
use Rattle.accepting.specs.Accept.{answer, judged, accept_of}
use Rattle.job.specs.declared.refusal.Refusal.{Refusal}
use Rattle.job.specs.declared.refusal.Refusal.TheVariants.{Strange}
use Rattle.opening.specs.Open.{JOIN_POINTS}
use Rattle.joins.specs.Join as join
use Rattle.joins.specs.Join.{join_of, joins_from, process_horz_joins}

-- the same, with z after the joins list
abbrev pub grow : List ℕ → ReadEnd → ReadEnd
grow z (end o w ss js) = end o w ss (js ++ z)

any_below_lem : (n : ℕ) (q r : ℕ → Bool) → ((k : ℕ) → k < n → q k ≡ r k) → any_below n q ≡ any_below n r
unfolding any_below
any_below_lem zero q r h = refl
any_below_lem (suc n) q r h = ap (λ (b : Bool). b || q n) (any_below_lem n q r (λ k l. h k (omega arith))) ∙ ap (λ (b : Bool). any_below n r || b) (h n (omega arith))

module _ (z : List ℕ) where
  -- ---- reading
  module _ (j : Job) (w ss js : List ℕ) (long : 2 * limit.JOINS ≤ length js) where
    placed_grown : (f : Field) (n : ℕ) → Room f j → placed f n j w ss (js ++ z) ≡ grow z (placed f n j w ss js)
    placed_grown (Settings b) n r = refl
    placed_grown (Point x y nx pv rec z) n r = refl
    placed_grown (Record f o p) n r = refl
    placed_grown (Segment p) n r = refl
    placed_grown (Join a b) n r =
        let i = j.joins in
        let e : put_join i a b (js ++ z) ≡ put_join i a b js ++ z = ap (λ (l : List ℕ). set l (2 * i + 1) b) (set-append_left js z (2 * i) a (omega arith)) ∙ set-append_left (set js (2 * i) a) z (2 * i + 1) b (omega (arith, length-set js (2 * i) a)) in
        ap (end (Ok (past (Join a b) n j)) w ss) e

    turn_grown : (bytes : List ℕ) → turn_of bytes j w ss (js ++ z) ≡ grow z (turn_of bytes j w ss js)
    unfolding turn_of
    turn_grown bytes = by (field_of j (drop j.at bytes)) refl
      where
        by : (r : Result (Field × ℕ) Refusal) → field_of j (drop j.at bytes) ≡ r → taken r j w ss (js ++ z) ≡ grow z (taken r j w ss js)
        by (Ok (f, n)) e = placed_grown f n (has_room j (drop j.at bytes) f n (accepted j (drop j.at bytes) f n e))
        by (Err x) e = refl

  -- the list is as long after a turn
  abbrev JoinsAs : ℕ → ReadEnd → Type 0
  JoinsAs n (end o w ss js) = length js ≡ n

  turn_long : (bytes : List ℕ) (j : Job) (w ss js : List ℕ) → JoinsAs (length js) (turn_of bytes j w ss js)
  unfolding turn_of
  turn_long bytes j w ss js = by (field_of j (drop j.at bytes))
    where
      by : (r : Result (Field × ℕ) Refusal) → JoinsAs (length js) (taken r j w ss js)
      by (Ok (Settings b, n)) = refl
      by (Ok (Point x y nx pv rec z, n)) = refl
      by (Ok (Record f o p, n)) = refl
      by (Ok (Segment p, n)) = refl
      by (Ok (Join a b, n)) = length-set (set js (2 * j.joins) a) (2 * j.joins + 1) b ∙ length-set js (2 * j.joins) a
      by (Err x) = refl

  run_grown : (k : ℕ) (bytes : List ℕ) (j : Job) (w ss js : List ℕ) → 2 * limit.JOINS ≤ length js → run k bytes j w ss (js ++ z) ≡ grow z (run k bytes j w ss js)
  unfolding run
  run_grown zero bytes j w ss js h = refl
  run_grown (suc k) bytes j w ss js h =
      ap (λ (T : ReadEnd). cond (ltb j.at (length bytes)) (follow (run k bytes) T) (end (Ok j) w ss (js ++ z))) (turn_grown j w ss js h bytes)
      ∙ by (ltb j.at (length bytes)) (turn_of bytes j w ss js) (turn_long bytes j w ss js) (λ m u us ls l. run_grown k bytes m u us ls l)
    where
      by : (t : Bool) (T : ReadEnd) → JoinsAs (length js) T → ((m : Job) (u us ls : List ℕ) → 2 * limit.JOINS ≤ length ls → run k bytes m u us (ls ++ z) ≡ grow z (run k bytes m u us ls))
          → cond t (follow (run k bytes) (grow z T)) (end (Ok j) w ss (js ++ z)) ≡ grow z (cond t (follow (run k bytes) T) (end (Ok j) w ss js))
      by true (end (Ok m) u us ls) l f = f m u us ls (omega arith)
      by true (end (Err x) u us ls) l f = refl
      by false T l f = refl

  fill_grown : (bytes w ss js : List ℕ) → 2 * limit.JOINS ≤ length js → fill_of bytes w ss (js ++ z) ≡ grow z (fill_of bytes w ss js)
  unfolding fill_of
  fill_grown bytes w ss js h = by (eqb (length bytes) 0) _ _ (run_grown (suc (length bytes)) bytes fresh w ss js h)
    where
      by : (t : Bool) (A B : ReadEnd) → A ≡ grow z B → cond t (end (Err Strange) w ss (js ++ z)) A ≡ grow z (cond t (end (Err Strange) w ss js) B)
      by true A B e = refl
      by false A B e = e

  -- ---- rows 4 to 8
  module _ (js : List ℕ) (n : ℕ) (h : 2 * n ≤ length js) where
    rows_grown : (w ss : List ℕ) (m : ℕ) → rows_of w ss m (js ++ z) n ≡ rows_of w ss m js n
    unfolding rows_of
    rows_grown w ss m =
        let u : unnamed w (js ++ z) (2 * n) ≡ unnamed w js (2 * n) = any_below_lem (2 * n) _ _ (λ k l. ap (leb (points_of w)) (get_or-append js z 0 k (omega arith))) in
        let o : any_below (2 * n) (λ i. on_open w (get_or (js ++ z) i 0)) ≡ any_below (2 * n) (λ i. on_open w (get_or js i 0)) = any_below_lem (2 * n) _ _ (λ k l. ap (on_open w) (get_or-append js z 0 k (omega arith))) in
        rw (u, o)

  pub accept_grown : (bytes w ss js : List ℕ) → 2 * limit.JOINS ≤ length js → accept_of bytes w ss (js ++ z) ≡ grow z (accept_of bytes w ss js)
  unfolding accept_of read_of
  accept_grown bytes w ss js h = ap (λ (T : ReadEnd). judged (with_counts T)) (fill_grown bytes w ss js h) ∙ by (fill_of bytes w ss js) refl
    where
      by : (T : ReadEnd) → fill_of bytes w ss js ≡ T → judged (with_counts (grow z T)) ≡ grow z (judged (with_counts T))
      by (end (Ok j) v ts ks) e =
          let t = filled bytes j v ts ks w ss js e in
          ap (λ (x : Result (Unit {0}) Refusal). end (answer x j) (counted j v) ts (ks ++ z)) (rows_grown ks j.joins (omega (arith, t.joins, t.within.joins)) (counted j v) ts j.segments)
      by (end (Err x) v ts ks) e = refl

  -- ---- the joins
  joins_from_lem : (f i : ℕ) (js w : List ℕ) → 2 * (i + f) ≤ length js → joins_from f i (js ++ z) w ≡ joins_from f i js w
  unfolding joins_from
  joins_from_lem zero i js w h = refl
  joins_from_lem (suc f) i js w h =
      ap (λ (a : ℕ). join.follow (joins_from f (i + 1) (js ++ z)) (join_of w a (get_or (js ++ z) (2 * i + 1) 0))) (get_or-append js z 0 (2 * i) (omega arith))
      ∙ ap (λ (c : ℕ). join.follow (joins_from f (i + 1) (js ++ z)) (join_of w (get_or js (2 * i) 0) c)) (get_or-append js z 0 (2 * i + 1) (omega arith))
      ∙ by (join_of w (get_or js (2 * i) 0) (get_or js (2 * i + 1) 0)) (λ x. joins_from_lem f (i + 1) js x (omega arith))
    where
      by : (T : join.JoinEnd) → ((x : List ℕ) → joins_from f (i + 1) (js ++ z) x ≡ joins_from f (i + 1) js x) → join.follow (joins_from f (i + 1) (js ++ z)) T ≡ join.follow (joins_from f (i + 1) js) T
      by (join.end (Ok tt) x) r = r x
      by (join.end (Err Knot) x) r = refl
      by (join.end (Err Full) x) r = refl

  pub joins_grown : (n : ℕ) (js w : List ℕ) → 2 * n ≤ length js → process_horz_joins n (js ++ z) w ≡ process_horz_joins n js w
  joins_grown n js w h = joins_from_lem n 0 js w (omega arith)

-- ---- one list laid over the beginning of another
lay_suc : (i : ℕ) (a b : List ℕ) → i < length a → i < length b → set (take i a ++ drop i b) i (get_or a i 0) ≡ take (suc i) a ++ drop (suc i) b
lay_suc i [] b h k = absurd (omega arith)
lay_suc i (x ∷ a) [] h k = absurd (omega arith)
lay_suc zero (x ∷ a) (y ∷ b) h k = refl
lay_suc (suc i) (x ∷ a) (y ∷ b) h k = ap (λ (l : List ℕ). x ∷ l) (lay_suc i a b (omega arith) (omega arith))

pub lay_more : (i : ℕ) (a b : List ℕ) → i < length a → i < length b → set (take i a ++ drop i b) i (get_or a i 0) ≡ take (i + 1) a ++ drop (i + 1) b
lay_more i a b h k = subst (λ (n : ℕ). set (take i a ++ drop i b) i (get_or a i 0) ≡ take n a ++ drop n b) (sym (add-one i)) (lay_suc i a b h k)

pub lay_all : (i : ℕ) (a b c : List ℕ) → c ≡ take i a ++ drop i b → i ≡ length a → c ≡ a ++ drop (length a) b
lay_all i a b c e h = e ∙ ap (λ (n : ℕ). take n a ++ drop n b) h ∙ ap (λ (l : List ℕ). l ++ drop (length a) b) (take-length a)

-- over zeros: they are more places
pub laid_is : (a ks : List ℕ) → length a ≡ 2 * limit.JOINS → ks ≡ a ++ drop (length a) (replicate JOIN_POINTS 0) → ks ≡ a ++ replicate limit.POINTS 0
laid_is a ks h e = e ∙ ap (λ (n : ℕ). a ++ drop n (replicate JOIN_POINTS 0)) h
