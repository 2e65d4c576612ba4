-- Every call on a work space that is longer than it must be: as without the words past the fixed length. What finishing in one call leaves behind the live block: Leaving.
use Prim.Native.Nat.{ℕ, zero, suc, ◌+◌, ◌*◌, ◌≤◌, ◌<◌}
use mathlib.Core.Path.{◌≡◌, refl, ap, ◌∙◌, sym, fun_ext}
use mathlib.Core.Bool.{Bool, true, false, cond, not, ◌&&◌, ◌||◌}
use mathlib.Core.List.{List, ◌++◌, append_assoc}
use native.Mathlib.Omega.{arith}
use lib.Dec.{eqb, ltb}
use lib.ListN.{length, set, take, drop, length-append, length-drop, get_or-append}
use lib.Seq.{take-append-le, drop-append-le, set-append_left, paste, length-paste}
use borrow.Author.Tests.{le-ltb, ltb-true}
use Rattle.std.specs.Prelude.{Result, Ok, Err}
use Rattle.job.specs.Limits as limit
use Rattle.job.specs.declared.refusal.Refusal.{Refusal}
use Rattle.job.specs.declared.refusal.Refusal.TheVariants.{OutOfTurn, Crowded, OffTheTable, NoSuch, Loose, Muddled, UnknownName, NoPlace}
use Rattle.store.specs.Field.{pt, rc, ct, X, Y, NEXT, PREV, REC, OWNER, FIRST, MARK, PRESENT, REASON, TAKER, POINTS, RECORDS, BLOCK, STATES, NAMES, LENGTH}
use Rattle.store.specs.States.{word_of_name, is_name, name_at, same_name, copy_at, kept_block}
use Rattle.store.specs.Reason.{JOINED, is_kept}
use Rattle.store.specs.Sound.{recs, ringless, ring_at, is_open}
use Rattle.store.specs.declared.boxed.Sides.{Sides}
use Rattle.store.specs.Words.{Store, view}
use Rattle.store.specs.Named.{records_of}
use Rattle.store.specs.Boxes.{side_at, sides_at, rect_of, ring_box, differs, misboxed}
use Rattle.audit.specs.Tests.{is_in, any_below, reach, reached_by, names_nothing, tests_of}
use Rattle.handed.specs.Handed.{any_misboxed, boxes_tested, kept_twice, names_tested, tested_of, handed_of}
use Rattle.audit.proofs.Agreeing.{passed_sound}
use Rattle.handed.proofs.Handing.{handed_sound}
use Rattle.laying.specs.Lay.{lay_of}
use Rattle.laying.proofs.Deciding.{lay_more, lay_second_lem, lay_behind}
use Rattle.acts.proofs.Beyond.{view_more}
use Rattle.acts.specs.Step.{answer_s}
use Rattle.paths.specs.Wrote.{wrote, build_paths64}
use Rattle.turns.specs.Form.{raised, geometry_of}
use Rattle.audit.specs.Left.{Left, left}
use Rattle.boxed_steps.specs.Leaves.{step_leaves}
use Rattle.finishing.specs.Step.{stepped_as, step_by, step_of}
use Rattle.steps.specs.Live.{any_live}
use Rattle.finishing.specs.Write.{write_by, write_of}
use Rattle.opening.proofs.Behind.{open_rest}
use Rattle.telling.specs.Telling.{reason_at, reason_by, reason_of}
use Rattle.finishing.proofs.Entering.{handed_step, handed_write}
use Rattle.finishing.proofs.Blocks.{leaves_more, call_behind}
use Rattle.states.specs.Places.{keeps_name, is_free, place_of, free_place, keep_place}
use Rattle.states.specs.Calls.{stored, restored, freed, keep_at, back_at, drop_at, keep_by, back_by, drop_by, keep_of, go_back_of, drop_of}
use Rattle.states.proofs.Lowest.{first_same}
use Rattle.states.proofs.Others.{back_behind}
use Rattle.order.specs.Behind.{Behind}
use Rattle.order.proofs.Leaving.{finish_rest}

-- ---- the tests read the store only

-- the points reached, from the store and those reached before
abbrev further : Store → List ℕ → ℕ → List ℕ
further s seen i = reach limit.POINTS (s (pt NEXT)) (s (ct POINTS) 0) seen (s (rc FIRST) i)

reached_same : (w v : List ℕ) → view w ≡ view v → (i : ℕ) → reached_by w i ≡ reached_by v i
unfolding reached_by
reached_same w v e zero = refl
reached_same w v e (suc i) = ap (λ (s : Store). further s (reached_by w i) i) e ∙ ap (λ (l : List ℕ). further (view v) l i) (reached_same w v e i)

-- the tests, by the store and the points reached
abbrev tests_in : Store → (ℕ → List ℕ) → Result (Unit {0}) Refusal
tests_in s reached =
    let any : (ℕ → Bool) → Bool = λ (q : ℕ → Bool). any_below (s (ct POINTS) 0) (λ (k : ℕ). is_in k (reached (s (ct RECORDS) 0)) && q k) in
    let every : (ℕ → Bool) → Bool = λ (q : ℕ → Bool). any_below (s (ct RECORDS) 0) q in
    cond (ltb limit.POINTS (s (ct POINTS) 0) || ltb limit.RECORDS (s (ct RECORDS) 0)) (Err Crowded)
    (cond (any (λ (k : ℕ). ltb (2 * limit.COORDINATE) (s (pt X) k) || ltb (2 * limit.COORDINATE) (s (pt Y) k))) (Err OffTheTable)
    (cond (any (λ (k : ℕ). not (ltb (s (pt NEXT) k) (s (ct POINTS) 0)) || (not (ltb (s (pt PREV) k) (s (ct POINTS) 0)) || not (ltb (s (pt REC) k) (s (ct RECORDS) 0)))) || (every (λ (i : ℕ). names_nothing (s (ct RECORDS) 0) (s (rc OWNER) i) || names_nothing (s (ct POINTS) 0) (s (rc FIRST) i)) || every (λ (i : ℕ). ringless s i && (eqb (s (rc REASON) i) JOINED && not (ltb (s (rc TAKER) i) (s (ct RECORDS) 0)))))) (Err NoSuch)
    (cond (any (λ (k : ℕ). not (eqb (s (pt NEXT) (s (pt PREV) k)) k) || not (eqb (s (pt PREV) (s (pt NEXT) k)) k))) (Err Loose)
    (cond (every (λ (i : ℕ). is_in (s (rc FIRST) i) (reached i)) || (every (λ (i : ℕ). not (ringless s i) && not (is_open s i) && (ltb 4 (s (rc MARK) i) || (ltb (s (rc MARK) i) 4 && not (is_in (s (rc PRESENT) i) (ring_at s i))))) || every (λ (i : ℕ). ringless s i && not (is_kept (s (rc REASON) i))))) (Err Muddled) (Ok tt)))))

tests_are : (w : List ℕ) → tests_of w ≡ tests_in (view w) (reached_by w)
unfolding tests_of
tests_are w = refl

tests_same : (w v : List ℕ) → view w ≡ view v → tests_of w ≡ tests_of v
tests_same w v e =
    tests_are w
    ∙ ap (λ (s : Store). tests_in s (reached_by w)) e
    ∙ ap (tests_in (view v)) (fun_ext (reached_same w v e))
    ∙ sym (tests_are v)

-- ---- and the boxes and names

any_same : (n : ℕ) (q r : ℕ → Bool) → ((k : ℕ) → k < n → q k ≡ r k) → any_below n q ≡ any_below n r
unfolding any_below
any_same zero q r h = refl
any_same (suc n) q r h = ap (λ (b : Bool). b || q n) (any_same n q r (λ k l. h k (omega arith))) ∙ ap (λ (b : Bool). any_below n r || b) (h n (omega arith))

module _ (v m : List ℕ) (n : length v ≡ LENGTH) where
  long : LENGTH ≤ length v
  long = omega arith

  longer : LENGTH ≤ length (v ++ m)
  longer = omega (arith, length-append v m)

  block_long : BLOCK ≤ length v
  block_long = omega arith

  same_name_lem : (p : ℕ) → p < STATES → name_at (v ++ m) p ≡ name_at v p
  same_name_lem p h = get_or-append v m 0 (NAMES + p) (omega arith)

  same_twice : kept_twice (v ++ m) ≡ kept_twice v
  unfolding kept_twice
  same_twice =
      any_same STATES (λ q. any_below q (λ p. same_name (v ++ m) p q)) (λ q. any_below q (λ p. same_name v p q))
      (λ q h. any_same q (λ p. same_name (v ++ m) p q) (λ p. same_name v p q)
      (λ p l. ap (λ (x : ℕ). is_name x && eqb x (name_at (v ++ m) q)) (same_name_lem p (omega arith)) ∙ ap (λ (x : ℕ). is_name (name_at v p) && eqb (name_at v p) x) (same_name_lem q h)))

  names_same : (x : Result (Unit {0}) Refusal) → names_tested (v ++ m) x ≡ names_tested v x
  names_same (Err r) = refl
  names_same (Ok _) = ap (λ (b : Bool). cond b (Err Muddled) (Ok tt)) same_twice

  -- the boxes
  same_sides : (i : ℕ) → i < limit.RECORDS → sides_at (v ++ m) i ≡ sides_at v i
  same_sides i h =
      rw (get_or-append v m 0 (side_at 0 i) (omega arith), get_or-append v m 0 (side_at 1 i) (omega arith), get_or-append v m 0 (side_at 2 i) (omega arith), get_or-append v m 0 (side_at 3 i) (omega arith))

  same_boxes : records_of v ≤ limit.RECORDS → any_misboxed (v ++ m) ≡ any_misboxed v
  unfolding any_misboxed misboxed
  same_boxes few =
      ap (λ (s : Store). any_below (s (ct RECORDS) 0) (λ (i : ℕ). differs (ring_box s i) (rect_of (sides_at (v ++ m) i)))) (view_more m v block_long)
      ∙ any_same (records_of v) (λ (i : ℕ). differs (ring_box (view v) i) (rect_of (sides_at (v ++ m) i))) (λ (i : ℕ). differs (ring_box (view v) i) (rect_of (sides_at v i)))
      (λ i l. ap (λ (b : Sides). differs (ring_box (view v) i) (rect_of b)) (same_sides i (omega arith)))

  boxes_same : (x : Result (Unit {0}) Refusal) → tests_of v ≡ x → boxes_tested (v ++ m) x ≡ boxes_tested v x
  boxes_same (Err r) e = refl
  boxes_same (Ok _) e = ap (λ (b : Bool). cond b (Err Muddled) (Ok tt)) (same_boxes (passed_sound v e).few_records)

  same_tested : tested_of (v ++ m) ≡ tested_of v
  unfolding tested_of
  same_tested =
      names_same (boxes_tested (v ++ m) (tests_of (v ++ m)))
      ∙ ap (λ (x : Result (Unit {0}) Refusal). names_tested v (boxes_tested (v ++ m) x)) (tests_same (v ++ m) v (view_more m v block_long))
      ∙ ap (names_tested v) (boxes_same (tests_of v) refl)

  same_handed : handed_of (v ++ m) ≡ handed_of v
  unfolding handed_of
  same_handed = rw (le-ltb (length (v ++ m)) LENGTH longer, le-ltb (length v) LENGTH long) same_tested

  steps : (i : ℕ) → step_of (v ++ m) i ≡ left (step_of v i).answer ((step_of v i).words ++ m)
  steps i =
      handed_step (v ++ m) i (handed_of v) same_handed
      ∙ by (handed_of v) refl
      ∙ ap (λ (l : Left). left l.answer (l.words ++ m)) (sym (handed_step v i (handed_of v) refl))
    where
      by : (t : Result (Unit {0}) Refusal) → handed_of v ≡ t → step_by t (v ++ m) i ≡ left (step_by t v i).answer ((step_by t v i).words ++ m)
      by (Err r) e = refl
      by (Ok _) e =
          ap (λ (s : Store). left (stepped_as (answer_s (geometry_of s) raised s i)) (step_leaves (answer_s (geometry_of s) raised s i) (v ++ m) i)) (view_more m v block_long)
          ∙ ap (left (stepped_as (answer_s (geometry_of (view v)) raised (view v) i))) (leaves_more v block_long (handed_sound v e).sound i m (answer_s (geometry_of (view v)) raised (view v) i))

  writings : (t : List ℕ) → write_of (v ++ m) t ≡ write_of v t
  writings t =
      handed_write (v ++ m) t (handed_of v) same_handed
      ∙ by (handed_of v)
      ∙ sym (handed_write v t (handed_of v) refl)
    where
      by : (x : Result (Unit {0}) Refusal) → write_by x (v ++ m) t ≡ write_by x v t
      by (Err r) = refl
      by (Ok _) = ap (λ (s : Store). cond (any_live s) (wrote (Err OutOfTurn) t) (build_paths64 s t)) (view_more m v block_long)

  reasons : (i : ℕ) → reason_of (v ++ m) i ≡ reason_of v i
  unfolding reason_of
  reasons i = ap (λ (x : Result (Unit {0}) Refusal). reason_by x (v ++ m) i) same_handed ∙ by (handed_of v)
    where
      by : (x : Result (Unit {0}) Refusal) → reason_by x (v ++ m) i ≡ reason_by x v i
      by (Err r) = refl
      by (Ok _) = ap (λ (s : Store). cond (not (ltb i (recs s)) || any_live s) (Err OutOfTurn) (Ok (reason_at s i))) (view_more m v block_long)

  -- ---- the three calls on kept states

  same_place : (k : ℕ) → place_of (v ++ m) k ≡ place_of v k
  same_place k = first_same (λ p. keeps_name (v ++ m) k p) (λ p. keeps_name v k p) STATES 0 (λ j a l. ap (λ (x : ℕ). eqb x (word_of_name k)) (same_name_lem j (omega arith)))

  same_free : free_place (v ++ m) ≡ free_place v
  same_free = first_same (λ p. is_free (v ++ m) p) (λ p. is_free v p) STATES 0 (λ j a l. ap (λ (x : ℕ). not (is_name x)) (same_name_lem j (omega arith)))

  same_keep : (k : ℕ) → keep_place (v ++ m) k ≡ keep_place v k
  same_keep k = ap (λ (p : ℕ). cond (ltb p STATES) p (free_place (v ++ m))) (same_place k) ∙ ap (cond (ltb (place_of v k) STATES) (place_of v k)) same_free

  copied_more : (p : ℕ) → p < STATES → paste (v ++ m) (copy_at p) (v ++ m) BLOCK ≡ paste v (copy_at p) v BLOCK ++ m
  copied_more p h =
      ap (λ (x : List ℕ). (x ++ take BLOCK (v ++ m)) ++ drop (copy_at p + BLOCK) (v ++ m)) (take-append-le (copy_at p) v m (omega arith))
      ∙ ap (λ (x : List ℕ). (take (copy_at p) v ++ x) ++ drop (copy_at p + BLOCK) (v ++ m)) (take-append-le BLOCK v m (omega arith))
      ∙ ap (λ (x : List ℕ). (take (copy_at p) v ++ take BLOCK v) ++ x) (drop-append-le (copy_at p + BLOCK) v m (omega arith))
      ∙ sym (append_assoc (take (copy_at p) v ++ take BLOCK v) (drop (copy_at p + BLOCK) v) m)

  stored_more : (k p : ℕ) → p < STATES → stored (v ++ m) p k ≡ stored v p k ++ m
  stored_more k p h =
      ap (λ (u : List ℕ). set u (NAMES + p) (word_of_name k)) (copied_more p h)
      ∙ set-append_left (paste v (copy_at p) v BLOCK) m (NAMES + p) (word_of_name k) (omega (arith, length-paste v (copy_at p) v BLOCK (omega arith) (omega arith)))

  restored_more : (p : ℕ) → p < STATES → restored (v ++ m) p ≡ restored v p ++ m
  restored_more p h =
      ap (λ (x : List ℕ). take BLOCK x ++ drop BLOCK (v ++ m)) (drop-append-le (copy_at p) v m (omega arith))
      ∙ ap (λ (x : List ℕ). x ++ drop BLOCK (v ++ m)) (take-append-le BLOCK (drop (copy_at p) v) m (omega (arith, length-drop (copy_at p) v)))
      ∙ ap (λ (x : List ℕ). kept_block v p ++ x) (drop-append-le BLOCK v m (omega arith))
      ∙ sym (append_assoc (kept_block v p) (drop BLOCK v) m)

  freed_more : (p : ℕ) → p < STATES → freed (v ++ m) p ≡ freed v p ++ m
  freed_more p h = set-append_left v m (NAMES + p) 0 (omega arith)

  -- at a place, or refused
  at_place : (p : ℕ) (f : List ℕ → List ℕ) (r : Result (Unit {0}) Refusal) → (p < STATES → f (v ++ m) ≡ f v ++ m) → (b : Bool) → ltb p STATES ≡ b
      → cond b (left (Ok tt) (f (v ++ m))) (left r (v ++ m)) ≡ left (cond b (left (Ok tt) (f v)) (left r v)).answer ((cond b (left (Ok tt) (f v)) (left r v)).words ++ m)
  at_place p f r h true e = ap (left (Ok tt)) (h (ltb-true p STATES e))
  at_place p f r h false e = refl

  keepings : (k : ℕ) → keep_of (v ++ m) k ≡ left (keep_of v k).answer ((keep_of v k).words ++ m)
  unfolding keep_of
  keepings k = ap (λ (x : Result (Unit {0}) Refusal). keep_by x (v ++ m) k) same_handed ∙ by (handed_of v)
    where
      by : (x : Result (Unit {0}) Refusal) → keep_by x (v ++ m) k ≡ left (keep_by x v k).answer ((keep_by x v k).words ++ m)
      by (Err r) = refl
      by (Ok _) = ap (λ (p : ℕ). keep_at (v ++ m) p k) (same_keep k) ∙ at_place (keep_place v k) (λ u. stored u (keep_place v k) k) (Err NoPlace) (stored_more k (keep_place v k)) (ltb (keep_place v k) STATES) refl

  returns : (k : ℕ) → go_back_of (v ++ m) k ≡ left (go_back_of v k).answer ((go_back_of v k).words ++ m)
  unfolding go_back_of
  returns k = ap (λ (x : Result (Unit {0}) Refusal). back_by x (v ++ m) k) same_handed ∙ by (handed_of v)
    where
      by : (x : Result (Unit {0}) Refusal) → back_by x (v ++ m) k ≡ left (back_by x v k).answer ((back_by x v k).words ++ m)
      by (Err r) = refl
      by (Ok _) = ap (back_at (v ++ m)) (same_place k) ∙ at_place (place_of v k) (λ u. restored u (place_of v k)) (Err UnknownName) (restored_more (place_of v k)) (ltb (place_of v k) STATES) refl

  droppings : (k : ℕ) → drop_of (v ++ m) k ≡ left (drop_of v k).answer ((drop_of v k).words ++ m)
  unfolding drop_of
  droppings k = ap (λ (x : Result (Unit {0}) Refusal). drop_by x (v ++ m) k) same_handed ∙ by (handed_of v)
    where
      by : (x : Result (Unit {0}) Refusal) → drop_by x (v ++ m) k ≡ left (drop_by x v k).answer ((drop_by x v k).words ++ m)
      by (Err r) = refl
      by (Ok _) = ap (drop_at (v ++ m)) (same_place k) ∙ at_place (place_of v k) (λ u. freed u (place_of v k)) (Err UnknownName) (freed_more (place_of v k)) (ltb (place_of v k) STATES) refl

  -- ---- laying together

  layings : (x : List ℕ) → lay_of (v ++ m) x ≡ left (lay_of v x).answer ((lay_of v x).words ++ m)
  layings x = lay_more v x m long longer (view_more m v block_long) same_tested

  second_ones : (w : List ℕ) → lay_of w (v ++ m) ≡ lay_of w v
  second_ones w = lay_second_lem w (v ++ m) v longer long (view_more m v block_long) same_sides same_tested

pub behind : Behind
behind =
    record {
      steps = steps;
      keepings = keepings;
      returns = returns;
      droppings = droppings;
      layings = layings;
      writings = writings;
      reasons = reasons;
      second_ones = second_ones;
      by_steps = call_behind;
      by_returns = back_behind;
      by_layings = lay_behind;
      openings = open_rest;
      finishings = finish_rest;
    }
