-- Rows 1 to 5: reading gives 1 to 3, and what was in the words and lists before has no say.
use mathlib.Core.Path.{◌≡◌, refl, sym, ap, ◌∙◌, subst}
use mathlib.Core.Bool.{Bool, true, false, cond, ◌||◌}
use mathlib.Core.List.{List}
use Prim.Native.Nat.{ℕ, zero, suc, ◌*◌, ◌<◌, ◌≤◌}
use native.Mathlib.Omega.{arith}
use lib.Dec.{ltb, leb, eqb}
use lib.ListN.{length, get_or, drop, replicate}
use Rattle.std.specs.Prelude.{Result}
use Rattle.std.proofs.Common.{Ok, Err}
use Rattle.job.specs.Limits as limit
use Rattle.job.specs.Refusal.{number_of}
use Rattle.job.specs.Field.{tag_of, value_of, kind_of, field_in, torn_header, strange_tag, torn_value, strange_bits, crowded, body_of, field_of}
use Rattle.job.specs.Job.{fresh}
use Rattle.job.specs.declared.Job.{Job}
use Rattle.job.specs.declared.field.Field.{Field}
use Rattle.job.specs.declared.field.Field.TheVariants.{Settings, Point, Record, Segment, Join}
use Rattle.job.specs.declared.refusal.Refusal.{Refusal}
use Rattle.job.specs.declared.refusal.Refusal.TheVariants.{Torn, Strange, Crowded, OffTheTable, NoSuch, Loose, Muddled, OpenEdge}
use Rattle.store.specs.Field.{BLOCK, pt, X, Y, NEXT, PREV, REC}
use Rattle.store.specs.Words.{view}
use Rattle.store.specs.Named.{points_of, records_of, next_of, prev_of, rec_of, owner_of, first_of}
use Rattle.reading.specs.Fill.{ReadEnd, end, placed, taken, turn_of, follow, run, fill_of}
use Rattle.reading.specs.Needs.{Space}
use Rattle.reading.specs.Read.{with_counts, read_of}
use Rattle.reading.specs.Alike.{SameJob, SameEnd, Counts}
use Rattle.reading.proofs.Ignoring.{ignores}
use Rattle.audit.specs.Tests.{any_below, off_table, no_such, no_such_of, names_nothing}
use Rattle.rows.specs.Rows.{off_the_table, unnamed, no_such_number, loose_link, muddled, open_edge, rows_of}
use Rattle.rows.specs.Found.{first_rows}
use Rattle.accepting.specs.Accept.{answer, judged, accept_of}
use Rattle.accepting.proofs.Accepting.{read_whole}
use Rattle.mending.specs.Mend.{checked, checked_in, checked_of}
use Rattle.mending.specs.Mends.{outcome_of, acceptance, passes_rows}
use Rattle.mending.proofs.Checking.{space}
use Rattle.mending.proofs.Passing.{Passes, passed_checked, zeros_long}

-- ---- reading refuses by rows 1, 2 and 3 only
abbrev Low : ReadEnd → Type 0
Low (end (Ok j) w ss js) = Unit {0}
Low (end (Err x) w ss js) = number_of x ≤ 3

abbrev LowField : Result (Field × ℕ) Refusal → Type 0
LowField (Ok (f, n)) = Unit {0}
LowField (Err x) = number_of x ≤ 3

field_low : (j : Job) (s : List ℕ) → LowField (field_of j s)
unfolding field_of body_of
field_low j s = go (torn_header s) (strange_tag j.last (tag_of s)) (torn_value (kind_of (tag_of s)) s) (strange_bits (field_in (kind_of (tag_of s)) (value_of s))) (crowded (kind_of (tag_of s)) j) (field_in (kind_of (tag_of s)) (value_of s)) _
  where
    go : (a b c d e : Bool) (f : Field) (n : ℕ)
        → LowField (cond a (Err Torn) (cond b (Err Strange) (cond c (Err Torn) (cond d (Err Strange) (cond e (Err Crowded) (Ok (f, n)))))))
    go true b c d e f n = omega arith
    go false true c d e f n = omega arith
    go false false true d e f n = omega arith
    go false false false true e f n = omega arith
    go false false false false true f n = omega arith
    go false false false false false f n = tt

placed_low : (f : Field) (n : ℕ) (j : Job) (w ss js : List ℕ) → Low (placed f n j w ss js)
placed_low (Settings bits) n j w ss js = tt
placed_low (Point x y next prev rec z) n j w ss js = tt
placed_low (Record flags owner first) n j w ss js = tt
placed_low (Segment p) n j w ss js = tt
placed_low (Join a b) n j w ss js = tt

taken_low : (r : Result (Field × ℕ) Refusal) (j : Job) (w ss js : List ℕ) → LowField r → Low (taken r j w ss js)
taken_low (Ok (f, n)) j w ss js h = placed_low f n j w ss js
taken_low (Err x) j w ss js h = h

follow_low : (f : Job → List ℕ → List ℕ → List ℕ → ReadEnd) → ((j : Job) (w ss js : List ℕ) → Low (f j w ss js)) → (e : ReadEnd) → Low e → Low (follow f e)
follow_low f g (end (Ok j) w ss js) h = g j w ss js
follow_low f g (end (Err x) w ss js) h = h

run_low : (k : ℕ) (bytes : List ℕ) (j : Job) (w ss js : List ℕ) → Low (run k bytes j w ss js)
unfolding run turn_of
run_low zero bytes j w ss js = omega arith
run_low (suc k) bytes j w ss js =
    go (ltb j.at (length bytes)) (follow (run k bytes) (turn_of bytes j w ss js))
    (follow_low (run k bytes) (run_low k bytes) (turn_of bytes j w ss js) (taken_low (field_of j (drop j.at bytes)) j w ss js (field_low j (drop j.at bytes))))
  where
    go : (b : Bool) (e : ReadEnd) → Low e → Low (cond b e (end (Ok j) w ss js))
    go true e h = h
    go false e h = tt

fill_low : (bytes w ss js : List ℕ) → Low (fill_of bytes w ss js)
unfolding fill_of
fill_low bytes w ss js = go (eqb (length bytes) 0) (run (suc (length bytes)) bytes fresh w ss js) (run_low (suc (length bytes)) bytes fresh w ss js)
  where
    go : (b : Bool) (e : ReadEnd) → Low e → Low (cond b (end (Err Strange) w ss js) e)
    go true e h = omega arith
    go false e h = h

pub read_low : (bytes w ss js : List ℕ) (x : Refusal) (v ts ks : List ℕ) → read_of bytes w ss js ≡ end (Err x) v ts ks → number_of x ≤ 3
unfolding read_of
read_low bytes w ss js x v ts ks e = subst Low e (go (fill_of bytes w ss js) (fill_low bytes w ss js))
  where
    go : (e : ReadEnd) → Low e → Low (with_counts e)
    go (end (Ok j) w ss js) h = tt
    go (end (Err x) w ss js) h = h

-- ---- the verdict of rows 1 to 5
abbrev verdict_in : ReadEnd → Result (Unit {0}) Refusal
verdict_in (end (Ok j) w ss js) = first_rows w ss j.segments js j.joins
verdict_in (end (Err r) w ss js) = Err r

any_below_lem : (n : ℕ) (q r : ℕ → Bool) → ((k : ℕ) → k < n → q k ≡ r k) → any_below n q ≡ any_below n r
unfolding any_below
any_below_lem zero q r h = refl
any_below_lem (suc n) q r h = rw (any_below_lem n q r (λ k l. h k (omega arith)), h n (omega arith))

-- of the same job in two work spaces
module _ (j : Job) (w w' ss ss' js js' : List ℕ) (c : Counts j w) (c' : Counts j w') (s : SameJob j w w' ss ss' js js') where
  points_same : points_of w ≡ points_of w'
  points_same = c.points ∙ sym c'.points

  records_same : records_of w ≡ records_of w'
  records_same = c.records ∙ sym c'.records

  four_same : off_the_table w ≡ off_the_table w'
  four_same = any_below_lem (points_of w) (off_table w) (off_table w') (λ k l. each k (omega (arith, l, c.points))) ∙ ap (λ (n : ℕ). any_below n (off_table w')) points_same
    where
      each : (k : ℕ) → k < j.points → off_table w k ≡ off_table w' k
      each k h =
          ap (λ (a : ℕ). ltb (2 * limit.COORDINATE) a || ltb (2 * limit.COORDINATE) (view w (pt Y) k)) (sym (s.points X k h))
          ∙ ap (λ (a : ℕ). ltb (2 * limit.COORDINATE) (view w' (pt X) k) || ltb (2 * limit.COORDINATE) a) (sym (s.points Y k h))

  points_five : any_below (points_of w) (no_such w) ≡ any_below (points_of w') (no_such w')
  points_five = any_below_lem (points_of w) (no_such w) (no_such w') (λ k l. each k (omega (arith, l, c.points))) ∙ ap (λ (n : ℕ). any_below n (no_such w')) points_same
    where
      each : (k : ℕ) → k < j.points → no_such w k ≡ no_such w' k
      each k h =
          let a : next_of w k ≡ next_of w' k = sym (s.points NEXT k h) in
          let b : prev_of w k ≡ prev_of w' k = sym (s.points PREV k h) in
          let d : rec_of w k ≡ rec_of w' k = sym (s.points REC k h) in
          cc (a, b, d, points_same, records_same)

  records_five : any_below (records_of w) (no_such_of w) ≡ any_below (records_of w') (no_such_of w')
  records_five = any_below_lem (records_of w) (no_such_of w) (no_such_of w') (λ k l. each k (omega (arith, l, c.records))) ∙ ap (λ (n : ℕ). any_below n (no_such_of w')) records_same
    where
      each : (k : ℕ) → k < j.records → no_such_of w k ≡ no_such_of w' k
      each k h =
          ap (λ (a : ℕ). names_nothing a (owner_of w k) || names_nothing (points_of w) (first_of w k)) records_same
          ∙ ap (λ (a : ℕ). names_nothing (records_of w') (owner_of w k) || names_nothing a (first_of w k)) points_same
          ∙ ap (λ (a : ℕ). names_nothing (records_of w') a || names_nothing (points_of w') (first_of w k)) (sym (s.owners k h))
          ∙ ap (λ (a : ℕ). names_nothing (records_of w') (owner_of w' k) || names_nothing (points_of w') a) (sym (s.firsts k h))

  list_five : (m : ℕ) (l l' : List ℕ) → ((i : ℕ) → i < m → get_or l' i 0 ≡ get_or l i 0) → unnamed w l m ≡ unnamed w' l' m
  list_five m l l' f = any_below_lem m (λ i. leb (points_of w) (get_or l i 0)) (λ i. leb (points_of w') (get_or l' i 0)) (λ i h. ap (λ (a : ℕ). leb a (get_or l i 0)) points_same ∙ ap (leb (points_of w')) (sym (f i h)))

  five_same : no_such_number w ss j.segments js j.joins ≡ no_such_number w' ss' j.segments js' j.joins
  five_same =
      let d = list_five j.segments ss ss' s.segments in
      let e = list_five (2 * j.joins) js js' s.joins in
      cc (points_five, records_five, d, e)

  first_same : first_rows w ss j.segments js j.joins ≡ first_rows w' ss' j.segments js' j.joins
  first_same =
      ap (λ (a : Bool). cond a (Err OffTheTable) (cond (no_such_number w ss j.segments js j.joins) (Err NoSuch) (Ok tt))) four_same
      ∙ ap (λ (a : Bool). cond (off_the_table w') (Err OffTheTable) (cond a (Err NoSuch) (Ok tt))) five_same

module _ (bytes w w' ss ss' js js' : List ℕ) (s : Space w ss js) (s' : Space w' ss' js') where
  same_verdict : verdict_in (read_of bytes w ss js) ≡ verdict_in (read_of bytes w' ss' js')
  same_verdict = by (read_of bytes w ss js) (read_of bytes w' ss' js') refl refl ((ignores bytes).same w w' ss ss' js js' s s')
    where
      by : (T U : ReadEnd) → read_of bytes w ss js ≡ T → read_of bytes w' ss' js' ≡ U → SameEnd T U → verdict_in T ≡ verdict_in U
      by (end (Ok j) v ts ks) (end (Ok j') v' ts' ks') e f (i, a) =
          let c = (read_whole bytes w ss js s j v ts ks e).counts in
          let c' = (read_whole bytes w' ss' js' s' j' v' ts' ks' f).counts in
          first_same j v v' ts ts' ks ks' c (subst (λ (x : Job). Counts x v') i c') a
          ∙ ap (λ (x : Job). first_rows v' ts' x.segments ks' x.joins) (sym i)
      by (end (Ok j) v ts ks) (end (Err r) v' ts' ks') e f a = absurd a
      by (end (Err r) v ts ks) (end (Ok j) v' ts' ks') e f a = absurd a
      by (end (Err r) v ts ks) (end (Err r') v' ts' ks') e f a = ap Err (sym a)

-- ---- it is acceptance's
accept_refused : (T : ReadEnd) (r : Refusal) → verdict_in T ≡ Err r → outcome_of (judged T) ≡ Err r
unfolding rows_of
accept_refused (end (Ok j) w ss js) r e = go (off_the_table w) (no_such_number w ss j.segments js j.joins) (cond (loose_link w) (Err Loose) (cond (muddled w) (Err Muddled) (cond (open_edge w ss j.segments js j.joins) (Err OpenEdge) (Ok tt)))) e
  where
    go : (a b : Bool) (z : Result (Unit {0}) Refusal) → cond a (Err OffTheTable) (cond b (Err NoSuch) (Ok (tt {0}))) ≡ Err r → answer (cond a (Err OffTheTable) (cond b (Err NoSuch) z)) j ≡ Err r
    go true b z d = ap Err (let y : OffTheTable ≡ r = cc (d) in y)
    go false true z d = ap Err (let y : NoSuch ≡ r = cc (d) in y)
    go false false z d = absurd (let y : ◌≡◌ {A = ℕ} 0 1 = cc in omega arith)
accept_refused (end (Err x) w ss js) r e = ap Err (let y : x ≡ r = cc (e) in y)

accept_passed : (T : ReadEnd) → verdict_in T ≡ Ok tt → passes_rows 5 (outcome_of (judged T)) ≡ true
unfolding rows_of
accept_passed (end (Ok j) w ss js) e = go (off_the_table w) (no_such_number w ss j.segments js j.joins) (loose_link w) (muddled w) (open_edge w ss j.segments js j.joins) e
  where
    go : (a b c d f : Bool) → cond a (Err OffTheTable) (cond b (Err NoSuch) (Ok tt)) ≡ Ok (tt {0})
        → passes_rows 5 (answer (cond a (Err OffTheTable) (cond b (Err NoSuch) (cond c (Err Loose) (cond d (Err Muddled) (cond f (Err OpenEdge) (Ok tt)))))) j) ≡ true
    go true b c d f e = absurd (let y : ◌≡◌ {A = ℕ} 0 1 = cc in omega arith)
    go false true c d f e = absurd (let y : ◌≡◌ {A = ℕ} 0 1 = cc in omega arith)
    go false false true d f e = refl
    go false false false true f e = refl
    go false false false false true e = refl
    go false false false false false e = refl
accept_passed (end (Err x) w ss js) e = absurd (let y : ◌≡◌ {A = ℕ} 0 1 = cc in omega arith)

low_verdict : (T : ReadEnd) (r : Refusal) → Low T → verdict_in T ≡ Err r → number_of r ≤ 5
low_verdict (end (Ok j) w ss js) r h e = go (off_the_table w) (no_such_number w ss j.segments js j.joins) e
  where
    is : (x : Refusal) → number_of x ≤ 5 → x ≡ r → number_of r ≤ 5
    is x l d = subst (λ (y : Refusal). number_of y ≤ 5) d l

    go : (a b : Bool) → cond a (Err OffTheTable) (cond b (Err NoSuch) (Ok (tt {0}))) ≡ Err r → number_of r ≤ 5
    go true b d = is OffTheTable (omega arith) (let y : OffTheTable ≡ r = cc (d) in y)
    go false true d = is NoSuch (omega arith) (let y : NoSuch ≡ r = cc (d) in y)
    go false false d = absurd (let y : ◌≡◌ {A = ℕ} 0 1 = cc in omega arith)
low_verdict (end (Err x) w ss js) r h e = let y : x ≡ r = cc (e) in subst (λ (z : Refusal). number_of z ≤ 5) y (omega arith)

-- ---- for the mender, whose words and lists are zeros
module _ (bytes : List ℕ) where
  abbrev read : ReadEnd
  read = read_of bytes (replicate BLOCK 0) (replicate limit.SEGMENTS 0) (replicate (2 * limit.JOINS) 0)

  verdict_is : (x : Result (Unit {0}) Refusal) (v : List ℕ) → checked_of bytes (replicate BLOCK 0) ≡ checked x v → verdict_in read ≡ x
  unfolding checked_of
  verdict_is x v e = go read e
    where
      go : (T : ReadEnd) → checked_in T ≡ checked x v → verdict_in T ≡ x
      go (end (Ok j) w ss js) d = cc (d)
      go (end (Err r) w ss js) d = cc (d)

  module _ (r : Refusal) (v : List ℕ) (e : checked_of bytes (replicate BLOCK 0) ≡ checked (Err r) v) where
    pub five_low : number_of r ≤ 5
    five_low = low_verdict read r (low read refl) (verdict_is (Err r) v e)
      where
        low : (T : ReadEnd) → read_of bytes (replicate BLOCK 0) (replicate limit.SEGMENTS 0) (replicate (2 * limit.JOINS) 0) ≡ T → Low T
        low (end (Ok j) w ss js) d = tt
        low (end (Err x) w ss js) d = read_low bytes (replicate BLOCK 0) (replicate limit.SEGMENTS 0) (replicate (2 * limit.JOINS) 0) x w ss js d

    pub five_refused : (w ss js : List ℕ) → Space w ss js → acceptance bytes w ss js ≡ Err r
    unfolding accept_of
    five_refused w ss js s = accept_refused (read_of bytes w ss js) r (same_verdict bytes w (replicate BLOCK 0) ss (replicate limit.SEGMENTS 0) js (replicate (2 * limit.JOINS) 0) s (space (replicate BLOCK 0) zeros_long) ∙ verdict_is (Err r) v e)

  pub five_passed : (v : List ℕ) → Passes bytes (replicate BLOCK 0) v → (w ss js : List ℕ) → Space w ss js → passes_rows 5 (acceptance bytes w ss js) ≡ true
  unfolding accept_of
  five_passed v p w ss js s =
      accept_passed (read_of bytes w ss js)
      (same_verdict bytes w (replicate BLOCK 0) ss (replicate limit.SEGMENTS 0) js (replicate (2 * limit.JOINS) 0) s (space (replicate BLOCK 0) zeros_long) ∙ verdict_is (Ok tt) v (passed_checked bytes (replicate BLOCK 0) v p))
