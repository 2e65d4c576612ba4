-- Rows 1 to 8 and the drawing read a work space by the store that it holds. So a job has the same drawing in every work space that is long enough and holds zeros, whatever stands where no column is.
use Prim.Native.Nat.{ℕ, zero, suc, ◌+◌, ◌-◌, ◌*◌, ◌≤◌}
use mathlib.Core.Path.{◌≡◌, refl, ap, ◌∙◌, sym}
use mathlib.Core.Bool.{Bool, true, false, cond, not, ◌&&◌, ◌||◌}
use mathlib.Core.List.{List, [], ◌∷◌}
use mathlib.Core.Option.{Option, some}
use native.Mathlib.Omega.{arith}
use lib.Dec.{eqb, leb, ltb}
use lib.ListN.{length, get_or, set, drop, replicate, length-replicate, replicate-append-replicate}
use Rattle.std.specs.Prelude.{Result}
use Rattle.std.proofs.Common.{Ok, Err}
use Rattle.rings.specs.Count.{table}
use Rattle.rings.specs.Place.{place, or_zero}
use Rattle.job.specs.Limits as limit
use Rattle.job.specs.Coordinate as coordinate
use Rattle.job.specs.Field.{field_of}
use Rattle.job.specs.Job.{fresh, past}
use Rattle.job.specs.declared.Job.{Job}
use Rattle.job.specs.declared.refusal.Refusal.{Refusal}
use Rattle.job.specs.declared.refusal.Refusal.TheVariants.{Strange, OffTheTable, NoSuch, Loose, Muddled, OpenEdge}
use Rattle.job.specs.declared.field.Field as job
use Rattle.job.specs.declared.field.Field.TheVariants.{Settings, Point, Record, Segment, Join}
use Rattle.job.specs.declared.field.Field.{Field}
use Rattle.job.proofs.Accepted.{accepted}
use Rattle.store.specs.Field.{pt, rc, ct, X, Y, Z, NEXT, PREV, REC, OWNER, FIRST, SETTINGS, POINTS, RECORDS, BLOCK}
use Rattle.store.specs.Words.{Store, Write, view, write, on_words}
use Rattle.store.specs.Stores.{Within, on_store}
use Rattle.store.specs.Sound.{ring_at, is_open}
use Rattle.store.proofs.Storing.{length_writes, view_writes}
use Rattle.audit.specs.Tests.{is_in, any_below, names_nothing}
use Rattle.joins.specs.Resolve.{find_in}
use Rattle.reading.specs.Fill.{ReadEnd, end, record_read, put_join, placed, taken, turn_of, follow, run, fill_of}
use Rattle.reading.specs.Needs.{Room}
use Rattle.reading.specs.Read.{counted, with_counts, read_of}
use Rattle.reading.proofs.Placing.{has_room}
use Rattle.owners.specs.Owners.{ends_in}
use Rattle.visits.specs.Rings.{any_in}
use Rattle.rows.specs.Rows.{rows_of}
use Rattle.accepting.specs.Accept.{answer, judged, accept_of}
use Rattle.acts.proofs.Beyond.{view_more}
use Rattle.opening.specs.Open.{JOIN_POINTS, cleared}
use Rattle.opening.proofs.Clearing.{view_cleared}
use Rattle.drawing.specs.Drawing.{Drawing, drawn_at, drawing_of, drawn_from, drawing_in}

-- ---- rows 4 to 8 and the drawing, by the store

abbrev rows_in : Store → List ℕ → ℕ → List ℕ → ℕ → Result (Unit {0}) Refusal
rows_in s ss m js n =
    let p : ℕ = s (ct POINTS) 0 in
    let r : ℕ = s (ct RECORDS) 0 in
    let on_open : ℕ → Bool = λ (k : ℕ). any_below r (λ (i : ℕ). is_open s i && is_in k (ring_at s i)) in
    cond (any_below p (λ (k : ℕ). coordinate.off_the_table (s (pt X) k) || coordinate.off_the_table (s (pt Y) k))) (Err OffTheTable)
    (cond (any_below p (λ (k : ℕ). not (ltb (s (pt NEXT) k) p) || (not (ltb (s (pt PREV) k) p) || not (ltb (s (pt REC) k) r)))
    || (any_below r (λ (i : ℕ). names_nothing r (s (rc OWNER) i) || names_nothing p (s (rc FIRST) i)) || (any_below m (λ (i : ℕ). leb p (get_or ss i 0)) || any_below (2 * n) (λ (i : ℕ). leb p (get_or js i 0))))) (Err NoSuch)
    (cond (any_below p (λ (k : ℕ). not (eqb (s (pt NEXT) (s (pt PREV) k)) k) || not (eqb (s (pt PREV) (s (pt NEXT) k)) k))) (Err Loose)
    (cond (any_below r (λ (i : ℕ). not (ends_in limit.RECORDS (s (rc OWNER)) i))
    || (any_below r (λ (i : ℕ). any_in (λ (k : ℕ). not (eqb (find_in limit.RECORDS (s (rc FIRST)) (s (rc OWNER)) (s (pt REC) k)) i)) (ring_at s i)) || any_below p (λ (k : ℕ). not (any_below r (λ (i : ℕ). is_in k (ring_at s i)))))) (Err Muddled)
    (cond (any_below m (λ (i : ℕ). on_open (get_or ss i 0)) || any_below (2 * n) (λ (i : ℕ). on_open (get_or js i 0))) (Err OpenEdge) (Ok tt)))))

rows_are : (w ss : List ℕ) (m : ℕ) (js : List ℕ) (n : ℕ) → rows_of w ss m js n ≡ rows_in (view w) ss m js n
unfolding rows_of
rows_are w ss m js n = refl

abbrev drawing_by : Store → List ℕ → ℕ → List ℕ → ℕ → Drawing
drawing_by s ss m js n =
    let home : ℕ → ℕ = λ (k : ℕ). find_in limit.RECORDS (s (rc FIRST)) (s (rc OWNER)) (s (pt REC) k) in
    record {
      settings = s (ct SETTINGS) 0;
      records = table (drawn_at s) 0 (s (ct RECORDS) 0);
      segments = table (λ (i : ℕ). record { ring = home (get_or ss i 0); place = or_zero (place (get_or ss i 0) (ring_at s (home (get_or ss i 0)))) }) 0 m;
      joins = table (λ (i : ℕ). record { ring = home (get_or js i 0); place = or_zero (place (get_or js i 0) (ring_at s (home (get_or js i 0)))) }) 0 (2 * n);
    }

drawing_is : (w ss : List ℕ) (m : ℕ) (js : List ℕ) (n : ℕ) → drawing_of w ss m js n ≡ drawing_by (view w) ss m js n
unfolding drawing_of
drawing_is w ss m js n = refl

-- ---- words that hold the same store

record Same (w w' : List ℕ) : Type 0 where
  long : BLOCK ≤ length w
  long' : BLOCK ≤ length w'
  store : view w ≡ view w'

same_writes : (w w' : List ℕ) → Same w w' → (xs : List Write) → Within xs → Same (on_words w xs) (on_words w' xs)
same_writes w w' s xs h =
    record {
      long = omega (arith, s.long, length_writes w xs);
      long' = omega (arith, s.long', length_writes w' xs);
      store = view_writes w xs s.long h ∙ ap (λ (z : Store). on_store z xs) s.store ∙ sym (view_writes w' xs s.long' h);
    }

-- the drawing of a job that was read
abbrev drawn : ReadEnd → Option Drawing
drawn T = drawn_from (judged (with_counts T))

ended : (j : Job) (w w' ss js : List ℕ) → Same w w' → drawn (end (Ok j) w ss js) ≡ drawn (end (Ok j) w' ss js)
ended j w w' ss js s =
    ap (λ (v : Result (Unit {0}) Refusal). drawn_from (end (answer v j) (counted j w) ss js)) (rows_are (counted j w) ss j.segments js j.joins ∙ ap (λ (z : Store). rows_in z ss j.segments js j.joins) e ∙ sym (rows_are (counted j w') ss j.segments js j.joins))
    ∙ by (rows_of (counted j w') ss j.segments js j.joins)
  where
    e : view (counted j w) ≡ view (counted j w')
    e = (same_writes w w' s (write (ct SETTINGS) 0 j.bits ∷ write (ct POINTS) 0 j.points ∷ write (ct RECORDS) 0 j.records ∷ []) (omega arith, (omega arith, (omega arith, tt)))).store

    by : (v : Result (Unit {0}) Refusal) → drawn_from (end (answer v j) (counted j w) ss js) ≡ drawn_from (end (answer v j) (counted j w') ss js)
    by (Ok _) =
        ap some (drawing_is (counted j w) ss j.segments js j.joins ∙ ap (λ (z : Store). drawing_by z ss j.segments js j.joins) e ∙ sym (drawing_is (counted j w') ss j.segments js j.joins))
    by (Err x) = refl

-- a field goes to the same place of either
run_same : (k : ℕ) (bytes : List ℕ) (j : Job) (w w' ss js : List ℕ) → Same w w' → drawn (run k bytes j w ss js) ≡ drawn (run k bytes j w' ss js)
unfolding run turn_of
run_same zero bytes j w w' ss js s = refl
run_same (suc k) bytes j w w' ss js s = by (ltb j.at (length bytes)) (field_of j (drop j.at bytes)) refl (λ i u u' us ls t. run_same k bytes i u u' us ls t)
  where
    placed_same : (f : job.Field) (n : ℕ) → Room f j → ((i : Job) (u u' us ls : List ℕ) → Same u u' → drawn (run k bytes i u us ls) ≡ drawn (run k bytes i u' us ls))
        → drawn (follow (run k bytes) (placed f n j w ss js)) ≡ drawn (follow (run k bytes) (placed f n j w' ss js))
    placed_same (Settings b) n h r = r (past (Settings b) n j) w w' ss js s
    placed_same (Point x y nx pv rec z) n h r =
        let xs = write (pt X) j.points x ∷ write (pt Y) j.points y ∷ write (pt NEXT) j.points nx ∷ write (pt PREV) j.points pv ∷ write (pt REC) j.points rec ∷ write (pt Z) j.points z ∷ [] in
        r (past (Point x y nx pv rec z) n j) (on_words w xs) (on_words w' xs) ss js (same_writes w w' s xs (h, (h, (h, (h, (h, (h, tt)))))))
    placed_same (Record f o p) n h r =
        let xs = record_read j.records f o p in
        r (past (Record f o p) n j) (on_words w xs) (on_words w' xs) ss js (same_writes w w' s xs (h, (h, (h, (h, tt)))))
    placed_same (Segment p) n h r = r (past (Segment p) n j) w w' (set ss j.segments p) js s
    placed_same (Join a b) n h r = r (past (Join a b) n j) w w' ss (put_join j.joins a b js) s

    by : (b : Bool) (m : Result (Field × ℕ) Refusal) → field_of j (drop j.at bytes) ≡ m → ((i : Job) (u u' us ls : List ℕ) → Same u u' → drawn (run k bytes i u us ls) ≡ drawn (run k bytes i u' us ls))
        → drawn (cond b (follow (run k bytes) (taken m j w ss js)) (end (Ok j) w ss js)) ≡ drawn (cond b (follow (run k bytes) (taken m j w' ss js)) (end (Ok j) w' ss js))
    by true (Ok (f, n)) e r = placed_same f n (has_room j (drop j.at bytes) f n (accepted j (drop j.at bytes) f n e)) r
    by true (Err x) e r = refl
    by false m e r = ended j w w' ss js s

same_drawing : (bytes w w' ss js : List ℕ) → Same w w' → drawn_from (accept_of bytes w ss js) ≡ drawn_from (accept_of bytes w' ss js)
unfolding accept_of read_of fill_of
same_drawing bytes w w' ss js s = by (eqb (length bytes) 0)
  where
    by : (b : Bool) → drawn (cond b (end (Err Strange) w ss js) (run (suc (length bytes)) bytes fresh w ss js)) ≡ drawn (cond b (end (Err Strange) w' ss js) (run (suc (length bytes)) bytes fresh w' ss js))
    by true = refl
    by false = run_same (suc (length bytes)) bytes fresh w w' ss js s

-- ---- the drawing is the same in every work space that is long enough, and holds the store of zeros

by_store : (bytes w : List ℕ) → BLOCK ≤ length w → view w ≡ view (replicate BLOCK 0) → drawn_from (accept_of bytes w (replicate limit.SEGMENTS 0) (replicate JOIN_POINTS 0)) ≡ drawing_in bytes
unfolding drawing_in
by_store bytes w l e =
    same_drawing bytes w (replicate BLOCK 0) (replicate limit.SEGMENTS 0) (replicate JOIN_POINTS 0) (record { long = l; long' = omega (arith, length-replicate {A = ℕ} BLOCK 0); store = e })

pub any_space : (bytes : List ℕ) (n : ℕ) → BLOCK ≤ n → drawn_from (accept_of bytes (replicate n 0) (replicate limit.SEGMENTS 0) (replicate JOIN_POINTS 0)) ≡ drawing_in bytes
any_space bytes n h =
    by_store bytes (replicate n 0) (omega (arith, length-replicate {A = ℕ} n 0))
    (ap (λ (k : ℕ). view (replicate k 0)) split ∙ ap view (sym (replicate-append-replicate {A = ℕ} BLOCK (n - BLOCK) 0)) ∙ view_more (replicate (n - BLOCK) 0) (replicate BLOCK 0) (omega (arith, length-replicate {A = ℕ} BLOCK 0)))
  where
    split : n ≡ BLOCK + (n - BLOCK)
    split = omega arith

-- so in the one that opening has cleared
pub any_cleared : (bytes lent : List ℕ) → BLOCK ≤ length (cleared lent) → drawn_from (accept_of bytes (cleared lent) (replicate limit.SEGMENTS 0) (replicate JOIN_POINTS 0)) ≡ drawing_in bytes
any_cleared bytes lent l = by_store bytes (cleared lent) l (view_cleared lent)
