-- What each test says of the words where it does not fail, and back.
use Prim.Native.Nat.{ℕ, zero, suc, ◌*◌, ◌≤◌, ◌<◌}
use mathlib.Core.Path.{◌≡◌, refl, ap, ◌∙◌}
use mathlib.Core.Logic.{◌⊎◌, inl, inr}
use mathlib.Core.Bool.{Bool, true, false, cond, not, ◌&&◌, ◌||◌}
use mathlib.Core.List.{List}
use native.Mathlib.Omega.{arith}
use native.Mathlib.Decide.{ℕ_discrete, dec_lt}
use lib.Dec.{eqb, ltb}
use borrow.Author.Tests.{eq-eqb, ne_eqb, eqb-true, lt-ltb, le-ltb, ltb-true, ltb-false, not-false}
use Rattle.std.specs.Prelude.{Ok, Err}
use Rattle.job.specs.Limits as limit
use Rattle.job.specs.declared.refusal.Refusal.TheVariants.{Crowded, OffTheTable, NoSuch, Loose, Muddled}
use Rattle.rings.specs.Count.{occ}
use Rattle.store.specs.Field.{pt, X, Y, NONE}
use Rattle.store.specs.Words.{view}
use Rattle.store.specs.Named.{points_of, records_of, next_of, prev_of, rec_of, owner_of, first_of, progress_of, present_of, kept_of, taker_of}
use Rattle.store.specs.Reason.{JOINED, is_kept}
use Rattle.store.specs.Good.{Explained}
use Rattle.store.specs.Sound.{ringless, ring_at, is_open}
use Rattle.audit.specs.Tests.{is_in, any_below, any_reached, any_record, reached_by, crowded, off_table, no_such, no_such_of, names_nothing, lost_taker, loose, shared, misplaced, untold, tests_of}
use Rattle.audit.proofs.Reaching.{in_true, in_false, true_in, false_in}

clash : {A : Type 0} → ◌≡◌ {A = Bool} true false → A
clash e = let z : ◌≡◌ {A = ℕ} 0 1 = cc in absurd (omega arith)

or_false : (a b : Bool) → (a || b) ≡ false → (a ≡ false) × (b ≡ false)
or_false false b e = (refl, e)
or_false true b e = clash e

both_false : (a b : Bool) → a ≡ false → b ≡ false → (a || b) ≡ false
both_false a b e f = rw (e, f)

-- ---- none below n

pub none_of : (n : ℕ) (q : ℕ → Bool) → any_below n q ≡ false → (k : ℕ) → k < n → q k ≡ false
unfolding any_below
none_of zero q e k h = absurd (omega arith)
none_of (suc n) q e k h = go (or_false (any_below n q) (q n) e) (ℕ_discrete k n) (λ f l. none_of n q f k l)
  where
    go : (any_below n q ≡ false) × (q n ≡ false) → Dec (k ≡ n) → (any_below n q ≡ false → k < n → q k ≡ false) → q k ≡ false
    go d (yes z) r = ap q z ∙ d.1
    go d (no z) r = r d.0 (omega arith)

pub all_none : (n : ℕ) (q : ℕ → Bool) → ((k : ℕ) → k < n → q k ≡ false) → any_below n q ≡ false
unfolding any_below
all_none zero q h = refl
all_none (suc n) q h = both_false (any_below n q) (q n) (all_none n q (λ k l. h k (omega arith))) (h n (omega arith))

and_true : (a b : Bool) → (a && b) ≡ false → a ≡ true → b ≡ false
and_true a b e h = rw h at e

-- a test that no reached point fails
pub reached_none : (w : List ℕ) (q : ℕ → Bool) → any_reached w q ≡ false → (k : ℕ) → k < points_of w → 0 < occ k (reached_by w (records_of w)) → q k ≡ false
reached_none w q e k h o =
    and_true (is_in k (reached_by w (records_of w))) (q k) (none_of (points_of w) (λ j. is_in j (reached_by w (records_of w)) && q j) e k h) (in_true k (reached_by w (records_of w)) o)

pub none_reached : (w : List ℕ) (q : ℕ → Bool) → ((k : ℕ) → 0 < occ k (reached_by w (records_of w)) → q k ≡ false) → any_reached w q ≡ false
none_reached w q h = all_none (points_of w) (λ j. is_in j (reached_by w (records_of w)) && q j) (λ k l. go k (is_in k (reached_by w (records_of w))) refl)
  where
    go : (k : ℕ) (b : Bool) → is_in k (reached_by w (records_of w)) ≡ b → (b && q k) ≡ false
    go k true e = h k (true_in k (reached_by w (records_of w)) e)
    go k false e = refl

-- ---- each test

not_below : (a b : ℕ) → not (ltb a b) ≡ false → a < b
not_below a b e = ltb-true a b (not-false (ltb a b) e)

below_not : (a b : ℕ) → a < b → not (ltb a b) ≡ false
below_not a b h = rw (lt-ltb a b h)

not_equal : (a b : ℕ) → not (eqb a b) ≡ false → a ≡ b
not_equal a b e = eqb-true a b (not-false (eqb a b) e)

equal_not : (a b : ℕ) → a ≡ b → not (eqb a b) ≡ false
equal_not a b h = rw (eq-eqb a b h)

module _ (w : List ℕ) (k : ℕ) where
  pub record Placed : Type 0 where
    pub x : view w (pt X) k ≤ 2 * limit.COORDINATE
    pub y : view w (pt Y) k ≤ 2 * limit.COORDINATE

  pub on_table : off_table w k ≡ false → Placed
  on_table e =
      let d = or_false (ltb (2 * limit.COORDINATE) (view w (pt X) k)) (ltb (2 * limit.COORDINATE) (view w (pt Y) k)) e in
      record { x = ltb-false (2 * limit.COORDINATE) (view w (pt X) k) d.0; y = ltb-false (2 * limit.COORDINATE) (view w (pt Y) k) d.1 }

  pub table_on : view w (pt X) k ≤ 2 * limit.COORDINATE → view w (pt Y) k ≤ 2 * limit.COORDINATE → off_table w k ≡ false
  table_on h g = both_false (ltb (2 * limit.COORDINATE) (view w (pt X) k)) (ltb (2 * limit.COORDINATE) (view w (pt Y) k)) (le-ltb (2 * limit.COORDINATE) (view w (pt X) k) h) (le-ltb (2 * limit.COORDINATE) (view w (pt Y) k) g)

  pub record Numbered : Type 0 where
    pub next : next_of w k < points_of w
    pub prev : prev_of w k < points_of w
    pub rec : rec_of w k < records_of w

  pub such : no_such w k ≡ false → Numbered
  such e =
      let d = or_false (not (ltb (next_of w k) (points_of w))) (not (ltb (prev_of w k) (points_of w)) || not (ltb (rec_of w k) (records_of w))) e in
      let f = or_false (not (ltb (prev_of w k) (points_of w))) (not (ltb (rec_of w k) (records_of w))) d.1 in
      record { next = not_below (next_of w k) (points_of w) d.0; prev = not_below (prev_of w k) (points_of w) f.0; rec = not_below (rec_of w k) (records_of w) f.1 }

  pub such_not : next_of w k < points_of w → prev_of w k < points_of w → rec_of w k < records_of w → no_such w k ≡ false
  such_not h g l =
      both_false (not (ltb (next_of w k) (points_of w))) (not (ltb (prev_of w k) (points_of w)) || not (ltb (rec_of w k) (records_of w))) (below_not (next_of w k) (points_of w) h)
      (both_false (not (ltb (prev_of w k) (points_of w))) (not (ltb (rec_of w k) (records_of w))) (below_not (prev_of w k) (points_of w) g) (below_not (rec_of w k) (records_of w) l))

  pub record Tied : Type 0 where
    pub next_prev : next_of w (prev_of w k) ≡ k
    pub prev_next : prev_of w (next_of w k) ≡ k

  pub tied : loose w k ≡ false → Tied
  tied e =
      let d = or_false (not (eqb (next_of w (prev_of w k)) k)) (not (eqb (prev_of w (next_of w k)) k)) e in
      record { next_prev = not_equal (next_of w (prev_of w k)) k d.0; prev_next = not_equal (prev_of w (next_of w k)) k d.1 }

  pub tied_not : next_of w (prev_of w k) ≡ k → prev_of w (next_of w k) ≡ k → loose w k ≡ false
  tied_not h g = both_false (not (eqb (next_of w (prev_of w k)) k)) (not (eqb (prev_of w (next_of w k)) k)) (equal_not (next_of w (prev_of w k)) k h) (equal_not (prev_of w (next_of w k)) k g)

names : (n v : ℕ) → names_nothing n v ≡ false → (v ≡ NONE) ⊎ (v < n)
names n v e = go (ℕ_discrete v NONE)
  where
    go : Dec (v ≡ NONE) → (v ≡ NONE) ⊎ (v < n)
    go (yes z) = inl z
    go (no z) = inr (not_below v n (and_true (not (eqb v NONE)) (not (ltb v n)) e (rw (ne_eqb v NONE z))))

names_not : (n v : ℕ) → (v ≡ NONE) ⊎ (v < n) → names_nothing n v ≡ false
names_not n v (inl e) = rw (eq-eqb v NONE e)
names_not n v (inr h) = rw (lt-ltb v n h) (go (eqb v NONE))
  where
    go : (b : Bool) → (not b && false) ≡ false
    go true = refl
    go false = refl

un_and : (a b x : Bool) → a ≡ false → b ≡ false → (not a && not b && x) ≡ false → x ≡ false
un_and a b x h k e = rw (h, k) at e

module _ (w : List ℕ) (i : ℕ) where
  pub record Owned : Type 0 where
    pub owner : (owner_of w i ≡ NONE) ⊎ (owner_of w i < records_of w)
    pub first : (first_of w i ≡ NONE) ⊎ (first_of w i < points_of w)

  pub owned : no_such_of w i ≡ false → Owned
  owned e =
      let d = or_false (names_nothing (records_of w) (owner_of w i)) (names_nothing (points_of w) (first_of w i)) e in
      record { owner = names (records_of w) (owner_of w i) d.0; first = names (points_of w) (first_of w i) d.1 }

  pub owned_not : (owner_of w i ≡ NONE) ⊎ (owner_of w i < records_of w) → (first_of w i ≡ NONE) ⊎ (first_of w i < points_of w) → no_such_of w i ≡ false
  owned_not h g = both_false (names_nothing (records_of w) (owner_of w i)) (names_nothing (points_of w) (first_of w i)) (names_not (records_of w) (owner_of w i) h) (names_not (points_of w) (first_of w i) g)

  -- of a record without a ring: why it has none
  module _ (r : ringless (view w) i ≡ true) where
    pub explained : lost_taker w i ≡ false → untold w i ≡ false → Explained (view w) i
    explained e u =
        record {
          kept = not-false (is_kept (kept_of w i)) (and_true (ringless (view w) i) (not (is_kept (kept_of w i))) u r);
          taker = λ z. not_below (taker_of w i) (records_of w)
              (and_true (eqb (kept_of w i) JOINED) (not (ltb (taker_of w i) (records_of w))) (and_true (ringless (view w) i) (eqb (kept_of w i) JOINED && not (ltb (taker_of w i) (records_of w))) e r) (eq-eqb (kept_of w i) JOINED z));
        }

  pub taker_not : (ringless (view w) i ≡ true → Explained (view w) i) → lost_taker w i ≡ false
  taker_not h = go (ringless (view w) i) refl (ℕ_discrete (kept_of w i) JOINED)
    where
      go : (b : Bool) → ringless (view w) i ≡ b → Dec (kept_of w i ≡ JOINED) → (b && (eqb (kept_of w i) JOINED && not (ltb (taker_of w i) (records_of w)))) ≡ false
      go false e d = refl
      go true e (yes z) = rw (eq-eqb (kept_of w i) JOINED z, lt-ltb (taker_of w i) (records_of w) ((h e).taker z))
      go true e (no z) = rw (ne_eqb (kept_of w i) JOINED z)

  pub untold_not : (ringless (view w) i ≡ true → Explained (view w) i) → untold w i ≡ false
  untold_not h = go (ringless (view w) i) refl
    where
      go : (b : Bool) → ringless (view w) i ≡ b → (b && not (is_kept (kept_of w i))) ≡ false
      go false e = refl
      go true e = ap not (h e).kept

  pub alone : shared w i ≡ false → occ (first_of w i) (reached_by w i) ≡ 0
  alone e = false_in (first_of w i) (reached_by w i) e

  pub alone_not : occ (first_of w i) (reached_by w i) ≡ 0 → shared w i ≡ false
  alone_not h = in_false (first_of w i) (reached_by w i) h

  module _ (r : ringless (view w) i ≡ false) (c : is_open (view w) i ≡ false) where
    parts : misplaced w i ≡ false → (ltb 4 (progress_of w i) ≡ false) × ((ltb (progress_of w i) 4 && not (is_in (present_of w i) (ring_at (view w) i))) ≡ false)
    parts e =
        or_false (ltb 4 (progress_of w i)) (ltb (progress_of w i) 4 && not (is_in (present_of w i) (ring_at (view w) i)))
        (un_and (ringless (view w) i) (is_open (view w) i) (ltb 4 (progress_of w i) || (ltb (progress_of w i) 4 && not (is_in (present_of w i) (ring_at (view w) i)))) r c e)

    pub mark_low : misplaced w i ≡ false → progress_of w i ≤ 4
    mark_low e = ltb-false 4 (progress_of w i) (parts e).0

    pub place_on : misplaced w i ≡ false → progress_of w i < 4 → 0 < occ (present_of w i) (ring_at (view w) i)
    place_on e h =
        true_in (present_of w i) (ring_at (view w) i)
        (not-false (is_in (present_of w i) (ring_at (view w) i)) (and_true (ltb (progress_of w i) 4) (not (is_in (present_of w i) (ring_at (view w) i))) (parts e).1 (lt-ltb (progress_of w i) 4 h)))

  pub misplaced_not : (ringless (view w) i ≡ false → is_open (view w) i ≡ false → progress_of w i ≤ 4) → (ringless (view w) i ≡ false → is_open (view w) i ≡ false → progress_of w i < 4 → 0 < occ (present_of w i) (ring_at (view w) i)) → misplaced w i ≡ false
  misplaced_not h g = go (ringless (view w) i) refl (is_open (view w) i) refl (dec_lt (progress_of w i) 4)
    where
      go : (b : Bool) → ringless (view w) i ≡ b → (c : Bool) → is_open (view w) i ≡ c → Dec (progress_of w i < 4)
          → (not b && not c && (ltb 4 (progress_of w i) || (ltb (progress_of w i) 4 && not (is_in (present_of w i) (ring_at (view w) i))))) ≡ false
      go true e c d z = refl
      go false e true d z = refl
      go false e false d (yes l) = rw (le-ltb 4 (progress_of w i) (h e d), lt-ltb (progress_of w i) 4 l, in_true (present_of w i) (ring_at (view w) i) (g e d l))
      go false e false d (no l) = rw (le-ltb 4 (progress_of w i) (h e d), le-ltb (progress_of w i) 4 (omega arith))

-- ---- all of them

pub record Off (c t n l m : Bool) : Type 0 where
  pub counts : c ≡ false
  pub coordinates : t ≡ false
  pub numbers : n ≡ false
  pub links : l ≡ false
  pub rings : m ≡ false

all_off : (c t n l m : Bool) → cond c (Err Crowded) (cond t (Err OffTheTable) (cond n (Err NoSuch) (cond l (Err Loose) (cond m (Err Muddled) (Ok tt))))) ≡ Ok (tt {0}) → Off c t n l m
all_off true t n l m e = let z : ◌≡◌ {A = ℕ} 0 1 = cc in absurd (omega arith)
all_off false true n l m e = let z : ◌≡◌ {A = ℕ} 0 1 = cc in absurd (omega arith)
all_off false false true l m e = let z : ◌≡◌ {A = ℕ} 0 1 = cc in absurd (omega arith)
all_off false false false true m e = let z : ◌≡◌ {A = ℕ} 0 1 = cc in absurd (omega arith)
all_off false false false false true e = let z : ◌≡◌ {A = ℕ} 0 1 = cc in absurd (omega arith)
all_off false false false false false e = record { counts = refl; coordinates = refl; numbers = refl; links = refl; rings = refl }

module _ (w : List ℕ) where
  pub record Passing : Type 0 where
    pub points : points_of w ≤ limit.POINTS
    pub records : records_of w ≤ limit.RECORDS
    pub placed : any_reached w (off_table w) ≡ false
    pub numbered : any_reached w (no_such w) ≡ false
    pub owned : any_record w (no_such_of w) ≡ false
    pub taken : any_record w (lost_taker w) ≡ false
    pub tied : any_reached w (loose w) ≡ false
    pub apart : any_record w (shared w) ≡ false
    pub meant : any_record w (misplaced w) ≡ false
    pub explained_all : any_record w (untold w) ≡ false

  pub passing : tests_of w ≡ Ok tt → Passing
  unfolding tests_of
  passing e =
      let o = all_off (crowded w) (any_reached w (off_table w)) (any_reached w (no_such w) || (any_record w (no_such_of w) || any_record w (lost_taker w))) (any_reached w (loose w)) (any_record w (shared w) || (any_record w (misplaced w) || any_record w (untold w))) e in
      let c = or_false (ltb limit.POINTS (points_of w)) (ltb limit.RECORDS (records_of w)) o.counts in
      let n = or_false (any_reached w (no_such w)) (any_record w (no_such_of w) || any_record w (lost_taker w)) o.numbers in
      let t = or_false (any_record w (no_such_of w)) (any_record w (lost_taker w)) n.1 in
      let m = or_false (any_record w (shared w)) (any_record w (misplaced w) || any_record w (untold w)) o.rings in
      let u = or_false (any_record w (misplaced w)) (any_record w (untold w)) m.1 in
      record {
        points = ltb-false limit.POINTS (points_of w) c.0;
        records = ltb-false limit.RECORDS (records_of w) c.1;
        placed = o.coordinates;
        numbered = n.0;
        owned = t.0;
        taken = t.1;
        tied = o.links;
        apart = m.0;
        meant = u.0;
        explained_all = u.1;
      }

  pub passed : Passing → tests_of w ≡ Ok tt
  unfolding tests_of
  passed p = rw (le-ltb limit.POINTS (points_of w) p.points, le-ltb limit.RECORDS (records_of w) p.records, p.placed, p.numbered, p.owned, p.taken, p.tied, p.apart, p.meant, p.explained_all)
