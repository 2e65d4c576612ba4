-- What the needs of the code come to.
use Prim.Native.Nat.{ℕ, ◌+◌, ◌%◌, ◌≤◌, ◌<◌}
use mathlib.Core.Path.{◌≡◌, ap, ◌∙◌, sym}
use mathlib.Core.Logic.{◌≢◌}
use mathlib.Core.Bool.{Bool, true, false, not, ◌&&◌}
use mathlib.Core.List.{List}
use native.Mathlib.Omega.{arith}
use lib.Dec.{eqb, ltb}
use lib.ListN.{length}
use borrow.Author.Tests.{eq-eqb, ne_eqb, lt-ltb, le-ltb}
use Rattle.std.specs.Prelude.{Result, Ok, Err}
use Rattle.job.specs.Limits as limit
use Rattle.job.specs.declared.refusal.Refusal.{Refusal}
use Rattle.job.specs.declared.refusal.Refusal.TheVariants.{Full, OutOfTurn, SettingsDiffer}
use Rattle.store.specs.Field.{rc, ct, NONE, FLAGS, FIRST, MARK, PRESENT, CUT, REASON, POINTS, RECORDS, LENGTH}
use Rattle.store.specs.Words.{cell, view}
use Rattle.store.specs.Sound.{pts, recs}
use Rattle.store.specs.Good.{Sound, SoundWords}
use Rattle.store.specs.Reason.{JOINED}
use Rattle.handed.specs.Handed.{tested_of}
use Rattle.audit.specs.Left.{left}
use Rattle.handed.proofs.Handing.{says_tested, handed_sound}
use Rattle.pooling.specs.declared.Used.{Used}
use Rattle.pooling.specs.Pooled.{used_in}
use Rattle.pooling.specs.Words.{lay_all}
use Rattle.pooling.specs.Needs.{RoomForBoth, CountsOf}
use Rattle.laying.specs.Lay.{settings_byte, is_stepped, any_stepped, lay_room, lay_tested, lay_second, lay_by, lay_of}

-- ---- a record that was stepped

module _ (w : List ℕ) (i c f : ℕ) (ec : c ≡ cell (rc CUT) w i) where
  pub stepped_cut : c ≢ NONE → true ≡ is_stepped (view w) i
  unfolding is_stepped
  stepped_cut n = rw (ne_eqb (cell (rc CUT) w i) NONE (λ z. n (ec ∙ z)))

  module _ (h : c ≡ NONE) (ef : f ≡ cell (rc FIRST) w i) where
    uncut : eqb (cell (rc CUT) w i) NONE ≡ true
    uncut = eq-eqb (cell (rc CUT) w i) NONE (sym ec ∙ h)

    pub stepped_bare : (k : ℕ) → f ≡ NONE → k ≡ cell (rc REASON) w i → ltb JOINED k ≡ is_stepped (view w) i
    unfolding is_stepped
    stepped_bare k e ek = rw (uncut, eq-eqb (cell (rc FIRST) w i) NONE (sym ef ∙ e)) (ap (ltb JOINED) ek)

    module _ (n : f ≢ NONE) (g : ℕ) (eg : g ≡ cell (rc FLAGS) w i) where
      ringed : eqb (cell (rc FIRST) w i) NONE ≡ false
      ringed = ne_eqb (cell (rc FIRST) w i) NONE (λ z. n (ef ∙ z))

      pub stepped_open : g % 2 ≡ 1 → false ≡ is_stepped (view w) i
      unfolding is_stepped
      stepped_open k = rw (uncut, ringed, eq-eqb (cell (rc FLAGS) w i % 2) 1 (ap (λ (x : ℕ). x % 2) (sym eg) ∙ k))

      pub stepped_else : (d p : ℕ) → g % 2 ≢ 1 → d ≡ cell (rc MARK) w i → p ≡ cell (rc PRESENT) w i → not (eqb d 0 && eqb p f) ≡ is_stepped (view w) i
      unfolding is_stepped
      stepped_else d p k ed ep = rw (uncut, ringed, ne_eqb (cell (rc FLAGS) w i % 2) 1 (λ z. k (ap (λ (x : ℕ). x % 2) eg ∙ z))) (rw (ed, ep, ef))

-- ---- room

pub counted : (w : List ℕ) (p r : ℕ) → SoundWords w → p ≡ cell (ct POINTS) w 0 → r ≡ cell (ct RECORDS) w 0 → CountsOf w (record { points = p; records = r })
counted w p r t e f =
    let s : Sound (view w) = t.sound in
    record { is = cc; few_points = omega (arith, s.few_points); few_records = omega (arith, s.few_records) }

module _ (w v : List ℕ) (a b : Used) (ea : CountsOf w a) (eb : CountsOf v b) (p : ℕ) (ep : p ≡ a.points + b.points) where
  points_both : pts (view w) + pts (view v) ≡ p
  points_both = sym (ep ∙ cc (ap (λ (c : Used). c.points) ea.is, ap (λ (c : Used). c.points) eb.is))

  pub room_points : limit.POINTS < p → left (Err Full) w ≡ lay_room w v
  unfolding lay_room
  room_points h = rw (lt-ltb limit.POINTS (pts (view w) + pts (view v)) (omega (arith, points_both)))

  module _ (r : ℕ) (er : r ≡ a.records + b.records) (hp : p ≤ limit.POINTS) where
    records_both : recs (view w) + recs (view v) ≡ r
    records_both = sym (er ∙ cc (ap (λ (c : Used). c.records) ea.is, ap (λ (c : Used). c.records) eb.is))

    pub room_records : limit.RECORDS < r → left (Err Full) w ≡ lay_room w v
    unfolding lay_room
    room_records h = rw (le-ltb limit.POINTS (pts (view w) + pts (view v)) (omega (arith, points_both)), lt-ltb limit.RECORDS (recs (view w) + recs (view v)) (omega (arith, records_both)))

    pub room_there : r ≤ limit.RECORDS → SoundWords w → SoundWords v → RoomForBoth w v a b
    room_there h s t = record { first_long = s.long; second_long = t.long; few_points = omega arith; few_records = omega arith }

    pub room_laid : (w' : List ℕ) → r ≤ limit.RECORDS → w' ≡ lay_all a b v w → left (Ok tt) w' ≡ lay_room w v
    unfolding lay_room
    room_laid w' h e =
        rw (le-ltb limit.POINTS (pts (view w) + pts (view v)) (omega (arith, points_both)), le-ltb limit.RECORDS (recs (view w) + recs (view v)) (omega (arith, records_both)))
        (ap (left (Ok tt)) (e ∙ ap (λ (c : Used). lay_all c b v w) ea.is ∙ ap (λ (c : Used). lay_all (used_in (view w)) c v w) eb.is))

-- ---- settings and steps

module _ (w v : List ℕ) (a b : ℕ) (ea : a ≡ settings_byte (view w)) (eb : b ≡ settings_byte (view v)) where
  pub settings_unequal : a ≢ b → left (Err SettingsDiffer) w ≡ lay_tested w v
  unfolding lay_tested
  settings_unequal n = rw (ne_eqb (settings_byte (view w)) (settings_byte (view v)) (λ z. n (ea ∙ z ∙ sym eb)))

  module _ (h : a ≡ b) (x y : Bool) (ex : x ≡ any_stepped (view w)) (ey : y ≡ any_stepped (view v)) where
    equal : eqb (settings_byte (view w)) (settings_byte (view v)) ≡ true
    equal = eq-eqb (settings_byte (view w)) (settings_byte (view v)) (sym ea ∙ h ∙ eb)

    pub first_stepped : x ≡ true → left (Err OutOfTurn) w ≡ lay_tested w v
    unfolding lay_tested
    first_stepped t = rw (equal, sym ex ∙ t)

    module _ (f : x ≡ false) where
      pub second_stepped : y ≡ true → left (Err OutOfTurn) w ≡ lay_tested w v
      unfolding lay_tested
      second_stepped t = rw (equal, sym ex ∙ f, sym ey ∙ t)

      pub none_stepped : (r : Result (Unit {0}) Refusal) (w' : List ℕ) → y ≡ false → left r w' ≡ lay_room w v → left r w' ≡ lay_tested w v
      unfolding lay_tested
      none_stepped r w' t e = rw (equal, sym ex ∙ f, sym ey ∙ t) e

-- ---- the tests

pub passed_sound : (w : List ℕ) (x : Result (Unit {0}) Refusal) → LENGTH ≤ length w → x ≡ tested_of w → x ≡ Ok tt → SoundWords w
passed_sound w x l e p = handed_sound w (sym (says_tested w x l e) ∙ p)

module _ (w v : List ℕ) (x : Result (Unit {0}) Refusal) where
  pub second_passed : (r : Result (Unit {0}) Refusal) (w' : List ℕ) → x ≡ tested_of v → x ≡ Ok tt → left r w' ≡ lay_tested w v → left r w' ≡ lay_by (Ok tt) w v
  second_passed r w' e p h = h ∙ sym (ap (λ (z : Result (Unit {0}) Refusal). lay_second z w v) (sym e ∙ p))

  pub second_refused : (r : Refusal) → x ≡ tested_of v → x ≡ Err r → left (Err r) w ≡ lay_by (Ok tt) w v
  second_refused r e p = sym (ap (λ (z : Result (Unit {0}) Refusal). lay_second z w v) (sym e ∙ p))

  module _ (l : LENGTH ≤ length w) (k : LENGTH ≤ length v) where
    pub both_long : lay_of w v ≡ lay_by (tested_of w) w v
    unfolding lay_of
    both_long = rw (le-ltb (length w) LENGTH l, le-ltb (length v) LENGTH k)

    pub first_passed : (r : Result (Unit {0}) Refusal) (w' : List ℕ) → x ≡ tested_of w → x ≡ Ok tt → left r w' ≡ lay_by (Ok tt) w v → left r w' ≡ lay_of w v
    first_passed r w' e p h = h ∙ sym (both_long ∙ ap (λ (z : Result (Unit {0}) Refusal). lay_by z w v) (sym e ∙ p))

    pub first_refused : (r : Refusal) → x ≡ tested_of w → x ≡ Err r → left (Err r) w ≡ lay_of w v
    first_refused r e p = sym (both_long ∙ ap (λ (z : Result (Unit {0}) Refusal). lay_by z w v) (sym e ∙ p))

module _ (w v : List ℕ) where
  pub first_short : length w < LENGTH → left (Err Full) w ≡ lay_of w v
  unfolding lay_of
  first_short h = rw (lt-ltb (length w) LENGTH h)

  pub second_short : LENGTH ≤ length w → length v < LENGTH → left (Err Full) w ≡ lay_of w v
  unfolding lay_of
  second_short l h = rw (le-ltb (length w) LENGTH l, lt-ltb (length v) LENGTH h)
