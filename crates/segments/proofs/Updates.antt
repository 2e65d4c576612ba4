-- The needs of the first loop's functions; and that every row is struck out or spans from left to right on one ring.
use Prim.Native.Nat.{ℕ, zero, suc, ◌+◌, ◌≤◌, ◌<◌}
use mathlib.Core.Path.{◌≡◌, refl, ap, ◌∙◌, sym, subst}
use mathlib.Core.Logic.{◌≢◌, ◌⊎◌, inl, inr}
use mathlib.Core.Bool.{Bool, true, false, cond}
use mathlib.Core.List.{List, [], ◌∷◌}
use native.Mathlib.Omega.{arith}
use lib.Dec.{eqb, ltb}
use lib.ListN.{get_or, set, length, length-set, replicate, length-replicate}
use borrow.Author.Tests.{eq-eqb, ne_eqb, eqb-false, lt-ltb, le-ltb, ltb-true, ltb-false}
use Rattle.job.specs.Limits as limit
use Rattle.store.specs.Field.{NONE, BLOCK}
use Rattle.store.specs.Words.{view}
use Rattle.store.specs.Named.{points_of}
use Rattle.joins.specs.Resolve.{home_of}
use Rattle.joins.specs.Paths.{Lives}
use Rattle.joins.specs.Needs.{Point}
use Rattle.joins.proofs.Finding.{at_home}
use Rattle.segments.specs.declared.level.Ends.{Ends}
use Rattle.sorting.specs.declared.HorzSegment.{HorzSegment}
use Rattle.sorting.specs.Sorted.{LAST}
use Rattle.segments.specs.Level.{x_of, y_of, wall_run, stop_run}
use Rattle.segments.specs.Needs.{Together, Home}
use Rattle.segments.specs.Needs.{Span}
use Rattle.segments.specs.Update.{has_front, walled_ends, free_ends, ends_of, valid, invalid, blank, headed, segment_through, Claim, claim, claim_of, on_claim, update_from, segments_of}
use Rattle.segments.specs.Needs.{Listed}
use Rattle.segments.proofs.Running.{until_lives}
use Rattle.sorting.proofs.Stable.{Each}

-- ---- the ends of a run

pub point_at_home : (w : List ℕ) (p i : ℕ) → Point w p → i ≡ home_of w p → Home w p i
point_at_home w p i t e = record { ready = t.ready; here = at_home w t.ready p i t.low e }

module _ (w : List ℕ) (p i : ℕ) (h : Home w p i) where
  pub home_point : p < limit.POINTS
  home_point = omega (arith, h.here.bound, h.ready.resolved.few_points)

  pub home_long : BLOCK ≤ length w
  home_long = h.ready.long

  pub home_self : Together w p p
  home_self = record { ready = h.ready; at = i; one = h.here; two = h.here }

  pub ends_walled : (y : ℕ) (b : Bool) (r : Ends) → y ≡ y_of w p → b ≡ has_front w i → b ≡ true → r ≡ walled_ends w p y i → r ≡ ends_of w p i
  unfolding ends_of
  ends_walled y b r e f g k =
      let t : has_front w i ≡ true = sym f ∙ g in
      rw t (k ∙ ap (λ (z : ℕ). walled_ends w p z i) e)

  pub ends_free : (y : ℕ) (b : Bool) (r : Ends) → y ≡ y_of w p → b ≡ has_front w i → b ≡ false → r ≡ free_ends w p y → r ≡ ends_of w p i
  unfolding ends_of
  ends_free y b r e f g k =
      let t : has_front w i ≡ false = sym f ∙ g in
      rw t (k ∙ ap (free_ends w p) e)

  -- both are on the ring
  pub record EndsOnRing (e : Ends) : Type 0 where
    pub back : Lives (view w) i e.back
    pub ahead : Lives (view w) i e.ahead

  pub ends_on : EndsOnRing (ends_of w p i)
  unfolding ends_of walled_ends free_ends wall_run stop_run
  ends_on = go (has_front w i)
    where
      go : (b : Bool) → EndsOnRing (cond b (walled_ends w p (y_of w p) i) (free_ends w p (y_of w p)))
      go true = record { back = until_lives w h.ready false _ i 2048 p h.here; ahead = until_lives w h.ready true _ i 2048 p h.here }
      go false = record { back = until_lives w h.ready false _ i 2048 p h.here; ahead = until_lives w h.ready true _ i 2048 p h.here }

  pub back_low : (e : Ends) → e ≡ ends_of w p i → e.back < limit.POINTS
  back_low e f = rw f (omega (arith, ends_on.back.bound, h.ready.resolved.few_points))

  pub ahead_low : (e : Ends) → e ≡ ends_of w p i → e.ahead < limit.POINTS
  ahead_low e f = rw f (omega (arith, ends_on.ahead.bound, h.ready.resolved.few_points))

-- ---- the heading

module _ (w : List ℕ) (op p n a b : ℕ) (e : a ≡ x_of w p) (f : b ≡ x_of w n) where
  pub headed_none : a ≡ b → invalid op 1 ≡ headed w op p n
  unfolding headed
  headed_none g =
      let t : eqb (x_of w p) (x_of w n) ≡ true = eq-eqb (x_of w p) (x_of w n) (sym e ∙ g ∙ f) in
      rw t

  pub headed_on : a ≢ b → a < b → record { key = a; left = p; right = n; forward = 1 } ≡ headed w op p n
  unfolding headed
  headed_on g h =
      let t : eqb (x_of w p) (x_of w n) ≡ false = ne_eqb (x_of w p) (x_of w n) (λ z. g (e ∙ z ∙ sym f)) in
      let u : ltb (x_of w p) (x_of w n) ≡ true = lt-ltb (x_of w p) (x_of w n) (omega arith) in
      rw (t, u, e)

  pub headed_back : a ≢ b → b ≤ a → record { key = b; left = n; right = p; forward = 0 } ≡ headed w op p n
  unfolding headed
  headed_back g h =
      let t : eqb (x_of w p) (x_of w n) ≡ false = ne_eqb (x_of w p) (x_of w n) (λ z. g (e ∙ z ∙ sym f)) in
      let u : ltb (x_of w p) (x_of w n) ≡ false = le-ltb (x_of w p) (x_of w n) (omega arith) in
      rw (t, u, f)

pub through_is : (w : List ℕ) (op i : ℕ) (e : Ends) (r : HorzSegment) → i ≡ home_of w op → e ≡ ends_of w op i → r ≡ headed w op e.back e.ahead → r ≡ segment_through w op
unfolding segment_through
through_is w op i e r f g h = h ∙ rw (g, f)

-- a segment that is struck out, or spans from left to right; its key says which
pub record Listable (w : List ℕ) (s : HorzSegment) : Type 0 where
  pub spans : (s.right ≡ NONE) ⊎ Span w s.left s.right
  pub key : s.key ≡ cond (eqb s.right NONE) LAST (x_of w s.left)

-- and whose left point is a point
pub record Fit (w : List ℕ) (s : HorzSegment) : Type 0 where
  pub low : s.left < points_of w
  pub list : Listable w s

headed_fit : (w : List ℕ) (op i : ℕ) (h : Home w op i) (p n : ℕ) → Lives (view w) i p → Lives (view w) i n → Fit w (headed w op p n)
unfolding headed
headed_fit w op i h p n a b = go (eqb (x_of w p) (x_of w n)) (ltb (x_of w p) (x_of w n)) refl refl
  where
    -- a right point is not none
    named : {x : ℕ} (k : ℕ) → Lives (view w) i k → x ≡ cond (eqb k NONE) LAST x
    named k l = rw (ne_eqb k NONE (λ e. omega (arith, l.bound, h.ready.resolved.few_points)))

    go : (t u : Bool) → eqb (x_of w p) (x_of w n) ≡ t → ltb (x_of w p) (x_of w n) ≡ u → Fit w (cond t (invalid op 1) (cond u (valid w p n 1) (valid w n p 0)))
    go true u e f = record { low = h.here.bound; list = record { spans = inl refl; key = refl } }
    go false true e f = record { low = a.bound; list = record { spans = inr (record { same = record { ready = h.ready; at = i; one = a; two = b }; wide = ltb-true _ _ f }); key = named n b } }
    go false false e f =
        let d : x_of w p ≢ x_of w n = eqb-false _ _ e in
        let g : x_of w n ≤ x_of w p = ltb-false _ _ f in
        record { low = b.bound; list = record { spans = inr (record { same = record { ready = h.ready; at = i; one = b; two = a }; wide = omega arith }); key = named p a } }

pub through_fit : (w : List ℕ) (op : ℕ) → Point w op → Fit w (segment_through w op)
unfolding segment_through
through_fit w op t =
    let h = point_at_home w op (home_of w op) t refl in
    let e = ends_on w op (home_of w op) h in
    headed_fit w op (home_of w op) h (ends_of w op (home_of w op)).back (ends_of w op (home_of w op)).ahead e.back e.ahead

pub through_low : (w : List ℕ) (op : ℕ) (s : HorzSegment) → Point w op → s ≡ segment_through w op → s.left < limit.POINTS
through_low w op s t e = rw e (omega (arith, (through_fit w op t).low, t.ready.resolved.few_points))

-- ---- the mark

module _ (ms : List ℕ) (s : HorzSegment) where
  pub claim_none : s.right ≡ NONE → claim s ms ≡ claim_of ms s
  unfolding claim_of
  claim_none e =
      let t : eqb s.right NONE ≡ true = eq-eqb s.right NONE e in
      rw t

  pub claim_new : (ms' : List ℕ) (m : ℕ) → s.right ≢ NONE → m ≡ get_or ms s.left 0 → m ≡ 0 → ms' ≡ set ms s.left 1 → claim s ms' ≡ claim_of ms s
  unfolding claim_of
  claim_new ms' m e f g h =
      let t : eqb s.right NONE ≡ false = ne_eqb s.right NONE e in
      let u : eqb (get_or ms s.left 0) 0 ≡ true = eq-eqb (get_or ms s.left 0) 0 (sym f ∙ g) in
      rw (t, u, h)

  pub claim_old : (m : ℕ) → s.right ≢ NONE → m ≡ get_or ms s.left 0 → m ≢ 0 → claim (invalid s.left s.forward) ms ≡ claim_of ms s
  unfolding claim_of
  claim_old m e f g =
      let t : eqb s.right NONE ≡ false = ne_eqb s.right NONE e in
      let u : eqb (get_or ms s.left 0) 0 ≡ false = ne_eqb (get_or ms s.left 0) 0 (λ z. g (f ∙ z)) in
      rw (t, u)

abbrev pub claimed : Claim → HorzSegment
claimed (claim s ms) = s

claim_fit : (w ms : List ℕ) (s : HorzSegment) → Fit w s → Fit w (claimed (claim_of ms s))
unfolding claim_of
claim_fit w ms s h = go (eqb s.right NONE) (eqb (get_or ms s.left 0) 0)
  where
    go : (t u : Bool) → Fit w (claimed (cond t (claim s ms) (cond u (claim s (set ms s.left 1)) (claim (invalid s.left s.forward) ms))))
    go true u = h
    go false true = h
    go false false = record { low = h.low; list = record { spans = inl refl; key = refl } }

pub claim_low : (w ms ms' : List ℕ) (op : ℕ) (s t : HorzSegment) → Point w op → s ≡ segment_through w op → claim t ms' ≡ claim_of ms s → t.left < limit.POINTS
claim_low w ms ms' op s t p e f =
    let h : Fit w (claimed (claim_of ms s)) = claim_fit w ms s (rw e (through_fit w op p)) in
    let g : Fit w t = subst (λ (c : Claim). Fit w (claimed c)) (sym f) h in
    omega (arith, g.low, p.ready.resolved.few_points)

-- ---- the loop

-- segments from i on are left
pub record Updating (F : List HorzSegment) (w ps : List ℕ) (n : ℕ) (R : List HorzSegment) (ms : List ℕ) (i : ℕ) : Type 0 where
  pub listed : Listed w n ps
  pub left : ℕ
  pub far : i + left ≡ n
  pub goes : update_from left i w ps ms R ≡ F

pub updating_begun : (w ps : List ℕ) (n : ℕ) → Listed w n ps → Updating (segments_of w n ps) w ps n (replicate limit.SEGMENTS blank) (replicate limit.POINTS 0) 0
unfolding segments_of
updating_begun w ps n t = record { listed = t; left = n; far = omega arith; goes = refl }

module _ (F : List HorzSegment) (w ps : List ℕ) (n : ℕ) (R : List HorzSegment) (ms : List ℕ) (i : ℕ) (u : Updating F w ps n R ms i) where
  pub updating_fits : i < n → i < length ps
  updating_fits h = omega (arith, u.listed.fits)

  pub updating_few : i < n → i < limit.SEGMENTS
  updating_few h = omega (arith, u.listed.few)

  pub updating_point : (op : ℕ) → i < n → op ≡ get_or ps i 0 → Point w op
  updating_point op h e = rw e (record { ready = u.listed.ready; low = u.listed.point i h })

  one : (m : ℕ) → update_from (suc m) i w ps ms R ≡ on_claim i R (update_from m (i + 1) w ps) (claim_of ms (segment_through w (get_or ps i 0)))
  unfolding update_from
  one m = refl

  none : update_from zero i w ps ms R ≡ R
  unfolding update_from
  none = refl

  pub updating_next : (op : ℕ) (s t : HorzSegment) (ms' : List ℕ) (R' : List HorzSegment) → i < n → op ≡ get_or ps i 0 → s ≡ segment_through w op → claim t ms' ≡ claim_of ms s
      → R' ≡ set R i t → Updating F w ps n R' ms' (i + 1)
  updating_next op s t ms' R' h e f g k = go u.left u.far u.goes
    where
      same : claim_of ms (segment_through w (get_or ps i 0)) ≡ claim t ms'
      same = ap (claim_of ms) (ap (segment_through w) (sym e) ∙ sym f) ∙ sym g

      go : (m : ℕ) → i + m ≡ n → update_from m i w ps ms R ≡ F → Updating F w ps n R' ms' (i + 1)
      go zero p q = absurd (omega arith)
      go (suc m) p q =
          record {
            listed = u.listed;
            left = m;
            far = omega arith;
            goes = ap (update_from m (i + 1) w ps ms') k ∙ sym (one m ∙ ap (on_claim i R (update_from m (i + 1) w ps)) same) ∙ q;
          }

  pub updating_done : n ≤ i → R ≡ F
  updating_done h = go u.left u.far u.goes
    where
      go : (m : ℕ) → i + m ≡ n → update_from m i w ps ms R ≡ F → R ≡ F
      go zero p q = sym none ∙ q
      go (suc m) p q = absurd (omega arith)

-- ---- every segment is struck out or spans

pub each_set : (P : HorzSegment → Type 0) (l : List HorzSegment) (i : ℕ) (r : HorzSegment) → Each P l → P r → Each P (set l i r)
each_set P [] i r h p = tt
each_set P (a ∷ l) zero r h p = (p, h.1)
each_set P (a ∷ l) (suc i) r h p = (h.0, each_set P l i r h.1 p)

-- what holds of each claimed segment and of a blank place holds of all that the first loop leaves
pub each_updated : (P : HorzSegment → Type 0) (f i : ℕ) (w ps ms : List ℕ) (R : List HorzSegment)
    → ((k : ℕ) (xs : List ℕ) → i ≤ k → k < i + f → P (claimed (claim_of xs (segment_through w (get_or ps k 0))))) → Each P R → Each P (update_from f i w ps ms R)
unfolding update_from
each_updated P zero i w ps ms R p h = h
each_updated P (suc f) i w ps ms R p h =
    go (claim_of ms (segment_through w (get_or ps i 0))) (p i ms (omega arith) (omega arith))
    (λ s ms' k. each_updated P f (i + 1) w ps ms' (set R i s) (λ z xs a b. p z xs (omega arith) (omega arith)) k)
  where
    go : (c : Claim) → P (claimed c) → ((s : HorzSegment) (ms' : List ℕ) → Each P (set R i s) → Each P (update_from f (i + 1) w ps ms' (set R i s))) → Each P (on_claim i R (update_from f (i + 1) w ps) c)
    go (claim s ms') k r = r s ms' (each_set P R i s h k)

updated_length : (f i : ℕ) (w ps ms : List ℕ) (R : List HorzSegment) → length (update_from f i w ps ms R) ≡ length R
unfolding update_from
updated_length zero i w ps ms R = refl
updated_length (suc f) i w ps ms R = go (claim_of ms (segment_through w (get_or ps i 0))) (λ s ms'. updated_length f (i + 1) w ps ms' (set R i s) ∙ length-set R i s)
  where
    go : (c : Claim) → ((s : HorzSegment) (ms' : List ℕ) → length (update_from f (i + 1) w ps ms' (set R i s)) ≡ length R) → length (on_claim i R (update_from f (i + 1) w ps) c) ≡ length R
    go (claim s ms') r = r s ms'

pub segments_length : (w : List ℕ) (n : ℕ) (ps : List ℕ) → length (segments_of w n ps) ≡ limit.SEGMENTS
unfolding segments_of
segments_length w n ps = updated_length n 0 w ps (replicate limit.POINTS 0) (replicate limit.SEGMENTS blank) ∙ length-replicate limit.SEGMENTS blank

each_blank : (P : HorzSegment → Type 0) (n : ℕ) → P blank → Each P (replicate n blank)
each_blank P zero h = tt
each_blank P (suc n) h = (h, each_blank P n h)

pub each_segment : (P : HorzSegment → Type 0) (w : List ℕ) (n : ℕ) (ps : List ℕ) → ((k : ℕ) (xs : List ℕ) → k < n → P (claimed (claim_of xs (segment_through w (get_or ps k 0))))) → P blank → Each P (segments_of w n ps)
unfolding segments_of
each_segment P w n ps p b = each_updated P n 0 w ps (replicate limit.POINTS 0) (replicate limit.SEGMENTS blank) (λ k xs a h. p k xs (omega arith)) (each_blank P limit.SEGMENTS b)

pub segments_fit : (w : List ℕ) (n : ℕ) (ps : List ℕ) → Listed w n ps → Each (Listable w) (segments_of w n ps)
segments_fit w n ps t = each_segment (Listable w) w n ps (λ k xs h. (claim_fit w xs (segment_through w (get_or ps k 0)) (through_fit w (get_or ps k 0) (record { ready = t.ready; low = t.point k h }))).list) (record { spans = inl refl; key = refl })
