-- The acts that write a record's progress only: move on, to the first point (a loop begins, or none does), discard.
use Prim.Native.Nat.{ℕ, suc, ◌≤◌, ◌<◌}
use mathlib.Core.Path.{◌≡◌, refl, ap, ◌∙◌, sym, subst}
use mathlib.Core.Logic.{◌≢◌, inl, inr}
use mathlib.Core.Bool.{Bool, true, false}
use mathlib.Core.List.{List, [], ◌∷◌, ◌++◌}
use mathlib.Core.Option.{Option, none, some}
use native.Mathlib.Omega.{arith}
use lib.ListN.{length}
use borrow.Author.Tests.{eq-eqb}
use Rattle.rings.proofs.Counting.{occ_turn, one_here, occ_head}
use Rattle.rings.proofs.Placing.{place_head, place_turn}
use Rattle.rings.proofs.Walking.{whole_spin, Seen, seen}
use Rattle.rings.specs.Circle.{omap, ahead, turn}
use Rattle.rings.specs.Count.{occ}
use Rattle.rings.specs.Links.{Linked}
use Rattle.rings.specs.Place.{place}
use Rattle.rings.specs.Progress.{Ring, Due, tidy_at, tidy, resting, gone, validity, removal, triangle, split, done, Discard, at_validity, while_removing, at_split}
use Rattle.rings.specs.Walk.{walk}
use Rattle.rings.specs.Whole.{Whole}
use Rattle.lone.specs.Act.{discard, move_on, to_first, apply}
use Rattle.store.proofs.Keeping.{Local, local_kept, once_same, sound_after}
use Rattle.store.proofs.Soundness.{whole, first_on}
use Rattle.store.proofs.Storing.{unwritten, hit}
use Rattle.store.specs.Field.{RecordCol, pt, rc, ct, X, Y, Z, NEXT, PREV, REC, FIRST, MARK, PRESENT, START, REASON, POINTS, RECORDS, NONE}
use Rattle.store.specs.Reason.{JOINED, reason_number, discard_of, is_kept}
use Rattle.store.specs.Sound.{pts, recs, ringless, ring_at, due_at, mark_of, Closed, lone_due, lone_at}
use Rattle.store.specs.Good.{PointIn, Good, Sound}
use Rattle.store.specs.Words.{Store}
use Rattle.store.specs.Stores.{on_store}
use Rattle.acts.proofs.Positions.{Positioned, Loop, loop, occ_from, lone_is, good_is}
use Rattle.acts.proofs.Representing.{ActDone}
use Rattle.acts.specs.Rep.{in_loop}
use Rattle.acts.specs.Writes.{move_writes, to_first_writes, discard_writes}

-- a store that differs from s in record i's columns only
pub record OnRecord (s s' : Store) (i : ℕ) : Type 0 where
  pub counts : (f : _) → s' (ct f) ≡ s (ct f)
  pub points : (f : _) → s' (pt f) ≡ s (pt f)
  pub records : (f : RecordCol) (j : ℕ) → j ≢ i → s' (rc f) j ≡ s (rc f) j

module _ (s s' : Store) (i : ℕ) (R : OnRecord s s' i) where
  pub pts_same : pts s' ≡ pts s
  pts_same = ap (λ (g : ℕ → ℕ). g 0) (R.counts POINTS)

  pub recs_same : recs s' ≡ recs s
  recs_same = ap (λ (g : ℕ → ℕ). g 0) (R.counts RECORDS)

  pub local : Local s s' i
  local =
      record {
        points_up = omega (arith, pts_same);
        records_up = omega (arith, recs_same);
        records = λ f j l d. R.records f j d;
        xs = λ k l. ap (λ (g : ℕ → ℕ). g k) (R.points X);
        ys = λ k l. ap (λ (g : ℕ → ℕ). g k) (R.points Y);
        zs = λ k l. ap (λ (g : ℕ → ℕ). g k) (R.points Z);
        nexts = λ k l e. ap (λ (g : ℕ → ℕ). g k) (R.points NEXT);
        prevs = λ k l e. ap (λ (g : ℕ → ℕ). g k) (R.points PREV);
        recordings = λ k l e. ap (λ (g : ℕ → ℕ). g k) (R.points REC);
      }

  pub point_in_lem : (k : ℕ) → PointIn s k → PointIn s' k
  point_in_lem k t = record { below = rw pts_same t.below; x_in = rw (R.points X) t.x_in; y_in = rw (R.points Y) t.y_in; record_in = rw (recs_same, R.points REC) t.record_in }

  pub whole_same : (c : List ℕ) → Whole (s (pt NEXT)) (s (pt PREV)) (pts s) c → Whole (s' (pt NEXT)) (s' (pt PREV)) (pts s') c
  whole_same c w = rw (R.points NEXT, R.points PREV, pts_same) w

  -- the store is sound if record i's ring has the points that it had, or fewer
  pub still_sound : Sound s → i < recs s → Good s' i → ((k : ℕ) → occ k (ring_at s' i) ≤ occ k (ring_at s i)) → Sound s'
  still_sound o h g t =
      sound_after s s' o i (local_kept s s' o i h local) (rw pts_same o.few_points) (rw recs_same o.few_records) g (λ j a b. absurd (omega (arith, recs_same)))
      (once_same s s' o i (local_kept s s' o i h local) h recs_same (λ k l. t k) (λ k l. omega (arith, t k, outside k l)))
    where
      outside : (k : ℕ) → pts s ≤ k → occ k (ring_at s i) ≤ 1
      outside k l = (whole s o i h).once k

-- the rule that discarded a ring, as it is kept
pub discard_reason : (y : Discard) → discard_of (reason_number y) ≡ some y
discard_reason at_validity = refl
discard_reason while_removing = refl
discard_reason at_split = refl

discard_kept : (y : Discard) → is_kept (reason_number y) ≡ true
discard_kept at_validity = refl
discard_kept while_removing = refl
discard_kept at_split = refl

not_joined : (y : Discard) → reason_number y ≢ JOINED
not_joined at_validity e = omega arith
not_joined while_removing e = omega arith
not_joined at_split e = omega arith

-- the circle seen from the next place
pub turned : (n p : ℕ → ℕ) (x : ℕ) (xs : List ℕ) → Linked n p (x ∷ xs) → (l : List ℕ) × (turn (x ∷ xs) ≡ n x ∷ l)
turned n p x [] w = ([], ap (λ (y : ℕ). y ∷ []) (sym w.0))
turned n p x (y ∷ ys) w = (ys ++ (x ∷ []), ap (λ (z : ℕ). z ∷ ys ++ (x ∷ [])) (sym w.0))

-- outside the loops the lone ring is the ring from the first point
pub rested : (s : Store) (i : ℕ) (d : Due) → in_loop d ≡ false → (l : List ℕ) → ringless s i ≡ false → due_at s i ≡ d → walk (s (pt NEXT)) (s (rc FIRST) i) ≡ s (rc FIRST) i ∷ l
    → lone_at s i ≡ resting d none (s (rc FIRST) i ∷ l)
rested s i d h l r m w = rw (r, m) (go d h)
  where
    go : (due : Due) → in_loop due ≡ false → lone_due s i due ≡ resting due none (s (rc FIRST) i ∷ l)
    go validity e = ap (resting validity none) w
    go removal e = let y : ◌≡◌ {A = ℕ} 0 1 = cc in absurd (omega arith)
    go triangle e = ap (resting triangle none) w
    go split e = let y : ◌≡◌ {A = ℕ} 0 1 = cc in absurd (omega arith)
    go done e = ap (resting done none) w

module _ (W : Type 0) (s : Store) (o : Sound s) (i : ℕ) (c : Closed s i) where
  module _ (d : Due) where
    move_on_lem : OnRecord s (on_store s (move_writes s i d)) i
    move_on_lem = record { counts = λ f. refl; points = λ f. refl; records = λ f j n. unwritten s (move_writes s i d) (rc f) j (inr n, (inr n, tt)) }

    pub move_steps : (d₀ : Due) → due_at s i ≡ d₀ → in_loop d₀ ≡ true → ActDone {W = W} s (on_store s (move_writes s i d)) i (move_on d)
    move_steps d₀ m h =
        let s' : Store = on_store s (move_writes s i d) in
        let x : ℕ = s (rc PRESENT) i in
        let b : Loop s i x d₀ = loop s o i x d₀ c refl m h in
        let t = turned (s (pt NEXT)) (s (pt PREV)) x b.others b.whole.linked in
        let f : ℕ = ahead (suc (length b.others)) b.far in
        let st : Option ℕ = omap (ahead (suc (length b.others))) (place (s (rc START) i) (x ∷ b.others)) in
        let not_there : occ x b.others ≡ 0 = omega (arith, b.whole.once x, one_here x) in
        let w : Whole (s (pt NEXT)) (s (pt PREV)) (pts s) (s (pt NEXT) x ∷ t.0) = subst (Whole (s (pt NEXT)) (s (pt PREV)) (pts s)) t.1 (whole_spin _ _ _ 1 (x ∷ b.others) b.whole) in
        let a : Positioned s' i (s (pt NEXT) x) t.0 f st d =
        record {
          few = o.few_points;
          present_is = hit i (s (pt NEXT) x) x;
          mark_is = hit i (mark_of d) (s (rc MARK) i);
          whole = whole_same s s' i move_on_lem _ w;
          first_at = ap (place (s (rc FIRST) i)) (sym t.1) ∙ place_turn (s (rc FIRST) i) x b.others not_there ∙ ap (omap (ahead (suc (length b.others)))) b.first_at;
          start_at = ap (place (s (rc START) i)) (sym t.1) ∙ place_turn (s (rc START) i) x b.others not_there;
        } in
        let oc : (k : ℕ) → occ k (s (pt NEXT) x ∷ t.0) ≡ occ k (ring_at s i) = λ k. ap (occ k) (sym t.1) ∙ occ_turn k (x ∷ b.others) ∙ sym (b.occs k) in
        let g : Good s' i = good_is s' i _ _ f st d a (λ k p. point_in_lem s s' i move_on_lem k ((o.good i c.known).points_in_lem k (rw (oc k) at p))) (o.good i c.known).owner in
        record {
          kept = local_kept s s' o i c.known (local s s' i move_on_lem);
          sound = still_sound s s' i move_on_lem o c.known g (λ k. omega (arith, occ_from s' i _ _ f st d a k, oc k));
          points = omega arith;
          flags = refl;
          is_cut_from = refl;
          start_is = inr (record { known = c.known; same = refl; looped = λ k. (c, b.looping) });
          ring = λ h. lone_is s' i _ _ f st d a ∙ ap (λ (y : List ℕ). tidy_at y f st d none) (sym t.1) ∙ ap (λ (r : Ring ℕ). tidy (apply (λ (v : W). pts s) (move_on d) r)) (sym b.lone_is);
          made = refl;
        }

    to_first_lem : OnRecord s (on_store s (to_first_writes s i d)) i
    to_first_lem = record { counts = λ f. refl; points = λ f. refl; records = λ f j n. unwritten s (to_first_writes s i d) (rc f) j (inr n, (inr n, (inr n, tt))) }

    pub to_first_steps : (d₀ : Due) → due_at s i ≡ d₀ → in_loop d₀ ≡ false → ActDone {W = W} s (on_store s (to_first_writes s i d)) i (to_first d)
    to_first_steps d₀ m h =
        let s' : Store = on_store s (to_first_writes s i d) in
        let x : ℕ = s (rc FIRST) i in
        let b : Seen (s (pt NEXT)) (s (pt PREV)) (pts s) (ring_at s i) x = seen _ _ (pts s) (ring_at s i) x o.few_points (whole s o i c.known) (first_on s i c.ringed) in
        let q : lone_at s i ≡ resting d₀ none (x ∷ b.others) = rested s i d₀ h b.others c.ringed m b.walked in
        let a : Positioned s' i x b.others 0 (some 0) d =
        record {
          few = o.few_points;
          present_is = hit i x (s (rc PRESENT) i);
          mark_is = hit i (mark_of d) (s (rc MARK) i);
          whole = whole_same s s' i to_first_lem _ b.whole;
          first_at = place_head x b.others;
          start_at = ap (λ (n : ℕ). place n (x ∷ b.others)) (hit i x (s (rc START) i)) ∙ place_head x b.others;
        } in
        let g : Good s' i = good_is s' i _ _ 0 (some 0) d a (λ k p. point_in_lem s s' i to_first_lem k ((o.good i c.known).points_in_lem k (rw (b.occs k) at p))) (o.good i c.known).owner in
        record {
          kept = local_kept s s' o i c.known (local s s' i to_first_lem);
          sound = still_sound s s' i to_first_lem o c.known g (λ k. omega (arith, occ_from s' i _ _ 0 (some 0) d a k, b.occs k));
          points = omega arith;
          flags = refl;
          is_cut_from = refl;
          start_is = inl (rw (hit i x (s (rc START) i)) (b.whole.below x (occ_head x b.others)));
          ring = λ h. lone_is s' i _ _ 0 (some 0) d a ∙ ap (λ (r : Ring ℕ). tidy (apply (λ (v : W). pts s) (to_first d) r)) (sym q);
          made = refl;
        }

  discards : (y : Discard) → OnRecord s (on_store s (discard_writes i y)) i
  discards y = record { counts = λ f. refl; points = λ f. refl; records = λ f j n. unwritten s (discard_writes i y) (rc f) j (inr n, (inr n, (inr n, tt))) }

  pub discard_steps : (y : Discard) → ActDone {W = W} s (on_store s (discard_writes i y)) i (discard y)
  discard_steps y =
      let s' : Store = on_store s (discard_writes i y) in
      let e : s' (rc FIRST) i ≡ NONE = hit i NONE (s (rc FIRST) i) in
      let n : ringless s' i ≡ true = eq-eqb (s' (rc FIRST) i) NONE e in
      let r : ring_at s' i ≡ [] = rw n refl in
      let w : s' (rc REASON) i ≡ reason_number y = hit i (reason_number y) (s (rc REASON) i) in
      let g : Good s' i =
      record {
        linked = rw r tt;
        points_in_lem = λ k p. absurd (omega (arith, ap (occ k) r));
        owner = (o.good i c.known).owner;
        meant = λ z. absurd (no_ring z.ringed n);
        going = λ z q. absurd (no_ring z.ringed n);
        explained = λ z. record { kept = ap is_kept w ∙ discard_kept y; taker = λ q. absurd (not_joined y (sym w ∙ q)) };
      } in
      record {
        kept = local_kept s s' o i c.known (local s s' i (discards y));
        sound = still_sound s s' i (discards y) o c.known g (λ k. omega (arith, ap (occ k) r));
        points = omega arith;
        flags = refl;
        is_cut_from = refl;
        start_is = inr (record { known = c.known; same = refl; looped = λ k. absurd (no_ring k.0.ringed n) });
        ring = λ h. rw n (ap gone (ap discard_of w ∙ discard_reason y));
        made = refl;
      }
    where
      no_ring : {b : Bool} → b ≡ false → b ≡ true → ⊥
      no_ring e f = let y : ◌≡◌ {A = ℕ} 0 1 = cc in omega arith
