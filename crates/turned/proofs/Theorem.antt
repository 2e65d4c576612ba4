-- Ask 10, of every job.
use Prim.Native.Nat.{ℕ, ◌%◌, ◌<◌}
use mathlib.Core.Path.{◌≡◌, refl, sym, ap, ◌∙◌, subst}
use mathlib.Core.Bool.{Bool, true, false, cond, not, ◌||◌}
use mathlib.Core.List.{List, reverse}
use native.Mathlib.Omega.{arith}
use lib.Dec.{leb, ltb, eqb}
use lib.ListN.{length, get_or}
use lib.Seq.{set-get_or}
use Rattle.std.specs.Prelude.{Result, Ok, Err}
use Rattle.geometry.specs.declared.Point.{Point}
use Rattle.job.specs.declared.refusal.Refusal.{Refusal}
use Rattle.job.specs.declared.refusal.Refusal.TheVariants as refusal
use Rattle.lone.specs.Plane.{plane}
use Rattle.store.specs.Field.{ct, SETTINGS}
use Rattle.store.specs.Words.{Store, put, view}
use Rattle.store.specs.Named.{settings_of}
use Rattle.store.specs.Sound.{recs}
use Rattle.store.specs.Value.{preserve_collinear}
use Rattle.handed.specs.Handed.{handed_of}
use Rattle.steps.specs.Live.{any_live}
use Rattle.acts.specs.Finish.{RingsEnd, rings_done, rings_full, finish_w}
use Rattle.paths.specs.Wrote.{ok_paths}
use Rattle.paths.specs.Path.{path_at, paths_below, closed_paths, open_paths}
use Rattle.paths.specs.Tray.{fields_of, padded}
use Rattle.paths.specs.Wrote.{Wrote, wrote, build_paths64}
use Rattle.turns.specs.Form.{raised}
use Rattle.opening.specs.Open.{End, end, open_of}
use Rattle.opening.proofs.Accepted.{after_opening_lem}
use Rattle.finishing.specs.Finish.{then_boxed, finish_rings}
use Rattle.finishing.specs.InOneCall.{refused, after_writing, after_steps, after_opening, finish_of}
use Rattle.finishing.proofs.InOneCall.{done_ready, opening_left}
use Rattle.opposite.specs.Opposite.{other_bits, turned_over, all_on_ground, opposite}
use Rattle.opposite.specs.Turned.{TurnedOr, AllTurned, walk_at, walks_below}
use Rattle.opposite.proofs.Stores.{kept_bit, walk_other, path_other, all_other, below_other}
use Rattle.listing.specs.Senses.{words_of}
use Rattle.listing.proofs.Senses.{words_stay}
use Rattle.telling.specs.declared.Reason.{Reason}
use Rattle.telling.specs.Telling.{reason_at, reason_by, reason_of}
use Rattle.turned.specs.Turned.{turned_round, tray_bytes, EitherWay, both_give, both_refuse, TurningRound}
use Rattle.turned.proofs.Bits.{same_range, one_bit}
use Rattle.turned.proofs.Settings.{re, length_re, settings_re, view_re}
use Rattle.turned.proofs.Judging.{handed_re}
use Rattle.turned.proofs.Opening.{settings_put, re_open, open_re}
use Rattle.turned.proofs.Lists.{as_many, same_used, areas_other, net_other, size_other, charges_other}
use Rattle.turned.proofs.Boxes.{then_boxed_re}
use Rattle.turned.proofs.Finishing.{re_rings, recs_re, any_live_re, finish_re}
use Rattle.turned.proofs.Reasons.{reason_same}

-- ---- what two stores show that differ in the setting only

record OfStores (s s' : Store) : Type 0 where
  opposed : (o : Bool) → all_on_ground (paths_below (recs s') o s') ≡ opposite (all_on_ground (paths_below (recs s) o s))
  turned : (o : Bool) → AllTurned (walks_below (recs s) o s) (paths_below (recs s) o s) (paths_below (recs s') o s')
  walked_back : (i : ℕ) → walk_at s' i ≡ reverse (walk_at s i)
  each : (i : ℕ) → TurnedOr (walk_at s i) (path_at s i) (path_at s' i)
  senses : words_of s' ≡ words_of s
  reasons : (j : ℕ) → reason_at s' j ≡ reason_at s j

of_stores : (s : Store) → OfStores s (turned_over s)
of_stores s = record { opposed = below_other s (recs s); turned = all_other s (recs s); walked_back = walk_other s; each = path_other s; senses = words_stay s; reasons = reason_same s }

-- ---- writing out of the two

module _ (v : ℕ) (w t : List ℕ) (d : re v w ≡ put (ct SETTINGS) w 0 (other_bits (settings_of w))) (f : OfStores (view w) (view (re v w))) where
  bytes_are : (s : Store) → fields_of s ≡ tray_bytes (closed_paths s) (open_paths s)
  unfolding fields_of
  bytes_are s = refl

  used : length (fields_of (view (re v w))) ≡ length (fields_of (view w))
  used =
      ap length (bytes_are (view (re v w)))
      ∙ same_used (closed_paths (view w)) (open_paths (view w)) (closed_paths (view (re v w))) (open_paths (view (re v w))) (f.opposed false) (f.opposed true)
      ∙ sym (ap length (bytes_are (view w)))

  told : (j : ℕ) → reason_of (re v w) j ≡ reason_of w j
  unfolding reason_of
  told j = ap (λ (x : Result (Unit {0}) Refusal). reason_by x (re v w) j) (handed_re v w) ∙ go (handed_of w)
    where
      go : (x : Result (Unit {0}) Refusal) → reason_by x (re v w) j ≡ reason_by x w j
      go (Err r) = refl
      go (Ok tt) =
          ap (λ (n : ℕ). cond (not (ltb j n) || any_live (view (re v w))) (Err refusal.OutOfTurn) (Ok (reason_at (view (re v w)) j))) (recs_re v w)
          ∙ ap (λ (b : Bool). cond (not (ltb j (recs (view w))) || b) (Err refusal.OutOfTurn) (Ok (reason_at (view (re v w)) j))) (any_live_re v w)
          ∙ ap (λ (r : Reason). cond (not (ltb j (recs (view w))) || any_live (view w)) (Err refusal.OutOfTurn) (Ok r)) (f.reasons j)

  abbrev X : List ℕ → Wrote
  X u = wrote (ok_paths (length (closed_paths (view u))) (length (open_paths (view u)))) (padded (length t) (fields_of (view u)))

  abbrev Y : Wrote
  Y = wrote (Err refusal.SmallTray) t

  by : (b : Bool) → EitherWay (length t) (after_writing w (cond b (X w) Y).answer (cond b (X w) Y).tray) (after_writing (re v w) (cond b (X (re v w)) Y).answer (cond b (X (re v w)) Y).tray)
  by true =
      let cs : List (List Point) = closed_paths (view w) in
      let ds : List (List Point) = closed_paths (view (re v w)) in
      let os : List (List Point) = open_paths (view w) in
      let ps : List (List Point) = open_paths (view (re v w)) in
      both_give (record {
        closed = cs;
        open_ones = os;
        other_closed = ds;
        other_open = ps;
        this = record { closed = refl; open_ones = refl; answer = refl; tray = ap (padded (length t)) (bytes_are (view w)) };
        that = record { closed = refl; open_ones = refl; answer = refl; tray = ap (padded (length t)) (bytes_are (view (re v w))) };
        as_many_closed = as_many cs ds (f.opposed false);
        as_many_open = as_many os ps (f.opposed true);
        used = same_used cs os ds ps (f.opposed false) (f.opposed true);
        opposed = f.opposed false;
        opposed_open = f.opposed true;
        turned = f.turned false;
        turned_open = f.turned true;
        walked_back = f.walked_back;
        each = f.each;
        signs = areas_other cs ds (f.opposed false);
        net_sign = net_other cs ds (f.opposed false);
        net_size = size_other cs ds (f.opposed false);
        senses = f.senses;
        charges = charges_other cs ds (f.opposed false);
        reasons = f.reasons;
        told = told;
        words = d;
      })
  by false = both_refuse (record { number = refusal.SmallTray; refused = refl; alike = ap (λ (n : ℕ). refused refusal.SmallTray n (length t)) (length_re v w) })

  both_write : EitherWay (length t) (after_writing w (build_paths64 (view w) t).answer (build_paths64 (view w) t).tray) (after_writing (re v w) (build_paths64 (view (re v w)) t).answer (build_paths64 (view (re v w)) t).tray)
  unfolding build_paths64
  both_write =
      subst (λ (n : ℕ). EitherWay (length t) (after_writing w (cond (leb (length (fields_of (view w))) (length t)) (X w) Y).answer (cond (leb (length (fields_of (view w))) (length t)) (X w) Y).tray)
      (after_writing (re v w) (cond (leb n (length t)) (X (re v w)) Y).answer (cond (leb n (length t)) (X (re v w)) Y).tray)) (sym used) (by (leb (length (fields_of (view w))) (length t)))

-- ---- a refusal of both
refuse_both : (x : Refusal) (n m : ℕ) (t : List ℕ) → m ≡ n → EitherWay (length t) (refused x n (length t)) (refused x m (length t))
refuse_both x n m t e = both_refuse (record { number = x; refused = refl; alike = ap (λ (k : ℕ). refused x k (length t)) e })

-- ---- one job that is opened, and the other

module _ (job lent w t : List ℕ) (e : open_of job lent ≡ end (Ok tt) w) where
  -- its settings byte, and the other's
  abbrev k : ℕ
  k = get_or job 3 0

  abbrev v : ℕ
  v = other_bits k

  -- the settings of what opening left are that byte
  keeps : w ≡ re k w
  keeps = let h : end (Ok tt) w ≡ end (Ok tt) (re k w) = sym e ∙ ap (λ (p : List ℕ). open_of p lent) (sym (set-get_or job 3 0)) ∙ open_re k job lent refl ∙ ap (re_open k) e in cc

  not_empty : 0 < length w
  not_empty = let l = (after_opening_lem w job lent e).ready.long in omega arith

  settings_are : settings_of w ≡ k
  settings_are = ap settings_of keeps ∙ settings_re k w not_empty

  one_geometry : preserve_collinear (view (re v w)) ≡ preserve_collinear (view w)
  one_geometry = ap (λ (m : ℕ). eqb (m % 2) 1) (settings_re v w not_empty) ∙ ap (λ (m : ℕ). eqb m 1) (kept_bit k) ∙ ap (λ (m : ℕ). eqb (m % 2) 1) (sym settings_are)

  -- finishing leaves the same words but for the settings, and keeps these
  finish_too : finish_rings (re v w) ≡ re_rings v (finish_rings w)
  unfolding finish_rings
  finish_too =
      ap (λ (b : Bool). then_boxed (finish_w (plane b) raised (re v w))) one_geometry
      ∙ ap then_boxed (finish_re v (plane (preserve_collinear (view w))) raised w)
      ∙ then_boxed_re v (finish_w (plane (preserve_collinear (view w))) raised w)

  finish_keeps : finish_rings w ≡ re_rings k (finish_rings w)
  unfolding finish_rings
  finish_keeps =
      ap (λ (u : List ℕ). then_boxed (finish_w (plane (preserve_collinear (view w))) raised u)) keeps
      ∙ ap then_boxed (finish_re k (plane (preserve_collinear (view w))) raised w)
      ∙ then_boxed_re k (finish_w (plane (preserve_collinear (view w))) raised w)

  -- writing out
  module _ (u : List ℕ) (h : u ≡ re k u) (l : 0 < length u) where
    kept : settings_of u ≡ k
    kept = ap settings_of h ∙ settings_re k u l

    both : EitherWay (length t) (after_writing u (build_paths64 (view u) t).answer (build_paths64 (view u) t).tray) (after_writing (re v u) (build_paths64 (view (re v u)) t).answer (build_paths64 (view (re v u)) t).tray)
    both = both_write v u t (sym (settings_put v u) ∙ ap (λ (n : ℕ). put (ct SETTINGS) u 0 (other_bits n)) (sym kept)) (subst (OfStores (view u)) (sym (view_re v u l (ap other_bits (sym kept)))) (of_stores (view u)))

  accepted : EitherWay (length t) (after_steps (finish_rings w) t) (after_steps (finish_rings (re v w)) t)
  accepted = subst (λ (o : RingsEnd). EitherWay (length t) (after_steps (finish_rings w) t) (after_steps o t)) (sym finish_too) (go (finish_rings w) refl finish_keeps)
    where
      go : (o : RingsEnd) → finish_rings w ≡ o → o ≡ re_rings k o → EitherWay (length t) (after_steps o t) (after_steps (re_rings v o) t)
      go (rings_done u) f h = let g : u ≡ re k u = cc in both u g (omega (arith, (done_ready w u (opening_left job lent w e) f).long))
      go (rings_full u) f h = refuse_both refusal.Full (length u) (length (re v u)) t (length_re v u)

-- ---- Ask 10

either_way : (job lent t : List ℕ) → EitherWay (length t) (finish_of job lent t) (finish_of (turned_round job) lent t)
unfolding finish_of
either_way job lent t = subst (λ (z : End). EitherWay (length t) (after_opening (open_of job lent) t) (after_opening z t)) (sym (open_re (other_bits (get_or job 3 0)) job lent (same_range (get_or job 3 0)))) (go (open_of job lent) refl)
  where
    go : (z : End) → open_of job lent ≡ z → EitherWay (length t) (after_opening z t) (after_opening (re_open (other_bits (get_or job 3 0)) z) t)
    go (end (Ok tt) w) e = accepted job lent w t e
    go (end (Err x) w) e = refuse_both x (length w) (length w) t refl

pub turning_round : (job : List ℕ) → TurningRound job
turning_round job = record { one_bit = one_bit job; either_way = either_way job }
