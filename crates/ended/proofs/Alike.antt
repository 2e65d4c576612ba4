-- Whatever the order of steps, the reasons told are the same, but for numbers.
use mathlib.Core.Path.{◌≡◌, refl, sym, ap, ◌∙◌, subst}
use mathlib.Core.Bool.{Bool, true, false, cond, true≢false}
use mathlib.Core.List.{List, [], ◌∷◌, map}
use mathlib.Core.Option.{Option, none, some}
use Prim.Native.Nat.{ℕ, ◌%◌, ◌/◌, ◌≤◌, ◌<◌}
use native.Mathlib.Omega.{arith}
use lib.Dec.{eqb}
use Rattle.rings.specs.Progress.{Discard, Ring, at_start}
use Rattle.geometry.specs.declared.Point.{Point}
use Rattle.lone.specs.Forest.{State, closed_ring, left_closed, at}
use Rattle.store.specs.Field.{rc, ct, FLAGS, FIRST, REASON, TAKER, SETTINGS, NONE}
use Rattle.store.specs.Words.{Store, view}
use Rattle.store.specs.Reason.{discard_of}
use Rattle.store.specs.Sound.{recs, ringless, is_open}
use Rattle.store.specs.Value.{point_at, ring_points, preserve_collinear, reverse_solution}
use Rattle.paths.specs.Path as paths
use Rattle.paths.specs.Path.{path_at, small_by}
use Rattle.telling.specs.Telling.{kept_reason, path_reason, reason_at}
use Rattle.finishing.specs.Run.{run_of}
use Rattle.finishing.specs.Start.{Start}
use Rattle.order.specs.Demand3.{Lone, fed, lones, AllDoneAfter, Same, none_left, same, SameEnd, why_at, HasRing, Has}
use Rattle.order.proofs.Theorem.{follows, lones_are, after_list, demand_3}
use Rattle.ended.specs.Alike.{kind_of, SameReasons}
use Rattle.ended.proofs.Joining.{no_ring, points_none}
use Rattle.ended.proofs.Stepping.{bare_stays}
use Rattle.ended.proofs.Discarding.{lone_of, rule_kept}
use Rattle.ended.proofs.Telling.{tells_rule, tells_short, tells_small, tells_written}
use Rattle.ended.proofs.Told.{lone_first, lone_later}

-- ---- two stores with the same settings; a record of each, open or closed alike, with the same points

module _ (s t : Store) (g : preserve_collinear s ≡ preserve_collinear t) (e : reverse_solution s ≡ reverse_solution t) (a b : ℕ) (o : is_open s a ≡ is_open t b) (p : ring_points s a ≡ ring_points t b) where
  pub bare_too : ringless s a ≡ true → ringless t b ≡ true
  bare_too r = points_none t b (sym p ∙ ap (map (point_at s)) (no_ring s a r))

  pub ringed_too : ringless s a ≡ false → ringless t b ≡ false
  ringed_too r = go (ringless t b) refl
    where
      go : (c : Bool) → ringless t b ≡ c → ringless t b ≡ false
      go false h = h
      go true h = absurd (true≢false (sym (points_none s a (p ∙ ap (map (point_at t)) (no_ring t b h))) ∙ r))

  points_too : paths.points_at s a ≡ paths.points_at t b
  unfolding paths.point_at
  points_too = p

  pub path_too : path_at s a ≡ path_at t b
  unfolding path_at
  path_too = rw (g, e, o, points_too)

  pub small_too : small_by s (reverse_solution s) (is_open s a) a ≡ small_by t (reverse_solution t) (is_open t b) b
  small_too = rw (g, e, o, points_too)

  -- with rings
  alike_ringed : ringless s a ≡ false → kind_of (reason_at s a) ≡ kind_of (reason_at t b)
  alike_ringed r = go (path_at s a) refl (small_by s (reverse_solution s) (is_open s a) a) refl
    where
      go : (x : Option (List Point)) → path_at s a ≡ x → (c : Bool) → small_by s (reverse_solution s) (is_open s a) a ≡ c → kind_of (reason_at s a) ≡ kind_of (reason_at t b)
      go none h true c = rw (tells_small s a r h c, tells_small t b (ringed_too r) (sym path_too ∙ h) (sym small_too ∙ c))
      go none h false c = rw (tells_short s a r h c, tells_short t b (ringed_too r) (sym path_too ∙ h) (sym small_too ∙ c))
      go (some l) h c d = rw (tells_written s a r l h, tells_written t b (ringed_too r) l (sym path_too ∙ h), o)

  -- discarded, by the same rule
  alike_gone : (y : Discard) → ringless s a ≡ true → discard_of (s (rc REASON) a) ≡ some y → why_at s a ≡ why_at t b → kind_of (reason_at s a) ≡ kind_of (reason_at t b)
  alike_gone y r h k =
      let r' : ringless t b ≡ true = bare_too r in
      let h' : discard_of (t (rc REASON) b) ≡ some y = sym (ap (λ (c : Bool). cond c (discard_of (t (rc REASON) b)) none) r') ∙ sym k ∙ ap (λ (c : Bool). cond c (discard_of (s (rc REASON) a)) none) r ∙ h in
      ap kind_of (tells_rule s a r y h ∙ sym (tells_rule t b r' y h'))

-- ---- after two lists

module _ (w : List ℕ) (o : Start w) (is js : List ℕ) where
  abbrev s : Store
  s = view (run_of w is)

  abbrev t : Store
  t = view (run_of w js)

  settings : s (ct SETTINGS) 0 ≡ t (ct SETTINGS) 0
  settings = (follows w o is).settings ∙ sym (follows w o js).settings

  keeping : preserve_collinear s ≡ preserve_collinear t
  keeping = ap (λ (n : ℕ). eqb (n % 2) 1) settings

  direction : reverse_solution s ≡ reverse_solution t
  direction = ap (λ (n : ℕ). eqb (n / 2 % 2) 1) settings

  -- lone rings with the same points and rule
  alike_lone : (a b : ℕ) (q q' : Option ℕ) (L L' : State (Ring Point)) → at (lones w is) a ≡ closed_ring q L → at (lones w js) b ≡ closed_ring q' L' → a < recs s → b < recs t
      → ring_points s a ≡ ring_points t b → why_at s a ≡ why_at t b → kind_of (reason_at s a) ≡ kind_of (reason_at t b)
  alike_lone a b q q' L L' e e' l l' p y = go (ringless s a) refl
    where
      h : HasRing s a q L
      h = subst (Has s a) e ((after_list w o is).rings a l)

      h' : HasRing t b q' L'
      h' = subst (Has t b) e' ((after_list w o js).rings b l')

      go : (c : Bool) → ringless s a ≡ c → kind_of (reason_at s a) ≡ kind_of (reason_at t b)
      go false r = alike_ringed s t keeping direction a b (h.closed ∙ sym h'.closed) p r
      go true r =
          let f = ap (λ (es : List Lone). at es a) (lones_are w o is) ∙ e in
          let k = rule_kept w o is a q L (lone_of w o is a q L f) f r in
          alike_gone s t keeping direction a b (h.closed ∙ sym h'.closed) p k.rule r k.kept y

  heads : (xs ys : List ℕ) → Same s t xs ys → (a b : ℕ) (cs ds : List ℕ) → xs ≡ a ∷ cs → ys ≡ b ∷ ds → (ring_points s a ≡ ring_points t b) × (why_at s a ≡ why_at t b)
  heads xs ys none_left a b cs ds e f = let z : ◌≡◌ {A = ℕ} 0 1 = cc in absurd (omega arith)
  heads xs ys (same {j = j} {k = k} p q y c r) a b cs ds e f =
      let u : a ≡ j = cc in
      let v : k ≡ b = cc in
      (ap (ring_points s) u ∙ p ∙ ap (ring_points t) v, ap (why_at s) u ∙ y ∙ ap (why_at t) v)

  module _ (d : AllDoneAfter w is) (d' : AllDoneAfter w js) where
    ends : SameEnd w is js
    ends = (demand_3 w o).whatever_order is js d d'

    grown : (ks : List ℕ) → recs (view w) ≤ recs (view (run_of w ks))
    grown ks = omega (arith, (after_list w o ks).records_used)

    of_record : (j : ℕ) → j < recs (view w) → kind_of (reason_at s j) ≡ kind_of (reason_at t j)
    unfolding reason_at
    of_record j l = go (ringless (view w) j) refl (is_open (view w) j) refl
      where
        go : (a : Bool) → ringless (view w) j ≡ a → (b : Bool) → is_open (view w) j ≡ b → kind_of (reason_at s j) ≡ kind_of (reason_at t j)
        go true r b c = ap kind_of (bare is ∙ sym (bare js))
          where
            bare : (ks : List ℕ) → reason_at (view (run_of w ks)) j ≡ kept_reason (view w (rc REASON) j) (view w (rc TAKER) j)
            bare ks =
                let k = bare_stays w o ks j l r in
                ap (λ (x : Bool). cond x (kept_reason (view (run_of w ks) (rc REASON) j) (view (run_of w ks) (rc TAKER) j)) (path_reason (view (run_of w ks)) j)) (ap (λ (x : ℕ). eqb x NONE) (k.words FIRST) ∙ r)
                ∙ ap (λ (x : ℕ). kept_reason x (view (run_of w ks) (rc TAKER) j)) (k.words REASON) ∙ ap (kept_reason (view w (rc REASON) j)) (k.words TAKER)
        go false r true c =
            let x = (after_list w o is).open_rings j l c in
            let y = (after_list w o js).open_rings j l c in
            alike_ringed s t keeping direction j j (ap (λ (n : ℕ). eqb (n % 2) 1) (x.words FLAGS ∙ sym (y.words FLAGS))) (x.points ∙ sym y.points) (ap (λ (n : ℕ). eqb n NONE) (x.words FIRST) ∙ r)
        go false r false c =
            let f : fed w j ≡ left_closed (at_start (ring_points (view w) j)) = rw (r, c) in
            let h = heads (j ∷ []) (j ∷ []) (ends.rings j (at_start (ring_points (view w) j)) l f) j j [] [] refl refl in
            alike_lone j j none none _ _ (lone_first w o is j l r c) (lone_first w o js j l r c) (omega (arith, grown is)) (omega (arith, grown js)) h.0 h.1

    -- THE THEOREM
    pub same_reasons : SameReasons w is js
    same_reasons =
        record {
          records = of_record;
          offcuts = λ a b cs ds m l m' l' e.
              let x = lone_later w o is a m l in
              let y = lone_later w o js b m' l' in
              let h = heads (a ∷ cs) (b ∷ ds) e a b cs ds refl refl in
              alike_lone a b x.0 y.0 x.1 y.1 x.2 y.2 l l' h.0 h.1;
        }
