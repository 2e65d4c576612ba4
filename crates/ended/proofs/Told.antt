-- THE THEOREM: of a finished work space, exactly one of the eight happened to each record, and it is the one told.
use mathlib.Core.Path.{◌≡◌, refl, sym, ap, ◌∙◌, subst}
use mathlib.Core.Bool.{Bool, true, false, cond, true≢false}
use mathlib.Core.List.{List, [], map}
use mathlib.Core.Option.{Option, none, some}
use Prim.Native.Nat.{ℕ, ◌%◌, ◌≤◌, ◌<◌}
use native.Mathlib.Omega.{arith}
use native.Mathlib.Decide.{dec_lt}
use lib.Dec.{eqb}
use lib.ListN.{length, get_elem?, length-map}
use borrow.Author.Tests.{eqb-true}
use Rattle.std.proofs.Common.{Ok}
use Rattle.rings.specs.Progress.{Discard, Ring, at_start, gone}
use Rattle.geometry.specs.declared.Point.{Point}
use Rattle.lone.specs.Forest.{State, initial, closed_ring, Fed, left_closed, enter, at, offcuts_of, rank, steps_state, steps_entry}
use Rattle.lone.specs.Lone.{from_first}
use Rattle.lone.specs.Order.{IsOffcut, Alone}
use Rattle.lone.specs.Path.{build_path64_from_outpt}
use Rattle.lone.specs.Plane.{plane}
use Rattle.lone.proofs.Stepping.{at_closed}
use Rattle.store.specs.Field.{rc, FLAGS, FIRST, REASON, TAKER, NONE}
use Rattle.store.specs.Words.{Store, view}
use Rattle.store.specs.Named.{records_of, first_of, taker_of}
use Rattle.store.specs.Reason.{NO_RING, JOINED, discard_of}
use Rattle.store.specs.Sound.{recs, ringless, is_open}
use Rattle.store.specs.Value.{ring_points, preserve_collinear, reverse_solution}
use Rattle.paths.specs.Path as paths
use Rattle.paths.specs.Path.{path_at, small_by}
use Rattle.telling.specs.declared.Reason.{Reason}
use Rattle.telling.specs.declared.Reason.TheVariants.{NoRing, Joined}
use Rattle.telling.specs.Telling.{discard_reason, reason_at}
use Rattle.opening.specs.Open.{end, open_of}
use Rattle.opening.specs.After.{OpenAsGiven}
use Rattle.opening.proofs.Accepted.{accepts, open_as_given}
use Rattle.finishing.specs.Run.{run_of, granted}
use Rattle.finishing.specs.Start.{Start}
use Rattle.finishing.proofs.InOneCall.{opening_left}
use Rattle.order.specs.Demand3.{M, G, Lone, fed, lones, HasRing, Has}
use Rattle.order.proofs.Table.{opened_is}
use Rattle.order.proofs.Theorem.{os, follows, lones_are, after_list}
use Rattle.order.proofs.Beginning.{entered, opened_begins}
use Rattle.ended.specs.Discarded.{DiscardedBy}
use Rattle.ended.specs.Joined.{EmptiedAt}
use Rattle.ended.specs.Stages.{Stages}
use Rattle.ended.specs.Ended.{OfOpen, FedWith, as_left, as_cut, Ended, no_ring, joined, discarded, short, small, written, Tells}
use Rattle.ended.proofs.Gone.{by_discarded}
use Rattle.ended.proofs.Joining as joining
use Rattle.ended.proofs.Joining.{ringless_by, points_none}
use Rattle.ended.proofs.Stepping.{bare_stays}
use Rattle.ended.proofs.Discarding.{LoneOf, seed_begins, rule_kept}
use Rattle.ended.proofs.Opened.{stages, LeftBare, none_left, taken_left, WhyBare, read_none, emptied, why_bare}
use Rattle.ended.proofs.Telling.{tells_none, tells_joined, tells_rule, tells_short, tells_small, tells_written, in_list, own_list, call_tells}

-- ---- a record: opening left it without a ring, or open, or it has a lone ring

module _ (w : List ℕ) (o : Start w) (is : List ℕ) (j : ℕ) where
  alone : Alone (M w) (os w o) (lones w is) (granted w is)
  alone = subst (λ (l : List (Fed (Ring Point) (List Point))). Alone (M w) l (lones w is) (granted w is)) (opened_is w) (after_list w o is).alone

  count : length (os w o) ≡ recs (view w)
  count = sym (length-map (os w o) enter) ∙ (follows w o []).rep.rep.in_step.records_are

  -- fed with a ring that opening left
  fed_first : (R : Ring Point) → j < recs (view w) → fed w j ≡ left_closed R → at (lones w is) j ≡ closed_ring none (steps_state (M w) (granted w is j) (initial R))
  fed_first R l e =
      alone.opened j (omega (arith, count))
      ∙ ap (steps_entry (M w) (granted w is j)) (entered w o j l)
      ∙ ap (λ (x : Fed (Ring Point) (List Point)). steps_entry (M w) (granted w is j) (enter x)) e

  -- left closed
  fed_closed : ringless (view w) j ≡ false → is_open (view w) j ≡ false → fed w j ≡ left_closed (at_start (ring_points (view w) j))
  fed_closed r c = rw (r, c)

  pub lone_first : j < recs (view w) → ringless (view w) j ≡ false → is_open (view w) j ≡ false → at (lones w is) j ≡ closed_ring none (steps_state (M w) (granted w is j) (initial (at_start (ring_points (view w) j))))
  lone_first l r c = fed_first (at_start (ring_points (view w) j)) l (fed_closed r c)

  -- made since
  its_offcut : recs (view w) ≤ j → j < recs (view (run_of w is)) → IsOffcut (M w) (lones w is) (granted w is) j
  its_offcut m l = alone.offcut j (omega (arith, count)) (omega (arith, (after_list w o is).count))

  pub lone_later : recs (view w) ≤ j → j < recs (view (run_of w is)) → (q : Option ℕ) × (L : State (Ring Point)) × (at (lones w is) j ≡ closed_ring q L)
  lone_later m l =
      let c = its_offcut m l in
      (some c.from, steps_state (M w) (granted w is j) (initial c.seed), c.is)

  -- what its lone ring was fed with says where that is now
  pub lone_fed : (c : List Point) → FedWith w is j c → (q : Option ℕ) × (at (lones w is) j ≡ closed_ring q (steps_state (M w) (granted w is j) (initial (at_start c))))
  lone_fed c (as_left l e) = (none, fed_first (at_start c) l e)
  lone_fed c (as_cut m f e) = (some f.from, f.is ∙ ap (λ (R : Ring Point). closed_ring (some f.from) (steps_state (M w) (granted w is j) (initial R))) e)

  -- without a ring it was not left open
  data Whose : Type 0 where
    left_so : j < recs (view w) → ringless (view w) j ≡ true → Whose
    lone : (c : List Point) → 1 ≤ length c → FedWith w is j c → Whose

  whose : j < recs (view (run_of w is)) → ringless (view (run_of w is)) j ≡ true → Whose
  whose l r = by (dec_lt j (recs (view w)))
    where
      go : j < recs (view w) → (a : Bool) → ringless (view w) j ≡ a → (b : Bool) → is_open (view w) j ≡ b → Whose
      go h true e b f = left_so h e
      go h false e true f = absurd (true≢false (sym r ∙ ap (λ (x : ℕ). eqb x NONE) (((after_list w o is).open_rings j h f).words FIRST) ∙ e))
      go h false e false f =
          let b = opened_begins w o j none (initial (at_start (ring_points (view w) j))) (entered w o j h ∙ ap enter (fed_closed e f)) in
          lone b.0 b.1 (as_left h (fed_closed e f ∙ ap (λ (L : State (Ring Point)). left_closed L.now) b.2))

      by : Dec (j < recs (view w)) → Whose
      by (yes h) = go h (ringless (view w) j) refl (is_open (view w) j) refl
      by (no d) =
          let u = its_offcut (omega arith) l in
          let b = seed_begins w o is u.from (rank (lones w is) u.from j) u.seed (ap (λ (es : List Lone). get_elem? (offcuts_of (at es u.from)) (rank (lones w is) u.from j)) (lones_are w o is) ∙ u.cut_as) in
          lone b.0 b.1 (as_cut (omega arith) u b.2)

  -- back: what a step discarded has no ring, and the words keep that step's rule
  pub rule_back : (q : Option ℕ) (c : List Point) (k : ℕ) (y : Discard) → at (lones w is) j ≡ closed_ring q (steps_state (M w) k (initial (at_start c))) → DiscardedBy (G w) c k y → j < recs (view (run_of w is))
      → (ringless (view (run_of w is)) j ≡ true) × (discard_of (view (run_of w is) (rc REASON) j) ≡ some y)
  rule_back q c k y e d l =
      let s = view (run_of w is) in
      let h : HasRing s j q (steps_state (M w) k (initial (at_start c))) = subst (Has s j) e ((after_list w o is).rings j l) in
      let g : (steps_state (M w) k (initial (at_start c))).now ≡ gone (some y) = by_discarded (G w) c k y d in
      let r : ringless s j ≡ true = points_none s j (h.points ∙ ap from_first g) in
      (r, sym (ap (λ (b : Bool). cond b (discard_of (s (rc REASON) j)) none) r) ∙ h.why ∙ ap (λ (R : Ring Point). R.why) g)

-- ---- of an accepted job

module _ (bytes lent w : List ℕ) (f : open_of bytes lent ≡ end (Ok tt) w) (is : List ℕ) (j : ℕ) where
  abbrev s : Store
  s = view (run_of w is)

  abbrev t : Stages bytes lent w
  t = stages bytes lent w f

  abbrev o : Start w
  o = opening_left bytes lent w f

  -- a record that opening left without a ring, after the steps
  bare : (v u : ℕ) → LeftBare bytes lent w (accepts w bytes lent f).0 t j v u → (ringless s j ≡ true) × (s (rc REASON) j ≡ v) × (s (rc TAKER) j ≡ u)
  bare v u b =
      let k = bare_stays w o is j b.low b.none in
      (ap (λ (x : ℕ). eqb x NONE) (k.words FIRST) ∙ b.none, k.words REASON ∙ b.kept, k.words TAKER ∙ b.taker)

  tells_read : j < records_of t.read → first_of t.read j ≡ NONE → reason_at s j ≡ NoRing
  tells_read l e = let b = bare NO_RING (taker_of t.levelled j) (none_left bytes lent w (accepts w bytes lent f).0 t j l e) in tells_none s j b.0 b.1

  tells_taken : (m u : ℕ) → m < t.many → EmptiedAt t.joins t.levelled m u j → reason_at s j ≡ Joined u
  tells_taken m u l d = let b = bare JOINED u (taken_left bytes lent w (accepts w bytes lent f).0 t j m u l d) in tells_joined s j b.0 u b.1 b.2

  tells_discarded : j < recs s → (q : Option ℕ) (c : List Point) (k : ℕ) (y : Discard) → at (lones w is) j ≡ closed_ring q (steps_state (M w) k (initial (at_start c))) → DiscardedBy (G w) c k y → reason_at s j ≡ discard_reason (some y)
  tells_discarded l q c k y e d = let b = rule_back w o is j q c k y e d l in tells_rule s j b.0 y b.1

  ringed : (p : List Point) → path_at s j ≡ some p → ringless s j ≡ false
  unfolding path_at build_path64_from_outpt
  ringed p e = go (ringless s j) refl
    where
      none_built : (rev o : Bool) → build_path64_from_outpt (plane (preserve_collinear s)) rev o [] ≡ none
      none_built rev true = refl
      none_built rev false = refl

      go : (b : Bool) → ringless s j ≡ b → ringless s j ≡ false
      go false r = r
      go true r =
          let z : ◌≡◌ {A = Option (List Point)} none (some p) = sym (none_built (reverse_solution s) (is_open s j)) ∙ ap (λ (c : List ℕ). build_path64_from_outpt (plane (preserve_collinear s)) (reverse_solution s) (is_open s j) (map (paths.point_at s) c)) (sym (joining.no_ring s j r)) ∙ e in
          let y : ◌≡◌ {A = ℕ} 0 1 = cc in absurd (omega arith)

  only : j < recs s → (r : Reason) → Ended bytes lent w t is j r → r ≡ reason_at s j
  only l r (no_ring h e) = sym (tells_read h e)
  only l r (joined m u h d) = sym (tells_taken m u h d)
  only l r (discarded c y f d) = let x = lone_fed w o is j c f in sym (tells_discarded l x.0 c (granted w is j) y x.1 d)
  only l r (short h e b) = sym (tells_short s j h e b)
  only l r (small h e b) = sym (tells_small s j h e b)
  only l r (written p after e h) = sym (tells_written s j (ringed p e) p e)

  -- with a ring
  told_path : j < recs s → ringless s j ≡ false → Ended bytes lent w t is j (reason_at s j)
  told_path l r = go (path_at s j) refl (small_by s (reverse_solution s) (is_open s j) j) refl
    where
      go : (x : Option (List Point)) → path_at s j ≡ x → (b : Bool) → small_by s (reverse_solution s) (is_open s j) j ≡ b → Ended bytes lent w t is j (reason_at s j)
      go none e true h = subst (Ended bytes lent w t is j) (sym (tells_small s j r e h)) (small r e h)
      go none e false h = subst (Ended bytes lent w t is j) (sym (tells_short s j r e h)) (short r e h)
      go (some p) e b h =
          let i = in_list s (is_open s j) j p (own_list s j p e) (recs s) l in
          subst (Ended bytes lent w t is j) (sym (tells_written s j r p e)) (written p i.0 e i.1)

  -- without
  told_none : ringless s j ≡ true → Whose w o is j → Ended bytes lent w t is j (reason_at s j)
  told_none r (left_so l e) = go (why_bare bytes lent w (accepts w bytes lent f).0 t j l e)
    where
      go : WhyBare bytes lent w (accepts w bytes lent f).0 t j → Ended bytes lent w t is j (reason_at s j)
      go (read_none h d) = subst (Ended bytes lent w t is j) (sym (tells_read h d)) (no_ring h d)
      go (emptied m u h d) = subst (Ended bytes lent w t is j) (sym (tells_taken m u h d)) (joined m u h d)
  told_none r (lone c h f) =
      let x = lone_fed w o is j c f in
      let L : State (Ring Point) = steps_state (M w) (granted w is j) (initial (at_start c)) in
      let a : LoneOf w o L = record { points = c; some_points = h; steps = granted w is j; is = refl } in
      let k = rule_kept w o is j x.0 L a (ap (λ (es : List Lone). at es j) (lones_are w o is) ∙ x.1) r in
      subst (Ended bytes lent w t is j) (sym (tells_rule s j r k.rule k.kept)) (discarded c k.rule f k.by)

  told : j < recs s → Ended bytes lent w t is j (reason_at s j)
  told l = go (ringless s j) refl
    where
      go : (b : Bool) → ringless s j ≡ b → Ended bytes lent w t is j (reason_at s j)
      go true r = told_none r (whose w o is j l r)
      go false r = told_path l r

  -- ---- an open record

  -- without a ring it had none in the job: joins and steps leave open rings
  open_bare : is_open s j ≡ true → Whose w o is j → reason_at s j ≡ NoRing
  open_bare a (left_so l e) = given (dec_lt j (recs (view t.read)))
    where
      k : OpenAsGiven (view t.read) (view w)
      k = open_as_given w bytes lent f t.job t.read t.segments t.own t.accepted

      b : is_open (view w) j ≡ true
      b = sym (ap (λ (x : ℕ). eqb (x % 2) 1) ((bare_stays w o is j l e).words FLAGS)) ∙ a

      given : Dec (j < recs (view t.read)) → reason_at s j ≡ NoRing
      given (yes h) =
          let c : is_open (view t.read) j ≡ true = sym (ap (λ (x : ℕ). eqb (x % 2) 1) (k.flags j h)) ∙ b in
          tells_read h (eqb-true (first_of t.read j) NONE (ringless_by (view t.read) j (sym (k.rings j h c) ∙ joining.no_ring (view w) j e)))
      given (no h) = absurd (true≢false (sym b ∙ k.new j (omega arith) l))
  open_bare a (lone c n f) =
      let x = lone_fed w o is j c f in
      let L : State (Ring Point) = steps_state (M w) (granted w is j) (initial (at_start c)) in
      let h : HasRing s j x.0 L = subst (Has s j) x.1 ((after_list w o is).rings j (omega (arith, at_closed (lones w is) j x.1, (after_list w o is).count))) in
      absurd (true≢false (sym a ∙ h.closed))

  of_open : j < recs s → is_open s j ≡ true → OfOpen (reason_at s j)
  of_open l a = go (ringless s j) refl
    where
      path : ringless s j ≡ false → (x : Option (List Point)) → path_at s j ≡ x → OfOpen (reason_at s j)
      path r none e = rw (tells_short s j r e (ap (λ (b : Bool). small_by s (reverse_solution s) b j) a)) tt
      path r (some p) e = rw (tells_written s j r p e) a

      go : (b : Bool) → ringless s j ≡ b → OfOpen (reason_at s j)
      go true r = rw (open_bare a (whose w o is j l r)) tt
      go false r = path r (path_at s j) refl

  pub tells : Tells bytes lent w t is j
  tells l d =
      record {
        call = call_tells (run_of w is) j (after_list w o is).tests_pass l d;
        told = told l;
        only = only l;
        opened = of_open l;
      }
