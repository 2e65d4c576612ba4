-- Two starts with the same settings: records that came with the same points end with the same reasons, but for places and the takers' numbers.
use mathlib.Core.Path.{◌≡◌, refl, sym, ap, ◌∙◌, subst}
use mathlib.Core.Bool.{Bool, true, false, cond, true≢false}
use mathlib.Core.List.{List, [], ◌∷◌, map}
use mathlib.Core.Option.{Option, none, some}
use Prim.Native.Nat.{ℕ, ◌+◌, ◌%◌, ◌/◌, ◌≤◌, ◌<◌}
use native.Mathlib.Omega.{arith}
use native.Mathlib.Decide.{ℕ_discrete}
use lib.Dec.{eqb}
use borrow.Author.Tests.{eq-eqb, ne_eqb}
use Rattle.rings.specs.Progress.{Discard, at_validity, while_removing, at_split, Ring}
use Rattle.geometry.specs.declared.Point.{Point}
use Rattle.lone.specs.Forest.{State, closed_ring, at}
use Rattle.store.specs.Field.{rc, FLAGS, FIRST, REASON, TAKER, NONE}
use Rattle.store.specs.Words.{Store, view}
use Rattle.store.specs.Reason.{JOINED, discard_of}
use Rattle.store.specs.Sound.{recs, ringless, is_open}
use Rattle.store.specs.Value.{ring_points, preserve_collinear, reverse_solution}
use Rattle.paths.specs.Path as paths
use Rattle.paths.specs.Path.{path_at, small_by}
use Rattle.telling.specs.declared.Reason.{Reason}
use Rattle.telling.specs.declared.Reason.TheVariants.{Joined}
use Rattle.telling.specs.Telling.{discard_reason, kept_reason, path_reason, reason_at}
use Rattle.finishing.specs.Run.{run_of}
use Rattle.finishing.specs.Start.{Start}
use Rattle.order.specs.Demand3.{Lone, lones, Same, none_left, same, why_at, HasRing, Has}
use Rattle.order.proofs.Theorem.{follows, lones_are, after_list}
use Rattle.ended.proofs.Alike.{bare_too, ringed_too, path_too, small_too}
use Rattle.ended.proofs.Stepping.{bare_stays}
use Rattle.ended.proofs.Discarding.{lone_of, rule_kept}
use Rattle.ended.proofs.Telling.{tells_rule, tells_short, tells_small, tells_written}
use Rattle.ended.proofs.Told.{lone_first, lone_later}
use Rattle.laid.specs.Two.{raised_reason}

-- a rule of steps has no number
rule_raised : (m : ℕ) (x : Option Discard) → raised_reason m (discard_reason x) ≡ discard_reason x
rule_raised m none = refl
rule_raised m (some at_validity) = refl
rule_raised m (some while_removing) = refl
rule_raised m (some at_split) = refl

-- ---- two stores with the same settings; a record of each, open or closed alike, with the same points

module _ (m : ℕ) (s t : Store) (g : preserve_collinear s ≡ preserve_collinear t) (e : reverse_solution s ≡ reverse_solution t) (a b : ℕ) (o : is_open s a ≡ is_open t b) (p : ring_points s a ≡ ring_points t b) where
  -- with rings
  pub own_ringed : ringless s a ≡ false → raised_reason 0 (reason_at s a) ≡ raised_reason m (reason_at t b)
  own_ringed r = go (path_at s a) refl (small_by s (reverse_solution s) (is_open s a) a) refl
    where
      ringed : ringless t b ≡ false
      ringed = ringed_too s t g e a b o p r

      path : path_at s a ≡ path_at t b
      path = path_too s t g e a b o p

      small : small_by s (reverse_solution s) (is_open s a) a ≡ small_by t (reverse_solution t) (is_open t b) b
      small = small_too s t g e a b o p

      go : (x : Option (List Point)) → path_at s a ≡ x → (c : Bool) → small_by s (reverse_solution s) (is_open s a) a ≡ c → raised_reason 0 (reason_at s a) ≡ raised_reason m (reason_at t b)
      go none h true c = rw (tells_small s a r h c, tells_small t b ringed (sym path ∙ h) (sym small ∙ c))
      go none h false c = rw (tells_short s a r h c, tells_short t b ringed (sym path ∙ h) (sym small ∙ c))
      go (some l) h c d = rw (tells_written s a r l h, tells_written t b ringed l (sym path ∙ h), o)

  -- discarded, by the same rule
  own_gone : (y : Discard) → ringless s a ≡ true → discard_of (s (rc REASON) a) ≡ some y → why_at s a ≡ why_at t b → raised_reason 0 (reason_at s a) ≡ raised_reason m (reason_at t b)
  own_gone y r h k =
      let r' : ringless t b ≡ true = bare_too s t g e a b o p r in
      let h' : discard_of (t (rc REASON) b) ≡ some y = sym (ap (λ (c : Bool). cond c (discard_of (t (rc REASON) b)) none) r') ∙ sym k ∙ ap (λ (c : Bool). cond c (discard_of (s (rc REASON) a)) none) r ∙ h in
      ap (raised_reason 0) (tells_rule s a r y h) ∙ rule_raised 0 (some y) ∙ sym (ap (raised_reason m) (tells_rule t b r' y h') ∙ rule_raised m (some y))

-- ---- a record without a ring at its start keeps its reason

kept_raised : (m v t : ℕ) → raised_reason m (kept_reason v t) ≡ kept_reason v (m + t)
unfolding kept_reason
kept_raised m v t = go (eqb v JOINED)
  where
    go : (c : Bool) → raised_reason m (cond c (Joined t) (discard_reason (discard_of v))) ≡ cond c (Joined (m + t)) (discard_reason (discard_of v))
    go true = refl
    go false = rule_raised m (discard_of v)

-- the taker is read of joined records only
kept_same : (v t t' : ℕ) → (v ≡ JOINED → t ≡ t') → kept_reason v t ≡ kept_reason v t'
unfolding kept_reason
kept_same v t t' h = go (ℕ_discrete v JOINED)
  where
    go : Dec (v ≡ JOINED) → cond (eqb v JOINED) (Joined t) (discard_reason (discard_of v)) ≡ cond (eqb v JOINED) (Joined t') (discard_reason (discard_of v))
    go (yes e) = rw (eq-eqb v JOINED e) (ap Joined (h e))
    go (no d) = rw (ne_eqb v JOINED d)

bare_reason : (w : List ℕ) → Start w → (ks : List ℕ) (j : ℕ) → j < recs (view w) → ringless (view w) j ≡ true → reason_at (view (run_of w ks)) j ≡ kept_reason (view w (rc REASON) j) (view w (rc TAKER) j)
unfolding reason_at
bare_reason w o ks j l r =
    let k = bare_stays w o ks j l r in
    ap (λ (x : Bool). cond x (kept_reason (view (run_of w ks) (rc REASON) j) (view (run_of w ks) (rc TAKER) j)) (path_reason (view (run_of w ks)) j)) (ap (λ (x : ℕ). eqb x NONE) (k.words FIRST) ∙ r)
    ∙ ap (λ (x : ℕ). kept_reason x (view (run_of w ks) (rc TAKER) j)) (k.words REASON) ∙ ap (kept_reason (view w (rc REASON) j)) (k.words TAKER)

-- ---- after a list of steps of each

module _ (m : ℕ) (u x : List ℕ) (o : Start u) (o' : Start x) (g : preserve_collinear (view u) ≡ preserve_collinear (view x)) (e : reverse_solution (view u) ≡ reverse_solution (view x)) (ks is : List ℕ) where
  abbrev s : Store
  s = view (run_of u ks)

  abbrev t : Store
  t = view (run_of x is)

  keeping : preserve_collinear s ≡ preserve_collinear t
  keeping = kept u o ks ∙ g ∙ sym (kept x o' is)
    where
      kept : (w : List ℕ) → Start w → (js : List ℕ) → preserve_collinear (view (run_of w js)) ≡ preserve_collinear (view w)
      kept w p js = ap (λ (n : ℕ). eqb (n % 2) 1) (follows w p js).settings

  direction : reverse_solution s ≡ reverse_solution t
  direction = turned u o ks ∙ e ∙ sym (turned x o' is)
    where
      turned : (w : List ℕ) → Start w → (js : List ℕ) → reverse_solution (view (run_of w js)) ≡ reverse_solution (view w)
      turned w p js = ap (λ (n : ℕ). eqb (n / 2 % 2) 1) (follows w p js).settings

  -- lone rings with the same points and rule
  own_lone : (a b : ℕ) (q q' : Option ℕ) (L L' : State (Ring Point)) → at (lones u ks) a ≡ closed_ring q L → at (lones x is) b ≡ closed_ring q' L' → a < recs s → b < recs t
      → ring_points s a ≡ ring_points t b → why_at s a ≡ why_at t b → raised_reason 0 (reason_at s a) ≡ raised_reason m (reason_at t b)
  own_lone a b q q' L L' f f' l l' p y = go (ringless s a) refl
    where
      h : HasRing s a q L
      h = subst (Has s a) f ((after_list u o ks).rings a l)

      h' : HasRing t b q' L'
      h' = subst (Has t b) f' ((after_list x o' is).rings b l')

      go : (c : Bool) → ringless s a ≡ c → raised_reason 0 (reason_at s a) ≡ raised_reason m (reason_at t b)
      go false r = own_ringed m s t keeping direction a b (h.closed ∙ sym h'.closed) p r
      go true r =
          let d = ap (λ (es : List Lone). at es a) (lones_are u o ks) ∙ f in
          let k = rule_kept u o ks a q L (lone_of u o ks a q L d) d r in
          own_gone m s t keeping direction a b (h.closed ∙ sym h'.closed) p k.rule r k.kept y

  heads : (xs ys : List ℕ) → Same s t xs ys → (a b : ℕ) (cs ds : List ℕ) → xs ≡ a ∷ cs → ys ≡ b ∷ ds → (ring_points s a ≡ ring_points t b) × (why_at s a ≡ why_at t b)
  heads xs ys none_left a b cs ds d f = let z : ◌≡◌ {A = ℕ} 0 1 = cc in absurd (omega arith)
  heads xs ys (same {j = j} {k = k} p q y c r) a b cs ds d f =
      let i : a ≡ j = cc in
      let n : k ≡ b = cc in
      (ap (ring_points s) i ∙ p ∙ ap (ring_points t) n, ap (why_at s) i ∙ y ∙ ap (why_at t) n)

  grown : (w : List ℕ) → Start w → (js : List ℕ) → recs (view w) ≤ recs (view (run_of w js))
  grown w p js = omega (arith, (after_list w p js).records_used)

  -- offcuts that are matched
  pub own_offcuts : (a b : ℕ) (xs ys : List ℕ) → recs (view u) ≤ a → a < recs s → recs (view x) ≤ b → b < recs t → Same s t (a ∷ xs) (b ∷ ys) → raised_reason 0 (reason_at s a) ≡ raised_reason m (reason_at t b)
  own_offcuts a b cs ds k l k' l' d =
      let i = lone_later u o ks a k l in
      let n = lone_later x o' is b k' l' in
      let h = heads (a ∷ cs) (b ∷ ds) d a b cs ds refl refl in
      own_lone a b i.0 n.0 i.1 n.1 i.2 n.2 l l' h.0 h.1

  -- record a of the one start is record b of the other
  pub own_record : (a b : ℕ) → a < recs (view u) → b < recs (view x) → ringless (view u) a ≡ ringless (view x) b → is_open (view u) a ≡ is_open (view x) b → ring_points (view u) a ≡ ring_points (view x) b
      → (ringless (view x) b ≡ true → (view u (rc REASON) a ≡ view x (rc REASON) b) × (view x (rc REASON) b ≡ JOINED → view u (rc TAKER) a ≡ m + view x (rc TAKER) b))
      → (ringless (view x) b ≡ false → is_open (view x) b ≡ false → Same s t (a ∷ []) (b ∷ []))
      → raised_reason 0 (reason_at s a) ≡ raised_reason m (reason_at t b)
  own_record a b l l' er eo ep kept alike = go (ringless (view x) b) refl (is_open (view x) b) refl
    where
      go : (c : Bool) → ringless (view x) b ≡ c → (d : Bool) → is_open (view x) b ≡ d → raised_reason 0 (reason_at s a) ≡ raised_reason m (reason_at t b)
      go true r d c =
          let k = kept r in
          ap (raised_reason 0) (bare_reason u o ks a l (er ∙ r))
          ∙ kept_raised 0 (view u (rc REASON) a) (view u (rc TAKER) a)
          ∙ ap (λ (n : ℕ). kept_reason n (0 + view u (rc TAKER) a)) k.0
          ∙ kept_same (view x (rc REASON) b) (0 + view u (rc TAKER) a) (m + view x (rc TAKER) b) (λ j. omega (arith, k.1 j))
          ∙ sym (ap (raised_reason m) (bare_reason x o' is b l' r) ∙ kept_raised m (view x (rc REASON) b) (view x (rc TAKER) b))
      go false r true c =
          let y = (after_list u o ks).open_rings a l (eo ∙ c) in
          let z = (after_list x o' is).open_rings b l' c in
          own_ringed m s t keeping direction a b
          (ap (λ (n : ℕ). eqb (n % 2) 1) (y.words FLAGS) ∙ eo ∙ sym (ap (λ (n : ℕ). eqb (n % 2) 1) (z.words FLAGS))) (y.points ∙ ep ∙ sym z.points) (ap (λ (n : ℕ). eqb n NONE) (y.words FIRST) ∙ er ∙ r)
      go false r false c =
          let h = heads (a ∷ []) (b ∷ []) (alike r c) a b [] [] refl refl in
          own_lone a b none none _ _ (lone_first u o ks a l (er ∙ r) (eo ∙ c)) (lone_first x o' is b l' r c) (omega (arith, grown u o ks)) (omega (arith, grown x o' is)) h.0 h.1
