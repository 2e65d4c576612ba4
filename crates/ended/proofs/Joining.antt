-- What becomes of a record while the joins are made: it has a ring; or it never had one, and keeps what it kept; or one join emptied it, and it keeps which record took it then.
use mathlib.Core.Path.{◌≡◌, refl, sym, ap, ◌∙◌, subst}
use mathlib.Core.Logic.{◌≢◌, inl, inr}
use mathlib.Core.Bool.{Bool, true, false, true≢false}
use mathlib.Core.List.{List, [], ◌∷◌, map}
use Prim.Native.Nat.{ℕ, zero, suc, ◌+◌, ◌*◌, ◌≤◌, ◌<◌}
use native.Mathlib.Omega.{arith}
use native.Mathlib.Decide.{ℕ_discrete, dec_lt}
use lib.ListN.{get_or}
use Rattle.std.proofs.Common.{Ok, Err}
use Rattle.rings.specs.Count.{occ}
use Rattle.store.specs.Field.{rc, FIRST}
use Rattle.store.specs.Words.{Store, view}
use Rattle.store.specs.Named.{records_of, kept_of, taker_of}
use Rattle.store.specs.Reason.{JOINED}
use Rattle.store.specs.Sound.{ringless, ring_at}
use Rattle.store.specs.Value.{point_at, ring_points}
use Rattle.store.proofs.Soundness.{first_on}
use Rattle.joins.specs.declared.JoinError.TheVariants.{Knot, Full}
use Rattle.joins.specs.Resolve.{home_of}
use Rattle.joins.specs.Join.{JoinEnd, end, join_of, follow, joins_from, process_horz_joins}
use Rattle.joins.specs.Needs.{Joins}
use Rattle.joins.specs.AsRings.{OneOrTwo, AsRings}
use Rattle.joins.proofs.AsRings.{at_turn}
use Rattle.joins.proofs.Turns.{Still, words, joins_kept}
use Rattle.joins.proofs.Finding.{at_home}
use Rattle.ended.specs.Joined.{EmptiedAt}

-- ---- with a ring, or without

pub no_ring : (s : Store) (j : ℕ) → ringless s j ≡ true → ring_at s j ≡ []
no_ring s j e = rw e

pub ringless_by : (s : Store) (j : ℕ) → ring_at s j ≡ [] → ringless s j ≡ true
ringless_by s j h = go (ringless s j) refl
  where
    go : (b : Bool) → ringless s j ≡ b → ringless s j ≡ true
    go true e = e
    go false e = absurd (omega (arith, first_on s j e, ap (occ (s (rc FIRST) j)) h))

-- by its points' values
pub points_none : (s : Store) (j : ℕ) → ring_points s j ≡ [] → ringless s j ≡ true
points_none s j h = ringless_by s j (go (ring_at s j) h)
  where
    go : (c : List ℕ) → map (point_at s) c ≡ [] → c ≡ []
    go [] e = refl
    go (x ∷ c) e = let z : ◌≡◌ {A = ℕ} 0 1 = cc in absurd (omega arith)

-- the same ring
ringed_by : (s s' : Store) (j : ℕ) → ring_at s' j ≡ ring_at s j → ringless s j ≡ false → ringless s' j ≡ false
ringed_by s s' j h e = go (ringless s' j) refl
  where
    go : (b : Bool) → ringless s' j ≡ b → ringless s' j ≡ false
    go false r = r
    go true r = absurd (true≢false (sym (ringless_by s j (sym h ∙ no_ring s' j r)) ∙ e))

other_than : (s : Store) (i j k : ℕ) → ringless s j ≡ true → 0 < occ k (ring_at s i) → j ≢ i
other_than s i j k e h z = omega (arith, ap (occ k) (no_ring s j e), subst (λ (m : ℕ). 0 < occ k (ring_at s m)) (sym z) h)

-- a record without a ring, and what it keeps
pub record Bare (x : List ℕ) (j v u : ℕ) : Type 0 where
  pub low : j < records_of x
  pub none : ringless (view x) j ≡ true
  pub kept : kept_of x j ≡ v
  pub taker : taker_of x j ≡ u

-- ---- a join made, on the words x, that leaves y

module _ (x y : List ℕ) (a c i i' : ℕ) (o : OneOrTwo x y a c i i') where
  -- a record without a ring stays as it is
  bare_on : (j v u : ℕ) → Bare x j v u → Bare y j v u
  bare_on j v u b = go o
    where
      go : OneOrTwo x y a c i i' → Bare y j v u
      go (inl t) =
          let p = t.1 in
          let d : j ≢ i = other_than (view x) i j a b.none p.one_on in
          record {
            low = omega (arith, p.records, b.low);
            none = ringless_by (view y) j (p.others j b.low d ∙ no_ring (view x) j b.none);
            kept = p.reasons j ∙ b.kept;
            taker = p.takers j ∙ b.taker;
          }
      go (inr t) =
          let p = t.1 in
          let d : j ≢ i = other_than (view x) i j a b.none p.one_on in
          let d' : j ≢ i' = other_than (view x) i' j c b.none p.two_on in
          record {
            low = omega (arith, p.records, b.low);
            none = ringless_by (view y) j (p.others j b.low d d' ∙ no_ring (view x) j b.none);
            kept = p.reasons j d' ∙ b.kept;
            taker = p.takers j d' ∙ b.taker;
          }

  -- of two records the second is emptied, and keeps the first
  emptied_on : i' < records_of x → i ≢ i' → Bare y i' JOINED i
  emptied_on l d = go o
    where
      go : OneOrTwo x y a c i i' → Bare y i' JOINED i
      go (inl t) = absurd (d t.0)
      go (inr t) = record { low = omega (arith, t.1.records); none = ringless_by (view y) i' t.1.emptied; kept = t.1.reason; taker = t.1.taker }

-- ---- the joins of a list

module _ (n : ℕ) (js w : List ℕ) (t : Joins w n js) where
  abbrev one : ℕ → ℕ
  one k = get_or js (2 * k) 0

  abbrev two : ℕ → ℕ
  two k = get_or js (2 * k + 1) 0

  -- after the first k: there is no such record yet; or it has a ring; or it had none; or join m emptied it
  pub data Story (k : ℕ) (x : List ℕ) (j : ℕ) : Type 0 where
    not_yet : records_of x ≤ j → Story k x j
    ringed : j < records_of x → ringless (view x) j ≡ false → Story k x j
    had_none : j < records_of w → ringless (view w) j ≡ true → Bare x j (kept_of w j) (taker_of w j) → Story k x j
    taken : (m u : ℕ) → m < k → EmptiedAt js w m u j → Bare x j JOINED u → Story k x j

  module _ (k : ℕ) (h : k < n) (x y : List ℕ) (e : process_horz_joins k js w ≡ end (Ok tt) x) (f : join_of x (one k) (two k) ≡ end (Ok tt) y) where
    ready : Still w x
    ready = subst (λ (z : JoinEnd). Still w (words z)) e (joins_kept k js w (record { ready = t.ready; fits = omega (arith, t.fits); points = λ i l. t.points i (omega arith) }))

    shape : OneOrTwo x y (one k) (two k) (home_of x (one k)) (home_of x (two k))
    shape = (subst (AsRings x (one k) (two k)) f (at_turn n js w t k h x e).rings).1

    home_low : home_of x (two k) < records_of x
    home_low = (at_home x ready.ready (two k) (home_of x (two k)) (rw ready.points (t.points (2 * k + 1) (omega arith))) refl).res.real

    turn : (j : ℕ) → Story k x j → Story (suc k) y j
    turn j (had_none l b s) = had_none l b (bare_on x y (one k) (two k) (home_of x (one k)) (home_of x (two k)) shape j (kept_of w j) (taker_of w j) s)
    turn j (taken m u l a s) = taken m u (omega arith) a (bare_on x y (one k) (two k) (home_of x (one k)) (home_of x (two k)) shape j JOINED u s)
    turn j (not_yet l) = go shape
      where
        go : OneOrTwo x y (one k) (two k) (home_of x (one k)) (home_of x (two k)) → Story (suc k) y j
        go (inl p) = by (ℕ_discrete j (records_of x))
          where
            by : Dec (j ≡ records_of x) → Story (suc k) y j
            by (yes q) = ringed (omega (arith, p.1.records)) (ap (ringless (view y)) q ∙ p.1.new_ringed)
            by (no d) = not_yet (omega (arith, p.1.records))
        go (inr p) = not_yet (omega (arith, p.1.records))
    turn j (ringed l r) = go shape
      where
        still : records_of x ≤ records_of y → ring_at (view y) j ≡ ring_at (view x) j → Story (suc k) y j
        still m e = ringed (omega arith) (ringed_by (view x) (view y) j e r)

        go : OneOrTwo x y (one k) (two k) (home_of x (one k)) (home_of x (two k)) → Story (suc k) y j
        go (inl p) = by (ℕ_discrete j (home_of x (one k)))
          where
            by : Dec (j ≡ home_of x (one k)) → Story (suc k) y j
            by (yes q) = ringed (omega (arith, p.1.records)) (ap (ringless (view y)) q ∙ p.1.own_ringed)
            by (no d) = still (omega (arith, p.1.records)) (p.1.others j l d)
        go (inr p) = by (ℕ_discrete j (home_of x (one k))) (ℕ_discrete j (home_of x (two k)))
          where
            by : Dec (j ≡ home_of x (one k)) → Dec (j ≡ home_of x (two k)) → Story (suc k) y j
            by (yes q) s = ringed (omega (arith, p.1.records)) (ap (ringless (view y)) q ∙ p.1.own_ringed)
            by (no d) (no d') = still (omega (arith, p.1.records)) (p.1.others j l d d')
            by (no d) (yes q) =
                taken k (home_of x (one k)) (omega arith)
                (record { before = x; after = y; turn = e; made = f; into = refl; from = sym q; two = λ r. p.0 (r ∙ q) })
                (subst (λ (m : ℕ). Bare y m JOINED (home_of x (one k))) (sym q) (emptied_on x y (one k) (two k) (home_of x (one k)) (home_of x (two k)) shape home_low p.0))

  -- what each join made keeps holds after all of them
  through : (Q : ℕ → List ℕ → Type 0) → ((k : ℕ) → k < n → (x y : List ℕ) → process_horz_joins k js w ≡ end (Ok tt) x → join_of x (one k) (two k) ≡ end (Ok tt) y → Q k x → Q (suc k) y)
      → (f i : ℕ) (x z : List ℕ) → i + f ≡ n → process_horz_joins i js w ≡ end (Ok tt) x → Q i x → joins_from f i js x ≡ end (Ok tt) z → Q n z
  unfolding joins_from
  through Q on zero i x z e p s g =
      let q : x ≡ z = cc in
      let m : i ≡ n = omega arith in
      subst (Q n) q (subst (λ (k : ℕ). Q k x) m s)
  through Q on (suc f) i x z e p s g = go (join_of x (one i) (two i)) refl g (λ y q r h. through Q on f (i + 1) y z (omega arith) q r h)
    where
      go : (r : JoinEnd) → join_of x (one i) (two i) ≡ r → follow (joins_from f (i + 1) js) r ≡ end (Ok tt) z
          → ((y : List ℕ) → process_horz_joins (i + 1) js w ≡ end (Ok tt) y → Q (i + 1) y → joins_from f (i + 1) js y ≡ end (Ok tt) z → Q n z) → Q n z
      go (end (Ok tt) y) q h rest =
          let l : i < n = omega arith in
          let m : i + 1 ≡ suc i = omega arith in
          rest y (ap (λ (k : ℕ). process_horz_joins k js w) m ∙ (at_turn n js w t i l x p).next ∙ q) (subst (λ (k : ℕ). Q k y) (sym m) (on i l x y p q s)) h
      go (end (Err Knot) y) q h rest = let v : ◌≡◌ {A = ℕ} 0 1 = cc in absurd (omega arith)
      go (end (Err Full) y) q h rest = let v : ◌≡◌ {A = ℕ} 0 1 = cc in absurd (omega arith)

  -- a record that had no ring keeps what it kept
  pub bare_keeps : (j v u : ℕ) → Bare w j v u → (z : List ℕ) → process_horz_joins n js w ≡ end (Ok tt) z → Bare z j v u
  unfolding joins_from
  bare_keeps j v u b z e =
      through (λ (k : ℕ) (x : List ℕ). Bare x j v u) (λ k l x y p q s. bare_on x y (one k) (two k) (home_of x (one k)) (home_of x (two k)) (shape k l x y p q) j v u s) n 0 w z (omega arith) refl b e

  -- THE THEOREM: after all of them
  pub story : (z : List ℕ) → process_horz_joins n js w ≡ end (Ok tt) z → (j : ℕ) → Story n z j
  unfolding joins_from
  story z e = through (λ (k : ℕ) (x : List ℕ). (j : ℕ) → Story k x j) (λ k l x y p q s j. turn k l x y p q j (s j)) n 0 w z (omega arith) refl (λ j. first j (dec_lt j (records_of w)) (ringless (view w) j) refl) e
    where
      first : (j : ℕ) → Dec (j < records_of w) → (b : Bool) → ringless (view w) j ≡ b → Story 0 w j
      first j (no d) b r = not_yet (omega arith)
      first j (yes l) true r = had_none l r (record { low = l; none = r; kept = refl; taker = refl })
      first j (yes l) false r = ringed l r

  -- and back: what a join emptied keeps the record that took it then
  module _ (m u j : ℕ) (d : EmptiedAt js w m u j) where
    emptied_here : (l : m < n) (x y : List ℕ) → process_horz_joins m js w ≡ end (Ok tt) x → join_of x (one m) (two m) ≡ end (Ok tt) y → Bare y j JOINED u
    emptied_here l x y p q =
        let b : d.before ≡ x = cc (p, d.turn) in
        let i : home_of x (one m) ≡ u = ap (λ (v : List ℕ). home_of v (one m)) (sym b) ∙ d.into in
        let k : home_of x (two m) ≡ j = ap (λ (v : List ℕ). home_of v (two m)) (sym b) ∙ d.from in
        subst (λ (v : ℕ). Bare y j JOINED v) i
        (subst (λ (v : ℕ). Bare y v JOINED (home_of x (one m))) k
        (emptied_on x y (one m) (two m) (home_of x (one m)) (home_of x (two m)) (shape m l x y p q) (home_low m l x y p q) (λ e. d.two (sym i ∙ e ∙ k))))

    since : (k : ℕ) → k < n → (x y : List ℕ) → process_horz_joins k js w ≡ end (Ok tt) x → join_of x (one k) (two k) ≡ end (Ok tt) y → (m < k → Bare x j JOINED u) → m < suc k → Bare y j JOINED u
    since k l x y p q s h = by (ℕ_discrete k m)
      where
        by : Dec (k ≡ m) → Bare y j JOINED u
        by (yes c) = emptied_here (omega arith) x y (subst (λ (v : ℕ). process_horz_joins v js w ≡ end (Ok tt) x) c p) (subst (λ (v : ℕ). join_of x (one v) (two v) ≡ end (Ok tt) y) c q)
        by (no c) = bare_on x y (one k) (two k) (home_of x (one k)) (home_of x (two k)) (shape k l x y p q) j JOINED u (s (omega arith))

    pub taken_keeps : m < n → (z : List ℕ) → process_horz_joins n js w ≡ end (Ok tt) z → Bare z j JOINED u
    unfolding joins_from
    taken_keeps l z e = through (λ (k : ℕ) (x : List ℕ). m < k → Bare x j JOINED u) since n 0 w z (omega arith) refl (λ h. absurd (omega arith)) e l
