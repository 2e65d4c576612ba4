-- What an act on record i owes, by indices only (`ActDone`): then the forest's step, carried out, is again in step with the store (carried), and each start is a
-- point in use or as it was (start_left).
use Prim.Native.Nat.{ℕ, suc, ◌+◌, ◌≤◌, ◌<◌}
use mathlib.Core.Path.{◌≡◌, refl, ap, ◌∙◌, sym, subst}
use mathlib.Core.Logic.{◌≢◌, ◌⊎◌, inl, inr}
use mathlib.Core.Bool.{Bool, true, false, cond}
use mathlib.Core.List.{List, [], ◌∷◌, map}
use mathlib.Core.Option.{Option, none, some}
use native.Mathlib.Omega.{arith}
use native.Mathlib.Decide.{ℕ_discrete, dec_lt}
use lib.ListN.{length}
use borrow.Author.Tests.{eq-eqb}
use Rattle.rings.proofs.Walking.{Seen}
use Rattle.rings.specs.Circle.{omap}
use Rattle.rings.specs.Count.{occ}
use Rattle.rings.specs.Progress.{Ring, Due, tidy, map_ring, gone, validity, removal, triangle, split, done}
use Rattle.rings.specs.Walk.{walk}
use Rattle.lone.proofs.Acting.{step_values, offcut_values, count}
use Rattle.lone.proofs.Stepping.{at_closed, step_length, step_every}
use Rattle.lone.specs.Forest.{State, initial, to_list, Entry, closed_ring, Forest, at, cut_from, step_state, step_entries, carry_out}
use Rattle.lone.specs.Lone.{Geo, act_of, step_ring, offcut_ring, takes_ring}
use Rattle.lone.specs.Order.{machine}
use Rattle.lone.specs.Act.{Act, apply, offcut, takes_points, rings_new, offcuts_new}
use Rattle.store.proofs.Keeping.{Kept, ring_other, lone_other}
use Rattle.store.proofs.Soundness.{from_first, present_on}
use Rattle.store.specs.Field.{pt, rc, NEXT, PREV, FLAGS, FIRST, MARK, PRESENT, START, CUT, REASON}
use Rattle.store.specs.Sound.{pts, recs, ringless, ring_at, is_open, due_at, lone_due, lone_at}
use Rattle.store.specs.Reason.{discard_of}
use Rattle.store.specs.Good.{Sound}
use Rattle.store.specs.Words.{Store}
use Rattle.acts.specs.InStep.{or_none, Holds, no_ring, an_open, a_closed, InStep}
use Rattle.acts.specs.Rep.{Looped}
use Rattle.acts.specs.Value.{value}

-- the record that a cut makes, if it makes one
abbrev pub Makes : Store → Store → ℕ → Option (Ring ℕ) → Type 0
Makes s s' i none = recs s' ≡ recs s
Makes s s' i (some R) = (recs s' ≡ suc (recs s)) × (lone_at s' (recs s) ≡ R) × (is_open s' (recs s) ≡ false) × (s' (rc CUT) (recs s) ≡ i) × (s' (rc START) (recs s) < pts s')

-- record j had its start before, and is in a loop only if it was
pub record SameStart (s s' : Store) (j : ℕ) : Type 0 where
  pub known : j < recs s
  pub same : s' (rc START) j ≡ s (rc START) j
  pub looped : Looped s' j → Looped s j

-- what an act on record i owes
pub record ActDone {W : Type 0} (s s' : Store) (i : ℕ) (act : Act W) : Type 0 where
  pub kept : Kept s s' i
  pub sound : Sound s'
  pub points : pts s' ≡ pts s + takes_points act
  pub flags : s' (rc FLAGS) i ≡ s (rc FLAGS) i
  pub is_cut_from : s' (rc CUT) i ≡ s (rc CUT) i
  -- the start is a point of the ring, or as it was
  pub start_is : (s' (rc START) i < pts s) ⊎ SameStart s s' i
  -- where the act puts a point into the ring, the start was not its number
  pub ring : ((v : W) → rings_new act ≡ some v → s (rc START) i ≢ pts s) → lone_at s' i ≡ tidy (apply (λ (v : W). pts s) act (lone_at s i))
  pub made : Makes s s' i (offcut (λ (v : W). pts s + count (rings_new act)) act (lone_at s i))

-- so each record's start is a point in use, or as it was
pub start_left : {W : Type 0} {s s' : Store} {i : ℕ} {act : Act W} → ActDone s s' i act → (j : ℕ) → j < recs s' → (s' (rc START) j < pts s') ⊎ SameStart s s' j
start_left {W} {s} {s'} {i} {act} t j l = go (dec_lt j (recs s)) (ℕ_discrete j i)
  where
    own : (s' (rc START) i < pts s) ⊎ SameStart s s' i → (s' (rc START) i < pts s') ⊎ SameStart s s' i
    own (inl m) = inl (omega (arith, t.kept.points_up))
    own (inr e) = inr e

    other : j < recs s → j ≢ i → SameStart s s' j
    other m d =
        record {
          known = m;
          same = t.kept.records START j m d;
          looped = λ h. (record { known = m; ringed = rw (t.kept.records FIRST j m d) at h.0.ringed; closed = rw (t.kept.records FLAGS j m d) at h.0.closed }, rw (t.kept.records MARK j m d) at h.1);
        }

    new : (x : Option (Ring ℕ)) → Makes s s' i x → recs s ≤ j → s' (rc START) j < pts s'
    new none z m = absurd (omega arith)
    new (some R) z m = let e : recs s ≡ j = omega (arith, z.0) in subst (λ (n : ℕ). s' (rc START) n < pts s') e z.4

    go : Dec (j < recs s) → Dec (j ≡ i) → (s' (rc START) j < pts s') ⊎ SameStart s s' j
    go m (yes e) = subst (λ (n : ℕ). (s' (rc START) n < pts s') ⊎ SameStart s s' n) (sym e) (own t.start_is)
    go (yes m) (no d) = inr (other m d)
    go (no m) (no d) = inl (new (offcut (λ (v : W). pts s + count (rings_new act)) act (lone_at s i)) t.made (omega arith))

pub map_agree : {P : Type 0} (value val' : ℕ → P) (c : List ℕ) → ((k : ℕ) → 0 < occ k c → val' k ≡ value k) → map val' c ≡ map value c
map_agree value val' [] h = refl
map_agree value val' (x ∷ xs) h = cc (h x (occ_first x xs), map_agree value val' xs (λ k l. h k (omega arith)))
  where
    occ_first : (x : ℕ) (xs : List ℕ) → 0 < occ x (x ∷ xs)
    occ_first x xs = rw (eq-eqb x x refl) (omega arith)

-- the points of a lone ring are its record's
lone_points : (s : Store) → Sound s → (i : ℕ) → i < recs s → is_open s i ≡ false → (k : ℕ) → 0 < occ k (lone_at s i).circle → 0 < occ k (ring_at s i)
lone_points s o i h closed k = go (ringless s i) refl
  where
    by : ringless s i ≡ false → (d : Due) → due_at s i ≡ d → 0 < occ k (lone_due s i d).circle → 0 < occ k (walk (s (pt NEXT)) (s (rc FIRST) i))
    by e validity m p = p
    by e removal m p =
        let t : Seen (s (pt NEXT)) (s (pt PREV)) (pts s) (ring_at s i) (s (rc PRESENT) i) = present_on s o i (record { known = h; ringed = e; closed = closed }) (rw m refl) in
        subst (λ (c : List ℕ). 0 < occ k c) (from_first s i e) (subst (λ (n : ℕ). 0 < n) (t.occs k) (subst (λ (c : List ℕ). 0 < occ k c) t.walked p))
    by e triangle m p = p
    by e split m p =
        let t : Seen (s (pt NEXT)) (s (pt PREV)) (pts s) (ring_at s i) (s (rc PRESENT) i) = present_on s o i (record { known = h; ringed = e; closed = closed }) (rw m refl) in
        subst (λ (c : List ℕ). 0 < occ k c) (from_first s i e) (subst (λ (n : ℕ). 0 < n) (t.occs k) (subst (λ (c : List ℕ). 0 < occ k c) t.walked p))
    by e done m p = p

    go : (b : Bool) → ringless s i ≡ b → 0 < occ k (cond b (gone (discard_of (s (rc REASON) i))) (lone_due s i (due_at s i))).circle → 0 < occ k (cond b [] (walk (s (pt NEXT)) (s (rc FIRST) i)))
    go true e p = p
    go false e p = by e (due_at s i) refl p

module _ {P : Type 0} (of : ℕ → ℕ → ℕ → P) (s s' : Store) (o : Sound s) (i : ℕ) (K : Kept s s' i) where
  val_kept : (k : ℕ) → k < pts s → value of s' k ≡ value of s k
  val_kept k l = cc (K.xs k l, K.ys k l, K.zs k l)

  pub on_ring_lem : (j : ℕ) → j < recs s → (k : ℕ) → 0 < occ k (ring_at s j) → value of s' k ≡ value of s k
  on_ring_lem j l k p = val_kept k ((o.good j l).points_in_lem k p).below

  pub lone_kept : (j : ℕ) → j < recs s → is_open s j ≡ false → map_ring (value of s') (lone_at s j) ≡ map_ring (value of s) (lone_at s j)
  lone_kept j l e = cc (map_agree (value of s) (value of s') (lone_at s j).circle (λ k p. on_ring_lem j l k (lone_points s o j l e k p)))

  -- every other record holds what it held
  pub holds_other : (j : ℕ) → j < recs s → j ≢ i → (e : Entry (Ring P) (List P)) → Holds of s j e → Holds of s' j e
  holds_other j l d e (no_ring r) = no_ring (rw (K.records FIRST j l d) r)
  holds_other j l d e (an_open c p m) = an_open c (rw (K.records FLAGS j l d) p)
      (m ∙ sym (map_agree (value of s) (value of s') (ring_at s j) (on_ring_lem j l)) ∙ ap (map (value of s')) (sym (ring_other s s' o i K j l d)))
  holds_other j l d e (a_closed q L p c m) = a_closed q L (rw (K.records FLAGS j l d) p) (K.records CUT j l d ∙ c)
      (m ∙ sym (lone_kept j l p) ∙ ap (map_ring (value of s')) (sym (lone_other s s' o i K j l d p)))

module _ {P : Type 0} (of : ℕ → ℕ → ℕ → P) (s : Store) (F : Forest (Ring P) (List P)) (r : InStep of s F) (i : ℕ) where
  -- what is at i, taken apart
  pub record Here (q : Option ℕ) (L : State (Ring P)) : Type 0 where
    pub known : i < recs s
    pub closed : is_open s i ≡ false
    pub named : s (rc CUT) i ≡ or_none q
    pub now_is : L.now ≡ map_ring (value of s) (lone_at s i)

  pub here : (q : Option ℕ) (L : State (Ring P)) → at F.entries i ≡ closed_ring q L → Here q L
  here q L e = go (at F.entries i) e (r.holds i l)
    where
      l : i < recs s
      l = omega (arith, at_closed F.entries i e, r.records_are)

      go : (x : Entry (Ring P) (List P)) → x ≡ closed_ring q L → Holds of s i x → Here q L
      go x z (no_ring a) = let w : ◌≡◌ {A = ℕ} 0 1 = cc in absurd (omega arith)
      go x z (an_open c a d) = let w : ◌≡◌ {A = ℕ} 0 1 = cc in absurd (omega arith)
      go x z (a_closed q' L' a b m) =
          let y : q' ≡ q = cc in
          let y' : L' ≡ L = cc in
          record { known = l; closed = a; named = b ∙ ap or_none y; now_is = ap (λ (v : State (Ring P)). v.now) (sym y') ∙ m }

  module _ (G : Geo P) (s' : Store) (q : Option ℕ) (L : State (Ring P)) (e : at F.entries i ≡ closed_ring q L) (t : ActDone s s' i (act_of G (map_ring (value of s) (lone_at s i))))
      (ha : (v : P) → rings_new (act_of G (map_ring (value of s) (lone_at s i))) ≡ some v → value of s' (pts s) ≡ v)
      (hb : (v : P) → offcuts_new (act_of G (map_ring (value of s) (lone_at s i))) ≡ some v → value of s' (pts s + count (rings_new (act_of G (map_ring (value of s) (lone_at s i))))) ≡ v)
      (elsewhere : (v : P) → rings_new (act_of G (map_ring (value of s) (lone_at s i))) ≡ some v → s (rc START) i ≢ pts s) where
    -- the act, and what it cuts off, by indices
    abbrev act : Act P
    act = act_of G (map_ring (value of s) (lone_at s i))

    abbrev cut_off : Option (Ring ℕ)
    cut_off = offcut (λ (v : P). pts s + count (rings_new act)) act (lone_at s i)

    own : Here q L
    own = here q L e

    same_point : map_ring (value of s') (lone_at s i) ≡ map_ring (value of s) (lone_at s i)
    same_point = lone_kept of s s' r.sound i t.kept i own.known own.closed

    next_is : step_ring G L.now ≡ map_ring (value of s') (lone_at s' i)
    next_is = ap (step_ring G) own.now_is ∙ sym (step_values G (value of s) (value of s') (lone_at s i) same_point (pts s) ha) ∙ ap (map_ring (value of s')) (sym (t.ring elsewhere))

    offcut_is : offcut_ring G L.now ≡ omap (map_ring (value of s')) cut_off
    offcut_is = ap (offcut_ring G) own.now_is ∙ sym (offcut_values G (value of s) (value of s') (lone_at s i) same_point (pts s + count (rings_new act)) hb)

    mine : Holds of s' i (closed_ring q (step_state (machine G) L))
    unfolding machine
    mine = a_closed q (step_state (machine G) L) (rw t.flags own.closed) (t.is_cut_from ∙ own.named) next_is

    -- the new record, if there is one
    new_is : (x : Option (Ring ℕ)) → Makes s s' i x → (R : Ring P) → omap (map_ring (value of s')) x ≡ some R → Holds of s' (recs s) (closed_ring (some i) (initial R))
    new_is none z R y = let w : ◌≡◌ {A = ℕ} 0 1 = cc in absurd (omega arith)
    new_is (some R₀) z R y =
        let w : map_ring (value of s') R₀ ≡ R = cc in
        a_closed (some i) (initial R) z.2 z.3 (sym w ∙ ap (map_ring (value of s')) (sym z.1))

    grown : (x : Option (Ring ℕ)) → Makes s s' i x → recs s + length (to_list (omap (map_ring (value of s')) x)) ≡ recs s'
    grown none z = omega arith
    grown (some R) z = omega (arith, z.0)

    pub count_is : length (step_entries (machine G) F.entries i q L) ≡ recs s'
    unfolding machine
    count_is =
        step_length (machine G) F.entries i q L
        ∙ ap (λ (n : ℕ). n + length (to_list (offcut_ring G L.now))) r.records_are
        ∙ ap (λ (x : Option (Ring P)). recs s + length (to_list x)) offcut_is
        ∙ grown cut_off t.made

    -- one step on the words is the forest's step
    pub carried : InStep of s' (carry_out (machine G) F i q L)
    unfolding machine takes_ring
    carried =
        record {
          sound = t.sound;
          points_are = cc (r.points_are, t.points, own.now_is);
          records_are = count_is;
          holds = λ j l.
              step_every (machine G) F.entries i q L (Holds of s') mine
              (λ k h d. let m : k < recs s = omega (arith, r.records_are) in holds_other of s s' r.sound i t.kept k m d (at F.entries k) (r.holds k m))
              (λ R y. subst (λ (n : ℕ). Holds of s' n (closed_ring (some i) (initial R))) (sym r.records_are) (new_is cut_off t.made R (sym offcut_is ∙ y)))
              j (omega (arith, count_is));
        }

    -- and the words name the rings that offcuts were cut from as the forest does
    new_cut : (x : Option (Ring ℕ)) → Makes s s' i x → (R : Ring P) → omap (map_ring (value of s')) x ≡ some R → s' (rc CUT) (recs s) ≡ i
    new_cut none z R y = let w : ◌≡◌ {A = ℕ} 0 1 = cc in absurd (omega arith)
    new_cut (some R₀) z R y = z.3

    pub cuts_after : ((j : ℕ) → j < recs s → s (rc CUT) j ≡ or_none (cut_from (at F.entries j)))
        → (j : ℕ) → j < recs s' → s' (rc CUT) j ≡ or_none (cut_from (at (step_entries (machine G) F.entries i q L) j))
    unfolding machine
    cuts_after c j l =
        step_every (machine G) F.entries i q L (λ (k : ℕ) (x : Entry (Ring P) (List P)). s' (rc CUT) k ≡ or_none (cut_from x)) (t.is_cut_from ∙ own.named)
        (λ k h d. let m : k < recs s = omega (arith, r.records_are) in t.kept.records CUT k m d ∙ c k m)
        (λ R y. ap (s' (rc CUT)) r.records_are ∙ new_cut cut_off t.made R (sym offcut_is ∙ y))
        j (omega (arith, count_is))
