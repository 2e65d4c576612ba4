-- A copy of a point (`duplicate_op`) keeps the invariant, and what was known of the points there were.
use Prim.Native.Nat.{ℕ, suc, ◌≤◌, ◌<◌}
use mathlib.Core.Path.{◌≡◌, refl, ap, ◌∙◌, sym, subst}
use mathlib.Core.Logic.{◌≢◌}
use mathlib.Core.Bool.{Bool, true, false, cond}
use mathlib.Core.List.{List, ◌++◌}
use native.Mathlib.Omega.{arith}
use lib.Dec.{ltb}
use lib.ListN.{length}
use borrow.Author.Tests.{eq-eqb, ne_eqb, ltb-true}
use Rattle.std.proofs.Common.{Some, None}
use Rattle.store.specs.Field.{RecordCol, pt, rc, REC, FLAGS, BLOCK}
use Rattle.store.specs.Words.{Store, view, Write, on_words}
use Rattle.store.specs.Stores.{on_store}
use Rattle.store.specs.Named.{next_of, prev_of, points_of}
use Rattle.rings.specs.Count.{occ}
use Rattle.rings.proofs.Tables.{elsewhere}
use Rattle.store.specs.Sound.{recs, ring_at, is_open}
use Rattle.primitives.specs.Primitive.{Taken, taken, copy_writes, link_writes, after_writes, before_writes, duplicate_op}
use Rattle.primitives.specs.Beside.{Beside}
use Rattle.store.proofs.Storing.{view_writes, length_writes}
use Rattle.joins.specs.Paths.{Lives}
use Rattle.joins.specs.Resolved.{Ready}
use Rattle.joins.specs.Needs.{Point}
use Rattle.joins.proofs.Homes.{home_of_lem, next_lives, prev_lives, prev_next, on_ring_lem, table}
use Rattle.joins.proofs.Growing.{Grown, grown_res, grown_resolved, grown_lives}
use Rattle.joins.proofs.Joining.{Shut, OpenKept, ring_kept}
use Rattle.joins.proofs.Open.{opened_self, opened_on}
use Rattle.joins.proofs.Resolving.{res_same}
use Rattle.segments.specs.Level.{x_of}

-- the points there were: their rings, and their x
pub record Keeps (w x : List ℕ) : Type 0 where
  pub ready : Ready x
  pub more : points_of w ≤ points_of x
  pub old : (i k : ℕ) → Lives (view w) i k → Lives (view x) i k
  pub xs : (k : ℕ) → k < points_of w → x_of x k ≡ x_of w k

pub keeps_on : (w x y : List ℕ) → Keeps w x → Keeps x y → Keeps w y
keeps_on w x y a b =
    record {
      ready = b.ready;
      more = omega (arith, a.more, b.more);
      old = λ i k z. b.old i k (a.old i k z);
      xs = λ k h. b.xs k (omega (arith, a.more)) ∙ a.xs k h;
    }

-- every word of the records, and the open rings
pub record Copied (s u : Store) : Type 0 where
  pub count : recs u ≡ recs s
  pub words : (f : RecordCol) (j : ℕ) → u (rc f) j ≡ s (rc f) j
  pub opened : OpenKept s u

pub copied_self : (s : Store) → Copied s s
copied_self s = record { count = refl; words = λ f j. refl; opened = opened_self s }

pub copied_on : (s u v : Store) → Copied s u → Copied u v → Copied s v
copied_on s u v a b = record { count = b.count ∙ a.count; words = λ f j. b.words f j ∙ a.words f j; opened = opened_on s u v a.opened b.opened }

-- like is copied to the next free place, between q's prev and q
module _ (w : List ℕ) (o : Ready w) (room : points_of w < 2048) (i q like : ℕ) (a : Lives (view w) i q) (b : Lives (view w) i like) where
  writes : List Write
  writes = copy_writes (view w) like ++ link_writes (prev_of w q) (points_of w) q

  p_low : prev_of w q < points_of w
  p_low = (prev_lives (view w) o.resolved i q a).bound

  seen : view (on_words w writes) ≡ on_store (view w) writes
  unfolding writes
  seen =
      let k : prev_of w q < 2048 = omega (arith, p_low) in
      let z : q < 2048 = omega (arith, a.bound) in
      view_writes w writes o.long (omega arith, (room, (room, (room, (room, (room, (room, (k, (z, tt)))))))))

  grown : Grown (view w) (on_store (view w) writes) q like
  unfolding writes
  grown =
      let kq : points_of w ≢ q = λ e. omega (arith, a.bound) in
      let kp : points_of w ≢ prev_of w q = λ e. omega (arith, p_low) in
      record {
        links = record {
          next_new = rw (ne_eqb (points_of w) (prev_of w q) kp, eq-eqb (points_of w) (points_of w) refl);
          next_same = rw (eq-eqb (prev_of w q) (prev_of w q) refl);
          next_else = λ j d e. rw (ne_eqb j (prev_of w q) e, ne_eqb j (points_of w) d);
          prev_new = rw (ne_eqb (points_of w) q kq, eq-eqb (points_of w) (points_of w) refl);
          prev_same = rw (eq-eqb q q refl);
          prev_else = λ j d e. rw (ne_eqb j q e, ne_eqb j (points_of w) d);
        };
        points = refl;
        records = refl;
        first = λ j. refl;
        owner = λ j. refl;
        reasons = λ j. refl;
        takers = λ j. refl;
        named_new = rw (eq-eqb (points_of w) (points_of w) refl);
        named_else = λ j d. rw (ne_eqb j (points_of w) d);
        x_new = rw (eq-eqb (points_of w) (points_of w) refl);
        x_else = λ j d. rw (ne_eqb j (points_of w) d);
        y_new = rw (eq-eqb (points_of w) (points_of w) refl);
        z_new = rw (eq-eqb (points_of w) (points_of w) refl);
        y_else = λ j d. rw (ne_eqb j (points_of w) d);
        z_else = λ j d. rw (ne_eqb j (points_of w) d);
      }

  grown_words : Grown (view w) (view (on_words w writes)) q like
  grown_words = subst (λ (s : Store). Grown (view w) s q like) (sym seen) grown

  long : BLOCK ≤ length (on_words w writes)
  unfolding writes
  long = omega (arith, o.long, length_writes w writes)

  pub copy_keeps : Keeps w (on_words w (copy_writes (view w) like ++ link_writes (prev_of w q) (points_of w) q))
  unfolding writes
  copy_keeps =
      let g = grown_words in
      record {
        ready = record { long = long; resolved = grown_resolved (view w) (view (on_words w writes)) o.resolved i q like room a b g };
        more = omega (arith, g.points);
        old = λ j k z. grown_lives (view w) (view (on_words w writes)) o.resolved i q like room a b g j k z;
        xs = λ k h. g.x_else k (λ e. omega arith);
      }

  pub copy_points : points_of (on_words w (copy_writes (view w) like ++ link_writes (prev_of w q) (points_of w) q)) ≡ suc (points_of w)
  unfolding writes
  copy_points = grown_words.points

  words_same : (f : RecordCol) (j : ℕ) → view (on_words w writes) (rc f) j ≡ view w (rc f) j
  unfolding writes
  words_same f j = ap (λ (s : Store). s (rc f) j) seen

  -- where the ring is closed
  at_home : (k h : ℕ) → Lives (view (on_words w writes)) h k → is_open (view (on_words w writes)) h ≡ false → Shut (view (on_words w writes)) k
  at_home k h z e j y = subst (λ (x : ℕ). is_open (view (on_words w writes)) x ≡ false) (res_same (view (on_words w writes)) (view (on_words w writes) (pt REC) k) h j z.res y.res) e

  pub copy_open : is_open (view w) i ≡ false → Copied (view w) (view (on_words w (copy_writes (view w) like ++ link_writes (prev_of w q) (points_of w) q)))
  unfolding writes
  copy_open shut =
      let g = grown_words in
      record {
        count = g.records;
        words = words_same;
        opened = record {
          records = omega (arith, g.records);
          points = omega (arith, g.points);
          flags = λ j h. words_same FLAGS j;
          new = λ j h e. absurd (omega (arith, g.records));
          rings = λ j h e. ring_kept (view w) (view (on_words w writes)) j (g.first j) (λ k p. g.links.next_else k (λ z. omega (arith, (o.resolved.whole j h).below k p)) (off j h (λ z. apart j e z) k p));
          xs = λ k h. g.x_else k (λ e. omega arith);
          ys = λ k h. g.y_else k (λ e. omega arith);
          zs = λ k h. g.z_else k (λ e. omega arith);
          shut = λ k h s.
              let z = home_of_lem (view w) o.resolved k h in
              at_home k z.0 (grown_lives (view w) (view (on_words w writes)) o.resolved i q like room a b g z.0 k z.1) (rw (words_same FLAGS z.0) (s z.0 z.1));
        };
      }
    where
      apart : (j : ℕ) → is_open (view w) j ≡ true → j ≡ i → ⊥
      apart j e z =
          let y : ◌≡◌ {A = Bool} true false = sym e ∙ ap (is_open (view w)) z ∙ shut in
          let v : ◌≡◌ {A = ℕ} 0 1 = cc in
          omega arith

      off : (j : ℕ) → j < recs (view w) → (j ≡ i → ⊥) → (k : ℕ) → 0 < occ k (ring_at (view w) j) → k ≢ prev_of w q
      off j h d k p e =
          omega (
            arith,
            subst (λ (v : ℕ). occ v (ring_at (view w) j) ≡ 0) (sym e)
                (elsewhere (next_of w) (prev_of w) (points_of w) (recs (view w)) (ring_at (view w)) (table (view w) o.resolved) i j (prev_of w q) a.res.real h (λ v. d (sym v)) (on_ring_lem (view w) o.resolved i (prev_of w q) (prev_lives (view w) o.resolved i q a))),
          )

  pub copy_shut : is_open (view w) i ≡ false → Shut (view (on_words w (copy_writes (view w) like ++ link_writes (prev_of w q) (points_of w) q))) (points_of w)
  unfolding writes
  copy_shut shut =
      let g = grown_words in
      at_home (points_of w) i
      (record { bound = omega (arith, g.points); res = rw g.named_new (grown_res (view w) (view (on_words w writes)) o.resolved i q like room a b g (view w (pt REC) like) i b.res) })
      (rw (words_same FLAGS i) shut)

-- what a copy gives: it is point k
pub record Grew (w x : List ℕ) (k : ℕ) : Type 0 where
  pub keeps : Keeps w x
  pub is : k ≡ points_of w
  pub points : points_of x ≡ suc (points_of w)

abbrev pub Doubles : List ℕ → Taken → Type 0
Doubles w (taken (Some k) x) = Grew w x k
Doubles w (taken None x) = x ≡ w

pub beside : (w : List ℕ) (p : ℕ) → Point w p → Beside w p
beside w p t =
    let z = home_of_lem (view w) t.ready.resolved p t.low in
    let few : points_of w ≤ 2048 = t.ready.resolved.few_points in
    let n = next_lives (view w) t.ready.resolved z.0 p z.1 in
    let q = prev_lives (view w) t.ready.resolved z.0 p z.1 in
    record { long = t.ready.long; here = omega (arith, t.low); next = omega (arith, n.bound); prev = omega (arith, q.bound) }

pub doubles : (w : List ℕ) (p : ℕ) (after : Bool) → Point w p → Doubles w (duplicate_op w p after)
unfolding duplicate_op
doubles w p after t = go (ltb (points_of w) 2048) after refl
  where
    go : (m b : Bool) → ltb (points_of w) 2048 ≡ m → Doubles w (cond m (taken (Some (points_of w)) (cond b (on_words w (after_writes (view w) p)) (on_words w (before_writes (view w) p)))) (taken None w))
    go true true e =
        let room : points_of w < 2048 = ltb-true _ _ e in
        let z = home_of_lem (view w) t.ready.resolved p t.low in
        let n = next_lives (view w) t.ready.resolved z.0 p z.1 in
        let f : prev_of w (next_of w p) ≡ p = prev_next (view w) t.ready.resolved z.0 p z.1 in
        subst (λ (y : ℕ). Grew w (on_words w (copy_writes (view w) p ++ link_writes y (points_of w) (next_of w p))) (points_of w)) f
        (record { keeps = copy_keeps w t.ready room z.0 (next_of w p) p n z.1; is = refl; points = copy_points w t.ready room z.0 (next_of w p) p n z.1 })
    go true false e =
        let room : points_of w < 2048 = ltb-true _ _ e in
        let z = home_of_lem (view w) t.ready.resolved p t.low in
        record { keeps = copy_keeps w t.ready room z.0 p p z.1 z.1; is = refl; points = copy_points w t.ready room z.0 p p z.1 z.1 }
    go false b e = refl

-- a copy of a point on a closed ring leaves records and open rings as they are, and is on a closed ring itself
abbrev pub Opens : List ℕ → Taken → Type 0
Opens w (taken (Some k) x) = Copied (view w) (view x) × Shut (view x) k
Opens w (taken None x) = x ≡ w

pub opens : (w : List ℕ) (p : ℕ) (after : Bool) → Point w p → Shut (view w) p → Opens w (duplicate_op w p after)
unfolding duplicate_op
opens w p after t shut = go (ltb (points_of w) 2048) after refl
  where
    go : (m b : Bool) → ltb (points_of w) 2048 ≡ m → Opens w (cond m (taken (Some (points_of w)) (cond b (on_words w (after_writes (view w) p)) (on_words w (before_writes (view w) p)))) (taken None w))
    go true true e =
        let room : points_of w < 2048 = ltb-true _ _ e in
        let z = home_of_lem (view w) t.ready.resolved p t.low in
        let n = next_lives (view w) t.ready.resolved z.0 p z.1 in
        let f : prev_of w (next_of w p) ≡ p = prev_next (view w) t.ready.resolved z.0 p z.1 in
        subst (λ (y : ℕ). Copied (view w) (view (on_words w (copy_writes (view w) p ++ link_writes y (points_of w) (next_of w p)))) × Shut (view (on_words w (copy_writes (view w) p ++ link_writes y (points_of w) (next_of w p)))) (points_of w)) f
        (copy_open w t.ready room z.0 (next_of w p) p n z.1 (shut z.0 z.1), copy_shut w t.ready room z.0 (next_of w p) p n z.1 (shut z.0 z.1))
    go true false e =
        let room : points_of w < 2048 = ltb-true _ _ e in
        let z = home_of_lem (view w) t.ready.resolved p t.low in
        (copy_open w t.ready room z.0 p p z.1 z.1 (shut z.0 z.1), copy_shut w t.ready room z.0 p p z.1 z.1 (shut z.0 z.1))
    go false b e = refl
