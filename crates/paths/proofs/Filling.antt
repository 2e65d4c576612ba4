-- The fields of all records, one after another, each in the part after the last; then zeros.
use Prim.Native.Nat.{ℕ, zero, suc, ◌+◌, ◌-◌, ◌≤◌, ◌<◌}
use mathlib.Core.Path.{◌≡◌, refl, sym, ap, ◌∙◌}
use mathlib.Core.Bool.{Bool, true, false}
use mathlib.Core.List.{List, ◌++◌}
use native.Mathlib.Omega.{arith}
use native.Mathlib.Decide.{ℕ_discrete}
use lib.ListN.{length, take, drop, replicate, length-append, length-drop}
use borrow.Rule.Slice.PartMut.{put_mid}
use Rattle.store.specs.Words.{Store, view}
use Rattle.store.specs.Sound.{recs}
use Rattle.paths.specs.Wrote.{ok_paths}
use Rattle.paths.specs.Count.{need_of}
use Rattle.paths.specs.Wrote.{wrote}
use Rattle.paths.specs.Path.{path_if, listed, paths_below, closed_paths, open_paths}
use Rattle.paths.specs.Tray.{tag_of, fields_of, padded, over}
use Rattle.paths.specs.Walking.{Directed, Laid, laid}
use Rattle.paths.specs.Filling.{field_at, fields_below, lay_over, FieldFits, FieldsFit, AllFit, Filled}
use Rattle.paths.proofs.Counts.{fields_append}
use Rattle.paths.proofs.Parts.{tray_length, part_is, part_over, part_clear}

pub below_more : (n : ℕ) (s : Store) (o : Bool) → fields_below (suc n) s o ≡ fields_below n s o ++ field_at s o n
unfolding fields_below field_at
below_more n s o = fields_append (tag_of o) (paths_below n o s) (listed (path_if s o n))

below_le : (s : Store) (o : Bool) (i n : ℕ) → i ≤ n → length (fields_below i s o) ≤ length (fields_below n s o)
below_le s o i zero h = let z : i ≡ 0 = omega arith in rw z (omega arith)
below_le s o i (suc n) h = go (ℕ_discrete i (suc n)) (below_le s o i n)
  where
    go : Dec (i ≡ suc n) → (i ≤ n → length (fields_below i s o) ≤ length (fields_below n s o)) → length (fields_below i s o) ≤ length (fields_below (suc n) s o)
    go (yes e) r = rw e (omega arith)
    go (no d) r = omega (arith, r (omega arith), ap length (below_more n s o), length-append (fields_below n s o) (field_at s o n))

-- ---- the loop over the records

pub filled_begins : (w : List ℕ) (rev o : Bool) (t : List ℕ) → FieldsFit w rev o t → Filled w o 0 0 t t
unfolding fields_below
filled_begins w rev o t r = record { within = omega arith; at_is = refl; tray_is = refl; room = r.room }

module _ (w : List ℕ) (o : Bool) (i at : ℕ) (t₀ t : List ℕ) (f : Filled w o i at t₀ t) where
  s : Store
  s = view w

  used_le : length (fields_below i (view w) o) ≤ length t₀
  used_le = omega (arith, f.room, below_le (view w) o i (recs (view w)) f.within)

  pub filled_length : length t ≡ length t₀
  filled_length = tray_length (fields_below i (view w) o) t₀ t at f.at_is f.tray_is used_le

  pub filled_at : at ≤ length t
  filled_at = omega (arith, f.at_is, used_le, filled_length)

  pub filled_ends : (n : ℕ) → n ≡ recs (view w) → n ≤ i → laid at t ≡ lay_over (fields_below (recs (view w)) (view w) o) t₀
  filled_ends n e h =
      let z : recs (view w) ≡ i = omega (arith, f.within) in
      rw (z, f.at_is, f.tray_is)

  module _ (rev : Bool) (r : Directed w rev) (n : ℕ) (e : n ≡ recs (view w)) (l : i < n) where
    more_le : length (fields_below i (view w) o) + length (field_at (view w) o i) ≤ length t₀
    more_le =
        omega (
          arith,
          f.room,
          below_le (view w) o (suc i) (recs (view w)) (omega arith),
          ap length (below_more i (view w) o),
          length-append (fields_below i (view w) o) (field_at (view w) o i),
        )

    pub field_fits : FieldFits w rev o i (take (length t - at) (drop at t))
    field_fits =
        record {
          asked = record { of = record { ready = r.ready; known = omega arith }; direction = r.direction };
          room = omega (arith, more_le, ap length (part_is (fields_below i (view w) o) t₀ t at f.at_is f.tray_is used_le), length-drop (length (fields_below i (view w) o)) t₀);
        }

    pub filled_on : (size : ℕ) (ys : List ℕ) → laid size ys ≡ lay_over (field_at (view w) o i) (take (length t - at) (drop at t)) → Filled w o (i + 1) (at + size) t₀ (put_mid at (length t - at) t ys)
    filled_on size ys g =
        let z : i + 1 ≡ suc i = omega arith in
        let a : size ≡ length (field_at (view w) o i) = ap (λ (x : Laid). x.at) g in
        let b : ys ≡ over (field_at (view w) o i) (take (length t - at) (drop at t)) = ap (λ (x : Laid). x.tray) g in
        let m = below_more i (view w) o in
        rw z
        (record {
          within = omega arith;
          at_is = omega (arith, f.at_is, a, ap length m, length-append (fields_below i (view w) o) (field_at (view w) o i));
          tray_is = rw m (part_over (fields_below i (view w) o) t₀ t at f.at_is f.tray_is used_le (field_at (view w) o i) ys b);
          room = f.room;
        })

    pub filled_fits : (size : ℕ) (ys : List ℕ) → laid size ys ≡ lay_over (field_at (view w) o i) (take (length t - at) (drop at t)) → at + size ≤ length t
    filled_fits size ys g =
        let a : size ≡ length (field_at (view w) o i) = ap (λ (x : Laid). x.at) g in
        omega (arith, f.at_is, more_le, filled_length)

-- ---- closed, then open, then zeros

module _ (w : List ℕ) (rev : Bool) (t : List ℕ) (p : AllFit w rev t) where
  A : List ℕ
  A = fields_below (recs (view w)) (view w) false

  B : List ℕ
  B = fields_below (recs (view w)) (view w) true

  all_is : fields_of (view w) ≡ A ++ B
  unfolding fields_of fields_below A B
  all_is = refl

  both : length A + length B ≤ length t
  both = omega (arith, p.room, ap length all_is, length-append A B)

  pub closed_fit : FieldsFit w rev false t
  unfolding A
  closed_fit = record { directed = p.directed; room = omega (arith, both) }

  module _ (c : ℕ) (u : List ℕ) (g : laid c u ≡ lay_over (fields_below (recs (view w)) (view w) false) t) where
    c_is : c ≡ length A
    unfolding A
    c_is = ap (λ (x : Laid). x.at) g

    u_is : u ≡ over A t
    unfolding A
    u_is = ap (λ (x : Laid). x.tray) g

    pub closed_at : c ≤ length u
    closed_at = omega (arith, c_is, both, tray_length A t u c c_is u_is (omega (arith, both)))

    pub closed_length : length u ≡ length t
    closed_length = tray_length A t u c c_is u_is (omega (arith, both))

    pub open_fit : FieldsFit w rev true (take (length u - c) (drop c u))
    unfolding B
    open_fit =
        record {
          directed = p.directed;
          room = omega (arith, both, ap length (part_is A t u c c_is u_is (omega (arith, both))), length-drop (length A) t);
        }

    module _ (k : ℕ) (ys v : List ℕ) (h : laid k ys ≡ lay_over (fields_below (recs (view w)) (view w) true) (take (length u - c) (drop c u))) (j : v ≡ put_mid c (length u - c) u ys) where
      v_is : v ≡ over (A ++ B) t
      unfolding B
      v_is = j ∙ part_over A t u c c_is u_is (omega (arith, both)) B ys (ap (λ (x : Laid). x.tray) h)

      used_is : c + k ≡ length (A ++ B)
      unfolding B
      used_is = let b : k ≡ length B = ap (λ (x : Laid). x.at) h in omega (arith, c_is, length-append A B)

      fits : length (A ++ B) ≤ length t
      fits = omega (arith, both, length-append A B)

      pub used_at : c + k ≤ length v
      used_at = omega (arith, used_is, fits, tray_length (A ++ B) t v (c + k) used_is v_is fits)

      pub filled_all : (a b : ℕ) → a ≡ (need_of (view w) false).paths → b ≡ (need_of (view w) true).paths → (zs : List ℕ) → zs ≡ replicate (length (take (length v - (c + k)) (drop (c + k) v))) 0
          → wrote (ok_paths a b) (put_mid (c + k) (length v - (c + k)) v zs) ≡ wrote (ok_paths (length (closed_paths (view w))) (length (open_paths (view w)))) (padded (length t) (fields_of (view w)))
      unfolding need_of
      filled_all a b ea eb zs z = rw (ea, eb) (ap (wrote (ok_paths (length (closed_paths (view w))) (length (open_paths (view w))))) (part_clear (A ++ B) t v (c + k) used_is v_is fits zs z ∙ ap (padded (length t)) (sym all_is)))
