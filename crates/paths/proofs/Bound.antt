-- "26,112 bytes always suffice": three bytes for each record and twelve for each point, since a point is on at most one ring.
use Prim.Native.Nat.{ℕ, zero, suc, ◌+◌, ◌*◌, ◌≤◌, ◌<◌}
use mathlib.Core.Path.{◌≡◌, refl, sym, ap, ◌∙◌}
use mathlib.Core.Bool.{Bool, true, false, beq}
use mathlib.Core.List.{List, [], ◌++◌}
use native.Mathlib.Omega.{arith}
use native.Mathlib.Decide.{dec_lt}
use lib.Dec.{ltb}
use lib.ListN.{length, length-append}
use borrow.Author.Tests.{ltb-true, ltb-false, le-ltb, le-leb, lt-leb}
use Rattle.job.specs.declared.refusal.Refusal.TheVariants.{SmallTray}
use Rattle.rings.specs.Count.{sum_to, occ}
use Rattle.rings.proofs.Counting.{pigeon}
use Rattle.rings.proofs.Members.{occ_append}
use Rattle.store.specs.Words.{Store, view}
use Rattle.store.specs.Sound.{pts, recs, ring_at, is_open}
use Rattle.store.specs.Good.{Sound, SoundWords}
use Rattle.store.specs.Value.{reverse_solution}
use Rattle.std.specs.Prelude.{Result, Err}
use Rattle.job.specs.declared.refusal.Refusal.{Refusal}
use Rattle.paths.specs.Wrote.{ok_paths}
use Rattle.paths.specs.declared.Written.{Written}
use Rattle.paths.specs.Path.{path_if, closed_paths, open_paths, size_of}
use Rattle.paths.specs.Tray.{POINT, tag_of, fields, fields_of, padded, TRAY}
use Rattle.paths.specs.Walking.{Directed}
use Rattle.paths.specs.Count.{need_of}
use Rattle.paths.specs.Filling.{field_at, fields_below, AllFit}
use Rattle.paths.specs.Wrote.{wrote, build_paths64}
use Rattle.paths.proofs.Counts.{field_length, field_size_le, size_le}
use Rattle.paths.proofs.Filling.{below_more}

-- ---- all rings together have at most as many points as there are

-- the points of the rings of the records below n
rings_below : Store → ℕ → List ℕ
rings_below s zero = []
rings_below s (suc n) = rings_below s n ++ ring_at s n

module _ (s : Store) where
  occ_rings : (k n : ℕ) → occ k (rings_below s n) ≡ sum_to n (λ i. occ k (ring_at s i))
  unfolding rings_below
  occ_rings k zero = refl
  occ_rings k (suc n) = omega (arith, occ_append k (rings_below s n) (ring_at s n), occ_rings k n)

  length_rings : (n : ℕ) → length (rings_below s n) ≡ sum_to n (λ i. length (ring_at s i))
  unfolding rings_below
  length_rings zero = refl
  length_rings (suc n) = omega (arith, length-append (rings_below s n) (ring_at s n), length_rings n)

  module _ (o : Sound s) where
    rings_below_lem : (k n : ℕ) → n ≤ recs s → 0 < occ k (rings_below s n) → k < pts s
    unfolding rings_below
    rings_below_lem k zero h p = absurd (omega arith)
    rings_below_lem k (suc n) h p = go (dec_lt 0 (occ k (ring_at s n))) (rings_below_lem k n (omega arith))
      where
        go : Dec (0 < occ k (ring_at s n)) → (0 < occ k (rings_below s n) → k < pts s) → k < pts s
        go (yes q) r = ((o.good n h).points_in_lem k q).below
        go (no q) r = r (omega (arith, occ_append k (rings_below s n) (ring_at s n)))

    pub rings_few : sum_to (recs s) (λ i. length (ring_at s i)) ≤ pts s
    rings_few =
        omega (
          arith,
          length_rings (recs s),
          pigeon (pts s) (rings_below s (recs s)) (λ k. omega (arith, occ_rings k (recs s), o.once k)) (λ k p. rings_below_lem k (recs s) (omega arith) p),
        )

  -- ---- a record has one field at most

  field_le : (o : Bool) (i : ℕ) → length (field_at s o i) ≤ 3 + POINT * length (ring_at s i)
  unfolding field_at
  field_le o i = omega (arith, field_length s (tag_of o) o i, field_size_le (size_of (path_if s o i)), size_le s o i)

  none_of : (o : Bool) (i : ℕ) → beq (is_open s i) o ≡ false → length (field_at s o i) ≡ 0
  unfolding field_at path_if
  none_of o i e = rw e

  one_field : (i : ℕ) → length (field_at s false i) + length (field_at s true i) ≤ 3 + POINT * length (ring_at s i)
  one_field i = go (is_open s i) refl
    where
      go : (t : Bool) → is_open s i ≡ t → length (field_at s false i) + length (field_at s true i) ≤ 3 + POINT * length (ring_at s i)
      go true e = omega (arith, none_of false i (rw e), field_le true i)
      go false e = omega (arith, none_of true i (rw e), field_le false i)

  all_fields : (n : ℕ) → length (fields_below n s false) + length (fields_below n s true) ≤ 3 * n + POINT * sum_to n (λ i. length (ring_at s i))
  unfolding fields_below
  all_fields zero = omega arith
  all_fields (suc n) =
      omega (
        arith,
        all_fields n,
        one_field n,
        ap length (below_more n s false),
        length-append (fields_below n s false) (field_at s false n),
        ap length (below_more n s true),
        length-append (fields_below n s true) (field_at s true n),
      )

  length_fields_of : length (fields_of s) ≡ length (fields_below (recs s) s false) + length (fields_below (recs s) s true)
  unfolding fields_of fields_below
  length_fields_of = length-append (fields (tag_of false) (closed_paths s)) (fields (tag_of true) (open_paths s))

  pub always_suffice : Sound s → length (fields_of s) ≤ TRAY
  always_suffice o = omega (arith, length_fields_of, all_fields (recs s), rings_few o, o.few_points, o.few_records)

  -- so a tray of that length is never too small
  pub never_small : Sound s → (t : List ℕ) → TRAY ≤ length t → build_paths64 s t ≡ wrote (ok_paths (length (closed_paths s)) (length (open_paths s))) (padded (length t) (fields_of s))
  unfolding build_paths64
  never_small o t h = rw (le-leb (length (fields_of s)) (length t) (omega (arith, always_suffice o)))

-- ---- the two counts against the tray

module _ (w : List ℕ) (rev : Bool) (r : Directed w rev) where
  pub never_short : (n : ℕ) → TRAY ≤ n → false ≡ ltb n (length (fields_of (view w)))
  never_short n h = sym (le-ltb n (length (fields_of (view w))) (omega (arith, always_suffice (view w) r.ready.sound)))

  module _ (c d : ℕ) (e : c ≡ (need_of (view w) false).bytes) (f : d ≡ (need_of (view w) true).bytes) where
    bytes_are : c + d ≡ length (fields_of (view w))
    unfolding need_of fields_below
    bytes_are = rw (e, f) (sym (length_fields_of (view w)))

    pub bytes_fit : c + d ≤ TRAY
    bytes_fit = omega (arith, bytes_are, always_suffice (view w) r.ready.sound)

    pub short_is : (n : ℕ) → ltb n (c + d) ≡ ltb n (length (fields_of (view w)))
    short_is n = ap (ltb n) bytes_are

module _ (w : List ℕ) (r : SoundWords w) (t : List ℕ) (b : Bool) (e : b ≡ ltb (length t) (length (fields_of (view w)))) where
  pub tray_fits : (rev : Bool) → rev ≡ reverse_solution (view w) → b ≡ false → AllFit w rev t
  tray_fits rev g h = record { directed = record { ready = r; direction = g }; room = ltb-false (length t) (length (fields_of (view w))) (sym e ∙ h) }

  pub tray_small : b ≡ true → wrote (Err SmallTray) t ≡ build_paths64 (view w) t
  unfolding build_paths64
  tray_small h = rw (lt-leb (length (fields_of (view w))) (length t) (ltb-true (length t) (length (fields_of (view w))) (sym e ∙ h)))

  pub all_written : (a : Result Written Refusal) (u : List ℕ) → b ≡ false → wrote a u ≡ wrote (ok_paths (length (closed_paths (view w))) (length (open_paths (view w)))) (padded (length t) (fields_of (view w))) → wrote a u ≡ build_paths64 (view w) t
  unfolding build_paths64
  all_written a u h g = g ∙ rw (le-leb (length (fields_of (view w))) (length t) (ltb-false (length t) (length (fields_of (view w))) (sym e ∙ h)))
