-- A field of two jobs alike but for the backward links of their points: the same, but for its prev.
use mathlib.Core.Path.{◌≡◌, refl, sym, ap, ◌∙◌}
use mathlib.Core.Logic.{◌⊎◌, inl, inr, ◌≢◌}
use mathlib.Core.Bool.{not, ◌||◌}
use mathlib.Core.List.{List}
use Prim.Native.Nat.{ℕ, ◌+◌, ◌*◌, ◌-◌, ◌<◌, ◌≤◌}
use native.Mathlib.Nat.{add_assoc}
use native.Mathlib.Omega.{arith}
use native.Mathlib.Decide.{dec_lt, ℕ_discrete}
use lib.Dec.{eqb, ltb}
use lib.ListN.{length, get_or, drop, length-drop}
use lib.Seq.{get_or-drop}
use Rattle.numbers.specs.Bytes.{le}
use Rattle.numbers.proofs.Widths.{shifted, same_bytes}
use Rattle.job.specs.Field.{HEADER, Y_AT, NEXT_AT, PREV_AT, RECORD_AT, Z_AT, OWNER_AT, FIRST_AT, SECOND_AT, tag_of, length_of, value_of, kind_of, size_of, field_in, strange_tag, strange_bits}
use Rattle.job.specs.Job.{past}
use Rattle.job.specs.declared.Job.{Job}
use Rattle.job.specs.declared.field.Kind.{Kind}
use Rattle.job.specs.declared.field.Kind.TheVariants as kind
use Rattle.job.specs.declared.field.Field.{Field}
use Rattle.job.specs.declared.field.Field.TheVariants.{Settings, Point, Record, Segment, Join}
use Rattle.prefix.specs.Decides.{whole_of}
use Rattle.mending.specs.Mend.{prev_at}
use Rattle.reading.specs.Standing.{field_at}
use Rattle.reading.proofs.Standing.{Tagged, ReadAs, Lay, tag_of_lem, tag_is, after_points, from_job}

-- where in a point's field the prev stands
abbrev PREV_IN : ℕ
PREV_IN = HEADER + PREV_AT

-- a field with f's prev in place of its own; q is the point's number
module _ (f : ℕ → ℕ) where
  unfoldable pub fixed : ℕ → Field → Field
  fixed q (Settings b) = Settings b
  fixed q (Point x y nx pv r z) = Point x y nx (f q) r z
  fixed q (Record a b c) = Record a b c
  fixed q (Segment p) = Segment p
  fixed q (Join a b) = Join a b

  fixed_bits : (q : ℕ) (g : Field) → strange_bits (fixed q g) ≡ strange_bits g
  unfolding fixed
  fixed_bits q (Settings b) = refl
  fixed_bits q (Point x y nx pv r z) = refl
  fixed_bits q (Record a b c) = refl
  fixed_bits q (Segment p) = refl
  fixed_bits q (Join a b) = refl

-- ---- the two jobs
module _ (bytes bytes' : List ℕ) (f : ℕ → ℕ) (N : ℕ) where
  -- the second's prevs, of the first N points, are f's; every other byte is the same
  pub record Similar : Type 0 where
    pub long : length bytes' ≡ length bytes
    pub kept : (i : ℕ) → ((k : ℕ) → k < N → (i ≢ prev_at k) × (i ≢ prev_at k + 1)) → get_or bytes' i 0 ≡ get_or bytes i 0
    pub prevs : (k : ℕ) → k < N → le 2 (prev_at k) bytes' ≡ f k

  module _ (sim : Similar) where
    module _ (at : ℕ) where
      -- the bytes from lo to hi of the field are the same
      pub Clear : ℕ → ℕ → Type 0
      Clear lo hi = (i : ℕ) → lo ≤ i → i < hi → get_or bytes' (at + i) 0 ≡ get_or bytes (at + i) 0

      le_clear : (lo hi a m : ℕ) → Clear lo hi → lo ≤ a → a + m ≤ hi → le m a (drop at bytes') ≡ le m a (drop at bytes)
      unfolding Clear
      le_clear lo hi a m c h g =
          shifted m at a bytes'
          ∙ same_bytes m (at + a) bytes' bytes (λ i l. ap (λ (z : ℕ). get_or bytes' z 0) (add_assoc at a i) ∙ c (a + i) (omega arith) (omega arith) ∙ ap (λ (z : ℕ). get_or bytes z 0) (sym (add_assoc at a i)))
          ∙ sym (shifted m at a bytes)

      val : (lo hi a m : ℕ) → Clear lo hi → lo ≤ HEADER + a → HEADER + a + m ≤ hi → le m a (value_of (drop at bytes')) ≡ le m a (value_of (drop at bytes))
      val lo hi a m c h g = shifted m HEADER a (drop at bytes') ∙ le_clear lo hi (HEADER + a) m c h g ∙ sym (shifted m HEADER a (drop at bytes))

      tag_same : (hi : ℕ) → 1 ≤ hi → Clear 0 hi → tag_of (drop at bytes') ≡ tag_of (drop at bytes)
      unfolding Clear
      tag_same hi h c = get_or-drop at bytes' 0 0 ∙ c 0 (omega arith) h ∙ sym (get_or-drop at bytes 0 0)

      length_same : length (drop at bytes') ≡ length (drop at bytes)
      length_same = length-drop at bytes' ∙ ap (λ (n : ℕ). n - at) sim.long ∙ sym (length-drop at bytes)

      -- no prev is in the settings' field, nor after the points
      clear_front : at ≡ 0 → Clear 0 (whole_of kind.Settings)
      unfolding Clear
      clear_front e i h g = sim.kept (at + i) (λ k l. (λ z. omega (arith, e, g, z), λ z. omega (arith, e, g, z)))

      clear_late : (hi : ℕ) → field_at N ≤ at → Clear 0 hi
      unfolding Clear
      clear_late hi e i h g = sim.kept (at + i) (λ k l. (λ z. omega (arith, e, l, z), λ z. omega (arith, e, l, z)))

      -- in a point's field only the prev differs
      off : (q i k : ℕ) → (i < PREV_IN) ⊎ (PREV_IN + 2 ≤ i) → i < whole_of kind.Point → at ≡ field_at q → (at + i ≢ prev_at k) × (at + i ≢ prev_at k + 1)
      off q i k a b e = (λ z. go a (ℕ_discrete q k) z, λ z. go' a (ℕ_discrete q k) z)
        where
          apart : (q k i c : ℕ) → q ≢ k → i < whole_of kind.Point → c < whole_of kind.Point → whole_of kind.Point * q + i ≢ whole_of kind.Point * k + c
          apart q k i c d h g z = order (dec_lt q k)
            where
              order : Dec (q < k) → ⊥
              order (yes l) = omega arith
              order (no l) = omega (arith, d)

          go : (i < PREV_IN) ⊎ (PREV_IN + 2 ≤ i) → Dec (q ≡ k) → at + i ≡ prev_at k → ⊥
          go (inl l) (yes d) z = omega arith
          go (inr l) (yes d) z = omega arith
          go s (no d) z = apart q k i PREV_IN d b (omega arith) (omega (arith, z, e))

          go' : (i < PREV_IN) ⊎ (PREV_IN + 2 ≤ i) → Dec (q ≡ k) → at + i ≡ prev_at k + 1 → ⊥
          go' (inl l) (yes d) z = omega arith
          go' (inr l) (yes d) z = omega arith
          go' s (no d) z = apart q k i (PREV_IN + 1) d b (omega arith) (omega (arith, z, e))

      clear_head : (q : ℕ) → at ≡ field_at q → Clear 0 PREV_IN
      unfolding Clear
      clear_head q e i h g = sim.kept (at + i) (λ k l. off q i k (inl g) (omega arith) e)

      clear_tail : (q : ℕ) → at ≡ field_at q → Clear (PREV_IN + 2) (whole_of kind.Point)
      unfolding Clear
      clear_tail q e i h g = sim.kept (at + i) (λ k l. off q i k (inr h) g e)

      -- ---- the values
      other_value : (q : ℕ) (k : Kind) → k ≢ kind.Point → Clear 0 (whole_of k) → field_in k (value_of (drop at bytes')) ≡ fixed f q (field_in k (value_of (drop at bytes)))
      unfolding fixed
      other_value q kind.Settings d c = ap Settings (val 0 (whole_of kind.Settings) 0 1 c (omega arith) (omega arith))
      other_value q kind.Point d c = absurd (d refl)
      other_value q kind.Record d c =
          let a = val 0 (whole_of kind.Record) 0 1 c (omega arith) (omega arith) in
          let b = val 0 (whole_of kind.Record) OWNER_AT 2 c (omega arith) (omega arith) in
          let e = val 0 (whole_of kind.Record) FIRST_AT 2 c (omega arith) (omega arith) in
          cc (a, b, e)
      other_value q kind.Segment d c = ap Segment (val 0 (whole_of kind.Segment) 0 2 c (omega arith) (omega arith))
      other_value q kind.Join d c =
          let a = val 0 (whole_of kind.Join) 0 2 c (omega arith) (omega arith) in
          let b = val 0 (whole_of kind.Join) SECOND_AT 2 c (omega arith) (omega arith) in
          cc (a, b)

      prev_there : (q : ℕ) → q < N → at ≡ field_at q → le 2 PREV_AT (value_of (drop at bytes')) ≡ f q
      prev_there q h e = from_job 2 at q PREV_AT bytes' e ∙ sim.prevs q h

      point_value : (q : ℕ) → q < N → at ≡ field_at q → field_in kind.Point (value_of (drop at bytes')) ≡ fixed f q (field_in kind.Point (value_of (drop at bytes)))
      unfolding fixed
      point_value q h e =
          let a = val 0 PREV_IN 0 4 (clear_head q e) (omega arith) (omega arith) in
          let b = val 0 PREV_IN Y_AT 4 (clear_head q e) (omega arith) (omega arith) in
          let c = val 0 PREV_IN NEXT_AT 2 (clear_head q e) (omega arith) (omega arith) in
          let d = prev_there q h e in
          let g = val (PREV_IN + 2) (whole_of kind.Point) RECORD_AT 2 (clear_tail q e) (omega arith) (omega arith) in
          let z = val (PREV_IN + 2) (whole_of kind.Point) Z_AT 4 (clear_tail q e) (omega arith) (omega arith) in
          cc (a, b, c, d, g, z)

    -- ---- the same field, but for its prev
    pub same_read : (j : Job) (g : Field) (n : ℕ) (k : Kind) → ReadAs j (drop j.at bytes) g n k → Clear j.at 0 HEADER → field_in k (value_of (drop j.at bytes')) ≡ fixed f j.points (field_in k (value_of (drop j.at bytes)))
        → ReadAs j (drop j.at bytes') (fixed f j.points g) n k
    same_read j g n k r c v =
        record {
          kind_is = ap kind_of t ∙ r.kind_is;
          is = ap (fixed f j.points) r.is ∙ sym v;
          size = r.size;
          header = ap (λ (z : ℕ). ltb z HEADER) l ∙ r.header;
          tag = ap (strange_tag j.last) t ∙ r.tag;
          whole = ap (λ (z : ℕ). not (eqb z (size_of k)) || ltb (length (drop j.at bytes')) (whole_of k)) m ∙ ap (λ (z : ℕ). not (eqb (length_of (drop j.at bytes)) (size_of k)) || ltb z (whole_of k)) l ∙ r.whole;
          bits = ap strange_bits v ∙ fixed_bits f j.points (field_in k (value_of (drop j.at bytes))) ∙ r.bits;
          room = r.room;
        }
      where
        t : tag_of (drop j.at bytes') ≡ tag_of (drop j.at bytes)
        t = tag_same j.at HEADER (omega arith) c

        l : length (drop j.at bytes') ≡ length (drop j.at bytes)
        l = length_same j.at

        m : length_of (drop j.at bytes') ≡ length_of (drop j.at bytes)
        m = le_clear j.at 0 HEADER 1 2 c (omega arith) (omega arith)

    clear_less : (at lo hi m : ℕ) → m ≤ hi → Clear at lo hi → Clear at lo m
    unfolding Clear
    clear_less at lo hi m h c i a b = c i a (omega arith)

    -- ---- the value of the field that comes next in both
    module _ (j : Job) (l : Lay j) where
      abbrev here : List ℕ
      here = drop j.at bytes

      pub value_alike : (k : Kind) (g : Field) (n : ℕ) → ReadAs j here g n k → (past (field_in k (value_of here)) n j).points ≤ N → (2 < (past (field_in k (value_of here)) n j).last → (past (field_in k (value_of here)) n j).points ≡ N)
          → Clear j.at 0 HEADER × (field_in k (value_of (drop j.at bytes')) ≡ fixed f j.points (field_in k (value_of here)))
      value_alike k g n r = go k (tag_of_lem j here g n k r)
        where
          go : (k : Kind) → (tag_of here ≡ tag_is k) × Tagged j.last (tag_of here) → (past (field_in k (value_of here)) n j).points ≤ N → (2 < (past (field_in k (value_of here)) n j).last → (past (field_in k (value_of here)) n j).points ≡ N)
              → Clear j.at 0 HEADER × (field_in k (value_of (drop j.at bytes')) ≡ fixed f j.points (field_in k (value_of here)))
          go kind.Settings t p o =
              let z : j.at ≡ 0 = (l.fresh (settled (dec_lt 0 j.last) t)).0 in
              (clear_less j.at 0 (whole_of kind.Settings) HEADER (omega arith) (clear_front j.at z), other_value j.at j.points kind.Settings (λ e. let y : ◌≡◌ {A = ℕ} 0 1 = cc in omega arith) (clear_front j.at z))
            where
              settled : Dec (0 < j.last) → (tag_of here ≡ 1) × Tagged j.last (tag_of here) → j.last ≡ 0
              settled (yes q) t = absurd (t.1.once q t.0)
              settled (no q) t = omega arith
          go kind.Point t p o =
              let nz : j.last ≢ 0 = λ e. omega (arith, t.0, t.1.first e) in
              let z : j.at ≡ field_at j.points = l.early (omega (arith, nz)) (omega (arith, t.0, t.1.rises)) in
              (clear_less j.at 0 PREV_IN HEADER (omega arith) (clear_head j.at j.points z), point_value j.at j.points (omega (arith, p)) z)
          go kind.Record t p o =
              let z : field_at N ≤ j.at = omega (arith, after_points j here l kind.Record (omega arith) t, o (omega arith)) in
              (clear_late j.at HEADER z, other_value j.at j.points kind.Record (λ e. let y : ◌≡◌ {A = ℕ} 0 1 = cc in omega arith) (clear_late j.at (whole_of kind.Record) z))
          go kind.Segment t p o =
              let z : field_at N ≤ j.at = omega (arith, after_points j here l kind.Segment (omega arith) t, o (omega arith)) in
              (clear_late j.at HEADER z, other_value j.at j.points kind.Segment (λ e. let y : ◌≡◌ {A = ℕ} 0 1 = cc in omega arith) (clear_late j.at (whole_of kind.Segment) z))
          go kind.Join t p o =
              let z : field_at N ≤ j.at = omega (arith, after_points j here l kind.Join (omega arith) t, o (omega arith)) in
              (clear_late j.at HEADER z, other_value j.at j.points kind.Join (λ e. let y : ◌≡◌ {A = ℕ} 0 1 = cc in omega arith) (clear_late j.at (whole_of kind.Join) z))
