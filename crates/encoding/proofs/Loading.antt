-- A sheet's bytes are read back: every number stands in its word.
use Prim.Native.Nat.{ℕ, zero, suc, ◌+◌, ◌*◌, ◌≤◌, ◌<◌}
use mathlib.Core.Path.{◌≡◌, refl, ap, ◌∙◌, sym, subst}
use mathlib.Core.Bool.{cond}
use mathlib.Core.List.{List, [], ◌∷◌, ◌++◌}
use native.Mathlib.Omega.{arith}
use native.Mathlib.Decide.{ℕ_discrete}
use lib.Dec.{eqb}
use lib.ListN.{length, get_or, set, drop, length-set, length-drop, length-append}
use lib.Seq.{get_or-set_same, get_or-set_other, drop-drop, drop_at}
use borrow.Author.Tests.{lt-ltb}
use Rattle.std.proofs.Common.{Ok}
use Rattle.rings.specs.Count.{table}
use Rattle.job.specs.Limits as limit
use Rattle.job.specs.Job.{past}
use Rattle.job.specs.declared.Job.{Job}
use Rattle.job.specs.declared.field.Field.{Field}
use Rattle.job.specs.Field.{field_of}
use Rattle.store.specs.Field.{pt, rc, X, Y, Z, NEXT, PREV, REC, FLAGS, OWNER, FIRST, POINTS, RECORDS}
use Rattle.store.specs.Words.{Store, view, write, on_words}
use Rattle.store.specs.Stores.{on_store}
use Rattle.store.proofs.Storing.{view_writes, length_writes}
use Rattle.reading.specs.Needs.{Space}
use Rattle.reading.specs.Fill.{put_point, record_read, put_record, put_join, placed, turn_of, follow, run}
use Rattle.opening.proofs.Starting.{more}
use Rattle.encoding.specs.Sheet.{bytes_of, all_bytes, Sheet, point_field, record_field, segment_field, join_field}
use Rattle.encoding.proofs.Numbers.{SheetFits, NumbersAs, points_kept, records_kept}
use Rattle.encoding.proofs.Fielding.{read_point, read_record, read_segment, read_join}

-- ---- one turn

module _ (bytes : List ℕ) (j : Job) (w ss js : List ℕ) (f : Field) (n : ℕ) (rest : List ℕ) (here : drop j.at bytes ≡ bytes_of f ++ rest) (long : length (bytes_of f) ≡ n) (some : 0 < n) where
  pub turn : (k : ℕ) → field_of j (bytes_of f ++ rest) ≡ Ok (f, n) → run (suc k) bytes j w ss js ≡ follow (run k bytes) (placed f n j w ss js)
  unfolding run turn_of
  turn k e =
      let l : j.at < length bytes = omega (arith, length-drop j.at bytes, ap length here, length-append (bytes_of f) rest) in
      rw (lt-ltb j.at (length bytes) l, here, e)

  pub onward : drop (j.at + n) bytes ≡ rest
  onward = sym (drop-drop n j.at bytes) ∙ ap (drop n) here ∙ drop_at (bytes_of f) rest n long

-- a column with v at i: what is below i + 1
column_more : (i v : ℕ) (c d : ℕ → ℕ) → ((k : ℕ) → k < i → c k ≡ d k) → d i ≡ v → (k : ℕ) → k < i + 1 → cond (eqb k i) v (c k) ≡ d k
column_more i v c d h e k l = more i v c d h e k (omega arith)

listed_more : (i v : ℕ) (l : List ℕ) (d : ℕ → ℕ) → i < length l → ((k : ℕ) → k < i → get_or l k 0 ≡ d k) → d i ≡ v → (k : ℕ) → k < i + 1 → get_or (set l i v) k 0 ≡ d k
listed_more i v l d b h e k m = go (ℕ_discrete k i)
  where
    go : Dec (k ≡ i) → get_or (set l i v) k 0 ≡ d k
    go (yes z) = rw z (get_or-set_same l i v 0 b ∙ sym e)
    go (no z) = get_or-set_other l i k v 0 z ∙ h k (omega arith)

module _ (t : Sheet) (bytes : List ℕ) where
  -- what was read so far, and what is left of the bytes
  pub record Got (j : Job) (w ss js rest : List ℕ) (tag : ℕ) : Type 0 where
    pub here : drop j.at bytes ≡ rest
    pub bits : j.bits ≡ t.bits
    pub some : 0 < j.last
    pub last : j.last ≤ tag
    pub space : Space w ss js
    pub numbers : NumbersAs t j.points j.records j.segments j.joins w ss js

  -- where reading comes to
  pub record ReadUpTo (fuel : ℕ) (j₀ : Job) (w₀ ss₀ js₀ rest : List ℕ) (tag n p r s q : ℕ) : Type 0 where
    pub job : Job
    pub words : List ℕ
    pub segments : List ℕ
    pub joins : List ℕ
    pub left : ℕ
    pub spent : left + n ≡ fuel
    pub runs : run fuel bytes j₀ w₀ ss₀ js₀ ≡ run left bytes job words segments joins
    pub got : Got job words segments joins rest tag
    pub points_are : job.points ≡ p
    pub records_are : job.records ≡ r
    pub segments_are : job.segments ≡ s
    pub joins_are : job.joins ≡ q

  stay : (fuel : ℕ) (j : Job) (w ss js rest : List ℕ) (tag : ℕ) → Got j w ss js rest tag → ReadUpTo fuel j w ss js rest tag 0 j.points j.records j.segments j.joins
  stay fuel j w ss js rest tag g =
      record { job = j; words = w; segments = ss; joins = js; left = fuel; spent = omega arith; runs = refl; got = g; points_are = refl; records_are = refl; segments_are = refl; joins_are = refl }

  later : (fuel : ℕ) (j : Job) (w ss js rest : List ℕ) (tag n p r s q : ℕ) (i : Job) (v ts ks : List ℕ) → run (suc fuel) bytes j w ss js ≡ run fuel bytes i v ts ks → ReadUpTo fuel i v ts ks rest tag n p r s q
      → ReadUpTo (suc fuel) j w ss js rest tag (suc n) p r s q
  later fuel j w ss js rest tag n p r s q i v ts ks e z =
      record {
        job = z.job;
        words = z.words;
        segments = z.segments;
        joins = z.joins;
        left = z.left;
        spent = omega (arith, z.spent);
        runs = e ∙ z.runs;
        got = z.got;
        points_are = z.points_are;
        records_are = z.records_are;
        segments_are = z.segments_are;
        joins_are = z.joins_are;
      }

  module _ (f : SheetFits t) where
    -- ---- points

    point_got : (j : Job) (w ss js rest : List ℕ) → j.points < t.points → Got j w ss js (bytes_of (point_field t j.points) ++ rest) 2
        → Got (past (point_field t j.points) 21 j) (put_point j.points (t.x j.points) (t.y j.points) (t.next j.points) (t.prev j.points) (t.rec j.points) (t.z j.points) w) ss js rest 2
    point_got j w ss js rest h g =
        let i = j.points in
        let a = g.numbers.points in
        let l : i < limit.POINTS = omega (arith, f.points) in
        let xs = write (pt X) i (t.x i) ∷ write (pt Y) i (t.y i) ∷ write (pt NEXT) i (t.next i) ∷ write (pt PREV) i (t.prev i) ∷ write (pt REC) i (t.rec i) ∷ write (pt Z) i (t.z i) ∷ [] in
        let v : view (on_words w xs) ≡ on_store (view w) xs = view_writes w xs g.space.words (l, (l, (l, (l, (l, (l, tt)))))) in
        record {
          here = onward bytes j w ss js (point_field t i) 21 rest g.here refl (omega arith);
          bits = g.bits;
          some = omega arith;
          last = omega arith;
          space = record { words = omega (arith, g.space.words, length_writes w xs); segments = g.space.segments; joins = g.space.joins };
          numbers = record {
            points = record {
              x = λ k b. ap (λ (s : Store). s (pt X) k) v ∙ column_more i (t.x i) (view w (pt X)) t.x a.x refl k b;
              y = λ k b. ap (λ (s : Store). s (pt Y) k) v ∙ column_more i (t.y i) (view w (pt Y)) t.y a.y refl k b;
              next = λ k b. ap (λ (s : Store). s (pt NEXT) k) v ∙ column_more i (t.next i) (view w (pt NEXT)) t.next a.next refl k b;
              prev = λ k b. ap (λ (s : Store). s (pt PREV) k) v ∙ column_more i (t.prev i) (view w (pt PREV)) t.prev a.prev refl k b;
              rec = λ k b. ap (λ (s : Store). s (pt REC) k) v ∙ column_more i (t.rec i) (view w (pt REC)) t.rec a.rec refl k b;
              z = λ k b. ap (λ (s : Store). s (pt Z) k) v ∙ column_more i (t.z i) (view w (pt Z)) t.z a.z refl k b;
            };
            records = records_kept t j.records (view w) (view (on_words w xs)) (λ c k. ap (λ (s : Store). s (rc c) k) v) g.numbers.records;
            segments = g.numbers.segments;
            joins = g.numbers.joins;
          };
        }

    pub points_read : (m fuel : ℕ) (j : Job) (w ss js : List ℕ) (fs : List Field) → j.points + m ≡ t.points → m ≤ fuel → Got j w ss js (all_bytes (table (point_field t) j.points m ++ fs)) 2
        → ReadUpTo fuel j w ss js (all_bytes fs) 2 m t.points j.records j.segments j.joins
    points_read zero fuel j w ss js fs e h g = subst (λ (p : ℕ). ReadUpTo fuel j w ss js (all_bytes fs) 2 0 p j.records j.segments j.joins) (omega arith) (stay fuel j w ss js (all_bytes fs) 2 g)
    points_read (suc m) zero j w ss js fs e h g = absurd (omega arith)
    points_read (suc m) (suc fuel) j w ss js fs e h g =
        let i = j.points in
        let b : i < t.points = omega arith in
        let rest = all_bytes (table (point_field t) (i + 1) m ++ fs) in
        let q : all_bytes (table (point_field t) i (suc m) ++ fs) ≡ bytes_of (point_field t i) ++ rest = ap (λ (n : ℕ). bytes_of (point_field t i) ++ all_bytes (table (point_field t) n m ++ fs)) (omega arith) in
        let g' : Got j w ss js (bytes_of (point_field t i) ++ rest) 2 = subst (λ (z : List ℕ). Got j w ss js z 2) q g in
        later fuel j w ss js (all_bytes fs) 2 m t.points j.records j.segments j.joins (past (point_field t i) 21 j) (put_point i (t.x i) (t.y i) (t.next i) (t.prev i) (t.rec i) (t.z i) w) ss js
        (turn bytes j w ss js (point_field t i) 21 rest g'.here refl (omega arith) fuel
        (read_point j rest (t.x i) (t.y i) (t.next i) (t.prev i) (t.rec i) (t.z i) g.some g.last (omega (arith, f.points)) (f.x i b) (f.y i b) (f.next i b) (f.prev i b) (f.rec i b) (f.z i b)))
        (points_read m fuel (past (point_field t i) 21 j) (put_point i (t.x i) (t.y i) (t.next i) (t.prev i) (t.rec i) (t.z i) w) ss js fs (omega arith) (omega arith) (point_got j w ss js rest b g'))

    -- ---- records

    record_got : (j : Job) (w ss js rest : List ℕ) → j.records < t.records → Got j w ss js (bytes_of (record_field t j.records) ++ rest) 3
        → Got (past (record_field t j.records) 8 j) (put_record j.records (t.flags j.records) (t.owner j.records) (t.first j.records) w) ss js rest 3
    record_got j w ss js rest h g =
        let i = j.records in
        let a = g.numbers.records in
        let l : i < limit.RECORDS = omega (arith, f.records) in
        let xs = record_read i (t.flags i) (t.owner i) (t.first i) in
        let v : view (on_words w xs) ≡ on_store (view w) xs = view_writes w xs g.space.words (l, (l, (l, (l, tt)))) in
        record {
          here = onward bytes j w ss js (record_field t i) 8 rest g.here refl (omega arith);
          bits = g.bits;
          some = omega arith;
          last = omega arith;
          space = record { words = omega (arith, g.space.words, length_writes w xs); segments = g.space.segments; joins = g.space.joins };
          numbers = record {
            points = points_kept t j.points (view w) (view (on_words w xs)) (λ c k. ap (λ (s : Store). s (pt c) k) v) g.numbers.points;
            records = record {
              flags = λ k b. ap (λ (s : Store). s (rc FLAGS) k) v ∙ column_more i (t.flags i) (view w (rc FLAGS)) t.flags a.flags refl k b;
              owner = λ k b. ap (λ (s : Store). s (rc OWNER) k) v ∙ column_more i (t.owner i) (view w (rc OWNER)) t.owner a.owner refl k b;
              first = λ k b. ap (λ (s : Store). s (rc FIRST) k) v ∙ column_more i (t.first i) (view w (rc FIRST)) t.first a.first refl k b;
            };
            segments = g.numbers.segments;
            joins = g.numbers.joins;
          };
        }

    pub records_read : (m fuel : ℕ) (j : Job) (w ss js : List ℕ) (fs : List Field) → j.records + m ≡ t.records → m ≤ fuel → Got j w ss js (all_bytes (table (record_field t) j.records m ++ fs)) 3
        → ReadUpTo fuel j w ss js (all_bytes fs) 3 m j.points t.records j.segments j.joins
    records_read zero fuel j w ss js fs e h g = subst (λ (p : ℕ). ReadUpTo fuel j w ss js (all_bytes fs) 3 0 j.points p j.segments j.joins) (omega arith) (stay fuel j w ss js (all_bytes fs) 3 g)
    records_read (suc m) zero j w ss js fs e h g = absurd (omega arith)
    records_read (suc m) (suc fuel) j w ss js fs e h g =
        let i = j.records in
        let b : i < t.records = omega arith in
        let rest = all_bytes (table (record_field t) (i + 1) m ++ fs) in
        let q : all_bytes (table (record_field t) i (suc m) ++ fs) ≡ bytes_of (record_field t i) ++ rest = ap (λ (n : ℕ). bytes_of (record_field t i) ++ all_bytes (table (record_field t) n m ++ fs)) (omega arith) in
        let g' : Got j w ss js (bytes_of (record_field t i) ++ rest) 3 = subst (λ (z : List ℕ). Got j w ss js z 3) q g in
        later fuel j w ss js (all_bytes fs) 3 m j.points t.records j.segments j.joins (past (record_field t i) 8 j) (put_record i (t.flags i) (t.owner i) (t.first i) w) ss js
        (turn bytes j w ss js (record_field t i) 8 rest g'.here refl (omega arith) fuel
        (read_record j rest (t.flags i) (t.owner i) (t.first i) g.some g.last (omega (arith, f.records)) (f.flags i b) (f.owner i b) (f.first i b)))
        (records_read m fuel (past (record_field t i) 8 j) (put_record i (t.flags i) (t.owner i) (t.first i) w) ss js fs (omega arith) (omega arith) (record_got j w ss js rest b g'))

    -- ---- segments

    segment_got : (j : Job) (w ss js rest : List ℕ) → j.segments < t.segments → Got j w ss js (bytes_of (segment_field t j.segments) ++ rest) 4
        → Got (past (segment_field t j.segments) 5 j) w (set ss j.segments (t.segment j.segments)) js rest 4
    segment_got j w ss js rest h g =
        let i = j.segments in
        record {
          here = onward bytes j w ss js (segment_field t i) 5 rest g.here refl (omega arith);
          bits = g.bits;
          some = omega arith;
          last = omega arith;
          space = record { words = g.space.words; segments = omega (arith, g.space.segments, length-set ss i (t.segment i)); joins = g.space.joins };
          numbers = record {
            points = g.numbers.points;
            records = g.numbers.records;
            segments = listed_more i (t.segment i) ss t.segment (omega (arith, g.space.segments, f.segments)) g.numbers.segments refl;
            joins = g.numbers.joins;
          };
        }

    pub segments_read : (m fuel : ℕ) (j : Job) (w ss js : List ℕ) (fs : List Field) → j.segments + m ≡ t.segments → m ≤ fuel → Got j w ss js (all_bytes (table (segment_field t) j.segments m ++ fs)) 4
        → ReadUpTo fuel j w ss js (all_bytes fs) 4 m j.points j.records t.segments j.joins
    segments_read zero fuel j w ss js fs e h g = subst (λ (p : ℕ). ReadUpTo fuel j w ss js (all_bytes fs) 4 0 j.points j.records p j.joins) (omega arith) (stay fuel j w ss js (all_bytes fs) 4 g)
    segments_read (suc m) zero j w ss js fs e h g = absurd (omega arith)
    segments_read (suc m) (suc fuel) j w ss js fs e h g =
        let i = j.segments in
        let b : i < t.segments = omega arith in
        let rest = all_bytes (table (segment_field t) (i + 1) m ++ fs) in
        let q : all_bytes (table (segment_field t) i (suc m) ++ fs) ≡ bytes_of (segment_field t i) ++ rest = ap (λ (n : ℕ). bytes_of (segment_field t i) ++ all_bytes (table (segment_field t) n m ++ fs)) (omega arith) in
        let g' : Got j w ss js (bytes_of (segment_field t i) ++ rest) 4 = subst (λ (z : List ℕ). Got j w ss js z 4) q g in
        later fuel j w ss js (all_bytes fs) 4 m j.points j.records t.segments j.joins (past (segment_field t i) 5 j) w (set ss i (t.segment i)) js
        (turn bytes j w ss js (segment_field t i) 5 rest g'.here refl (omega arith) fuel (read_segment j rest (t.segment i) g.some g.last (omega (arith, f.segments)) (f.segment i b)))
        (segments_read m fuel (past (segment_field t i) 5 j) w (set ss i (t.segment i)) js fs (omega arith) (omega arith) (segment_got j w ss js rest b g'))

    -- ---- joins

    join_got : (j : Job) (w ss js rest : List ℕ) → j.joins < t.joins → Got j w ss js (bytes_of (join_field t j.joins) ++ rest) 5
        → Got (past (join_field t j.joins) 7 j) w ss (put_join j.joins (t.one j.joins) (t.two j.joins) js) rest 5
    join_got j w ss js rest h g =
        let i = j.joins in
        let l = length-set js (2 * i) (t.one i) in
        record {
          here = onward bytes j w ss js (join_field t i) 7 rest g.here refl (omega arith);
          bits = g.bits;
          some = omega arith;
          last = omega arith;
          space = record { words = g.space.words; segments = g.space.segments; joins = omega (arith, g.space.joins, l, length-set (set js (2 * i) (t.one i)) (2 * i + 1) (t.two i)) };
          numbers = record {
            points = g.numbers.points;
            records = g.numbers.records;
            segments = g.numbers.segments;
            joins = record { one = λ k b. firsts k b (ℕ_discrete k i); two = λ k b. seconds k b (ℕ_discrete k i) };
          };
        }
      where
        fits : 2 * j.joins + 1 < length js
        fits = omega (arith, g.space.joins, f.joins)

        firsts : (k : ℕ) → k < j.joins + 1 → Dec (k ≡ j.joins) → get_or (set (set js (2 * j.joins) (t.one j.joins)) (2 * j.joins + 1) (t.two j.joins)) (2 * k) 0 ≡ t.one k
        firsts k b d = get_or-set_other (set js (2 * j.joins) (t.one j.joins)) (2 * j.joins + 1) (2 * k) (t.two j.joins) 0 (λ e. omega arith) ∙ go d
          where
            go : Dec (k ≡ j.joins) → get_or (set js (2 * j.joins) (t.one j.joins)) (2 * k) 0 ≡ t.one k
            go (yes e) = rw e (get_or-set_same js (2 * j.joins) (t.one j.joins) 0 (omega (arith, fits)))
            go (no e) = get_or-set_other js (2 * j.joins) (2 * k) (t.one j.joins) 0 (λ z. e (omega arith)) ∙ g.numbers.joins.one k (omega arith)

        seconds : (k : ℕ) → k < j.joins + 1 → Dec (k ≡ j.joins) → get_or (set (set js (2 * j.joins) (t.one j.joins)) (2 * j.joins + 1) (t.two j.joins)) (2 * k + 1) 0 ≡ t.two k
        seconds k b (yes e) = rw e (get_or-set_same (set js (2 * j.joins) (t.one j.joins)) (2 * j.joins + 1) (t.two j.joins) 0 (omega (arith, fits, length-set js (2 * j.joins) (t.one j.joins))))
        seconds k b (no e) =
            get_or-set_other (set js (2 * j.joins) (t.one j.joins)) (2 * j.joins + 1) (2 * k + 1) (t.two j.joins) 0 (λ z. e (omega arith))
            ∙ get_or-set_other js (2 * j.joins) (2 * k + 1) (t.one j.joins) 0 (λ z. omega arith) ∙ g.numbers.joins.two k (omega arith)

    pub joins_read : (m fuel : ℕ) (j : Job) (w ss js : List ℕ) (fs : List Field) → j.joins + m ≡ t.joins → m ≤ fuel → Got j w ss js (all_bytes (table (join_field t) j.joins m ++ fs)) 5
        → ReadUpTo fuel j w ss js (all_bytes fs) 5 m j.points j.records j.segments t.joins
    joins_read zero fuel j w ss js fs e h g = subst (λ (p : ℕ). ReadUpTo fuel j w ss js (all_bytes fs) 5 0 j.points j.records j.segments p) (omega arith) (stay fuel j w ss js (all_bytes fs) 5 g)
    joins_read (suc m) zero j w ss js fs e h g = absurd (omega arith)
    joins_read (suc m) (suc fuel) j w ss js fs e h g =
        let i = j.joins in
        let b : i < t.joins = omega arith in
        let rest = all_bytes (table (join_field t) (i + 1) m ++ fs) in
        let q : all_bytes (table (join_field t) i (suc m) ++ fs) ≡ bytes_of (join_field t i) ++ rest = ap (λ (n : ℕ). bytes_of (join_field t i) ++ all_bytes (table (join_field t) n m ++ fs)) (omega arith) in
        let g' : Got j w ss js (bytes_of (join_field t i) ++ rest) 5 = subst (λ (z : List ℕ). Got j w ss js z 5) q g in
        later fuel j w ss js (all_bytes fs) 5 m j.points j.records j.segments t.joins (past (join_field t i) 7 j) w ss (put_join i (t.one i) (t.two i) js)
        (turn bytes j w ss js (join_field t i) 7 rest g'.here refl (omega arith) fuel (read_join j rest (t.one i) (t.two i) g.some g.last (omega (arith, f.joins)) (f.one i b) (f.two i b)))
        (joins_read m fuel (past (join_field t i) 7 j) w ss (put_join i (t.one i) (t.two i) js) fs (omega arith) (omega arith) (join_got j w ss js rest b g'))
