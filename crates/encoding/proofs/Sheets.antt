-- A whole sheet is read back.
use Prim.Native.Nat.{ℕ, ◌+◌, ◌≤◌}
use mathlib.Core.Path.{◌≡◌, refl, ap, ◌∙◌, sym, subst}
use mathlib.Core.List.{List, [], ◌∷◌, ◌++◌, append-nil}
use native.Mathlib.Omega.{arith}
use lib.ListN.{length, length-drop, length-append}
use borrow.Author.Tests.{ne_eqb}
use Rattle.std.proofs.Common.{Ok}
use Rattle.rings.proofs.Counting.{length_table}
use Rattle.rings.specs.Count.{table}
use Rattle.job.specs.Job.{fresh, past}
use Rattle.job.specs.declared.Job.{Job}
use Rattle.job.specs.declared.field.Field.{Field}
use Rattle.job.specs.declared.field.Field.TheVariants.{Settings, Point, Record, Segment, Join}
use Rattle.store.specs.Field.{pt, rc, ct, SETTINGS, POINTS, RECORDS}
use Rattle.store.specs.Words.{Store, view, write, on_words}
use Rattle.store.specs.Stores.{on_store}
use Rattle.store.specs.Named.{settings_of, points_of, records_of}
use Rattle.store.proofs.Storing.{view_writes}
use Rattle.reading.specs.Fill.{end, run, fill_of}
use Rattle.reading.specs.Needs.{Space}
use Rattle.reading.specs.Read.{counted, with_counts, read_of}
use Rattle.reading.proofs.Going.{over}
use Rattle.encoding.specs.Sheet.{bytes_of, all_bytes, Sheet, point_field, record_field, segment_field, join_field, sheet_bytes}
use Rattle.encoding.proofs.Fielding.{read_settings}
use Rattle.encoding.proofs.Numbers.{SheetFits, NumbersAs, points_kept, records_kept, counts_are}
use Rattle.encoding.proofs.Loading.{turn, onward, Got, ReadUpTo, points_read, records_read, segments_read, joins_read}

-- every field has bytes
bytes_some : (f : Field) → 1 ≤ length (bytes_of f)
bytes_some (Settings b) = omega arith
bytes_some (Point x y n p r z) = omega arith
bytes_some (Record f o p) = omega arith
bytes_some (Segment p) = omega arith
bytes_some (Join a b) = omega arith

fields_few : (fs : List Field) → length fs ≤ length (all_bytes fs)
fields_few [] = omega arith
fields_few (f ∷ fs) = omega (arith, fields_few fs, bytes_some f, length-append (bytes_of f) (all_bytes fs))

-- a later tag may follow too
raise : (t : Sheet) (bytes : List ℕ) (j : Job) (w ss js rest : List ℕ) (a b : ℕ) → a ≤ b → Got t bytes j w ss js rest a → Got t bytes j w ss js rest b
raise t bytes j w ss js rest a b h g = record { here = g.here; bits = g.bits; some = g.some; last = omega (arith, g.last); space = g.space; numbers = g.numbers }

-- one after the other
compose : (t : Sheet) (bytes : List ℕ) (fuel : ℕ) (j : Job) (w ss js rest more : List ℕ) (a b n p r s q : ℕ) (z : ReadUpTo t bytes fuel j w ss js rest a n p r s q) (m p' r' s' q' : ℕ)
    → ReadUpTo t bytes z.left z.job z.words z.segments z.joins more b m p' r' s' q' → ReadUpTo t bytes fuel j w ss js more b (n + m) p' r' s' q'
compose t bytes fuel j w ss js rest more a b n p r s q z m p' r' s' q' y =
    record {
      job = y.job;
      words = y.words;
      segments = y.segments;
      joins = y.joins;
      left = y.left;
      spent = omega (arith, z.spent, y.spent);
      runs = z.runs ∙ y.runs;
      got = y.got;
      points_are = y.points_are;
      records_are = y.records_are;
      segments_are = y.segments_are;
      joins_are = y.joins_are;
    }

settle : (t : Sheet) (bytes : List ℕ) (fuel : ℕ) (j : Job) (w ss js rest : List ℕ) (a n p r s q p' r' s' q' : ℕ) → p ≡ p' → r ≡ r' → s ≡ s' → q ≡ q' → ReadUpTo t bytes fuel j w ss js rest a n p r s q → ReadUpTo t bytes fuel j w ss js rest a n p' r' s' q'
settle t bytes fuel j w ss js rest a n p r s q p' r' s' q' ep er es eq y =
    record {
      job = y.job;
      words = y.words;
      segments = y.segments;
      joins = y.joins;
      left = y.left;
      spent = y.spent;
      runs = y.runs;
      got = y.got;
      points_are = y.points_are ∙ ep;
      records_are = y.records_are ∙ er;
      segments_are = y.segments_are ∙ es;
      joins_are = y.joins_are ∙ eq;
    }

-- what the words say of a sheet that was read
pub record SheetRead (t : Sheet) (j : Job) (w ss js : List ℕ) : Type 0 where
  pub settings : settings_of w ≡ t.bits
  pub points : points_of w ≡ t.points
  pub records : records_of w ≡ t.records
  pub segments : j.segments ≡ t.segments
  pub joins : j.joins ≡ t.joins
  pub numbers : NumbersAs t t.points t.records t.segments t.joins w ss js

pub record ReadBack (t : Sheet) (w ss js : List ℕ) : Type 0 where
  pub job : Job
  pub words : List ℕ
  pub segs : List ℕ
  pub jons : List ℕ
  pub is : read_of (sheet_bytes t) w ss js ≡ end (Ok job) words segs jons
  pub written : SheetRead t job words segs jons

module _ (t : Sheet) (f : SheetFits t) (w ss js : List ℕ) (sp : Space w ss js) where
  abbrev tail4 : List Field
  tail4 = table (join_field t) 0 t.joins

  abbrev tail3 : List Field
  tail3 = table (segment_field t) 0 t.segments ++ tail4

  abbrev tail2 : List Field
  tail2 = table (record_field t) 0 t.records ++ tail3

  abbrev tail1 : List Field
  tail1 = table (point_field t) 0 t.points ++ tail2

  abbrev bytes : List ℕ
  bytes = sheet_bytes t

  count : length tail1 ≡ t.points + (t.records + (t.segments + t.joins))
  count =
      omega (
        arith,
        length-append (table (point_field t) 0 t.points) tail2,
        length-append (table (record_field t) 0 t.records) tail3,
        length-append (table (segment_field t) 0 t.segments) tail4,
        length_table (point_field t) 0 t.points,
        length_table (record_field t) 0 t.records,
        length_table (segment_field t) 0 t.segments,
        length_table (join_field t) 0 t.joins,
      )

  enough : t.points + (t.records + (t.segments + t.joins)) + 4 ≤ length bytes
  enough = omega (arith, count, fields_few tail1)

  abbrev j₀ : Job
  j₀ = past (Settings t.bits) 4 fresh

  begun : Got t bytes j₀ w ss js (all_bytes tail1) 2
  begun =
      record {
        here = onward bytes fresh w ss js (Settings t.bits) 4 (all_bytes tail1) refl refl (omega arith);
        bits = refl;
        some = omega arith;
        last = omega arith;
        space = sp;
        numbers = record {
          points = record { x = λ k h. absurd (omega arith); y = λ k h. absurd (omega arith); next = λ k h. absurd (omega arith); prev = λ k h. absurd (omega arith); rec = λ k h. absurd (omega arith); z = λ k h. absurd (omega arith) };
          records = record { flags = λ k h. absurd (omega arith); owner = λ k h. absurd (omega arith); first = λ k h. absurd (omega arith) };
          segments = λ k h. absurd (omega arith);
          joins = record { one = λ k h. absurd (omega arith); two = λ k h. absurd (omega arith) };
        };
      }

  first_turn : fill_of bytes w ss js ≡ run (length bytes) bytes j₀ w ss js
  unfolding fill_of
  first_turn = rw (ne_eqb (length bytes) 0 (λ e. omega (arith, enough))) (turn bytes fresh w ss js (Settings t.bits) 4 (all_bytes tail1) refl refl (omega arith) (length bytes) (read_settings fresh (all_bytes tail1) t.bits refl f.bits))

  after_points : ReadUpTo t bytes (length bytes) j₀ w ss js (all_bytes tail2) 2 t.points t.points 0 0 0
  after_points = points_read t bytes f t.points (length bytes) j₀ w ss js tail2 (omega arith) (omega (arith, enough)) begun

  abbrev Gone : List ℕ → ℕ → ℕ → ℕ → ℕ → ℕ → ℕ → Type 0
  Gone rest tag n p r s q = ReadUpTo t bytes (length bytes) j₀ w ss js rest tag n p r s q

  after_records : Gone (all_bytes tail2) 2 t.points t.points 0 0 0 → Gone (all_bytes tail3) 3 (t.points + t.records) t.points t.records 0 0
  after_records z =
      compose t bytes (length bytes) j₀ w ss js (all_bytes tail2) (all_bytes tail3) 2 3 t.points t.points 0 0 0 z t.records t.points t.records 0 0
      (settle t bytes z.left z.job z.words z.segments z.joins (all_bytes tail3) 3 t.records z.job.points t.records z.job.segments z.job.joins t.points t.records 0 0 z.points_are refl z.segments_are z.joins_are
      (records_read t bytes f t.records z.left z.job z.words z.segments z.joins tail3 (omega (arith, z.records_are)) (omega (arith, z.spent, enough))
      (subst (λ (i : ℕ). Got t bytes z.job z.words z.segments z.joins (all_bytes (table (record_field t) i t.records ++ tail3)) 3) (sym z.records_are) (raise t bytes z.job z.words z.segments z.joins (all_bytes tail2) 2 3 (omega arith) z.got))))

  after_segments_lem : Gone (all_bytes tail3) 3 (t.points + t.records) t.points t.records 0 0 → Gone (all_bytes tail4) 4 (t.points + t.records + t.segments) t.points t.records t.segments 0
  after_segments_lem z =
      compose t bytes (length bytes) j₀ w ss js (all_bytes tail3) (all_bytes tail4) 3 4 (t.points + t.records) t.points t.records 0 0 z t.segments t.points t.records t.segments 0
      (settle t bytes z.left z.job z.words z.segments z.joins (all_bytes tail4) 4 t.segments z.job.points z.job.records t.segments z.job.joins t.points t.records t.segments 0 z.points_are z.records_are refl z.joins_are
      (segments_read t bytes f t.segments z.left z.job z.words z.segments z.joins tail4 (omega (arith, z.segments_are)) (omega (arith, z.spent, enough))
      (subst (λ (i : ℕ). Got t bytes z.job z.words z.segments z.joins (all_bytes (table (segment_field t) i t.segments ++ tail4)) 4) (sym z.segments_are) (raise t bytes z.job z.words z.segments z.joins (all_bytes tail3) 3 4 (omega arith) z.got))))

  after_joins_lem : Gone (all_bytes tail4) 4 (t.points + t.records + t.segments) t.points t.records t.segments 0 → Gone [] 5 (t.points + t.records + t.segments + t.joins) t.points t.records t.segments t.joins
  after_joins_lem z =
      compose t bytes (length bytes) j₀ w ss js (all_bytes tail4) [] 4 5 (t.points + t.records + t.segments) t.points t.records t.segments 0 z t.joins t.points t.records t.segments t.joins
      (settle t bytes z.left z.job z.words z.segments z.joins [] 5 t.joins z.job.points z.job.records z.job.segments t.joins t.points t.records t.segments t.joins z.points_are z.records_are z.segments_are refl
      (joins_read t bytes f t.joins z.left z.job z.words z.segments z.joins [] (omega (arith, z.joins_are)) (omega (arith, z.spent, enough))
      (subst (λ (l : List Field). Got t bytes z.job z.words z.segments z.joins (all_bytes l) 5) (sym (append-nil (table (join_field t) z.job.joins t.joins)))
      (subst (λ (i : ℕ). Got t bytes z.job z.words z.segments z.joins (all_bytes (table (join_field t) i t.joins)) 5) (sym z.joins_are) (raise t bytes z.job z.words z.segments z.joins (all_bytes tail4) 4 5 (omega arith) z.got)))))

  ended : (j : Job) (v ts ks : List ℕ) → fill_of bytes w ss js ≡ end (Ok j) v ts ks → Got t bytes j v ts ks [] 5 → j.points ≡ t.points → j.records ≡ t.records → j.segments ≡ t.segments → j.joins ≡ t.joins → ReadBack t w ss js
  unfolding read_of
  ended j v ts ks e g pe re se je =
      let ws = write (ct SETTINGS) 0 j.bits ∷ write (ct POINTS) 0 j.points ∷ write (ct RECORDS) 0 j.records ∷ [] in
      let c : view (on_words v ws) ≡ on_store (view v) ws = view_writes v ws g.space.words (omega arith, (omega arith, (omega arith, tt))) in
      record {
        job = j;
        words = counted j v;
        segs = ts;
        jons = ks;
        is = ap with_counts e;
        written = record {
          settings = ap (λ (s : Store). s (ct SETTINGS) 0) c ∙ g.bits;
          points = ap (λ (s : Store). s (ct POINTS) 0) c ∙ pe;
          records = ap (λ (s : Store). s (ct RECORDS) 0) c ∙ re;
          segments = se;
          joins = je;
          numbers = counts_are t (counted j v) ts ks j.points t.points j.records t.records j.segments t.segments j.joins t.joins pe re se je (record {
            points = points_kept t j.points (view v) (view (on_words v ws)) (λ f k. ap (λ (s : Store). s (pt f) k) c) g.numbers.points;
            records = records_kept t j.records (view v) (view (on_words v ws)) (λ f k. ap (λ (s : Store). s (rc f) k) c) g.numbers.records;
            segments = g.numbers.segments;
            joins = g.numbers.joins;
          });
        };
      }

  whole : Gone [] 5 (t.points + t.records + t.segments + t.joins) t.points t.records t.segments t.joins → ReadBack t w ss js
  whole v =
      ended v.job v.words v.segments v.joins
      (first_turn ∙ v.runs ∙ sym (over bytes (run v.left bytes v.job v.words v.segments v.joins) v.job v.words v.segments v.joins v.left (omega (arith, v.spent, enough)) (omega (arith, length-drop v.job.at bytes, ap length v.got.here)) refl))
      v.got v.points_are v.records_are v.segments_are v.joins_are

  pub loaded : ReadBack t w ss js
  loaded = whole (after_joins_lem (after_segments_lem (after_records after_points)))
