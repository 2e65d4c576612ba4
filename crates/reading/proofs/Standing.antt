-- Where the fields of a job that was read stand: tags rise, so the settings come first, then the points one after the other.
use mathlib.Core.Path.{◌≡◌, refl, sym, ap, ◌∙◌, subst}
use mathlib.Core.Logic.{◌≢◌}
use mathlib.Core.Bool.{Bool, true, false, cond, not, ◌&&◌, ◌||◌, true≢false}
use mathlib.Core.List.{List, [], ◌∷◌}
use Prim.Native.Nat.{ℕ, zero, suc, ◌+◌, ◌<◌, ◌≤◌}
use native.Mathlib.Omega.{arith}
use native.Mathlib.Decide.{dec_lt}
use lib.Dec.{eqb, ltb}
use lib.ListN.{length, drop, length-drop}
use borrow.Author.Tests.{ltb-false, eqb-true, eqb-false}
use Rattle.std.proofs.Common.{Result, Ok, Err}
use Rattle.job.specs.Field.{HEADER, Y_AT, NEXT_AT, PREV_AT, RECORD_AT, Z_AT, OWNER_AT, FIRST_AT, tag_of, length_of, value_of, kind_of, size_of, field_in, torn_header, strange_tag, torn_value, strange_bits, crowded, body_of, field_of}
use Rattle.numbers.specs.Bytes.{le}
use Rattle.numbers.specs.Raised.{raised}
use Rattle.numbers.proofs.Widths.{shifted}
use Rattle.job.specs.Limits.{COORDINATE}
use Rattle.job.specs.Coordinate.{word_at, depth_at}
use Rattle.job.specs.Job.{fresh, past}
use Rattle.job.specs.declared.Job.{Job}
use Rattle.job.specs.declared.field.Kind.{Kind}
use Rattle.job.specs.declared.field.Kind.TheVariants as kind
use Rattle.job.specs.declared.field.Field.{Field}
use Rattle.job.specs.declared.refusal.Refusal.{Refusal}
use Rattle.job.specs.declared.refusal.Refusal.TheVariants.{Torn, Strange, Crowded}
use Rattle.job.proofs.Accepted.{read_parts, passed, accepted}
use Rattle.store.specs.Field.{pt, ct, X, Y, NEXT, PREV, REC, Z, SETTINGS, POINTS, RECORDS, BLOCK}
use Rattle.store.specs.Words.{view, write, on_words}
use Rattle.store.specs.Stores.{on_store}
use Rattle.store.proofs.Storing.{view_writes, length_writes}
use Rattle.reading.specs.Fill.{ReadEnd, end, placed, taken, turn_of, follow, run, fill_of, record_read}
use Rattle.reading.specs.Needs.{Room}
use Rattle.reading.specs.Read.{counted, with_counts, read_of}
use Rattle.reading.specs.Standing.{field_at, value_at, AtBytes, Standing}
use Rattle.reading.proofs.Placing.{has_room}

-- ---- tags
abbrev pub tag_is : Kind → ℕ
tag_is kind.Settings = 1
tag_is kind.Point = 2
tag_is kind.Record = 3
tag_is kind.Segment = 4
tag_is kind.Join = 5

none : (a b : Bool) → (a || b) ≡ false → (a ≡ false) × (b ≡ false)
none true b h = absurd (true≢false h)
none false b h = (refl, h)

kind_tag : (tag : ℕ) → (eqb tag 0 || ltb 5 tag) ≡ false → tag ≡ tag_is (kind_of tag)
kind_tag zero h = absurd (true≢false h)
kind_tag (suc zero) h = refl
kind_tag (suc (suc zero)) h = refl
kind_tag (suc (suc (suc zero))) h = refl
kind_tag (suc (suc (suc (suc zero)))) h = refl
kind_tag (suc (suc (suc (suc (suc zero))))) h = refl
kind_tag (suc (suc (suc (suc (suc (suc n)))))) h = absurd (omega (arith, ltb-false 5 (suc (suc (suc (suc (suc (suc n)))))) (none (eqb (suc (suc (suc (suc (suc (suc n)))))) 0) (ltb 5 (suc (suc (suc (suc (suc (suc n))))))) h).1))

-- a tag that may come after the last one
pub record Tagged (last tag : ℕ) : Type 0 where
  pub known : tag ≡ tag_is (kind_of tag)
  pub rises : last ≤ tag
  pub first : last ≡ 0 → tag ≡ 1
  pub once : 0 < last → tag ≢ 1

tagged : (last tag : ℕ) → strange_tag last tag ≡ false → Tagged last tag
tagged last tag h =
    let a = none ((eqb tag 0 || ltb 5 tag) || ltb tag last || (eqb last 0 && not (eqb tag 1))) (ltb 0 last && eqb tag 1) h in
    let b = none ((eqb tag 0 || ltb 5 tag) || ltb tag last) (eqb last 0 && not (eqb tag 1)) a.0 in
    let c = none (eqb tag 0 || ltb 5 tag) (ltb tag last) b.0 in
    record { known = kind_tag tag c.0; rises = ltb-false tag last c.1; first = λ e. start (eqb last 0) (eqb tag 1) b.1 (eqb-false last 0) (eqb-true tag 1) e; once = λ l e. twice (ltb 0 last) (eqb tag 1) a.1 (ltb-false 0 last) (eqb-false tag 1) l e }
  where
    start : (x y : Bool) → (x && not y) ≡ false → (x ≡ false → last ≡ 0 → ⊥) → (y ≡ true → tag ≡ 1) → last ≡ 0 → tag ≡ 1
    start true true g p q e = q refl
    start true false g p q e = absurd (true≢false g)
    start false y g p q e = absurd (p refl e)

    twice : (x y : Bool) → (x && y) ≡ false → (x ≡ false → last ≤ 0) → (y ≡ false → tag ≡ 1 → ⊥) → 0 < last → tag ≡ 1 → ⊥
    twice true true g p q l e = true≢false g
    twice true false g p q l e = q refl e
    twice false y g p q l e = omega (arith, p refl)

-- ---- a field that is read
pub record ReadAs (j : Job) (s : List ℕ) (f : Field) (n : ℕ) (k : Kind) : Type 0 where
  pub kind_is : kind_of (tag_of s) ≡ k
  pub is : f ≡ field_in k (value_of s)
  pub size : n ≡ HEADER + size_of k
  pub header : torn_header s ≡ false
  pub tag : strange_tag j.last (tag_of s) ≡ false
  pub whole : torn_value k s ≡ false
  pub bits : strange_bits (field_in k (value_of s)) ≡ false
  pub room : crowded k j ≡ false

pub read_as : (j : Job) (s : List ℕ) (f : Field) (n : ℕ) → field_of j s ≡ Ok (f, n) → ReadAs j s f n (kind_of (tag_of s))
unfolding field_of body_of
read_as j s f n e =
    let k : Kind = kind_of (tag_of s) in
    let a = passed (torn_header s) Torn _ f n e in
    let b = passed (strange_tag j.last (tag_of s)) Strange _ f n a.1 in
    let c = passed (torn_value k s) Torn _ f n b.1 in
    let d = passed (strange_bits (field_in k (value_of s))) Strange _ f n c.1 in
    let g = passed (crowded k j) Crowded (Ok (field_in k (value_of s), HEADER + size_of k)) f n d.1 in
    let p = read_parts (field_in k (value_of s)) f (HEADER + size_of k) n g.1 in
    record { kind_is = refl; is = sym p.0; size = sym p.1; header = a.0; tag = b.0; whole = c.0; bits = d.0; room = g.0 }

-- ---- the layout
pub record Lay (j : Job) : Type 0 where
  pub fresh : j.last ≡ 0 → (j.at ≡ 0) × (j.points ≡ 0)
  pub early : 0 < j.last → j.last ≤ 2 → j.at ≡ field_at j.points
  pub late : 2 < j.last → field_at j.points ≤ j.at

pub lay_fresh : Lay fresh
lay_fresh = record { fresh = λ h. (refl, refl); early = λ h l. absurd (omega arith); late = λ h. absurd (omega arith) }

pub tag_of_lem : (j : Job) (s : List ℕ) (f : Field) (n : ℕ) (k : Kind) → ReadAs j s f n k → (tag_of s ≡ tag_is k) × Tagged j.last (tag_of s)
tag_of_lem j s f n k r = let t = tagged j.last (tag_of s) r.tag in (t.known ∙ ap tag_is r.kind_is, t)

module _ (j : Job) (s : List ℕ) (l : Lay j) where
  pub after_points : (k : Kind) → 3 ≤ tag_is k → (tag_of s ≡ tag_is k) × Tagged j.last (tag_of s) → field_at j.points ≤ j.at
  after_points k h t = go (dec_lt 2 j.last)
    where
      go : Dec (2 < j.last) → field_at j.points ≤ j.at
      go (yes g) = l.late g
      go (no g) = let nz : j.last ≢ 0 = λ z. omega (arith, h, t.0, t.1.first z) in omega (arith, l.early (omega (arith, nz)) (omega arith))

  pub lay_past : (f : Field) (n : ℕ) (k : Kind) → ReadAs j s f n k → Lay (past f n j)
  lay_past f n k r = subst (λ (g : Field). Lay (past g n j)) (sym r.is) (go k (tag_of_lem j s f n k r) r.size)
    where
      go : (k : Kind) → (tag_of s ≡ tag_is k) × Tagged j.last (tag_of s) → n ≡ HEADER + size_of k → Lay (past (field_in k (value_of s)) n j)
      go kind.Settings t z =
          let o : j.last ≡ 0 = settled (dec_lt 0 j.last) t in
          let g = l.fresh o in
          record { fresh = λ h. absurd (omega arith); early = λ h i. omega (arith, g.0, g.1, z); late = λ h. absurd (omega arith) }
        where
          settled : Dec (0 < j.last) → (tag_of s ≡ 1) × Tagged j.last (tag_of s) → j.last ≡ 0
          settled (yes p) t = absurd (t.1.once p t.0)
          settled (no p) t = omega arith
      go kind.Point t z =
          let nz : j.last ≢ 0 = λ o. omega (arith, t.0, t.1.first o) in
          let e = l.early (omega (arith, nz)) (omega (arith, t.0, t.1.rises)) in
          record { fresh = λ h. absurd (omega arith); early = λ h i. omega (arith, e, z); late = λ h. absurd (omega arith) }
      go kind.Record t z = let p = after_points kind.Record (omega arith) t in record { fresh = λ h. absurd (omega arith); early = λ h i. absurd (omega arith); late = λ h. omega (arith, p) }
      go kind.Segment t z = let p = after_points kind.Segment (omega arith) t in record { fresh = λ h. absurd (omega arith); early = λ h i. absurd (omega arith); late = λ h. omega (arith, p) }
      go kind.Join t z = let p = after_points kind.Join (omega arith) t in record { fresh = λ h. absurd (omega arith); early = λ h i. absurd (omega arith); late = λ h. omega (arith, p) }

-- ---- a run keeps: where it stands, and that the points so far have their numbers
record Stands (bytes : List ℕ) (j : Job) (w : List ℕ) : Type 0 where
  lay : Lay j
  inside : j.at ≤ length bytes
  long : BLOCK ≤ length w
  numbers : AtBytes bytes j.points (view w)

abbrev StandsEnd : List ℕ → ReadEnd → Type 0
StandsEnd bytes (end (Ok j) w ss js) = Stands bytes j w
StandsEnd bytes (end (Err r) w ss js) = Unit {0}

-- a column with one number more
more : (p v : ℕ) (a d : ℕ → ℕ) → ((k : ℕ) → k < p → a k ≡ d k) → v ≡ d p → (k : ℕ) → k < p + 1 → cond (eqb k p) v (a k) ≡ d k
more p v a d h e k l = go (eqb k p) refl
  where
    go : (t : Bool) → eqb k p ≡ t → cond t v (a k) ≡ d k
    go true q = e ∙ ap d (sym (eqb-true k p q))
    go false q = h k (omega (arith, l, eqb-false k p q))

-- a number of a value, in the job
pub from_job : (n at k o : ℕ) (bytes : List ℕ) → at ≡ field_at k → le n o (drop HEADER (drop at bytes)) ≡ le n (value_at k + o) bytes
from_job n at k o bytes e = shifted n HEADER o (drop at bytes) ∙ shifted n at (HEADER + o) bytes ∙ ap (λ (x : ℕ). le n x bytes) (omega (arith, e))

module _ (bytes : List ℕ) (j : Job) (w ss js : List ℕ) (t : Stands bytes j w) where
  reach : (n : ℕ) (k : Kind) (f : Field) → ReadAs j (drop j.at bytes) f n k → j.at + n ≤ length bytes
  reach n k f r =
      let a = none (not (eqb (length_of (drop j.at bytes)) (size_of k))) (ltb (length (drop j.at bytes)) (HEADER + size_of k)) r.whole in
      let b = ltb-false (length (drop j.at bytes)) (HEADER + size_of k) a.1 in
      omega (arith, b, r.size, length-drop j.at bytes, t.inside)

  stands_placed : (f : Field) (n : ℕ) (k : Kind) → ReadAs j (drop j.at bytes) f n k → Room f j → StandsEnd bytes (placed f n j w ss js)
  stands_placed f n k r =
      subst (λ (g : Field). Lay (past g n j) → Room g j → StandsEnd bytes (placed g n j w ss js)) (sym r.is) (go k (tag_of_lem j (drop j.at bytes) f n k r) (reach n k f r))
      (lay_past j (drop j.at bytes) t.lay f n k r)
    where
      v : List ℕ
      v = value_of (drop j.at bytes)

      go : (k : Kind) → (tag_of (drop j.at bytes) ≡ tag_is k) × Tagged j.last (tag_of (drop j.at bytes)) → j.at + n ≤ length bytes → Lay (past (field_in k v) n j) → Room (field_in k v) j → StandsEnd bytes (placed (field_in k v) n j w ss js)
      go kind.Settings g i y l = record { lay = y; inside = i; long = t.long; numbers = t.numbers }
      go kind.Point g i y l =
          let p = j.points in
          let nz : j.last ≢ 0 = λ o. omega (arith, g.0, g.1.first o) in
          let e : j.at ≡ field_at p = t.lay.early (omega (arith, nz)) (omega (arith, g.0, g.1.rises)) in
          let xs = write (pt X) p (word_at 0 v) ∷ write (pt Y) p (word_at Y_AT v) ∷ write (pt NEXT) p (le 2 NEXT_AT v) ∷ write (pt PREV) p (le 2 PREV_AT v) ∷ write (pt REC) p (le 2 RECORD_AT v) ∷ write (pt Z) p (depth_at Z_AT v) ∷ [] in
          let q : view (on_words w xs) ≡ on_store (view w) xs = view_writes w xs t.long (l, (l, (l, (l, (l, (l, tt)))))) in
          record {
            lay = y;
            inside = i;
            long = omega (arith, t.long, length_writes w xs);
            numbers = subst (AtBytes bytes (p + 1)) (sym q) (record {
              x = more p (word_at 0 v) (view w (pt X)) (λ k. word_at (value_at k) bytes) t.numbers.x (ap (raised COORDINATE) (from_job 4 j.at p 0 bytes e ∙ ap (λ (z : ℕ). le 4 z bytes) (omega arith)));
              y = more p (word_at Y_AT v) (view w (pt Y)) (λ k. word_at (value_at k + Y_AT) bytes) t.numbers.y (ap (raised COORDINATE) (from_job 4 j.at p Y_AT bytes e));
              next = more p (le 2 NEXT_AT v) (view w (pt NEXT)) (λ k. le 2 (value_at k + NEXT_AT) bytes) t.numbers.next (from_job 2 j.at p NEXT_AT bytes e);
              prev = more p (le 2 PREV_AT v) (view w (pt PREV)) (λ k. le 2 (value_at k + PREV_AT) bytes) t.numbers.prev (from_job 2 j.at p PREV_AT bytes e);
              rec = more p (le 2 RECORD_AT v) (view w (pt REC)) (λ k. le 2 (value_at k + RECORD_AT) bytes) t.numbers.rec (from_job 2 j.at p RECORD_AT bytes e);
              z = more p (depth_at Z_AT v) (view w (pt Z)) (λ k. depth_at (value_at k + Z_AT) bytes) t.numbers.z (ap (raised 0) (from_job 4 j.at p Z_AT bytes e));
            });
          }
      go kind.Record g i y l =
          let p = j.records in
          let xs = record_read p (le 1 0 v) (le 2 OWNER_AT v) (le 2 FIRST_AT v) in
          let q : view (on_words w xs) ≡ on_store (view w) xs = view_writes w xs t.long (l, (l, (l, (l, tt)))) in
          let b = t.numbers in
          record { lay = y; inside = i; long = omega (arith, t.long, length_writes w xs); numbers = subst (AtBytes bytes j.points) (sym q) (record { x = b.x; y = b.y; next = b.next; prev = b.prev; rec = b.rec; z = b.z }) }
      go kind.Segment g i y l = record { lay = y; inside = i; long = t.long; numbers = t.numbers }
      go kind.Join g i y l = record { lay = y; inside = i; long = t.long; numbers = t.numbers }

  stands_turn : StandsEnd bytes (turn_of bytes j w ss js)
  unfolding turn_of
  stands_turn = go (field_of j (drop j.at bytes)) refl
    where
      go : (r : Result (Field × ℕ) Refusal) → field_of j (drop j.at bytes) ≡ r → StandsEnd bytes (taken r j w ss js)
      go (Ok (f, n)) e =
          stands_placed f n (kind_of (tag_of (drop j.at bytes))) (read_as j (drop j.at bytes) f n e)
          (has_room j (drop j.at bytes) f n (accepted j (drop j.at bytes) f n e))
      go (Err x) e = tt

stands_run : (k : ℕ) (bytes : List ℕ) (j : Job) (w ss js : List ℕ) → Stands bytes j w → StandsEnd bytes (run k bytes j w ss js)
unfolding run
stands_run zero bytes j w ss js t = tt
stands_run (suc k) bytes j w ss js t = by (ltb j.at (length bytes)) (turn_of bytes j w ss js) (stands_turn bytes j w ss js t) (λ i v ts ks u. stands_run k bytes i v ts ks u)
  where
    on : (T : ReadEnd) → StandsEnd bytes T → ((i : Job) (v ts ks : List ℕ) → Stands bytes i v → StandsEnd bytes (run k bytes i v ts ks)) → StandsEnd bytes (follow (run k bytes) T)
    on (end (Ok i) v ts ks) u r = r i v ts ks u
    on (end (Err x) v ts ks) u r = tt

    by : (b : Bool) (T : ReadEnd) → StandsEnd bytes T → ((i : Job) (v ts ks : List ℕ) → Stands bytes i v → StandsEnd bytes (run k bytes i v ts ks)) → StandsEnd bytes (cond b (follow (run k bytes) T) (end (Ok j) w ss js))
    by true T u r = on T u r
    by false T u r = t

stands_fill : (bytes w ss js : List ℕ) → BLOCK ≤ length w → StandsEnd bytes (fill_of bytes w ss js)
unfolding fill_of
stands_fill bytes w ss js l = go (eqb (length bytes) 0)
  where
    go : (b : Bool) → StandsEnd bytes (cond b (end (Err Strange) w ss js) (run (suc (length bytes)) bytes fresh w ss js))
    go true = tt
    go false =
        stands_run (suc (length bytes)) bytes fresh w ss js
        (record {
          lay = lay_fresh;
          inside = omega arith;
          long = l;
          numbers = record { x = λ k h. absurd (omega arith); y = λ k h. absurd (omega arith); next = λ k h. absurd (omega arith); prev = λ k h. absurd (omega arith); rec = λ k h. absurd (omega arith); z = λ k h. absurd (omega arith) };
        })

-- the numbers of a job that was read stand where they were read
pub standing : (bytes w ss js : List ℕ) → BLOCK ≤ length w → (j : Job) (v ts ks : List ℕ) → read_of bytes w ss js ≡ end (Ok j) v ts ks → Standing bytes j v
unfolding read_of
standing bytes w ss js l j v ts ks e = go (fill_of bytes w ss js) (stands_fill bytes w ss js l) e
  where
    room : (i : Job) → Lay i → i.at ≤ length bytes → (k : ℕ) → k < i.points → field_at (k + 1) ≤ length bytes
    room i y h k p = by (dec_lt 0 i.last) (dec_lt 2 i.last)
      where
        by : Dec (0 < i.last) → Dec (2 < i.last) → field_at (k + 1) ≤ length bytes
        by (yes a) (yes b) = omega (arith, y.late b, h)
        by (yes a) (no b) = omega (arith, y.early a (omega arith), h)
        by (no a) b = absurd (omega (arith, (y.fresh (omega arith)).1))

    go : (T : ReadEnd) → StandsEnd bytes T → with_counts T ≡ end (Ok j) v ts ks → Standing bytes j v
    go (end (Ok i) u us ls) t d =
        let a : i ≡ j = cc (d) in
        let b : counted i u ≡ v = cc (d) in
        let xs = write (ct SETTINGS) 0 i.bits ∷ write (ct POINTS) 0 i.points ∷ write (ct RECORDS) 0 i.records ∷ [] in
        let c : view (on_words u xs) ≡ on_store (view u) xs = view_writes u xs t.long (omega arith, (omega arith, (omega arith, tt))) in
        let n = t.numbers in
        rw (← a, ← b)
        (record {
          inside = room i t.lay t.inside;
          numbers = subst (AtBytes bytes i.points) (sym c) (record { x = n.x; y = n.y; next = n.next; prev = n.prev; rec = n.rec; z = n.z });
        })
    go (end (Err x) u us ls) t d = absurd (let z : ◌≡◌ {A = ℕ} 0 1 = cc in omega arith)
