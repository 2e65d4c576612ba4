-- What reading leaves of settings and records: row 2 has passed, so they use bits 0 and 1 only; and each record keeps whether the job has a ring for it.
use Prim.Native.Nat.{ℕ, zero, suc, ◌+◌, ◌^◌, ◌≤◌, ◌<◌}
use mathlib.Core.Path.{◌≡◌, refl, ap, sym, subst}
use mathlib.Core.Bool.{Bool, true, false, cond}
use mathlib.Core.List.{List, [], ◌∷◌}
use native.Mathlib.Omega.{arith}
use native.Mathlib.Decide.{ℕ_discrete}
use lib.Dec.{eqb, ltb}
use lib.ListN.{length, drop}
use borrow.Author.Tests.{eq-eqb, ne_eqb, ltb-false}
use Rattle.std.proofs.Common.{Result, Ok, Err}
use Rattle.job.specs.Field.{HEADER, field_in, value_of, size_of, torn_header, strange_tag, torn_value, strange_bits, crowded, tag_of, kind_of, body_of, field_of}
use Rattle.job.specs.Job.{fresh}
use Rattle.job.specs.declared.Job.{Job}
use Rattle.job.specs.declared.refusal.Refusal.TheVariants.{Torn, Strange, Crowded}
use Rattle.job.specs.declared.field.Kind.{Kind}
use Rattle.job.specs.declared.field.Kind.TheVariants as kind
use Rattle.job.specs.declared.field.Field.{Field}
use Rattle.job.specs.declared.field.Field.TheVariants.{Settings, Point, Record, Segment, Join}
use Rattle.job.specs.declared.refusal.Refusal.{Refusal}
use Rattle.job.proofs.Accepted.{read_parts, passed, accepted}
use Rattle.store.specs.Field.{pt, rc, ct, X, Y, NEXT, PREV, REC, Z, FLAGS, FIRST, REASON, SETTINGS, POINTS, RECORDS, BLOCK}
use Rattle.store.specs.Words.{Store, view, write, on_words}
use Rattle.store.specs.Stores.{on_store}
use Rattle.store.specs.Named.{settings_of, records_of}
use Rattle.store.proofs.Storing.{view_writes, length_writes}
use Rattle.reading.specs.Fill.{ReadEnd, end, placed, taken, turn_of, follow, run, fill_of, reason_read, record_read}
use Rattle.reading.specs.Needs.{Room}
use Rattle.reading.proofs.Placing.{has_room}
use Rattle.reading.specs.Read.{counted, with_counts, read_of}
use Rattle.reading.specs.Alike.{Bits, Unringed}

-- a field that was read has no unused bit set
bits_body : (k : Kind) (j : Job) (s : List ℕ) (f : Field) (n : ℕ) → body_of k j s ≡ Ok (f, n) → strange_bits f ≡ false
unfolding body_of
bits_body k j s f n e =
    let g = field_in k (value_of s) in
    let full = cond (crowded k j) (Err Crowded) (Ok (g, HEADER + size_of k)) in
    let a = passed (torn_value k s) Torn (cond (strange_bits g) (Err Strange) full) f n e in
    let b = passed (strange_bits g) Strange full f n a.1 in
    let d = passed (crowded k j) Crowded (Ok (g, HEADER + size_of k)) f n b.1 in
    let i = (read_parts g f (HEADER + size_of k) n d.1).0 in
    subst (λ (x : Field). strange_bits x ≡ false) i b.0

bits_read : (j : Job) (s : List ℕ) (f : Field) (n : ℕ) → field_of j s ≡ Ok (f, n) → strange_bits f ≡ false
unfolding field_of
bits_read j s f n e =
    let a = passed (torn_header s) Torn (cond (strange_tag j.last (tag_of s)) (Err Strange) (body_of (kind_of (tag_of s)) j s)) f n e in
    let b = passed (strange_tag j.last (tag_of s)) Strange (body_of (kind_of (tag_of s)) j s) f n a.1 in
    bits_body (kind_of (tag_of s)) j s f n b.1

-- and a point's z has 32
abbrev Depth : Field → Type 0
Depth (Settings b) = Unit {0}
Depth (Point x y nx pv r z) = z < 2 ^ 32
Depth (Record f o p) = Unit {0}
Depth (Segment p) = Unit {0}
Depth (Join a b) = Unit {0}

depth_read : (j : Job) (s : List ℕ) (f : Field) (n : ℕ) → field_of j s ≡ Ok (f, n) → Depth f
depth_read j s f n e = let a = accepted j s f n e in subst Depth (sym a.is) (go a.kind (value_of s))
  where
    go : (k : Kind) (v : List ℕ) → Depth (field_in k v)
    go kind.Settings v = tt
    go kind.Point v = omega arith
    go kind.Record v = tt
    go kind.Segment v = tt
    go kind.Join v = tt

-- what reading keeps from field to field
record Tame (j : Job) (w : List ℕ) : Type 0 where
  bits : j.bits ≤ 3
  flags : (i : ℕ) → i < j.records → view w (rc FLAGS) i ≤ 3
  reasons : (i : ℕ) → i < j.records → view w (rc REASON) i ≡ reason_read (view w (rc FIRST) i)
  depths : (k : ℕ) → k < j.points → view w (pt Z) k < 2 ^ 32
  long : BLOCK ≤ length w

abbrev TameEnd : ReadEnd → Type 0
TameEnd (end (Ok j) w ss js) = Tame j w
TameEnd (end (Err r) w ss js) = Unit {0}

module _ (j : Job) (w ss js : List ℕ) (t : Tame j w) where
  tame_placed : (f : Field) (n : ℕ) → Room f j → strange_bits f ≡ false → Depth f → TameEnd (placed f n j w ss js)
  tame_placed (Settings b) n l c q = record { bits = ltb-false 3 b c; flags = t.flags; reasons = t.reasons; depths = t.depths; long = t.long }
  tame_placed (Point x y nx pv r z) n l c q =
      let i = j.points in
      let xs = write (pt X) i x ∷ write (pt Y) i y ∷ write (pt NEXT) i nx ∷ write (pt PREV) i pv ∷ write (pt REC) i r ∷ write (pt Z) i z ∷ [] in
      let v : view (on_words w xs) ≡ on_store (view w) xs = view_writes w xs t.long (l, (l, (l, (l, (l, (l, tt)))))) in
      record { bits = t.bits; flags = λ k h. omega (arith, ap (λ (z : Store). z (rc FLAGS) k) v, t.flags k h); reasons = λ k h. subst (λ (z : Store). z (rc REASON) k ≡ reason_read (z (rc FIRST) k)) (sym v) (t.reasons k h); depths = λ k h. subst (λ (u : Store). u (pt Z) k < 2 ^ 32) (sym v) (deep k h (ℕ_discrete k i)); long = omega (arith, t.long, length_writes w xs) }
    where
      deep : (k : ℕ) → k < j.points + 1 → Dec (k ≡ j.points) → cond (eqb k j.points) z (view w (pt Z) k) < 2 ^ 32
      deep k h (yes e) = rw (eq-eqb k j.points e) q
      deep k h (no e) = rw (ne_eqb k j.points e) (t.depths k (omega arith))
  tame_placed (Record b o p) n l c q =
      let i = j.records in
      let xs = record_read i b o p in
      let v : view (on_words w xs) ≡ on_store (view w) xs = view_writes w xs t.long (l, (l, (l, (l, tt)))) in
      record {
        bits = t.bits;
        flags = λ k h. subst (λ (z : Store). z (rc FLAGS) k ≤ 3) (sym v) (one k h (ltb-false 3 b c) (ℕ_discrete k i));
        reasons = λ k h. subst (λ (z : Store). z (rc REASON) k ≡ reason_read (z (rc FIRST) k)) (sym v) (why k h (ℕ_discrete k i));
        depths = λ k h. omega (arith, ap (λ (z : Store). z (pt Z) k) v, t.depths k h);
        long = omega (arith, t.long, length_writes w xs);
      }
    where
      one : (k : ℕ) → k < j.records + 1 → b ≤ 3 → Dec (k ≡ j.records) → cond (eqb k j.records) b (view w (rc FLAGS) k) ≤ 3
      one k h l (yes e) = rw (eq-eqb k j.records e) l
      one k h l (no e) = rw (ne_eqb k j.records e) (t.flags k (omega arith))

      why : (k : ℕ) → k < j.records + 1 → Dec (k ≡ j.records) → cond (eqb k j.records) (reason_read p) (view w (rc REASON) k) ≡ reason_read (cond (eqb k j.records) p (view w (rc FIRST) k))
      why k h (yes e) = rw (eq-eqb k j.records e)
      why k h (no e) = rw (ne_eqb k j.records e) (t.reasons k (omega arith))
  tame_placed (Segment p) n l c q = record { bits = t.bits; flags = t.flags; reasons = t.reasons; depths = t.depths; long = t.long }
  tame_placed (Join a' b') n l c q = record { bits = t.bits; flags = t.flags; reasons = t.reasons; depths = t.depths; long = t.long }

  tame_turn : (bytes : List ℕ) → TameEnd (turn_of bytes j w ss js)
  unfolding turn_of
  tame_turn bytes = go (field_of j (drop j.at bytes)) refl
    where
      go : (r : Result (Field × ℕ) Refusal) → field_of j (drop j.at bytes) ≡ r → TameEnd (taken r j w ss js)
      go (Ok (f, n)) e = tame_placed f n (has_room j (drop j.at bytes) f n (accepted j (drop j.at bytes) f n e)) (bits_read j (drop j.at bytes) f n e) (depth_read j (drop j.at bytes) f n e)
      go (Err x) e = tt

tame_run : (k : ℕ) (bytes : List ℕ) (j : Job) (w ss js : List ℕ) → Tame j w → TameEnd (run k bytes j w ss js)
unfolding run
tame_run zero bytes j w ss js t = tt
tame_run (suc k) bytes j w ss js t = by (ltb j.at (length bytes)) (turn_of bytes j w ss js) (tame_turn j w ss js t bytes) (λ i v ts ks u. tame_run k bytes i v ts ks u)
  where
    on : (T : ReadEnd) → TameEnd T → ((i : Job) (v ts ks : List ℕ) → Tame i v → TameEnd (run k bytes i v ts ks)) → TameEnd (follow (run k bytes) T)
    on (end (Ok i) v ts ks) u r = r i v ts ks u
    on (end (Err x) v ts ks) u r = tt

    by : (b : Bool) (T : ReadEnd) → TameEnd T → ((i : Job) (v ts ks : List ℕ) → Tame i v → TameEnd (run k bytes i v ts ks)) → TameEnd (cond b (follow (run k bytes) T) (end (Ok j) w ss js))
    by true T u r = on T u r
    by false T u r = t

tame_fill : (bytes w ss js : List ℕ) → BLOCK ≤ length w → TameEnd (fill_of bytes w ss js)
unfolding fill_of
tame_fill bytes w ss js l = go (eqb (length bytes) 0)
  where
    go : (b : Bool) → TameEnd (cond b (end (Err Strange) w ss js) (run (suc (length bytes)) bytes fresh w ss js))
    go true = tt
    go false = tame_run (suc (length bytes)) bytes fresh w ss js (record { bits = omega arith; flags = λ i h. absurd (omega arith); reasons = λ i h. absurd (omega arith); depths = λ k h. absurd (omega arith); long = l })

pub fields_of : (bytes w ss js : List ℕ) → BLOCK ≤ length w → (j : Job) (v ts ks : List ℕ) → read_of bytes w ss js ≡ end (Ok j) v ts ks → Bits v × Unringed v
unfolding read_of
fields_of bytes w ss js l j v ts ks e = go (fill_of bytes w ss js) (tame_fill bytes w ss js l) e
  where
    go : (T : ReadEnd) → TameEnd T → with_counts T ≡ end (Ok j) v ts ks → Bits v × Unringed v
    go (end (Ok i) u us ls) t d =
        let b : counted i u ≡ v = cc (d) in
        let xs = write (ct SETTINGS) 0 i.bits ∷ write (ct POINTS) 0 i.points ∷ write (ct RECORDS) 0 i.records ∷ [] in
        let c : view (on_words u xs) ≡ on_store (view u) xs = view_writes u xs t.long (omega arith, (omega arith, (omega arith, tt))) in
        let p : settings_of (counted i u) ≡ i.bits = ap (λ (z : Store). z (ct SETTINGS) 0) c in
        let q : records_of (counted i u) ≡ i.records = ap (λ (z : Store). z (ct RECORDS) 0) c in
        subst (λ (x : List ℕ). Bits x × Unringed x) b (
          record { settings = omega (arith, p, t.bits); flags = λ k h. omega (arith, ap (λ (z : Store). z (rc FLAGS) k) c, t.flags k (omega (arith, q))); depths = λ k h. omega (arith, ap (λ (z : Store). z (pt Z) k) c, t.depths k (omega (arith, ap (λ (z : Store). z (ct POINTS) 0) c))) },
          record { reasons = λ k h. subst (λ (z : Store). z (rc REASON) k ≡ reason_read (z (rc FIRST) k)) (sym c) (t.reasons k (omega (arith, q))) },
        )
    go (end (Err x) u us ls) t d = absurd (let z : ◌≡◌ {A = ℕ} 0 1 = cc in omega arith)
