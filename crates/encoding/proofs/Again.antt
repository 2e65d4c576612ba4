-- A drawing that is written is accepted, and draws the same.
use Prim.Native.Nat.{ℕ, zero, suc, ◌+◌, ◌*◌, ◌/◌, ◌%◌, ◌≤◌, ◌<◌}
use mathlib.Core.Path.{◌≡◌, refl, ap, ◌∙◌, sym, subst}
use mathlib.Core.List.{List, [], ◌∷◌, map}
use mathlib.Core.Option.{some}
use native.Mathlib.Omega.{arith}
use native.Mathlib.Decide.{ℕ_discrete}
use lib.IntN.{ℤ}
use lib.ListN.{length, get_or, replicate, length-replicate}
use Rattle.std.specs.Prelude.{Result}
use Rattle.std.proofs.Common.{Ok}
use Rattle.numbers.specs.Raised.{coordinate}
use Rattle.job.specs.declared.refusal.Refusal.{Refusal}
use Rattle.rings.specs.Count.{occ, table}
use Rattle.rings.specs.Place.{place, or_zero}
use Rattle.geometry.specs.declared.Point.{Point}
use Rattle.job.specs.Limits as limit
use Rattle.store.specs.Field.{BLOCK}
use Rattle.store.specs.Words.{view}
use Rattle.store.specs.Sound.{ring_at}
use Rattle.store.specs.Value.{point_at}
use Rattle.joins.specs.Resolved.{Ready}
use Rattle.joins.proofs.Homes.{lives_on}
use Rattle.reading.specs.Fill.{end}
use Rattle.reading.specs.Needs.{Space}
use Rattle.reading.specs.Read.{read_of}
use Rattle.rows.specs.Rows.{rows_of}
use Rattle.accepting.specs.Accept.{answer, judged, accept_of}
use Rattle.accepting.proofs.Accepting.{accepted}
use Rattle.opening.specs.Open.{JOIN_POINTS}
use Rattle.order.specs.Demand3.{numbers}
use Rattle.drawing.specs.Drawing.{Drawn, Spot, Drawing, drawn_at, spot_of, drawing_of, drawn_from, drawing_in}
use Rattle.drawing.proofs.Forests.{table_same}
use Rattle.drawing.proofs.Places.{at_place}
use Rattle.drawing.proofs.Naming.{home_is}
use Rattle.drawing.proofs.Spaces.{any_space}
use Rattle.encoding.specs.Sheet.{sheet_bytes}
use Rattle.encoding.specs.Encode.{no_record, no_spot, origin, record_at, length_at, first_number, corner_at, spot_number, sheet_of, encode}
use Rattle.encoding.proofs.Sheets.{ReadBack, loaded}
use Rattle.encoding.proofs.Numbering.{length_numbers, at_numbers, numbers_in, numbers_once}
use Rattle.encoding.proofs.Encodable.{SpotValid, Encodable, fits}
use Rattle.encoding.proofs.Passing.{HoldsDrawing, holds_drawing, ring_walked, Spots, rows_pass}

-- ---- lists by their elements

table_shift : {A : Type 0} (g : ℕ → A) (k n : ℕ) → table g (suc k) n ≡ table (λ i. g (suc i)) k n
table_shift g k zero = refl
table_shift g k (suc n) = ap (λ (l : List _). g (suc k) ∷ l) (table_shift g (suc k) n)

table_list : {A : Type 0} (l : List A) (e : A) → table (λ i. get_or l i e) 0 (length l) ≡ l
table_list [] e = refl
table_list (x ∷ l) e = ap (λ (m : List _). x ∷ m) (table_shift (λ i. get_or (x ∷ l) i e) 0 (length l) ∙ table_list l e)

map_numbers : {A : Type 0} (f : ℕ → A) (b : ℕ) (l : List A) (e : A) → ((p : ℕ) → p < length l → f (b + p) ≡ get_or l p e) → map f (numbers b (length l)) ≡ l
map_numbers f b [] e h = refl
map_numbers {A} f b (x ∷ l) e h =
    two (ap f (let z : b ≡ b + 0 = omega arith in z) ∙ h 0 (omega arith)) (map_numbers f (suc b) l e (λ p k. ap f (let z : suc b + p ≡ b + suc p = omega arith in z) ∙ h (suc p) (omega arith)))
  where
    two : {a c : A} {m n : List A} → a ≡ c → m ≡ n → a ∷ m ≡ c ∷ n
    two p q = cc

-- even numbers and odd ones
evens : (Q : ℕ → Type 0) (n : ℕ) → ((i : ℕ) → i < n → Q (2 * i)) → ((i : ℕ) → i < n → Q (2 * i + 1)) → (k : ℕ) → k < 2 * n → Q k
evens Q n a b k h = go (ℕ_discrete (k % 2) 0)
  where
    go : Dec (k % 2 ≡ 0) → Q k
    go (yes e) = subst Q (let z : 2 * (k / 2) ≡ k = omega arith in z) (a (k / 2) (omega arith))
    go (no e) = subst Q (let z : 2 * (k / 2) + 1 ≡ k = omega arith in z) (b (k / 2) (omega arith))

-- ---- what is drawn

module _ (d : Drawing) (f : Encodable d) (w : List ℕ) (t : HoldsDrawing d w) (o : Ready w) where
  corner_again : (i p : ℕ) → i < length d.records → p < length_at d i → point_at (view w) (first_number d i + p) ≡ corner_at d i p
  corner_again i p h l = all_three (ap (coordinate limit.COORDINATE) (t.x i p h l) ∙ f.x_back i p h l) (ap (coordinate limit.COORDINATE) (t.y i p h l) ∙ f.y_back i p h l) (t.z i p h l)
    where
      all_three : {a b : Point} → a.x ≡ b.x → a.y ≡ b.y → a.z ≡ b.z → a ≡ b
      all_three {a} {b} p q r = make p q r
        where
          make : {x y x' y' : ℤ} {z z' : ℕ} → x ≡ x' → y ≡ y' → z ≡ z' → ◌≡◌ {A = Point} (record { x = x; y = y; z = z }) (record { x = x'; y = y'; z = z' })
          make p q r = cc

  drawn_again : (i : ℕ) → i < length d.records → drawn_at (view w) i ≡ record_at d i
  drawn_again i h = all (t.flags i h) (t.owner i h) (ap (map (point_at (view w))) (ring_walked d f w t i h) ∙ map_numbers (point_at (view w)) (first_number d i) (record_at d i).ring origin (λ p l. corner_again i p h l))
    where
      all : {a b c e : ℕ} {l m : List Point} → a ≡ b → c ≡ e → l ≡ m → ◌≡◌ {A = Drawn} (record { flags = a; owner = c; ring = l }) (record { flags = b; owner = e; ring = m })
      all p q r = cc

  spot_again : (s : Spot) → SpotValid d s → spot_of w (spot_number d s) ≡ s
  unfolding spot_number
  spot_again s v =
      let i = s.ring in
      let p = s.place in
      let r = ring_walked d f w t i v.known in
      let c : 0 < occ (first_number d i + p) (ring_at (view w) i) = rw r (omega (arith, numbers_in (first_number d i + p) (first_number d i) (length_at d i) (omega arith) (omega (arith, v.low)))) in
      let h = home_is w o i (first_number d i + p) (lives_on (view w) o.resolved i (first_number d i + p) (omega (arith, v.known, t.records)) c) in
      let q : get_or (numbers (first_number d i) (length_at d i)) p 0 ≡ first_number d i + p = at_numbers (first_number d i) (length_at d i) p v.low in
      both h
      (ap (λ (x : ℕ). or_zero (place (first_number d i + p) (ring_at (view w) x))) h ∙ ap (λ (c : List ℕ). or_zero (place (first_number d i + p) c)) r
      ∙ ap (λ (x : ℕ). or_zero (place x (numbers (first_number d i) (length_at d i)))) (sym q)
      ∙ ap or_zero (at_place p (numbers (first_number d i) (length_at d i)) (λ k. numbers_once k (first_number d i) (length_at d i)) (rw (length_numbers (first_number d i) (length_at d i)) v.low)))
    where
      both : {a b c e : ℕ} → a ≡ b → c ≡ e → ◌≡◌ {A = Spot} (record { ring = a; place = c }) (record { ring = b; place = e })
      both p q = cc

  spots_again : (l : List ℕ) (n : ℕ) (qs : List Spot) → n ≡ length qs → Spots d f w t l n qs → table (λ i. spot_of w (get_or l i 0)) 0 n ≡ qs
  spots_again l n qs e h =
      table_same (λ i. get_or qs i no_spot) (λ i. spot_of w (get_or l i 0)) 0 n (λ i b. let z = h i (omega arith) in ap (spot_of w) z.0 ∙ spot_again (get_or qs i no_spot) z.1)
      ∙ ap (table (λ i. get_or qs i no_spot) 0) e ∙ table_list qs no_spot

  pub drawing_again : (ss : List ℕ) (m : ℕ) (js : List ℕ) (n : ℕ) → m ≡ length d.segments → 2 * n ≡ length d.joins → Spots d f w t ss m d.segments → Spots d f w t js (2 * n) d.joins → drawing_of w ss m js n ≡ d
  unfolding drawing_of
  drawing_again ss m js n e g a b =
      all t.settings
      (ap (table (drawn_at (view w)) 0) t.records ∙ table_same (λ i. get_or d.records i no_record) (drawn_at (view w)) 0 (length d.records) (λ i h. drawn_again i (omega arith)) ∙ table_list d.records no_record)
      (spots_again ss m d.segments e a) (spots_again js (2 * n) d.joins g b)
    where
      all : {a a' : ℕ} {b b' : List Drawn} {c c' e e' : List Spot} → a ≡ a' → b ≡ b' → c ≡ c' → e ≡ e'
          → ◌≡◌ {A = Drawing} (record { settings = a; records = b; segments = c; joins = e }) (record { settings = a'; records = b'; segments = c'; joins = e' })
      all p q r s = cc

-- ---- the whole

module _ (d : Drawing) (f : Encodable d) (n : ℕ) (long : BLOCK ≤ n) where
  space : Space (replicate n 0) (replicate limit.SEGMENTS 0) (replicate JOIN_POINTS 0)
  space = record { words = omega (arith, length-replicate {A = ℕ} n 0, long); segments = omega (arith, length-replicate {A = ℕ} limit.SEGMENTS 0); joins = omega (arith, length-replicate {A = ℕ} JOIN_POINTS 0) }

  finish : (z : ReadBack (sheet_of d) (replicate n 0) (replicate limit.SEGMENTS 0) (replicate JOIN_POINTS 0)) → drawn_from (accept_of (encode d) (replicate n 0) (replicate limit.SEGMENTS 0) (replicate JOIN_POINTS 0)) ≡ some d
  unfolding encode accept_of sheet_of
  finish z =
      let j = z.job in
      let w = z.words in
      let t = holds_drawing d j w z.segs z.jons z.written in
      let a : Spots d f w t z.segs j.segments d.segments = λ i h. let b : i < length d.segments = omega (arith, z.written.segments) in (z.written.numbers.segments i b, f.segments i b) in
      let b : Spots d f w t z.jons (2 * j.joins) d.joins =
      evens (λ k. (get_or z.jons k 0 ≡ spot_number d (get_or d.joins k no_spot)) × SpotValid d (get_or d.joins k no_spot)) j.joins
      (λ i h. (z.written.numbers.joins.one i (omega (arith, z.written.joins)), f.joins (2 * i) (omega (arith, z.written.joins, f.pairs))))
      (λ i h. (z.written.numbers.joins.two i (omega (arith, z.written.joins)), f.joins (2 * i + 1) (omega (arith, z.written.joins, f.pairs)))) in
      let p : rows_of w z.segs j.segments z.jons j.joins ≡ Ok tt = rows_pass d f w t z.segs j.segments z.jons j.joins a b in
      let e : judged (read_of (sheet_bytes (sheet_of d)) (replicate n 0) (replicate limit.SEGMENTS 0) (replicate JOIN_POINTS 0)) ≡ end (Ok j) w z.segs z.jons =
      ap judged z.is ∙ ap (λ (v : Result (Unit {0}) Refusal). end (answer v j) w z.segs z.jons) p in
      let o : Ready w = (accepted (sheet_bytes (sheet_of d)) (replicate n 0) (replicate limit.SEGMENTS 0) (replicate JOIN_POINTS 0) space j w z.segs z.jons e).ready in
      ap drawn_from e ∙ ap some (drawing_again d f w t o z.segs j.segments z.jons j.joins z.written.segments (omega (arith, z.written.joins, f.pairs)) a b)

-- a drawing that can be encoded is read back
pub reads_back : (d : Drawing) → Encodable d → drawing_in (encode d) ≡ some d
reads_back d f =
    sym (any_space (encode d) BLOCK (omega arith))
    ∙ finish d f BLOCK (omega arith) (loaded (sheet_of d) (fits d f) (replicate BLOCK 0) (replicate limit.SEGMENTS 0) (replicate JOIN_POINTS 0) (space d f BLOCK (omega arith)))
