-- Two accepted jobs have the same drawing exactly when one is the other with its points renumbered.
use Prim.Native.Nat.{ℕ, zero, suc, ◌+◌, ◌*◌, ◌<◌}
use mathlib.Core.Path.{◌≡◌, refl, ap, ◌∙◌, sym}
use mathlib.Core.List.{List, [], ◌∷◌, map}
use native.Mathlib.Nat.{zero-add}
use native.Mathlib.Omega.{arith}
use lib.IntN.{pos, nat_abs}
use lib.ListN.{length, get_or, length-map}
use Rattle.rings.proofs.Counting.{length_table, at_table}
use Rattle.rings.specs.Count.{table}
use Rattle.exact.proofs.Poly.{solve, var, ◌:+◌, ◌:-◌}
use Rattle.rings.specs.Place.{place, or_zero}
use Rattle.numbers.specs.Raised.{coordinate}
use Rattle.geometry.specs.declared.Point.{Point}
use Rattle.job.specs.Limits as limit
use Rattle.job.specs.declared.Job.{Job}
use Rattle.store.specs.Field.{pt, ct, X, Y, Z, SETTINGS}
use Rattle.store.specs.Words.{Store, view}
use Rattle.store.specs.Named.{points_of, records_of}
use Rattle.store.specs.Sound.{recs, ring_at}
use Rattle.store.specs.Value.{word_of, point_at, ring_points}
use Rattle.joins.specs.Resolve.{home_of}
use Rattle.joins.specs.Resolved.{Ready}
use Rattle.joins.proofs.Finding.{at_home}
use Rattle.joins.proofs.Homes.{on_ring_lem}
use Rattle.converting.specs.Needs.{Converting}
use Rattle.turns.specs.Form.{raised}
use Rattle.drawing.specs.Renumbered.{Renumbered, RenumberedList, RenumberedJob}
use Rattle.drawing.specs.Drawing.{Drawn, Spot, Drawing, drawn_at, spot_of, drawing_of}
use Rattle.drawing.proofs.Likeness.{tells_apart}
use Rattle.drawing.proofs.Rings.{rings_alike, homes_alike}
use Rattle.drawing.proofs.Forests.{table_same, ring_values}
use Rattle.drawing.proofs.Places.{place_at, place_map}
use Rattle.drawing.proofs.Naming.{SameRings, number_in, renumbering, renumbering_in, rings_renumber}

-- ---- a coordinate tells its word

pub word_back : (a : ℕ) → word_of (coordinate limit.COORDINATE a) ≡ a
unfolding word_of
word_back a = ap nat_abs (solve (pos a ∷ pos limit.COORDINATE ∷ []) ((var 0 :- var 1) :+ var 1) (var 0) refl)

x_told : (s s' : Store) (k k' : ℕ) → point_at s' k' ≡ point_at s k → s' (pt X) k' ≡ s (pt X) k
x_told s s' k k' e = sym (word_back (s' (pt X) k')) ∙ ap (λ (p : Point). word_of p.x) e ∙ word_back (s (pt X) k)

y_told : (s s' : Store) (k k' : ℕ) → point_at s' k' ≡ point_at s k → s' (pt Y) k' ≡ s (pt Y) k
y_told s s' k k' e = sym (word_back (s' (pt Y) k')) ∙ ap (λ (p : Point). word_of p.y) e ∙ word_back (s (pt Y) k)

z_told : (s s' : Store) (k k' : ℕ) → point_at s' k' ≡ point_at s k → s' (pt Z) k' ≡ s (pt Z) k
z_told s s' k k' e = ap (λ (p : Point). p.z) e

-- ---- equal lists, element by element

map_length : {A : Type 0} (f g : ℕ → A) (l m : List ℕ) → map g m ≡ map f l → length m ≡ length l
map_length f g l m e = sym (length-map m g) ∙ ap length e ∙ length-map l f

map_at : {A : Type 0} (f g : ℕ → A) (l m : List ℕ) → map g m ≡ map f l → (p : ℕ) → p < length l → g (get_or m p 0) ≡ f (get_or l p 0)
map_at f g [] m e p h = absurd (omega arith)
map_at f g (x ∷ l) [] e p h = absurd (let z : ◌≡◌ {A = ℕ} 0 1 = cc in omega arith)
map_at f g (x ∷ l) (y ∷ m) e zero h = cc
map_at f g (x ∷ l) (y ∷ m) e (suc p) h = let d : map g m ≡ map f l = cc in map_at f g l m d p (omega arith)

pub tables_long : {A : Type 0} (g h : ℕ → A) (m n : ℕ) → table h 0 n ≡ table g 0 m → n ≡ m
tables_long g h m n e = sym (length_table h 0 n) ∙ ap length e ∙ length_table g 0 m

pub tables_at : {A : Type 0} (d : A) (g h : ℕ → A) (m n : ℕ) → table h 0 n ≡ table g 0 m → (i : ℕ) → i < m → h i ≡ g i
tables_at d g h m n e i l =
    ap h (sym (zero-add i)) ∙ sym (at_table h d 0 n i (omega (arith, tables_long g h m n e))) ∙ ap (λ (t : List _). get_or t i d) e ∙ at_table g d 0 m i l ∙ ap g (zero-add i)

-- ---- equal drawings agree ring by ring

drawn_agree : (s s' : Store) → table (drawn_at s') 0 (recs s') ≡ table (drawn_at s) 0 (recs s) → s' (ct SETTINGS) 0 ≡ s (ct SETTINGS) 0 → SameRings s s'
drawn_agree s s' e c =
    record {
      settings = c;
      records = tables_long (drawn_at s) (drawn_at s') (recs s) (recs s') e;
      flags = λ i h. ap (λ (d : Drawn). d.flags) (one i h);
      owners = λ i h. ap (λ (d : Drawn). d.owner) (one i h);
      lengths = λ i h. map_length (point_at s) (point_at s') (ring_at s i) (ring_at s' i) (ring i h);
      xs = λ i p h l. x_told s s' (get_or (ring_at s i) p 0) (get_or (ring_at s' i) p 0) (map_at (point_at s) (point_at s') (ring_at s i) (ring_at s' i) (ring i h) p l);
      ys = λ i p h l. y_told s s' (get_or (ring_at s i) p 0) (get_or (ring_at s' i) p 0) (map_at (point_at s) (point_at s') (ring_at s i) (ring_at s' i) (ring i h) p l);
      zs = λ i p h l. z_told s s' (get_or (ring_at s i) p 0) (get_or (ring_at s' i) p 0) (map_at (point_at s) (point_at s') (ring_at s i) (ring_at s' i) (ring i h) p l);
    }
  where
    one : (i : ℕ) → i < recs s → drawn_at s' i ≡ drawn_at s i
    one i h = tables_at (drawn_at s 0) (drawn_at s) (drawn_at s') (recs s) (recs s') e i h

    ring : (i : ℕ) → i < recs s → ring_points s' i ≡ ring_points s i
    ring i h = ap (λ (d : Drawn). d.ring) (one i h)

-- ---- and name their segments and joins alike

pub spot_point : (w : List ℕ) → Ready w → (k : ℕ) → k < points_of w → get_or (ring_at (view w) (home_of w k)) (or_zero (place k (ring_at (view w) (home_of w k)))) 0 ≡ k
spot_point w o k h = place_at k (ring_at (view w) (home_of w k)) (on_ring_lem (view w) o.resolved (home_of w k) k (at_home w o k (home_of w k) h refl))

spot_named : (w w' : List ℕ) → Ready w' → (k k' : ℕ) → k < points_of w → k' < points_of w' → spot_of w' k' ≡ spot_of w k → k' ≡ renumbering w w' k
unfolding number_in
spot_named w w' o' k k' h h' e =
    sym (spot_point w' o' k' h')
    ∙ ap (λ (z : Spot). get_or (ring_at (view w') z.ring) z.place 0) e
    ∙ sym (renumbering_in w w' k h)

spots_listed : (w w' : List ℕ) → Ready w' → (m m' : ℕ) (l l' : List ℕ) → table (λ i. spot_of w' (get_or l' i 0)) 0 m' ≡ table (λ i. spot_of w (get_or l i 0)) 0 m
    → ((i : ℕ) → i < m → get_or l i 0 < points_of w) → ((i : ℕ) → i < m' → get_or l' i 0 < points_of w') → RenumberedList (renumbering w w') m l l'
spots_listed w w' o' m m' l l' e h h' i b =
    spot_named w w' o' (get_or l i 0) (get_or l' i 0) (h i b) (h' i (omega (arith, tables_long (λ i. spot_of w (get_or l i 0)) (λ i. spot_of w' (get_or l' i 0)) m m' e)))
    (tables_at (spot_of w 0) (λ i. spot_of w (get_or l i 0)) (λ i. spot_of w' (get_or l' i 0)) m m' e i b)

-- equal drawings: the second job is the first with its points renumbered
pub drawing_alike : (j j' : Job) (w w' ss ss' js js' : List ℕ) → Converting w ss j.segments js j.joins → Converting w' ss' j'.segments js' j'.joins
    → drawing_of w' ss' j'.segments js' j'.joins ≡ drawing_of w ss j.segments js j.joins → RenumberedJob (renumbering w w') j j' w w' ss ss' js js'
unfolding drawing_of
drawing_alike j j' w w' ss ss' js js' t t' e =
    let g : SameRings (view w) (view w') = drawn_agree (view w) (view w') (ap (λ (d : Drawing). d.records) e) (ap (λ (d : Drawing). d.settings) e) in
    let a = ap (λ (d : Drawing). d.segments) e in
    let b = ap (λ (d : Drawing). d.joins) e in
    record {
      words = rings_renumber w w' t.listed.ready t'.listed.ready g;
      as_many_segments = tables_long (λ i. spot_of w (get_or ss i 0)) (λ i. spot_of w' (get_or ss' i 0)) j.segments j'.segments a;
      as_many_joins = omega (arith, tables_long (λ i. spot_of w (get_or js i 0)) (λ i. spot_of w' (get_or js' i 0)) (2 * j.joins) (2 * j'.joins) b);
      segments = spots_listed w w' t'.listed.ready j.segments j'.segments ss ss' a t.listed.point t'.listed.point;
      joins = spots_listed w w' t'.listed.ready (2 * j.joins) (2 * j'.joins) js js' b t.named t'.named;
    }

-- ---- back: renumbered points have the same drawing

module _ {ρ : ℕ → ℕ} (w w' : List ℕ) (al : Renumbered ρ (view w) (view w')) (o : Ready w) (o' : Ready w') where
  drawn_same : (i : ℕ) → i < records_of w → drawn_at (view w') i ≡ drawn_at (view w) i
  drawn_same i h = both (al.flags i h) (al.owners i h) (ring_values raised.of al o.resolved o'.resolved i h)
    where
      both : {a b c d : ℕ} {l m : List Point} → a ≡ b → c ≡ d → l ≡ m → ◌≡◌ {A = Drawn} (record { flags = a; owner = c; ring = l }) (record { flags = b; owner = d; ring = m })
      both e f g = cc

  spot_same : (k : ℕ) → k < points_of w → spot_of w' (ρ k) ≡ spot_of w k
  spot_same k h =
      let e = homes_alike w w' al o o' k h in
      let z = at_home w o k (home_of w k) h refl in
      let r = rings_alike al o.resolved o'.resolved (home_of w k) z.res.real in
      both e (ap (λ (i : ℕ). or_zero (place (ρ k) (ring_at (view w') i))) e ∙ ap (λ (c : List ℕ). or_zero (place (ρ k) c)) r ∙ ap or_zero (place_map ρ (tells_apart al) k (ring_at (view w) (home_of w k))))
    where
      both : {a b c d : ℕ} → a ≡ b → c ≡ d → ◌≡◌ {A = Spot} (record { ring = a; place = c }) (record { ring = b; place = d })
      both e f = cc

  spots_same : (m : ℕ) (l l' : List ℕ) → RenumberedList ρ m l l' → ((i : ℕ) → i < m → get_or l i 0 < points_of w) → table (λ i. spot_of w' (get_or l' i 0)) 0 m ≡ table (λ i. spot_of w (get_or l i 0)) 0 m
  spots_same m l l' e h = table_same (λ i. spot_of w (get_or l i 0)) (λ i. spot_of w' (get_or l' i 0)) 0 m (λ i b. ap (spot_of w') (e i (omega arith)) ∙ spot_same (get_or l i 0) (h i (omega arith)))

pub alike_drawing : {ρ : ℕ → ℕ} (j j' : Job) (w w' ss ss' js js' : List ℕ) → Converting w ss j.segments js j.joins → Converting w' ss' j'.segments js' j'.joins
    → RenumberedJob ρ j j' w w' ss ss' js js' → drawing_of w' ss' j'.segments js' j'.joins ≡ drawing_of w ss j.segments js j.joins
unfolding drawing_of
alike_drawing {ρ} j j' w w' ss ss' js js' t t' d =
    rw (d.as_many_segments, d.as_many_joins)
    (all d.words.settings
    (ap (table (drawn_at (view w')) 0) d.words.records ∙ table_same (drawn_at (view w)) (drawn_at (view w')) 0 (records_of w) (λ i h. drawn_same w w' d.words t.listed.ready t'.listed.ready i (omega arith)))
    (spots_same w w' d.words t.listed.ready t'.listed.ready j.segments ss ss' d.segments t.listed.point)
    (spots_same w w' d.words t.listed.ready t'.listed.ready (2 * j.joins) js js' d.joins t.named))
  where
    all : {a a' : ℕ} {b b' : List Drawn} {c c' e e' : List Spot} → a ≡ a' → b ≡ b' → c ≡ c' → e ≡ e'
        → ◌≡◌ {A = Drawing} (record { settings = a; records = b; segments = c; joins = e }) (record { settings = a'; records = b'; segments = c'; joins = e' })
    all p q r s = cc
