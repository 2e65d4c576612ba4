-- Fields after fields, as the loops write them.
use Prim.Native.Nat.{ℕ, zero, suc, ◌+◌, ◌-◌, ◌*◌, ◌≤◌, ◌<◌}
use mathlib.Core.Path.{◌≡◌, refl, sym, ap, ◌∙◌, subst}
use mathlib.Core.List.{List, [], ◌∷◌, ◌++◌, map, append-nil, append_assoc}
use native.Mathlib.Numerals.{add-one}
use native.Mathlib.Omega.{arith}
use lib.ListN.{length, get_or}
use borrow.Author.Tests.{eq-eqb, ne_eqb}
use Rattle.rings.specs.Count.{table}
use Rattle.rings.specs.Walk.{run}
use Rattle.job.specs.Limits.{POINTS}
use Rattle.job.specs.declared.field.Field.{Field}
use Rattle.job.specs.declared.field.Field.TheVariants.{Settings, Point, Record, Segment, Join}
use Rattle.store.specs.Field.{pt, X, Y, Z, NONE}
use Rattle.store.specs.Words.{view}
use Rattle.store.specs.Named.{settings_of, records_of, next_of, prev_of, flags_of, owner_of, first_of, ring_of}
use Rattle.store.specs.Sound.{ring_at}
use Rattle.text.specs.Pour.{poured, pour}
use Rattle.text.proofs.Pouring.{pour_none, pour_more, pour_length}
use Rattle.encoding.specs.Sheet.{bytes_of, all_bytes}
use Rattle.rewriting.specs.Fields.{corner_field, corner_fields, start_number, drawn_field, new_number, level_field, pair_field, job_fields}
use Rattle.numbering.proofs.Rounds.{ahead_back, ahead_on, ahead_none}

pub bytes_append : (a b : List Field) → all_bytes (a ++ b) ≡ all_bytes a ++ all_bytes b
bytes_append [] b = refl
bytes_append (f ∷ a) b = ap (λ (l : List ℕ). bytes_of f ++ l) (bytes_append a b) ∙ sym (append_assoc (bytes_of f) (all_bytes a) (all_bytes b))

table_more : {A : Type 0} (g : ℕ → A) (k n : ℕ) → table g k (suc n) ≡ table g k n ++ (g (k + n) ∷ [])
table_more g k zero = ap (λ (i : ℕ). g i ∷ []) (let z : k ≡ k + 0 = omega arith in z)
table_more {A} g k (suc n) =
    ap (λ (l : List A). g k ∷ l) (table_more g (suc k) n ∙ ap (λ (i : ℕ). table g (suc k) n ++ (g i ∷ [])) (let z : suc k + n ≡ k + suc n = omega arith in z))

module _ (a : List Field) (t u v : List ℕ) (at r q : ℕ) (e : poured r u ≡ pour (all_bytes a) at t) where
  pub fields_more : (b : List Field) → poured q v ≡ pour (all_bytes b) r u → poured q v ≡ pour (all_bytes (a ++ b)) at t
  fields_more b f = pour_more (all_bytes a) (all_bytes b) t u v at r q e f ∙ ap (λ (l : List ℕ). pour l at t) (sym (bytes_append a b))

  field_more : (f : Field) → poured q v ≡ pour (bytes_of f) r u → poured q v ≡ pour (all_bytes (a ++ (f ∷ []))) at t
  field_more f h = fields_more (f ∷ []) (h ∙ ap (λ (l : List ℕ). pour l r u) (sym (append-nil (bytes_of f))))

-- ---- field by field

-- the fields below i are written
pub record FieldsLaid (g : ℕ → Field) (at : ℕ) (t₀ : List ℕ) (n k i : ℕ) (t : List ℕ) : Type 0 where
  pub within : i ≤ n
  pub is : poured k t ≡ pour (all_bytes (table g 0 i)) at t₀

pub laid_begun : (g : ℕ → Field) (at : ℕ) (t : List ℕ) (n : ℕ) → FieldsLaid g at t n at 0 t
laid_begun g at t n = record { within = omega arith; is = pour_none t at }

module _ {g : ℕ → Field} {at : ℕ} {t₀ : List ℕ} {n k i : ℕ} {t : List ℕ} (s : FieldsLaid g at t₀ n k i t) where
  pub laid_on : (q : ℕ) (u : List ℕ) → i < n → poured q u ≡ pour (bytes_of (g i)) k t → FieldsLaid g at t₀ n q (i + 1) u
  laid_on q u h e =
      record {
        within = omega arith;
        is = rw add-one (field_more (table g 0 i) t₀ t u at k q s.is (g i) e ∙ ap (λ (l : List Field). pour (all_bytes l) at t₀) (sym (table_more g 0 i ∙ ap (λ (j : ℕ). table g 0 i ++ (g j ∷ [])) (let z : 0 + i ≡ i = omega arith in z))));
      }

  pub laid_over : n ≤ i → poured k t ≡ pour (all_bytes (table g 0 n)) at t₀
  laid_over h = let z : i ≡ n = omega (arith, s.within) in s.is ∙ ap (λ (j : ℕ). pour (all_bytes (table g 0 j)) at t₀) z

  pub laid_length : length t ≡ length t₀
  laid_length = pour_length (all_bytes (table g 0 i)) t₀ t at k s.is

  -- up to a count that was read
  pub laid_all : (m : ℕ) → n ≡ m → n ≤ i → poured k t ≡ pour (all_bytes (table g 0 m)) at t₀
  laid_all m e h = laid_over h ∙ ap (λ (j : ℕ). pour (all_bytes (table g 0 j)) at t₀) e

-- ---- records

pub start_none : (w t : List ℕ) (i a : ℕ) → a ≡ first_of w i → a ≡ NONE → NONE ≡ start_number w t i
unfolding start_number
start_none w t i a e h = rw (eq-eqb (first_of w i) NONE (sym e ∙ h))

pub start_some : (w t : List ℕ) (i a r : ℕ) → a ≡ first_of w i → (a ≡ NONE → ⊥) → r ≡ get_or t a 0 → r ≡ start_number w t i
unfolding start_number
start_some w t i a r e h f = rw (ne_eqb (first_of w i) NONE (λ z. h (e ∙ z)), ← e) f

pub drawn_poured : (w t : List ℕ) (i at flags owner first r : ℕ) (o u : List ℕ) → flags ≡ flags_of w i → owner ≡ owner_of w i → first ≡ start_number w t i → poured r u ≡ pour (bytes_of (Record flags owner first)) at o
    → poured r u ≡ pour (bytes_of (drawn_field w t i)) at o
unfolding drawn_field
drawn_poured w t i at flags owner first r o u e f g h = h ∙ rw (e, f, g)

-- ---- segments and joins

pub level_on : (t l : List ℕ) {at : ℕ} {o₀ : List ℕ} {m k i : ℕ} {o : List ℕ} → FieldsLaid (level_field t l) at o₀ m k i o → (p q : ℕ) (u : List ℕ) → i < m → p ≡ new_number t l i → poured q u ≡ pour (bytes_of (Segment p)) k o
    → FieldsLaid (level_field t l) at o₀ m q (i + 1) u
unfolding level_field
level_on t l {k = k} {o = o} s p q u h e f = laid_on s q u h (f ∙ ap (λ (x : ℕ). pour (bytes_of (Segment x)) k o) e)

pub pair_on : (t l : List ℕ) {at : ℕ} {o₀ : List ℕ} {n k i : ℕ} {o : List ℕ} → FieldsLaid (pair_field t l) at o₀ n k i o → (a b q : ℕ) (u : List ℕ) → i < n → a ≡ new_number t l (2 * i) → b ≡ new_number t l (2 * i + 1)
    → poured q u ≡ pour (bytes_of (Join a b)) k o → FieldsLaid (pair_field t l) at o₀ n q (i + 1) u
unfolding pair_field
pair_on t l s a b q u h e d f = laid_on s q u h (f ∙ rw (e, d))

-- ---- points

pub corner_poured : (w t : List ℕ) (i p at x y next prev z r : ℕ) (o u : List ℕ) → x ≡ view w (pt X) p → y ≡ view w (pt Y) p → next ≡ get_or t (next_of w p) 0 → prev ≡ get_or t (prev_of w p) 0 → z ≡ view w (pt Z) p
    → poured r u ≡ pour (bytes_of (Point x y next prev i z)) at o → poured r u ≡ pour (bytes_of (corner_field w t i p)) at o
unfolding corner_field
corner_poured w t i p at x y next prev z r o u e f g h j k = k ∙ rw (e, f, g, h, j)

-- the points from p on are yet to be written
pub record RingLaid (f : ℕ → Field) (w : List ℕ) (a at : ℕ) (t₀ : List ℕ) (k p left : ℕ) (t : List ℕ) : Type 0 where
  pub done : List Field
  pub is : poured k t ≡ pour (all_bytes done) at t₀
  pub all : done ++ map f (run (next_of w) a left p) ≡ map f (ring_of w a)

pub ring_begun : (f : ℕ → Field) (w : List ℕ) (a at : ℕ) (t : List ℕ) → RingLaid f w a at t at a POINTS t
ring_begun f w a at t = record { done = []; is = pour_none t at; all = refl }

module _ {f : ℕ → Field} {w : List ℕ} {a at : ℕ} {t₀ : List ℕ} {k p left : ℕ} {t : List ℕ} (s : RingLaid f w a at t₀ k p left t) where
  pub ring_length : length t ≡ length t₀
  ring_length = pour_length (all_bytes s.done) t₀ t at k s.is

  pub ring_over : left ≤ 0 → poured k t ≡ pour (all_bytes (map f (ring_of w a))) at t₀
  ring_over z =
      s.is
      ∙ ap (λ (l : List Field). pour (all_bytes l) at t₀)
      (sym (append-nil s.done) ∙ ap (λ (l : List ℕ). s.done ++ map f l) (sym (ahead_none (next_of w) a p left z)) ∙ s.all)

  module _ (z : 0 < left) (x q : ℕ) (u : List ℕ) (e : poured q u ≡ pour (bytes_of (f p)) k t) (d : x ≡ next_of w p) where
    one_more : poured q u ≡ pour (all_bytes (s.done ++ (f p ∷ []))) at t₀
    one_more = field_more s.done t₀ t u at k q s.is (f p) e

    pub ring_back : x ≡ a → poured q u ≡ pour (all_bytes (map f (ring_of w a))) at t₀
    ring_back y =
        one_more
        ∙ ap (λ (l : List Field). pour (all_bytes l) at t₀)
        (ap (λ (l : List ℕ). s.done ++ map f l) (sym (ahead_back (next_of w) a p left z (sym d ∙ y))) ∙ s.all)

    pub ring_on : (x ≡ a → ⊥) → RingLaid f w a at t₀ q x (left - 1) u
    ring_on y =
        record {
          done = s.done ++ (f p ∷ []);
          is = one_more;
          all =
              append_assoc s.done (f p ∷ []) (map f (run (next_of w) a (left - 1) x))
              ∙ ap (λ (j : ℕ). s.done ++ (f p ∷ map f (run (next_of w) a (left - 1) j))) d
              ∙ ap (λ (l : List ℕ). s.done ++ map f l) (sym (ahead_on (next_of w) a p left z (λ v. y (d ∙ v))))
              ∙ s.all;
        }

-- of a walk of POINTS at most, i are done
pub ring_next : {f : ℕ → Field} {w : List ℕ} {a at : ℕ} {t₀ : List ℕ} {k p i : ℕ} {t : List ℕ} → RingLaid f w a at t₀ k p (POINTS - i) t → i < POINTS → (x q : ℕ) (u : List ℕ) → poured q u ≡ pour (bytes_of (f p)) k t → x ≡ next_of w p → (x ≡ a → ⊥)
    → RingLaid f w a at t₀ q x (POINTS - (i + 1)) u
ring_next {f} {w} {a} {at} {t₀} {i = i} s h x q u e d y =
    let z : POINTS - i - 1 ≡ POINTS - (i + 1) = omega arith in
    subst (λ (j : ℕ). RingLaid f w a at t₀ q x j u) z (ring_on s (omega arith) x q u e d y)

-- a record without points, and one with
pub ringless_poured : (f : ℕ → Field) (w : List ℕ) (i a at : ℕ) (o : List ℕ) → a ≡ first_of w i → a ≡ NONE → poured at o ≡ pour (all_bytes (map f (ring_at (view w) i))) at o
ringless_poured f w i a at o e h = rw (eq-eqb (first_of w i) NONE (sym e ∙ h)) (pour_none o at)

pub ring_poured : (f : ℕ → Field) (w : List ℕ) (i a at r : ℕ) (o u : List ℕ) → a ≡ first_of w i → (a ≡ NONE → ⊥) → poured r u ≡ pour (all_bytes (map f (ring_of w a))) at o
    → poured r u ≡ pour (all_bytes (map f (ring_at (view w) i))) at o
ring_poured f w i a at r o u e h g = g ∙ rw (ne_eqb (first_of w i) NONE (λ z. h (e ∙ z)), ← e)

-- the rings of the records below i are written
pub record RingsLaid (w t : List ℕ) (at : ℕ) (o₀ : List ℕ) (k i : ℕ) (o : List ℕ) : Type 0 where
  pub within : i ≤ records_of w
  pub is : poured k o ≡ pour (all_bytes (corner_fields w t i)) at o₀

pub rings_begun : (w t : List ℕ) (at : ℕ) (o : List ℕ) → RingsLaid w t at o at 0 o
unfolding corner_fields
rings_begun w t at o = record { within = omega arith; is = pour_none o at }

module _ {w t : List ℕ} {at : ℕ} {o₀ : List ℕ} {k i : ℕ} {o : List ℕ} (s : RingsLaid w t at o₀ k i o) where
  pub rings_on : (n q : ℕ) (u : List ℕ) → n ≡ records_of w → i < n → poured q u ≡ pour (all_bytes (map (corner_field w t i) (ring_at (view w) i))) k o → RingsLaid w t at o₀ q (i + 1) u
  unfolding corner_fields
  rings_on n q u e h f =
      record {
        within = omega arith;
        is = rw add-one (fields_more (corner_fields w t i) o₀ o u at k q s.is (map (corner_field w t i) (ring_at (view w) i)) f);
      }

  pub rings_length : length o ≡ length o₀
  rings_length = pour_length (all_bytes (corner_fields w t i)) o₀ o at k s.is

  pub rings_over : (n : ℕ) → n ≡ records_of w → n ≤ i → poured k o ≡ pour (all_bytes (corner_fields w t (records_of w))) at o₀
  rings_over n e h = let z : i ≡ records_of w = omega (arith, s.within) in s.is ∙ ap (λ (j : ℕ). pour (all_bytes (corner_fields w t j)) at o₀) z

-- ---- the whole job

pub job_poured : (w t ss : List ℕ) (m : ℕ) (js : List ℕ) (n bits a b c d e : ℕ) (o₀ o₁ o₂ o₃ o₄ o₅ : List ℕ) → bits ≡ settings_of w → poured a o₁ ≡ pour (bytes_of (Settings bits)) 0 o₀
    → poured b o₂ ≡ pour (all_bytes (corner_fields w t (records_of w))) a o₁ → poured c o₃ ≡ pour (all_bytes (table (drawn_field w t) 0 (records_of w))) b o₂
    → poured d o₄ ≡ pour (all_bytes (table (level_field t ss) 0 m)) c o₃ → poured e o₅ ≡ pour (all_bytes (table (pair_field t js) 0 n)) d o₄
    → poured e o₅ ≡ pour (all_bytes (job_fields w t ss m js n)) 0 o₀
unfolding job_fields
job_poured w t ss m js n bits a b c d e o₀ o₁ o₂ o₃ o₄ o₅ h h₁ h₂ h₃ h₄ h₅ =
    let G = table (level_field t ss) 0 m in
    let J = table (pair_field t js) 0 n in
    let R = table (drawn_field w t) 0 (records_of w) in
    let P = corner_fields w t (records_of w) in
    pour_more (bytes_of (Settings (settings_of w))) (all_bytes (P ++ (R ++ (G ++ J)))) o₀ o₁ o₅ 0 a e (h₁ ∙ ap (λ (x : ℕ). pour (bytes_of (Settings x)) 0 o₀) h)
    (fields_more P o₁ o₂ o₅ a b e h₂ (R ++ (G ++ J)) (fields_more R o₂ o₃ o₅ b c e h₃ (G ++ J) (fields_more G o₃ o₄ o₅ c d e h₄ J h₅)))
