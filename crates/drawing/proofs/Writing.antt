-- One law for every write: where two stores hold a word alike, or both write it alike, they hold it alike afterwards.
use Prim.Native.Nat.{ℕ, zero, suc, ◌<◌}
use mathlib.Core.Path.{◌≡◌, refl, ap, ◌∙◌, sym, subst}
use mathlib.Core.Logic.{◌⊎◌, inl, inr}
use mathlib.Core.Bool.{Bool, true, false, cond}
use mathlib.Core.List.{List, [], ◌∷◌}
use native.Mathlib.Omega.{arith}
use native.Mathlib.Decide.{ℕ_discrete, dec_lt}
use lib.Dec.{eqb}
use borrow.Author.Tests.{eq-eqb, ne_eqb, eqb-true, eqb-false}
use Rattle.store.specs.Field.{Field, PointCol, RecordCol, Count, pt, rc, ct, X, Y, Z, NEXT, PREV, REC, FLAGS, OWNER, FIRST, MARK, PRESENT, START, CUT, REASON, TAKER, SETTINGS, POINTS, RECORDS, same, point_rank, record_rank, count_rank}
use Rattle.store.specs.Words.{Store, Write, write}
use Rattle.store.specs.Stores.{upd, on_store}
use Rattle.drawing.specs.Renumbered.{Renumbers}

-- ---- a renumbering

module _ {ρ : ℕ → ℕ} {c : ℕ} (r : Renumbers ρ c) where
  pub inj : (a b : ℕ) → ρ a ≡ ρ b → a ≡ b
  inj a b e = sym (r.back_of a) ∙ ap r.back e ∙ r.back_of b

  pub eqb_same : (a b : ℕ) → eqb (ρ a) (ρ b) ≡ eqb a b
  eqb_same a b = go (ℕ_discrete a b)
    where
      go : Dec (a ≡ b) → eqb (ρ a) (ρ b) ≡ eqb a b
      go (yes e) = eq-eqb (ρ a) (ρ b) (ap ρ e) ∙ sym (eq-eqb a b e)
      go (no d) = ne_eqb (ρ a) (ρ b) (λ e. d (inj a b e)) ∙ sym (ne_eqb a b d)

  pub lower : (k : ℕ) → k < c → ρ k < c
  lower k h = go (dec_lt (ρ k) c)
    where
      go : Dec (ρ k < c) → ρ k < c
      go (yes l) = l
      go (no l) = absurd (l (rw (inj (ρ k) k (r.stays (ρ k) (omega arith))) h))

-- ---- where a word stands in the other store, and what it holds

abbrev pub there_in : (ℕ → ℕ) → Field → ℕ → ℕ
there_in ρ (pt f) k = ρ k
there_in ρ (rc f) k = k
there_in ρ (ct f) k = k

abbrev pub image : (ℕ → ℕ) → Field → ℕ → ℕ
image ρ (pt X) v = v
image ρ (pt Y) v = v
image ρ (pt NEXT) v = ρ v
image ρ (pt PREV) v = ρ v
image ρ (pt REC) v = v
image ρ (pt Z) v = v
image ρ (rc FLAGS) v = v
image ρ (rc OWNER) v = v
image ρ (rc FIRST) v = ρ v
image ρ (rc MARK) v = v
image ρ (rc PRESENT) v = v
image ρ (rc START) v = v
image ρ (rc CUT) v = v
image ρ (rc REASON) v = v
image ρ (rc TAKER) v = v
image ρ (ct f) v = v

-- the columns that are compared
abbrev pub compared : Field → Bool
compared (pt X) = true
compared (pt Y) = true
compared (pt NEXT) = true
compared (pt PREV) = true
compared (pt REC) = false
compared (pt Z) = true
compared (rc FLAGS) = true
compared (rc OWNER) = true
compared (rc FIRST) = true
compared (rc MARK) = false
compared (rc PRESENT) = false
compared (rc START) = false
compared (rc CUT) = false
compared (rc REASON) = false
compared (rc TAKER) = false
compared (ct f) = true

abbrev pub AgreeAt : (ℕ → ℕ) → Store → Store → Field → ℕ → Type 0
AgreeAt ρ s s' g k = s' g (there_in ρ g k) ≡ image ρ g (s g k)

abbrev pub HeldIf : Bool → ℕ → ℕ → Type 0
HeldIf true v v' = v' ≡ v
HeldIf false v v' = Unit {0}

-- one write and the renumbered one
abbrev pub OneWrite : (ℕ → ℕ) → Write → Write → Type 0
OneWrite ρ x y = (y.to ≡ x.to) × (y.at ≡ there_in ρ x.to x.at) × HeldIf (compared x.to) (image ρ x.to x.is) y.is

abbrev pub RenumberedWrites : (ℕ → ℕ) → List Write → List Write → Type 0
RenumberedWrites ρ [] [] = Unit {0}
RenumberedWrites ρ [] (y ∷ ys) = ⊥
RenumberedWrites ρ (x ∷ xs) [] = ⊥
RenumberedWrites ρ (x ∷ xs) (y ∷ ys) = OneWrite ρ x y × RenumberedWrites ρ xs ys

-- the write is to word k of column g
abbrev pub Hits : Write → Field → ℕ → Type 0
Hits x g k = (same x.to g ≡ true) × (k ≡ x.at)

abbrev pub AmongWrites : List Write → Field → ℕ → Type 0
AmongWrites [] g k = ⊥
AmongWrites (x ∷ xs) g k = Hits x g k ⊎ AmongWrites xs g k

-- ---- columns that are the same

point_of : ℕ → PointCol
point_of zero = X
point_of (suc zero) = Y
point_of (suc (suc zero)) = NEXT
point_of (suc (suc (suc zero))) = PREV
point_of (suc (suc (suc (suc zero)))) = REC
point_of (suc (suc (suc (suc (suc n))))) = Z

record_of : ℕ → RecordCol
record_of zero = FLAGS
record_of (suc zero) = OWNER
record_of (suc (suc zero)) = FIRST
record_of (suc (suc (suc zero))) = MARK
record_of (suc (suc (suc (suc zero)))) = PRESENT
record_of (suc (suc (suc (suc (suc zero))))) = START
record_of (suc (suc (suc (suc (suc (suc zero)))))) = CUT
record_of (suc (suc (suc (suc (suc (suc (suc zero))))))) = REASON
record_of (suc (suc (suc (suc (suc (suc (suc (suc n)))))))) = TAKER

count_of : ℕ → Count
count_of zero = SETTINGS
count_of (suc zero) = POINTS
count_of (suc (suc n)) = RECORDS

point_is : (f : PointCol) → point_of (point_rank f) ≡ f
unfolding point_of
point_is X = refl
point_is Y = refl
point_is NEXT = refl
point_is PREV = refl
point_is REC = refl
point_is Z = refl

record_is : (f : RecordCol) → record_of (record_rank f) ≡ f
unfolding record_of
record_is FLAGS = refl
record_is OWNER = refl
record_is FIRST = refl
record_is MARK = refl
record_is PRESENT = refl
record_is START = refl
record_is CUT = refl
record_is REASON = refl
record_is TAKER = refl

count_is : (f : Count) → count_of (count_rank f) ≡ f
unfolding count_of
count_is SETTINGS = refl
count_is POINTS = refl
count_is RECORDS = refl

pub never : {A : Type 0} → ◌≡◌ {A = Bool} false true → A
never e = let z : ◌≡◌ {A = ℕ} 0 1 = cc in absurd (omega arith)

pub same_is : (f g : Field) → same f g ≡ true → f ≡ g
same_is (pt f) (pt g) e = ap pt (sym (point_is f) ∙ ap point_of (eqb-true _ _ e) ∙ point_is g)
same_is (pt f) (rc g) e = never e
same_is (pt f) (ct g) e = never e
same_is (rc f) (pt g) e = never e
same_is (rc f) (rc g) e = ap rc (sym (record_is f) ∙ ap record_of (eqb-true _ _ e) ∙ record_is g)
same_is (rc f) (ct g) e = never e
same_is (ct f) (pt g) e = never e
same_is (ct f) (rc g) e = never e
same_is (ct f) (ct g) e = ap ct (sym (count_is f) ∙ ap count_of (eqb-true _ _ e) ∙ count_is g)

-- ---- the law

module _ (ρ : ℕ → ℕ) (tells_apart : (a b : ℕ) → eqb (ρ a) (ρ b) ≡ eqb a b) where
  eqb_there : (f : Field) (a b : ℕ) → eqb (there_in ρ f a) (there_in ρ f b) ≡ eqb a b
  eqb_there (pt f) a b = tells_apart a b
  eqb_there (rc f) a b = refl
  eqb_there (ct f) a b = refl

  -- one write
  step : (M : Type 0) (s s' : Store) (f : Field) (i v v' : ℕ) (g : Field) (k : ℕ) → compared g ≡ true → HeldIf (compared f) (image ρ f v) v'
      → AgreeAt ρ s s' g k ⊎ (Hits (write f i v) g k ⊎ M) → AgreeAt ρ (upd s f i v) (upd s' f (there_in ρ f i) v') g k ⊎ M
  step M s s' f i v v' g k t h a = go (same f g) refl
    where
      out : AgreeAt ρ s s' g k ⊎ (Hits (write f i v) g k ⊎ M) → (Hits (write f i v) g k → ⊥) → AgreeAt ρ s s' g k ⊎ M
      out (inl e) d = inl e
      out (inr (inl e)) d = absurd (d e)
      out (inr (inr e)) d = inr e

      held : (x : Bool) → x ≡ true → HeldIf x (image ρ f v) v' → v' ≡ image ρ f v
      held true e y = y
      held false e y = never e

      here : (f ≡ g) → (d : Bool) → eqb k i ≡ d → (cond (eqb (there_in ρ g k) (there_in ρ f i)) v' (s' g (there_in ρ g k)) ≡ image ρ g (cond d v (s g k))) ⊎ M
      here e true z =
          let y : eqb (there_in ρ g k) (there_in ρ f i) ≡ true = subst (λ (x : Field). eqb (there_in ρ x k) (there_in ρ f i) ≡ true) e (eqb_there f k i ∙ z) in
          inl (rw y (subst (λ (x : Field). v' ≡ image ρ x v) e (held (compared f) (ap compared e ∙ t) h)))
      here e false z =
          let y : eqb (there_in ρ g k) (there_in ρ f i) ≡ false = subst (λ (x : Field). eqb (there_in ρ x k) (there_in ρ f i) ≡ false) e (eqb_there f k i ∙ z) in
          rw y (out a (λ u. eqb-false k i z u.1))

      go : (b : Bool) → same f g ≡ b → (cond b (cond (eqb (there_in ρ g k) (there_in ρ f i)) v' (s' g (there_in ρ g k))) (s' g (there_in ρ g k)) ≡ image ρ g (cond b (cond (eqb k i) v (s g k)) (s g k))) ⊎ M
      go true e = here (same_is f g e) (eqb k i) refl
      go false e = out a (λ u. never (sym e ∙ u.0))

  -- a list of writes
  pub write_alike : (g : Field) (k : ℕ) → compared g ≡ true → (xs ys : List Write) (s s' : Store) → RenumberedWrites ρ xs ys → AgreeAt ρ s s' g k ⊎ AmongWrites xs g k → AgreeAt ρ (on_store s xs) (on_store s' ys) g k
  write_alike g k t [] [] s s' r (inl e) = e
  write_alike g k t [] [] s s' r (inr e) = absurd e
  write_alike g k t [] (y ∷ ys) s s' r a = absurd r
  write_alike g k t (x ∷ xs) [] s s' r a = absurd r
  write_alike g k t (x ∷ xs) (y ∷ ys) s s' r a =
      write_alike g k t xs ys (upd s x.to x.at x.is) (upd s' y.to y.at y.is) r.1
      (subst (λ (f : Field). AgreeAt ρ (upd s x.to x.at x.is) (upd s' f y.at y.is) g k ⊎ AmongWrites xs g k) (sym r.0.0)
      (subst (λ (i : ℕ). AgreeAt ρ (upd s x.to x.at x.is) (upd s' x.to i y.is) g k ⊎ AmongWrites xs g k) (sym r.0.1)
      (step (AmongWrites xs g k) s s' x.to x.at x.is y.is g k t r.0.2 a)))
