-- Line after line, and what is told at the end.
use Prim.Native.Nat.{ℕ, suc, ◌+◌, ◌-◌, ◌≤◌, ◌<◌, min, max}
use mathlib.Core.Path.{◌≡◌, refl, sym, ap, ◌∙◌, subst}
use mathlib.Core.Bool.{Bool, true, false}
use mathlib.Core.List.{List, [], ◌∷◌, ◌++◌, append_assoc, append-nil}
use native.Mathlib.Omega.{arith}
use native.Mathlib.Decide.{dec_lt}
use lib.ListN.{length, set, take, drop}
use lib.Seq.{sets, length-sets, drop-nil}
use borrow.Author.Tests.{le-leb, lt-leb}
use Rattle.std.specs.Prelude.{Option, Some, None}
use Rattle.text.specs.Pour.{Poured, poured, pour}
use Rattle.text.specs.Text.{SPACE, NEWLINE, decimal}
use Rattle.listing.specs.Words.{CLOSED, OPEN, REFUSED}
use Rattle.listing.specs.Fields.{value_length, next_field, path_in, paths_in, field_after}
use Rattle.listing.specs.Needs.{FieldIn, FieldsIn}
use Rattle.listing.specs.Lines.{line_of, lines_of, first_line, listing_of, refused_line}
use Rattle.listing.specs.Needs.{Going}
use Rattle.listing.specs.Told.{told, answer_at, tell}
use Rattle.listing.specs.Needs.{Listable}
use Rattle.text.proofs.Pouring.{pour_none, pour_more, pour_length}
use Rattle.listing.proofs.Runs.{one_passed, all_passed, from_none}

-- ---- lines

pub going_begins : (t : List ℕ) (from count : ℕ) (rev o : Bool) (at : ℕ) (out : List ℕ) → FieldsIn t count from → Going t from count rev o at out out at from (count - 0)
going_begins t from count rev o at out r = from_none (Going t from count rev o at out out at from) count (record { rest = r; done = []; is = pour_none out at; all = refl; after = refl })

module _ (t : List ℕ) (from count : ℕ) (rev o : Bool) (at : ℕ) (out₀ out : List ℕ) (k f c i : ℕ) (s : Going t from count rev o at out₀ out k f (c - i)) where
  pub going_length : length out ≡ length out₀
  going_length = pour_length s.done out₀ out at k s.is

  pub going_after : c ≤ i → f ≡ field_after t count from
  going_after h = ap (λ (m : ℕ). field_after t m f) (sym (all_passed c i h)) ∙ s.after

  pub going_ends : c ≤ i → poured k out ≡ pour (lines_of rev o (paths_in t count from)) at out₀
  going_ends h =
      s.is
      ∙ ap (λ (x : List ℕ). pour x at out₀)
      (sym (append-nil s.done) ∙ ap (λ (m : ℕ). s.done ++ lines_of rev o (paths_in t m f)) (sym (all_passed c i h)) ∙ s.all)

  module _ (h : i < c) where
    fields : FieldIn t f × FieldsIn t (c - (i + 1)) (next_field t f)
    fields = subst (λ (m : ℕ). FieldsIn t m f) (one_passed c i h) s.rest

    pub going_field : FieldIn t f
    going_field = fields.0

    pub going_on : (k' v : ℕ) (out' : List ℕ) → poured k' out' ≡ pour (line_of rev o (path_in t f)) k out → v ≡ value_length t f → Going t from count rev o at out₀ out' k' (f + 3 + v) (c - (i + 1))
    going_on k' v out' e g =
        rw g
        (record {
          rest = fields.1;
          done = s.done ++ line_of rev o (path_in t f);
          is = pour_more s.done (line_of rev o (path_in t f)) out₀ out out' at k k' s.is e;
          all =
              append_assoc s.done (line_of rev o (path_in t f)) (lines_of rev o (paths_in t (c - (i + 1)) (next_field t f)))
              ∙ ap (λ (m : ℕ). s.done ++ lines_of rev o (paths_in t m f)) (sym (one_passed c i h))
              ∙ s.all;
          after = ap (λ (m : ℕ). field_after t m f) (sym (one_passed c i h)) ∙ s.after;
        })

-- ---- first line, refusal

pub counts_poured : (c o a b d e g : ℕ) (o₁ o₂ o₃ o₄ o₅ o₆ : List ℕ) → poured a o₂ ≡ pour (CLOSED ++ (SPACE ∷ [])) 0 o₁ → poured b o₃ ≡ pour (decimal c) a o₂
    → poured d o₄ ≡ pour ((SPACE ∷ []) ++ OPEN ++ (SPACE ∷ [])) b o₃ → poured e o₅ ≡ pour (decimal o) d o₄ → poured g o₆ ≡ pour (NEWLINE ∷ []) e o₅
    → poured g o₆ ≡ pour (first_line c o) 0 o₁
counts_poured c o a b d e g o₁ o₂ o₃ o₄ o₅ o₆ h i j l m =
    pour_more (CLOSED ++ (SPACE ∷ []) ++ decimal c ++ ((SPACE ∷ []) ++ OPEN ++ (SPACE ∷ [])) ++ decimal o) (NEWLINE ∷ []) o₁ o₅ o₆ 0 e g
    (pour_more (CLOSED ++ (SPACE ∷ []) ++ decimal c ++ ((SPACE ∷ []) ++ OPEN ++ (SPACE ∷ []))) (decimal o) o₁ o₄ o₅ 0 d e
    (pour_more (CLOSED ++ (SPACE ∷ []) ++ decimal c) ((SPACE ∷ []) ++ OPEN ++ (SPACE ∷ [])) o₁ o₃ o₄ 0 b d (pour_more (CLOSED ++ (SPACE ∷ [])) (decimal c) o₁ o₂ o₃ 0 a b h i) j)
    l)
    m
    ∙ ap (λ (x : List ℕ). pour (x ++ decimal o ++ (NEWLINE ∷ [])) 0 o₁) regroup
  where
    regroup : CLOSED ++ (SPACE ∷ []) ++ decimal c ++ ((SPACE ∷ []) ++ OPEN ++ (SPACE ∷ [])) ≡ CLOSED ++ (SPACE ∷ []) ++ decimal c ++ (SPACE ∷ []) ++ OPEN ++ (SPACE ∷ [])
    regroup = simp append_assoc

pub refused_poured : (n a b c : ℕ) (o₁ o₂ o₃ o₄ : List ℕ) → poured a o₂ ≡ pour (REFUSED ++ (SPACE ∷ [])) 0 o₁ → poured b o₃ ≡ pour (decimal n) a o₂ → poured c o₄ ≡ pour (NEWLINE ∷ []) b o₃
    → poured c o₄ ≡ pour (refused_line n) 0 o₁
refused_poured n a b c o₁ o₂ o₃ o₄ e f g = pour_more (REFUSED ++ (SPACE ∷ []) ++ decimal n) (NEWLINE ∷ []) o₁ o₃ o₄ 0 b c (pour_more (REFUSED ++ (SPACE ∷ [])) (decimal n) o₁ o₂ o₃ 0 a b e f) g

-- ---- at the end

sets_nil : (i : ℕ) (vs : List ℕ) → sets [] i vs ≡ []
sets_nil i [] = refl
sets_nil i (v ∷ vs) = sets_nil (suc i) vs

sets_cons : (x : ℕ) (t : List ℕ) (i : ℕ) (vs : List ℕ) → sets (x ∷ t) (suc i) vs ≡ x ∷ sets t i vs
sets_cons x t i [] = refl
sets_cons x t i (v ∷ vs) = sets_cons x (set t i v) (suc i) vs

sets_front : (t text : List ℕ) → sets t 0 text ≡ take (length t) text ++ drop (length text) t
sets_front [] text = sets_nil 0 text ∙ sym (drop-nil (length text))
sets_front (x ∷ t) [] = refl
sets_front (x ∷ t) (v ∷ text) = sets_cons v t 0 text ∙ ap (λ (l : List ℕ). v ∷ l) (sets_front t text)

pub told_all : (text t u : List ℕ) (at : ℕ) (r : Option ℕ) → poured at u ≡ pour text 0 t → r ≡ answer_at at u → told r u ≡ tell text t
unfolding pour tell
told_all text t u at r e f =
    let n : at ≡ max 0 (min (0 + length text) (suc (length t))) = ap (λ (x : Poured). x.at) e in
    let o : u ≡ sets t 0 text = ap (λ (x : Poured). x.out) e in
    let l : length u ≡ length t = ap length o ∙ length-sets t 0 text in
    ap (λ (x : Option ℕ). told x u) (f ∙ by n l) ∙ ap (λ (x : List ℕ). told (answer_at (length text) t) x) (o ∙ sets_front t text)
  where
    by : at ≡ max 0 (min (0 + length text) (suc (length t))) → length u ≡ length t → answer_at at u ≡ answer_at (length text) t
    by n l = go (dec_lt (length t) (length text))
      where
        go : Dec (length t < length text) → answer_at at u ≡ answer_at (length text) t
        go (yes h) = rw (lt-leb at (length u) (omega arith), lt-leb (length text) (length t) h)
        go (no h) =
            let z : at ≡ length text = omega arith in
            rw (z, le-leb (length text) (length u) (omega arith), le-leb (length text) (length t) (omega arith))

pub has_room : (at : ℕ) (u : List ℕ) → at ≤ length u → Some at ≡ answer_at at u
has_room at u h = rw (le-leb at (length u) h)

pub no_room : (at : ℕ) (u : List ℕ) → length u < at → None ≡ answer_at at u
no_room at u h = rw (lt-leb at (length u) h)

-- the listing: counts, closed lines, open lines
pub listing_poured : (rev : Bool) (c o a b d : ℕ) (t o₁ o₂ o₃ o₄ : List ℕ) (f : ℕ) → poured a o₂ ≡ pour (first_line c o) 0 o₁ → poured b o₃ ≡ pour (lines_of rev false (paths_in t c 0)) a o₂ → f ≡ field_after t c 0
    → poured d o₄ ≡ pour (lines_of rev true (paths_in t o f)) b o₃ → poured d o₄ ≡ pour (listing_of rev c o t) 0 o₁
unfolding listing_of
listing_poured rev c o a b d t o₁ o₂ o₃ o₄ f e g h i =
    pour_more (first_line c o ++ lines_of rev false (paths_in t c 0)) (lines_of rev true (paths_in t o f)) o₁ o₃ o₄ 0 b d (pour_more (first_line c o) (lines_of rev false (paths_in t c 0)) o₁ o₂ o₃ 0 a b e g) i
    ∙ ap (λ (x : ℕ). pour (first_line c o ++ lines_of rev false (paths_in t c 0) ++ lines_of rev true (paths_in t o x)) 0 o₁) h

pub open_asked : (c o : ℕ) (t : List ℕ) (f : ℕ) → Listable c o t → f ≡ field_after t c 0 → FieldsIn t o f
open_asked c o t f h e = rw e h.open_in
