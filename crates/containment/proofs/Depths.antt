-- The answers of paths are those of what a tray keeps of them.
use mathlib.Core.Path.{◌≡◌, refl, sym, ap, ◌∙◌}
use Prim.Native.Nat.{ℕ}
use mathlib.Core.List.{List, [], ◌∷◌, ◌++◌, map, map-append}
use Rattle.geometry.specs.declared.Point.{Point}
use Rattle.listing.specs.Fields.{as_words}
use Rattle.containing.proofs.Depths.{contains_words}
use Rattle.containment.specs.Answers.{row, rows, pair_answers}

row_words : (p : List Point) (qs : List (List Point)) → row (map as_words p) (map (map as_words) qs) ≡ row p qs
row_words p [] = refl
row_words p (q ∷ qs) = rw (contains_words p q, row_words p qs)

rows_words : (before ps : List (List Point)) → rows (map (map as_words) before) (map (map as_words) ps) ≡ rows before ps
rows_words before [] = refl
rows_words before (p ∷ ps) =
    let a : row (map as_words p) (map (map as_words) before ++ map (map as_words) ps) ≡ row p (before ++ ps) = ap (row (map as_words p)) (sym (map-append (map as_words) before ps)) ∙ row_words p (before ++ ps) in
    let b : rows (map (map as_words) before ++ (map as_words p ∷ [])) (map (map as_words) ps) ≡ rows (before ++ (p ∷ [])) ps =
    ap (λ (l : List (List Point)). rows l (map (map as_words) ps)) (sym (map-append (map as_words) before (p ∷ []))) ∙ rows_words (before ++ (p ∷ [])) ps
    in
    rw (a, b)

pub answers_words : (ps : List (List Point)) → pair_answers (map (map as_words) ps) ≡ pair_answers ps
unfolding pair_answers
answers_words ps = rows_words [] ps
