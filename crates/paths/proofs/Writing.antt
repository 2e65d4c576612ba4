-- The path that goes round a ring is written on one walk.
use Prim.Native.Nat.{ℕ, suc, ◌+◌, ◌*◌, ◌≤◌}
use mathlib.Core.Path.{◌≡◌, refl, sym, ap, ◌∙◌, subst}
use mathlib.Core.Logic.{◌≢◌}
use mathlib.Core.Bool.{Bool, true, false, cond}
use mathlib.Core.List.{List, [], ◌∷◌, ◌++◌, append_assoc, append-nil}
use native.Mathlib.Omega.{arith}
use lib.ListN.{length, length-append}
use Rattle.numbers.specs.Written.{put_le}
use Rattle.numbers.specs.Raised.{lowered, coordinate}
use Rattle.job.specs.Limits.{COORDINATE}
use Rattle.geometry.specs.declared.Point.{Point}
use Rattle.geometry.specs.Plane.{same_point}
use Rattle.store.specs.Field.{pt, X, Y, Z}
use Rattle.store.specs.Words.{Store, view}
use Rattle.store.specs.Good.{PointIn}
use Rattle.paths.specs.Path.{point_at}
use Rattle.paths.specs.Tray.{POINT, low_bytes, i32_bytes, point_bytes, path_bytes, over}
use Rattle.paths.specs.Walking.{link_of, Readable, Round, Going, after_point, path_round, more, put_point, Laid, laid, put_more, Laying, Room}
use Rattle.paths.specs.Filling.{lay_over}
use Rattle.paths.proofs.Coordinates.{coordinate_bits}
use Rattle.paths.proofs.Walks.{others_of, round_here, going_begins, going_here, going_on, going_ends}
use Rattle.paths.proofs.Rounds.{adds, after_more, path_is}
use Rattle.paths.proofs.Laying.{length_low_bytes, length_path_bytes, path_bytes_append, put_over, length_over, over_again}

-- ---- one point

pub point_put : (s : Store) (q at x y z : ℕ) (t t₁ t₂ t₃ : List ℕ) → x ≡ s (pt X) q → y ≡ s (pt Y) q → z ≡ s (pt Z) q → t₁ ≡ put_le 4 at (lowered COORDINATE x) t → t₂ ≡ put_le 4 (at + 4) (lowered COORDINATE y) t₁ → t₃ ≡ put_le 4 (at + 8) z t₂ → t₃ ≡ put_point s q at t
point_put s q at x y z t t₁ t₂ t₃ e f g h i j = rw (j, i, h, e, f, g)

-- laid over the tray after the bytes a
point_over : (s : Store) (q : ℕ) (a t : List ℕ) → PointIn s q → length a + POINT ≤ length t → put_point s q (length a) (over a t) ≡ over (a ++ point_bytes (point_at s q)) t
unfolding point_bytes point_at
point_over s q a t i h =
    let x = lowered COORDINATE (s (pt X) q) in
    let y = lowered COORDINATE (s (pt Y) q) in
    let z = s (pt Z) q in
    let e : length a + 4 ≡ length (a ++ low_bytes 4 x) = omega (arith, length-append a (low_bytes 4 x), length_low_bytes 4 x) in
    let f : length a + 8 ≡ length (a ++ low_bytes 4 x ++ low_bytes 4 y) = omega (arith, e, length-append (a ++ low_bytes 4 x) (low_bytes 4 y), length_low_bytes 4 y) in
    let b : low_bytes 4 x ++ low_bytes 4 y ++ low_bytes 4 z ≡ i32_bytes (coordinate COORDINATE (s (pt X) q)) ++ i32_bytes (coordinate COORDINATE (s (pt Y) q)) ++ low_bytes 4 z = rw (coordinate_bits (s (pt X) q) i.x_in, coordinate_bits (s (pt Y) q) i.y_in) in
    ap (λ (l : List ℕ). put_le 4 (length a + 8) z (put_le 4 (length a + 4) y l)) (put_over 4 x a t (omega arith))
    ∙ ap (λ (k : ℕ). put_le 4 (length a + 8) z (put_le 4 k y (over (a ++ low_bytes 4 x) t))) e
    ∙ ap (put_le 4 (length a + 8) z) (put_over 4 y (a ++ low_bytes 4 x) t (omega arith))
    ∙ ap (λ (k : ℕ). put_le 4 k z (over (a ++ low_bytes 4 x ++ low_bytes 4 y) t)) f
    ∙ put_over 4 z (a ++ low_bytes 4 x ++ low_bytes 4 y) t (omega arith)
    ∙ ap (λ (l : List ℕ). over l t) (ap (λ (l : List ℕ). l ++ low_bytes 4 z) (append_assoc a (low_bytes 4 x) (low_bytes 4 y)) ∙ append_assoc a (low_bytes 4 x ++ low_bytes 4 y) (low_bytes 4 z) ∙ ap (λ (l : List ℕ). a ++ l) b)

more_same : (s : Store) (b q : ℕ) (r : Bool) → same_point (point_at s q) (point_at s b) ≡ r → more s b q ≡ cond r 0 1
more_same s b q r e = rw e

pub more_none : (s : Store) (b q d at : ℕ) (t : List ℕ) → d ≡ more s b q → d ≡ 0 → laid at t ≡ put_more s b q at t
unfolding put_more
more_none s b q d at t e h = go (same_point (point_at s q) (point_at s b)) refl
  where
    go : (r : Bool) → same_point (point_at s q) (point_at s b) ≡ r → laid at t ≡ cond r (laid at t) (laid (at + POINT) (put_point s q at t))
    go true f = refl
    go false f = absurd (omega (arith, e, h, more_same s b q false f))

pub more_some : (s : Store) (b q d at : ℕ) (t u : List ℕ) → d ≡ more s b q → d ≢ 0 → u ≡ put_point s q at t → laid (at + POINT) u ≡ put_more s b q at t
unfolding put_more
more_some s b q d at t u e h g = go (same_point (point_at s q) (point_at s b)) refl
  where
    go : (r : Bool) → same_point (point_at s q) (point_at s b) ≡ r → laid (at + POINT) u ≡ cond r (laid at t) (laid (at + POINT) (put_point s q at t))
    go true f = absurd (h (e ∙ more_same s b q true f))
    go false f = rw g

at_put : (s : Store) (b q at : ℕ) (t : List ℕ) → at + POINT * more s b q ≡ (put_more s b q at t).at
unfolding put_more
at_put s b q at t = go (same_point (point_at s q) (point_at s b))
  where
    go : (r : Bool) → at + POINT * cond r 0 1 ≡ (cond r (laid at t) (laid (at + POINT) (put_point s q at t))).at
    go true = omega arith
    go false = omega arith

-- ---- the walk

pub one_fits : (w : List ℕ) (rev : Bool) (a : ℕ) (t : List ℕ) → Room w rev a t → 0 + POINT ≤ length t
one_fits w rev a t r =
    let m : length (path_round (view w) rev a) ≡ suc (length (after_point (view w) a (others_of (link_of (view w) rev) a))) = ap length (path_is (view w) rev a) in
    omega (arith, r.room)

-- the first point is written at once
pub laying_begins : (w : List ℕ) (rev : Bool) (a : ℕ) (t t₀ : List ℕ) (q : ℕ) → Room w rev a t → t₀ ≡ put_point (view w) a 0 t → q ≡ link_of (view w) rev a
    → Going w rev a q (Laying w a POINT t₀ t₀ (path_round (view w) rev a))
laying_begins w rev a t t₀ q r e f =
    let s = view w in
    let h = round_here w rev a r.round in
    let p = path_is s rev a in
    let m : length (path_round s rev a) ≡ suc (length (after_point s a (others_of (link_of s rev) a))) = ap length p in
    let b : t₀ ≡ over (path_bytes (point_at s a ∷ [])) t = e ∙ point_over s a [] t h.here (omega (arith, r.room)) ∙ ap (λ (l : List ℕ). over l t) (sym (append-nil (point_bytes (point_at s a)))) in
    let g : over (path_bytes (point_at s a ∷ [])) (over (path_bytes (point_at s a ∷ [])) t) ≡ over (path_bytes (point_at s a ∷ [])) t =
    subst (λ (l : List ℕ). over l (over (path_bytes (point_at s a ∷ [])) t) ≡ over l t) (append-nil (path_bytes (point_at s a ∷ []))) (over_again (path_bytes (point_at s a ∷ [])) [] t)
    in
    going_begins w rev a q (Laying w a POINT t₀ t₀ (path_round s rev a)) r.round f
    (record {
      before = h.here;
      done = point_at s a ∷ [];
      bytes = rw b (sym g);
      here = refl;
      all = sym p;
      room = omega (arith, r.room, ap length b, length_over (path_bytes (point_at s a ∷ [])) t (omega (arith, length_path_bytes (point_at s a ∷ []), r.room)));
    })

-- one point more
laid_on : (s : Store) (b q at : ℕ) (t₀ t : List ℕ) (done : List Point) → PointIn s q → t ≡ over (path_bytes done) t₀ → at ≡ POINT * length done → POINT * length (done ++ adds s b q) ≤ length t₀
    → put_more s b q at t ≡ laid (POINT * length (done ++ adds s b q)) (over (path_bytes (done ++ adds s b q)) t₀)
unfolding put_more
laid_on s b q at t₀ t done i e f = go (same_point (point_at s q) (point_at s b))
  where
    go : (r : Bool) → POINT * length (done ++ cond r [] (point_at s q ∷ [])) ≤ length t₀
        → cond r (laid at t) (laid (at + POINT) (put_point s q at t)) ≡ laid (POINT * length (done ++ cond r [] (point_at s q ∷ []))) (over (path_bytes (done ++ cond r [] (point_at s q ∷ []))) t₀)
    go true h = rw (append-nil done, e, f)
    go false h =
        let k = length_path_bytes done in
        let n : length (done ++ (point_at s q ∷ [])) ≡ length done + 1 = length-append done (point_at s q ∷ []) in
        let a : at ≡ length (path_bytes done) = omega arith in
        let z : at + POINT ≡ POINT * length (done ++ (point_at s q ∷ [])) = omega arith in
        let u : put_point s q at t ≡ over (path_bytes (done ++ (point_at s q ∷ []))) t₀ =
        rw (e, a) (point_over s q (path_bytes done) t₀ i (omega arith))
        ∙ ap (λ (l : List ℕ). over (path_bytes done ++ l) t₀) (sym (append-nil (point_bytes (point_at s q))))
        ∙ ap (λ (l : List ℕ). over l t₀) (sym (path_bytes_append done (point_at s q ∷ [])))
        in
        rw (u, z)

module _ (w : List ℕ) (rev : Bool) (a b at : ℕ) (t₀ t : List ℕ) (q : ℕ) (g : Going w rev a q (Laying w b at t₀ t (path_round (view w) rev a))) where
  pub laying_on : (at' : ℕ) (t' : List ℕ) (p : ℕ) → q ≢ a → laid at' t' ≡ put_more (view w) b q at t → p ≡ link_of (view w) rev q → Going w rev a p (Laying w q at' t₀ t' (path_round (view w) rev a))
  laying_on at' t' p d e f =
      going_on w rev a q (Laying w b at t₀ t (path_round (view w) rev a)) (Laying w q at' t₀ t' (path_round (view w) rev a)) p g d f
      (λ l y.
      let s = view w in
      let i : PointIn s q = going_here w rev a q (Laying w b at t₀ t (path_round s rev a)) g d in
      let all : (y.done ++ adds s b q) ++ after_point s q l ≡ path_round s rev a = append_assoc y.done (adds s b q) (after_point s q l) ∙ ap (λ (z : List Point). y.done ++ z) (sym (after_more s b q l)) ∙ y.all in
      let small : POINT * length (y.done ++ adds s b q) ≤ length t₀ = omega (arith, ap length all, length-append (y.done ++ adds s b q) (after_point s q l), y.room) in
      let c : laid at' t' ≡ laid (POINT * length (y.done ++ adds s b q)) (over (path_bytes (y.done ++ adds s b q)) t₀) = e ∙ laid_on s b q at t₀ t y.done i y.bytes y.here small in
      record { before = i; done = y.done ++ adds s b q; bytes = ap (λ (z : Laid). z.tray) c; here = ap (λ (z : Laid). z.at) c; all = all; room = y.room })

  pub laying_here : Round w rev a → q ≢ a → Readable w b × Readable w q
  laying_here r d = (readable g.says.before, readable (going_here w rev a q (Laying w b at t₀ t (path_round (view w) rev a)) g d))
    where
      readable : {k : ℕ} → PointIn (view w) k → Readable w k
      readable i = record { long = r.long; low = omega (arith, i.below, r.few); here = i }

  -- the tray is as long as it was
  pub laying_length : length t ≡ length t₀
  laying_length =
      let y = g.says in
      ap length y.bytes
      ∙ length_over (path_bytes y.done) t₀
      (omega (arith, length_path_bytes y.done, ap length y.all, length-append y.done (after_point (view w) b g.todo), y.room))

  -- there is room for the point, if it is written
  pub laying_room : q ≢ a → at + POINT * more (view w) b q ≤ length t
  laying_room d =
      let s = view w in
      let n = laying_on (put_more s b q at t).at (put_more s b q at t).tray (link_of s rev q) d refl refl in
      let m = n.says in
      omega (arith, laying_length, at_put s b q at t, m.here, ap length m.all, length-append m.done (after_point s q n.todo), m.room)

  pub laying_ends : (u : List ℕ) → q ≡ a → Room w rev a u → t₀ ≡ put_point (view w) a 0 u → laid at t ≡ lay_over (path_bytes (path_round (view w) rev a)) u
  laying_ends u e r f =
      let s = view w in
      let y = going_ends w rev a q (Laying w b at t₀ t (path_round s rev a)) g e in
      let p = path_is s rev a in
      let m : length (path_round s rev a) ≡ suc (length (after_point s a (others_of (link_of s rev) a))) = ap length p in
      let h : t₀ ≡ over (point_bytes (point_at s a)) u = f ∙ point_over s a [] u (round_here w rev a r.round).here (omega (arith, r.room)) in
      let d : y.done ≡ path_round s rev a = sym (append-nil y.done) ∙ y.all in
      let n : at ≡ length (path_bytes (path_round s rev a)) = omega (arith, y.here, ap length d, length_path_bytes (path_round s rev a)) in
      let v : t ≡ over (path_bytes (path_round s rev a)) u = y.bytes ∙ rw (d, p, h) (over_again (point_bytes (point_at s a)) (path_bytes (after_point s a (others_of (link_of s rev) a))) u) in
      rw (n, v)
