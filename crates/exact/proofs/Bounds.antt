-- A rounded value stays between the whole numbers that its exact value lies between, and so does what it is cut to.
use mathlib.Core.Path.{◌≡◌, refl, sym, ap, subst, ◌∙◌}
use mathlib.Core.Bool.{Bool, true, false, not, cond, ◌&&◌, ◌||◌, true≢false}
use Prim.Native.Nat.{ℕ, zero, suc, ◌+◌, ◌-◌, ◌*◌, ◌/◌, ◌≤◌, ◌<◌, ◌^◌, min, zero-le, suc-le-suc}
use native.Mathlib.Nat.{lt-div-mul-add, div-mul-le_self, lt_of_mul-lt-mul_right, add-mul, le_of_mul-le-mul_right, mul_right_comm, zero-mul, mul-one, one-mul, le_trans, le_of_eq, le_of_lt, mul-pos, mul-le-mul_right, mul-le-mul_left}
use native.Mathlib.Omega.{arith}
use lib.Dec.{T, ltb, eqb, ltb→lt, eqb→eq}
use mir.Facts.{or_yes, and_yes}
use mathlib.Core.Logic.{inl, inr}
use lib.IntN.{ℤ, pos, negsuc, neg_ℤ, nat_abs, ◌+ℤ◌, ◌*ℤ◌, neg_ℤ-neg_ℤ, *ℤ_comm}
use lib.Ieee.{Float, nan, inf, fin, Format, binary64, prec, emax, low, up, down, round, units, odd, neg, le, lt, eq, add, mul, to_signed}
use lib.Ieee.Exact.{HasValue}
use lib.Ieee.Back.{round_whole}
use lib.Ieee.Order.{round_mono}
use lib.Ieee.Fits.{round_is, down_pos}
use lib.Ieee.Nearest.{div_same}
use lib.Ieee.Positive.{num, den, den_pos}
use Rattle.exact.specs.Num.{signed, Exact, Rounded, Whole, Part}
use Rattle.exact.proofs.Floats.{one_pos, neg_exact, add_rounded, mul_rounded}
use Rattle.exact.proofs.Fractions.{le_is, lt_is}
use Rattle.exact.proofs.Size.{size_neg}
use Rattle.exact.proofs.Parts.{scale_add, scale_le, le_transᶻ, parts_lt_z, parts_le_z, pp, np, ◌≤ᶻ◌, parts_add, parts_inj, pp_neg, np_neg, pp_mul, np_mul, parts_size}

-- ---- `round` with the other sign
units_neg : (f : Format) (q k : ℕ) → units f true q k ≡ neg (units f false q k)
unfolding units odd neg
units_neg f q k = go (ltb (q * 2 ^ k) (2 ^ (low f + suc (emax f)))) q
  where
    go : (t : Bool) (q : ℕ) → cond t (odd (suc (prec f)) true q k (low f)) (inf true) ≡ neg (cond t (odd (suc (prec f)) false q k (low f)) (inf false))
    go true zero = refl
    go true (suc q) = refl
    go false q = refl

pub round_neg : (f : Format) (a b : ℕ) → round f true a b ≡ neg (round f false a b)
round_neg f a b = round_is f true a b ∙ units_neg f _ _ ∙ ap neg (sym (round_is f false a b))

-- ---- `round f false` is no NaN and not negative
abbrev pub plus : Float → Bool
plus nan = false
plus (inf s) = not s
plus (fin s m e) = not s

units_plus : (f : Format) (q k : ℕ) → T (plus (units f false q k))
unfolding units odd
units_plus f q k = go (ltb (q * 2 ^ k) (2 ^ (low f + suc (emax f)))) q
  where
    go : (t : Bool) (q : ℕ) → T (plus (cond t (odd (suc (prec f)) false q k (low f)) (inf false)))
    go true zero = tt
    go true (suc q) = tt
    go false q = tt

pub round_plus : (f : Format) (a b : ℕ) → T (plus (round f false a b))
round_plus f a b = subst (λ (x : Float). T (plus x)) (sym (round_is f false a b)) (units_plus f _ _)

or_le : (a b : ℕ) (c : Bool) → T (ltb a b || (eqb a b && c)) → a ≤ b
or_le a b c t = elim (or_yes (ltb a b) (eqb a b && c) t) [ inl l ↦ le_of_lt (ltb→lt a b l) | inr r ↦ le_of_eq (eqb→eq a b (and_yes (eqb a b) c r).0) ]

pub le_cross : (m n : ℕ) (e d : ℤ) → T (le (fin false m e) (fin false n d)) → m * up e * down d ≤ n * up d * down e
unfolding le lt eq
le_cross m n e d t = or_le (m * up e * down d) (n * up d * down e) true t

-- x is finite, and at most h
pub under : (x y : Float) (h : ℕ) → T (plus x) → HasValue y false h 1 → T (le x y) → HasValue x false (num x) (den x) × (num x ≤ h * den x)
unfolding le lt eq
under nan y h p v t = absurd p
under (inf true) y h p v t = absurd p
under (inf false) nan h p v t = absurd v
under (inf false) (inf u) h p v t = absurd v
under (inf false) (fin u n d) h p v t = absurd t
under (fin true m e) y h p v t = absurd p
under (fin false m e) nan h p v t = absurd v
under (fin false m e) (inf u) h p v t = absurd v
under (fin false m e) (fin true n d) h p v t = absurd (true≢false v.0)
under (fin false m e) (fin false n d) h p v t =
    let a : m * up e * down d ≤ n * up d * down e = le_cross m n e d t in
    let b : n * up d ≡ h * down d = sym (mul-one (n * up d)) ∙ v.1 in
    ((refl, refl), le_of_mul-le-mul_right (le_trans a (le_of_eq (ap (λ (z : ℕ). z * down e) b ∙ mul_right_comm h (down d) (down e)))) (down_pos d))

-- x is at least l
over : (x y : Float) (l : ℕ) → HasValue x false (num x) (den x) → HasValue y false l 1 → T (le y x) → l * den x ≤ num x
unfolding le lt eq
over nan y l p v t = absurd p
over (inf u) y l p v t = absurd p
over (fin true m e) y l p v t = absurd (true≢false p.0)
over (fin false m e) nan l p v t = absurd v
over (fin false m e) (inf u) l p v t = absurd v
over (fin false m e) (fin true n d) l p v t = absurd (true≢false v.0)
over (fin false m e) (fin false n d) l p v t =
    let a : n * up d * down e ≤ m * up e * down d = le_cross n m d e t in
    let b : n * up d ≡ l * down d = sym (mul-one (n * up d)) ∙ v.1 in
    le_of_mul-le-mul_right (le_trans (le_of_eq (mul_right_comm l (down e) (down d) ∙ ap (λ (z : ℕ). z * down e) (sym b))) a) (down_pos d)

-- ---- x is a value between the whole numbers lo and hi
pub record In (x : Float) (lo hi : ℤ) : Type 0 where
  pub val : ℤ
  pub unit : ℕ
  pub some : 0 < unit
  pub exact : Exact x val unit
  pub low : lo *ℤ pos unit ≤ᶻ val
  pub high : val ≤ᶻ hi *ℤ pos unit

in_plus : (f : Format) (N k : ℕ) (lo hi : ℤ) → 0 < k → lo *ℤ pos k ≤ᶻ pos N → pos N ≤ᶻ hi *ℤ pos k → nat_abs lo ≤ 2 ^ prec f → nat_abs hi ≤ 2 ^ prec f → In (round f false N k) lo hi
in_plus f N k lo (negsuc h) K a b s t = absurd (no N h k (np_mul (negsuc h) k) (pp_mul (negsuc h) k) K b.parts)
  where
    no : (N h k : ℕ) → np (negsuc h *ℤ pos k) ≡ suc h * k → pp (negsuc h *ℤ pos k) ≡ 0 * k → 0 < k → N + np (negsuc h *ℤ pos k) ≤ pp (negsuc h *ℤ pos k) + 0 → ⊥
    no N h k e g K i = let u : k ≤ suc h * k = le_trans (le_of_eq (sym (one-mul k))) (mul-le-mul_right k (suc-le-suc zero-le)) in let z : 0 * k ≡ 0 = zero-mul k in omega arith
in_plus f N k lo (pos h) K a b s t =
    let x = round f false N k in
    let hi-le : N ≤ h * k = (let i = b.parts in omega arith) in
    let u = under x (round f false h 1) h (round_plus f N k) (round_whole f false h t) (round_mono f N k h 1 K one_pos (le_trans (le_of_eq (mul-one N)) hi-le)) in
    record {
      val = pos (num x);
      unit = den x;
      some = den_pos x;
      exact = record { sign = false; size = num x; has = u.0; is = refl };
      low = go lo a s u.0;
      high = record { parts = (let i = u.1 in omega arith) };
    }
  where
    go : (lo : ℤ) → lo *ℤ pos k ≤ᶻ pos N → nat_abs lo ≤ 2 ^ prec f → HasValue (round f false N k) false (num (round f false N k)) (den (round f false N k)) → lo *ℤ pos (den (round f false N k)) ≤ᶻ pos (num (round f false N k))
    go (pos l) a s v =
        let lo-le : l * k ≤ N = (let i = a.parts in omega arith) in
        let o = over (round f false N k) (round f false l 1) l v (round_whole f false l s) (round_mono f l 1 N k one_pos K (le_trans lo-le (le_of_eq (sym (mul-one N))))) in
        record { parts = omega arith }
    go (negsuc l) a s v = record { parts = (let i = pp_mul (negsuc l) (den (round f false N k)) in let j = zero-mul (den (round f false N k)) in omega arith) }

neg_le : (a b : ℤ) → a ≤ᶻ b → neg_ℤ b ≤ᶻ neg_ℤ a
neg_le a b h = record { parts = (let i = h.parts in omega (arith, pp_neg a, np_neg a, pp_neg b, np_neg b)) }

neg_mul : (a : ℤ) (k : ℕ) → neg_ℤ a *ℤ pos k ≡ neg_ℤ (a *ℤ pos k)
neg_mul a k = parts_inj (neg_ℤ a *ℤ pos k) (neg_ℤ (a *ℤ pos k))
    (rw (pp_mul (neg_ℤ a) k, np_mul (neg_ℤ a) k, pp_neg (a *ℤ pos k), np_neg (a *ℤ pos k), pp_neg a, np_neg a, pp_mul a k, np_mul a k))

in_neg : (x : Float) (lo hi : ℤ) → In x (neg_ℤ hi) (neg_ℤ lo) → In (neg x) lo hi
in_neg x lo hi r = record {
  val = neg_ℤ r.val;
  unit = r.unit;
  some = r.some;
  exact = neg_exact r.exact;
  low = subst (λ (z : ℤ). z ≤ᶻ neg_ℤ r.val) (ap neg_ℤ (neg_mul lo r.unit) ∙ neg_ℤ-neg_ℤ (lo *ℤ pos r.unit)) (neg_le r.val (neg_ℤ lo *ℤ pos r.unit) r.high);
  high = subst (λ (z : ℤ). neg_ℤ r.val ≤ᶻ z) (ap neg_ℤ (neg_mul hi r.unit) ∙ neg_ℤ-neg_ℤ (hi *ℤ pos r.unit)) (neg_le (neg_ℤ hi *ℤ pos r.unit) r.val r.low);
}

-- rounding keeps whole bounds
pub in_round : {f : Format} {x : Float} {v : ℤ} {k : ℕ} (lo hi : ℤ) → Rounded f x v k → 0 < k → lo *ℤ pos k ≤ᶻ v → v ≤ᶻ hi *ℤ pos k → nat_abs lo ≤ 2 ^ prec f → nat_abs hi ≤ 2 ^ prec f → In x lo hi
in_round {f} {x} {v} {k} lo hi r K a b s t = go r.sign r.size r.by r.is
  where
    go : (S : Bool) (N : ℕ) → x ≡ round f S N k → signed S N ≡ v → In x lo hi
    go false N e g =
        subst (λ (y : Float). In y lo hi) (sym e)
        (in_plus f N k lo hi K (subst (λ (z : ℤ). lo *ℤ pos k ≤ᶻ z) (sym g) a) (subst (λ (z : ℤ). z ≤ᶻ hi *ℤ pos k) (sym g) b) s t)
    go true N e g =
        let n : neg_ℤ v ≡ pos N = ap neg_ℤ (sym g) ∙ neg_ℤ-neg_ℤ (pos N) in
        subst (λ (y : Float). In y lo hi) (sym (e ∙ round_neg f N k))
        (in_neg (round f false N k) lo hi
        (in_plus f N k (neg_ℤ hi) (neg_ℤ lo) K
        (rw neg_mul (subst (λ (z : ℤ). neg_ℤ (hi *ℤ pos k) ≤ᶻ z) n (neg_le v (hi *ℤ pos k) b)))
        (rw neg_mul (subst (λ (z : ℤ). z ≤ᶻ neg_ℤ (lo *ℤ pos k)) n (neg_le (lo *ℤ pos k) v a)))
        (le_trans (le_of_eq (size_neg hi)) t) (le_trans (le_of_eq (size_neg lo)) s)))

signed_scale : (s : Bool) (n k : ℕ) → signed s (n * k) ≡ signed s n *ℤ pos k
signed_scale false n k = refl
signed_scale true zero k = ap (λ (i : ℕ). neg_ℤ (pos i)) (zero-mul k) ∙ ap pos (sym (zero-mul k))
signed_scale true (suc n) k = refl

-- the same value over a larger unit
rescale : {x : Float} {z : ℤ} (k : ℕ) → Whole x z → Exact x (z *ℤ pos k) k
rescale {x} {z} k p = record { sign = p.sign; size = p.size * k; has = go x p.sign p.size p.has; is = signed_scale p.sign p.size k ∙ ap (λ (i : ℤ). i *ℤ pos k) p.is }
  where
    go : (x : Float) (s : Bool) (n : ℕ) → HasValue x s n 1 → HasValue x s (n * k) k
    go nan s n h = h
    go (inf u) s n h = h
    go (fin u m e) s n h = (h.0, ap (λ (i : ℕ). i * k) (sym (mul-one (m * up e)) ∙ h.1) ∙ mul_right_comm n (down e) k)

pub in_add : {x y : Float} {a lo hi : ℤ} → Whole x a → In y lo hi → nat_abs (a +ℤ lo) ≤ 2 ^ 53 → nat_abs (a +ℤ hi) ≤ 2 ^ 53 → In (add binary64 x y) (a +ℤ lo) (a +ℤ hi)
in_add {a = a} {lo} {hi} p r s t =
    let k = r.unit in
    in_round (a +ℤ lo) (a +ℤ hi) (add_rounded r.some (rescale k p) r.exact) r.some
    (rw (scale_add a lo k) (record { parts = (let i = r.low.parts in omega (arith, parts_add (a *ℤ pos k) (lo *ℤ pos k), parts_add (a *ℤ pos k) r.val)) }))
    (rw (scale_add a hi k) (record { parts = (let i = r.high.parts in omega (arith, parts_add (a *ℤ pos k) (hi *ℤ pos k), parts_add (a *ℤ pos k) r.val)) }))
    s t

part_pos : (pl nl n N D : ℕ) → pl + 0 ≤ 0 + nl → pl * D + 0 * N ≤ n * N + nl * D
part_pos pl nl n N D h = let i : pl * D ≤ nl * D = mul-le-mul_right D (omega arith) in let z = zero-mul N in omega arith

part_neg : (pl nl n N D : ℕ) → N ≤ D → pl + n ≤ 0 + nl → pl * D + n * N ≤ 0 * N + nl * D
part_neg pl nl n N D s h =
    let i : (pl + n) * D ≤ nl * D = mul-le-mul_right D (omega arith) in
    let j = add-mul pl n D in
    let k : n * N ≤ n * D = mul-le-mul_left n s in
    omega arith

-- a fraction of a whole number lies between 0 and that number
pub in_mul : {t d : Float} {z lo hi : ℤ} → Part t → Whole d z → lo ≤ᶻ pos 0 → pos 0 ≤ᶻ hi → lo ≤ᶻ z → z ≤ᶻ hi → nat_abs lo ≤ 2 ^ 53 → nat_abs hi ≤ 2 ^ 53 → In (mul binary64 t d) lo hi
in_mul {z = z} {lo} {hi} p w l h a b s u =
    let e : Exact _ (pos p.num) p.den = record { sign = false; size = p.num; has = p.has; is = refl } in
    in_round lo hi (mul_rounded p.some one_pos e w) (mul-pos p.some one_pos)
    (rw (mul-one, *ℤ_comm (pos p.num) z) (record { parts = rw (pp_mul lo p.den, np_mul lo p.den, pp_mul z p.num, np_mul z p.num) (low z l a) }))
    (rw (mul-one, *ℤ_comm (pos p.num) z) (record { parts = rw (pp_mul hi p.den, np_mul hi p.den, pp_mul z p.num, np_mul z p.num) (high z h b) }))
    s u
  where
    low : (z : ℤ) → lo ≤ᶻ pos 0 → lo ≤ᶻ z → pp lo * p.den + np z * p.num ≤ pp z * p.num + np lo * p.den
    low (pos n) l a = part_pos (pp lo) (np lo) n p.num p.den l.parts
    low (negsuc n) l a = part_neg (pp lo) (np lo) (suc n) p.num p.den p.small a.parts

    high : (z : ℤ) → pos 0 ≤ᶻ hi → z ≤ᶻ hi → pp z * p.num + np hi * p.den ≤ pp hi * p.den + np z * p.num
    high (pos n) h b = let i = b.parts in let j = part_neg (np hi) (pp hi) n p.num p.den p.small (omega arith) in omega arith
    high (negsuc n) h b = let i = h.parts in let j = part_pos (np hi) (pp hi) (suc n) p.num p.den (omega arith) in omega arith

-- ---- what it is cut to
cut : (x : Float) (s : Bool) (N U : ℕ) → 0 < U → HasValue x s N U → to_signed 63 x ≡ cond s (neg_ℤ (pos (min (N / U) (2 ^ 63)))) (pos (min (N / U) (2 ^ 63 - 1)))
unfolding to_signed
cut nan s N U H v = absurd v
cut (inf u) s N U H v = absurd v
cut (fin u m e) s N U H v = rw (v.0, div_same (m * up e) (down e) N U (down_pos e) H v.1)

-- by the whole part of N / U: a * U ≤ N + b * U exactly where a ≤ N / U + b, and N + b * U ≤ a * U only where N / U + b ≤ a
floor_ge : (a b N U : ℕ) → 0 < U → a * U ≤ N + b * U → a ≤ N / U + b
floor_ge a b N U H h =
    let q = N / U in
    let g : N < q * U + U = lt-div-mul-add H in
    let i : a * U < (q + b + 1) * U = omega arith in
    let j : a < q + b + 1 = lt_of_mul-lt-mul_right U i in
    omega arith

floor_le : (a b N U : ℕ) → 0 < U → N + b * U ≤ a * U → N / U + b ≤ a
floor_le a b N U H h =
    let q = N / U in
    let g : q * U ≤ N = div-mul-le_self N U in
    let i : (q + b) * U ≤ a * U = omega arith in
    le_of_mul-le-mul_right i H

pub in_cut : {x : Float} {lo hi : ℤ} → In x lo hi → nat_abs lo < 2 ^ 63 → nat_abs hi < 2 ^ 63 → (lo ≤ᶻ to_signed 63 x) × (to_signed 63 x ≤ᶻ hi)
in_cut {x} {lo} {hi} r s t = go r.exact.sign r.exact.size r.val r.exact.is (cut x r.exact.sign r.exact.size r.unit r.some r.exact.has) r.low r.high
  where
    U : ℕ
    U = r.unit

    go : (S : Bool) (N : ℕ) (v : ℤ) → signed S N ≡ v → to_signed 63 x ≡ cond S (neg_ℤ (pos (min (N / r.unit) (2 ^ 63)))) (pos (min (N / r.unit) (2 ^ 63 - 1))) → lo *ℤ pos r.unit ≤ᶻ v → v ≤ᶻ hi *ℤ pos r.unit → (lo ≤ᶻ to_signed 63 x) × (to_signed 63 x ≤ᶻ hi)
    go false N v e c l h =
        let a = rw (← e, pp_mul, np_mul) at l.parts in
        let b = rw (← e, pp_mul, np_mul) at h.parts in
        let m : pp lo ≤ N / r.unit + np lo = floor_ge (pp lo) (np lo) N r.unit r.some (omega arith) in
        let n : N / r.unit + np hi ≤ pp hi = floor_le (pp hi) (np hi) N r.unit r.some (omega arith) in
        let z = parts_size hi in
        rw c (record { parts = omega arith }, record { parts = omega arith })
    go true N v e c l h =
        let a = rw (← e, pp_mul, np_mul, pp_neg, np_neg) at l.parts in
        let b = rw (← e, pp_mul, np_mul, pp_neg, np_neg) at h.parts in
        let m : N / r.unit + pp lo ≤ np lo = floor_le (np lo) (pp lo) N r.unit r.some (omega arith) in
        let n : np hi ≤ N / r.unit + pp hi = floor_ge (np hi) (pp hi) N r.unit r.some (omega arith) in
        let z = parts_size lo in
        let q = min (N / r.unit) (2 ^ 63) in
        rw c (record { parts = omega (arith, pp_neg (pos q), np_neg (pos q)) }, record { parts = omega (arith, pp_neg (pos q), np_neg (pos q)) })

-- ---- what the truncation of `std` asks
abbrev far : ℤ
far = negsuc 9223372036854775807

T_of : {b c : Bool} → b ≡ c → T c → T b
T_of e t = subst T (sym e) t

pub in_range : {x : Float} {lo hi : ℤ} → In x lo hi → nat_abs lo < 2 ^ 63 → nat_abs hi < 2 ^ 63 → T (le (fin true 1 (pos 63)) x) × T (lt x (fin false 1 (pos 63)))
in_range {x} {lo} {hi} r s t =
    let U = r.unit in
    let l : Whole (fin true 1 (pos 63)) far = record { sign = true; size = 2 ^ 63; has = (refl, refl); is = refl } in
    let h : Whole (fin false 1 (pos 63)) (pos (2 ^ 63)) = record { sign = false; size = 2 ^ 63; has = (refl, refl); is = refl } in
    let a : far *ℤ pos U ≤ᶻ lo *ℤ pos U = scale_le far lo U (record { parts = omega (arith, parts_size lo) }) in
    let b : hi *ℤ pos U ≤ᶻ pos (2 ^ 63 - 1) *ℤ pos U = scale_le hi (pos (2 ^ 63 - 1)) U (record { parts = omega (arith, parts_size hi) }) in
    let c = r.high.parts in
    let d = b.parts in
    let e = r.some in (
      T_of (le_is r.some (rescale U l) r.exact) (parts_le_z (far *ℤ pos U) r.val (le_transᶻ (far *ℤ pos U) (lo *ℤ pos U) r.val a r.low)),
      T_of (lt_is r.some r.exact (rescale U h)) (parts_lt_z r.val (pos (2 ^ 63) *ℤ pos U) (omega arith)),
    )
