-- Marks: one is set, and all below a count are tested, a word at a time.
use mathlib.Core.Path.{◌≡◌, refl, sym, ap, ◌∙◌, subst}
use mathlib.Core.Bool.{Bool, true, false, ◌&&◌, ◌||◌}
use mathlib.Core.List.{List}
use Prim.Native.Nat.{ℕ, zero, suc, ◌+◌, ◌-◌, ◌*◌, ◌/◌, ◌%◌, ◌^◌, ◌<◌, ◌≤◌}
use native.Mathlib.Decide.{ℕ_discrete, dec_lt}
use native.Mathlib.Nat.{add-zero, add-suc, one-mul, mod-eq_of_lt, zero-div}
use native.Mathlib.Omega.{arith}
use lib.Arith.{digits_div, digits_mod}
use lib.Bits.{bit_or, bit_and, and_mask, or_zero_r}
use lib.Dec.{eqb}
use lib.ListN.{length, get_or, take, set, replicate, length-set, get_or-replicate, get_or-eq_default}
use lib.Pow.{shl_exact}
use lib.Seq.{get_or-set_same, get_or-set_other, set_out, set-set, set-get_or}
use borrow.Author.Tests.{eq-eqb, ne_eqb}
use Rattle.std.proofs.lemmas.List.{get_or-take, length-take}
use denote.Param.Members.{Mut}
use Rattle.std.proofs.Common.{Bor, Iter}
use Rattle.std.proofs.iter.Yields.{fronts}
use Rattle.std.proofs.lemmas.Iterator.{YieldsList-from_slice, cases_from_all}
use Rattle.std.specs.Fn.{Called}
use Rattle.std.specs.Iterator.{YieldsThen}
use Rattle.std.specs.Option.{MatchOption}
use Rattle.std.specs.Prelude.{Option}
use Rattle.std.specs.Slice.Iter.{iter_rest}
use Rattle.std.specs.Bool.{MatchBool}
use Rattle.std.specs.List.{AllWithin, HoldsAt, FoldsTo}
use Rattle.job.specs.Limits.{POINTS}
use Rattle.marks.specs.Marks.{BITS, WORDS, bit, with_bit, marked, with_mark, with_bits, all_below}
use Rattle.marks.proofs.Bits.{bit_set, low_is, or_assoc}

-- ---- the code's shifts

-- one, shifted by less than a word's bits
pub shifted : (i : ℕ) → i < BITS → 1 * 2 ^ i % 2 ^ BITS ≡ 2 ^ i
shifted i h = shl_exact {a = 1} 1 i BITS (omega arith) (omega arith) ∙ one-mul (2 ^ i)

pub with_bit_is : (w i : ℕ) → i < BITS → bit_or w (1 * 2 ^ i % 2 ^ BITS) ≡ with_bit w i
unfolding with_bit
with_bit_is w i h = rw (shifted i h)

pub low_set_is : (w n : ℕ) → n < BITS → eqb (bit_and w (1 * 2 ^ n % 2 ^ BITS - 1)) (1 * 2 ^ n % 2 ^ BITS - 1) ≡ all_below n (bit w)
low_set_is w n h = rw (shifted n h, and_mask w n) (low_is w n)

-- a word is below 2 ^ BITS
pub full_is : (w : ℕ) → w < 2 ^ BITS → eqb w (2 ^ BITS - 1) ≡ all_below BITS (bit w)
full_is w h = ap (λ (x : ℕ). eqb x (2 ^ BITS - 1)) (sym (mod-eq_of_lt h)) ∙ low_is w BITS

-- ---- every number below n

and_false : (b : Bool) → (b && false) ≡ false
and_false true = refl
and_false false = refl

and_true : (b : Bool) → b ≡ (b && true)
and_true true = refl
and_true false = refl

and_assoc : (a b c : Bool) → ((a && b) && c) ≡ (a && (b && c))
and_assoc true b c = refl
and_assoc false b c = refl

module _ (q : ℕ → Bool) where
  all_split : (n m : ℕ) → all_below (n + m) q ≡ (all_below n q && all_below m (λ i. q (n + i)))
  unfolding all_below
  all_split n zero = ap (λ (x : ℕ). all_below x q) (add-zero n) ∙ and_true (all_below n q)
  all_split n (suc m) =
      ap (λ (x : ℕ). all_below x q) (add-suc n m)
      ∙ ap (λ (b : Bool). b && q (n + m)) (all_split n m)
      ∙ and_assoc (all_below n q) (all_below m (λ i. q (n + i))) (q (n + m))

  all_stays : (n m : ℕ) → n ≤ m → all_below n q ≡ false → all_below m q ≡ false
  all_stays n m h e =
      let d : m ≡ n + (m - n) = omega arith in
      ap (λ (x : ℕ). all_below x q) d ∙ all_split n (m - n) ∙ ap (λ (b : Bool). b && all_below (m - n) (λ i. q (n + i))) e

  -- two tests that agree below n
  pub all_same : (p : ℕ → Bool) (n : ℕ) → ((i : ℕ) → i < n → p i ≡ q i) → all_below n p ≡ all_below n q
  unfolding all_below
  all_same p zero h = refl
  all_same p (suc n) h = rw (all_same p n (λ i l. h i (omega arith)), h n (omega arith))

-- a word that has all its bits, and one that lacks one
abbrev pub full_word : ℕ → Type 0
full_word w = all_below BITS (bit w) ≡ true

abbrev pub bare_word : ℕ → Type 0
bare_word w = all_below BITS (bit w) ≡ false

-- ---- marks

pub none_marked : (k : ℕ) → k < POINTS → marked (replicate WORDS 0) k ≡ false
unfolding marked bit
none_marked k h = rw (get_or-replicate {A = ℕ} WORDS (k / BITS) 0 0 (omega arith), zero-div (2 ^ (k % BITS)))

module _ (ws : List ℕ) where
  in_word : (j i : ℕ) → i < BITS → marked ws (j * BITS + i) ≡ bit (get_or ws j 0) i
  unfolding marked
  in_word j i h = rw (digits_div j h, digits_mod j h)

  -- the words below j, and m bits of word j
  block : (j m : ℕ) → m ≤ BITS → all_below (j * BITS + m) (marked ws) ≡ (all_below (j * BITS) (marked ws) && all_below m (bit (get_or ws j 0)))
  block j m h =
      all_split (marked ws) (j * BITS) m
      ∙ ap (λ (b : Bool). all_below (j * BITS) (marked ws) && b) (all_same (bit (get_or ws j 0)) (λ i. marked ws (j * BITS + i)) m (λ i l. in_word j i (omega arith)))

  pub length_with : (j b : ℕ) → length (with_bits ws j b) ≡ length ws
  unfolding with_bits
  length_with j b = length-set ws j (bit_or (get_or ws j 0) b)

  -- point i marked too
  pub marked_with : (i k : ℕ) → k / BITS < length ws → marked (with_mark ws i) k ≡ (eqb k i || marked ws k)
  unfolding marked with_bits with_bit
  marked_with i k h = by (ℕ_discrete (k / BITS) (i / BITS))
    where
      by : Dec (k / BITS ≡ i / BITS) → bit (get_or (set ws (i / BITS) (bit_or (get_or ws (i / BITS) 0) (2 ^ (i % BITS)))) (k / BITS) 0) (k % BITS) ≡ (eqb k i || bit (get_or ws (k / BITS) 0) (k % BITS))
      by (yes e) =
          rw (e, get_or-set_same ws (i / BITS) (bit_or (get_or ws (i / BITS) 0) (2 ^ (i % BITS))) 0 (omega arith))
          (bit_set (get_or ws (i / BITS) 0) (i % BITS) (k % BITS) ∙ ap (λ (b : Bool). b || bit (get_or ws (i / BITS) 0) (k % BITS)) (same (ℕ_discrete k i)))
        where
          same : Dec (k ≡ i) → eqb (k % BITS) (i % BITS) ≡ eqb k i
          same (yes g) = rw g (eq-eqb (i % BITS) (i % BITS) refl ∙ sym (eq-eqb i i refl))
          same (no g) = ne_eqb (k % BITS) (i % BITS) (λ x. g (omega arith)) ∙ sym (ne_eqb k i g)
      by (no d) =
          rw (get_or-set_other ws (i / BITS) (k / BITS) (bit_or (get_or ws (i / BITS) 0) (2 ^ (i % BITS))) 0 d, ne_eqb k i (λ e. d (ap (λ (x : ℕ). x / BITS) e)))

  pub set_is : (i b : ℕ) (vs : List ℕ) → b ≡ with_bit 0 (i % BITS) → vs ≡ with_bits ws (i / BITS) b → vs ≡ with_mark ws i
  unfolding with_bit
  set_is i b vs e f = f ∙ ap (with_bits ws (i / BITS)) e

  -- no bits change nothing, and bits after bits are both
  pub no_bits : (j : ℕ) → with_bits ws j 0 ≡ ws
  unfolding with_bits
  no_bits j = rw (or_zero_r (get_or ws j 0)) (set-get_or ws j 0)

  pub bits_more : (j b c : ℕ) → with_bits (with_bits ws j b) j c ≡ with_bits ws j (bit_or b c)
  unfolding with_bits
  bits_more j b c = by (dec_lt j (length ws))
    where
      by : Dec (j < length ws) → set (set ws j (bit_or (get_or ws j 0) b)) j (bit_or (get_or (set ws j (bit_or (get_or ws j 0) b)) j 0) c) ≡ set ws j (bit_or (get_or ws j 0) (bit_or b c))
      by (yes h) = rw (get_or-set_same ws j (bit_or (get_or ws j 0) b) 0 h, set-set ws j (bit_or (get_or ws j 0) b) (bit_or (bit_or (get_or ws j 0) b) c), or_assoc (get_or ws j 0) b c)
      by (no h) = rw (set_out ws j (bit_or (get_or ws j 0) b) (omega arith), set_out ws j (bit_or (get_or ws j 0) c) (omega arith), set_out ws j (bit_or (get_or ws j 0) (bit_or b c)) (omega arith))

  module _ (long : length ws ≡ WORDS) where
    pub past_words : (j b : ℕ) → WORDS ≤ j → ws ≡ with_bits ws j b
    unfolding with_bits
    past_words j b h = sym (set_out ws j (bit_or (get_or ws j 0) b) (omega arith))

    none_past : (i : ℕ) → POINTS ≤ i → marked ws i ≡ false
    unfolding marked bit
    none_past i h = rw (get_or-eq_default ws 0 {n = i / BITS} (omega arith), zero-div (2 ^ (i % BITS)))

    pub past_count : (count : ℕ) → POINTS < count → false ≡ all_below count (marked ws)
    unfolding all_below
    past_count count h = sym (all_stays (marked ws) (suc POINTS) count h (rw (none_past POINTS (omega arith)) (and_false (all_below POINTS (marked ws)))))

  -- the first n words have all their bits
  words_full : (n : ℕ) → AllWithin full_word ws 0 n → all_below (n * BITS) (marked ws) ≡ true
  unfolding all_below
  words_full zero h = refl
  words_full (suc n) h =
      let d : suc n * BITS ≡ n * BITS + BITS = omega arith in
      ap (λ (x : ℕ). all_below x (marked ws)) d
      ∙ block n BITS (omega arith)
      ∙ rw (words_full n (λ k e l m. h k e l (omega arith)), h n 0 (omega arith) (omega arith))

  -- word k lacks a bit
  word_bare : (n k : ℕ) → k < n → bare_word (get_or ws k 0) → all_below (n * BITS) (marked ws) ≡ false
  word_bare n k l h =
      let d : suc k * BITS ≡ k * BITS + BITS = omega arith in
      all_stays (marked ws) (suc k * BITS) (n * BITS) (omega arith)
      (ap (λ (x : ℕ). all_below x (marked ws)) d ∙ block k BITS (omega arith) ∙ rw h (and_false (all_below (k * BITS) (marked ws))))

  -- what `all` over the first n words answers
  pub words_are : (n : ℕ) → n ≤ length ws → (r : Bool)
      → MatchBool r (AllWithin full_word (take n ws) 0 (length (take n ws))) ((k : ℕ) × (k < length (take n ws)) × HoldsAt bare_word (take n ws) k)
      → r ≡ all_below (n * BITS) (marked ws)
  words_are n h true a =
      sym (words_full n (λ k e l m. subst full_word (get_or-take n ws k e m) (a k e l (omega (arith, length-take n ws)))))
  words_are n h false a =
      let l : a.0 < n = omega (arith, length-take n ws) in
      sym (word_bare n a.0 l (subst bare_word (get_or-take n ws a.0 0 l) (a.2 0)))

  -- the same by the call's clause `ran`, that the iterator is over the first n words, and what the closure answers
  pub words_by_all : {F : Type 0} {g : Mut F (Bor ℕ × Unit {0}) Bool} {s : Iter ℕ} (n : ℕ) (u : Iter ℕ) (f : F) (r : Bool) → n ≤ length ws
      → (xs : List (Bor ℕ)) × (o : Option (Bor ℕ)) × (j : F) × YieldsThen fronts s xs o u × FoldsTo (λ p x q. Called g p (x, tt) true q) f xs j × MatchOption o (r ≡ true) (λ x. (r ≡ false) × ((h : F) × Called g j (x, tt) false h))
      → iter_rest s ≡ take n ws
      → ((x : Bor ℕ) (b : Bool) (q : F) → Called g f (x, tt) b q → (q ≡ f) × (b ≡ all_below BITS (bit x.now)))
      → r ≡ all_below (n * BITS) (marked ws)
  words_by_all n u f r h a e k =
      words_are n h r (cases_from_all u f r full_word bare_word a (YieldsList-from_slice (take n ws) e) (λ x q c. ((k x true q c).0, sym (k x true q c).1)) (λ x q c. sym (k x false q c).1))

  module _ (count : ℕ) (r : Bool) (e : r ≡ all_below (count / BITS * BITS) (marked ws)) where
    pub words_bare : r ≡ false → false ≡ all_below count (marked ws)
    words_bare h = sym (all_stays (marked ws) (count / BITS * BITS) count (omega arith) (sym e ∙ h))

    pub no_rest : r ≡ true → count % BITS ≡ 0 → true ≡ all_below count (marked ws)
    no_rest h z = let d : count / BITS * BITS ≡ count = omega arith in sym h ∙ e ∙ ap (λ (x : ℕ). all_below x (marked ws)) d

    pub rest_is : r ≡ true → (b : Bool) → b ≡ all_below (count % BITS) (bit (get_or ws (count / BITS) 0)) → b ≡ all_below count (marked ws)
    rest_is h b a =
        let d : count / BITS * BITS + count % BITS ≡ count = omega arith in
        a
        ∙ sym (ap (λ (b : Bool). b && all_below (count % BITS) (bit (get_or ws (count / BITS) 0))) (sym e ∙ h))
        ∙ sym (block (count / BITS) (count % BITS) (omega arith))
        ∙ ap (λ (x : ℕ). all_below x (marked ws)) d
