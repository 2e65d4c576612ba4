-- Past the end: a byte is 0, a number is 0, nothing is left to read, nothing is stored.
use mathlib.Core.Path.{◌≡◌, sym, ◌∙◌}
use mathlib.Core.List.{List}
use Prim.Native.Nat.{ℕ, ◌+◌, ◌<◌, ◌≤◌}
use native.Mathlib.Omega.{arith}
use lib.ListN.{length, get_or, take, drop, set, drop_of_length-le, get_or-eq_default}
use lib.Seq.{take_all, drop-length, set_out}
use Rattle.numbers.specs.Written.{Number, Part}

pub byte_past : (s : List ℕ) (at : ℕ) → length s ≤ at → 0 ≡ get_or s at 0
byte_past s at h = sym (get_or-eq_default s 0 h)

pub number_past : (s : List ℕ) (at : ℕ) → length s ≤ at → Number 2 at s 0
number_past s at h =
    let a : get_or s at 0 ≡ 0 = get_or-eq_default s 0 h in
    let b : get_or s (at + 1) 0 ≡ 0 = get_or-eq_default s 0 (omega arith) in
    record { is = omega (arith, a, b); small = omega arith }

pub rest_past : (s r : List ℕ) (at : ℕ) → Part (length s) s r → length s < at → r ≡ drop at s
rest_past s r at p h = p.is ∙ drop-length s ∙ sym (drop_of_length-le s {i = at} (omega arith))

pub first_all : (s : List ℕ) (n : ℕ) → length s ≤ n → s ≡ take n s
first_all s n h = sym (take_all n s h)

pub put_past : (s : List ℕ) (at v : ℕ) → length s ≤ at → s ≡ set s at v
put_past s at v h = sym (set_out s at v h)
