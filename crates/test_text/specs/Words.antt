-- Words and numbers of a test program's input.
use Rattle.std.specs.Prelude.{ℕ, zero, suc, ◌+◌, ◌*◌, ◌%◌, min, cond, List, ltb, leb, get_or}
use Rattle.test_text.specs.Places.{FAR}

-- no word or line has so many bytes
abbrev pub WORD : ℕ
WORD = 100000

-- digits that a number has at most
abbrev pub DIGITS : ℕ
DIGITS = 16

-- the next place of a byte that is at most `stop`, at most n places on
unfoldable pub end_of : ℕ → ℕ → List ℕ → ℕ → ℕ
end_of stop zero s at = at
end_of stop (suc n) s at = cond (leb (get_or s at 0) stop) at (end_of stop n s (min (at + 1) FAR))

-- a number with one digit more; one that has 16 already stays
abbrev pub more_of : ℕ → ℕ → ℕ
more_of v b = cond (ltb v 1000000000000000) (v * 10 + b % 16) v

-- the number v with the digits at a place after it, at most n; 48 to 57 are digits
unfoldable pub digits_at : ℕ → ℕ → List ℕ → ℕ → ℕ
digits_at zero v s at = v
digits_at (suc n) v s at = cond (ltb (get_or s at 0) 48) v (cond (ltb 57 (get_or s at 0)) v (digits_at n (more_of v (get_or s at 0)) s (min (at + 1) FAR)))
