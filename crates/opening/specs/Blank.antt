-- What the code that clears a work space asks of its words.
use Rattle.std.specs.Prelude.{ℕ, ◌+◌, ◌≡◌, Bool, true, List, ◌++◌, drop, replicate}

-- how many words are looked at together
abbrev pub CHUNK : ℕ
CHUNK = 128

-- the first n words are zero
pub record ZeroTo (n : ℕ) (t : List ℕ) : Type 0 where
  pub is : t ≡ replicate n 0 ++ drop n t

-- the block at a: if the answer is yes, zeros go on to its end
pub record IsBlank (a : ℕ) (t : List ℕ) (r : Bool) : Type 0 where
  pub blank : r ≡ true → ZeroTo (a + CHUNK) t
