-- What a change of links does, by next and prev before it (n, p) and after it (n', p'): a point taken out, a point put in, the nexts of two points exchanged.
use Rattle.std.specs.Prelude.{ℕ, ◌<◌, ◌≡◌, ◌≢◌}

-- op is taken out
pub record Unlinked (n p n' p' : ℕ → ℕ) (op : ℕ) : Type 0 where
  pub next_same : n' (p op) ≡ n op
  pub next_else : (i : ℕ) → i ≢ p op → n' i ≡ n i
  pub prev_same : p' (n op) ≡ p op
  pub prev_else : (i : ℕ) → i ≢ n op → p' i ≡ p i

-- k is put in before op. (After op is before op's next.)
pub record Inserted (n p n' p' : ℕ → ℕ) (k op : ℕ) : Type 0 where
  pub next_new : n' k ≡ op
  pub next_same : n' (p op) ≡ k
  pub next_else : (i : ℕ) → i ≢ k → i ≢ p op → n' i ≡ n i
  pub prev_new : p' k ≡ p op
  pub prev_same : p' op ≡ k
  pub prev_else : (i : ℕ) → i ≢ k → i ≢ op → p' i ≡ p i

-- the nexts of a and b are exchanged, and prev with them: one ring becomes two, or two become one. (A join of op1 and op2 is this of op1 and prev of op2.)
pub record Crossed (n p n' p' : ℕ → ℕ) (a b : ℕ) : Type 0 where
  pub next_a : n' a ≡ n b
  pub next_b : n' b ≡ n a
  pub prev_a : p' (n b) ≡ a
  pub prev_b : p' (n a) ≡ b
  pub next_else : (i : ℕ) → i ≢ a → i ≢ b → n' i ≡ n i
  pub prev_else : (i : ℕ) → i ≢ n a → i ≢ n b → p' i ≡ p i

-- prev is the converse of next, below c: what the tests of links (rows 5 and 6) find
pub record Mutual (n p : ℕ → ℕ) (c : ℕ) : Type 0 where
  pub next_low : (k : ℕ) → k < c → n k < c
  pub prev_next : (k : ℕ) → k < c → p (n k) ≡ k
