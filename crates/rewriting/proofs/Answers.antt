-- The answers of rewriting, by the statements of OneWay.
use Prim.Native.Nat.{ℕ, ◌≤◌, ◌<◌, min}
use mathlib.Core.Path.{◌≡◌, refl, sym, ap, ◌∙◌, subst}
use mathlib.Core.List.{List}
use mathlib.Core.Option.{Option, none, some}
use native.Mathlib.Omega.{arith}
use native.Mathlib.Decide.{dec_lt}
use lib.ListN.{length, take, replicate}
use lib.Seq.{take-take}
use borrow.Author.Tests.{lt-ltb, le-ltb, le-leb, lt-leb}
use lib.Seq.{length-take-le}
use Rattle.std.proofs.Common.{Ok, Err}
use Rattle.rings.specs.Circle.{omap}
use Rattle.job.specs.Limits as limit
use Rattle.job.specs.declared.refusal.Refusal.{Refusal}
use Rattle.job.specs.declared.refusal.Refusal.TheVariants.{Full}
use Rattle.store.specs.Field.{LENGTH}
use Rattle.reading.specs.Fill.{ReadEnd, end}
use Rattle.reading.specs.Read.{read_of}
use Rattle.accepting.specs.Accept.{accept_of}
use Rattle.opening.specs.Open.{JOIN_POINTS}
use Rattle.paths.specs.Tray.{padded}
use Rattle.prefix.specs.Decides.{LONGEST, DECIDES}
use Rattle.prefix.proofs.Alike.{fill_same}
use Rattle.drawing.specs.Drawing.{Drawing, drawing_of, drawn_from, drawing_in}
use Rattle.drawing.proofs.Spaces.{any_space}
use Rattle.encoding.specs.Encode.{encode}
use Rattle.encoding.specs.OneWay.{rewritten}
use Rattle.encoding.proofs.Theorem.{one_way}
use Rattle.std.specs.Prelude.{Result}
use Rattle.rewriting.specs.Rewrite.{Rewrote, rewrote, not_rewritten, written_in, rewrite_from, rewrite_of}
use Rattle.rewriting.specs.Answers.{BytesWithin, Rewrites}

-- what rows 1 to 8 leave of a job, in n words
abbrev read_in : List ℕ → ℕ → ReadEnd
read_in bytes n = accept_of bytes (replicate n 0) (replicate limit.SEGMENTS 0) (replicate JOIN_POINTS 0)

long : (bytes : List ℕ) (n m : ℕ) → LENGTH ≤ n → rewrite_of bytes n m ≡ rewrite_from (read_in bytes n) n m
unfolding rewrite_of
long bytes n m h = rw (le-ltb n LENGTH h)

by_drawing : (T : ReadEnd) (d : Drawing) → drawn_from T ≡ some d → (n m : ℕ) → rewrite_from T n m ≡ written_in (encode d) n m
by_drawing (end (Ok j) w ss js) d e n m = let f : drawing_of w ss j.segments js j.joins ≡ d = cc (e) in ap (λ (x : Drawing). written_in (encode x) n m) f
by_drawing (end (Err x) w ss js) d e n m = absurd (let z : ◌≡◌ {A = ℕ} 0 1 = cc in omega arith)

by_refusal : (T : ReadEnd) → drawn_from T ≡ none → (n : ℕ) → (x : Refusal) × ((m : ℕ) → rewrite_from T n m ≡ not_rewritten x n m)
by_refusal (end (Ok j) w ss js) e n = absurd (let z : ◌≡◌ {A = ℕ} 0 1 = cc in omega arith)
by_refusal (end (Err x) w ss js) e n = (x, λ m. refl)

module _ (bytes : List ℕ) where
  short : (n m : ℕ) → n < LENGTH → rewrite_of bytes n m ≡ not_rewritten Full n m
  unfolding rewrite_of
  short n m h = rw (lt-ltb n LENGTH h)

  accepted : (x : List ℕ) → rewritten bytes ≡ some x → (n m : ℕ) → LENGTH ≤ n → rewrite_of bytes n m ≡ written_in x n m
  unfolding rewritten
  accepted x e n m h = go (drawing_in bytes) refl e
    where
      go : (o : Option Drawing) → drawing_in bytes ≡ o → omap encode o ≡ some x → rewrite_of bytes n m ≡ written_in x n m
      go (some d) f g =
          let z : encode d ≡ x = cc (g) in
          long bytes n m h ∙ by_drawing (read_in bytes n) d (any_space bytes n (omega arith) ∙ f) n m ∙ ap (λ (b : List ℕ). written_in b n m) z
      go none f g = absurd (let z : ◌≡◌ {A = ℕ} 0 1 = cc in omega arith)

  others : rewritten bytes ≡ none → (n : ℕ) → LENGTH ≤ n → (x : Refusal) × ((m : ℕ) → rewrite_of bytes n m ≡ not_rewritten x n m)
  unfolding rewritten
  others e n h = go (drawing_in bytes) refl e
    where
      go : (o : Option Drawing) → drawing_in bytes ≡ o → omap encode o ≡ none → (x : Refusal) × ((m : ℕ) → rewrite_of bytes n m ≡ not_rewritten x n m)
      go (some d) f g = absurd (let z : ◌≡◌ {A = ℕ} 0 1 = cc in omega arith)
      go none f g = let r = by_refusal (read_in bytes n) (any_space bytes n (omega arith) ∙ f) n in (r.0, λ m. long bytes n m h ∙ r.1 m)

  suffices : (x : List ℕ) → rewritten bytes ≡ some x → (n m : ℕ) → LENGTH ≤ n → LONGEST ≤ m → rewrite_of bytes n m ≡ rewrote (Ok (length x)) (replicate n 0) (padded m x)
  suffices x e n m h l = accepted x e n m h ∙ rw (le-leb (length x) m (omega (arith, one_way.never_longer bytes x e)))

  fits : (n m : ℕ) → BytesWithin (rewrite_of bytes n m).answer (min m LONGEST)
  fits n m = go (dec_lt n LENGTH) (rewritten bytes) refl
    where
      in_tray : (x : List ℕ) → length x ≤ LONGEST → Dec (m < length x) → BytesWithin (written_in x n m).answer (min m LONGEST)
      in_tray x l (yes h) = rw (lt-leb (length x) m h) tt
      in_tray x l (no h) = rw (le-leb (length x) m (omega arith)) (omega arith)

      go : Dec (n < LENGTH) → (o : Option (List ℕ)) → rewritten bytes ≡ o → BytesWithin (rewrite_of bytes n m).answer (min m LONGEST)
      go (yes h) o e = subst (λ (r : Rewrote). BytesWithin r.answer (min m LONGEST)) (sym (short n m h)) tt
      go (no h) (some x) e = subst (λ (r : Rewrote). BytesWithin r.answer (min m LONGEST)) (sym (accepted x e n m (omega arith))) (in_tray x (one_way.never_longer bytes x e) (dec_lt m (length x)))
      go (no h) none e = let r = others e n (omega arith) in subst (λ (q : Rewrote). BytesWithin q.answer (min m LONGEST)) (sym (r.1 m)) tt

  decided : (n m : ℕ) → rewrite_of (take DECIDES bytes) n m ≡ rewrite_of bytes n m
  unfolding rewrite_of accept_of read_of
  decided n m = rw (fill_same (take DECIDES bytes) bytes (take-take DECIDES DECIDES bytes (omega arith)) (replicate n 0) (replicate limit.SEGMENTS 0) (replicate JOIN_POINTS 0))

pub rewrites : Rewrites
rewrites = record { short = short; accepted = accepted; others = others; suffices = suffices; fits = fits; decided = decided }

pub part_length : (a : Result ℕ Refusal) (k : ℕ) (t : List ℕ) → BytesWithin a (length t) → a ≡ Ok k → k ≡ length (take k t)
part_length a k t h e = sym (length-take-le k t (subst (λ (b : Result ℕ Refusal). BytesWithin b (length t)) e h))

-- for callers: an answer's bytes are in the tray that is left, and are no more than the longest job has
module _ (bytes : List ℕ) (n m : ℕ) (a : Result ℕ Refusal) (w t : List ℕ) (e : rewrote a w t ≡ rewrite_of bytes n m) where
  pub in_tray : length t ≡ m → BytesWithin a (length t)
  in_tray h = below a (subst (λ (r : Rewrote). BytesWithin r.answer (min m LONGEST)) (sym e) (rewrites.fits bytes n m))
    where
      below : (b : Result ℕ Refusal) → BytesWithin b (min m LONGEST) → BytesWithin b (length t)
      below (Ok k) f = omega arith
      below (Err x) f = tt

  pub in_longest : BytesWithin a LONGEST
  in_longest = below a (subst (λ (r : Rewrote). BytesWithin r.answer (min m LONGEST)) (sym e) (rewrites.fits bytes n m))
    where
      below : (b : Result ℕ Refusal) → BytesWithin b (min m LONGEST) → BytesWithin b LONGEST
      below (Ok k) f = omega arith
      below (Err x) f = tt
