-- Reading two jobs that differ in the settings byte only: the same fields, the same refusal, and the settings byte carried along.
use Prim.Native.Nat.{ℕ, zero, suc, ◌+◌, ◌≤◌, ◌<◌}
use mathlib.Core.Path.{◌≡◌, refl, sym, ap, ◌∙◌, subst}
use mathlib.Core.Bool.{Bool, true, false, cond, not, ◌&&◌, ◌||◌, true≢false}
use mathlib.Core.List.{List, [], ◌∷◌}
use native.Mathlib.Omega.{arith}
use lib.Dec.{ltb, eqb}
use lib.ListN.{length, get_or, set, drop}
use lib.Seq.{drop-set-lt}
use borrow.Author.Tests.{lt-ltb, eqb-true, ne_eqb}
use Rattle.std.proofs.Common.{Result, Ok, Err}
use Rattle.job.proofs.Accepted.{read_parts}
use Rattle.job.specs.declared.Job.{Job}
use Rattle.job.specs.declared.refusal.Refusal.TheVariants.{Torn, Strange, Crowded}
use Rattle.job.specs.declared.field.Kind.{Kind}
use Rattle.job.specs.declared.field.Kind.TheVariants as kind
use Rattle.job.specs.declared.field.Field.TheVariants.{Settings, Point, Record, Segment, Join}
use Rattle.job.specs.declared.field.Field.{Field}
use Rattle.job.specs.declared.refusal.Refusal.{Refusal}
use Rattle.job.specs.Job.{fresh, past}
use Rattle.job.specs.Field.{HEADER, tag_of, length_of, value_of, kind_of, size_of, field_in, torn_header, strange_tag, torn_value, strange_bits, crowded, body_of, field_of}
use Rattle.reading.specs.Fill.{ReadEnd, end, taken, turn_of, follow, run, fill_of}

-- ---- a field after the first is never the settings

settings_kind : Kind → Bool
settings_kind kind.Settings = true
settings_kind kind.Point = false
settings_kind kind.Record = false
settings_kind kind.Segment = false
settings_kind kind.Join = false

in_kind : (k : Kind) (v : List ℕ) (x : ℕ) → field_in k v ≡ Settings x → settings_kind k ≡ true
unfolding settings_kind
in_kind kind.Settings v x e = refl
in_kind kind.Point v x e = let z : ◌≡◌ {A = ℕ} 0 1 = cc in absurd (omega arith)
in_kind kind.Record v x e = let z : ◌≡◌ {A = ℕ} 0 1 = cc in absurd (omega arith)
in_kind kind.Segment v x e = let z : ◌≡◌ {A = ℕ} 0 1 = cc in absurd (omega arith)
in_kind kind.Join v x e = let z : ◌≡◌ {A = ℕ} 0 1 = cc in absurd (omega arith)

body_kind : (k : Kind) (j : Job) (s : List ℕ) (x n : ℕ) → body_of k j s ≡ Ok (Settings x, n) → settings_kind k ≡ true
unfolding body_of
body_kind k j s x n e = go (torn_value k s) (strange_bits (field_in k (value_of s))) (crowded k j) e
  where
    go : (t u c : Bool) → ◌≡◌ {A = Result (Field × ℕ) Refusal} (cond t (Err Torn) (cond u (Err Strange) (cond c (Err Crowded) (Ok (field_in k (value_of s), HEADER + size_of k))))) (Ok (Settings x, n)) → settings_kind k ≡ true
    go true u c e = let z : ◌≡◌ {A = ℕ} 0 1 = cc in absurd (omega arith)
    go false true c e = let z : ◌≡◌ {A = ℕ} 0 1 = cc in absurd (omega arith)
    go false false true e = let z : ◌≡◌ {A = ℕ} 0 1 = cc in absurd (omega arith)
    go false false false e = in_kind k (value_of s) x (read_parts (field_in k (value_of s)) (Settings x) (HEADER + size_of k) n e).0

kind_tag : (tag : ℕ) → settings_kind (kind_of tag) ≡ true → eqb tag 1 ≡ true
unfolding settings_kind
kind_tag tag e = go (eqb tag 1) (eqb tag 2) (eqb tag 3) (eqb tag 4) e
  where
    go : (a b c d : Bool) → settings_kind (cond a kind.Settings (cond b kind.Point (cond c kind.Record (cond d kind.Segment kind.Join)))) ≡ true → a ≡ true
    go true b c d e = refl
    go false true c d e = absurd (true≢false (sym e))
    go false false true d e = absurd (true≢false (sym e))
    go false false false true e = absurd (true≢false (sym e))
    go false false false false e = absurd (true≢false (sym e))

later_strange : (last tag : ℕ) → 0 < last → eqb tag 1 ≡ true → strange_tag last tag ≡ true
later_strange last tag l e = rw (lt-ltb 0 last l, e) (go (eqb tag 0) (ltb 5 tag) (ltb tag last) (eqb last 0))
  where
    go : (a b c d : Bool) → ((a || b) || c || (d && not true) || (true && true)) ≡ true
    go true b c d = refl
    go false true c d = refl
    go false false true d = refl
    go false false false true = refl
    go false false false false = refl

no_settings : (j : Job) (s : List ℕ) → 0 < j.last → (x n : ℕ) → field_of j s ≡ Ok (Settings x, n) → ⊥
unfolding field_of
no_settings j s l x n e = go (torn_header s) (strange_tag j.last (tag_of s)) refl e
  where
    go : (t u : Bool) → strange_tag j.last (tag_of s) ≡ u → ◌≡◌ {A = Result (Field × ℕ) Refusal} (cond t (Err Torn) (cond u (Err Strange) (body_of (kind_of (tag_of s)) j s))) (Ok (Settings x, n)) → ⊥
    go true u h e = let z : ◌≡◌ {A = ℕ} 0 1 = cc in omega arith
    go false true h e = let z : ◌≡◌ {A = ℕ} 0 1 = cc in omega arith
    go false false h e = true≢false (sym (later_strange j.last (tag_of s) l (kind_tag (tag_of s) (body_kind (kind_of (tag_of s)) j s x n e))) ∙ h)

is_refused : Result (Field × ℕ) Refusal → Bool
is_refused (Ok (f, n)) = false
is_refused (Err r) = true

-- under four bytes, or with another tag than the settings', the first field is refused
short_body : (k : Kind) (j : Job) (s : List ℕ) → length s ≡ 3 → is_refused (body_of k j s) ≡ true
unfolding is_refused body_of
short_body k j s e = rw (past_end k) (go (eqb (length_of s) (size_of k)))
  where
    size_of_lem : (k : Kind) → 0 < size_of k
    size_of_lem kind.Settings = omega arith
    size_of_lem kind.Point = omega arith
    size_of_lem kind.Record = omega arith
    size_of_lem kind.Segment = omega arith
    size_of_lem kind.Join = omega arith

    past_end : (k : Kind) → ltb (length s) (HEADER + size_of k) ≡ true
    past_end k = lt-ltb (length s) (HEADER + size_of k) (omega (arith, size_of_lem k))

    go : (t : Bool) → is_refused (cond (not t || true) (Err Torn) (cond (strange_bits (field_in k (value_of s))) (Err Strange) (cond (crowded k j) (Err Crowded) (Ok (field_in k (value_of s), HEADER + size_of k))))) ≡ true
    go true = refl
    go false = refl

short_field : (j : Job) (s : List ℕ) → length s ≡ 3 → is_refused (field_of j s) ≡ true
unfolding is_refused field_of
short_field j s e = go (torn_header s) (strange_tag j.last (tag_of s)) (short_body (kind_of (tag_of s)) j s e)
  where
    go : (t u : Bool) → is_refused (body_of (kind_of (tag_of s)) j s) ≡ true → is_refused (cond t (Err Torn) (cond u (Err Strange) (body_of (kind_of (tag_of s)) j s))) ≡ true
    go true u h = refl
    go false true h = refl
    go false false h = h

torn_field : (j : Job) (s : List ℕ) → length s < 3 → is_refused (field_of j s) ≡ true
unfolding is_refused field_of
torn_field j s l = rw (lt-ltb (length s) 3 l)

-- a job that is not empty begins with its first field
filled : (p w ss js : List ℕ) → 0 < length p → fill_of p w ss js ≡ follow (run (length p) p) (taken (field_of fresh p) fresh w ss js)
unfolding fill_of run turn_of
filled p w ss js l = rw (ne_eqb (length p) 0 (λ e. absurd (omega arith)), lt-ltb 0 (length p) l)

-- ---- the same fields with another settings byte

module _ (b : ℕ) where
  abbrev pub with_bits : Job → Job
  with_bits j = record { at = j.at; last = j.last; bits = b; points = j.points; records = j.records; segments = j.segments; joins = j.joins }

  abbrev pub re_read : ReadEnd → ReadEnd
  re_read (end (Ok j) w ss js) = end (Ok (with_bits j)) w ss js
  re_read (end (Err r) w ss js) = end (Err r) w ss js

  body_bits : (k : Kind) (j : Job) (s : List ℕ) → body_of k (with_bits j) s ≡ body_of k j s
  unfolding body_of
  body_bits kind.Settings j s = refl
  body_bits kind.Point j s = refl
  body_bits kind.Record j s = refl
  body_bits kind.Segment j s = refl
  body_bits kind.Join j s = refl

  field_bits : (j : Job) (s : List ℕ) → field_of (with_bits j) s ≡ field_of j s
  unfolding field_of
  field_bits j s = ap (λ (r : Result (Field × ℕ) Refusal). cond (torn_header s) (Err Torn) (cond (strange_tag j.last (tag_of s)) (Err Strange) r)) (body_bits (kind_of (tag_of s)) j s)

  either : (t : Bool) (x y : ReadEnd) → cond t (re_read x) (re_read y) ≡ re_read (cond t x y)
  either true x y = refl
  either false x y = refl

  -- two jobs that go on alike after the settings
  module _ (p q : List ℕ) (long : length q ≡ length p) (rest : (n : ℕ) → 4 ≤ n → drop n q ≡ drop n p) where
    Runs : ℕ → Type 0
    Runs k = (j : Job) (w ss js : List ℕ) → 4 ≤ j.at → 0 < j.last → run k q (with_bits j) w ss js ≡ re_read (run k p j w ss js)

    step : (k : ℕ) → Runs k → (r : Result (Field × ℕ) Refusal) (j : Job) (w ss js : List ℕ) → 4 ≤ j.at → ((x n : ℕ) → r ≡ Ok (Settings x, n) → ⊥) → follow (run k q) (taken r (with_bits j) w ss js) ≡ re_read (follow (run k p) (taken r j w ss js))
    unfolding Runs
    step k h (Err r) j w ss js l never = refl
    step k h (Ok (Settings x, n)) j w ss js l never = absurd (never x n refl)
    step k h (Ok (Point x y next prev rec z, n)) j w ss js l never = h (past (Point x y next prev rec z) n j) _ ss js (omega arith) (omega arith)
    step k h (Ok (Record flags owner first, n)) j w ss js l never = h (past (Record flags owner first) n j) _ ss js (omega arith) (omega arith)
    step k h (Ok (Segment x, n)) j w ss js l never = h (past (Segment x) n j) w _ js (omega arith) (omega arith)
    step k h (Ok (Join x y, n)) j w ss js l never = h (past (Join x y) n j) w ss _ (omega arith) (omega arith)

    runs : (k : ℕ) → Runs k
    unfolding Runs run turn_of
    runs zero j w ss js l m = refl
    runs (suc k) j w ss js l m =
        ap (λ (n : ℕ). cond (ltb j.at n) (follow (run k q) (taken (field_of (with_bits j) (drop j.at q)) (with_bits j) w ss js)) (end (Ok (with_bits j)) w ss js)) long
        ∙ ap (λ (s : List ℕ). cond (ltb j.at (length p)) (follow (run k q) (taken (field_of (with_bits j) s) (with_bits j) w ss js)) (end (Ok (with_bits j)) w ss js)) (rest j.at l)
        ∙ ap (λ (r : Result (Field × ℕ) Refusal). cond (ltb j.at (length p)) (follow (run k q) (taken r (with_bits j) w ss js)) (end (Ok (with_bits j)) w ss js)) (field_bits j (drop j.at p))
        ∙ ap (λ (e : ReadEnd). cond (ltb j.at (length p)) e (end (Ok (with_bits j)) w ss js)) (step k (runs k) (field_of j (drop j.at p)) j w ss js l (no_settings j (drop j.at p) m))
        ∙ either (ltb j.at (length p)) (follow (run k p) (taken (field_of j (drop j.at p)) j w ss js)) (end (Ok j) w ss js)

  -- ---- the first field

  -- a refusal is the same
  refuses : (f : Job → List ℕ → List ℕ → List ℕ → ReadEnd) (r : Result (Field × ℕ) Refusal) (j : Job) (w ss js : List ℕ) → is_refused r ≡ true → follow f (taken r j w ss js) ≡ re_read (follow f (taken r j w ss js))
  unfolding is_refused
  refuses f (Err r) j w ss js e = refl
  refuses f (Ok (x, n)) j w ss js e = absurd (true≢false (sym e))

  short_job : (p w ss js : List ℕ) → 0 < length p → is_refused (field_of fresh p) ≡ true → fill_of p w ss js ≡ re_read (fill_of p w ss js)
  short_job p w ss js l e = filled p w ss js l ∙ refuses (run (length p) p) (field_of fresh p) fresh w ss js e ∙ ap re_read (sym (filled p w ss js l))

  module _ (b1 b2 b3 : ℕ) (r : List ℕ) (strange : ltb 3 b ≡ ltb 3 b3) (k : ℕ) (w ss js : List ℕ) where
    same_rest : (b0 n : ℕ) → 4 ≤ n → drop n (b0 ∷ b1 ∷ b2 ∷ b ∷ r) ≡ drop n (b0 ∷ b1 ∷ b2 ∷ b3 ∷ r)
    same_rest b0 n l = sym (drop-set-lt n (b0 ∷ b1 ∷ b2 ∷ b ∷ r) 3 b3 (omega arith))

    -- the settings
    tagged : follow (run k (1 ∷ b1 ∷ b2 ∷ b ∷ r)) (taken (field_of fresh (1 ∷ b1 ∷ b2 ∷ b ∷ r)) fresh w ss js) ≡ re_read (follow (run k (1 ∷ b1 ∷ b2 ∷ b3 ∷ r)) (taken (field_of fresh (1 ∷ b1 ∷ b2 ∷ b3 ∷ r)) fresh w ss js))
    unfolding field_of body_of Runs
    tagged = go (torn_header (1 ∷ b1 ∷ b2 ∷ b ∷ r)) (torn_value kind.Settings (1 ∷ b1 ∷ b2 ∷ b ∷ r)) (ltb 3 b) (ltb 3 b3) strange
      where
        go : (t u x y : Bool) → x ≡ y → follow (run k (1 ∷ b1 ∷ b2 ∷ b ∷ r)) (taken (cond t (Err Torn) (cond u (Err Torn) (cond x (Err Strange) (Ok (Settings b, 4))))) fresh w ss js)
            ≡ re_read (follow (run k (1 ∷ b1 ∷ b2 ∷ b3 ∷ r)) (taken (cond t (Err Torn) (cond u (Err Torn) (cond y (Err Strange) (Ok (Settings b3, 4))))) fresh w ss js))
        go true u x y e = refl
        go false true x y e = refl
        go false false true true e = refl
        go false false true false e = absurd (true≢false e)
        go false false false true e = absurd (true≢false (sym e))
        go false false false false e = runs (1 ∷ b1 ∷ b2 ∷ b3 ∷ r) (1 ∷ b1 ∷ b2 ∷ b ∷ r) refl (same_rest 1) k (past (Settings b3) 4 fresh) w ss js (omega arith) (omega arith)

    -- any other tag
    untagged : (b0 : ℕ) → eqb b0 1 ≡ false → follow (run k (b0 ∷ b1 ∷ b2 ∷ b ∷ r)) (taken (field_of fresh (b0 ∷ b1 ∷ b2 ∷ b ∷ r)) fresh w ss js) ≡ re_read (follow (run k (b0 ∷ b1 ∷ b2 ∷ b3 ∷ r)) (taken (field_of fresh (b0 ∷ b1 ∷ b2 ∷ b3 ∷ r)) fresh w ss js))
    unfolding field_of
    untagged b0 e = go (torn_header (b0 ∷ b1 ∷ b2 ∷ b ∷ r)) (strange_tag 0 b0) (misplaced e)
      where
        misplaced : eqb b0 1 ≡ false → strange_tag 0 b0 ≡ true
        misplaced e = rw e (both (eqb b0 0) (ltb 5 b0) (ltb b0 0))
          where
            both : (x y z : Bool) → ((x || y) || z || (true && not false) || (false && false)) ≡ true
            both true y z = refl
            both false true z = refl
            both false false true = refl
            both false false false = refl

        go : (t u : Bool) → u ≡ true → follow (run k (b0 ∷ b1 ∷ b2 ∷ b ∷ r)) (taken (cond t (Err Torn) (cond u (Err Strange) (body_of (kind_of b0) fresh (b0 ∷ b1 ∷ b2 ∷ b ∷ r)))) fresh w ss js)
            ≡ re_read (follow (run k (b0 ∷ b1 ∷ b2 ∷ b3 ∷ r)) (taken (cond t (Err Torn) (cond u (Err Strange) (body_of (kind_of b0) fresh (b0 ∷ b1 ∷ b2 ∷ b3 ∷ r)))) fresh w ss js))
        go true u e = refl
        go false true e = refl
        go false false e = absurd (true≢false (sym e))

    first_field : (b0 : ℕ) → follow (run k (b0 ∷ b1 ∷ b2 ∷ b ∷ r)) (taken (field_of fresh (b0 ∷ b1 ∷ b2 ∷ b ∷ r)) fresh w ss js) ≡ re_read (follow (run k (b0 ∷ b1 ∷ b2 ∷ b3 ∷ r)) (taken (field_of fresh (b0 ∷ b1 ∷ b2 ∷ b3 ∷ r)) fresh w ss js))
    first_field b0 = go (eqb b0 1) refl
      where
        go : (t : Bool) → eqb b0 1 ≡ t → follow (run k (b0 ∷ b1 ∷ b2 ∷ b ∷ r)) (taken (field_of fresh (b0 ∷ b1 ∷ b2 ∷ b ∷ r)) fresh w ss js) ≡ re_read (follow (run k (b0 ∷ b1 ∷ b2 ∷ b3 ∷ r)) (taken (field_of fresh (b0 ∷ b1 ∷ b2 ∷ b3 ∷ r)) fresh w ss js))
        go true e = subst (λ (a : ℕ). follow (run k (a ∷ b1 ∷ b2 ∷ b ∷ r)) (taken (field_of fresh (a ∷ b1 ∷ b2 ∷ b ∷ r)) fresh w ss js) ≡ re_read (follow (run k (a ∷ b1 ∷ b2 ∷ b3 ∷ r)) (taken (field_of fresh (a ∷ b1 ∷ b2 ∷ b3 ∷ r)) fresh w ss js))) (sym (eqb-true b0 1 e)) tagged
        go false e = untagged b0 e

  -- the whole job
  pub fill_bits : (p w ss js : List ℕ) → ltb 3 b ≡ ltb 3 (get_or p 3 0) → fill_of (set p 3 b) w ss js ≡ re_read (fill_of p w ss js)
  fill_bits [] w ss js e = unfold fill_of in refl
  fill_bits (b0 ∷ []) w ss js e = short_job (b0 ∷ []) w ss js (omega arith) (torn_field fresh (b0 ∷ []) (omega arith))
  fill_bits (b0 ∷ b1 ∷ []) w ss js e = short_job (b0 ∷ b1 ∷ []) w ss js (omega arith) (torn_field fresh (b0 ∷ b1 ∷ []) (omega arith))
  fill_bits (b0 ∷ b1 ∷ b2 ∷ []) w ss js e = short_job (b0 ∷ b1 ∷ b2 ∷ []) w ss js (omega arith) (short_field fresh (b0 ∷ b1 ∷ b2 ∷ []) refl)
  fill_bits (b0 ∷ b1 ∷ b2 ∷ b3 ∷ r) w ss js e =
      filled (b0 ∷ b1 ∷ b2 ∷ b ∷ r) w ss js (omega arith)
      ∙ first_field b1 b2 b3 r e (length (b0 ∷ b1 ∷ b2 ∷ b3 ∷ r)) w ss js b0
      ∙ ap re_read (sym (filled (b0 ∷ b1 ∷ b2 ∷ b3 ∷ r) w ss js (omega arith)))
