-- Reading ignores what was in the words and lists: each field goes to the same place, whatever stood there.
use mathlib.Core.Path.{◌≡◌, refl, ap, ◌∙◌, sym, subst}
use mathlib.Core.Bool.{Bool, true, false, cond}
use mathlib.Core.List.{List, [], ◌∷◌}
use Prim.Native.Nat.{ℕ, zero, suc, ◌+◌, ◌*◌, ◌<◌}
use native.Mathlib.Omega.{arith}
use native.Mathlib.Decide.{ℕ_discrete}
use lib.Dec.{eqb, ltb}
use lib.ListN.{length, get_or, set, drop, length-set}
use lib.Seq.{get_or-set_same, get_or-set_other}
use borrow.Author.Tests.{eqb-false}
use Rattle.std.proofs.Common.{Result, Ok, Err}
use Rattle.job.specs.Field.{field_of}
use Rattle.job.specs.Job.{fresh, past, Within}
use Rattle.job.proofs.Accepted.{within_fresh, within_past, accepted}
use Rattle.job.specs.declared.Job.{Job}
use Rattle.job.specs.declared.refusal.Refusal.TheVariants.{Strange}
use Rattle.job.specs.declared.field.Field.{Field}
use Rattle.job.specs.declared.field.Field.TheVariants.{Settings, Point, Record, Segment, Join}
use Rattle.job.specs.declared.refusal.Refusal.{Refusal}
use Rattle.store.specs.Field.{PointCol, pt, rc, ct, X, Y, NEXT, PREV, REC, Z, FLAGS, OWNER, FIRST, REASON, SETTINGS, POINTS, RECORDS}
use Rattle.store.specs.Words.{Store, view, Write, write, on_words}
use Rattle.store.specs.Stores.{on_store}
use Rattle.store.proofs.Storing.{view_writes, length_writes}
use Rattle.reading.specs.Fill.{ReadEnd, end, placed, taken, turn_of, follow, run, fill_of, reason_read, record_read}
use Rattle.reading.specs.Needs.{Space, Room}
use Rattle.reading.specs.Read.{counted, with_counts, read_of}
use Rattle.reading.specs.Alike.{SameJob, SameEnd, Ignores}
use Rattle.reading.proofs.Placing.{has_room}

-- a number more at place p, in both
more : (p v : ℕ) (a b : ℕ → ℕ) → ((i : ℕ) → i < p → b i ≡ a i) → (i : ℕ) → i < p + 1 → cond (eqb i p) v (b i) ≡ cond (eqb i p) v (a i)
more p v a b h i l = go (eqb i p) refl
  where
    go : (t : Bool) → eqb i p ≡ t → cond t v (b i) ≡ cond t v (a i)
    go true e = refl
    go false e = h i (omega (arith, l, eqb-false i p e))

listed : (n v : ℕ) (l l' : List ℕ) → n < length l → n < length l' → ((i : ℕ) → i < n → get_or l' i 0 ≡ get_or l i 0) → (i : ℕ) → i < n + 1 → get_or (set l' n v) i 0 ≡ get_or (set l n v) i 0
listed n v l l' h h' g i b = go (ℕ_discrete i n)
  where
    go : Dec (i ≡ n) → get_or (set l' n v) i 0 ≡ get_or (set l n v) i 0
    go (yes e) = subst (λ (z : ℕ). get_or (set l' n v) z 0 ≡ get_or (set l n v) z 0) (sym e) (get_or-set_same l' n v 0 h' ∙ sym (get_or-set_same l n v 0 h))
    go (no e) = get_or-set_other l' n i v 0 e ∙ g i (omega (arith, b, e)) ∙ sym (get_or-set_other l n i v 0 e)

-- how far both are, and that they hold the same
record Both (j : Job) (w w' ss ss' js js' : List ℕ) : Type 0 where
  within : Within j
  space : Space w ss js
  space' : Space w' ss' js'
  same : SameJob j w w' ss ss' js js'

abbrev BothEnd : ReadEnd → ReadEnd → Type 0
BothEnd (end (Ok j) w ss js) (end (Ok j') w' ss' js') = (j' ≡ j) × Both j w w' ss ss' js js'
BothEnd (end (Ok j) w ss js) (end (Err r') w' ss' js') = ⊥
BothEnd (end (Err r) w ss js) (end (Ok j') w' ss' js') = ⊥
BothEnd (end (Err r) w ss js) (end (Err r') w' ss' js') = r' ≡ r

abbrev point_list : ℕ → ℕ → ℕ → ℕ → ℕ → ℕ → ℕ → List Write
point_list i x y n p r z = write (pt X) i x ∷ write (pt Y) i y ∷ write (pt NEXT) i n ∷ write (pt PREV) i p ∷ write (pt REC) i r ∷ write (pt Z) i z ∷ []

abbrev count_list : Job → List Write
count_list j = write (ct SETTINGS) 0 j.bits ∷ write (ct POINTS) 0 j.points ∷ write (ct RECORDS) 0 j.records ∷ []

-- the words after a list of writes, on both sides
module _ (w w' : List ℕ) (xs : List Write) where
  at_both : (P : Store → Store → Type 0) → view (on_words w xs) ≡ on_store (view w) xs → view (on_words w' xs) ≡ on_store (view w') xs → P (on_store (view w) xs) (on_store (view w') xs) → P (view (on_words w xs)) (view (on_words w' xs))
  at_both P a b h = subst (λ (s : Store). P s (view (on_words w' xs))) (sym a) (subst (P (on_store (view w) xs)) (sym b) h)

module _ (j : Job) (w w' ss ss' js js' : List ℕ) (b : Both j w w' ss ss' js js') where
  both_placed : (f : Field) (n : ℕ) → Room f j → Within (past f n j) → BothEnd (placed f n j w ss js) (placed f n j w' ss' js')
  both_placed (Settings c) n l i =
      let s = b.same in
      (refl, record { within = i; space = b.space; space' = b.space'; same = record { points = s.points; flags = s.flags; owners = s.owners; firsts = s.firsts; reasons = s.reasons; segments = s.segments; joins = s.joins } })
  both_placed (Point x y nx pv r z) n l i =
      let s = b.same in
      let k = j.points in
      let xs = point_list k x y nx pv r z in
      let e = view_writes w xs b.space.words (l, (l, (l, (l, (l, (l, tt)))))) in
      let e' = view_writes w' xs b.space'.words (l, (l, (l, (l, (l, (l, tt)))))) in
      let to : (P : Store → Store → Type 0) → P (on_store (view w) xs) (on_store (view w') xs) → P (view (on_words w xs)) (view (on_words w' xs)) = λ P. at_both w w' xs P e e' in (
        refl,
        record {
          within = i;
          space = record { words = omega (arith, b.space.words, length_writes w xs); segments = b.space.segments; joins = b.space.joins };
          space' = record { words = omega (arith, b.space'.words, length_writes w' xs); segments = b.space'.segments; joins = b.space'.joins };
          same = record {
            points = to (λ s t. (c : PointCol) (i : ℕ) → i < k + 1 → t (pt c) i ≡ s (pt c) i) (λ c. col c);
            flags = to (λ s t. (i : ℕ) → i < j.records → t (rc FLAGS) i ≡ s (rc FLAGS) i) s.flags;
            owners = to (λ s t. (i : ℕ) → i < j.records → t (rc OWNER) i ≡ s (rc OWNER) i) s.owners;
            firsts = to (λ s t. (i : ℕ) → i < j.records → t (rc FIRST) i ≡ s (rc FIRST) i) s.firsts;
            reasons = to (λ s t. (i : ℕ) → i < j.records → t (rc REASON) i ≡ s (rc REASON) i) s.reasons;
            segments = s.segments;
            joins = s.joins;
          };
        },
      )
    where
      col : (c : PointCol) (i : ℕ) → i < j.points + 1 → on_store (view w') (point_list j.points x y nx pv r z) (pt c) i ≡ on_store (view w) (point_list j.points x y nx pv r z) (pt c) i
      col X = more j.points x (view w (pt X)) (view w' (pt X)) (b.same.points X)
      col Y = more j.points y (view w (pt Y)) (view w' (pt Y)) (b.same.points Y)
      col NEXT = more j.points nx (view w (pt NEXT)) (view w' (pt NEXT)) (b.same.points NEXT)
      col PREV = more j.points pv (view w (pt PREV)) (view w' (pt PREV)) (b.same.points PREV)
      col REC = more j.points r (view w (pt REC)) (view w' (pt REC)) (b.same.points REC)
      col Z = more j.points z (view w (pt Z)) (view w' (pt Z)) (b.same.points Z)
  both_placed (Record f o p) n l i =
      let s = b.same in
      let k = j.records in
      let xs = record_read k f o p in
      let e = view_writes w xs b.space.words (l, (l, (l, (l, tt)))) in
      let e' = view_writes w' xs b.space'.words (l, (l, (l, (l, tt)))) in
      let to : (P : Store → Store → Type 0) → P (on_store (view w) xs) (on_store (view w') xs) → P (view (on_words w xs)) (view (on_words w' xs)) = λ P. at_both w w' xs P e e' in (
        refl,
        record {
          within = i;
          space = record { words = omega (arith, b.space.words, length_writes w xs); segments = b.space.segments; joins = b.space.joins };
          space' = record { words = omega (arith, b.space'.words, length_writes w' xs); segments = b.space'.segments; joins = b.space'.joins };
          same = record {
            points = to (λ s t. (c : PointCol) (i : ℕ) → i < j.points → t (pt c) i ≡ s (pt c) i) (λ c. s.points c);
            flags = to (λ s t. (i : ℕ) → i < k + 1 → t (rc FLAGS) i ≡ s (rc FLAGS) i) (more k f (view w (rc FLAGS)) (view w' (rc FLAGS)) s.flags);
            owners = to (λ s t. (i : ℕ) → i < k + 1 → t (rc OWNER) i ≡ s (rc OWNER) i) (more k o (view w (rc OWNER)) (view w' (rc OWNER)) s.owners);
            firsts = to (λ s t. (i : ℕ) → i < k + 1 → t (rc FIRST) i ≡ s (rc FIRST) i) (more k p (view w (rc FIRST)) (view w' (rc FIRST)) s.firsts);
            reasons = to (λ s t. (i : ℕ) → i < k + 1 → t (rc REASON) i ≡ s (rc REASON) i) (more k (reason_read p) (view w (rc REASON)) (view w' (rc REASON)) s.reasons);
            segments = s.segments;
            joins = s.joins;
          };
        },
      )
  both_placed (Segment p) n l i =
      let s = b.same in
      let k = j.segments in (
        refl,
        record {
          within = i;
          space = record { words = b.space.words; segments = omega (arith, b.space.segments, length-set ss k p); joins = b.space.joins };
          space' = record { words = b.space'.words; segments = omega (arith, b.space'.segments, length-set ss' k p); joins = b.space'.joins };
          same = record { points = s.points; flags = s.flags; owners = s.owners; firsts = s.firsts; reasons = s.reasons; segments = listed k p ss ss' (omega (arith, b.space.segments)) (omega (arith, b.space'.segments)) s.segments; joins = s.joins };
        },
      )
  both_placed (Join x y) n l i =
      let s = b.same in
      let k = 2 * j.joins in
      let h : k + 1 < length js = omega (arith, b.space.joins) in
      let h' : k + 1 < length js' = omega (arith, b.space'.joins) in
      let a = length-set js k x in
      let a' = length-set js' k x in
      let g = listed k x js js' (omega arith) (omega arith) s.joins in
      let g' = listed (k + 1) y (set js k x) (set js' k x) (omega (arith, a)) (omega (arith, a')) g in (
        refl,
        record {
          within = i;
          space = record { words = b.space.words; segments = b.space.segments; joins = omega (arith, b.space.joins, a, length-set (set js k x) (k + 1) y) };
          space' = record { words = b.space'.words; segments = b.space'.segments; joins = omega (arith, b.space'.joins, a', length-set (set js' k x) (k + 1) y) };
          same = record { points = s.points; flags = s.flags; owners = s.owners; firsts = s.firsts; reasons = s.reasons; segments = s.segments; joins = λ i m. g' i (omega arith) };
        },
      )

  both_turn : (bytes : List ℕ) → BothEnd (turn_of bytes j w ss js) (turn_of bytes j w' ss' js')
  unfolding turn_of
  both_turn bytes = go (field_of j (drop j.at bytes)) refl
    where
      go : (r : Result (Field × ℕ) Refusal) → field_of j (drop j.at bytes) ≡ r → BothEnd (taken r j w ss js) (taken r j w' ss' js')
      go (Ok (f, n)) e =
          let a = accepted j (drop j.at bytes) f n e in
          both_placed f n (has_room j (drop j.at bytes) f n a) (within_past b.within a)
      go (Err x) e = refl

both_run : (k : ℕ) (bytes : List ℕ) (j : Job) (w w' ss ss' js js' : List ℕ) → Both j w w' ss ss' js js' → BothEnd (run k bytes j w ss js) (run k bytes j w' ss' js')
unfolding run
both_run zero bytes j w w' ss ss' js js' b = refl
both_run (suc k) bytes j w w' ss ss' js js' b =
    by (ltb j.at (length bytes)) (turn_of bytes j w ss js) (turn_of bytes j w' ss' js') (both_turn j w w' ss ss' js js' b bytes)
    (λ i v v' ts ts' ks ks' c. both_run k bytes i v v' ts ts' ks ks' c)
  where
    on : (T T' : ReadEnd) → BothEnd T T' → ((i : Job) (v v' ts ts' ks ks' : List ℕ) → Both i v v' ts ts' ks ks' → BothEnd (run k bytes i v ts ks) (run k bytes i v' ts' ks')) → BothEnd (follow (run k bytes) T) (follow (run k bytes) T')
    on (end (Ok i) v ts ks) (end (Ok i') v' ts' ks') c r = subst (λ (x : Job). BothEnd (run k bytes i v ts ks) (run k bytes x v' ts' ks')) (sym c.0) (r i v v' ts ts' ks ks' c.1)
    on (end (Ok i) v ts ks) (end (Err x') v' ts' ks') c r = absurd c
    on (end (Err x) v ts ks) (end (Ok i') v' ts' ks') c r = absurd c
    on (end (Err x) v ts ks) (end (Err x') v' ts' ks') c r = c

    by : (t : Bool) (T T' : ReadEnd) → BothEnd T T' → ((i : Job) (v v' ts ts' ks ks' : List ℕ) → Both i v v' ts ts' ks ks' → BothEnd (run k bytes i v ts ks) (run k bytes i v' ts' ks'))
        → BothEnd (cond t (follow (run k bytes) T) (end (Ok j) w ss js)) (cond t (follow (run k bytes) T') (end (Ok j) w' ss' js'))
    by true T T' c r = on T T' c r
    by false T T' c r = (refl, b)

-- the counts are written last, and are the same too
with_counts_lem : (T T' : ReadEnd) → BothEnd T T' → SameEnd (with_counts T) (with_counts T')
with_counts_lem (end (Ok j) w ss js) (end (Ok j') w' ss' js') c =
    let b = c.1 in
    let s = b.same in
    let e = view_writes w (count_list j) b.space.words (omega arith, (omega arith, (omega arith, tt))) in
    let e' = view_writes w' (count_list j) b.space'.words (omega arith, (omega arith, (omega arith, tt))) in
    subst (λ (x : Job). SameEnd (end (Ok j) (counted j w) ss js) (end (Ok x) (counted x w') ss' js')) (sym c.0) (
      refl,
      record {
        points = λ x i l. ap (λ (t : Store). t (pt x) i) e' ∙ s.points x i l ∙ sym (ap (λ (t : Store). t (pt x) i) e);
        flags = λ i l. ap (λ (t : Store). t (rc FLAGS) i) e' ∙ s.flags i l ∙ sym (ap (λ (t : Store). t (rc FLAGS) i) e);
        owners = λ i l. ap (λ (t : Store). t (rc OWNER) i) e' ∙ s.owners i l ∙ sym (ap (λ (t : Store). t (rc OWNER) i) e);
        firsts = λ i l. ap (λ (t : Store). t (rc FIRST) i) e' ∙ s.firsts i l ∙ sym (ap (λ (t : Store). t (rc FIRST) i) e);
        reasons = λ i l. ap (λ (t : Store). t (rc REASON) i) e' ∙ s.reasons i l ∙ sym (ap (λ (t : Store). t (rc REASON) i) e);
        segments = s.segments;
        joins = s.joins;
      },
    )
with_counts_lem (end (Ok j) w ss js) (end (Err x') w' ss' js') c = absurd c
with_counts_lem (end (Err x) w ss js) (end (Ok j') w' ss' js') c = absurd c
with_counts_lem (end (Err x) w ss js) (end (Err x') w' ss' js') c = c

pub ignores : (bytes : List ℕ) → Ignores bytes
unfolding read_of fill_of
ignores bytes = record { same = λ w w' ss ss' js js' s s'. by w w' ss ss' js js' s s' (eqb (length bytes) 0) }
  where
    by : (w w' ss ss' js js' : List ℕ) → Space w ss js → Space w' ss' js' → (t : Bool)
        → SameEnd (with_counts (cond t (end (Err Strange) w ss js) (run (suc (length bytes)) bytes fresh w ss js))) (with_counts (cond t (end (Err Strange) w' ss' js') (run (suc (length bytes)) bytes fresh w' ss' js')))
    by w w' ss ss' js js' s s' true = refl
    by w w' ss ss' js js' s s' false =
        with_counts_lem (run (suc (length bytes)) bytes fresh w ss js) (run (suc (length bytes)) bytes fresh w' ss' js')
        (both_run (suc (length bytes)) bytes fresh w w' ss ss' js js'
        (record {
          within = within_fresh;
          space = s;
          space' = s';
          same = record {
            points = λ c i l. absurd (omega arith);
            flags = λ i l. absurd (omega arith);
            owners = λ i l. absurd (omega arith);
            firsts = λ i l. absurd (omega arith);
            reasons = λ i l. absurd (omega arith);
            segments = λ i l. absurd (omega arith);
            joins = λ i l. absurd (omega arith);
          };
        }))
