-- A job with other backward links: how it is read, and when its links are mutual.
use mathlib.Core.Path.{◌≡◌, refl, sym, ap, ◌∙◌, subst}
use mathlib.Core.Logic.{◌≢◌}
use mathlib.Core.Bool.{Bool, true, false, cond}
use mathlib.Core.List.{List, [], ◌∷◌}
use Prim.Native.Nat.{ℕ, zero, suc, ◌+◌, ◌*◌, ◌<◌, ◌≤◌, ◌^◌}
use native.Mathlib.Omega.{arith}
use native.Mathlib.Decide.{ℕ_discrete}
use lib.Dec.{eqb}
use lib.ListN.{length, get_or}
use Rattle.std.proofs.Common.{Ok, Err}
use Rattle.numbers.specs.Bytes.{le}
use Rattle.numbers.specs.Written.{put_le}
use Rattle.numbers.proofs.Written as written
use Rattle.numbers.proofs.Written.{length_put, comes_back, kept_before}
use Rattle.job.specs.Job.{fresh}
use Rattle.job.specs.declared.Job.{Job}
use Rattle.job.specs.declared.refusal.Refusal.TheVariants.{Strange}
use Rattle.job.proofs.Accepted.{within_fresh}
use Rattle.store.specs.Field.{ct, SETTINGS, POINTS, RECORDS}
use Rattle.store.specs.Words.{Store, view, Write, write}
use Rattle.store.specs.Stores.{on_store}
use Rattle.store.proofs.Storing.{view_writes}
use Rattle.reading.specs.Fill.{ReadEnd, end, run, fill_of}
use Rattle.reading.specs.Needs.{Space}
use Rattle.reading.specs.Read.{counted, with_counts, read_of}
use Rattle.reading.specs.Alike.{Counts}
use Rattle.reading.proofs.Counted.{counts}
use Rattle.mending.specs.Mend.{prev_at, with_prevs}
use Rattle.reading.proofs.Standing.{lay_fresh}
use Rattle.mending.proofs.Passing.{read_fills}
use Rattle.mending.proofs.Agreeing.{Agree, Front}
use Rattle.mending.proofs.Fields.{Similar}
use Rattle.mending.proofs.Alike.{Both, AlikeEnd, alike, run_both}

-- ---- the bytes
length_prevs : (g : ℕ → ℕ) (n : ℕ) (s : List ℕ) → length (with_prevs g n s) ≡ length s
length_prevs g zero s = refl
length_prevs g (suc n) s = length_put 2 (prev_at n) (g n) (with_prevs g n s) ∙ length_prevs g n s

kept_prevs : (g : ℕ → ℕ) (n : ℕ) (s : List ℕ) (i : ℕ) → ((k : ℕ) → k < n → (i ≢ prev_at k) × (i ≢ prev_at k + 1)) → get_or (with_prevs g n s) i 0 ≡ get_or s i 0
kept_prevs g zero s i h = refl
kept_prevs g (suc n) s i h = written.kept 2 (prev_at n) (g n) i (with_prevs g n s) (λ k l e. go k l e) ∙ kept_prevs g n s i (λ k l. h k (omega arith))
  where
    go : (k : ℕ) → k < 2 → i ≡ prev_at n + k → ⊥
    go zero l e = (h n (omega arith)).0 (omega arith)
    go (suc zero) l e = (h n (omega arith)).1 e
    go (suc (suc k)) l e = omega arith

read_prevs : (g : ℕ → ℕ) (n : ℕ) (s : List ℕ) → ((k : ℕ) → k < n → prev_at k + 2 ≤ length s) → ((k : ℕ) → k < n → g k < 256 ^ 2) → (k : ℕ) → k < n → le 2 (prev_at k) (with_prevs g n s) ≡ g k
read_prevs g zero s r t k h = absurd (omega arith)
read_prevs g (suc n) s r t k h = go (ℕ_discrete k n) (λ l. read_prevs g n s (λ i m. r i (omega arith)) (λ i m. t i (omega arith)) k l)
  where
    go : Dec (k ≡ n) → (k < n → le 2 (prev_at k) (with_prevs g n s) ≡ g k) → le 2 (prev_at k) (put_le 2 (prev_at n) (g n) (with_prevs g n s)) ≡ g k
    go (yes e) f = subst (λ (i : ℕ). le 2 (prev_at i) (put_le 2 (prev_at n) (g n) (with_prevs g n s)) ≡ g i) (sym e) (comes_back 2 (prev_at n) (g n) (with_prevs g n s) (t n (omega arith)) (omega (arith, length_prevs g n s, r n (omega arith))))
    go (no e) f = kept_before 2 (prev_at n) (g n) 2 (prev_at k) (with_prevs g n s) (omega arith) ∙ f (omega arith)

pub similar : (g : ℕ → ℕ) (n : ℕ) (s : List ℕ) → ((k : ℕ) → k < n → prev_at k + 2 ≤ length s) → ((k : ℕ) → k < n → g k < 256 ^ 2) → Similar s (with_prevs g n s) g n
similar g n s r t = record { long = length_prevs g n s; kept = kept_prevs g n s; prevs = read_prevs g n s r t }

-- as it is
pub similar_self : (n : ℕ) (s : List ℕ) → Similar s s (λ k. le 2 (prev_at k) s) n
similar_self n s = record { long = refl; kept = λ i h. refl; prevs = λ k h. refl }

-- ---- read
pub record ReadToo (bytes' : List ℕ) (f : ℕ → ℕ) (w' ss' js' : List ℕ) (n : Job) (v ts ks : List ℕ) : Type 0 where
  pub words : List ℕ
  pub segments : List ℕ
  pub joins : List ℕ
  pub reads : read_of bytes' w' ss' js' ≡ end (Ok n) words segments joins
  pub agree : Agree f n.points n.records (view v) (view words)
  pub same_segments : Front n.segments ts segments
  pub same_joins : Front (2 * n.joins) ks joins
  pub counts : Counts n words

module _ (bytes bytes' : List ℕ) (f : ℕ → ℕ) (N : ℕ) (sim : Similar bytes bytes' f N) where
  record Inverted (E : ReadEnd) (n : Job) (u ts ks : List ℕ) : Type 0 where
    u' : List ℕ
    ts' : List ℕ
    ks' : List ℕ
    is : E ≡ end (Ok n) u' ts' ks'
    both : Both bytes bytes' f N n u u' ts ts' ks ks'

  invert : (T E : ReadEnd) (n : Job) (u ts ks : List ℕ) → AlikeEnd bytes bytes' f N T E → T ≡ end (Ok n) u ts ks → Inverted E n u ts ks
  invert T E n u ts ks (alike m v v' us us' ls ls' b) e =
      let a : m ≡ n = cc in
      let c : v ≡ u = cc in
      let d : us ≡ ts = cc in
      let g : ls ≡ ks = cc in
      subst (λ (x : Job). Inverted (end (Ok m) v' us' ls') x u ts ks) a
      (subst (λ (x : List ℕ). Inverted (end (Ok m) v' us' ls') m x ts ks) c
      (subst (λ (x : List ℕ). Inverted (end (Ok m) v' us' ls') m v x ks) d
      (subst (λ (x : List ℕ). Inverted (end (Ok m) v' us' ls') m v us x) g (record { u' = v'; ts' = us'; ks' = ls'; is = refl; both = b }))))

  blank : (w w' ss ss' js js' : List ℕ) → Space w ss js → Space w' ss' js' → Both bytes bytes' f N fresh w w' ss ss' js js'
  blank w w' ss ss' js js' s s' =
      record {
        lay = lay_fresh;
        inside = omega arith;
        within = within_fresh;
        space = s;
        space' = s';
        agree = record { x = λ i h. absurd (omega arith); y = λ i h. absurd (omega arith); next = λ i h. absurd (omega arith); prev = λ i h. absurd (omega arith); rec = λ i h. absurd (omega arith); z = λ i h. absurd (omega arith); flags = λ i h. absurd (omega arith); owner = λ i h. absurd (omega arith); first = λ i h. absurd (omega arith) };
        segments = λ i h. absurd (omega arith);
        joins = λ i h. absurd (omega arith);
      }

  fill_both : (n : Job) (u ts ks : List ℕ) → n.points ≡ N → (w w' ss ss' js js' : List ℕ) → Space w ss js → Space w' ss' js' → fill_of bytes w ss js ≡ end (Ok n) u ts ks → Inverted (fill_of bytes' w' ss' js') n u ts ks
  unfolding fill_of
  fill_both n u ts ks t w w' ss ss' js js' s s' e =
      subst (λ (l : ℕ). Inverted (cond (eqb l 0) (end (Err Strange) w' ss' js') (run (suc l) bytes' fresh w' ss' js')) n u ts ks) (sym sim.long) (by (eqb (length bytes) 0) e)
    where
      by : (b : Bool) → cond b (end (Err Strange) w ss js) (run (suc (length bytes)) bytes fresh w ss js) ≡ end (Ok n) u ts ks → Inverted (cond b (end (Err Strange) w' ss' js') (run (suc (length bytes)) bytes' fresh w' ss' js')) n u ts ks
      by true d = absurd (let z : ◌≡◌ {A = ℕ} 0 1 = cc in omega arith)
      by false d = invert (run (suc (length bytes)) bytes fresh w ss js) (run (suc (length bytes)) bytes' fresh w' ss' js') n u ts ks (run_both bytes bytes' f N sim n u ts ks t (suc (length bytes)) fresh w w' ss ss' js js' (blank w w' ss ss' js js' s s') d) d

  abbrev count_writes : Job → List Write
  count_writes n = write (ct SETTINGS) 0 n.bits ∷ write (ct POINTS) 0 n.points ∷ write (ct RECORDS) 0 n.records ∷ []

  pub read_too : (n : Job) (v ts ks : List ℕ) → n.points ≡ N → (w w' ss ss' js js' : List ℕ) → Space w ss js → Space w' ss' js' → read_of bytes w ss js ≡ end (Ok n) v ts ks → ReadToo bytes' f w' ss' js' n v ts ks
  unfolding read_of
  read_too n v ts ks t w w' ss ss' js js' s s' e =
      let q = read_fills bytes w ss js n v ts ks e in
      let i = fill_both n q.words ts ks t w w' ss ss' js js' s s' q.fills in
      let lu = i.both.space.words in
      let lu' = i.both.space'.words in
      let a : view (counted n q.words) ≡ on_store (view q.words) (count_writes n) = view_writes q.words (count_writes n) lu (omega arith, (omega arith, (omega arith, tt))) in
      let a' : view (counted n i.u') ≡ on_store (view i.u') (count_writes n) = view_writes i.u' (count_writes n) lu' (omega arith, (omega arith, (omega arith, tt))) in
      let g = i.both.agree in
      let c : Agree f n.points n.records (on_store (view q.words) (count_writes n)) (on_store (view i.u') (count_writes n)) = record { x = g.x; y = g.y; next = g.next; prev = g.prev; rec = g.rec; z = g.z; flags = g.flags; owner = g.owner; first = g.first } in
      record {
        words = counted n i.u';
        segments = i.ts';
        joins = i.ks';
        reads = ap with_counts i.is;
        agree = subst (λ (x : Store). Agree f n.points n.records x (view (counted n i.u'))) (sym a ∙ sym (ap view q.is)) (subst (Agree f n.points n.records (on_store (view q.words) (count_writes n))) (sym a') c);
        same_segments = i.both.segments;
        same_joins = i.both.joins;
        counts = counts i.u' n lu' i.both.within;
      }
