-- What holds of a job that was read, and of one that is accepted: each law goes by the cases of what was left.
use mathlib.Core.Path.{◌≡◌, refl, sym, ◌∙◌, subst}
use mathlib.Core.List.{List, [], ◌∷◌}
use mathlib.Core.Bool.{◌||◌}
use Prim.Native.Nat.{ℕ, ◌*◌, ◌≤◌}
use native.Mathlib.Omega.{arith}
use lib.ListN.{length}
use Rattle.std.specs.Prelude.{Result}
use Rattle.std.proofs.Common.{Ok, Err}
use Rattle.job.specs.declared.Job.{Job}
use Rattle.job.specs.declared.refusal.Refusal.{Refusal}
use Rattle.store.specs.Field.{BLOCK, ct, SETTINGS, POINTS, RECORDS}
use Rattle.store.specs.Words.{write}
use Rattle.store.specs.Named.{points_of, records_of, first_of}
use Rattle.store.proofs.Storing.{length_writes}
use Rattle.audit.specs.Tests.{any_below, no_such, no_such_of}
use Rattle.reading.specs.Fill.{ReadEnd, end, fill_of}
use Rattle.reading.specs.Needs.{Space}
use Rattle.reading.specs.Read.{counted, with_counts, read_of}
use Rattle.reading.specs.Alike.{Counts, Bits, Unringed}
use Rattle.reading.proofs.Counted.{filled, counts}
use Rattle.reading.proofs.Bits.{fields_of}
use Rattle.reading.proofs.Placing.{no_first}
use Rattle.rows.specs.Rows.{unnamed, rows_of}
use Rattle.rows.specs.Found.{Filled}
use Rattle.audit.proofs.Testing.{or_left, or_right}
use Rattle.rows.proofs.Readiness.{clear, chain_ends, ready}
use Rattle.accepting.specs.Accept.{answer, judge_of, judged, accept_of}
use Rattle.accepting.specs.Accepted.{Accepted}

-- a job that was read
pub record Whole (j : Job) (w ss js : List ℕ) : Type 0 where
  pub counts : Counts j w
  pub bits : Bits w
  pub unringed : Unringed w
  pub space : Space w ss js

pub read_whole : (bytes w ss js : List ℕ) → Space w ss js → (j : Job) (v ts ks : List ℕ) → read_of bytes w ss js ≡ end (Ok j) v ts ks → Whole j v ts ks
unfolding read_of
read_whole bytes w ss js s j v ts ks e = by (fill_of bytes w ss js) refl e (fields_of bytes w ss js s.words j v ts ks e)
  where
    by : (T : ReadEnd) → fill_of bytes w ss js ≡ T → with_counts T ≡ end (Ok j) v ts ks → Bits v × Unringed v → Whole j v ts ks
    by (end (Ok i) u us ls) f d q =
        let g = filled bytes i u us ls w ss js f in
        let a : i ≡ j = cc (d) in
        let b : counted i u ≡ v = cc (d) in
        let c : us ≡ ts = cc (d) in
        let k : ls ≡ ks = cc (d) in
        let l = length_writes u (write (ct SETTINGS) 0 i.bits ∷ write (ct POINTS) 0 i.points ∷ write (ct RECORDS) 0 i.records ∷ []) in
        let n : BLOCK ≤ length u = omega (arith, s.words, g.words) in
        rw (← a, ← b, ← c, ← k)
        (record {
          counts = counts u i n g.within;
          bits = subst Bits (sym b) q.0;
          unringed = subst Unringed (sym b) q.1;
          space = record { words = omega (arith, l, n); segments = omega (arith, s.segments, g.segments); joins = omega (arith, s.joins, g.joins) };
        })
    by (end (Err x) u us ls) f d q = absurd (let z : ◌≡◌ {A = ℕ} 0 1 = cc in omega arith)

pub filled_of : (j : Job) (w ss js : List ℕ) → Whole j w ss js → Filled w ss j.segments js j.joins
filled_of j w ss js g =
    let i = g.counts.within in
    record {
      long = g.space.words;
      points = omega (arith, g.counts.points, i.points);
      records = omega (arith, g.counts.records, i.records);
      segments = omega (arith, i.segments, g.space.segments);
      joins = omega (arith, i.joins, g.space.joins);
    }

-- for the code of `accept`
pub may_judge : (bytes w ss js v ts ks : List ℕ) (r : Result Job Refusal) (j : Job) → Space w ss js → end r v ts ks ≡ read_of bytes w ss js → r ≡ Ok j → Filled v ts j.segments ks j.joins
may_judge bytes w ss js v ts ks r j s e h =
    let q : read_of bytes w ss js ≡ end (Ok j) v ts ks = cc in
    filled_of j v ts ks (read_whole bytes w ss js s j v ts ks q)

module _ (bytes w ss js v ts ks : List ℕ) (r : Result Job Refusal) (e : end r v ts ks ≡ read_of bytes w ss js) where
  pub was_judged : (j : Job) (o : Result Job Refusal) → r ≡ Ok j → o ≡ judge_of j v ts ks → end o v ts ks ≡ accept_of bytes w ss js
  unfolding accept_of
  was_judged j o h a = rw (a, ← e, h)

  pub was_refused : (x : Refusal) → r ≡ Err x → end (Err x) v ts ks ≡ accept_of bytes w ss js
  unfolding accept_of
  was_refused x h = rw (← e, h)

-- THE LAW: an accepted job is ready to be joined
pub accepted : (bytes w ss js : List ℕ) → Space w ss js → (j : Job) (v ts ks : List ℕ) → accept_of bytes w ss js ≡ end (Ok j) v ts ks → Accepted j v ts ks
unfolding accept_of
accepted bytes w ss js s j v ts ks e = by (read_of bytes w ss js) refl e
  where
    of : (i : Job) (u us ls : List ℕ) → Whole i u us ls → rows_of u us i.segments ls i.joins ≡ Ok tt → Accepted i u us ls
    of i u us ls g p =
        let f = filled_of i u us ls g in
        let c = clear u us i.segments ls i.joins p in
        let x = or_right (any_below (points_of u) (no_such u)) (any_below (records_of u) (no_such_of u) || (unnamed u us i.segments || unnamed u ls (2 * i.joins))) c.numbers in
        let y = or_right (any_below (records_of u) (no_such_of u)) (unnamed u us i.segments || unnamed u ls (2 * i.joins)) x in
        record {
          counts = g.counts;
          bits = g.bits;
          unringed = g.unringed;
          clear = c;
          chains = chain_ends c;
          ready = ready f c (λ k h z. g.unringed.reasons k h ∙ sym (no_first (first_of u k) z));
          segments = or_left (unnamed u us i.segments) (unnamed u ls (2 * i.joins)) y;
          joins = or_right (unnamed u us i.segments) (unnamed u ls (2 * i.joins)) y;
          closed = c.edges;
        }

    at : (i : Job) (u us ls : List ℕ) → Whole i u us ls → (x : Result (Unit {0}) Refusal) → rows_of u us i.segments ls i.joins ≡ x → end (answer x i) u us ls ≡ end (Ok j) v ts ks → Accepted j v ts ks
    at i u us ls g (Ok _) p d =
        let a : i ≡ j = cc (d) in
        let b : u ≡ v = cc (d) in
        let c : us ≡ ts = cc (d) in
        let k : ls ≡ ks = cc (d) in
        rw (← a, ← b, ← c, ← k) (of i u us ls g p)
    at i u us ls g (Err x) p d = absurd (let z : ◌≡◌ {A = ℕ} 0 1 = cc in omega arith)

    by : (T : ReadEnd) → read_of bytes w ss js ≡ T → judged T ≡ end (Ok j) v ts ks → Accepted j v ts ks
    by (end (Ok i) u us ls) f d = at i u us ls (read_whole bytes w ss js s i u us ls f) (rows_of u us i.segments ls i.joins) refl d
    by (end (Err x) u us ls) f d = absurd (let z : ◌≡◌ {A = ℕ} 0 1 = cc in omega arith)
