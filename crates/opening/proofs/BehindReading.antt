-- The words behind the live block: a write to a word of a column leaves them, and so does reading a job.
use Prim.Native.Nat.{ℕ, zero, suc, ◌+◌, ◌<◌}
use mathlib.Core.Path.{◌≡◌, refl, ◌∙◌}
use mathlib.Core.Bool.{Bool, true, false, cond}
use mathlib.Core.List.{List, [], ◌∷◌}
use native.Mathlib.Omega.{arith}
use lib.Dec.{ltb, eqb}
use lib.ListN.{length, drop}
use lib.Seq.{drop-set-lt}
use Rattle.std.proofs.Common.{Result, Ok, Err}
use Rattle.job.specs.Field.{field_of}
use Rattle.job.specs.Job.{fresh}
use Rattle.job.specs.declared.Job.{Job}
use Rattle.job.specs.declared.refusal.Refusal.TheVariants as refusal
use Rattle.job.specs.declared.field.Field as job
use Rattle.job.specs.declared.field.Field.TheVariants.{Settings, Point, Record, Segment, Join}
use Rattle.job.specs.declared.refusal.Refusal.{Refusal}
use Rattle.job.proofs.Accepted.{accepted}
use Rattle.store.specs.Field.{Field, pt, ct, X, Y, Z, NEXT, PREV, REC, SETTINGS, POINTS, RECORDS, size, base, BLOCK}
use Rattle.store.specs.Words.{Write, write, put, on_words}
use Rattle.store.specs.Stores.{Within}
use Rattle.store.proofs.Storing.{ends}
use Rattle.reading.specs.Fill as fill
use Rattle.reading.specs.Read.{with_counts, read_of}
use Rattle.reading.specs.Needs.{Room}
use Rattle.reading.proofs.Placing.{has_room}
use Rattle.accepting.specs.Accept.{judged, accept_of}
use Rattle.opening.specs.Open.{end}

-- the words behind the live block are `rest`
module _ (rest : List ℕ) where
  abbrev pub RestSame : List ℕ → Type 0
  RestSame w = drop BLOCK w ≡ rest

  -- ---- writes

  pub put_behind : (f : Field) (w : List ℕ) (i v : ℕ) → i < size f → RestSame w → RestSame (put f w i v)
  unfolding put
  put_behind f w i v h z = drop-set-lt BLOCK w (base f + i) v (omega (arith, ends f i h)) ∙ z

  pub writes_behind : (w : List ℕ) (xs : List Write) → Within xs → RestSame w → RestSame (on_words w xs)
  writes_behind w [] h z = z
  writes_behind w (x ∷ xs) h z = writes_behind (put x.to w x.at x.is) xs h.1 (put_behind x.to w x.at x.is h.0 z)

  -- ---- reading: a field goes to a place below its limit

  abbrev pub FilledBehind : fill.ReadEnd → Type 0
  FilledBehind (fill.end o w ss js) = RestSame w

  module _ (j : Job) (w ss js : List ℕ) (z : RestSame w) where
    placed_behind : (f : job.Field) (n : ℕ) → Room f j → FilledBehind (fill.placed f n j w ss js)
    placed_behind (Settings b) n h = z
    placed_behind (Point x y nx pv r d) n h =
        writes_behind w (write (pt X) j.points x ∷ write (pt Y) j.points y ∷ write (pt NEXT) j.points nx ∷ write (pt PREV) j.points pv ∷ write (pt REC) j.points r ∷ write (pt Z) j.points d ∷ []) (h, (h, (h, (h, (h, (h, tt)))))) z
    placed_behind (Record f o p) n h =
        writes_behind w (fill.record_read j.records f o p) (h, (h, (h, (h, tt)))) z
    placed_behind (Segment p) n h = z
    placed_behind (Join a b) n h = z

    taken_behind : (part : List ℕ) (r : Result (job.Field × ℕ) Refusal) → field_of j part ≡ r → FilledBehind (fill.taken r j w ss js)
    taken_behind part (Ok (f, n)) e = placed_behind f n (has_room j part f n (accepted j part f n e))
    taken_behind part (Err x) e = z

    turn_behind : (bytes : List ℕ) → FilledBehind (fill.turn_of bytes j w ss js)
    unfolding fill.turn_of
    turn_behind bytes = taken_behind (drop j.at bytes) (field_of j (drop j.at bytes)) refl

  run_behind : (k : ℕ) (bytes : List ℕ) (j : Job) (w ss js : List ℕ) → RestSame w → FilledBehind (fill.run k bytes j w ss js)
  unfolding fill.run
  run_behind zero bytes j w ss js z = z
  run_behind (suc k) bytes j w ss js z = by (ltb j.at (length bytes)) (fill.turn_of bytes j w ss js) (turn_behind j w ss js z bytes) (λ m u us ls q. run_behind k bytes m u us ls q)
    where
      on : (T : fill.ReadEnd) → FilledBehind T → ((m : Job) (u us ls : List ℕ) → RestSame u → FilledBehind (fill.run k bytes m u us ls)) → FilledBehind (fill.follow (fill.run k bytes) T)
      on (fill.end (Ok m) u us ls) q f = f m u us ls q
      on (fill.end (Err x) u us ls) q f = q

      by : (t : Bool) (T : fill.ReadEnd) → FilledBehind T → ((m : Job) (u us ls : List ℕ) → RestSame u → FilledBehind (fill.run k bytes m u us ls)) → FilledBehind (cond t (fill.follow (fill.run k bytes) T) (fill.end (Ok j) w ss js))
      by true T q f = on T q f
      by false T q f = z

  module _ (bytes w ss js : List ℕ) (z : RestSame w) where
    fill_behind : FilledBehind (fill.fill_of bytes w ss js)
    unfolding fill.fill_of
    fill_behind = by (eqb (length bytes) 0)
      where
        by : (t : Bool) → FilledBehind (cond t (fill.end (Err refusal.Strange) w ss js) (fill.run (suc (length bytes)) bytes fresh w ss js))
        by true = z
        by false = run_behind (suc (length bytes)) bytes fresh w ss js z

    pub accept_behind : FilledBehind (accept_of bytes w ss js)
    unfolding accept_of read_of
    accept_behind = go (fill.fill_of bytes w ss js) fill_behind
      where
        go : (T : fill.ReadEnd) → FilledBehind T → FilledBehind (judged (with_counts T))
        go (fill.end (Ok j) u us ls) q =
            writes_behind u (write (ct SETTINGS) 0 j.bits ∷ write (ct POINTS) 0 j.points ∷ write (ct RECORDS) 0 j.records ∷ []) (omega arith, (omega arith, (omega arith, tt))) q
        go (fill.end (Err x) u us ls) q = q
