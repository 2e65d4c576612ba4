-- The settings of a job that was read are the byte after its first field's header: tags rise, so that field is the settings', and no other is.
use mathlib.Core.Path.{◌≡◌, refl, sym, ap, ◌∙◌, subst}
use mathlib.Core.Logic.{◌≢◌}
use mathlib.Core.Bool.{Bool, true, false, cond}
use mathlib.Core.List.{List}
use Prim.Native.Nat.{ℕ, zero, suc, ◌+◌, ◌≤◌, ◌<◌}
use native.Mathlib.Omega.{arith}
use native.Mathlib.Decide.{dec_lt}
use lib.Dec.{eqb, ltb}
use lib.ListN.{length, drop}
use borrow.Author.Tests.{ltb-false, eqb-false}
use Rattle.std.proofs.Common.{Result, Ok, Err}
use Rattle.numbers.specs.Bytes.{le}
use Rattle.numbers.proofs.Widths.{shifted}
use Rattle.job.specs.Field.{HEADER, tag_of, value_of, kind_of, field_in, field_of}
use Rattle.job.specs.Job.{fresh, past}
use Rattle.job.specs.declared.Job.{Job}
use Rattle.job.specs.declared.field.Kind.{Kind}
use Rattle.job.specs.declared.field.Kind.TheVariants as kind
use Rattle.job.specs.declared.field.Field.{Field}
use Rattle.job.specs.declared.field.Field.TheVariants.{Settings, Point, Record, Segment, Join}
use Rattle.job.specs.declared.refusal.Refusal.{Refusal}
use Rattle.job.specs.declared.refusal.Refusal.TheVariants.{Strange}
use Rattle.store.specs.Field.{BLOCK}
use Rattle.store.specs.Named.{settings_of}
use Rattle.reading.specs.Fill.{ReadEnd, end, placed, taken, turn_of, follow, run, fill_of}
use Rattle.reading.specs.Read.{counted, with_counts, read_of}
use Rattle.reading.proofs.Counted.{filled, counts}
use Rattle.reading.proofs.Standing.{tag_is, Tagged, ReadAs, read_as, tag_of_lem}
use Rattle.accepting.specs.Accept.{judged, judge_of, accept_of}
use Rattle.job_listing.specs.Setting.{settings_in}

-- before the first field reading stands at the job's beginning; after it the settings are taken
record Took (bytes : List ℕ) (j : Job) : Type 0 where
  none_yet : j.last ≡ 0 → j.at ≡ 0
  once : 0 < j.last → j.bits ≡ settings_in bytes

abbrev TookEnd : List ℕ → ReadEnd → Type 0
TookEnd bytes (end (Ok j) w ss js) = Took bytes j
TookEnd bytes (end (Err r) w ss js) = Unit {0}

module _ (bytes : List ℕ) (j : Job) (w ss js : List ℕ) (t : Took bytes j) where
  -- a field of another kind comes after one
  later : (k : Kind) (v : List ℕ) (n : ℕ) → (tag_of v ≡ tag_is k) × Tagged j.last (tag_of v) → tag_is k ≢ 1 → 0 < j.last
  later k v n g d = by (dec_lt 0 j.last)
    where
      by : Dec (0 < j.last) → 0 < j.last
      by (yes h) = h
      by (no h) = absurd (d (sym g.0 ∙ g.1.first (omega arith)))

  took_placed : (f : Field) (n : ℕ) (k : Kind) → ReadAs j (drop j.at bytes) f n k → TookEnd bytes (placed f n j w ss js)
  took_placed f n k r = subst (λ (g : Field). TookEnd bytes (placed g n j w ss js)) (sym r.is) (go k (tag_of_lem j (drop j.at bytes) f n k r))
    where
      s : List ℕ
      s = drop j.at bytes

      go : (k : Kind) → (tag_of s ≡ tag_is k) × Tagged j.last (tag_of s) → TookEnd bytes (placed (field_in k (value_of s)) n j w ss js)
      go kind.Settings g =
          record {
            none_yet = λ h. absurd (omega arith);
            once = λ h. shifted 1 HEADER 0 s ∙ shifted 1 j.at (HEADER + 0) bytes ∙ ap (λ (x : ℕ). le 1 x bytes) (omega (arith, t.none_yet (first (dec_lt 0 j.last))));
          }
        where
          first : Dec (0 < j.last) → j.last ≡ 0
          first (yes h) = absurd (g.1.once h g.0)
          first (no h) = omega arith
      go kind.Point g = let l = later kind.Point s n g (λ e. omega arith) in record { none_yet = λ h. absurd (omega arith); once = λ h. t.once l }
      go kind.Record g = let l = later kind.Record s n g (λ e. omega arith) in record { none_yet = λ h. absurd (omega arith); once = λ h. t.once l }
      go kind.Segment g = let l = later kind.Segment s n g (λ e. omega arith) in record { none_yet = λ h. absurd (omega arith); once = λ h. t.once l }
      go kind.Join g = let l = later kind.Join s n g (λ e. omega arith) in record { none_yet = λ h. absurd (omega arith); once = λ h. t.once l }

  took_turn : TookEnd bytes (turn_of bytes j w ss js)
  unfolding turn_of
  took_turn = go (field_of j (drop j.at bytes)) refl
    where
      go : (r : Result (Field × ℕ) Refusal) → field_of j (drop j.at bytes) ≡ r → TookEnd bytes (taken r j w ss js)
      go (Ok (f, n)) e = took_placed f n (kind_of (tag_of (drop j.at bytes))) (read_as j (drop j.at bytes) f n e)
      go (Err x) e = tt

-- at the end of a job that has a byte the settings were taken
abbrev Settled : List ℕ → ReadEnd → Type 0
Settled bytes (end (Ok j) w ss js) = j.bits ≡ settings_in bytes
Settled bytes (end (Err r) w ss js) = Unit {0}

took_run : (k : ℕ) (bytes : List ℕ) (j : Job) (w ss js : List ℕ) → 0 < length bytes → Took bytes j → Settled bytes (run k bytes j w ss js)
unfolding run
took_run zero bytes j w ss js l t = tt
took_run (suc k) bytes j w ss js l t = by (ltb j.at (length bytes)) refl (turn_of bytes j w ss js) (took_turn bytes j w ss js t) (λ i v ts ks u. took_run k bytes i v ts ks l u)
  where
    on : (T : ReadEnd) → TookEnd bytes T → ((i : Job) (v ts ks : List ℕ) → Took bytes i → Settled bytes (run k bytes i v ts ks)) → Settled bytes (follow (run k bytes) T)
    on (end (Ok i) v ts ks) u r = r i v ts ks u
    on (end (Err x) v ts ks) u r = tt

    past_start : length bytes ≤ j.at → Dec (0 < j.last) → j.bits ≡ settings_in bytes
    past_start h (yes g) = t.once g
    past_start h (no g) = absurd (omega (arith, t.none_yet (omega arith)))

    by : (b : Bool) → ltb j.at (length bytes) ≡ b → (T : ReadEnd) → TookEnd bytes T → ((i : Job) (v ts ks : List ℕ) → Took bytes i → Settled bytes (run k bytes i v ts ks)) → Settled bytes (cond b (follow (run k bytes) T) (end (Ok j) w ss js))
    by true e T u r = on T u r
    by false e T u r = past_start (ltb-false j.at (length bytes) e) (dec_lt 0 j.last)

took_fill : (bytes w ss js : List ℕ) → Settled bytes (fill_of bytes w ss js)
unfolding fill_of
took_fill bytes w ss js = go (eqb (length bytes) 0) refl
  where
    go : (b : Bool) → eqb (length bytes) 0 ≡ b → Settled bytes (cond b (end (Err Strange) w ss js) (run (suc (length bytes)) bytes fresh w ss js))
    go true e = tt
    go false e =
        let d : length bytes ≢ 0 = eqb-false (length bytes) 0 e in
        took_run (suc (length bytes)) bytes fresh w ss js (omega (arith, d)) (record { none_yet = λ h. refl; once = λ h. absurd (omega arith) })

-- the words of a job that passed rows 1 to 8
pub settings_accepted : (bytes w ss js : List ℕ) (j : Job) (v ts ks : List ℕ) → BLOCK ≤ length w → accept_of bytes w ss js ≡ end (Ok j) v ts ks → settings_of v ≡ settings_in bytes
unfolding accept_of read_of
settings_accepted bytes w ss js j v ts ks l e = go (fill_of bytes w ss js) refl (took_fill bytes w ss js) e
  where
    go : (T : ReadEnd) → fill_of bytes w ss js ≡ T → Settled bytes T → judged (with_counts T) ≡ end (Ok j) v ts ks → settings_of v ≡ settings_in bytes
    go (end (Ok i) u us ls) h t d =
        let f = filled bytes i u us ls w ss js h in
        let a : counted i u ≡ v = by (judge_of i (counted i u) us ls) d in
        ap settings_of (sym a) ∙ (counts u i (omega (arith, f.words)) f.within).settings ∙ t
      where
        by : (x : Result Job Refusal) → end x (counted i u) us ls ≡ end (Ok j) v ts ks → counted i u ≡ v
        by x g = cc
    go (end (Err x) u us ls) h t d = absurd (let z : ◌≡◌ {A = ℕ} 0 1 = cc in omega arith)
