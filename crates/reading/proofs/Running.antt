-- A run of point fields is as many turns: what the test of one says, and how the loop goes on.
use Prim.Native.Nat.{ℕ, ◌+◌, ◌-◌, ◌^◌, ◌<◌, ◌≤◌}
use mathlib.Core.Path.{◌≡◌, refl, ap, ◌∙◌, sym}
use mathlib.Core.Bool.{Bool, true, false, cond, not, ◌&&◌}
use mathlib.Core.List.{List}
use native.Mathlib.Omega.{arith}
use lib.Dec.{ltb, eqb}
use lib.ListN.{length, get_or}
use borrow.Author.Tests.{not-false, ltb-true, ltb-false, eqb-true, lt-ltb, le-ltb, lt-leb, ne_eqb}
use Rattle.std.proofs.Common.{Result, Ok}
use Rattle.numbers.specs.Bytes.{le}
use Rattle.numbers.specs.Raised.{raised}
use Rattle.numbers.specs.Written.{Number, Part}
use Rattle.job.specs.Limits.{POINTS, COORDINATE}
use Rattle.job.specs.Field.{tag_of, length_of, value_of, field_in, body_of, field_of}
use Rattle.job.specs.Job.{Within}
use Rattle.job.specs.declared.Job.{Job}
use Rattle.job.specs.declared.field.Kind.TheVariants as kind
use Rattle.job.specs.declared.refusal.Refusal.{Refusal}
use Rattle.store.specs.Field.{BLOCK}
use Rattle.reading.specs.Fill.{ReadEnd, end, put_point, turn_of}
use Rattle.reading.specs.Points.{point_next, put_value, past_point, PointTurn, PointTurns, none, more}
use Rattle.reading.proofs.Going.{Going, next, falls}

and_split : (a b : Bool) → (a && b) ≡ true → (a ≡ true) × (b ≡ true)
and_split true b h = (refl, h)
and_split false b h = let y : ◌≡◌ {A = ℕ} 0 1 = cc in absurd (omega arith)

-- what the test says of a part
record Next (j : Job) (s : List ℕ) : Type 0 where
  long : 21 ≤ length s
  tag : tag_of s ≡ 2
  says : length_of s ≡ 18
  begun : 0 < j.last
  in_turn : j.last < 3
  room : j.points < POINTS

next_says : (j : Job) (s : List ℕ) → point_next j s ≡ true → Next j s
unfolding point_next
next_says j s = by (ltb (length s) 21) refl
  where
    by : (b : Bool) → ltb (length s) 21 ≡ b → cond b false (eqb (tag_of s) 2 && eqb (length_of s) 18 && ltb 0 j.last && ltb j.last 3 && ltb j.points POINTS) ≡ true → Next j s
    by true l h = let y : ◌≡◌ {A = ℕ} 0 1 = cc in absurd (omega arith)
    by false l h =
        let a = and_split _ (ltb j.points POINTS) h in
        let b = and_split _ (ltb j.last 3) a.0 in
        let c = and_split _ (ltb 0 j.last) b.0 in
        let d = and_split (eqb (tag_of s) 2) (eqb (length_of s) 18) c.0 in
        record { long = ltb-false (length s) 21 l; tag = eqb-true (tag_of s) 2 d.0; says = eqb-true (length_of s) 18 d.1; begun = ltb-true 0 j.last c.1; in_turn = ltb-true j.last 3 b.1; room = ltb-true j.points POINTS a.1 }

-- such a part is read as a point
reads : (j : Job) (s : List ℕ) → Next j s → field_of j s ≡ Ok (field_in kind.Point (value_of s), 21)
unfolding field_of body_of
reads j s n =
    let h = n.in_turn in
    let l = n.long in
    rw (le-ltb (length s) 3 (omega arith), n.tag, n.says, le-ltb 2 j.last (omega arith), ne_eqb j.last 0 (λ z. absurd (omega (arith, n.begun))), lt-ltb 0 j.last n.begun, le-ltb (length s) 21 l, lt-leb POINTS j.points n.room)

-- ---- the needs of the code
module _ (j : Job) (s : List ℕ) where
  pub next_short : length s < 21 → false ≡ point_next j s
  unfolding point_next
  next_short h = rw (lt-ltb (length s) 21 h)

  pub next_tests : (says : ℕ) → 21 ≤ length s → Number 2 1 s says → (eqb (get_or s 0 0) 2 && eqb says 18 && ltb 0 j.last && ltb j.last 3 && ltb j.points 2048) ≡ point_next j s
  unfolding point_next
  next_tests says h n = rw (le-ltb (length s) 21 h, n.is)

pub value_put : (v : List ℕ) (i : ℕ) (w w' : List ℕ) (x y nx pv rc z : ℕ) → x ≡ raised COORDINATE (le 4 0 v) → y ≡ raised COORDINATE (le 4 4 v) → Number 2 8 v nx → Number 2 10 v pv → Number 2 12 v rc → z ≡ raised 0 (le 4 14 v)
    → w' ≡ put_point i x y nx pv rc z w → w' ≡ put_value v i w
unfolding put_value
value_put v i w w' x y nx pv rc z ex ey en ep er ez e = e ∙ rw (ex, ey, en.is, ep.is, er.is, ez)

-- ---- the loop: the turns so far
pub record Placed (bytes : List ℕ) (j : Job) (w₀ : List ℕ) (k : Job) (w : List ℕ) : Type 0 where
  pub turns : PointTurns bytes j w₀ k w
  pub within : Within k
  pub kept : length w ≡ length w₀
  pub long : BLOCK ≤ length w

pub none_placed : (bytes : List ℕ) (j : Job) (w : List ℕ) → BLOCK ≤ length w → Within j → Placed bytes j w j w
none_placed bytes j w h i = record { turns = none; within = i; kept = refl; long = h }

pub all_placed : (bytes : List ℕ) (j : Job) (w₀ : List ℕ) (k : Job) (w : List ℕ) → Placed bytes j w₀ k w → PointTurns bytes j w₀ k w
all_placed bytes j w₀ k w p = p.turns

module _ (k : Job) (part : List ℕ) (b : Bool) (eb : b ≡ point_next k part) (h : not b ≡ false) where
  fact : Next k part
  fact = next_says k part (sym eb ∙ not-false b h)

  pub header_there : 3 ≤ length part
  header_there = omega (arith, fact.long)

  pub value_there : (v : List ℕ) → Part 3 part v → 18 ≤ length v
  value_there v q = omega (arith, fact.long, q.long)

  pub place_free : k.points < 2048
  place_free = fact.room

  module _ (bytes : List ℕ) (p : Part k.at bytes part) where
    pub not_far : length bytes < 2 ^ 63 → k.at + 21 < 2 ^ 64
    not_far l = omega (arith, fact.long, p.long)

    module _ (n : Job) (en : n ≡ past_point k) where
      pub one_less : length bytes - n.at < length bytes - k.at
      one_less = omega (arith, fact.long, p.long, ap (λ (x : Job). x.at) en)

      module _ (w v : List ℕ) (q : Part 3 part v) (w' : List ℕ) (ew : w' ≡ put_value v k.points w) where
        turned : PointTurn bytes k w n w'
        unfolding turn_of put_value
        turned = record { here = omega (arith, fact.long, p.long); is = λ ss js. rw (← p.is, reads k part fact, ew, en, q.is) }

        pub one_more : (j : Job) (w₀ : List ℕ) → Placed bytes j w₀ k w → length w' ≡ length w → Placed bytes j w₀ n w'
        one_more j w₀ P l =
            let i = P.within in
            record { turns = more k w n w' P.turns turned; within = rw en (record { points = omega (arith, fact.room); records = i.records; segments = i.segments; joins = i.joins }); kept = l ∙ P.kept; long = omega (arith, P.long) }

-- ---- the loop over fields: a turn, and the points after it
turns_going : {bytes : List ℕ} {F : ReadEnd} {j : Job} {w : List ℕ} {n : Job} {v ss js : List ℕ} → Going bytes F j w ss js → PointTurns bytes j w n v → Going bytes F n v ss js
turns_going g none = g
turns_going {ss = ss} {js = js} g (more k u n v T t) = next (turns_going g T) t.here refl (t.is ss js)

turns_fall : {bytes : List ℕ} {F : ReadEnd} {j : Job} {w : List ℕ} {n : Job} {v ss js : List ℕ} → Going bytes F j w ss js → PointTurns bytes j w n v → length bytes - n.at ≤ length bytes - j.at
turns_fall g none = omega arith
turns_fall {ss = ss} {js = js} g (more k u n v T t) = omega (arith, turns_fall g T, falls (turns_going g T) t.here refl (t.is ss js))

module _ {bytes : List ℕ} {F : ReadEnd} {j n : Job} {w ss js v ts ks : List ℕ} {r : Result Job Refusal} (g : Going bytes F j w ss js) (h : j.at < length bytes) (e : r ≡ Ok n) (s : end r v ts ks ≡ turn_of bytes j w ss js) where
  pub still_within : Within n
  still_within = (next g h e s).within

  module _ {m : Job} {u : List ℕ} (T : PointTurns bytes n v m u) where
    pub run_next : Going bytes F m u ts ks
    run_next = turns_going (next g h e s) T

    pub run_falls : length bytes - m.at < length bytes - j.at
    run_falls = omega (arith, falls g h e s, turns_fall (next g h e s) T)
