-- How a field is placed, by its case, and that an accepted field has room: each law's premises are what the calls ensure.
use mathlib.Core.Path.{◌≡◌}
use mathlib.Core.Logic.{◌≢◌}
use mathlib.Core.Bool.{false}
use mathlib.Core.List.{List}
use Prim.Native.Nat.{ℕ, ◌^◌, ◌<◌}
use native.Mathlib.Omega.{arith}
use lib.ListN.{length, set}
use borrow.Author.Tests.{leb-false, eq-eqb, ne_eqb}
use Rattle.std.proofs.Common.{Result, Ok, Err}
use Rattle.numbers.specs.Written.{Part}
use Rattle.job.specs.Limits.{POINTS, RECORDS, SEGMENTS, JOINS}
use Rattle.job.specs.Field.{field_in, crowded, field_of}
use Rattle.job.specs.Job.{past, Within}
use Rattle.job.proofs.Accepted.{Accepted, accepted}
use Rattle.job.specs.declared.Job.{Job}
use Rattle.job.specs.declared.refusal.Refusal.{Refusal}
use Rattle.job.specs.declared.field.Kind.{Kind}
use Rattle.job.specs.declared.field.Kind.TheVariants as kind
use Rattle.job.specs.declared.field.Field.{Field}
use Rattle.job.specs.declared.field.Field.TheVariants.{Settings, Point, Record, Segment, Join}
use Rattle.store.specs.Field.{NONE}
use Rattle.store.specs.Reason.{NO_RING}
use Rattle.reading.specs.Fill.{end, put_point, put_record, put_join, placed, turn_of, reason_read}
use Rattle.reading.specs.Needs.{Space, Room, Placing}

-- why a record has no ring, by its first point
pub no_first : (f : ℕ) → f ≡ NONE → NO_RING ≡ reason_read f
no_first f e = rw (eq-eqb f NONE e)

pub a_first : (f : ℕ) → f ≢ NONE → 0 ≡ reason_read f
a_first f d = rw (ne_eqb f NONE d)

module _ (f : Field) (n : ℕ) (j r : Job) (w ss js : List ℕ) where
  pub placed_settings : (b : ℕ) → f ≡ Settings b → r ≡ past f n j → end (Ok r) w ss js ≡ placed f n j w ss js
  placed_settings b e p = rw (p, e)

  pub placed_point : (x y nx pv rc z : ℕ) (w' : List ℕ) → f ≡ Point x y nx pv rc z → w' ≡ put_point j.points x y nx pv rc z w → r ≡ past (Point x y nx pv rc z) n j → end (Ok r) w' ss js ≡ placed f n j w ss js
  placed_point x y nx pv rc z w' e a p = rw (p, a, e)

  pub placed_record : (fl o fi : ℕ) (w' : List ℕ) → f ≡ Record fl o fi → w' ≡ put_record j.records fl o fi w → r ≡ past (Record fl o fi) n j → end (Ok r) w' ss js ≡ placed f n j w ss js
  placed_record fl o fi w' e a p = rw (p, a, e)

  pub placed_segment : (q : ℕ) (ss' : List ℕ) → f ≡ Segment q → ss' ≡ set ss j.segments q → r ≡ past (Segment q) n j → end (Ok r) w ss' js ≡ placed f n j w ss js
  placed_segment q ss' e a p = rw (p, a, e)

  pub placed_join : (a b : ℕ) (js' : List ℕ) → f ≡ Join a b → js' ≡ put_join j.joins a b js → r ≡ past (Join a b) n j → end (Ok r) w ss js' ≡ placed f n j w ss js
  placed_join a b js' e d p = rw (p, d, e)

-- an accepted field has room
by_kind : (k : Kind) (v : List ℕ) (j : Job) → crowded k j ≡ false → Room (field_in k v) j
by_kind kind.Settings v j c = tt
by_kind kind.Point v j c = leb-false POINTS j.points c
by_kind kind.Record v j c = leb-false RECORDS j.records c
by_kind kind.Segment v j c = leb-false SEGMENTS j.segments c
by_kind kind.Join v j c = leb-false JOINS j.joins c

pub has_room : (j : Job) (s : List ℕ) (f : Field) (n : ℕ) → Accepted j s f n → Room f j
has_room j s f n a = rw a.is (by_kind a.kind _ j a.room)

pub may_place : (bytes part : List ℕ) (j : Job) (w ss js : List ℕ) (r : Result (Field × ℕ) Refusal) (f : Field) (n : ℕ) → Space w ss js → Within j → length bytes < 2 ^ 63 → j.at < length bytes → Part j.at bytes part → r ≡ field_of j part → r ≡ Ok (f, n) → Placing f n j w ss js
may_place bytes part j w ss js r f n s i b l p a e =
    let q : field_of j part ≡ Ok (f, n) = cc in
    let g = accepted j part f n q in
    record { space = s; within = i; room = has_room j part f n g; far = omega (arith, p.long, g.here) }

module _ (bytes part : List ℕ) (j : Job) (w ss js : List ℕ) (r : Result (Field × ℕ) Refusal) (p : Part j.at bytes part) (a : r ≡ field_of j part) where
  pub turn_placed : (f : Field) (n : ℕ) (o : Result Job Refusal) (w' ss' js' : List ℕ) → r ≡ Ok (f, n) → end o w' ss' js' ≡ placed f n j w ss js → end o w' ss' js' ≡ turn_of bytes j w ss js
  unfolding turn_of
  turn_placed f n o w' ss' js' e h = rw (← p.is, ← a, e) h

  pub turn_refused : (x : Refusal) → r ≡ Err x → end (Err x) w ss js ≡ turn_of bytes j w ss js
  unfolding turn_of
  turn_refused x e = rw (← p.is, ← a, e)
