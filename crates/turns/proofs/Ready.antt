-- A sound work space meets what a decision requires: its first point and its present place are on a ring; and the real geometry has the laws.
use Prim.Native.Nat.{ℕ}
use mathlib.Core.Path.{◌≡◌, ap, ◌∙◌, subst}
use mathlib.Core.Bool.{Bool}
use mathlib.Core.List.{List}
use native.Mathlib.Omega.{arith}
use lib.IntN.{ℤ}
use Rattle.geometry.specs.declared.Point.{Point}
use Rattle.geometry.specs.Table.{InTable}
use Rattle.crossing.proofs.Crossings.{crossing_in_table}
use Rattle.lone.specs.Act.{Act}
use Rattle.lone.specs.Plane.{plane}
use Rattle.lone.proofs.Plane.{plane_laws}
use Rattle.numbers.specs.Raised.{coordinate}
use Rattle.job.specs.Limits as limit
use Rattle.store.specs.Value.{word_of, preserve_collinear}
use Rattle.store.specs.Field.{rc, FIRST, PRESENT}
use Rattle.store.specs.Words.{view}
use Rattle.store.proofs.Soundness.{first_on}
use Rattle.primitives.proofs.Coordinates.{lowered_in, raise_low, raised_back}
use Rattle.walks.proofs.Visiting.{on_ring_lem}
use Rattle.acts.specs.Codes.{Codes}
use Rattle.acts.specs.Laws.{Laws}
use Rattle.acts.specs.Step.{act_at}
use Rattle.turns.specs.Form.{raised, geometry_of}
use Rattle.turns.specs.Reads.{Steps, Going}
use Rattle.turns.specs.Decide.{decide_at}
use Rattle.turns.proofs.Deciding.{decide_is}

-- a value on the table is one that three words hold
pub codes : (p : Point) → InTable p → Codes raised p
codes p t =
    record {
      x_in = raise_low p.x t.x;
      y_in = raise_low p.y t.y;
      again = ap (λ (a : ℤ). made a (coordinate limit.COORDINATE (word_of p.y))) (raised_back p.x t.x) ∙ ap (made p.x) (raised_back p.y t.y);
    }
  where
    made : ℤ → ℤ → Point
    made a b = record { x = a; y = b; z = p.z }

pub in_codes : (p : Point) → Codes raised p → InTable p
in_codes p c = subst InTable c.again (record { x = lowered_in (raised.xw p) c.x_in; y = lowered_in (raised.yw p) c.y_in })

-- what a step needs of the geometry
pub laws : (keep : Bool) → Laws (plane keep) raised
laws keep =
    record {
      flat = plane_laws keep;
      meets = λ a b c d A B C D h. codes _ (crossing_in_table c d (in_codes a A) (in_codes b B));
      reads = λ a b c ha hb. codes (raised.of a b c) (record { x = lowered_in a ha; y = lowered_in b hb });
    }

module _ (w : List ℕ) (i : ℕ) (s : Steps w i) where
  pub going : Going w i
  going =
      record {
        long = s.long;
        record_in = omega (arith, s.closed.known, s.sound.few_records);
        first_on = on_ring_lem w s.long s.sound i s.closed.known (view w (rc FIRST) i) (first_on (view w) i s.closed.ringed);
        present_on = on_ring_lem w s.long s.sound i s.closed.known (view w (rc PRESENT) i) ((s.sound.good i s.closed.known).going s.closed s.unfinished);
      }

  pub decided : (r : Act Point) → r ≡ decide_at raised.of (geometry_of (view w)) (view w) i → r ≡ act_at (geometry_of (view w)) raised (view w) i
  decided r e = e ∙ decide_is raised.of (geometry_of (view w)) (view w) (plane_laws (preserve_collinear (view w))) s.sound i s.closed
