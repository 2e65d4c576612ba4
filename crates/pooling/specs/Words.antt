-- Two drawings on one table, as words: column after column, then the boxes and the counts. Every other word of the first's work space stays.
use Rattle.std.specs.Prelude.{ℕ, zero, suc, ◌+◌, List, [], ◌∷◌, ◌++◌}
use Rattle.store.specs.Field.{Field, PointCol, RecordCol, pt, rc, ct, X, Y, NEXT, PREV, REC, Z, FLAGS, OWNER, FIRST, MARK, PRESENT, START, CUT, REASON, TAKER, POINTS, RECORDS}
use Rattle.store.specs.Words.{cell, put, view}
use Rattle.store.specs.Boxes.{sides_at, set_sides}
use Rattle.pooling.specs.declared.Used.{Used}
use Rattle.pooling.specs.Pooled.{point_kind, record_kind, raise_as, used_in}

-- the first n numbers of v's column, each as g makes it, into w's column from number m on
unfoldable pub lay_column : Field → (ℕ → ℕ) → ℕ → ℕ → List ℕ → List ℕ → List ℕ
lay_column f g m zero v w = w
lay_column f g m (suc n) v w = put f (lay_column f g m n v w) (m + n) (g (cell f v n))

-- the boxes of v's first n records, word for word, as the boxes of w's records from number m on; a record without a ring has its four words, too
unfoldable pub lay_sides : ℕ → ℕ → List ℕ → List ℕ → List ℕ
lay_sides m zero v w = w
lay_sides m (suc n) v w = set_sides (lay_sides m n v w) (m + n) (sides_at v n)

-- the columns, in the layout's order
abbrev pub point_columns : List PointCol
point_columns = X ∷ Y ∷ NEXT ∷ PREV ∷ REC ∷ Z ∷ []

-- what a record is given with, and how far it is
abbrev pub given_columns : List RecordCol
given_columns = FLAGS ∷ OWNER ∷ FIRST ∷ []

abbrev pub progress_columns : List RecordCol
progress_columns = MARK ∷ PRESENT ∷ START ∷ CUT ∷ []

-- why it has no ring
abbrev pub reason_columns : List RecordCol
reason_columns = REASON ∷ TAKER ∷ []

abbrev pub record_columns : List RecordCol
record_columns = given_columns ++ (progress_columns ++ reason_columns)

module _ (a b : Used) (v : List ℕ) where
  -- the second's points after the first's, where the first has the counts a and the second b
  abbrev pub lay_points : List PointCol → List ℕ → List ℕ
  lay_points [] w = w
  lay_points (f ∷ fs) w = lay_points fs (lay_column (pt f) (raise_as (point_kind f) a b) a.points b.points v w)

  abbrev pub lay_records : List RecordCol → List ℕ → List ℕ
  lay_records [] w = w
  lay_records (f ∷ fs) w = lay_records fs (lay_column (rc f) (raise_as (record_kind f) a b) a.records b.records v w)

  -- and the counts added
  abbrev pub lay_counts : List ℕ → List ℕ
  lay_counts w = put (ct RECORDS) (put (ct POINTS) w 0 (a.points + b.points)) 0 (a.records + b.records)

  unfoldable pub lay_all : List ℕ → List ℕ
  lay_all w = lay_counts (lay_sides a.records b.records v (lay_records record_columns (lay_points point_columns w)))

-- the second's drawing v laid into the first's work space w
abbrev pub pooled_words : List ℕ → List ℕ → List ℕ
pooled_words w v = lay_all (used_in (view w)) (used_in (view v)) v w
