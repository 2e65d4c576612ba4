-- A job in the work space: its fields, then the settings and the two counts.
use Rattle.std.specs.Prelude.{ℕ, List, [], ◌∷◌, Ok, Err}
use Rattle.job.specs.declared.Job.{Job}
use Rattle.store.specs.Field.{ct, SETTINGS, POINTS, RECORDS}
use Rattle.store.specs.Words.{write, on_words}
use Rattle.reading.specs.Fill.{ReadEnd, end, fill_of}

abbrev pub counted : Job → List ℕ → List ℕ
counted j w = on_words w (write (ct SETTINGS) 0 j.bits ∷ write (ct POINTS) 0 j.points ∷ write (ct RECORDS) 0 j.records ∷ [])

abbrev pub with_counts : ReadEnd → ReadEnd
with_counts (end (Ok j) w ss js) = end (Ok j) (counted j w) ss js
with_counts (end (Err r) w ss js) = end (Err r) w ss js

-- rows 1, 2 and 3 of a whole job, and where its numbers go
unfoldable pub read_of : List ℕ → List ℕ → List ℕ → List ℕ → ReadEnd
read_of bytes w ss js = with_counts (fill_of bytes w ss js)
