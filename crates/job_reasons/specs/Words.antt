-- The words of a record's line, as bytes.
use Rattle.std.specs.Prelude.{ℕ, List, [], ◌∷◌}

-- "record "
abbrev pub RECORD : List ℕ
RECORD = 114 ∷ 101 ∷ 99 ∷ 111 ∷ 114 ∷ 100 ∷ 32 ∷ []

-- ": "
abbrev pub COLON : List ℕ
COLON = 58 ∷ 32 ∷ []

-- "no ring in the job"
abbrev pub NO_RING_IN_JOB : List ℕ
NO_RING_IN_JOB = 110 ∷ 111 ∷ 32 ∷ 114 ∷ 105 ∷ 110 ∷ 103 ∷ 32 ∷ 105 ∷ 110 ∷ 32 ∷ 116 ∷ 104 ∷ 101 ∷ 32 ∷ 106 ∷ 111 ∷ 98 ∷ []

-- "joined into record "
abbrev pub JOINED_INTO : List ℕ
JOINED_INTO = 106 ∷ 111 ∷ 105 ∷ 110 ∷ 101 ∷ 100 ∷ 32 ∷ 105 ∷ 110 ∷ 116 ∷ 111 ∷ 32 ∷ 114 ∷ 101 ∷ 99 ∷ 111 ∷ 114 ∷ 100 ∷ 32 ∷ []

-- "too small to begin with"
abbrev pub SMALL_RING : List ℕ
SMALL_RING = 116 ∷ 111 ∷ 111 ∷ 32 ∷ 115 ∷ 109 ∷ 97 ∷ 108 ∷ 108 ∷ 32 ∷ 116 ∷ 111 ∷ 32 ∷ 98 ∷ 101 ∷ 103 ∷ 105 ∷ 110 ∷ 32 ∷ 119 ∷ 105 ∷ 116 ∷ 104 ∷ []

-- "too little left once points were removed"
abbrev pub RING_FELL : List ℕ
RING_FELL = 116 ∷ 111 ∷ 111 ∷ 32 ∷ 108 ∷ 105 ∷ 116 ∷ 116 ∷ 108 ∷ 101 ∷ 32 ∷ 108 ∷ 101 ∷ 102 ∷ 116 ∷ 32 ∷ 111 ∷ 110 ∷ 99 ∷ 101 ∷ 32 ∷ 112 ∷ 111 ∷ 105 ∷ 110 ∷ 116 ∷ 115 ∷ 32 ∷ 119 ∷ 101 ∷ 114 ∷ 101 ∷ 32 ∷ 114 ∷ 101 ∷ 109 ∷ 111 ∷ 118 ∷ 101 ∷ 100 ∷ []

-- "area under 2 at a crossing"
abbrev pub SMALL_AREA : List ℕ
SMALL_AREA = 97 ∷ 114 ∷ 101 ∷ 97 ∷ 32 ∷ 117 ∷ 110 ∷ 100 ∷ 101 ∷ 114 ∷ 32 ∷ 50 ∷ 32 ∷ 97 ∷ 116 ∷ 32 ∷ 97 ∷ 32 ∷ 99 ∷ 114 ∷ 111 ∷ 115 ∷ 115 ∷ 105 ∷ 110 ∷ 103 ∷ []

-- "too few points left for an outline"
abbrev pub SHORT_PATH : List ℕ
SHORT_PATH = 116 ∷ 111 ∷ 111 ∷ 32 ∷ 102 ∷ 101 ∷ 119 ∷ 32 ∷ 112 ∷ 111 ∷ 105 ∷ 110 ∷ 116 ∷ 115 ∷ 32 ∷ 108 ∷ 101 ∷ 102 ∷ 116 ∷ 32 ∷ 102 ∷ 111 ∷ 114 ∷ 32 ∷ 97 ∷ 110 ∷ 32 ∷ 111 ∷ 117 ∷ 116 ∷ 108 ∷ 105 ∷ 110 ∷ 101 ∷ []

-- "too small for an outline"
abbrev pub SMALL_PATH : List ℕ
SMALL_PATH = 116 ∷ 111 ∷ 111 ∷ 32 ∷ 115 ∷ 109 ∷ 97 ∷ 108 ∷ 108 ∷ 32 ∷ 102 ∷ 111 ∷ 114 ∷ 32 ∷ 97 ∷ 110 ∷ 32 ∷ 111 ∷ 117 ∷ 116 ∷ 108 ∷ 105 ∷ 110 ∷ 101 ∷ []

-- "closed outline "
abbrev pub CLOSED_OUTLINE : List ℕ
CLOSED_OUTLINE = 99 ∷ 108 ∷ 111 ∷ 115 ∷ 101 ∷ 100 ∷ 32 ∷ 111 ∷ 117 ∷ 116 ∷ 108 ∷ 105 ∷ 110 ∷ 101 ∷ 32 ∷ []

-- "open outline "
abbrev pub OPEN_OUTLINE : List ℕ
OPEN_OUTLINE = 111 ∷ 112 ∷ 101 ∷ 110 ∷ 32 ∷ 111 ∷ 117 ∷ 116 ∷ 108 ∷ 105 ∷ 110 ∷ 101 ∷ 32 ∷ []
