-- Keeping a state, going back to it, dropping it, as calls: what each answers and the words that it leaves, on every work space and for every name of one byte.
use Rattle.std.specs.Prelude.{ℕ, ◌+◌, cond, List, ◌++◌, ltb, set, drop, Result, Ok, Err}
use Rattle.std.proofs.Math.Seq.{paste}
use Rattle.job.specs.declared.refusal.Refusal.{Refusal}
use Rattle.job.specs.declared.refusal.Refusal.TheVariants.{UnknownName, NoPlace}
use Rattle.store.specs.Field.{BLOCK, STATES, NAMES}
use Rattle.store.specs.States.{word_of_name, copy_at, kept_block}
use Rattle.handed.specs.Handed.{handed_of}
use Rattle.audit.specs.Left.{Left, left}
use Rattle.states.specs.Places.{place_of, keep_place}

-- ---- at a place

-- the live block is copied to place p, and its word says the name
abbrev pub stored : List ℕ → ℕ → ℕ → List ℕ
stored w p n = set (paste w (copy_at p) w BLOCK) (NAMES + p) (word_of_name n)

-- "going back makes points, records, progress, reasons and counts equal to those kept, the name staying kept": the copy becomes the live block, as it is kept
abbrev pub restored : List ℕ → ℕ → List ℕ
restored w p = kept_block w p ++ drop BLOCK w

-- "dropping a name frees its place for another"
abbrev pub freed : List ℕ → ℕ → List ℕ
freed w p = set w (NAMES + p) 0

-- 15, "keeping a fifth name"; 14, "going back to, or dropping, a name not kept". Refused, every word is as found
abbrev pub keep_at : List ℕ → ℕ → ℕ → Left
keep_at w p n = cond (ltb p STATES) (left (Ok tt) (stored w p n)) (left (Err NoPlace) w)

abbrev pub back_at : List ℕ → ℕ → Left
back_at w p = cond (ltb p STATES) (left (Ok tt) (restored w p)) (left (Err UnknownName) w)

abbrev pub drop_at : List ℕ → ℕ → Left
drop_at w p = cond (ltb p STATES) (left (Ok tt) (freed w p)) (left (Err UnknownName) w)

-- ---- by what was found out about the work space

abbrev pub keep_by : Result (Unit {0}) Refusal → List ℕ → ℕ → Left
keep_by (Err r) w n = left (Err r) w
keep_by (Ok _) w n = keep_at w (keep_place w n) n

abbrev pub back_by : Result (Unit {0}) Refusal → List ℕ → ℕ → Left
back_by (Err r) w n = left (Err r) w
back_by (Ok _) w n = back_at w (place_of w n)

abbrev pub drop_by : Result (Unit {0}) Refusal → List ℕ → ℕ → Left
drop_by (Err r) w n = left (Err r) w
drop_by (Ok _) w n = drop_at w (place_of w n)

-- ---- `keep`, `go_back`, `drop`

unfoldable pub keep_of : List ℕ → ℕ → Left
keep_of w n = keep_by (handed_of w) w n

unfoldable pub go_back_of : List ℕ → ℕ → Left
go_back_of w n = back_by (handed_of w) w n

unfoldable pub drop_of : List ℕ → ℕ → Left
drop_of w n = drop_by (handed_of w) w n
