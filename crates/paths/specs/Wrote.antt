-- Writing out: what it answers and leaves in the tray, for every store and every tray.
use Rattle.std.specs.Prelude.{ℕ, cond, List, leb, length, Result, Ok, Err}
use Rattle.job.specs.declared.refusal.Refusal.TheVariants.{SmallTray}
use Rattle.store.specs.Words.{Store}
use Rattle.job.specs.declared.refusal.Refusal.{Refusal}
use Rattle.paths.specs.declared.Written.{Written}
use Rattle.paths.specs.Path.{closed_paths, open_paths}
use Rattle.paths.specs.Tray.{fields_of, padded}

-- the answer and the tray
pub record Wrote : Type 0 where
  pub answer : Result Written Refusal
  pub tray : List ℕ

abbrev pub wrote : Result Written Refusal → List ℕ → Wrote
wrote r t = record { answer = r; tray = t }

-- the answer that tells of so many closed and open paths
abbrev pub ok_paths : ℕ → ℕ → Result Written Refusal
ok_paths c o = Ok (record { closed = c; «open» = o })

-- the bytes of c closed and o open paths, and then zeros; or row 11, "the paths need more bytes than the tray has", and the tray as it was
abbrev pub tray_of : List ℕ → ℕ → ℕ → List ℕ → Wrote
tray_of bytes c o t = cond (leb (length bytes) (length t)) (wrote (ok_paths c o) (padded (length t) bytes)) (wrote (Err SmallTray) t)

-- all paths of a store
unfoldable pub build_paths64 : Store → List ℕ → Wrote
build_paths64 s t = tray_of (fields_of s) (length (closed_paths s)) (length (open_paths s)) t
