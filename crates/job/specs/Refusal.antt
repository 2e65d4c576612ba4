-- The table of refusals: document 01's twelve, and document 02's 13 "bad rate", 14 "unknown name", 15 "no place", 16 "settings differ", 17 "past mending".
use Rattle.std.specs.Prelude.{ℕ}
use Rattle.job.specs.declared.refusal.Refusal.{Refusal}
use Rattle.job.specs.declared.refusal.Refusal.TheVariants.{Torn, Strange, Crowded, OffTheTable, NoSuch, Loose, Muddled, OpenEdge, Knot, Full, SmallTray, OutOfTurn, BadRate, UnknownName, NoPlace, SettingsDiffer, PastMending}

abbrev pub number_of : Refusal → ℕ
number_of Torn = 1
number_of Strange = 2
number_of Crowded = 3
number_of OffTheTable = 4
number_of NoSuch = 5
number_of Loose = 6
number_of Muddled = 7
number_of OpenEdge = 8
number_of Knot = 9
number_of Full = 10
number_of SmallTray = 11
number_of OutOfTurn = 12
number_of BadRate = 13
number_of UnknownName = 14
number_of NoPlace = 15
number_of SettingsDiffer = 16
number_of PastMending = 17
