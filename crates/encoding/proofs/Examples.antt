-- Two exports of one triangle (drawing's Examples) are written as the same bytes: those of the first. "Jobs written out carry z, and one that differs gives different bytes."
use mathlib.Core.Path.{◌≡◌, refl, ap, ◌∙◌}
use mathlib.Core.Option.{some}
use Rattle.rings.specs.Circle.{omap}
use Rattle.store.specs.Value.{word_of}
use Rattle.drawing.specs.Places.{next_place, prev_place}
use Rattle.drawing.proofs.Examples.{first_export, second_export, deeper_export, drawn_triangle, first_draws, second_draws, deeper_draws}
use Rattle.encoding.specs.Encode.{ring_holding, its_ring, its_place, spot_number, sheet_of, encode}
use Rattle.encoding.specs.OneWay.{rewritten}

triangle_bytes : encode (drawn_triangle 7) ≡ first_export
unfolding encode sheet_of spot_number its_ring its_place ring_holding next_place prev_place word_of
triangle_bytes = refl

deeper_bytes : encode (drawn_triangle 8) ≡ deeper_export
unfolding encode sheet_of spot_number its_ring its_place ring_holding next_place prev_place word_of
deeper_bytes = refl

pub first_written : rewritten first_export ≡ some first_export
unfolding rewritten
first_written = ap (omap encode) first_draws ∙ ap some triangle_bytes

pub second_written : rewritten second_export ≡ some first_export
unfolding rewritten
second_written = ap (omap encode) second_draws ∙ ap some triangle_bytes

pub deeper_written : rewritten deeper_export ≡ some deeper_export
unfolding rewritten
deeper_written = ap (omap encode) deeper_draws ∙ ap some deeper_bytes
