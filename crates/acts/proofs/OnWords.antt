-- The same on words: each act's writes are within the columns, so the step on words shows the step on the store.
use Prim.Native.Nat.{ℕ, ◌+◌, ◌≤◌, ◌<◌}
use mathlib.Core.Path.{◌≡◌, refl, ap, ◌∙◌, sym, subst}
use mathlib.Core.Bool.{Bool, true, false}
use mathlib.Core.List.{List, ◌∷◌}
use native.Mathlib.Omega.{arith}
use lib.ListN.{length}
use Rattle.rings.proofs.Counting.{occ_head, occ_last_of}
use Rattle.rings.proofs.Linking.{prev_is}
use Rattle.rings.specs.Circle.{last_of}
use Rattle.rings.specs.Progress.{Due}
use Rattle.rings.specs.Whole.{Whole}
use Rattle.lone.specs.Act.{Act, stay, discard, drop_point, move_on, to_first, double, cut, takes_points}
use Rattle.store.proofs.Storing.{view_writes, length_writes}
use Rattle.store.specs.Field.{pt, rc, NEXT, PREV, PRESENT, BLOCK}
use Rattle.store.specs.Sound.{pts, recs, Closed}
use Rattle.store.specs.Good.{Sound}
use Rattle.store.specs.Words.{Store, Write, view, on_words}
use Rattle.store.specs.Stores.{on_store, Within}
use Rattle.acts.proofs.Acting.{Ready, to_discard, to_move, to_go_first, to_drop, to_double, to_cut}
use Rattle.acts.proofs.Cutting.{Four, four}
use Rattle.acts.proofs.Positions.{Loop}
use Rattle.acts.specs.Apply.{Coding, ring_writes, off_writes, takes_record, after_w}
use Rattle.acts.specs.Codes.{after}
use Rattle.acts.specs.Writes.{move_writes, to_first_writes, discard_writes, drop_writes, double_writes, cut_writes, cut_put_writes, offcut_writes}

module _ {P : Type 0} (f : Coding P) where
  module _ (s : Store) (o : Sound s) (i : ℕ) (c : Closed s i) where
    i_in : i < 512
    i_in = omega (arith, c.known, o.few_records)

    -- the points about the present one
    pub record About : Type 0 where
      pub x_in : s (rc PRESENT) i < 2048
      pub p_in : s (pt PREV) (s (rc PRESENT) i) < 2048
      pub n_in : s (pt NEXT) (s (rc PRESENT) i) < 2048

    about : (d : Due) (b : Loop s i (s (rc PRESENT) i) d) (y : ℕ) (r : List ℕ) → b.others ≡ y ∷ r → About
    about d b y r e =
        let w : Whole (s (pt NEXT)) (s (pt PREV)) (pts s) (s (rc PRESENT) i ∷ y ∷ r) = subst (λ (l : List ℕ). Whole (s (pt NEXT)) (s (pt PREV)) (pts s) (s (rc PRESENT) i ∷ l)) e b.whole in
        let p : s (pt PREV) (s (rc PRESENT) i) ≡ last_of y r = prev_is (s (pt NEXT)) (s (pt PREV)) (s (rc PRESENT) i) (y ∷ r) w.linked in
        let n : s (pt NEXT) (s (rc PRESENT) i) ≡ y = w.linked.0 in
        record {
          x_in = omega (arith, o.few_points, w.below (s (rc PRESENT) i) (occ_head (s (rc PRESENT) i) (y ∷ r)));
          p_in = omega (arith, o.few_points, w.below (last_of y r) (omega (arith, occ_last_of y r)));
          n_in = omega (arith, o.few_points, w.below y (omega (arith, occ_head y r)));
        }

    second : (y z u : ℕ) (r : List ℕ) → Four s i y z u r → s (pt NEXT) (s (pt NEXT) (s (rc PRESENT) i)) < 2048
    second y z u r q = omega (arith, o.few_points, q.next_z, q.whole.below z (omega (arith, occ_head z (u ∷ r))))

    within_drop : About → Within (drop_writes s i)
    within_drop a = (i_in, (a.p_in, (a.n_in, (i_in, (i_in, tt)))))

    within_double : About → pts s < 2048 → (vx vy vz : ℕ) (d : Due) → Within (double_writes s i vx vy vz d)
    within_double a k vx vy vz d = (omega arith, (k, (k, (k, (k, (k, (k, (a.p_in, (a.x_in, (i_in, tt))))))))))

    within_cut : About → s (pt NEXT) (s (pt NEXT) (s (rc PRESENT) i)) < 2048 → (d : Due) → Within (cut_writes s i d)
    within_cut a z d = (a.p_in, (z, (i_in, (i_in, (i_in, tt)))))

    within_put : About → s (pt NEXT) (s (pt NEXT) (s (rc PRESENT) i)) < 2048 → pts s < 2048 → (vx vy vz : ℕ) (d : Due) → Within (cut_put_writes s i vx vy vz d)
    within_put a z k vx vy vz d = (omega arith, (k, (k, (k, (k, (k, (k, (a.p_in, (z, (i_in, (i_in, (i_in, tt))))))))))))

    within_ring : About → s (pt NEXT) (s (pt NEXT) (s (rc PRESENT) i)) < 2048 → (v : P) (put : Bool) (d : Due) → pts s + takes_points (cut v put false d) ≤ 2048 → Within (ring_writes f s i v put d)
    within_ring a z v true d h = within_put a z (omega arith) (f.xw v) (f.yw v) (f.zw v) d
    within_ring a z v false d h = within_cut a z d

  within_offcut : (s : Store) (i x y vx vy vz : ℕ) → x < 2048 → y < 2048 → pts s < 2048 → recs s < 512 → Within (offcut_writes s i x y vx vy vz)
  within_offcut s i x y vx vy vz hx hy k r = (omega arith, (hx, (hy, (omega arith, (k, (k, (k, (k, (k, (k, (hy, (hx, (r, (r, (r, (r, (r, (r, (r, tt)))))))))))))))))))

  -- what an act writes is within the columns
  abbrev pub Inside : List ℕ → ℕ → Act P → Type 0
  Inside w i stay = Unit {0}
  Inside w i (discard y) = Within (discard_writes i y)
  Inside w i drop_point = Within (drop_writes (view w) i)
  Inside w i (move_on d) = Within (move_writes (view w) i d)
  Inside w i (to_first d) = Within (to_first_writes (view w) i d)
  Inside w i (double v d) = Within (double_writes (view w) i (f.xw v) (f.yw v) (f.zw v) d)
  Inside w i (cut v put off d) = Within (ring_writes f (view w) i v put d) × Within (off_writes f (view w) (view (on_words w (ring_writes f (view w) i v put d))) i v off)

  -- so the words show the store
  view_inside : (w : List ℕ) (i : ℕ) → BLOCK ≤ length w → (act : Act P) → Inside w i act → view (after_w f w i act) ≡ after f (view w) i act
  view_inside w i l stay h = refl
  view_inside w i l (discard y) h = view_writes w (discard_writes i y) l h
  view_inside w i l drop_point h = view_writes w (drop_writes (view w) i) l h
  view_inside w i l (move_on d) h = view_writes w (move_writes (view w) i d) l h
  view_inside w i l (to_first d) h = view_writes w (to_first_writes (view w) i d) l h
  view_inside w i l (double v d) h = view_writes w (double_writes (view w) i (f.xw v) (f.yw v) (f.zw v) d) l h
  view_inside w i l (cut v put off d) h =
      let r : List Write = ring_writes f (view w) i v put d in
      view_writes (on_words w r) (off_writes f (view w) (view (on_words w r)) i v off) (omega (arith, length_writes w r)) h.1
      ∙ ap (λ (s : Store). on_store s (off_writes f (view w) s i v off)) (view_writes w r l h.0)

  module _ (w : List ℕ) (long : BLOCK ≤ length w) (o : Sound (view w)) (i : ℕ) (c : Closed (view w) i) where
    k : i < 512
    k = omega (arith, c.known, o.few_records)

    -- the ring's own part, and then the offcut
    cut_inside : (v : P) (put off : Bool) (d : Due) (a : About (view w) o i c) → view w (pt NEXT) (view w (pt NEXT) (view w (rc PRESENT) i)) < 2048
        → pts (view w) + takes_points (cut v put off d) ≤ 2048 → recs (view w) + takes_record (cut v put off d) ≤ 512 → Inside w i (cut v put off d)
    cut_inside v put off d a z h m = go put off h m
      where
        ring : (put : Bool) → pts (view w) + takes_points (cut v put false d) ≤ 2048 → Within (ring_writes f (view w) i v put d)
        ring put h = within_ring (view w) o i c a z v put d h

        offcut : (w₁ : List ℕ) (s₁ : Store) → view w₁ ≡ s₁ → pts s₁ < 2048 → recs s₁ < 512 → Within (off_writes f (view w) (view w₁) i v true)
        offcut w₁ s₁ e n r = within_offcut (view w₁) i (view w (rc PRESENT) i) (view w (pt NEXT) (view w (rc PRESENT) i)) (f.xw v) (f.yw v) (f.zw v) a.x_in a.n_in (subst (λ (s : Store). pts s < 2048) (sym e) n) (subst (λ (s : Store). recs s < 512) (sym e) r)

        go : (put off : Bool) → pts (view w) + takes_points (cut v put off d) ≤ 2048 → recs (view w) + takes_record (cut v put off d) ≤ 512 → Inside w i (cut v put off d)
        go put false h m = (ring put h, tt)
        go true true h m = (ring true (omega arith), offcut (on_words w (ring_writes f (view w) i v true d)) (on_store (view w) (ring_writes f (view w) i v true d)) (view_writes w (ring_writes f (view w) i v true d) long (ring true (omega arith))) (omega arith) (omega arith))
        go false true h m = (ring false (omega arith), offcut (on_words w (ring_writes f (view w) i v false d)) (on_store (view w) (ring_writes f (view w) i v false d)) (view_writes w (ring_writes f (view w) i v false d) long (ring false (omega arith))) (omega arith) (omega arith))

    pub inside : (act : Act P) → Ready f (view w) i act → pts (view w) + takes_points act ≤ 2048 → recs (view w) + takes_record act ≤ 512 → Inside w i act
    inside act (to_discard y) h m = (k, (k, (k, tt)))
    inside act (to_move d₀ d e g) h m = (k, (k, tt))
    inside act (to_go_first d₀ d e g) h m = (k, (k, (k, tt)))
    inside act (to_drop e b z u r g) h m = within_drop (view w) o i c (about (view w) o i c _ b z (u ∷ r) g)
    inside act (to_double d₀ d b y r e v n) h m = within_double (view w) o i c (about (view w) o i c d₀ b y r e) (omega arith) (f.xw v) (f.yw v) (f.zw v) d
    inside act (to_cut d₀ d b y z u r e v n put off) h m = cut_inside v put off d (about (view w) o i c d₀ b y (z ∷ u ∷ r) e) (second (view w) o i c y z u r (four (view w) i d₀ b y z u r e)) h m

    pub after_view : (act : Act P) → Ready f (view w) i act → pts (view w) + takes_points act ≤ 2048 → recs (view w) + takes_record act ≤ 512 → view (after_w f w i act) ≡ after f (view w) i act
    after_view act r h m = view_inside w i long act (inside act r h m)

  pub length_after : (w : List ℕ) (i : ℕ) (act : Act P) → length (after_w f w i act) ≡ length w
  length_after w i stay = refl
  length_after w i (discard y) = length_writes w (discard_writes i y)
  length_after w i drop_point = length_writes w (drop_writes (view w) i)
  length_after w i (move_on d) = length_writes w (move_writes (view w) i d)
  length_after w i (to_first d) = length_writes w (to_first_writes (view w) i d)
  length_after w i (double v d) = length_writes w (double_writes (view w) i (f.xw v) (f.yw v) (f.zw v) d)
  length_after w i (cut v put off d) =
      length_writes (on_words w (ring_writes f (view w) i v put d)) (off_writes f (view w) (view (on_words w (ring_writes f (view w) i v put d))) i v off) ∙ length_writes w (ring_writes f (view w) i v put d)
