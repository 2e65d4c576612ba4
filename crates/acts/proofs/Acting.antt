-- Every act at once: what it writes, what it needs of the store, and that it then owes nothing (act-steps).
use Prim.Native.Nat.{ℕ, ◌+◌, ◌≤◌, ◌<◌}
use mathlib.Core.Path.{◌≡◌, refl, ap, ◌∙◌, sym, subst}
use mathlib.Core.Bool.{Bool, true, false}
use mathlib.Core.List.{List, ◌∷◌}
use mathlib.Core.Option.{none, some}
use native.Mathlib.Omega.{arith}
use Rattle.rings.specs.Progress.{Due, removal, Discard}
use Rattle.lone.proofs.Acting.{count}
use Rattle.lone.specs.Act.{Act, discard, drop_point, move_on, to_first, double, cut, rings_new, takes_points, offcuts_new}
use Rattle.store.proofs.Keeping.{Kept}
use Rattle.store.proofs.Storing.{hit}
use Rattle.store.specs.Field.{pt, rc, X, Y, Z, NEXT, PRESENT}
use Rattle.store.specs.Sound.{pts, recs, due_at, Closed}
use Rattle.store.specs.Good.{Sound}
use Rattle.store.specs.Words.{Store}
use Rattle.store.specs.Stores.{on_store}
use Rattle.acts.proofs.Cutting.{Four, four, cut_steps}
use Rattle.acts.proofs.CuttingAway.{plain_away, put_away}
use Rattle.acts.proofs.Doubling.{double_steps}
use Rattle.acts.proofs.Dropping.{drop_steps}
use Rattle.acts.proofs.Offcuts.{offcut_steps, offcut_kept, CutAway}
use Rattle.acts.proofs.Positions.{Loop}
use Rattle.acts.proofs.Progressing.{move_steps, to_first_steps, discard_steps}
use Rattle.acts.proofs.Putting.{put_steps}
use Rattle.acts.proofs.Representing.{ActDone}
use Rattle.acts.specs.Apply.{Coding, takes_record, ring_writes}
use Rattle.acts.specs.Codes.{Codes, after}
use Rattle.acts.specs.Rep.{in_loop}
use Rattle.acts.specs.Value.{value}
use Rattle.acts.specs.Writes.{move_writes, to_first_writes, discard_writes, drop_writes, cut_writes, cut_put_writes, offcut_writes}

module _ {P : Type 0} (f : Coding P) where
  -- what an act needs
  pub data Ready (s : Store) (i : ℕ) : Act P → Type 0 where
    to_discard : (y : Discard) → Ready s i (discard y)
    to_move : (d₀ d : Due) → due_at s i ≡ d₀ → in_loop d₀ ≡ true → Ready s i (move_on d)
    to_go_first : (d₀ d : Due) → due_at s i ≡ d₀ → in_loop d₀ ≡ false → Ready s i (to_first d)
    to_drop : due_at s i ≡ removal → (b : Loop s i (s (rc PRESENT) i) removal) (z w : ℕ) (r : List ℕ) → b.others ≡ z ∷ w ∷ r → Ready s i drop_point
    to_double : (d₀ d : Due) (b : Loop s i (s (rc PRESENT) i) d₀) (y : ℕ) (r : List ℕ) → b.others ≡ y ∷ r → (v : P) → Codes f v → Ready s i (double v d)
    to_cut : (d₀ d : Due) (b : Loop s i (s (rc PRESENT) i) d₀) (y z u : ℕ) (r : List ℕ) → b.others ≡ y ∷ z ∷ u ∷ r → (v : P) → Codes f v → (put off : Bool) → Ready s i (cut v put off d)

  -- what it gives
  pub record Acted (s s' : Store) (i : ℕ) (act : Act P) : Type 0 where
    pub stepped : ActDone s s' i act
    pub first_value : (v : P) → rings_new act ≡ some v → value f.of s' (pts s) ≡ v
    pub last_value : (v : P) → offcuts_new act ≡ some v → value f.of s' (pts s + count (rings_new act)) ≡ v

  module _ (s : Store) (o : Sound s) (i : ℕ) (c : Closed s i) where
    quiet : (s' : Store) (act : Act P) → rings_new act ≡ none → offcuts_new act ≡ none → ActDone s s' i act → Acted s s' i act
    quiet s' act e g t =
        record {
          stepped = t;
          first_value = λ v h. let z : none ≡ some v = sym e ∙ h in let y : ◌≡◌ {A = ℕ} 0 1 = cc in absurd (omega arith);
          last_value = λ v h. let z : none ≡ some v = sym g ∙ h in let y : ◌≡◌ {A = ℕ} 0 1 = cc in absurd (omega arith);
        }

    module _ (d₀ d : Due) (b : Loop s i (s (rc PRESENT) i) d₀) (y z u : ℕ) (r : List ℕ) (e : b.others ≡ y ∷ z ∷ u ∷ r) (v : P) (n : Codes f v) where
      q : Four s i y z u r
      q = four s i d₀ b y z u r e

      -- the ring's own part
      ring_cut : (put : Bool) → pts s + takes_points (cut v put false d) ≤ 2048 → Acted s (on_store s (ring_writes f s i v put d)) i (cut v put false d)
      ring_cut true h =
          record {
            stepped = put_steps P v s o i c d₀ d b y z u r e q (f.xw v) (f.yw v) (f.zw v) n.x_in n.y_in (omega arith);
            first_value = λ w g. let k : v ≡ w = cc in cc (hit (pts s) (f.xw v) (s (pt X) (pts s)), hit (pts s) (f.yw v) (s (pt Y) (pts s)), hit (pts s) (f.zw v) (s (pt Z) (pts s)), n.again);
            last_value = λ w g. let k : ◌≡◌ {A = ℕ} 0 1 = cc in absurd (omega arith);
          }
      ring_cut false h = quiet (on_store s (cut_writes s i d)) (cut v false false d) refl refl (cut_steps P v s o i c d₀ d b y z u r e q)

      cut_away : (put : Bool) → pts s + takes_points (cut v put false d) ≤ 2048 → CutAway (on_store s (ring_writes f s i v put d)) (s (rc PRESENT) i) (s (pt NEXT) (s (rc PRESENT) i))
      cut_away true h =
          subst (λ (k : ℕ). CutAway (on_store s (cut_put_writes s i (f.xw v) (f.yw v) (f.zw v) d)) (s (rc PRESENT) i) k) (sym q.next_y)
          (put_away s o i c y z u r q P v d₀ d b e (f.xw v) (f.yw v) (f.zw v) n.x_in n.y_in (omega arith))
      cut_away false h = subst (λ (k : ℕ). CutAway (on_store s (cut_writes s i d)) (s (rc PRESENT) i) k) (sym q.next_y) (plain_away s o i c y z u r q P v d₀ d b e)

      -- y is the present point's next
      e' : b.others ≡ s (pt NEXT) (s (rc PRESENT) i) ∷ z ∷ u ∷ r
      e' = e ∙ ap (λ (k : ℕ). k ∷ z ∷ u ∷ r) (sym q.next_y)

      with_offcut : (put : Bool) (s₁ : Store) → Acted s s₁ i (cut v put false d) → CutAway s₁ (s (rc PRESENT) i) (s (pt NEXT) (s (rc PRESENT) i)) → pts s₁ < 2048 → recs s < 512
          → Acted s (on_store s₁ (offcut_writes s₁ i (s (rc PRESENT) i) (s (pt NEXT) (s (rc PRESENT) i)) (f.xw v) (f.yw v) (f.zw v))) i (cut v put true d)
      with_offcut put s₁ t l room more =
          record {
            stepped = offcut_steps P v s s₁ o i c d₀ d b (s (pt NEXT) (s (rc PRESENT) i)) z u r e' put t.stepped l (f.xw v) (f.yw v) (f.zw v) n.x_in n.y_in room more;
            first_value = first put t.first_value t.stepped.points;
            last_value = λ w g.
                let k : v ≡ w = cc in
                let at : pts s + count (rings_new (cut v put true d)) ≡ pts s₁ = counted put ∙ sym t.stepped.points in
                ap (value f.of (on_store s₁ (offcut_writes s₁ i (s (rc PRESENT) i) (s (pt NEXT) (s (rc PRESENT) i)) (f.xw v) (f.yw v) (f.zw v)))) at
                ∙ cc (hit (pts s₁) (f.xw v) (s₁ (pt X) (pts s₁)), hit (pts s₁) (f.yw v) (s₁ (pt Y) (pts s₁)), hit (pts s₁) (f.zw v) (s₁ (pt Z) (pts s₁)), n.again);
          }
        where
          N : Kept s₁ (on_store s₁ (offcut_writes s₁ i (s (rc PRESENT) i) (s (pt NEXT) (s (rc PRESENT) i)) (f.xw v) (f.yw v) (f.zw v))) (recs s₁)
          N = offcut_kept s₁ t.stepped.sound i (s (rc PRESENT) i) (s (pt NEXT) (s (rc PRESENT) i)) (f.xw v) (f.yw v) (f.zw v) (rw t.stepped.made c.known) l n.x_in n.y_in room (rw t.stepped.made more)

          counted : (b : Bool) → pts s + count (rings_new (cut v b true d)) ≡ pts s + takes_points (cut v b false d)
          counted true = refl
          counted false = refl

          first : (b : Bool) → ((w : P) → rings_new (cut v b false d) ≡ some w → value f.of s₁ (pts s) ≡ w) → pts s₁ ≡ pts s + takes_points (cut v b false d)
              → (w : P) → rings_new (cut v b true d) ≡ some w → value f.of (on_store s₁ (offcut_writes s₁ i (s (rc PRESENT) i) (s (pt NEXT) (s (rc PRESENT) i)) (f.xw v) (f.yw v) (f.zw v))) (pts s) ≡ w
          first true g m w k = cc (N.xs (pts s) (omega arith), N.ys (pts s) (omega arith), N.zs (pts s) (omega arith)) ∙ g w k
          first false g m w k = let z : ◌≡◌ {A = ℕ} 0 1 = cc in absurd (omega arith)

      all_cut : (put off : Bool) → pts s + takes_points (cut v put off d) ≤ 2048 → recs s + takes_record (cut v put off d) ≤ 512 → Acted s (after f s i (cut v put off d)) i (cut v put off d)
      all_cut put false h m = ring_cut put h
      all_cut true true h m = with_offcut true (on_store s (ring_writes f s i v true d)) (ring_cut true (omega arith)) (cut_away true (omega arith)) (omega (arith, (ring_cut true (omega arith)).stepped.points)) (omega arith)
      all_cut false true h m = with_offcut false (on_store s (ring_writes f s i v false d)) (ring_cut false (omega arith)) (cut_away false (omega arith)) (omega (arith, (ring_cut false (omega arith)).stepped.points)) (omega arith)

    -- every act that is ready and has room
    pub act_steps : (act : Act P) → Ready s i act → pts s + takes_points act ≤ 2048 → recs s + takes_record act ≤ 512 → Acted s (after f s i act) i act
    act_steps act (to_discard y) h m = quiet (on_store s (discard_writes i y)) (discard y) refl refl (discard_steps P s o i c y)
    act_steps act (to_move d₀ d e g) h m = quiet (on_store s (move_writes s i d)) (move_on d) refl refl (move_steps P s o i c d d₀ e g)
    act_steps act (to_go_first d₀ d e g) h m = quiet (on_store s (to_first_writes s i d)) (to_first d) refl refl (to_first_steps P s o i c d d₀ e g)
    act_steps act (to_drop e b z w r g) h m = quiet (on_store s (drop_writes s i)) drop_point refl refl (drop_steps P s o i c e b z w r g)
    act_steps act (to_double d₀ d b y r e v n) h m =
        record {
          stepped = double_steps P v s o i c d₀ d b (f.xw v) (f.yw v) (f.zw v) n.x_in n.y_in (omega arith) y r e;
          first_value = λ w g. let k : v ≡ w = cc in cc (hit (pts s) (f.xw v) (s (pt X) (pts s)), hit (pts s) (f.yw v) (s (pt Y) (pts s)), hit (pts s) (f.zw v) (s (pt Z) (pts s)), n.again);
          last_value = λ w g. let k : ◌≡◌ {A = ℕ} 0 1 = cc in absurd (omega arith);
        }
    act_steps act (to_cut d₀ d b y z u r e v n put off) h m = all_cut d₀ d b y z u r e v n put off h m
