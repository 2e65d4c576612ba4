-- A step of the forest: what it leaves of the records; that it was carried out, or refused and nothing changed; and its answer, exactly.
use mathlib.Core.Path.{◌≡◌, refl, ap, sym, subst, ◌∙◌}
use mathlib.Core.Logic.{◌⊎◌, inl, inr, ◌≢◌}
use mathlib.Core.List.{List, [], ◌∷◌, ◌++◌}
use mathlib.Core.Option.{Option, none, some}
use mathlib.Core.Bool.{Bool, true, false, true≢false}
use Prim.Native.Nat.{ℕ, zero, suc, ◌+◌, ◌≤◌, ◌<◌}
use native.Mathlib.Omega.{arith}
use native.Mathlib.Decide.{ℕ_discrete, dec_lt}
use lib.ListN.{length, set, length-append, length-set, get_or-append}
use lib.Seq.{get_or-set_same, get_or-set_other, get_or_at}
use lib.Dec.{leb}
use borrow.Author.Tests.{leb-true, leb-false}
use Rattle.lone.specs.Forest.{Machine, State, initial, to_list, Entry, ringless, open_ring, closed_ring, Answer, ok, full, out_of_turn, Forest, is_ok}
use Rattle.lone.specs.Forest.{new_entry, at, step_state, step_entries, carry_out, answer_to, answer, step_forest}
use Rattle.lone.specs.Order.{NoneOrDone, TakesPast, Exactly}

module _ {S X : Type 0} where
  pub at_closed : (es : List (Entry S X)) (i : ℕ) {q : Option ℕ} {L : State S} → at es i ≡ closed_ring q L → i < length es
  at_closed [] i h = let z : ◌≡◌ {A = ℕ} 0 1 = cc in absurd (omega arith)
  at_closed (e ∷ es) zero h = omega arith
  at_closed (e ∷ es) (suc i) h = omega (arith, at_closed es i h)

  -- the records after a step on record i
  module _ (M : Machine S) (es : List (Entry S X)) (i : ℕ) (q : Option ℕ) (L : State S) where
    length_new : (o : Option S) → length (new_entry {X = X} i o) ≡ length (to_list o)
    length_new none = refl
    length_new (some s) = refl

    pub step_length : length (step_entries M es i q L) ≡ length es + length (to_list (M.cuts L.now))
    step_length = length-append (set es i (closed_ring q (step_state M L))) (new_entry i (M.cuts L.now)) ∙ cc (length-set es i (closed_ring q (step_state M L)), length_new (M.cuts L.now))

    step_old : (j : ℕ) → j < length es → at (step_entries M es i q L) j ≡ at (set es i (closed_ring q (step_state M L))) j
    step_old j h = get_or-append (set es i (closed_ring q (step_state M L))) (new_entry i (M.cuts L.now)) ringless j (rw (length-set es i (closed_ring q (step_state M L))) h)

    pub step_here : i < length es → at (step_entries M es i q L) i ≡ closed_ring q (step_state M L)
    step_here h = step_old i h ∙ get_or-set_same es i (closed_ring q (step_state M L)) ringless h

    pub step_other : (j : ℕ) → j < length es → j ≢ i → at (step_entries M es i q L) j ≡ at es j
    step_other j h n = step_old j h ∙ get_or-set_other es i j (closed_ring q (step_state M L)) ringless n

    pub step_added : (s : S) → M.cuts L.now ≡ some s → at (step_entries M es i q L) (length es) ≡ closed_ring (some i) (initial s)
    step_added s e = ap (λ (o : Option S). at (set es i (closed_ring q (step_state M L)) ++ new_entry i o) (length es)) e ∙ get_or_at (set es i (closed_ring q (step_state M L))) (closed_ring (some i) (initial s)) [] ringless (length es) (length-set es i (closed_ring q (step_state M L)))

    -- what holds of record i, of the others and of the one that is cut off holds of every record
    pub step_every : (Q : ℕ → Entry S X → Type 0) → Q i (closed_ring q (step_state M L)) → ((j : ℕ) → j < length es → j ≢ i → Q j (at es j)) → ((s : S) → M.cuts L.now ≡ some s → Q (length es) (closed_ring (some i) (initial s)))
        → (j : ℕ) → j < length (step_entries M es i q L) → Q j (at (step_entries M es i q L) j)
    step_every Q own other new j h = go (dec_lt j (length es)) (ℕ_discrete j i)
      where
        last : (o : Option S) → M.cuts L.now ≡ o → length es ≤ j → j < length es + length (to_list o) → Q j (at (step_entries M es i q L) j)
        last none e k l = absurd (omega arith)
        last (some s) e k l = let z : length es ≡ j = omega arith in subst (λ (n : ℕ). Q n (at (step_entries M es i q L) n)) z (rw (step_added s e) (new s e))

        go : Dec (j < length es) → Dec (j ≡ i) → Q j (at (step_entries M es i q L) j)
        go (yes l) (yes z) = subst (λ (n : ℕ). Q n (at (step_entries M es i q L) n)) (sym z) (rw (step_here (omega arith)) own)
        go (yes l) (no d) = rw (step_other j l d) (other j l d)
        go (no k) d = last (M.cuts L.now) refl (omega arith) (omega (arith, step_length))

module _ {S X : Type 0} (M : Machine S) (lp lr : ℕ) where
  pub record Accepted (F : Forest S X) (i : ℕ) : Type 0 where
    pub who : Option ℕ
    pub state : State S
    pub here : at F.entries i ≡ closed_ring who state
    pub unfinished : M.over state.now ≡ false
    pub fits_points : F.points + M.takes state.now ≤ lp
    pub fits_records : length F.entries + length (to_list (M.cuts state.now)) ≤ lr
    pub says : answer M lp lr F i ≡ ok
    pub becomes : step_forest M lp lr F i ≡ carry_out M F i who state

  pub record Refused (F : Forest S X) (i : ℕ) : Type 0 where
    pub says : is_ok (answer M lp lr F i) ≡ false
    pub becomes : step_forest M lp lr F i ≡ F

  pub view : (F : Forest S X) (i : ℕ) → Accepted F i ⊎ Refused F i
  unfolding answer step_forest
  view F i = go (at F.entries i) refl
    where
      last : (q : Option ℕ) (L : State S) → at F.entries i ≡ closed_ring q L → M.over L.now ≡ false → (b c : Bool) → leb (F.points + M.takes L.now) lp ≡ b
          → leb (length F.entries + length (to_list (M.cuts L.now))) lr ≡ c → Accepted F i ⊎ Refused F i
      last q L e v true true h k = inl (record { who = q; state = L; here = e; unfinished = v; fits_points = leb-true _ _ h; fits_records = leb-true _ _ k; says = rw (e, v, h, k); becomes = rw (e, v, h, k) })
      last q L e v true false h k = inr (record { says = rw (e, v, h, k); becomes = rw (e, v, h, k) })
      last q L e v false c h k = inr (record { says = rw (e, v, h); becomes = rw (e, v, h) })

      more : (q : Option ℕ) (L : State S) → at F.entries i ≡ closed_ring q L → (b : Bool) → M.over L.now ≡ b → Accepted F i ⊎ Refused F i
      more q L e true v = inr (record { says = rw (e, v); becomes = rw (e, v) })
      more q L e false v = last q L e v _ _ refl refl

      go : (e : Entry S X) → at F.entries i ≡ e → Accepted F i ⊎ Refused F i
      go ringless h = inr (record { says = rw h; becomes = rw h })
      go (open_ring x) h = inr (record { says = rw h; becomes = rw h })
      go (closed_ring q L) h = more q L h _ refl

  -- the three answers, each with what it says of the entry
  module _ (a : Answer) (e : Entry S X) (p r : ℕ) where
    says_out : a ≡ out_of_turn → NoneOrDone M e → Exactly M lp lr ok full out_of_turn a e p r
    says_out h d = record { twelve = (λ k. d, λ k. h); ten = (λ k. let z : ◌≡◌ {A = ℕ} 0 1 = cc in absurd (omega arith), λ k. absurd (k.0 d)); neither = (λ k. let z : ◌≡◌ {A = ℕ} 0 1 = cc in absurd (omega arith), λ k. absurd (k.0 d)) }

    says_full : a ≡ full → ¬ NoneOrDone M e → TakesPast M lp lr e p r → Exactly M lp lr ok full out_of_turn a e p r
    says_full h n t = record { twelve = (λ k. let z : ◌≡◌ {A = ℕ} 0 1 = cc in absurd (omega arith), λ k. absurd (n k)); ten = (λ k. (n, t), λ k. h); neither = (λ k. let z : ◌≡◌ {A = ℕ} 0 1 = cc in absurd (omega arith), λ k. absurd (k.1 t)) }

    says_ok : a ≡ ok → ¬ NoneOrDone M e → ¬ TakesPast M lp lr e p r → Exactly M lp lr ok full out_of_turn a e p r
    says_ok h n t = record { twelve = (λ k. let z : ◌≡◌ {A = ℕ} 0 1 = cc in absurd (omega arith), λ k. absurd (n k)); ten = (λ k. let z : ◌≡◌ {A = ℕ} 0 1 = cc in absurd (omega arith), λ k. absurd (t k.1)); neither = (λ k. (n, t), λ k. h) }

  -- the answers are what document 01 says, exactly
  pub exactly : (e : Entry S X) (p r : ℕ) → Exactly M lp lr ok full out_of_turn (answer_to M lp lr e p r) e p r
  exactly ringless p r = says_out out_of_turn ringless p r refl tt
  exactly (open_ring x) p r = says_out out_of_turn (open_ring x) p r refl tt
  exactly (closed_ring q L) p r = go _ _ _ refl refl refl
    where
      fits : M.over L.now ≡ false → p + M.takes L.now ≤ lp → r + length (to_list (M.cuts L.now)) ≤ lr → ¬ TakesPast {X = X} M lp lr (closed_ring q L) p r
      fits v h k (inl t) = omega arith
      fits v h k (inr t) = omega arith

      live : M.over L.now ≡ false → ¬ (M.over L.now ≡ true)
      live v e = true≢false (sym e ∙ v)

      go : (a b c : Bool) → M.over L.now ≡ a → leb (p + M.takes L.now) lp ≡ b → leb (r + length (to_list (M.cuts L.now))) lr ≡ c → Exactly {X = X} M lp lr ok full out_of_turn (answer_to {X = X} M lp lr (closed_ring q L) p r) (closed_ring q L) p r
      go true b c v h k = says_out _ (closed_ring q L) p r (rw v) v
      go false true true v h k = says_ok _ (closed_ring q L) p r (rw (v, h, k)) (live v) (fits v (leb-true _ _ h) (leb-true _ _ k))
      go false true false v h k = says_full _ (closed_ring q L) p r (rw (v, h, k)) (live v) (inr (leb-false _ _ k))
      go false false c v h k = says_full _ (closed_ring q L) p r (rw (v, h)) (live v) (inl (leb-false _ _ h))
