-- A closed ring without points, after any list of steps: the step that discarded its lone ring, and that the words keep that step's rule.
use mathlib.Core.Path.{◌≡◌, refl, sym, ap, ◌∙◌, subst}
use mathlib.Core.Logic.{◌⊎◌, inl, inr}
use mathlib.Core.Bool.{Bool, true, cond}
use mathlib.Core.List.{List, [], ◌∷◌, ◌++◌, map}
use mathlib.Core.Option.{Option, none, some}
use Prim.Native.Nat.{ℕ, zero, suc, ◌≤◌}
use native.Mathlib.Omega.{arith}
use lib.ListN.{length, get_elem?}
use Rattle.rings.specs.Progress.{Discard, Ring, at_start}
use Rattle.rings.proofs.Circles.{length_spin}
use Rattle.geometry.specs.declared.Point.{Point}
use Rattle.job.specs.Limits as limit
use Rattle.lone.specs.Lone.{from_first}
use Rattle.lone.specs.Forest.{State, initial, to_list, Entry, ringless, open_ring, closed_ring, Forest, at, offcuts_of, steps_state}
use Rattle.lone.specs.Plane.{plane, lone_ring}
use Rattle.lone.proofs.Plane.{plane_laws}
use Rattle.lone.proofs.Stepping.{at_closed}
use Rattle.lone.proofs.Ending.{run_append}
use Rattle.lone.proofs.Coming.{stepped, Made, came}
use Rattle.store.specs.Field.{rc, REASON}
use Rattle.store.specs.Words.{view}
use Rattle.store.specs.Reason.{discard_of}
use Rattle.store.specs.Sound as store
use Rattle.store.specs.Value.{point_at, preserve_collinear}
use Rattle.finishing.specs.Run.{run_of}
use Rattle.finishing.specs.Start.{Start}
use Rattle.order.specs.Demand3.{Has, HasRing}
use Rattle.order.proofs.Theorem.{F₀, F, rings_are}
use Rattle.order.proofs.Beginning.{offcut_begins, count, opened_begins}
use Rattle.ended.specs.Discarded.{DiscardedBy}
use Rattle.ended.proofs.Gone.{empty_gone, discarded_by}
use Rattle.ended.proofs.Joining.{no_ring}

-- an element of two lists, one after the other, is in the first or in the second
data InEither {A : Type 0} (xs ys : List A) (s : A) : Type 0 where
  earlier : (i : ℕ) → get_elem? xs i ≡ some s → InEither xs ys s
  later : (i : ℕ) → get_elem? ys i ≡ some s → InEither xs ys s

in_either : {A : Type 0} (xs ys : List A) (k : ℕ) (s : A) → get_elem? (xs ++ ys) k ≡ some s → InEither xs ys s
in_either [] ys k s e = later k e
in_either (x ∷ xs) ys zero s e = earlier 0 e
in_either {A} (x ∷ xs) ys (suc k) s e = go (in_either xs ys k s e)
  where
    go : InEither xs ys s → InEither (x ∷ xs) ys s
    go (earlier i f) = earlier (suc i) f
    go (later i f) = later i f

no_element : {A : Type 0} (k : ℕ) (s : A) → get_elem? {A = A} [] k ≡ some s → ⊥
no_element k s e = let z : ◌≡◌ {A = ℕ} 0 1 = cc in omega arith

module _ (w : List ℕ) (o : Start w) where
  abbrev p : Bool
  p = preserve_collinear (view w)

  -- a lone ring fed with points, after so many steps
  pub record LoneOf (L : State (Ring Point)) : Type 0 where
    pub points : List Point
    pub some_points : 1 ≤ length points
    pub steps : ℕ
    pub is : L ≡ steps_state (lone_ring p) steps (initial (at_start points))

  -- every closed ring is such a one
  pub lone_of : (is : List ℕ) (j : ℕ) (q : Option ℕ) (L : State (Ring Point)) → at (F w o is).entries j ≡ closed_ring q L → LoneOf L
  lone_of is j q L e = from (came (lone_ring p) limit.POINTS limit.RECORDS is (F₀ w o) j q L e)
    where
      since : (before after : List ℕ) → is ≡ before ++ after → (c : List Point) → 1 ≤ length c → at (F w o before).entries j ≡ closed_ring q (initial (at_start c)) → LoneOf L
      since before after t c l there =
          let n = stepped (lone_ring p) limit.POINTS limit.RECORDS after (F w o before) j q (initial (at_start c)) there in
          let d : closed_ring q L ≡ closed_ring q (steps_state (lone_ring p) n.0 (initial (at_start c))) = sym e ∙ ap (λ (l : List ℕ). at (F w o l).entries j) t
          ∙ ap (λ (E : Forest (Ring Point) (List Point)). at E.entries j) (run_append (lone_ring p) limit.POINTS limit.RECORDS before after (F₀ w o)) ∙ n.1 in
          record { points = c; some_points = l; steps = n.0; is = cc }

      from : (((L₀ : State (Ring Point)) × (at (F₀ w o).entries j ≡ closed_ring q L₀)) ⊎ Made (lone_ring p) limit.POINTS limit.RECORDS (F₀ w o) is j q) → LoneOf L
      from (inl t) = let b = opened_begins w o j q t.0 t.1 in since [] is refl b.0 b.1 (t.1 ∙ ap (closed_ring q) b.2)
      from (inr m) =
          let b = offcut_begins (plane p) m.cutter m.seed m.cut_off in
          since (m.earlier ++ (m.last ∷ [])) m.since m.together b.0 b.1 (m.there ∙ ap (λ (s : Ring Point). closed_ring q (initial s)) b.2)

  -- ---- the points that an offcut begins with

  -- S is a ring at its start, with points
  abbrev Begins : Ring Point → Type 0
  Begins S = (c : List Point) × (1 ≤ length c) × (S ≡ at_start c)

  -- every offcut of a lone ring is such a one
  cut_begins : (n : ℕ) (R S : Ring Point) (k : ℕ) → get_elem? (steps_state (lone_ring p) n (initial R)).offcuts k ≡ some S → Begins S
  cut_begins zero R S k e = absurd (no_element k S e)
  cut_begins (suc n) R S k e = go ((lone_ring p).cuts (now n)) refl (in_either (steps_state (lone_ring p) n (initial R)).offcuts (to_list ((lone_ring p).cuts (now n))) k S e) (λ i h. cut_begins n R S i h)
    where
      now : ℕ → Ring Point
      now i = (steps_state (lone_ring p) i (initial R)).now

      go : (x : Option (Ring Point)) → (lone_ring p).cuts (now n) ≡ x → InEither (steps_state (lone_ring p) n (initial R)).offcuts (to_list x) S → ((i : ℕ) → get_elem? (steps_state (lone_ring p) n (initial R)).offcuts i ≡ some S → Begins S) → Begins S
      go x h (earlier i f) before = before i f
      go none h (later i f) before = absurd (no_element i S f)
      go (some T) h (later zero f) before = offcut_begins (plane p) (now n) S (h ∙ f)
      go (some T) h (later (suc i) f) before = absurd (no_element i S f)

  -- so is what was cut off a record of the table
  pub seed_begins : (is : List ℕ) (j k : ℕ) (S : Ring Point) → get_elem? (offcuts_of (at (F w o is).entries j)) k ≡ some S → Begins S
  seed_begins is j k S e = go (at (F w o is).entries j) refl e
    where
      go : (x : Entry (Ring Point) (List Point)) → at (F w o is).entries j ≡ x → get_elem? (offcuts_of x) k ≡ some S → Begins S
      go ringless h f = absurd (no_element k S f)
      go (open_ring c) h f = absurd (no_element k S f)
      go (closed_ring q L) h f = let a = lone_of is j q L h in cut_begins a.steps (at_start a.points) S k (ap (λ (K : State (Ring Point)). get_elem? K.offcuts k) (sym a.is) ∙ f)

  -- ---- without points

  -- of a lone ring with these points, after so many steps
  pub record RuleKept (is : List ℕ) (j : ℕ) (L : State (Ring Point)) (a : LoneOf L) : Type 0 where
    pub rule : Discard
    pub by : DiscardedBy (plane p) a.points a.steps rule
    pub kept : discard_of (view (run_of w is) (rc REASON) j) ≡ some rule

  -- THE THEOREM: the rule that the words keep is that of the step which discarded its lone ring
  pub rule_kept : (is : List ℕ) (j : ℕ) (q : Option ℕ) (L : State (Ring Point)) (a : LoneOf L) → at (F w o is).entries j ≡ closed_ring q L → store.ringless (view (run_of w is)) j ≡ true → RuleKept is j L a
  rule_kept is j q L a e r =
      let h : HasRing (view (run_of w is)) j q L = subst (Has (view (run_of w is)) j) e (rings_are w o is j (omega (arith, count w o is, at_closed (F w o is).entries j e))) in
      let n : from_first L.now ≡ [] = sym h.points ∙ ap (map (point_at (view (run_of w is)))) (no_ring (view (run_of w is)) j r) in
      let g = empty_gone (plane p) (plane_laws p) a.points a.some_points a.steps (ap (λ (K : State (Ring Point)). K.now.circle) (sym a.is) ∙ none_left L.now n) in
      let y : L.now.why ≡ some g.0 = ap (λ (K : State (Ring Point)). K.now.why) a.is ∙ ap (λ (R : Ring Point). R.why) g.1 in
      record {
        rule = g.0;
        by = discarded_by (plane p) (plane_laws p) a.points a.some_points a.steps g.0 (ap (λ (R : Ring Point). R.why) g.1);
        kept = sym (ap (λ (b : Bool). cond b (discard_of (view (run_of w is) (rc REASON) j)) none) r) ∙ h.why ∙ y;
      }
    where
      none_left : (R : Ring Point) → from_first R ≡ [] → R.circle ≡ []
      none_left R d = empty R.circle (omega (arith, length_spin R.first R.circle, ap length d))
        where
          empty : (c : List Point) → length c ≡ 0 → c ≡ []
          empty [] m = refl
          empty (x ∷ c) m = absurd (omega arith)
