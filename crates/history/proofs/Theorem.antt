-- THE LAW: from a work space that a history led to, with no name kept, after every list of calls it has the histories that the list gives; and every one of them begins at the same start, or at what was laid on it.
use Prim.Native.Nat.{ℕ, ◌<◌}
use mathlib.Core.Path.{◌≡◌, refl, ◌∙◌, subst}
use mathlib.Core.Bool.{Bool, true, false, cond}
use mathlib.Core.List.{List, [], ◌∷◌}
use mathlib.Core.Option.{Option, none, some}
use native.Mathlib.Omega.{arith}
use lib.Dec.{eqb, ltb}
use Rattle.std.specs.Prelude.{Result, Ok, Err}
use Rattle.job.specs.declared.refusal.Refusal.{Refusal}
use Rattle.store.specs.Field.{STATES}
use Rattle.store.specs.States.{is_name, name_at, block_of}
use Rattle.handed.specs.Handed.{Usable}
use Rattle.laying.specs.Lay.{lay_of}
use Rattle.finishing.specs.Start.{Start}
use Rattle.order.specs.Calls.{Call, step_on, write_to, ask_of, keep_as, back_to, drop_name, lay_with, words_by, words_after}
use Rattle.order.proofs.Theorem.{demand_3}
use Rattle.laid.proofs.Two.{two_drawings}
use Rattle.history.specs.Histories.{History, state_of, KeptState, Histories, place_in, keep_in, with_place, with_live, with_laid, histories_by, histories_after, keeping_none}
use Rattle.history.specs.AfterCalls.{HasHistories, Origin, itself, laid_on, NotLaid, NoneLaid, AfterCalls}
use Rattle.history.proofs.Holding.{Stands, has_histories, holds_by, stands}

-- ---- the words

stands_after : (cs : List Call) (b : Histories) (w : List ℕ) → Stands b w → Stands (histories_after b cs) (words_after w cs)
stands_after [] b w h = h
stands_after (c ∷ cs) b w h = stands_after cs (histories_by b c) (words_by w c) (holds_by b w h c)

-- from any work space that has its histories, so also where states are kept
pub from_there : (cs : List Call) (b : Histories) (w : List ℕ) → HasHistories b w → HasHistories (histories_after b cs) (words_after w cs)
from_there cs b w h = has_histories (histories_after b cs) (words_after w cs) (stands_after cs b w (stands b w h))

-- ---- where histories begin

-- every history begins at one of these starts
record Begins (P : List ℕ → Type 0) (b : Histories) : Type 0 where
  live : P b.live.start
  kept : (p : ℕ) (k : KeptState) → b.places p ≡ some k → P k.history.start

module _ (P : List ℕ → Type 0) (b : Histories) (o : Begins P b) where
  -- a place changed, to none or to the live history
  placed : (q : ℕ) (x : Option KeptState) → ((k : KeptState) → x ≡ some k → P k.history.start) → Begins P (with_place b q x)
  placed q x h = record { live = o.live; kept = λ p k e. at p k (eqb p q) e }
    where
      at : (p : ℕ) (k : KeptState) (d : Bool) → cond d x (b.places p) ≡ some k → P k.history.start
      at p k true e = h k e
      at p k false e = o.kept p k e

  own : (n : ℕ) (k : KeptState) → some (record { name = n; history = b.live }) ≡ some k → P k.history.start
  own n k e = let f : record { name = n; history = b.live } ≡ k = cc in subst (λ (x : KeptState). P x.history.start) f o.live

  nobody : (k : KeptState) → none ≡ some k → P k.history.start
  nobody k e = absurd (let z : ◌≡◌ {A = ℕ} 0 1 = cc in omega arith)

  taken_up : (p : ℕ) (x : Option KeptState) → b.places p ≡ x → Begins P (with_live b x)
  taken_up p none e = o
  taken_up p (some k) e = record { live = o.kept p k e; kept = o.kept }

  either : (c : Bool) (x : Histories) → Begins P x → Begins P (cond c x b)
  either true x h = h
  either false x h = o

  -- what laying together leaves is one of them
  abbrev Lays : Call → Type 0
  Lays (step_on i) = Unit {0}
  Lays (write_to t) = Unit {0}
  Lays (ask_of i) = Unit {0}
  Lays (keep_as n) = Unit {0}
  Lays (back_to n) = Unit {0}
  Lays (drop_name n) = Unit {0}
  Lays (lay_with v) = (lay_of (state_of b.live) v).answer ≡ Ok tt → P (lay_of (state_of b.live) v).words

  begins_by : (c : Call) → Lays c → Begins P (histories_by b c)
  unfolding histories_by
  begins_by (step_on i) l = record { live = o.live; kept = o.kept }
  begins_by (write_to t) l = o
  begins_by (ask_of i) l = o
  begins_by (keep_as n) l = either (ltb (keep_in b n.number) STATES) (with_place b (keep_in b n.number) (some (record { name = n.number; history = b.live }))) (placed (keep_in b n.number) (some (record { name = n.number; history = b.live })) (own n.number))
  begins_by (back_to n) l = either (ltb (place_in b n.number) STATES) (with_live b (b.places (place_in b n.number))) (taken_up (place_in b n.number) (b.places (place_in b n.number)) refl)
  begins_by (drop_name n) l = either (ltb (place_in b n.number) STATES) (with_place b (place_in b n.number) none) (placed (place_in b n.number) none nobody)
  begins_by (lay_with v) l = go (lay_of (state_of b.live) v).answer refl
    where
      go : (r : Result (Unit {0}) Refusal) → (lay_of (state_of b.live) v).answer ≡ r → Begins P (with_laid b r (lay_of (state_of b.live) v).words)
      go (Err x) e = o
      go (Ok _) e = record { live = l e; kept = o.kept }

-- at one start, where no laying together was accepted
not_laid : (s : List ℕ) (b : Histories) (o : Begins (λ x. x ≡ s) b) (w : List ℕ) → Stands b w → (c : Call) → NotLaid w c → Lays (λ x. x ≡ s) b o c
not_laid s b o w h (step_on i) n = tt
not_laid s b o w h (write_to t) n = tt
not_laid s b o w h (ask_of i) n = tt
not_laid s b o w h (keep_as k) n = tt
not_laid s b o w h (back_to k) n = tt
not_laid s b o w h (drop_name k) n = tt
not_laid s b o w h (lay_with v) n = λ e. absurd (n ((has_histories b w h).layings v ∙ e))

one_after : (cs : List Call) (s : List ℕ) (b : Histories) (w : List ℕ) → Stands b w → NoneLaid w cs → Begins (λ x. x ≡ s) b → Begins (λ x. x ≡ s) (histories_after b cs)
one_after [] s b w h n o = o
one_after (c ∷ cs) s b w h n o = one_after cs s (histories_by b c) (words_by w c) (holds_by b w h c) n.1 (begins_by (λ x. x ≡ s) b o c (not_laid s b o w h c n.0))

-- and at what was laid on it
was_laid : (s : List ℕ) (b : Histories) (o : Begins (Origin s) b) (c : Call) → Lays (Origin s) b o c
was_laid s b o (step_on i) = tt
was_laid s b o (write_to t) = tt
was_laid s b o (ask_of i) = tt
was_laid s b o (keep_as k) = tt
was_laid s b o (back_to k) = tt
was_laid s b o (drop_name k) = tt
was_laid s b o (lay_with v) = λ e. laid_on b.live v (lay_of (state_of b.live) v).words o.live ((two_drawings (state_of b.live) v).together e)

origin_after : (cs : List Call) (s : List ℕ) (b : Histories) → Begins (Origin s) b → Begins (Origin s) (histories_after b cs)
origin_after [] s b o = o
origin_after (c ∷ cs) s b o = origin_after cs s (histories_by b c) (begins_by (Origin s) b o c (was_laid s b o c))

-- ---- both

pub after_calls : (h : History) (u : List ℕ) → Start h.start → Usable u → block_of u ≡ block_of (state_of h) → ((p : ℕ) → p < STATES → is_name (name_at u p) ≡ false) → AfterCalls h u
after_calls h u o f e n =
    let stood : Stands (keeping_none h) u = record { usable = f; live = e; came = record { from = o; demand_3 = demand_3 h.start o }; places = n } in
    let one : Begins (λ x. x ≡ h.start) (keeping_none h) = record { live = refl; kept = λ p k d. absurd (let z : ◌≡◌ {A = ℕ} 0 1 = cc in omega arith) } in
    let this : Begins (Origin h.start) (keeping_none h) = record { live = itself; kept = λ p k d. absurd (let z : ◌≡◌ {A = ℕ} 0 1 = cc in omega arith) } in
    record {
      after_every_list = λ cs. has_histories (histories_after (keeping_none h) cs) (words_after u cs) (stands_after cs (keeping_none h) u stood);
      one_start = λ cs l. (one_after cs h.start (keeping_none h) u stood l one).live;
      kept_start = λ cs l. (one_after cs h.start (keeping_none h) u stood l one).kept;
      one_origin = λ cs. (origin_after cs h.start (keeping_none h) this).live;
      kept_origin = λ cs. (origin_after cs h.start (keeping_none h) this).kept;
    }
