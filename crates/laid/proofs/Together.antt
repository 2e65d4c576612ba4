-- Where two work spaces are laid together, both are starts, and so are the pooled words.
use Prim.Native.Nat.{ℕ, zero, suc, ◌+◌, ◌%◌, ◌/◌, ◌≤◌, ◌<◌}
use mathlib.Core.Path.{◌≡◌, refl, ap, ◌∙◌, sym, subst}
use mathlib.Core.Logic.{◌≢◌, ◌⊎◌, inl, inr, ◌↔◌}
use mathlib.Core.Bool.{Bool, true, false, cond, not, ◌&&◌, ◌||◌}
use mathlib.Core.List.{List, [], ◌∷◌, ◌++◌}
use native.Mathlib.Omega.{arith}
use native.Mathlib.Decide.{ℕ_discrete}
use lib.Dec.{eqb, ltb}
use lib.ListN.{length, drop}
use borrow.Author.Tests.{eqb-true, ltb-false, eq-eqb, ne_eqb}
use Rattle.std.specs.Prelude.{Ok}
use Rattle.job.specs.Limits as limit
use Rattle.store.specs.Field.{rc, ct, FIRST, MARK, PRESENT, CUT, SETTINGS, NONE, BLOCK, LENGTH}
use Rattle.store.specs.Words.{Store, view}
use Rattle.store.specs.Sound.{pts, recs, ringless, is_open}
use Rattle.store.specs.Good.{Sound}
use Rattle.store.specs.Boxes.{Boxed}
use Rattle.store.specs.States.{BYTES, Apart}
use Rattle.audit.specs.Left.{left}
use Rattle.audit.proofs.Saying.{none_of}
use Rattle.acts.specs.Opened.{Fresh, records}
use Rattle.turns.specs.Form.{raised}
use Rattle.finishing.specs.Start.{Start}
use Rattle.finishing.proofs.Blocks.{same_apart, behind_names}
use Rattle.pooling.specs.Pooled.{pooled}
use Rattle.pooling.specs.Words.{pooled_words}
use Rattle.laying.specs.Lay.{settings_byte, is_at_start, is_offcut, is_discarded, is_stepped, any_stepped, lay_of}
use Rattle.pooling.proofs.Pooling.{BothFit, pooled_sound}
use Rattle.laid.proofs.Records.{pooled_records, pooled_fresh}
use Rattle.laying.proofs.Deciding.{Together, together}
use Rattle.pooling.proofs.Laying.{pooled_view, pooled_length, pooled_behind}
use Rattle.pooling.proofs.Boxing.{pooled_boxed}

-- ---- a record that row 12 lets pass is at its start

and_both : (a b : Bool) → (a && b) ≡ true → (a ≡ true) × (b ≡ true)
and_both true true e = (refl, refl)
and_both true false e = let z : ◌≡◌ {A = ℕ} 0 1 = cc in absurd (omega arith)
and_both false b e = let z : ◌≡◌ {A = ℕ} 0 1 = cc in absurd (omega arith)

or_none : (a b : Bool) → (a || b) ≡ false → (a ≡ false) × (b ≡ false)
or_none true b e = let z : ◌≡◌ {A = ℕ} 0 1 = cc in absurd (omega arith)
or_none false b e = (refl, e)

not_false : (a : Bool) → not a ≡ false → a ≡ true
not_false true e = refl
not_false false e = let z : ◌≡◌ {A = ℕ} 0 1 = cc in absurd (omega arith)

pub unstepped : (s : Store) (i : ℕ) → is_stepped s i ≡ false → (is_offcut s i ≡ false) × (ringless s i ≡ true → is_discarded s i ≡ false) × (ringless s i ≡ false → is_open s i ≡ false → is_at_start s i ≡ true)
unfolding is_stepped
unstepped s i e = go (is_offcut s i) (ringless s i) (is_open s i) (is_discarded s i) (is_at_start s i) e
  where
    no : {A : Type 0} → true ≡ false → A
    no z = let y : ◌≡◌ {A = ℕ} 0 1 = cc in absurd (omega arith)

    go : (a b c d f : Bool) → cond a true (cond b d (cond c false (not f))) ≡ false → (a ≡ false) × (b ≡ true → d ≡ false) × (b ≡ false → c ≡ false → f ≡ true)
    go true b c d f h = no h
    go false true c d f h = (refl, (λ x. h), λ x y. no x)
    go false false true d f h = (refl, (λ x. no (sym x)), λ x y. no y)
    go false false false d f h = (refl, (λ x. no (sym x)), λ x y. not_false f h)

pub fresh_of : (s : Store) → any_stepped s ≡ false → (i : ℕ) → i < recs s → Fresh s i
unfolding any_stepped
fresh_of s e i l =
    record {
      cut_is = eqb-true (s (rc CUT) i) NONE (not_false (eqb (s (rc CUT) i) NONE) u.0);
      mark_is = λ r c. eqb-true (s (rc MARK) i) 0 (and_both (eqb (s (rc MARK) i) 0) (eqb (s (rc PRESENT) i) (s (rc FIRST) i)) (u.2 r c)).0;
    }
  where
    u : (is_offcut s i ≡ false) × (ringless s i ≡ true → is_discarded s i ≡ false) × (ringless s i ≡ false → is_open s i ≡ false → is_at_start s i ≡ true)
    u = unstepped s i (none_of (recs s) (is_stepped s) e i l)

-- ---- what laying together has found out, of starts

module _ (w v : List ℕ) where
  pub record Lies : Type 0 where
    pub long : LENGTH ≤ length w
    pub long_second : LENGTH ≤ length v
    pub sound : Sound (view w)
    pub sound_second : Sound (view v)
    pub boxed : (i : ℕ) → i < recs (view w) → Boxed w i
    pub boxed_second : (i : ℕ) → i < recs (view v) → Boxed v i
    pub apart : Apart w
    pub apart_second : Apart v
    pub settings : settings_byte (view w) ≡ settings_byte (view v)
    pub fresh : (i : ℕ) → i < recs (view w) → Fresh (view w) i
    pub fresh_second : (i : ℕ) → i < recs (view v) → Fresh (view v) i
    pub fit : BothFit (view w) (view v)
    pub is : lay_of w v ≡ left (Ok tt) (pooled_words w v)

  pub lies : (lay_of w v).answer ≡ Ok tt → Lies
  lies h =
      let t : Together w v = together w v h in
      record {
        long = t.first.long;
        long_second = t.second.long;
        sound = t.first.sound;
        sound_second = t.second.sound;
        boxed = t.first.boxed;
        boxed_second = t.second.boxed;
        apart = t.first.apart;
        apart_second = t.second.apart;
        settings = t.settings;
        fresh = fresh_of (view w) t.first_unstepped;
        fresh_second = fresh_of (view v) t.second_unstepped;
        fit = t.fit;
        is = t.is;
      }

-- ---- the settings

pub bits : (m n : ℕ) → m % BYTES ≡ n % BYTES → (m % 2 ≡ n % 2) × (m / 2 % 2 ≡ n / 2 % 2)
bits m n e = (omega arith, omega arith)

-- ---- the pooled words are a start

module _ (w v : List ℕ) (L : Lies w v) where
  abbrev u : List ℕ
  u = pooled_words w v

  pub view_is : view u ≡ pooled (view w) (view v)
  view_is = pooled_view w v (omega (arith, L.long)) L.fit

  pub behind : drop BLOCK u ≡ drop BLOCK w
  behind = pooled_behind w v (omega (arith, L.long)) L.fit

  pub first_start : Start w
  first_start = record { long = L.long; sound = L.sound; boxed = L.boxed; apart = L.apart; fresh = L.fresh }

  pub second_start : Start v
  second_start = record { long = L.long_second; sound = L.sound_second; boxed = L.boxed_second; apart = L.apart_second; fresh = L.fresh_second }

  pub pooled_start : Start u
  pooled_start =
      record {
        long = omega (arith, L.long, pooled_length w v);
        sound = subst Sound (sym view_is) (pooled_sound (view w) (view v) L.sound L.sound_second L.fit);
        boxed = pooled_boxed w v (omega (arith, L.long)) L.sound L.sound_second L.fit L.boxed L.boxed_second;
        apart = same_apart w u (behind_names w u behind) L.apart;
        fresh = subst (λ (s : Store). (i : ℕ) → i < recs s → Fresh s i) (sym view_is) (pooled_fresh (view w) (view v) L.sound_second L.fit L.fresh L.fresh_second);
      }

  pub settings_first : view u (ct SETTINGS) 0 ≡ view w (ct SETTINGS) 0
  settings_first = ap (λ (s : Store). s (ct SETTINGS) 0) view_is

  pub points_are : pts (view u) ≡ pts (view w) + pts (view v)
  points_are = ap pts view_is

  pub records_are : recs (view u) ≡ recs (view w) + recs (view v)
  records_are = ap recs view_is

  pub forest_is : records raised.of (view u) ≡ records raised.of (view w) ++ records raised.of (view v)
  forest_is = ap (records raised.of) view_is ∙ pooled_records raised.of (view w) (view v) L.sound L.sound_second L.fit
