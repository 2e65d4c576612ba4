-- A work space that has its histories still has them after every call.
use Prim.Native.Nat.{ℕ, ◌≤◌, ◌<◌}
use mathlib.Core.Path.{◌≡◌, refl, ap, ◌∙◌, sym, subst}
use mathlib.Core.Logic.{◌≢◌}
use mathlib.Core.Bool.{Bool, true, false, cond, not, ◌||◌}
use mathlib.Core.List.{List, [], ◌∷◌}
use mathlib.Core.Option.{Option, none, some}
use native.Mathlib.Omega.{arith}
use lib.Dec.{eqb, ltb}
use lib.ListN.{length, drop}
use borrow.Author.Tests.{eqb-true, eqb-false, ltb-true}
use Rattle.std.specs.Prelude.{Result, Ok, Err}
use Rattle.job.specs.declared.refusal.Refusal.{Refusal}
use Rattle.job.specs.declared.refusal.Refusal.TheVariants.{OutOfTurn, UnknownName, NoPlace}
use Rattle.store.specs.Field.{BLOCK, STATES, LENGTH}
use Rattle.store.specs.Words.{Store, view}
use Rattle.store.specs.Named.{records_of}
use Rattle.store.specs.Sound.{recs}
use Rattle.store.specs.Boxes.{Boxed}
use Rattle.store.specs.Good.{Sound}
use Rattle.store.specs.States.{is_name, name_at, Apart, block_of, kept_block}
use Rattle.handed.specs.Handed.{handed_of, Usable}
use Rattle.handed.proofs.Handing.{handed_usable, usable_handed}
use Rattle.steps.specs.Live.{any_live}
use Rattle.finishing.specs.Step.{step_of}
use Rattle.finishing.proofs.Starting.{start_usable}
use Rattle.finishing.proofs.Blocks.{same_view, same_boxed, same_apart, behind_names, call_usable, call_behind, same_answer, same_live, same_write}
use Rattle.telling.specs.Telling.{reason_at, reason_by, reason_of}
use Rattle.order.proofs.Following.{run_both}
use Rattle.states.specs.Places.{keep_place}
use Rattle.audit.specs.Left.{Left, left}
use Rattle.states.specs.Calls.{stored, restored, freed, keep_at, back_at, drop_at, keep_by, back_by, drop_by, keep_of, go_back_of, drop_of}
use Rattle.states.proofs.Lowest.{first_hits}
use Rattle.order.specs.Calls.{Name, Call, step_on, write_to, ask_of, keep_as, back_to, drop_name, lay_with, words_by}
use Rattle.history.specs.Histories.{History, state_of, KeptState, Histories, has_name, place_in, keep_in, with_place, with_live, with_laid, histories_by, keep_answer, known_answer}
use Rattle.history.specs.AfterCalls.{FromStart, HoldsKept, HoldsAt, HasHistories}
use Rattle.states.proofs.Words.{stored_length, stored_live, stored_name, stored_other, stored_copy, stored_others, restored_live, restored_behind, restored_length, freed_length, freed_live, freed_name, freed_other, freed_copies, behind_copies}
use Rattle.laying.specs.Lay.{lay_of}
use Rattle.laying.proofs.Deciding.{refused_leaves, same_laying, same_laid}
use Rattle.laid.specs.Two.{OfTwo}
use Rattle.laid.proofs.Two.{two_drawings}
use Rattle.history.proofs.Exactly.{fourteen, fifteen}
use Rattle.history.proofs.Names.{place_agrees, keep_agrees, apart_but, kept_once}

-- the part that every call is shown to keep; the rest of `HasHistories` follows
pub record Stands (b : Histories) (w : List ℕ) : Type 0 where
  pub usable : Usable w
  pub live : block_of w ≡ block_of (state_of b.live)
  pub came : FromStart b.live
  pub places : (p : ℕ) → p < STATES → HoldsAt w p (b.places p)

-- what the steps of a history leave passes the tests
pub state_usable : (h : History) → FromStart h → Usable (state_of h)
state_usable h c = handed_usable (state_of h) (c.demand_3.after_every_list h.steps).tests_pass

-- a place that was not touched
still_holds : (w u : List ℕ) (p : ℕ) (x : Option KeptState) → name_at u p ≡ name_at w p → kept_block u p ≡ kept_block w p → HoldsAt w p x → HoldsAt u p x
still_holds w u p none e f h = ap is_name e ∙ h
still_holds w u p (some k) e f h = record { name = e ∙ h.name; byte = h.byte; block = f ∙ h.block; came = h.came }

holds_behind : (w u : List ℕ) → drop BLOCK u ≡ drop BLOCK w → (p : ℕ) (x : Option KeptState) → HoldsAt w p x → HoldsAt u p x
holds_behind w u e p x h = still_holds w u p x (behind_names w u e p) (behind_copies w u e p) h

-- a live block that is sound elsewhere
sound_there : (w u : List ℕ) → LENGTH ≤ length w → LENGTH ≤ length u → block_of u ≡ block_of w → Sound (view w) → Sound (view u)
sound_there w u l k e s = subst Sound (sym (same_view u w (omega arith) (omega arith) e)) s

-- and boxed there
boxed_there : (w u : List ℕ) → Usable w → LENGTH ≤ length u → block_of u ≡ block_of w → (i : ℕ) → i < records_of u → Boxed u i
boxed_there w u f k e i l =
    let v : records_of u ≡ records_of w = ap (λ (s : Store). recs s) (same_view u w (omega arith) (omega (arith, f.long)) e) in
    same_boxed u w (omega arith) (omega (arith, f.long)) e i (omega (arith, f.sound.few_records)) (f.boxed i (omega arith))

-- ---- what the calls come to

module _ (b : Histories) (w : List ℕ) (H : Stands b w) where
  passes : handed_of w ≡ Ok tt
  passes = usable_handed w H.usable

  module _ (n : Name) where
    keep_is : keep_of w n.number ≡ keep_at w (keep_in b n.number) n.number
    unfolding keep_of
    keep_is = ap (λ (v : Result (Unit {0}) Refusal). keep_by v w n.number) passes ∙ ap (λ (p : ℕ). keep_at w p n.number) (keep_agrees b w H.places n.number n.low)

    back_is : go_back_of w n.number ≡ back_at w (place_in b n.number)
    unfolding go_back_of
    back_is = ap (λ (v : Result (Unit {0}) Refusal). back_by v w n.number) passes ∙ ap (back_at w) (place_agrees b w H.places n.number n.low)

    drop_is : drop_of w n.number ≡ drop_at w (place_in b n.number)
    unfolding drop_of
    drop_is = ap (λ (v : Result (Unit {0}) Refusal). drop_by v w n.number) passes ∙ ap (drop_at w) (place_agrees b w H.places n.number n.low)

  by_place : (c : Bool) (u : List ℕ) (a : Result (Unit {0}) Refusal) → (cond c (left (Ok tt) u) (left a w)).answer ≡ cond c (Ok tt) a
  by_place true u a = refl
  by_place false u a = refl

  same_store : view w ≡ view (state_of b.live)
  same_store = same_view w (state_of b.live) (omega (arith, H.usable.long)) (omega (arith, (state_usable b.live H.came).long)) H.live

  same_reason : (i : ℕ) → reason_of w i ≡ reason_of (state_of b.live) i
  unfolding reason_of
  same_reason i =
      ap (λ (v : Result (Unit {0}) Refusal). reason_by v w i) passes
      ∙ ap (λ (s : Store). cond (not (ltb i (recs s)) || any_live s) (Err OutOfTurn) (Ok (reason_at s i))) same_store
      ∙ sym (ap (λ (v : Result (Unit {0}) Refusal). reason_by v (state_of b.live) i) (usable_handed (state_of b.live) (state_usable b.live H.came)))

  same_lays : (v : List ℕ) → (lay_of w v).answer ≡ (lay_of (state_of b.live) v).answer
  same_lays v = same_laying w (state_of b.live) v H.usable (state_usable b.live H.came) H.live same_store

  keep_answer_lem : (n : Name) → (keep_of w n.number).answer ≡ keep_answer b n.number
  keep_answer_lem n = ap (λ (x : Left). x.answer) (keep_is n) ∙ by_place (ltb (keep_in b n.number) STATES) (stored w (keep_in b n.number) n.number) (Err NoPlace)

  back_answer : (n : Name) → (go_back_of w n.number).answer ≡ known_answer b n.number
  back_answer n = ap (λ (x : Left). x.answer) (back_is n) ∙ by_place (ltb (place_in b n.number) STATES) (restored w (place_in b n.number)) (Err UnknownName)

  drop_answer : (n : Name) → (drop_of w n.number).answer ≡ known_answer b n.number
  drop_answer n = ap (λ (x : Left). x.answer) (drop_is n) ∙ by_place (ltb (place_in b n.number) STATES) (freed w (place_in b n.number)) (Err UnknownName)

  pub has_histories : HasHistories b w
  has_histories =
      record {
        live = H.live;
        came = H.came;
        store = same_store;
        places = H.places;
        passes = passes;
        steps = same_answer w (state_of b.live) H.usable (state_usable b.live H.came) H.live;
        writings = same_write w (state_of b.live) H.usable (state_usable b.live H.came) H.live;
        reasons = same_reason;
        layings = same_lays;
        keeping = keep_answer_lem;
        going_back = back_answer;
        dropping = drop_answer;
        fifteen = λ n. (λ e. (fifteen b n.number).0 (sym (keep_answer_lem n) ∙ e), λ h. keep_answer_lem n ∙ (fifteen b n.number).1 h);
        fourteen_back = λ n. (λ e. (fourteen b n.number).0 (sym (back_answer n) ∙ e), λ h. back_answer n ∙ (fourteen b n.number).1 h);
        fourteen_drop = λ n. (λ e. (fourteen b n.number).0 (sym (drop_answer n) ∙ e), λ h. drop_answer n ∙ (fourteen b n.number).1 h);
      }

  -- ---- a step

  stepped : (i : ℕ) → Stands (histories_by b (step_on i)) (step_of w i).words
  unfolding histories_by
  stepped i =
      record {
        usable = call_usable w H.usable i;
        live = same_live w (state_of b.live) H.usable (state_usable b.live H.came) H.live i ∙ ap block_of (sym (run_both b.live.start b.live.steps (i ∷ [])));
        came = record { from = H.came.from; demand_3 = H.came.demand_3 };
        places = λ p l. holds_behind w (step_of w i).words (call_behind w i) p (b.places p) (H.places p l);
      }

  -- ---- keeping

  module _ (n : Name) (q : ℕ) (l : q < STATES) (k : q ≡ keep_in b n.number) where
    abbrev entry : KeptState
    entry = record { name = n.number; history = b.live }

    at_place : q ≡ keep_place w n.number
    at_place = k ∙ sym (keep_agrees b w H.places n.number n.low)

    kept_apart : Apart (stored w q n.number)
    kept_apart =
        apart_but w (stored w q n.number) q (stored_other w H.usable.long q l n.number)
        (λ t j h d e. kept_once w H.usable.apart n.number n.low j h (λ z. d (z ∙ sym at_place)) (e ∙ stored_name w H.usable.long q l n.number))
        H.usable.apart

    kept : Stands (with_place b q (some entry)) (stored w q n.number)
    kept =
        record {
          usable =
              record {
                long = omega (arith, stored_length w H.usable.long q l n.number, H.usable.long);
                sound = sound_there w (stored w q n.number) H.usable.long (omega (arith, stored_length w H.usable.long q l n.number, H.usable.long)) (stored_live w H.usable.long q l n.number) H.usable.sound;
                boxed = boxed_there w (stored w q n.number) H.usable (omega (arith, stored_length w H.usable.long q l n.number, H.usable.long)) (stored_live w H.usable.long q l n.number);
                apart = kept_apart;
              };
          live = stored_live w H.usable.long q l n.number ∙ H.live;
          came = H.came;
          places = λ j h. place j h (eqb j q) refl;
        }
      where
        here : HoldsKept (stored w q n.number) q entry
        here = record { name = stored_name w H.usable.long q l n.number; byte = n.low; block = stored_copy w H.usable.long q l n.number ∙ H.live; came = H.came }

        place : (j : ℕ) → j < STATES → (c : Bool) → eqb j q ≡ c → HoldsAt (stored w q n.number) j (cond c (some entry) (b.places j))
        place j h true e = subst (λ (p : ℕ). HoldsKept (stored w q n.number) p entry) (sym (eqb-true j q e)) here
        place j h false e =
            let d : j ≢ q = eqb-false j q e in
            still_holds w (stored w q n.number) j (b.places j) (stored_other w H.usable.long q l n.number j h d) (stored_others w H.usable.long q l n.number j h d) (H.places j h)

  keeps : (n : Name) → Stands (histories_by b (keep_as n)) (keep_of w n.number).words
  unfolding histories_by
  keeps n = subst (λ (x : Left). Stands (cond (ltb (keep_in b n.number) STATES) (with_place b (keep_in b n.number) (some (record { name = n.number; history = b.live }))) b) x.words) (sym (keep_is n)) (go (ltb (keep_in b n.number) STATES) refl)
    where
      go : (c : Bool) → ltb (keep_in b n.number) STATES ≡ c → Stands (cond c (with_place b (keep_in b n.number) (some (record { name = n.number; history = b.live }))) b) (cond c (left (Ok tt) (stored w (keep_in b n.number) n.number)) (left (Err NoPlace) w)).words
      go true e = kept n (keep_in b n.number) (ltb-true (keep_in b n.number) STATES e) refl
      go false e = H

  -- ---- going back

  module _ (p : ℕ) (l : p < STATES) where
    returned : (k : KeptState) → HoldsKept w p k → Stands (record { live = k.history; places = b.places }) (restored w p)
    returned k r =
        let m : LENGTH ≤ length (restored w p) = omega (arith, restored_length w H.usable.long p l, H.usable.long) in
        let e : block_of (restored w p) ≡ block_of (state_of k.history) = restored_live w H.usable.long p l ∙ r.block in
        let f : Usable (state_of k.history) = state_usable k.history r.came in
        let d : drop BLOCK (restored w p) ≡ drop BLOCK w = restored_behind w H.usable.long p l in
        record {
          usable = record { long = m; sound = sound_there (state_of k.history) (restored w p) f.long m e f.sound; boxed = boxed_there (state_of k.history) (restored w p) f m e; apart = same_apart w (restored w p) (behind_names w (restored w p) d) H.usable.apart };
          live = e;
          came = r.came;
          places = λ q h. holds_behind w (restored w p) d q (b.places q) (H.places q h);
        }

    went : (n : ℕ) → has_name n (b.places p) ≡ true → Stands (with_live b (b.places p)) (restored w p)
    went n t = go (b.places p) t (H.places p l)
      where
        go : (x : Option KeptState) → has_name n x ≡ true → HoldsAt w p x → Stands (with_live b x) (restored w p)
        go none e h = absurd (let z : ◌≡◌ {A = ℕ} 0 1 = cc in omega arith)
        go (some k) e h = returned k h

  backs : (n : Name) → Stands (histories_by b (back_to n)) (go_back_of w n.number).words
  unfolding histories_by
  backs n = subst (λ (x : Left). Stands (cond (ltb (place_in b n.number) STATES) (with_live b (b.places (place_in b n.number))) b) x.words) (sym (back_is n)) (go (ltb (place_in b n.number) STATES) refl)
    where
      go : (c : Bool) → ltb (place_in b n.number) STATES ≡ c → Stands (cond c (with_live b (b.places (place_in b n.number))) b) (cond c (left (Ok tt) (restored w (place_in b n.number))) (left (Err UnknownName) w)).words
      go true e =
          let l : place_in b n.number < STATES = ltb-true (place_in b n.number) STATES e in
          went (place_in b n.number) l n.number (first_hits (λ p. has_name n.number (b.places p)) STATES 0 (omega arith))
      go false e = H

  -- ---- dropping

  module _ (p : ℕ) (l : p < STATES) where
    dropped : Stands (with_place b p none) (freed w p)
    dropped =
        let m : LENGTH ≤ length (freed w p) = omega (arith, freed_length w H.usable.long p l, H.usable.long) in
        record {
          usable = record { long = m; sound = sound_there w (freed w p) H.usable.long m (freed_live w H.usable.long p l) H.usable.sound; boxed = boxed_there w (freed w p) H.usable m (freed_live w H.usable.long p l); apart = apart_but w (freed w p) p (λ j h d. freed_other w H.usable.long p l j d) (λ t. absurd (not_named t)) H.usable.apart };
          live = freed_live w H.usable.long p l ∙ H.live;
          came = H.came;
          places = λ j h. place j h (eqb j p) refl;
        }
      where
        not_named : is_name (name_at (freed w p) p) ≡ true → ⊥
        not_named t = let z : is_name 0 ≡ true = sym (ap is_name (freed_name w H.usable.long p l)) ∙ t in let y : ◌≡◌ {A = ℕ} 0 1 = cc in omega arith

        place : (j : ℕ) → j < STATES → (c : Bool) → eqb j p ≡ c → HoldsAt (freed w p) j (cond c none (b.places j))
        place j h true e = ap is_name (ap (name_at (freed w p)) (eqb-true j p e) ∙ freed_name w H.usable.long p l)
        place j h false e = still_holds w (freed w p) j (b.places j) (freed_other w H.usable.long p l j (eqb-false j p e)) (freed_copies w H.usable.long p l j) (H.places j h)

  drops : (n : Name) → Stands (histories_by b (drop_name n)) (drop_of w n.number).words
  unfolding histories_by
  drops n = subst (λ (x : Left). Stands (cond (ltb (place_in b n.number) STATES) (with_place b (place_in b n.number) none) b) x.words) (sym (drop_is n)) (go (ltb (place_in b n.number) STATES) refl)
    where
      go : (c : Bool) → ltb (place_in b n.number) STATES ≡ c → Stands (cond c (with_place b (place_in b n.number) none) b) (cond c (left (Ok tt) (freed w (place_in b n.number))) (left (Err UnknownName) w)).words
      go true e = dropped (place_in b n.number) (ltb-true (place_in b n.number) STATES e)
      go false e = H

  -- ---- laying together

  lays : (v : List ℕ) → Stands (histories_by b (lay_with v)) (lay_of w v).words
  unfolding histories_by
  lays v = go (lay_of (state_of b.live) v).answer refl
    where
      go : (r : Result (Unit {0}) Refusal) → (lay_of (state_of b.live) v).answer ≡ r → Stands (with_laid b r (lay_of (state_of b.live) v).words) (lay_of w v).words
      go (Err x) e = subst (Stands b) (sym (refused_leaves w v x (same_lays v ∙ e))) H
      go (Ok _) e =
          let s : OfTwo (state_of b.live) v (lay_of (state_of b.live) v).words = (two_drawings (state_of b.live) v).together e in
          let t : OfTwo w v (lay_of w v).words = (two_drawings w v).together (same_lays v ∙ e) in
          record {
            usable = start_usable (lay_of w v).words t.both;
            live = same_laid w (state_of b.live) v H.usable (state_usable b.live H.came) H.live same_store;
            came = record { from = s.both; demand_3 = s.holds };
            places = λ p l. holds_behind w (lay_of w v).words t.behind p (b.places p) (H.places p l);
          }

  -- ---- every call

  pub holds_by : (c : Call) → Stands (histories_by b c) (words_by w c)
  unfolding histories_by
  holds_by (step_on i) = stepped i
  holds_by (write_to t) = H
  holds_by (ask_of i) = H
  holds_by (keep_as n) = keeps n
  holds_by (back_to n) = backs n
  holds_by (drop_name n) = drops n
  holds_by (lay_with v) = lays v

-- a work space that has its histories stands so
pub stands : (b : Histories) (w : List ℕ) → HasHistories b w → Stands b w
stands b w h = record { usable = handed_usable w h.passes; live = h.live; came = h.came; places = h.places }
