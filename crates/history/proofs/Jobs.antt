-- Of every job that opening accepts, and of every job that finishing in one call gives paths of: after any list of calls, requests 5 and 6 and demand 3's orders.
use Prim.Native.Nat.{ℕ, ◌<◌}
use mathlib.Core.Path.{◌≡◌, refl, ap, ◌∙◌, sym, subst}
use mathlib.Core.Logic.{◌⊎◌, inl, inr}
use mathlib.Core.Bool.{true, false}
use mathlib.Core.List.{List, [], ◌∷◌, ◌++◌, map, append-nil, append_assoc}
use lib.ListN.{drop}
use Rattle.rings.specs.Progress.{triangle}
use Rattle.store.specs.Field.{BLOCK}
use Rattle.store.specs.Words.{Store, view}
use Rattle.store.specs.Sound.{recs, is_open, due_at, Closed}
use Rattle.store.specs.States.{is_name, block_of}
use Rattle.handed.specs.Handed.{handed_of}
use Rattle.handed.proofs.Handing.{handed_usable}
use Rattle.steps.specs.Live.{any_live}
use Rattle.std.specs.Prelude.{Result, Ok}
use Rattle.job.specs.declared.refusal.Refusal.{Refusal}
use Rattle.paths.specs.Wrote.{ok_paths}
use Rattle.paths.specs.declared.Written.{Written}
use Rattle.telling.specs.Telling.{reason_at, reason_of}
use Rattle.opening.specs.Open.{end, open_of}
use Rattle.opening.proofs.Behind.{open_free, open_rest}
use Rattle.finishing.specs.InOneCall.{finished, finish_of}
use Rattle.finishing.specs.Run.{run_of}
use Rattle.finishing.specs.Start.{Start}
use Rattle.finishing.specs.Step.{step_of}
use Rattle.finishing.proofs.Blocks.{behind_names}
use Rattle.finishing.proofs.Starting.{start_usable}
use Rattle.finishing.proofs.InOneCall.{opening_left}
use Rattle.order.specs.Calls.{Call, step_on}
use Rattle.order.specs.Demand3.{AllDoneAfter, SameEnd, RingsFit, RingsNeverEnd}
use Rattle.order.proofs.Jobs.{of_job, accepted, words_are}
use Rattle.order.proofs.Leaving.{finish_rest}
use Rattle.order.proofs.Theorem.{demand_3}
use Rattle.tidied.specs.Tidied.{PassBehind}
use Rattle.tidied.proofs.Theorem.{nothing_left}
use Rattle.ended.specs.Alike.{SameReasons}
use Rattle.ended.specs.Ended.{OfOpen, Ended, ToldRight}
use Rattle.ended.specs.Stages.{Stages}
use Rattle.ended.proofs.Alike.{same_reasons}
use Rattle.ended.proofs.Opened.{stages}
use Rattle.ended.proofs.Told.{tells}
use Rattle.history.specs.Histories.{History, Histories, histories_by, histories_after, keeping_none, led, start_after, begun}
use Rattle.history.specs.AfterCalls.{AfterCalls}
use Rattle.history.specs.Jobs.{SameShapes, store_after, ToldAfter, CallsFit, CallsNeverEnd, JobAfterCalls, JobThen, FinishedThen}
use Rattle.history.proofs.Theorem.{after_calls}

-- ---- further steps

steps_on : (is : List ℕ) (b : Histories) → (histories_after b (map step_on is)).live.steps ≡ b.live.steps ++ is
unfolding histories_by
steps_on [] b = sym (append-nil b.live.steps)
steps_on (i ∷ is) b = steps_on is (histories_by b (step_on i)) ∙ append_assoc b.live.steps (i ∷ []) is

after_both : (cs ds : List Call) (b : Histories) → histories_after b (cs ++ ds) ≡ histories_after (histories_after b cs) ds
after_both [] ds b = refl
after_both (c ∷ cs) ds b = after_both cs ds (histories_by b c)

led_both : (h : History) (cs : List Call) (is : List ℕ) → led h (cs ++ map step_on is) ≡ led h cs ++ is
led_both h cs is = ap (λ (b : Histories). b.live.steps) (after_both cs (map step_on is) (keeping_none h)) ∙ steps_on is (histories_after (keeping_none h) cs)

start_on : (is : List ℕ) (b : Histories) → (histories_after b (map step_on is)).live.start ≡ b.live.start
unfolding histories_by
start_on [] b = refl
start_on (i ∷ is) b = start_on is (histories_by b (step_on i))

start_both : (h : History) (cs : List Call) (is : List ℕ) → start_after h (cs ++ map step_on is) ≡ start_after h cs
start_both h cs is = ap (λ (b : Histories). b.live.start) (after_both cs (map step_on is) (keeping_none h)) ∙ start_on is (histories_after (keeping_none h) cs)

-- ---- of a history of an accepted job, from what opening left

module _ (bytes lent w : List ℕ) (f : open_of bytes lent ≡ end (Ok tt) w) (is : List ℕ) (u : List ℕ) (a : AfterCalls (record { start = w; steps = is }) u) where
  abbrev h : History
  h = record { start = w; steps = is }

  abbrev o : Start w
  o = opening_left bytes lent w f

  abbrev t : Stages bytes lent w
  t = stages bytes lent w f

  -- the words show the store that the steps leave, from the start that they lead from
  shows : (cs : List Call) → store_after h u cs ≡ view (run_of (start_after h cs) (led h cs))
  shows cs = (a.after_every_list cs).store

  shows_from : (s : List ℕ) (cs : List Call) → start_after h cs ≡ s → store_after h u cs ≡ view (run_of s (led h cs))
  shows_from s cs p = shows cs ∙ ap (λ (x : List ℕ). view (run_of x (led h cs))) p

  came : (cs : List Call) → Start (start_after h cs)
  came cs = (a.after_every_list cs).came.from

  told : (cs : List Call) → start_after h cs ≡ w → (j : ℕ) → j < recs (store_after h u cs) → any_live (store_after h u cs) ≡ false → ToldAfter h u bytes lent t cs j
  told cs p j l d =
      let z : store_after h u cs ≡ view (run_of w (led h cs)) = shows_from w cs p in
      let r : ToldRight bytes lent w t (led h cs) j = tells bytes lent w f (led h cs) j (subst (λ (s : Store). j < recs s) z l) (subst (λ (s : Store). any_live s ≡ false) z d) in
      record {
        call = (a.after_every_list cs).reasons j ∙ ap (λ (s : List ℕ). reason_of (run_of s (led h cs)) j) p ∙ r.call ∙ ap (λ (s : Store). Ok (reason_at s j)) (sym z);
        told = subst (λ (s : Store). Ended bytes lent w t (led h cs) j (reason_at s j)) (sym z) r.told;
        only = λ x y. r.only x y ∙ ap (λ (s : Store). reason_at s j) (sym z);
        opened = λ x. subst (λ (s : Store). OfOpen (reason_at s j)) (sym z) (r.opened (subst (λ (s : Store). is_open s j ≡ true) z x));
      }

  tidy : (cs : List Call) (j : ℕ) → Closed (store_after h u cs) j → due_at (store_after h u cs) j ≡ triangle → PassBehind (start_after h cs) (led h cs) j
  tidy cs j c d = nothing_left (start_after h cs) (came cs) (led h cs) j (subst (λ (s : Store). Closed s j) (shows cs) c) (subst (λ (s : Store). due_at s j ≡ triangle) (shows cs) d)

  over : (s : List ℕ) (cs : List Call) → start_after h cs ≡ s → any_live (store_after h u cs) ≡ false → AllDoneAfter s (led h cs)
  over s cs p d = subst (λ (x : List ℕ). AllDoneAfter x (led h cs)) p (((a.after_every_list cs).came.demand_3.after_every_list (led h cs)).all_done.0 (subst (λ (x : Store). any_live x ≡ false) (shows cs) d))

  same : (cs ds : List Call) → start_after h cs ≡ start_after h ds → any_live (store_after h u cs) ≡ false → any_live (store_after h u ds) ≡ false → SameShapes (start_after h cs) (store_after h u cs) (store_after h u ds)
  same cs ds p c d =
      let s : List ℕ = start_after h cs in
      let x : SameEnd s (led h cs) (led h ds) = (a.after_every_list cs).came.demand_3.whatever_order (led h cs) (led h ds) (over s cs refl c) (over s ds (sym p) d) in
      let y : SameReasons s (led h cs) (led h ds) = same_reasons s (came cs) (led h cs) (led h ds) (over s cs refl c) (over s ds (sym p) d) in
      subst (λ (z : Store). SameShapes s z (store_after h u ds)) (sym (shows cs))
      (subst (SameShapes s (view (run_of s (led h cs)))) (sym (shows_from s ds (sym p)))
      (record { points_used = x.points_used; records_used = x.records_used; rings = x.rings; open_rings = x.open_rings; reasons = y.records; offcut_reasons = y.offcuts }))

  ended : (cs : List Call) (js : List ℕ) → AllDoneAfter (start_after h cs) (led h cs ++ js) → any_live (store_after h u (cs ++ map step_on js)) ≡ false
  ended cs js d =
      ap any_live (shows_from (start_after h cs) (cs ++ map step_on js) (start_both h cs js))
      ∙ ap (λ (l : List ℕ). any_live (view (run_of (start_after h cs) l))) (led_both h cs js)
      ∙ ((a.after_every_list cs).came.demand_3.after_every_list (led h cs ++ js)).all_done.1 d

  fits : (s : List ℕ) → RingsFit s → CallsFit h u s
  fits s r =
      record {
        never_full = λ cs p i e. r.never_full (led h cs) i (ap (λ (x : List ℕ). (step_of (run_of x (led h cs)) i).answer) (sym p) ∙ sym ((a.after_every_list cs).steps i) ∙ e);
        goes_on = λ cs p. ((r.goes_on (led h cs)).0, ended cs (r.goes_on (led h cs)).0 (subst (λ (x : List ℕ). AllDoneAfter x (led h cs ++ (r.goes_on (led h cs)).0)) (sym p) (r.goes_on (led h cs)).1));
      }

  two_ways : (cs : List Call) → CallsFit h u (start_after h cs) ⊎ CallsNeverEnd h u (start_after h cs)
  two_ways cs = go (start_after h cs) (a.after_every_list cs).came.demand_3.either
    where
      go : (s : List ℕ) → RingsFit s ⊎ RingsNeverEnd s → CallsFit h u s ⊎ CallsNeverEnd h u s
      go s (inl r) = inl (fits s r)
      go s (inr n) = inr (λ ds p d. n (led h ds) (over s ds p d))

  pub job_after : JobAfterCalls h u bytes lent t
  job_after = record { after_calls = a; told = told; tidy = tidy; whatever_order = same; either = two_ways }

-- ---- "A newly opened job has no name kept, whatever the work space held before"

module _ (bytes lent w : List ℕ) (f : open_of bytes lent ≡ end (Ok tt) w) where
  begins : AfterCalls (begun w) w
  begins =
      let o : Start w = opening_left bytes lent w f in
      after_calls (begun w) w o (start_usable w o) refl (λ p l. ap is_name (open_free bytes lent w f p l))

  pub opened_then : JobThen bytes lent (begun w) w
  opened_then = record { opened = f; stages = stages bytes lent w f; words = refl; further = job_after bytes lent w f [] w begins }

-- ---- and finishing in one call

module _ (bytes lent t : List ℕ) (c o : ℕ) (e : (finish_of bytes lent t).answer ≡ ok_paths c o) where
  abbrev u : List ℕ
  u = (finish_of bytes lent t).words

  given : finished (ok_paths c o) u (finish_of bytes lent t).tray ≡ finish_of bytes lent t
  given = ap (λ (r : Result Written Refusal). finished r u (finish_of bytes lent t).tray) (sym e)

  pub finished_then : FinishedThen bytes lent u
  finished_then =
      let a = accepted bytes lent t u (finish_of bytes lent t).tray c o given in
      let w : u ≡ run_of a.from a.rising.steps = words_are bytes lent t u (finish_of bytes lent t).tray c o given in
      let q : drop BLOCK u ≡ drop BLOCK a.from = finish_rest bytes lent t c o e ∙ sym (open_rest bytes lent a.from a.opens) in
      let k : AfterCalls (record { start = a.from; steps = a.rising.steps }) u =
      after_calls (record { start = a.from; steps = a.rising.steps }) u (opening_left bytes lent a.from a.opens)
      (handed_usable u (ap handed_of w ∙ ((of_job bytes lent a.from a.opens).holds.after_every_list a.rising.steps).tests_pass))
      (ap block_of w) (λ p l. ap is_name (behind_names a.from u q p ∙ open_free bytes lent a.from a.opens p l)) in
      record {
        history = record { start = a.from; steps = a.rising.steps };
        rising = a.rising.rising;
        job = record { opened = a.opens; stages = stages bytes lent a.from a.opens; words = w; further = job_after bytes lent a.from a.opens a.rising.steps u k };
      }
