-- Ask 12, of every job: what the answers are about, and when they are given.
use Prim.Native.Nat.{ℕ, ◌-◌, ◌*◌, ◌≤◌, ◌<◌}
use mathlib.Core.Path.{◌≡◌, refl, sym, ap, ◌∙◌, subst}
use mathlib.Core.Bool.{Bool, true, false, cond}
use mathlib.Core.List.{List, map}
use native.Mathlib.Omega.{arith}
use native.Mathlib.Nat.{mul-le-mul_left, mul-le-mul_right, le_trans}
use lib.Dec.{leb}
use lib.ListN.{length, take, replicate, length-append}
use borrow.Author.Tests.{le-leb, lt-leb}
use Rattle.geometry.specs.declared.Point.{Point}
use Rattle.job.specs.Limits.{RECORDS}
use Rattle.store.specs.Words.{view}
use Rattle.std.specs.Prelude.{Result, Ok, Err}
use Rattle.job.specs.declared.refusal.Refusal.{Refusal}
use Rattle.paths.specs.Wrote.{ok_paths}
use Rattle.paths.specs.declared.Written.{Written}
use Rattle.paths.specs.Path.{closed_paths}
use Rattle.paths.specs.Tray.{padded}
use Rattle.listing.specs.Fields.{as_words, paths_in}
use Rattle.finishing.specs.InOneCall.{Finished, finished, finish_of}
use Rattle.prefix.specs.Decides.{DECIDES}
use Rattle.prefix.proofs.Decided.{finish_decided}
use Rattle.containment.specs.Answers.{pair_answers, pair_count}
use Rattle.containment.specs.Contained.{Contained, contained, short_slice, after_finishing, contained_from, contained_of, ANSWERS}
use Rattle.containment.specs.LiesIn.{LiesIn}
use Rattle.containment.specs.Needs.{AnswersWithin}
use Rattle.containment.proofs.Rows.{pairs_length}
use Rattle.containment.proofs.Depths.{answers_words}
use Rattle.containment.proofs.Finishing.{closed_count, closed_few, closed_are}

few_suffice : (c : ℕ) → c ≤ RECORDS → pair_count c ≤ ANSWERS
few_suffice c h =
    let z : c - 1 ≤ RECORDS - 1 = omega arith in
    le_trans (mul-le-mul_right (c - 1) h) (mul-le-mul_left RECORDS z)

module _ (bytes lent t : List ℕ) (k : ℕ) where
  by_answer : (r : Result Written Refusal) → (finish_of bytes lent t).answer ≡ r → contained_of bytes lent t k ≡ after_finishing r (finish_of bytes lent t).words (finish_of bytes lent t).tray k
  unfolding contained_of
  by_answer r e = ap (λ (x : Result Written Refusal). after_finishing x (finish_of bytes lent t).words (finish_of bytes lent t).tray k) e

  module _ (c o : ℕ) (e : (finish_of bytes lent t).answer ≡ ok_paths c o) where
    out : finished (ok_paths c o) (finish_of bytes lent t).words (finish_of bytes lent t).tray ≡ finish_of bytes lent t
    out = ap (λ (x : Result Written Refusal). finished x (finish_of bytes lent t).words (finish_of bytes lent t).tray) (sym e)

    in_tray : paths_in (finish_of bytes lent t).tray c 0 ≡ map (map as_words) (closed_paths (view (finish_of bytes lent t).words))
    in_tray = closed_are c o (finish_of bytes lent t).words (finish_of bytes lent t).tray t bytes lent out

    short : k < pair_count c → contained_of bytes lent t k ≡ short_slice (length (finish_of bytes lent t).words) (length (finish_of bytes lent t).tray) k
    short h =
        let p = pair_answers (paths_in (finish_of bytes lent t).tray c 0) in
        by_answer (ok_paths c o) e ∙ rw (lt-leb (length p) k (omega (arith, h, pairs_length (finish_of bytes lent t).tray c)))

    given : pair_count c ≤ k
        → contained_of bytes lent t k ≡ contained (ok_paths c o) (finish_of bytes lent t).words (finish_of bytes lent t).tray (padded k (pair_answers (closed_paths (view (finish_of bytes lent t).words))))
    given h =
        let p = pair_answers (paths_in (finish_of bytes lent t).tray c 0) in
        by_answer (ok_paths c o) e
        ∙ rw (le-leb (length p) k (omega (arith, h, pairs_length (finish_of bytes lent t).tray c)))
        (ap (λ (l : List (List Point)). contained (ok_paths c o) (finish_of bytes lent t).words (finish_of bytes lent t).tray (padded k (pair_answers l))) in_tray
        ∙ ap (λ (l : List ℕ). contained (ok_paths c o) (finish_of bytes lent t).words (finish_of bytes lent t).tray (padded k l)) (answers_words (closed_paths (view (finish_of bytes lent t).words))))

  decided : contained_of (take DECIDES bytes) lent t k ≡ contained_of bytes lent t k
  unfolding contained_of
  decided = ap (λ (g : Finished). contained_from g k) (finish_decided bytes lent t)

  pub lies_in : LiesIn bytes lent t k
  lies_in =
      record {
        refused = λ x e. by_answer (Err x) e;
        short = λ c o e h. short c o e h;
        given = λ c o e h. given c o e h;
        in_tray = λ c o e. in_tray c o e;
        as_many = λ c o e. closed_count c o (finish_of bytes lent t).words (finish_of bytes lent t).tray t bytes lent (out c o e);
        suffices = λ c o e. few_suffice c (closed_few c o (finish_of bytes lent t).words (finish_of bytes lent t).tray t bytes lent (out c o e));
        decided = decided;
      }

  -- for programs: the answers are in the slice
  within_of : (r : Result Written Refusal) → (finish_of bytes lent t).answer ≡ r → AnswersWithin (after_finishing r (finish_of bytes lent t).words (finish_of bytes lent t).tray k).answer (length (after_finishing r (finish_of bytes lent t).words (finish_of bytes lent t).tray k).answers)
  within_of (Err x) e = tt
  within_of (Ok ps) e = go (leb (length p) k) refl
    where
      p : List ℕ
      p = pair_answers (paths_in (finish_of bytes lent t).tray ps.closed 0)

      few : ps.closed ≤ RECORDS
      few = closed_few ps.closed ps.«open» (finish_of bytes lent t).words (finish_of bytes lent t).tray t bytes lent (out ps.closed ps.«open» e)

      go : (b : Bool) → leb (length p) k ≡ b
          → AnswersWithin (cond b (contained (Ok ps) (finish_of bytes lent t).words (finish_of bytes lent t).tray (padded k p)) (short_slice (length (finish_of bytes lent t).words) (length (finish_of bytes lent t).tray) k)).answer
          (length (cond b (contained (Ok ps) (finish_of bytes lent t).words (finish_of bytes lent t).tray (padded k p)) (short_slice (length (finish_of bytes lent t).words) (length (finish_of bytes lent t).tray) k)).answers)
      go true h = (few, omega (arith, pairs_length (finish_of bytes lent t).tray ps.closed, length-append p (replicate (k - length p) 0)))
      go false h = tt

  pub answers_within : (r : Result Written Refusal) (w' t' a' : List ℕ) → contained r w' t' a' ≡ contained_of bytes lent t k → AnswersWithin r (length a')
  answers_within r w' t' a' e =
      subst (λ (x : Contained). AnswersWithin x.answer (length x.answers)) (sym (e ∙ by_answer (finish_of bytes lent t).answer refl)) (within_of (finish_of bytes lent t).answer refl)

-- the part of a slice that has so many bytes
pub part_within : (p : Written) (m : ℕ) (a : List ℕ) (r : Result Written Refusal) → AnswersWithin r (length a) → r ≡ Ok p → m ≡ pair_count p.closed → m ≤ length a
part_within p m a r h e f = let x = subst (λ (y : Result Written Refusal). AnswersWithin y (length a)) e h in omega (arith, f, x.1)

pub few_paths : (p : Written) (a : List ℕ) (r : Result Written Refusal) → AnswersWithin r (length a) → r ≡ Ok p → p.closed ≤ RECORDS
few_paths p a r h e = (subst (λ (y : Result Written Refusal). AnswersWithin y (length a)) e h).0
